use Rattle.std.proofs.Common.{◌≡◌, true, map, ap, subst, sym, ◌∙◌}
use Rattle.ground_types.specs.Sound.{is_distinct}
use Rattle.ground_types.specs.Words.{name_words}
use Rattle.stream_read.proofs.SoundWords.{distinct_names}
use Rattle.ground_names.proofs.SmallNumbers.{sound_small}
use Rattle.stream_read.proofs.names.Names.new.Goals as goal

pub invariant_of-result : goal.invariant_of-result
invariant_of-result c = record {
  small = sound_small c.args.program.now c.requires;
  placed = c.in_ok-by_word.ensures.distinct
      (subst (λ names. is_distinct (name_words names) ≡ true) (sym c.as_slice.ensures)
      (distinct_names c.args.program.now c.requires)) ∙ ap name_words c.as_slice.ensures;
  listed = c.in_ok-entities.ensures ∙ ap (map (λ domain. domain.entities)) c.as_slice-2.ensures;
}
