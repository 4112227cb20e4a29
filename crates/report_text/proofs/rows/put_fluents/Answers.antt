use Rattle.std.proofs.Common.{◌≡◌, ◌++◌, [], ◌∷◌, List, ℕ, length, map, slice_get, take, sym, refl}
use Rattle.std.proofs.Common.{◌∙◌, ap}
use Rattle.std.specs.Prelude.{flat_map, zip}
use Rattle.std.proofs.lemmas.List.{length_push}
use Rattle.std.proofs.lemmas.Slice.Zip.{zip_turn, zip_end}
use Rattle.span_algebra.specs.Normal.{pairs}
use Rattle.text_pieces.specs.Atoms.{unit_atom}
use Rattle.text_pieces.specs.Lines.{text_of_lines}
use Rattle.report_text.specs.Report.{value_words, fluent_lines, behind}
use Rattle.text_pieces.proofs.LineTexts.{zip_push, zip_whole, grown}
use Rattle.report_text.proofs.Leads.{behind_flat}
use Rattle.report_text.proofs.rows.put_fluents.Goals as goal

pub loop-value-preserved : goal.loop-value-preserved
loop-value-preserved c =
    let words : List (List ℕ) = c.value_words.result.now in
    let lines : List ℕ × List (ℕ × ℕ) → List (List ℕ) =
    λ row. behind c.args.lead.now (fluent_lines c.args.q
    (unit_atom c.args.program.now c.args.unit.now) row) in
    let are : words ≡ value_words (slice_get c.args.program.now.names c.args.unit.now.name) =
    c.value_words.ensures in
    let text : List (List ℕ) → ℕ → List ℕ =
    λ words n. c.args.out.now.items ++ text_of_lines
    (flat_map lines (take n (zip words (map pairs c.args.rows.now)))) in
    let turn = zip_turn c.value_words.result.now c.args.rows.now c.loop-value.yielded
    c.into_iter-value-iterator.result c.loop-value.value-iterator c.next.new.self c.next.result
    (cc) (cc) c.loop-value.yielded_by (c.in-Some.value, c.in-Some.spans) c.in-Some.is
    c.next.ensures.steps in
    let more = zip_push lines pairs words c.args.rows.now (length c.loop-value.yielded)
    c.in-Some.value.now c.in-Some.spans.now turn _ (length_push c.loop-value.yielded
    (c.in-Some.value, c.in-Some.spans)) in
    grown c.args.out.now.items _ _ _ _
    (c.loop-value.invariant ∙ ap (λ (w : List (List ℕ)). text w (length c.loop-value.yielded))
    (sym are))
    (c.in_ok-put_fluent.ensures ∙ rw (c.as_str.ensures, c.as_slice.ensures.list) refl)
    ∙ ap (λ (l : List ℕ). c.args.out.now.items ++ l) (sym more)
    ∙ ap (λ (w : List (List ℕ)). text w (length (c.loop-value.yielded ++ (
      c.in-Some.value,
      c.in-Some.spans,
    ) ∷ []))) are

pub returns : goal.returns
returns c =
    let words : List (List ℕ) = c.value_words.result.now in
    let are : words ≡ value_words (slice_get c.args.program.now.names c.args.unit.now.name) =
    c.value_words.ensures in
    let lines : List ℕ × List (ℕ × ℕ) → List (List ℕ) =
    fluent_lines c.args.q (unit_atom c.args.program.now c.args.unit.now) in
    let text : List (List ℕ × List (ℕ × ℕ)) → List ℕ =
    λ rows. c.args.out.now.items ++ text_of_lines
    (flat_map (λ row. behind c.args.lead.now (lines row)) rows) in
    let count = zip_end c.value_words.result.now c.args.rows.now c.loop-value.yielded
    c.into_iter-value-iterator.result c.loop-value.value-iterator c.next.new.self c.next.result
    (cc) (cc) c.loop-value.yielded_by c.in-None.is c.next.ensures.steps in
    c.loop-value.invariant
    ∙ ap (λ (w : List (List ℕ)). text (take (length c.loop-value.yielded)
    (zip w (map pairs c.args.rows.now)))) (sym are)
    ∙ ap text (zip_whole pairs words c.args.rows.now (length c.loop-value.yielded) count)
    ∙ ap (λ (w : List (List ℕ)). text (zip w (map pairs c.args.rows.now))) are
    ∙ ap (λ (l : List (List ℕ)). c.args.out.now.items ++ text_of_lines l)
    (sym (behind_flat c.args.lead.now lines (zip (value_words
    (slice_get c.args.program.now.names c.args.unit.now.name)) (map pairs c.args.rows.now))))
