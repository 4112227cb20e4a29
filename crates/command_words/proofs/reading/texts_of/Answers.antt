use Rattle.std.proofs.Common.{rules, ◌≡◌, ◌∙◌, ◌+◌, sym, ap, ap₂, subst, ◌∷◌, ◌++◌, [], arith, suc}
use Rattle.std.proofs.Common.{take}
use Rattle.std.specs.Str.{IsUtf8}
use Rattle.std.proofs.lemmas.List.{map-append}
use Rattle.std.proofs.Math.Seq.{take-suc}
use Rattle.std.specs.Borrow.{Bor}
use Rattle.command_words.specs.Words.{Text, texts, AreTexts}
use Rattle.command_words.proofs.Asking.{more_texts}
use Rattle.command_words.proofs.reading.texts_of.Goals as goal

pub loop-word-preserved : goal.loop-word-preserved
loop-word-preserved c =
    let i = c.loop-word.word-index in
    let words = c.args.words.now in
    let word = c.word-item.result in
    let parts : texts c.push.new.self.items ≡ texts c.loop-word.lent.items ++ word ∷ [] =
    ap texts c.in_ok-push.ensures.items
    ∙ map-append (λ (w : Bor Text). w.now) c.loop-word.lent.items (c.text_of.result ∷ [])
    ∙ ap (λ x. texts c.loop-word.lent.items ++ x ∷ []) c.text_of.ensures.is in
    let next : i + 1 ≡ suc i = omega arith in
    record {
      is = parts ∙ ap₂ (λ front x. front ++ x ∷ []) c.loop-word.invariant.is c.word-item.is
          ∙ sym (take-suc words i word (search rules)) ∙ ap (λ n. take n words) (sym next);
      each = subst AreTexts (sym parts) (more_texts (texts c.loop-word.lent.items) word
          c.loop-word.invariant.each (subst IsUtf8 c.text_of.ensures.is c.text_of.ensures.text));
    }
