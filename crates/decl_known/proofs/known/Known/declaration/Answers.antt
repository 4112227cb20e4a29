use Rattle.std.proofs.Common.{◌≡◌, Some, None, sym, ◌∙◌, ap}
use Rattle.ground_types.specs.Words.{place_in, name_words}
use Rattle.word_table.proofs.LookUps.{declaration_by_place, no_declaration_by_place}
use Rattle.decl_known.proofs.known.Known.declaration.Goals as goal

pub returns-in_err-place : goal.returns-in_err-place
returns-in_err-place c =
    let e : place_in (name_words c.args.self.now.names.now) c.args.word.now ≡ None =
    sym (c.in_err-place.ensures ∙ ap (λ l. place_in l c.as_bytes.result.now) c.args.self.now.placed
    ∙ ap (place_in (name_words c.args.self.now.names.now)) (c.as_bytes.ensures.value
    ∙ c.as_str.ensures)) in
    rw c.from_residual.ensures (sym (no_declaration_by_place c.args.self.now.names.now
    c.args.word.now e))

pub returns : goal.returns
returns c =
    let e : place_in (name_words c.args.self.now.names.now) c.args.word.now
    ≡ Some c.in_ok-place.place = sym (c.in_ok-place.ensures
    ∙ ap (λ l. place_in l c.as_bytes.result.now) c.args.self.now.placed
    ∙ ap (place_in (name_words c.args.self.now.names.now)) (c.as_bytes.ensures.value
    ∙ c.as_str.ensures)) in
    c.name_at.ensures ∙ sym (declaration_by_place c.args.self.now.names.now c.args.word.now
    c.in_ok-place.place e)
