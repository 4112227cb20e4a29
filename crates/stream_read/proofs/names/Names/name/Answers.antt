use Rattle.std.proofs.Common.{◌≡◌, Some, None, sym, ◌∙◌, ap}
use Rattle.ground_types.specs.Words.{place_in, name_words}
use Rattle.word_table.proofs.LookUps.{declaration_by_place, no_declaration_by_place}
use Rattle.stream_read.proofs.names.Names.name.Goals as goal

pub returns-in_err-place-clause-declared : goal.returns-in_err-place-clause-declared
returns-in_err-place-clause-declared c =
    let program = c.args.self.now.program.now in
    let e : place_in (name_words program.names) c.args.word.now ≡ None =
    sym (c.in_err-place.ensures ∙ ap (λ l. place_in l c.args.word.now) c.args.self.now.placed) in
    rw c.from_residual.ensures (sym (no_declaration_by_place program.names c.args.word.now e))

pub returns-clause-declared : goal.returns-clause-declared
returns-clause-declared c =
    let program = c.args.self.now.program.now in
    let e : place_in (name_words program.names) c.args.word.now ≡ Some c.in_ok-place.place =
    sym (c.in_ok-place.ensures ∙ ap (λ l. place_in l c.args.word.now) c.args.self.now.placed) in
    c.name_at.ensures.at ∙ sym (declaration_by_place program.names c.args.word.now
    c.in_ok-place.place e)
