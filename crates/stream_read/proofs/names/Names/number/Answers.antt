use Rattle.std.proofs.Common.{◌+◌, Some, option_map, subst, sym, ap, ◌∙◌, arith}
use Rattle.stream_read.proofs.NamedPlaces.{IsPlace, told_place}
use Rattle.stream_read.proofs.names.Names.number.Goals as goal

told : (c : goal.In_ok-place) → IsPlace c.args.self.now.program.now.domains c.args.name.now
    c.args.fields.now c.requires (Some c.in_ok-place.place)
told c =
    subst (IsPlace c.args.self.now.program.now.domains c.args.name.now c.args.fields.now
    c.requires) (sym c.in_ok-place.ensures)
    (told_place c.args.self.now.program.now.domains c.args.name.now c.args.fields.now c.requires)

pub returns-in_err-place : goal.returns-in_err-place
returns-in_err-place c =
    let all = told_place c.args.self.now.program.now.domains c.args.name.now c.args.fields.now
    c.requires in
    c.from_residual.ensures ∙ ap (option_map (λ n. c.args.name.now.first + n))
    c.in_err-place.ensures ∙ all.is

pub overflow_add-result : goal.overflow_add-result
overflow_add-result c = let small = (told c).fits in omega (arith, small)

pub overflow_cast-result : goal.overflow_cast-result
overflow_cast-result c = let small = (told c).fits in omega (arith, small)

pub returns : goal.returns
returns c = (told c).is
