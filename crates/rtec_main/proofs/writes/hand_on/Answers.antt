use Rattle.std.proofs.Common.{ℕ, List, ◌∙◌, ap, take}
use Rattle.rt_base.specs.Outside.{with_bytes}
use Rattle.rtec_main.specs.Writes.{IsCut}
use Rattle.rtec_main.proofs.Writing.{way_of_front, on_err}
use Rattle.rtec_main.proofs.writes.hand_on.Goals as goal

pub returns-in_err-write_all-clause-err : goal.returns-in_err-write_all-clause-err
returns-in_err-write_all-clause-err g c =
    let old = g.K.Sink.taken c.args.out.now in
    let text = c.args.text.now.items in
    let front = c.in_err-write_all.ensures.err in
    on_err c.from_residual.result (IsCut old (g.K.Sink.taken c.write_all.new.out) text)
    (way_of_front old (g.K.Sink.taken c.write_all.new.out) text front.0
    (front.1 ∙ ap (λ (t : List ℕ). with_bytes (take front.0 t) old) c.deref.ensures.value))
