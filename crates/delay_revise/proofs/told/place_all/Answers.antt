use Rattle.std.proofs.Common.{List, take, subst, sym, arith}
use Rattle.std.proofs.lemmas.List.{take_more}
use Rattle.ground_types.specs.declared.entries.Entry.{Entry}
use Rattle.event_store.specs.declared.told.Told.{Told}
use Rattle.delay_revise.specs.Going.{AreTold}
use Rattle.delay_revise.proofs.told.place_all.Goals as goal

pub returns-in_err-place-clause-told : goal.returns-in_err-place-clause-told
returns-in_err-place-clause-told c = λ store was.
    subst (λ (ahead : List (List Told)). AreTold c.args.program.now
    (take c.loop-placed.placed c.args.history.now) c.args.k store ahead)
    (sym c.in_err-place.ensures.refused) (c.loop-placed.invariant.told store was)

pub loop-placed-preserved : goal.loop-placed-preserved
loop-placed-preserved c = record {
  size = c.in_ok-place.ensures.size;
  most = omega arith;
  told = λ store was. subst (λ (entries : List Entry). AreTold c.args.program.now entries c.args.k
      store c.place.new.ahead)
      (sym (take_more c.args.history.now c.loop-placed.placed _ (omega arith)))
      (c.in_ok-place.ensures.told (take c.loop-placed.placed c.args.history.now) store
      (c.loop-placed.invariant.told store was));
}
