use Rattle.std.proofs.Common.{arith}
use Rattle.std.proofs.lemmas.Bool.Decides.{nat_tests}
use Rattle.span_algebra.proofs.FirstBad.{rising_with}
use Rattle.span_algebra.proofs.points.rises_with.Goals as goal

pub returns-else-place-eq0 : goal.returns-else-place-eq0
returns-else-place-eq0 c =
    let with = rising_with c.args.place c.args.list.now c.requires.within c.if-place-eq0.false
    c.requires.before in (
      λ yes. with.0 (grind (arith, nat_tests, yes)),
      λ rising. let above = with.1 rising in
          grind (arith, nat_tests, above),
    )
