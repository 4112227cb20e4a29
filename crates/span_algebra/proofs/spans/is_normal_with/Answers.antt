use Rattle.std.proofs.Common.{arith}
use Rattle.std.proofs.lemmas.Bool.Decides.{nat_tests}
use Rattle.span_algebra.proofs.FirstBad.{normal_with, not_normal_with}
use Rattle.span_algebra.proofs.spans.is_normal_with.Goals as goal

pub returns-else-place-eq0 : goal.returns-else-place-eq0
returns-else-place-eq0 c =
    let with = normal_with c.args.place c.args.list.now _ c.requires.within c.if-place-eq0.false
    c.requires.before c.if-span.true in (
      λ yes. with.0 (grind (arith, nat_tests, yes)),
      λ normal. let above = with.1 normal in
          grind (arith, nat_tests, above),
    )

pub returns-else-span : goal.returns-else-span
returns-else-span c = (
  λ yes. absurd (grind (arith, nat_tests, yes)),
  λ normal.
      absurd (not_normal_with c.args.place c.args.list.now _ c.requires.within c.if-span.false
      normal),
)
