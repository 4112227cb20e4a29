-- One more rule in a loop over rules.
use Rattle.std.proofs.Common.{◌≡◌, ℕ, ◌+◌, ◌<◌, ◌≤◌, true, ◌&&◌, Ok, Err, Result, List, length}
use Rattle.std.proofs.Common.{take, get_or, sym, ◌∙◌, ap, ap₂, arith, subst}
use Rattle.std.specs.Prelude.{sum_by}
use Rattle.std.specs.Result.{OnErr}
use Rattle.std.proofs.Math.Bool.{and-true}
use Rattle.std.proofs.lemmas.List.Sums.{sum_by_more, sum_by_more_le}
use Rattle.rt_base.specs.Counted.{Counted}
use Rattle.ground_types.specs.Rows.{points}
use Rattle.ground_types.specs.Truth.{Table, happens}
use Rattle.ground_types.specs.declared.program.Rule.{Rule}
use Rattle.delay_revise.proofs.Alike.{points_alike}

counted_more : (start a b s : ℕ) → b ≡ a + s → start + a + s ≡ start + b
counted_more start a b s is = omega arith

-- the steps of one more rule
pub steps_more : (f : Rule → ℕ) (rules : List Rule) (i : ℕ) (rule : Rule)
    (start before after : Counted) → i < length rules → rule ≡ get_or rules i rule →
    before ≡ record { count = start.count + sum_by f (take i rules); out = start.out } →
    after ≡ record { count = before.count + f rule; out = before.out } →
    after ≡ record { count = start.count + sum_by f (take (i + 1) rules); out = start.out }
steps_more f rules i rule start before after within is old new =
    let more : sum_by f (take (i + 1) rules) ≡ sum_by f (take i rules) + f rule =
    sum_by_more f rules i rule within ∙ ap (λ (r : Rule). sum_by f (take i rules) + f r) (sym is) in
    let count : before.count + f rule ≡ start.count + sum_by f (take (i + 1) rules) =
    ap (λ (c : Counted). c.count + f rule) old ∙ counted_more start.count (sum_by f (take i rules))
    _ (f rule) more in
    new ∙ ap₂ (λ (c o : ℕ). let made : Counted = record { count = c; out = o } in made) count
    (ap (λ (c : Counted). c.out) old)

-- what holds anyhow holds of an error too
pub on_err : {T E P : Type 0} (r : Result T E) → P → OnErr r P
on_err (Ok x) p = tt
on_err (Err e) p = p

at_most : (start sum all before after s : ℕ) → before ≡ start + sum → after ≤ before + s
    → sum + s ≤ all → after ≤ start + all
at_most start sum all before after s is new more = omega arith

-- a rule in the midst takes no more steps than all of them
pub steps_within : (f : Rule → ℕ) (rules : List Rule) (i : ℕ) (rule : Rule)
    (start before : Counted) (after : ℕ) → i < length rules → rule ≡ get_or rules i rule →
    before ≡ record { count = start.count + sum_by f (take i rules); out = start.out }
    → after ≤ before.count + f rule →
    after ≤ start.count + sum_by f rules
steps_within f rules i rule start before after within is old new =
    at_most start.count (sum_by f (take i rules)) (sum_by f rules) before.count after (f rule)
    (ap (λ (c : Counted). c.count) old) new
    (subst (λ (r : Rule). sum_by f (take i rules) + f r ≤ sum_by f rules) (sym is)
    (sum_by_more_le f rules i rule within))

-- where there is no query before, the touched points are all those of the trigger
pub all_open : (table : Table) (rule : Rule) (w q : ℕ) →
    points (λ t. happens table rule.trigger t && true) w q ≡ points (happens table rule.trigger) w q
all_open table rule w q =
    points_alike (λ t. happens table rule.trigger t && true) (happens table rule.trigger) w q
    (λ t low high. and-true (happens table rule.trigger t))

-- the count of one more rule
pub count_more : (f : Rule → ℕ) (rules : List Rule) (i : ℕ) (rule : Rule) (before n : ℕ)
    → i < length rules → rule ≡ get_or rules i rule →
    before ≡ sum_by f (take i rules) → n ≡ f rule → before + n ≡ sum_by f (take (i + 1) rules)
count_more f rules i rule before n within is old this =
    ap₂ (λ (a b : ℕ). a + b) old this ∙ ap (λ (r : Rule). sum_by f (take i rules) + f r) is
    ∙ sym (sum_by_more f rules i rule within)
