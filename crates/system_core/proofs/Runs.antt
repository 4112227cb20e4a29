-- Steps one after the other: what each keeps, and what a list of them comes to.
use Rattle.std.proofs.Common.{◌≡◌, ◌≢◌, ℕ, zero, suc, ◌+◌, ◌<◌, ◌≤◌, Bool, true, false, List, []}
use Rattle.std.proofs.Common.{◌∷◌, ◌++◌, length, take, get_or, slice_set, if◌then◌else◌, Option, Some}
use Rattle.std.proofs.Common.{None, Result, Ok, Err, refl, sym, ◌∙◌, ap, ap₂, subst, arith}
use Rattle.std.proofs.Common.{length-append}
use Rattle.std.specs.Prelude.{slice_index, OnErr}
use Rattle.std.specs.List.{list_all}
use Rattle.std.proofs.lemmas.Bool.{and_parts}
use Rattle.std.proofs.lemmas.List.{length-set, take_more}
use Rattle.ground_types.specs.Publication.{publication}
use Rattle.ground_types.specs.declared.program.Program.{Program}
use Rattle.system_core.specs.Core.{Core, Revision, Stepped, stepped, core_after, outcome_of, outcomes}
use Rattle.system_core.specs.Core.{refuse, fed, seal_next, sealed, lowest_unclaimed, claim_unit, claim}
use Rattle.system_core.specs.Core.{finish_unit, finish, turn_layer}
use Rattle.system_core.specs.Core.{turn, published, publish, seal, is_step_of, may_step}
use Rattle.system_core.specs.Core.{may_run, IsMadeAlike, SeenMost, SeesMore, IsAfterSome}
use Rattle.system_core.specs.declared.steps.Outcome.{Outcome}
use Rattle.system_core.specs.declared.steps.Step.{Step}
use Rattle.system_core.specs.declared.steps.Step.TheVariants as step
use Rattle.system_core.specs.declared.steps.StepRefused.{StepRefused}
use Rattle.system_core.specs.declared.steps.StepRefused.TheVariants as refused
use Rattle.system_core.specs.Holding.{DoesOrNot}

-- ---- what each step keeps

-- no reader sees more, and nothing that is published goes
record Keeps (old : Core) (to : Stepped) : Type 0 where
  program : to.0.program ≡ old.program
  cap : to.0.cap ≡ old.cap
  seen : to.0.seen ≡ old.seen
  list : length old.list ≤ length to.0.list

keeps_if : (old : Core) (b : Bool) (one two : Stepped) → Keeps old one → Keeps old two
    → Keeps old (if b then one else two)
keeps_if old true one two first second = first
keeps_if old false one two first second = second

kept : (old : Core) (to : Stepped) → to.0.program ≡ old.program → to.0.cap ≡ old.cap
    → to.0.seen ≡ old.seen → to.0.list ≡ old.list → Keeps old to
kept old to program cap seen list = record {
  program = program;
  cap = cap;
  seen = seen;
  list = omega (arith, ap length list);
}

refuse_keeps : (old : Core) (why : StepRefused) → Keeps old (refuse old why)
refuse_keeps old why = kept old (refuse old why) refl refl refl refl

seal_keeps : (old : Core) (o : Option Revision) → Keeps old (seal old o)
seal_keeps old (Some revision) = refuse_keeps old refused.Busy
seal_keeps old None =
    keeps_if old _ (refuse old refused.LogFull) (seal_next old) (refuse_keeps old refused.LogFull)
    (keeps_if old _ (refuse old refused.NoMoreQueries) (sealed old)
    (refuse_keeps old refused.NoMoreQueries) (kept old (sealed old) refl refl refl refl))

unit_keeps : (old : Core) (revision : Revision) (o : Option ℕ)
    → Keeps old (claim_unit old revision o)
unit_keeps old revision None = refuse_keeps old refused.NoUnit
unit_keeps old revision (Some unit) = kept old (claim_unit old revision (Some unit)) refl refl refl refl

claim_keeps : (old : Core) (o : Option Revision) → Keeps old (claim old o)
claim_keeps old None = refuse_keeps old refused.Idle
claim_keeps old (Some revision) = unit_keeps old revision (lowest_unclaimed old.program revision)

finish_keeps : (old : Core) (o : Option Revision) (unit : ℕ) → Keeps old (finish old o unit)
finish_keeps old None unit = refuse_keeps old refused.Idle
finish_keeps old (Some revision) unit =
    keeps_if old _ (finish_unit old revision unit) (refuse old refused.NotClaimed)
    (kept old (finish_unit old revision unit) refl refl refl refl) (refuse_keeps old refused.NotClaimed)

turn_keeps : (old : Core) (o : Option Revision) → Keeps old (turn old o)
turn_keeps old None = refuse_keeps old refused.Idle
turn_keeps old (Some revision) =
    keeps_if old _ (turn_layer old revision) (refuse old refused.LayersDone)
    (keeps_if old _ _ (refuse old refused.LayerOpen) (kept old _ refl refl refl refl)
    (refuse_keeps old refused.LayerOpen)) (refuse_keeps old refused.LayersDone)

published_keeps : (old : Core) → Keeps old (published old)
published_keeps old = record {
  program = refl;
  cap = refl;
  seen = refl;
  list = omega (
    arith,
    length-append old.list (publication old.program old.history (length old.list) ∷ []),
  );
}

publish_keeps : (old : Core) (o : Option Revision) → Keeps old (publish old o)
publish_keeps old None = refuse_keeps old refused.Idle
publish_keeps old (Some revision) =
    keeps_if old _ (refuse old refused.LayersLeft) (published old)
    (refuse_keeps old refused.LayersLeft) (published_keeps old)

-- program, room and readers stay, and readers see more
pub record GoesOn (old new : Core) : Type 0 where
  pub alike : IsMadeAlike old new
  pub sees : SeenMost old → SeesMore old new

keeping : (old : Core) (to : Stepped) → Keeps old to → GoesOn old to.0
keeping old to k = record {
  alike = record { program = k.program; cap = k.cap; readers = ap length k.seen };
  sees = λ most. record {
    least = λ reader. omega (arith, ap (λ (l : List ℕ). slice_index l reader) k.seen);
    most = λ reader. omega (
      arith,
      ap (λ (l : List ℕ). slice_index l reader) k.seen,
      most reader,
      k.list,
    );
  };
}

set_more : (xs : List ℕ) (i n j : ℕ) → ((k : ℕ) → slice_index xs k ≤ n)
    → (slice_index xs j ≤ slice_index (slice_set xs i n) j)
    × (slice_index (slice_set xs i n) j ≤ n)
set_more [] i n j all = (omega arith, all j)
set_more (x ∷ xs) zero n zero all = (all zero, omega arith)
set_more (x ∷ xs) zero n (suc j) all = (omega arith, all (suc j))
set_more (x ∷ xs) (suc i) n zero all = (omega arith, all zero)
set_more (x ∷ xs) (suc i) n (suc j) all = set_more xs i n j (λ k. all (suc k))

pub step_on : (core : Core) (s : Step) → GoesOn core (stepped core s).0
step_on core (step.Feed feeder act event at) =
    keeping core _ (keeps_if core _ (refuse core refused.LogFull) (fed core feeder act event at)
    (refuse_keeps core refused.LogFull) (kept core (fed core feeder act event at) refl refl refl refl))
step_on core step.Seal = keeping core _ (seal_keeps core core.revision)
step_on core step.Claim = keeping core _ (claim_keeps core core.revision)
step_on core (step.Finish unit) = keeping core _ (finish_keeps core core.revision unit)
step_on core step.Turn = keeping core _ (turn_keeps core core.revision)
step_on core step.Publish = keeping core _ (publish_keeps core core.revision)
step_on core (step.Read reader query) = record {
  alike = record {
    program = refl;
    cap = refl;
    readers = length-set core.seen reader (length core.list);
  };
  sees = λ most. record {
    least = λ other. (set_more core.seen reader (length core.list) other most).0;
    most = λ other. (set_more core.seen reader (length core.list) other most).1;
  };
}

pub then_alike : (one two three : Core) → IsMadeAlike one two → IsMadeAlike two three
    → IsMadeAlike one three
then_alike one two three first second = record {
  program = second.program ∙ first.program;
  cap = second.cap ∙ first.cap;
  readers = second.readers ∙ first.readers;
}

then_on : (one two three : Core) → GoesOn one two → GoesOn two three → GoesOn one three
then_on one two three first second = record {
  alike = then_alike one two three first.alike second.alike;
  sees = λ most.
      (let early = first.sees most in
      let late = second.sees early.most in
      record {
        least = λ reader. omega (arith, early.least reader, late.least reader);
        most = late.most;
      });
}

pub all_on : (core : Core) (steps : List Step) → GoesOn core (core_after core steps)
all_on core [] = record {
  alike = record { program = refl; cap = refl; readers = refl };
  sees = λ most. record { least = λ reader. omega arith; most = most };
}
all_on core (s ∷ rest) =
    then_on core (stepped core s).0 (core_after (stepped core s).0 rest) (step_on core s)
    (all_on (stepped core s).0 rest)

-- ---- one step more

after_more : (core : Core) (steps : List Step) (s : Step)
    → core_after core (steps ++ s ∷ []) ≡ (stepped (core_after core steps) s).0
after_more core [] s = refl
after_more core (first ∷ steps) s = after_more (stepped core first).0 steps s

outcomes_more : (core : Core) (steps : List Step) (s : Step)
    → outcomes core (steps ++ s ∷ [])
    ≡ outcomes core steps ++ outcome_of (stepped (core_after core steps) s).1 ∷ []
outcomes_more core [] s = refl
outcomes_more core (first ∷ steps) s =
    ap (λ (rest : List Outcome). outcome_of (stepped core first).1 ∷ rest)
    (outcomes_more (stepped core first).0 steps s)

after_one : (core : Core) (steps : List Step) (i : ℕ) (d : Step) → i < length steps
    → core_after core (take (i + 1) steps)
    ≡ (stepped (core_after core (take i steps)) (get_or steps i d)).0
after_one core steps i d within =
    ap (core_after core) (take_more steps i d within)
    ∙ after_more core (take i steps) (get_or steps i d)

outcomes_one : (core : Core) (steps : List Step) (i : ℕ) (d : Step) → i < length steps
    → outcomes core (take (i + 1) steps) ≡ outcomes core (take i steps)
    ++ outcome_of (stepped (core_after core (take i steps)) (get_or steps i d)).1 ∷ []
outcomes_one core steps i d within =
    ap (outcomes core) (take_more steps i d within)
    ∙ outcomes_more core (take i steps) (get_or steps i d)

module _ (core now : Core) (steps : List Step) (i : ℕ) (d : Step)
    (is : now ≡ core_after core (take i steps)) (within : i < length steps) (new : Core)
    (answer : Result Outcome StepRefused)
    (done : (new, answer) ≡ stepped now (get_or steps i d)) where
  -- the state after it
  pub state_on : new ≡ core_after core (take (i + 1) steps)
  state_on =
      ap (λ (s : Stepped). s.0) done
      ∙ ap (λ (c : Core). (stepped c (get_or steps i d)).0) is
      ∙ sym (after_one core steps i d within)

  -- and the outcomes with its own
  pub outcomes_on : (made : List Outcome) → made ≡ outcomes core (take i steps)
      → made ++ outcome_of answer ∷ [] ≡ outcomes core (take (i + 1) steps)
  outcomes_on made before =
      ap₂ (λ (l : List Outcome) (o : Outcome). l ++ o ∷ []) before
      (ap (λ (s : Stepped). outcome_of s.1) done
      ∙ ap (λ (c : Core). outcome_of (stepped c (get_or steps i d)).1) is)
      ∙ sym (outcomes_one core steps i d within)

  -- it is that after the steps of a prefix
  pub prefix_on : IsAfterSome core steps new
  prefix_on = (i + 1, omega (arith, within), state_on)

pub on_any : {T E P : Type 0} (r : Result T E) → P → OnErr r P
on_any (Ok x) is = tt
on_any (Err e) is = is

-- ---- each step may be done

passes_at : (p : Step → Bool) (steps : List Step) (i : ℕ) (d : Step) → list_all p steps ≡ true
    → i < length steps → p (get_or steps i d) ≡ true
passes_at p [] i d all within = absurd (omega (arith, within))
passes_at p (first ∷ rest) zero d all within = (and_parts (p first) (list_all p rest) all).0
passes_at p (first ∷ rest) (suc i) d all within =
    passes_at p rest i d (and_parts (p first) (list_all p rest) all).1 (omega (arith, within))

pub may_at : (core now : Core) (steps : List Step) (i : ℕ) (d : Step) → may_run core steps ≡ true
    → now ≡ core_after core (take i steps) → i < length steps
    → may_step now (get_or steps i d) ≡ true
may_at core now steps i d all is within =
    let on = all_on core (take i steps) in
    ap₂ (λ (p : Program) (n : ℕ). is_step_of p n (get_or steps i d))
    (ap (λ (c : Core). c.program) is ∙ on.alike.program)
    (ap (λ (c : Core). length c.seen) is ∙ on.alike.readers)
    ∙ passes_at (may_step core) steps i d all within

-- ---- a step is done, or not

pub done_as : (old : Core) (s : Step) (new : Core) (answer : Result Outcome StepRefused)
    → DoesOrNot old s new answer → (answer ≢ Err refused.OutOfMemory)
    → (new, answer) ≡ stepped old s
done_as old s new (Ok outcome) is there = is
done_as old s new (Err refused.LogFull) is there = is
done_as old s new (Err refused.Busy) is there = is
done_as old s new (Err refused.NoMoreQueries) is there = is
done_as old s new (Err refused.Idle) is there = is
done_as old s new (Err refused.NoUnit) is there = is
done_as old s new (Err refused.NotClaimed) is there = is
done_as old s new (Err refused.LayersDone) is there = is
done_as old s new (Err refused.LayerOpen) is there = is
done_as old s new (Err refused.LayersLeft) is there = is
done_as old s new (Err refused.OutOfMemory) is there = absurd (there refl)

pub not_done : (old : Core) (s : Step) (new : Core) (answer : Result Outcome StepRefused)
    → DoesOrNot old s new answer → answer ≡ Err refused.OutOfMemory → new ≡ old
not_done old s new answer is none = subst (DoesOrNot old s new) none is

pub alike_done : (old : Core) (s : Step) (new : Core) (answer : Result Outcome StepRefused)
    → (new, answer) ≡ stepped old s → IsMadeAlike old new
alike_done old s new answer is =
    subst (IsMadeAlike old) (sym (ap (λ (to : Stepped). to.0) is)) (step_on old s).alike

alike_same : (old new : Core) → new ≡ old → IsMadeAlike old new
alike_same old new same =
    subst (IsMadeAlike old) (sym same) (record { program = refl; cap = refl; readers = refl })

pub alike_or_not : (old : Core) (s : Step) (new : Core) (answer : Result Outcome StepRefused)
    → DoesOrNot old s new answer → IsMadeAlike old new
alike_or_not old s new (Ok outcome) is = alike_done old s new (Ok outcome) is
alike_or_not old s new (Err refused.LogFull) is = alike_done old s new _ is
alike_or_not old s new (Err refused.Busy) is = alike_done old s new _ is
alike_or_not old s new (Err refused.NoMoreQueries) is = alike_done old s new _ is
alike_or_not old s new (Err refused.Idle) is = alike_done old s new _ is
alike_or_not old s new (Err refused.NoUnit) is = alike_done old s new _ is
alike_or_not old s new (Err refused.NotClaimed) is = alike_done old s new _ is
alike_or_not old s new (Err refused.LayersDone) is = alike_done old s new _ is
alike_or_not old s new (Err refused.LayerOpen) is = alike_done old s new _ is
alike_or_not old s new (Err refused.LayersLeft) is = alike_done old s new _ is
alike_or_not old s new (Err refused.OutOfMemory) is = alike_same old new is

pub alike_after : (old : Core) (steps : List Step) (new : Core) → new ≡ core_after old steps
    → IsMadeAlike old new
alike_after old steps new is = subst (IsMadeAlike old) (sym is) (all_on old steps).alike
