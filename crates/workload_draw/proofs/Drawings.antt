-- What the drawings of a workload have in common.
use Rattle.std.proofs.Common.{◌≡◌, inl, inr, ℕ, zero, suc, ◌+◌, ◌*◌, ◌/◌, ◌%◌, ◌<◌, ◌≤◌, Bool}
use Rattle.std.proofs.Common.{true, false, ◌==◌, ◌||◌, if◌then◌else◌, List, [], ◌∷◌, ◌++◌, filter}
use Rattle.std.proofs.Common.{slice_get, Option, Some, None, refl, sym, ◌∙◌, ap, subst, arith, cond}
use Rattle.std.proofs.Common.{lit<, ◌-◌, min, not, ◌&&◌, ◌≢◌, eqb}
use Rattle.std.proofs.Math.Nat.{mul_comm, mod-lt}
use Rattle.std.proofs.lemmas.Bool.Decides.{nat_tests, eqb_tells}
use Rattle.std.proofs.lemmas.Bool.{eq-eqb, ne_eqb}
use Rattle.std.proofs.lemmas.List.Sums.{sum_by_push}
use Rattle.std.proofs.lemmas.Grind.{div_ceil_times}
use Rattle.std.proofs.lemmas.Nat.{div_below}
use Rattle.ground_types.specs.declared.entries.Command.{Command}
use Rattle.ground_types.specs.declared.entries.Command.TheVariants.{Feed, Seal, Ask, Wait, After}
use Rattle.ground_types.specs.declared.plan.Plan.{Plan}
use Rattle.ground_types.specs.declared.program.Program.{Program}
use Rattle.workload_draw.specs.Counts.{is_feed, is_seal, feed_count, seal_count}
use Rattle.workload_draw.specs.Spaced.{AreSpaced}
use Rattle.workload_draw.specs.Workload.{Drawing, next_state, drawn, added, revoked, feed_at}
use Rattle.workload_draw.specs.Workload.{revoked_before, with_feed, with_seal, with_round, per_seal}
use Rattle.workload_draw.specs.Workload.{drawing, workload_of, IsMade, AreMade}
use Rattle.workload_draw.proofs.Spacing.{spaced_none, spaced_feed, spaced_seal, turns}

-- ---- how many a seal follows

-- all commands are within the windows
pub within_windows : (plan : Plan) (size : ℕ) → 1 ≤ plan.queries
    → size ≤ plan.queries * per_seal plan size
within_windows plan size some =
    let times : size ≤ per_seal plan size * plan.queries =
    (div_ceil_times size plan.queries some).0 in
    omega (arith, times, mul_comm (per_seal plan size) plan.queries)

some_by : (m q size : ℕ) → 1 ≤ size → size ≤ q * m → 0 < m
some_by zero q size some le = absurd (omega (arith, some, le))
some_by (suc m) q size some le = omega arith

pub per_seal_some : (plan : Plan) (size : ℕ) → 1 ≤ plan.queries → 1 ≤ size
    → 0 < per_seal plan size
per_seal_some plan size some big =
    some_by (per_seal plan size) plan.queries size big (within_windows plan size some)

-- each command is in one of the windows
pub in_window : (plan : Plan) (size i : ℕ) → 1 ≤ plan.queries → i < size
    → i / per_seal plan size < plan.queries
in_window plan size i some low =
    let le : size ≤ plan.queries * per_seal plan size = within_windows plan size some in
    div_below i (per_seal plan size) plan.queries
    (per_seal_some plan size some (omega arith)) (omega arith)

-- ---- what is made

made_push : (program : Program) (xs : List Command) (x : Command) → AreMade program xs
    → IsMade program x → AreMade program (xs ++ x ∷ [])
made_push program [] x all last = (last, tt)
made_push program (y ∷ ys) x all last = (all.0, made_push program ys x all.1 last)

-- the command is made, where there is one
abbrev IsMadeOrNone : Program → Option Command → Type 0
IsMadeOrNone program None = Unit {0}
IsMadeOrNone program (Some command) = IsMade program command

made_feeds : (program : Program) (xs : List Command) → AreMade program xs
    → AreMade program (filter is_feed xs)
made_feeds program [] all = tt
made_feeds program (Feed feeder act event at ∷ xs) all = (all.0, made_feeds program xs all.1)
made_feeds program (Seal ∷ xs) all = made_feeds program xs all.1
made_feeds program (Ask query ∷ xs) all = made_feeds program xs all.1
made_feeds program (Wait count ∷ xs) all = made_feeds program xs all.1
made_feeds program (After feeder count ∷ xs) all = made_feeds program xs all.1

made_at : (program : Program) (xs : List Command) (j : ℕ) → AreMade program xs
    → IsMadeOrNone program (slice_get xs j)
made_at program [] j all = tt
made_at program (x ∷ xs) zero all = all.0
made_at program (x ∷ xs) (suc j) all = made_at program xs j all.1

made_revoked : (program : Program) (feeder : ℕ) (named : Option Command) → 1 ≤ feeder → feeder ≤ 8
    → 0 < program.events → IsMadeOrNone program named → IsMade program (revoked feeder named)
made_revoked program feeder None low high some named = (low, high, some)
made_revoked program feeder (Some (Feed other act event at)) low high some named =
    (low, high, named.2)
made_revoked program feeder (Some Seal) low high some named = (low, high, some)
made_revoked program feeder (Some (Ask query)) low high some named = absurd named
made_revoked program feeder (Some (Wait count)) low high some named = absurd named
made_revoked program feeder (Some (After other count)) low high some named = absurd named

feeds_revoked : (feeder : ℕ) (named : Option Command) → is_feed (revoked feeder named) ≡ true
feeds_revoked feeder None = refl
feeds_revoked feeder (Some (Feed other act event at)) = refl
feeds_revoked feeder (Some Seal) = refl
feeds_revoked feeder (Some (Ask query)) = refl
feeds_revoked feeder (Some (Wait count)) = refl
feeds_revoked feeder (Some (After other count)) = refl

-- ---- one step

drawn_feeder : (x : ℕ) → 1 + drawn 8 x ≤ 8
drawn_feeder x = let low : drawn 8 x < 8 = mod-lt (next_state x / 2048) (lit< tt) in omega arith

-- a drawing with an add or a revoke more
record AddsFeed (program : Program) (before after : List Command) : Type 0 where
  feed : Command
  is : is_feed feed ≡ true
  told : AreMade program before → IsMade program feed
  list : after ≡ before ++ feed ∷ []

added_feed : (program : Program) (before : List Command) (x y : Drawing) (b : Bool)
    → AddsFeed program before x.commands → AddsFeed program before y.commands
    → AddsFeed program before (if b then x else y).commands
added_feed program before x y true one other = one
added_feed program before x y false one other = other

adds_feed : (program : Program) (m i : ℕ) (before : Drawing) → 0 < program.events
    → AddsFeed program before.commands (with_feed program m i before).commands
adds_feed program m i before some =
    let feeder = 1 + drawn 8 before.state in
    let chance = next_state before.state in
    let next = next_state chance in
    let named = feed_at before.commands (i - 1 - drawn (min i 64) next) in
    let low : 1 ≤ feeder = omega arith in
    let high : feeder ≤ 8 = drawn_feeder before.state in
    added_feed program before.commands
    (record {
      state = next_state next;
      commands = before.commands ++ revoked_before feeder i before.commands next ∷ [];
    })
    (record {
      state = next_state (next_state next);
      commands = before.commands ++ added program feeder (i / m) next ∷ [];
    })
    ((drawn 10 chance == 0) && not (i == 0))
    (record {
      feed = revoked feeder named;
      is = feeds_revoked feeder named;
      told = λ all. made_revoked program feeder named low high some
          (made_at program (filter is_feed before.commands) (i - 1 - drawn (min i 64) next)
          (made_feeds program before.commands all));
      list = refl;
    })
    (record {
      feed = added program feeder (i / m) next;
      is = refl;
      told = λ all. (low, high, mod-lt (next_state next / 2048) some);
      list = refl;
    })

-- what holds of a drawing with command i, if the program has input events
with_events : (program : Program) (m i : ℕ) (before : Drawing) (P : Drawing → Type 0)
    → P before → (0 < program.events → P (with_feed program m i before))
    → P (if program.events == 0 then before else with_feed program m i before)
with_events program m i before P none some =
    elim (eqb_tells program.events 0) [
      | inl is ↦
          subst (λ (b : Bool). P (if b then before else with_feed program m i before))
          (sym is.0) none
      | inr is ↦
          subst (λ (b : Bool). P (if b then before else with_feed program m i before)) (sym is.0)
          (some (let ne : program.events ≢ 0 = is.1 in omega arith))
    ]

does_seal : (rest i size : ℕ) → rest ≡ 0 → ((rest == 0) || (i + 1 == size)) ≡ true
does_seal rest i size is = grind (arith, nat_tests)

seals_not : (rest i size : ℕ) → 0 < rest → i + 1 < size
    → ((rest == 0) || (i + 1 == size)) ≡ false
seals_not rest i size more within = grind (arith, nat_tests)

-- what holds of the commands by the number of seals, and with a seal more, holds behind command i
sealed_on : (P : ℕ → List Command → Type 0) (size m i : ℕ) (before : Drawing) → 0 < m
    → i + 1 < size → P (i / m) before.commands
    → (P (i / m) before.commands → P (i / m + 1) (before.commands ++ Seal ∷ []))
    → P ((i + 1) / m) (with_seal size m i before).commands
sealed_on P size m i before some within here more =
    let sealed : Drawing = record before { commands = before.commands ++ Seal ∷ [] } in
    let all = λ (b : Bool). (if b then sealed else before).commands in
    elim (turns i m some) [
      | inl at ↦
          subst (λ (b : Bool). P ((i + 1) / m) (all b)) (sym (does_seal ((i + 1) % m) i size at.0))
          (subst (λ (s : ℕ). P s sealed.commands) (sym at.1) (more here))
      | inr at ↦
          subst (λ (b : Bool). P ((i + 1) / m) (all b))
          (sym (seals_not ((i + 1) % m) i size at.0 within))
          (subst (λ (s : ℕ). P s before.commands) (sym at.1) here)
    ]

-- what holds without a seal and with one holds behind the last command
sealed_or_not : (P : List Command → Type 0) (before : Drawing) (b : Bool) → P before.commands
    → P (before.commands ++ Seal ∷ [])
    → P (if b then record before { commands = before.commands ++ Seal ∷ [] } else before).commands
sealed_or_not P before true none one = one
sealed_or_not P before false none one = none

-- ---- places

pub spaced : (program : Program) (seed size n : ℕ) → 0 < program.events → 1 ≤ program.plan.queries
    → 1 ≤ size → n < size
    → AreSpaced (per_seal program.plan size) n (n / per_seal program.plan size)
    (drawing program seed size n).commands
spaced program seed size zero some queries big within = spaced_none (per_seal program.plan size)
spaced program seed size (suc i) some queries big within =
    let m = per_seal program.plan size in
    let before = drawing program seed size i in
    let fed = with_feed program m i before in
    let every : 0 < m = per_seal_some program.plan size queries big in
    let adds = adds_feed program m i before some in
    let here : AreSpaced m (i + 1) (i / m) fed.commands =
    subst (λ (l : List Command). AreSpaced m (i + 1) (i / m) l) (sym adds.list)
    (spaced_feed m i before.commands adds.feed every adds.is
    (spaced program seed size i some queries big (omega arith))) in
    let done : AreSpaced m (i + 1) ((i + 1) / m) (with_seal size m i fed).commands =
    sealed_on (λ s l. AreSpaced m (i + 1) s l) size m i fed every (omega arith) here
    (λ h. spaced_seal m i (i / m) fed.commands every (omega arith) h) in
    let next : i + 1 ≡ suc i = omega arith in
    subst (λ (k : ℕ). AreSpaced m k (k / m) (with_round program size i before).commands) next
    (subst (λ (b : Bool). AreSpaced m (i + 1) ((i + 1) / m)
    (with_seal size m i (if b then before else fed)).commands)
    (sym (ne_eqb program.events 0 (λ is. omega (arith, is, some)))) done)

-- ---- numbers

-- what is told of n rounds, with at most n adds and revokes and s seals
record IsDrawn (program : Program) (n s : ℕ) (commands : List Command) : Type 0 where
  told : AreMade program commands
  feeds : feed_count commands ≤ n
  seals : seal_count commands ≤ s

not_seal : (c : Command) → is_feed c ≡ true → is_seal c ≡ false
not_seal (Feed feeder act event at) is = refl
not_seal Seal is = cc
not_seal (Ask query) is = refl
not_seal (Wait count) is = refl
not_seal (After feeder count) is = refl

feeds_more : (xs : List Command) (c : Command) → feed_count (xs ++ c ∷ [])
    ≡ feed_count xs + cond {A = ℕ} (is_feed c) 1 0
feeds_more xs c = sum_by_push (λ (e : Command). cond {A = ℕ} (is_feed e) 1 0) xs c

seals_more : (xs : List Command) (c : Command) → seal_count (xs ++ c ∷ [])
    ≡ seal_count xs + cond {A = ℕ} (is_seal c) 1 0
seals_more xs c = sum_by_push (λ (e : Command). cond {A = ℕ} (is_seal e) 1 0) xs c

drawn_fed : (program : Program) (n s : ℕ) (before after : List Command)
    → IsDrawn program n s before → AddsFeed program before after
    → IsDrawn program (n + 1) s after
drawn_fed program n s before after drawn adds =
    subst (λ (l : List Command). IsDrawn program (n + 1) s l) (sym adds.list)
    (record {
      told = made_push program before adds.feed drawn.told (adds.told drawn.told);
      feeds = omega (
        arith,
        feeds_more before adds.feed ∙ ap (λ (b : Bool). feed_count before
            + cond {A = ℕ} b 1 0) adds.is,
        drawn.feeds,
      );
      seals = omega (
        arith,
        seals_more before adds.feed ∙ ap (λ (b : Bool). seal_count before
            + cond {A = ℕ} b 1 0) (not_seal adds.feed adds.is),
        drawn.seals,
      );
    })

drawn_more : (program : Program) (n s n' s' : ℕ) (l : List Command) → IsDrawn program n s l
    → n ≤ n' → s ≤ s' → IsDrawn program n' s' l
drawn_more program n s n' s' l drawn feeds seals = record {
  told = drawn.told;
  feeds = omega (arith, drawn.feeds);
  seals = omega (arith, drawn.seals);
}

drawn_sealed : (program : Program) (n s : ℕ) (l : List Command) → IsDrawn program n s l
    → IsDrawn program n (s + 1) (l ++ Seal ∷ [])
drawn_sealed program n s l drawn = record {
  told = made_push program l Seal drawn.told tt;
  feeds = omega (arith, feeds_more l Seal, drawn.feeds);
  seals = omega (arith, seals_more l Seal, drawn.seals);
}

-- with command i, if the program has input events
drawn_round : (program : Program) (m i s : ℕ) (before : Drawing)
    → IsDrawn program i s before.commands → IsDrawn program (i + 1) s
    (if program.events == 0 then before else with_feed program m i before).commands
drawn_round program m i s before drawn =
    with_events program m i before (λ (made : Drawing). IsDrawn program (i + 1) s made.commands)
    (drawn_more program i s (i + 1) s before.commands drawn (omega arith) (omega arith))
    (λ some. drawn_fed program i s before.commands (with_feed program m i before).commands drawn
    (adds_feed program m i before some))

drawn_so_far : (program : Program) (seed size n : ℕ) → 1 ≤ program.plan.queries
    → 1 ≤ size → n < size
    → IsDrawn program n (n / per_seal program.plan size) (drawing program seed size n).commands
drawn_so_far program seed size zero queries big within = record {
  told = tt;
  feeds = omega arith;
  seals = omega arith;
}
drawn_so_far program seed size (suc i) queries big within =
    let m = per_seal program.plan size in
    let before = drawing program seed size i in
    let every : 0 < m = per_seal_some program.plan size queries big in
    let here = drawn_round program m i (i / m) before
    (drawn_so_far program seed size i queries big (omega arith)) in
    let next : i + 1 ≡ suc i = omega arith in
    subst (λ (k : ℕ). IsDrawn program k (k / m) (with_round program size i before).commands) next
    (sealed_on (λ s l. IsDrawn program (i + 1) s l) size m i
    (if program.events == 0 then before else with_feed program m i before) every (omega arith) here
    (λ h. drawn_sealed program (i + 1) (i / m)
    (if program.events == 0 then before else with_feed program m i before).commands h))

drawn_all : (program : Program) (seed size : ℕ) → 1 ≤ program.plan.queries → 1 ≤ size
    → IsDrawn program size program.plan.queries (drawing program seed size size).commands
drawn_all program seed zero queries big = absurd (omega (arith, big))
drawn_all program seed (suc p) queries big =
    let size = suc p in
    let m = per_seal program.plan size in
    let before = drawing program seed size p in
    let mid = if program.events == 0 then before else with_feed program m p before in
    let low : p / m < program.plan.queries = in_window program.plan size p queries (omega arith) in
    let here : IsDrawn program (p + 1) (p / m) mid.commands =
    drawn_round program m p (p / m) before
    (drawn_so_far program seed size p queries big (omega arith)) in
    sealed_or_not (λ l. IsDrawn program size program.plan.queries l) mid
    (((p + 1) % m == 0) || (p + 1 == size))
    (drawn_more program (p + 1) (p / m) size program.plan.queries mid.commands here (omega arith)
    (omega arith))
    (drawn_more program (p + 1) (p / m + 1) size program.plan.queries (mid.commands ++ Seal ∷ [])
    (drawn_sealed program (p + 1) (p / m) mid.commands here) (omega arith) (omega arith))

pub made_all : (program : Program) (seed size : ℕ) → 1 ≤ program.plan.queries → 1 ≤ size
    → AreMade program (workload_of program seed size)
made_all program seed size queries big = (drawn_all program seed size queries big).told

pub feeds_few : (program : Program) (seed size : ℕ) → 1 ≤ program.plan.queries → 1 ≤ size
    → feed_count (workload_of program seed size) ≤ size
feeds_few program seed size queries big = (drawn_all program seed size queries big).feeds

pub seals_few : (program : Program) (seed size : ℕ) → 1 ≤ program.plan.queries → 1 ≤ size
    → seal_count (workload_of program seed size) ≤ program.plan.queries
seals_few program seed size queries big = (drawn_all program seed size queries big).seals

-- ---- the next round

next_round : (program : Program) (seed size m i : ℕ) (before mid after : Drawing)
    → m ≡ per_seal program.plan size → before ≡ drawing program seed size i
    → mid ≡ (if program.events == 0 then before else with_feed program m i before)
    → after ≡ with_seal size m i mid → after ≡ drawing program seed size (i + 1)
next_round program seed size m i before mid after of_m of_before of_mid of_after =
    let round : ℕ → Drawing → Drawing = λ k d. with_seal size k i
    (if program.events == 0 then d else with_feed program k i d) in
    let next : suc i ≡ i + 1 = omega arith in
    of_after ∙ ap (with_seal size m i) of_mid ∙ ap (round m) of_before
    ∙ ap (λ (k : ℕ). round k (drawing program seed size i)) of_m
    ∙ ap (drawing program seed size) next

pub next_fed : (program : Program) (seed size m i : ℕ) (before mid after : Drawing)
    → m ≡ per_seal program.plan size → 0 < program.events
    → before ≡ drawing program seed size i → mid ≡ with_feed program m i before
    → after ≡ with_seal size m i mid → after ≡ drawing program seed size (i + 1)
next_fed program seed size m i before mid after of_m some of_before of_mid of_after =
    let test : eqb program.events 0 ≡ false =
    ne_eqb program.events 0 (λ is. omega (arith, is, some)) in
    next_round program seed size m i before mid after of_m of_before
    (of_mid ∙ ap (λ (b : Bool). if b then before else with_feed program m i before) (sym test))
    of_after

pub next_bare : (program : Program) (seed size m i : ℕ) (before mid after : Drawing)
    → m ≡ per_seal program.plan size → program.events ≤ 0
    → before ≡ drawing program seed size i → mid ≡ before
    → after ≡ with_seal size m i mid → after ≡ drawing program seed size (i + 1)
next_bare program seed size m i before mid after of_m none of_before of_mid of_after =
    let test : eqb program.events 0 ≡ true = eq-eqb program.events 0 (omega arith) in
    next_round program seed size m i before mid after of_m of_before
    (of_mid ∙ ap (λ (b : Bool). if b then before else with_feed program m i before) (sym test))
    of_after
