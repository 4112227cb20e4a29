-- A log with one more entry.
use Rattle.std.proofs.Common.{◌≡◌, ◌≢◌, ℕ, ◌+◌, ◌-◌, ◌<◌, ◌≤◌, Bool, cond, eqb, List, [], ◌∷◌, ◌++◌}
use Rattle.std.proofs.Common.{length, set, get_or, refl, sym, ◌∙◌, ap, subst, arith}
use Rattle.std.proofs.Common.{length-append, get_or-set_other, get_or-set_same, inl}
use Rattle.std.proofs.Common.{inr, take, drop}
use Rattle.std.proofs.Math.ListN.{length-set}
use Rattle.std.proofs.Math.Seq.{take-append_seam}
use Rattle.std.proofs.lemmas.Bool.{cases_eq, eq-eqb, ne_eqb}
use Rattle.std.proofs.lemmas.List.Sums.{sum_by_push}
use Rattle.ground_types.specs.History.{FollowsLegally, seals, is_seal, reply_to}
use Rattle.ground_types.specs.declared.plan.Plan.{Plan}
use Rattle.ground_types.specs.declared.entries.Act.{Act}
use Rattle.ground_types.specs.declared.entries.Reply.{Reply}
use Rattle.ground_types.specs.declared.entries.Entry.{Entry}
use Rattle.ground_types.specs.declared.entries.Entry.TheVariants.{Fed, Seal}
use Rattle.ground_types.proofs.Legal.{legal_push}
use Rattle.admit_core.specs.declared.front.Front.{Front}
use Rattle.admit_core.specs.Log.{Log, IsKept, IsOfLog, AreOfLog, AreCounts, is_fed_by}
use Rattle.admit_core.specs.Held.{IsHeld}
use Rattle.admit_core.specs.Index.{IsIndex}
use Rattle.admit_core.proofs.Table.{index_pass}

of_log_push : (events : ℕ) (xs : List Entry) (x : Entry) → AreOfLog events xs → IsOfLog events x
    → AreOfLog events (xs ++ x ∷ [])
of_log_push events [] x all last = (last, tt)
of_log_push events (y ∷ ys) x all last = (all.0, of_log_push events ys x all.1 last)

-- what a log keeps, with one entry more
pub kept_push : (log : Log) (x : Entry) → IsKept log → length log.history < log.cap
    → IsOfLog log.events x
    → FollowsLegally log.plan log.history x → seals (log.history ++ x ∷ []) ≤ log.plan.queries
    → IsKept (record log { history = log.history ++ x ∷ [] })
kept_push log x kept few known follows few_seals = record {
  plan = kept.plan;
  legal = record {
    entries = legal_push log.plan [] log.history x kept.legal.entries follows;
    few_seals = few_seals;
  };
  entries = of_log_push log.events log.history x kept.entries known;
  few = omega (arith, length-append log.history (x ∷ []));
}

pub seals_fed : (history : List Entry) (feeder : ℕ) (act : Act) (event at : ℕ) (reply : Reply)
    → seals (history ++ Fed feeder act event at reply ∷ []) ≡ seals history
seals_fed history feeder act event at reply =
    let x : Entry = Fed feeder act event at reply in
    omega (arith, sum_by_push (λ (e : Entry). cond {A = ℕ} (is_seal e) 1 0) history x)

pub seals_more : (history : List Entry) (number : ℕ)
    → seals (history ++ Seal number ∷ []) ≡ seals history + 1
seals_more history number =
    sum_by_push (λ (e : Entry). cond {A = ℕ} (is_seal e) 1 0) history (Seal number)

-- the counts with a seal more
pub counts_seal : (front : Front) (history : List Entry) (number : ℕ) → AreCounts front history
    → AreCounts (record front { entries = front.entries + 1; seals = front.seals + 1 })
    (history ++ Seal number ∷ [])
counts_seal front history number counts = record {
  entries = omega (arith, counts.entries, length-append history (Seal number ∷ []));
  seals = omega (arith, counts.seals, seals_more history number);
  fed = λ feeder low high.
      let push = sum_by_push (λ (e : Entry). cond {A = ℕ} (is_fed_by feeder e) 1 0) history
      (Seal number) in
      omega (arith, counts.fed feeder low high, push);
}

-- a front with one more entry of a feeder
abbrev pub one_more : Front → ℕ → Front
one_more front feeder = record front {
  entries = front.entries + 1;
  fed = set front.fed (feeder - 1) (get_or front.fed (feeder - 1) 0 + 1);
}

module _ (front : Front) (history : List Entry) (feeder : ℕ) (act : Act) (event at : ℕ)
    (reply : Reply) where
  abbrev entry : Entry
  entry = Fed feeder act event at reply

  abbrev place : ℕ
  place = feeder - 1

  -- the counts with an add or a revoke more
  pub counts_feed : AreCounts front history → length front.fed ≡ 8 → 1 ≤ feeder → feeder ≤ 8
      → AreCounts (one_more front feeder) (history ++ entry ∷ [])
  counts_feed counts wide low high = record {
    entries = omega (arith, counts.entries, length-append history (entry ∷ []));
    seals = counts.seals ∙ sym (seals_fed history feeder act event at reply);
    fed = λ other above below.
        let one_of = λ (e : Entry). cond {A = ℕ} (is_fed_by other e) 1 0 in
        let push = sum_by_push one_of history entry in
        let now : ℕ = get_or front.fed place 0 + 1 in
        elim (cases_eq feeder other) [
          | inl same ↦
              let one : cond {A = ℕ} (eqb feeder other) 1 0 ≡ 1 =
              ap (λ (b : Bool). cond {A = ℕ} b 1 0) (eq-eqb feeder other same) in
              let read : get_or (set front.fed place now) (other - 1) 0 ≡ now =
              ap (λ (k : ℕ). get_or (set front.fed place now) (k - 1) 0) (sym same)
              ∙ get_or-set_same front.fed place now 0 (omega arith) in
              let was : get_or front.fed place 0 ≡ get_or front.fed (other - 1) 0 =
              ap (λ (k : ℕ). get_or front.fed (k - 1) 0) same in
              omega (arith, counts.fed other above below, push, one, read, was)
          | inr apart ↦
              let none : cond {A = ℕ} (eqb feeder other) 1 0 ≡ 0 =
              ap (λ (b : Bool). cond {A = ℕ} b 1 0) (ne_eqb feeder other apart) in
              let read : get_or (set front.fed place now) (other - 1) 0
              ≡ get_or front.fed (other - 1) 0 =
              get_or-set_other front.fed place (other - 1) now 0 (λ e. apart (omega arith)) in
              omega (arith, counts.fed other above below, push, none, read)
        ];
  }

-- a slice that was lent and comes back of the same length
pub lent : (len : ℕ) (new old : List ℕ) → length new ≡ length old → length old ≡ len
    → take len (new ++ drop (length new) old) ≡ new
lent len new old same is =
    ap (λ (k : ℕ). take k (new ++ drop (length new) old)) (sym is ∙ sym same)
    ∙ take-append_seam new (drop (length new) old)

module _ (log : Log) (front : Front) (slots : List ℕ) (room : ℕ)
    (held : IsHeld log front slots room)
    (few : length log.history < log.cap) (more : ℕ) (roomy : log.cap ≤ more) where
  -- what an `AdmitState` holds, with an add or a revoke more
  pub held_feed : (feeder : ℕ) (act : Act) (event at : ℕ) (reply : Reply) (grown : List Entry)
      (counted : Front)
      (later : List ℕ) → 1 ≤ feeder → feeder ≤ 8 → event < log.events
      → reply ≡ reply_to log.plan log.history act event at
      → grown ≡ log.history ++ Fed feeder act event at reply ∷ []
      → counted ≡ one_more front feeder
      → IsIndex (length later) later (log.history ++ Fed feeder act event at reply ∷ [])
      → length later ≡ length slots
      → IsHeld (record log { history = grown }) counted later more
  held_feed feeder act event at reply grown counted later low high known right is counts now wide =
      let all : List Entry = log.history ++ Fed feeder act event at reply ∷ [] in
      let few_more = seals_fed log.history feeder act event at reply in
      subst (λ (h : List Entry). IsHeld (record log { history = h }) counted later more) (sym is)
      (subst (λ (f : Front). IsHeld (record log { history = all }) f later more)
      (sym counts)
      (record {
        kept = kept_push log (Fed feeder act event at reply) held.kept few (low, high, known) right
            (omega (arith, held.kept.legal.few_seals, few_more));
        counts = counts_feed front log.history feeder act event at reply held.counts held.feeders
            low high;
        feeders = length-set front.fed (feeder - 1) (get_or front.fed (feeder - 1) 0 + 1)
            ∙ held.feeders;
        index = now;
        slots_twice = wide ∙ held.slots_twice;
        roomy = roomy;
      }))

  -- and with a seal more
  pub held_seal : (number : ℕ) (grown : List Entry) (counted : Front)
      → number ≡ front.seals → number ≢ log.plan.queries
      → grown ≡ log.history ++ Seal number ∷ []
      → counted ≡ record front { entries = front.entries + 1; seals = front.seals + 1 }
      → IsHeld (record log { history = grown }) counted slots more
  held_seal number grown counted is more_queries grows counts =
      let all : List Entry = log.history ++ Seal number ∷ [] in
      let one_more_fits : seals log.history < log.plan.queries =
      omega (arith, is, held.counts.seals, held.kept.legal.few_seals, more_queries) in
      subst (λ (h : List Entry). IsHeld (record log { history = h }) counted slots more) (sym grows)
      (subst (λ (f : Front). IsHeld (record log { history = all }) f slots more) (sym counts)
      (record {
        kept = kept_push log (Seal number) held.kept few tt (is ∙ held.counts.seals)
            (omega (arith, seals_more log.history number, one_more_fits));
        counts = counts_seal front log.history number held.counts;
        feeders = held.feeders;
        index = index_pass (length slots) slots log.history (Seal number) held.index
            (λ event at. refl);
        slots_twice = held.slots_twice;
        roomy = roomy;
      }))
