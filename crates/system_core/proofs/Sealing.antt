-- The reviser may take what follows the entries that it has, up to the next seal.
use Rattle.std.proofs.Common.{◌≡◌, ℕ, ◌+◌, ◌-◌, ◌<◌, ◌≤◌, ◌&&◌, true, false, List, [], ◌∷◌, ◌++◌}
use Rattle.std.proofs.Common.{length, drop, take, slice_get, Option, Some, refl, sym, ◌∙◌, ap, ap₂, subst}
use Rattle.std.proofs.Common.{arith, append_assoc, length-append, take_all}
use Rattle.std.specs.Prelude.{option_map}
use Rattle.std.specs.List.{list_all}
use Rattle.std.proofs.Math.Seq.{drop-append_seam}
use Rattle.std.proofs.lemmas.Bool.Decides.{nat_tests}
use Rattle.std.proofs.lemmas.List.{length-drop}
use Rattle.ground_types.specs.History.{is_seal, seals, IsLegal}
use Rattle.ground_types.specs.declared.entries.Entry.{Entry}
use Rattle.ground_types.specs.declared.entries.Entry.TheVariants.{Fed, Seal}
use Rattle.query_ask.specs.Right.{Parts}
use Rattle.admit_core.specs.Log.{Log, IsKept, IsOfLog, AreOfLog}
use Rattle.delay_revise.specs.Revising.{Revising, MayTake, is_of}
use Rattle.delay_revise.proofs.Staying.{seals_append}
use Rattle.system_core.specs.Claiming.{Claiming}
use Rattle.system_core.specs.Holding.{is_open, IsHolding}
use Rattle.system_core.proofs.Holdings.{rests}
use Rattle.system_core.proofs.Places.{get_last}

ends_so : (xs : List Entry) (number : ℕ)
    → option_map is_seal (slice_get (xs ++ Seal number ∷ []) (length (xs ++ Seal number ∷ []) - 1))
    ≡ Some true
ends_so xs number =
    let at : length (xs ++ Seal number ∷ []) - 1 ≡ length xs =
    omega (arith, length-append xs (Seal number ∷ [])) in
    ap (λ i. option_map is_seal (slice_get (xs ++ Seal number ∷ []) i)) at
    ∙ ap (option_map is_seal) (get_last xs (Seal number))

back_of_log : (events : ℕ) (xs ys : List Entry) → AreOfLog events (xs ++ ys) → AreOfLog events ys
back_of_log events [] ys are = are
back_of_log events (x ∷ xs) ys are = back_of_log events xs ys are.1

one_of : (events : ℕ) (x : Entry) → IsOfLog events x → is_of events x ≡ true
one_of events (Fed feeder act event at reply) is =
    let below : event < events = is.2 in grind (arith, nat_tests)
one_of events (Seal number) is = refl

all_of : (events : ℕ) (xs : List Entry) → AreOfLog events xs → list_all (is_of events) xs ≡ true
all_of events [] are = refl
all_of events (x ∷ xs) are = ap₂ ◌&&◌ (one_of events x are.0) (all_of events xs are.1)

-- what a slice from a place on has
pub whole_tail : {X : Type 0} (xs : List X) (n : ℕ) → take (length xs - n) (drop n xs) ≡ drop n xs
whole_tail xs n = take_all (length xs - n) (drop n xs) (let e : length (drop n xs) ≤ length xs - n
    = omega (arith, length-drop n xs) in e)

module _ (claiming : Claiming) (log : Log) (reviser : Revising) (board : List Parts) (seen : List ℕ)
    (made : Option Parts) (h : IsHolding claiming log reviser board seen made)
    (shut : is_open reviser.has_chunk made ≡ false) (number : ℕ) (all chunk : List Entry)
    (all_is : all ≡ log.history ++ Seal number ∷ [])
    (chunk_is : chunk ≡ drop (length reviser.taken) all) where
  taken_is : reviser.taken ≡ h.taken
  taken_is = ap (λ (r : Revising). r.taken)
      (rests claiming log reviser board seen made h shut).is.reviser_is

  rest_is : chunk ≡ h.rest ++ Seal number ∷ []
  rest_is =
      chunk_is
      ∙ ap₂ (λ (t l : List Entry). drop (length t) l) taken_is
      (all_is ∙ ap (λ (l : List Entry). l ++ Seal number ∷ []) (sym h.joined)
      ∙ append_assoc h.taken h.rest (Seal number ∷ []))
      ∙ drop-append_seam h.taken (h.rest ++ Seal number ∷ [])

  -- with the chunk all is taken
  pub all_taken : reviser.taken ++ chunk ≡ log.history ++ Seal number ∷ []
  all_taken =
      ap₂ (λ (a b : List Entry). a ++ b) taken_is rest_is
      ∙ sym (append_assoc h.taken h.rest (Seal number ∷ []))
      ∙ ap (λ (l : List Entry). l ++ Seal number ∷ []) h.joined

  pub may_take : (next : Log) → next ≡ record log { history = log.history ++ Seal number ∷ [] }
      → IsKept next → MayTake reviser chunk
  may_take next same kept =
      let r = (rests claiming log reviser board seen made h shut).is in
      let history : log.history ++ Seal number ∷ [] ≡ next.history =
      sym (ap (λ (l : Log). l.history) same) in
      let every : reviser.taken ++ chunk ≡ next.history = all_taken ∙ history in
      let taken_all : h.taken ++ chunk ≡ next.history =
      ap (λ (t : List Entry). t ++ chunk) (sym taken_is) ∙ every in
      let plan : next.plan ≡ claiming.program.plan = ap (λ (l : Log). l.plan) same ∙ h.plan in
      let events : next.events ≡ claiming.program.events =
      ap (λ (l : Log). l.events) same ∙ h.events in
      let cap : next.cap ≡ log.cap = ap (λ (l : Log). l.cap) same in
      let one : seals (Seal number ∷ []) ≡ 1 = refl in
      subst (λ (v : Revising). MayTake v chunk) (sym r.reviser_is) (record {
        none_open = refl;
        room = omega (arith, kept.few, ap length taken_all, length-append h.taken chunk, cap);
        sealed = omega (
          arith,
          ap seals rest_is,
          seals_append h.rest (Seal number ∷ []),
          h.unsealed,
          one,
        );
        ends = ap (λ c. option_map is_seal (slice_get c (length c - 1))) rest_is
            ∙ ends_so h.rest number;
        legal = subst (λ p. IsLegal p (h.taken ++ chunk)) plan
            (subst (IsLegal next.plan) (sym taken_all) kept.legal);
        events = subst (λ n. list_all (is_of n) chunk ≡ true) events
            (all_of next.events chunk (back_of_log next.events h.taken chunk
            (subst (AreOfLog next.events) (sym taken_all) kept.entries)));
      })
