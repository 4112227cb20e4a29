-- A chunk that may be taken ends with its one seal.
use Rattle.std.proofs.Common.{◌≡◌, ℕ, zero, suc, ◌+◌, ◌-◌, true, List, []}
use Rattle.std.proofs.Common.{◌∷◌, ◌++◌, length, slice_get, find, Some}
use Rattle.std.proofs.Common.{refl, sym, ◌∙◌, ap, subst, arith, append_assoc}
use Rattle.std.specs.Prelude.{option_map}
use Rattle.std.proofs.lemmas.List.{length-append, reverse-append}
use Rattle.ground_types.specs.History.{is_seal, seals, stands, before_seal, counts_for, is_add}
use Rattle.ground_types.specs.declared.entries.Entry.{Entry}
use Rattle.ground_types.specs.declared.entries.Entry.TheVariants.{Fed, Seal}
use Rattle.delay_revise.specs.Going.{IsOpen}
use Rattle.delay_revise.specs.Revising.{Revising, MayTake}
use Rattle.delay_revise.proofs.Staying.{seals_cons, seals_append}

-- a list is these entries and a seal
record IsEnded (chunk : List Entry) : Type 0 where
  front : List Entry
  seal : ℕ
  whole : chunk ≡ front ++ Seal seal ∷ []

ended_more : (x : Entry) (rest : List Entry) → IsEnded rest → IsEnded (x ∷ rest)
ended_more x rest is = record {
  front = x ∷ is.front;
  seal = is.seal;
  whole = ap (λ (l : List Entry). x ∷ l) is.whole;
}

chunk_ends : (chunk : List Entry) → option_map is_seal (slice_get chunk (length chunk - 1))
    ≡ Some true → IsEnded chunk
chunk_ends [] ends = cc
chunk_ends (Fed feeder act event at reply ∷ []) ends = cc
chunk_ends (Seal number ∷ []) ends = record { front = []; seal = number; whole = refl }
chunk_ends (x ∷ y ∷ rest) ends =
    let more : length (x ∷ y ∷ rest) - 1 ≡ suc (length (y ∷ rest) - 1) = omega arith in
    ended_more x (y ∷ rest) (chunk_ends (y ∷ rest)
    (subst (λ (n : ℕ). option_map is_seal (slice_get (x ∷ y ∷ rest) n) ≡ Some true) more ends))

-- the only seal of the last entries is the one that ends them
before_last : (front : List Entry) (number : ℕ) → seals front ≡ 0
    → before_seal (front ++ Seal number ∷ []) 0 ≡ front
before_last [] number none = refl
before_last (Fed feeder act event at reply ∷ rest) number none =
    ap (λ (l : List Entry). Fed feeder act event at reply ∷ l) (before_last rest number
    (omega (arith, none, seals_cons (Fed feeder act event at reply) rest)))
before_last (Seal other ∷ rest) number none =
    absurd (omega (arith, none, seals_cons (Seal other) rest))

-- so it is the seal of the number of those before
before_open : (history front : List Entry) (number k : ℕ) → k ≡ seals history → seals front ≡ 0
    → before_seal (history ++ front ++ Seal number ∷ []) k ≡ history ++ front
before_open [] front number zero is none = before_last front number none
before_open [] front number (suc k) is none = absurd (omega (arith, is))
before_open (Fed feeder act event at reply ∷ rest) front number k is none =
    ap (λ (l : List Entry). Fed feeder act event at reply ∷ l) (before_open rest front number k
    (omega (arith, is, seals_cons (Fed feeder act event at reply) rest)) none)
before_open (Seal other ∷ rest) front number zero is none =
    absurd (omega (arith, is, seals_cons (Seal other) rest))
before_open (Seal other ∷ rest) front number (suc k) is none =
    ap (λ (l : List Entry). Seal other ∷ l) (before_open rest front number k
    (omega (arith, is, seals_cons (Seal other) rest)) none)

front_unsealed : (chunk front : List Entry) (number : ℕ) → chunk ≡ front ++ Seal number ∷ []
    → seals chunk ≡ 1 → seals front ≡ 0
front_unsealed chunk front number whole one =
    omega (
      arith,
      sym (ap seals whole) ∙ one,
      seals_append front (Seal number ∷ []),
      seals_cons (Seal number) [],
    )

opens_by : (taken chunk : List Entry) → seals chunk ≡ 1 → IsEnded chunk
    → IsOpen (taken ++ chunk) (seals taken)
opens_by taken chunk one ended =
    let whole : taken ++ chunk ≡ taken ++ ended.front ++ Seal ended.seal ∷ [] =
    ap (λ (l : List Entry). taken ++ l) ended.whole
    ∙ sym (append_assoc taken ended.front (Seal ended.seal ∷ [])) in
    let front : before_seal (taken ++ chunk) (seals taken) ≡ taken ++ ended.front =
    ap (λ (l : List Entry). before_seal l (seals taken)) whole
    ∙ before_open taken ended.front ended.seal (seals taken) refl
    (front_unsealed chunk ended.front ended.seal ended.whole one) in
    record {
      seal = ended.seal;
      last = whole ∙ sym (ap (λ (l : List Entry). l ++ Seal ended.seal ∷ []) front);
    }

pub chunk_opens : (reviser : Revising) (chunk : List Entry) → MayTake reviser chunk
    → IsOpen (reviser.taken ++ chunk) (seals reviser.taken)
chunk_opens reviser chunk may =
    opens_by reviser.taken chunk may.sealed (chunk_ends chunk may.ends)

pub chunk_seals : (reviser : Revising) (chunk : List Entry) → MayTake reviser chunk
    → seals (reviser.taken ++ chunk) ≡ suc (seals reviser.taken)
chunk_seals reviser chunk may =
    omega (arith, may.sealed, seals_append reviser.taken chunk)

-- a seal counts for no event
stands_before : (front : List Entry) (number event t : ℕ) → stands front event t
    ≡ stands (front ++ Seal number ∷ []) event t
stands_before front number event t =
    sym (ap (λ (l : List Entry). is_add (find (counts_for event t) l))
    (reverse-append front (Seal number ∷ [])))

pub open_before : (history : List Entry) (k : ℕ) → IsOpen history k → (event t : ℕ)
    → stands (before_seal history k) event t ≡ stands history event t
open_before history k is event t =
    stands_before (before_seal history k) is.seal event t
    ∙ sym (ap (λ (l : List Entry). stands l event t) is.last)

pub open_front : (history : List Entry) (k : ℕ) → IsOpen history k
    → length history ≡ length (before_seal history k) + 1
open_front history k is =
    ap (λ (l : List Entry). length l) is.last
    ∙ length-append (before_seal history k) (Seal is.seal ∷ [])
