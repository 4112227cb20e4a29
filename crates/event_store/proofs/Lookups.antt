-- What is kept of an event, by what a map's look-up says of its number.
use Rattle.std.proofs.Common.{◌≡◌, ◌==◌, ℕ, Bool, true, false, cond, ◌&&◌, ◌||◌, not, eqb, List, []}
use Rattle.std.proofs.Common.{◌∷◌, Option, None, Some, if◌then◌else◌, refl, sym, ap, ◌∙◌, arith}
use Rattle.std.specs.Option.{unwrap_or}
use Rattle.std.specs.Map.{lookup, set_value}
use Rattle.std.proofs.lemmas.Bool.{eqb-true}
use Rattle.std.proofs.lemmas.Option.{same_Some}
use Rattle.std.proofs.lemmas.Bool.Decides.{nat_tests}
use Rattle.ground_types.specs.Touched.{differs}
use Rattle.span_algebra.specs.Normal.{has}
use Rattle.event_store.specs.Standing.{Kept, Events, standing, changed, stood}

pub turned : (a b : ℕ) → eqb a b ≡ eqb b a
turned a b = grind (arith, nat_tests)

-- what is kept of an event that was never told
abbrev pub nothing : Kept
nothing = record { points = []; changed = [] }

abbrev pub kept_of : Events → ℕ → Kept
kept_of events event = unwrap_or (lookup (eqb event) events) nothing

-- a part of what an entry keeps, or that of the rest, as the look-up has them
first_or_rest : (part : Kept → List ℕ) (k : Kept) (rest : List ℕ) (found : Option Kept) (b : Bool)
    → rest ≡ part (unwrap_or found nothing)
    → (if b then part k else rest) ≡ part (unwrap_or (cond b (Some k) found) nothing)
first_or_rest part k rest found true others = refl
first_or_rest part k rest found false others = others

pub standing_is : (event : ℕ) (events : Events) → standing events event
    ≡ (kept_of events event).points
standing_is event [] = refl
standing_is event (e ∷ rest) =
    ap (λ (b : Bool). if b then e.1.points else standing rest event) (turned e.0 event)
    ∙ first_or_rest (λ k. k.points) e.1 (standing rest event) (lookup (eqb event) rest)
    (eqb event e.0) (standing_is event rest)

pub changed_is : (event : ℕ) (events : Events) → changed events event
    ≡ (kept_of events event).changed
changed_is event [] = refl
changed_is event (e ∷ rest) =
    ap (λ (b : Bool). if b then e.1.changed else changed rest event) (turned e.0 event)
    ∙ first_or_rest (λ k. k.changed) e.1 (changed rest event) (lookup (eqb event) rest)
    (eqb event e.0) (changed_is event rest)

abbrev pub stood_at : Kept → ℕ → Bool
stood_at k t = differs (has k.points t) (has k.changed t)

pub stood_is : (event t : ℕ) (events : Events) → stood events event t
    ≡ stood_at (kept_of events event) t
stood_is event t events = λ i. differs (has (standing_is event events i) t)
    (has (changed_is event events i) t)

module _ (event : ℕ) where
  -- what the entry that the look-up finds keeps
  pub kept_found : (events : Events) (k : Kept) → Some k ≡ lookup (eqb event) events
      → kept_of events event ≡ k
  kept_found events k is = ap (λ found. unwrap_or found nothing) (sym is)

  -- and nothing where the look-up finds none
  pub kept_missing : (events : Events) → None ≡ lookup (eqb event) events → kept_of events event
      ≡ nothing
  kept_missing events is = ap (λ found. unwrap_or found nothing) (sym is)

  -- an event that stands nowhere stands no more at a point
  pub never_stood : (events : Events) (at : ℕ) → kept_of events event ≡ nothing → (e t : ℕ)
      → has (standing events e) t ≡ (has (standing events e) t && not ((e == event) && (t == at)))
  never_stood events at none e t = by (eqb e event) refl
    where
      by : (b : Bool) → eqb e event ≡ b → has (standing events e) t ≡ (has (standing events e) t
          && not (b && (t == at)))
      by true is =
          let nowhere = ap (λ p. has p t) (standing_is e events
          ∙ ap (λ (n : ℕ). (kept_of events n).points) (eqb-true e event is)
          ∙ ap (λ k. k.points) none) in
          nowhere ∙ sym (ap (λ (b : Bool). b && not (t == at)) nowhere)
      by false is = same (has (standing events e) t)
        where
          same : (b : Bool) → b ≡ (b && true)
          same true = refl
          same false = refl

  -- writing what is there leaves the entries as they were
  pub written_again : (events : Events) (k : Kept) → Some k ≡ lookup (eqb event) events
      → set_value (eqb event) events k ≡ events
  written_again [] k is = refl
  written_again (e ∷ rest) k is = by (eqb event e.0) is (written_again rest k)
    where
      by : (b : Bool) → Some k ≡ cond b (Some e.1) (lookup (eqb event) rest)
          → (Some k ≡ lookup (eqb event) rest → set_value (eqb event) rest k ≡ rest)
          → cond b ((e.0, k) ∷ rest) (e ∷ set_value (eqb event) rest k) ≡ e ∷ rest
      by true found later = ap (λ p. (e.0, p) ∷ rest) (same_Some k e.1 found)
      by false found later = ap (λ es. e ∷ es) (later found)

  -- what another is kept of this event, and of each other the same
  module _ (old new : Events) (k : Kept) (put : (e : ℕ) → lookup (eqb e) new ≡ cond (eqb event e)
      (Some k) (lookup (eqb e) old)) where
    kept_by : (e : ℕ) (b : Bool) → eqb e event ≡ b → kept_of new e ≡ cond b k (kept_of old e)
    kept_by e b is = ap (λ found. unwrap_or found nothing) (put e
        ∙ ap (λ (c : Bool). cond c (Some k) (lookup (eqb e) old)) (turned event e ∙ is)) ∙ either b
      where
        either : (c : Bool) → unwrap_or (cond c (Some k) (lookup (eqb e) old)) nothing
            ≡ cond c k (kept_of old e)
        either true = refl
        either false = refl

    -- a question of each event and point that this one's entry answers by `here`, and that keeps
    -- its answer elsewhere
    asked : (ask : Kept → ℕ → Bool) (here : Bool → ℕ → Bool)
        → ((t : ℕ) → ask k t ≡ here (ask (kept_of old event) t) t) → (e t : ℕ) →
        ask (kept_of new e) t ≡ cond (eqb e event) (here (ask (kept_of old e) t) t)
        (ask (kept_of old e) t)
    asked ask here answered e t = by (eqb e event) refl
      where
        by : (b : Bool) → eqb e event ≡ b → ask (kept_of new e) t
            ≡ cond b (here (ask (kept_of old e) t) t) (ask (kept_of old e) t)
        by true is = ap (λ p. ask p t) (kept_by e true is) ∙ answered t
            ∙ ap (λ (n : ℕ). here (ask (kept_of old n) t) t) (sym (eqb-true e event is))
        by false is = ap (λ p. ask p t) (kept_by e false is)

    -- where each event stands, once this one stands at one more point
    pub stands_too : (at : ℕ) → ((t : ℕ) → has k.points t ≡ (has (kept_of old event).points t
        || (t == at)))
        → (e t : ℕ) → has (standing new e) t
        ≡ (has (standing old e) t || ((e == event) && (t == at)))
    stands_too at added e t =
        ap (λ p. has p t) (standing_is e new) ∙ asked (λ p n. has p.points n) (λ b n. b
        || (n == at)) added e t
        ∙ by (eqb e event) (has (kept_of old e).points t)
        ∙ ap (λ p. has p t || ((e == event) && (t == at))) (sym (standing_is e old))
      where
        by : (c b : Bool) → cond c (b || (t == at)) b ≡ (b || (c && (t == at)))
        by true b = refl
        by false true = refl
        by false false = refl

    -- and once it stands at one point less
    pub stands_no_more : (at : ℕ) → ((t : ℕ) → has k.points t ≡ (has (kept_of old event).points t
        && not (t == at)))
        → (e t : ℕ) → has (standing new e) t
        ≡ (has (standing old e) t && not ((e == event) && (t == at)))
    stands_no_more at removed e t =
        ap (λ p. has p t) (standing_is e new) ∙ asked (λ p n. has p.points n) (λ b n. b
        && not (n == at)) removed e t
        ∙ by (eqb e event) (has (kept_of old e).points t)
        ∙ ap (λ p. has p t && not ((e == event) && (t == at))) (sym (standing_is e old))
      where
        by : (c b : Bool) → cond c (b && not (t == at)) b ≡ (b && not (c && (t == at)))
        by true b = refl
        by false true = refl
        by false false = refl

    -- each event stood where it did, where this one's marks say the same
    pub stood_still : ((t : ℕ) → stood_at k t ≡ stood_at (kept_of old event) t) → (e t : ℕ)
        → stood new e t ≡ stood old e t
    stood_still same e t = stood_is e t new ∙ asked stood_at (λ b n. b) same e t
        ∙ by (eqb e event) (stood_at (kept_of old e) t) ∙ sym (stood_is e t old)
      where
        by : (c b : Bool) → cond c b b ≡ b
        by true b = refl
        by false b = refl
