-- What is kept of events once words have turned some of their points.
use Rattle.std.proofs.Common.{◌≡◌, ℕ, Bool, true, false, cond, eqb, List, [], ◌∷◌, ◌++◌, Option}
use Rattle.std.proofs.Common.{None, Some, Result, Ok, Err, refl, sym, ap, subst, ◌∙◌}
use Rattle.std.specs.Prelude.{OnOk}
use Rattle.std.specs.Option.{unwrap_or, option_or}
use Rattle.std.specs.Map.{lookup}
use Rattle.std.proofs.lemmas.Bool.{eqb-true}
use Rattle.ground_types.specs.Touched.{differs}
use Rattle.span_algebra.specs.Normal.{has}
use Rattle.event_store.specs.Standing.{Kept, Events, standing, stood}
use Rattle.event_store.specs.Turned.{kept_first, IsTurned, AreBoth, AreTurned}
use Rattle.event_store.proofs.Lookups.{turned, nothing, standing_is, stood_is, stood_at}

lookup_append : {K X : Type 0} (test : K → Bool) (xs ys : List (K × X)) → lookup test (xs ++ ys)
    ≡ option_or (lookup test xs) (lookup test ys)
lookup_append test [] ys = refl
lookup_append {K} {X} test (x ∷ xs) ys =
    ap (λ (o : Option X). cond (test x.0) (Some x.1) o) (lookup_append test xs ys) ∙ by (test x.0)
  where
    by : (b : Bool) → cond b (Some x.1) (option_or (lookup test xs) (lookup test ys))
        ≡ option_or (cond b (Some x.1) (lookup test xs)) (lookup test ys)
    by true = refl
    by false = refl

both_append : (old : Events) (e : ℕ) (a b c d : Option Kept) → AreBoth old e a b
    → AreBoth old e c d → AreBoth old e (option_or a c) (option_or b d)
both_append old e None None c d first second = second
both_append old e (Some k) (Some m) c d first second = first
both_append old e None (Some m) c d first second = absurd first
both_append old e (Some k) None c d first second = absurd first

-- one more event that turns
pub turned_more : (old before now fresh after : Events) (event : ℕ) (k m : Kept)
    → now ≡ before ++ (event, k) ∷ [] → after ≡ fresh ++ (event, m) ∷ []
    → AreTurned old before fresh → IsTurned old event k m → AreTurned old now after
turned_more old before now fresh after event k m grown put all one e =
    subst (λ (o : Option Kept). AreBoth old e o (lookup (eqb e) after))
    (sym (ap (lookup (eqb e)) grown ∙ lookup_append (eqb e) before ((event, k) ∷ [])))
    (subst (λ (o : Option Kept). AreBoth old e (option_or (lookup (eqb e) before)
    (lookup (eqb e) ((event, k) ∷ []))) o)
    (sym (ap (lookup (eqb e)) put ∙ lookup_append (eqb e) fresh ((event, m) ∷ [])))
    (both_append old e (lookup (eqb e) before) (lookup (eqb e) fresh)
    (lookup (eqb e) ((event, k) ∷ [])) (lookup (eqb e) ((event, m) ∷ [])) (all e)
    (last (eqb e event) refl)))
  where
    last : (b : Bool) → eqb e event ≡ b → AreBoth old e (cond b (Some k) None)
        (cond b (Some m) None)
    last true is = subst (λ (n : ℕ). IsTurned old n k m) (sym (eqb-true e event is)) one
    last false is = tt

-- one more event that is put in its place
pub put_more : (rest all old new : Events) (event : ℕ) (k : Kept) → all ≡ rest ++ (event, k) ∷ []
    → ((e : ℕ) → lookup (eqb e) new ≡ cond (eqb event e) (Some k) (lookup (eqb e) old)) → (e : ℕ)
    → kept_first rest new e ≡ kept_first all old e
put_more rest all old new event k is put e =
    ap (λ (o : Option Kept). unwrap_or (option_or (lookup (eqb e) rest) o) nothing)
    (put e ∙ ap (λ (c : Bool). cond c (Some k) (lookup (eqb e) old)) (turned event e))
    ∙ by (lookup (eqb e) rest) (eqb e event) (lookup (eqb e) old)
    ∙ ap (λ (o : Option Kept). unwrap_or (option_or o (lookup (eqb e) old)) nothing)
    (sym (ap (lookup (eqb e)) is ∙ lookup_append (eqb e) rest ((event, k) ∷ [])))
  where
    by : (a : Option Kept) (b : Bool) (o : Option Kept)
        → unwrap_or (option_or a (cond b (Some k) o)) nothing
        ≡ unwrap_or (option_or (option_or a (cond b (Some k) None)) o) nothing
    by None true o = refl
    by None false o = refl
    by (Some m) b o = refl

-- what a call ensures where it succeeds, once it is known to have succeeded
pub on_ok_at : {A E : Type 0} (r : Result A E) (x : A) (P : Type 0) → r ≡ Ok x → OnOk r P → P
on_ok_at (Ok y) x P is holds = holds
on_ok_at (Err e) x P is holds = cc

unturned : (a : Bool) → a ≡ differs a false
unturned true = refl
unturned false = refl

turned_twice : (a b : Bool) → differs a (differs a b) ≡ b
turned_twice true true = refl
turned_twice true false = refl
turned_twice false b = refl

module _ (old turned_store fresh new entries : Events) (all : AreTurned old turned_store fresh)
    (seen : entries ≡ old) (was_put : (e : ℕ) → kept_first [] new e ≡ kept_first fresh entries e)
  where
    put : (e : ℕ) → kept_first [] new e ≡ kept_first fresh old e
    put e = was_put e ∙ ap (λ (es : Events). kept_first fresh es e) seen

    -- where each event stands
    pub told_standing : (e t : ℕ) (after : Bool)
        → has (standing turned_store e) t ≡ differs (has (standing old e) t) after
        → has (standing new e) t ≡ after
    told_standing e t after says =
        ap (λ p. has p t) (standing_is e new ∙ ap (λ (k : Kept). k.points) (put e))
        ∙ by (lookup (eqb e) turned_store) (lookup (eqb e) fresh) (all e)
        ∙ ap (differs (has (standing old e) t)) (sym (ap (λ p. has p t)
        (standing_is e turned_store)) ∙ says)
        ∙ turned_twice (has (standing old e) t) after
      where
        by : (a b : Option Kept) → AreBoth old e a b
            → has (unwrap_or (option_or b (lookup (eqb e) old)) nothing).points t
            ≡ differs (has (standing old e) t) (has (unwrap_or a nothing).points t)
        by None None both = ap (λ p. has p t) (sym (standing_is e old))
            ∙ unturned (has (standing old e) t)
        by (Some k) (Some m) both = both.standing t
        by None (Some m) both = absurd both
        by (Some k) None both = absurd both

    -- and that each stood where it did
    pub told_stood : (e t : ℕ) → stood new e t ≡ stood old e t
    told_stood e t = stood_is e t new ∙ ap (λ (k : Kept). stood_at k t) (put e)
        ∙ by (lookup (eqb e) turned_store) (lookup (eqb e) fresh) (all e)
      where
        by : (a b : Option Kept) → AreBoth old e a b
            → stood_at (unwrap_or (option_or b (lookup (eqb e) old)) nothing) t ≡ stood old e t
        by None None both = sym (stood_is e t old)
        by (Some k) (Some m) both = both.settled t
        by None (Some m) both = absurd both
        by (Some k) None both = absurd both
