-- Where the input events of a query occur.
use Rattle.std.proofs.Common.{◌≡◌, ℕ, zero, suc, ◌+◌, ◌<◌, ◌≤◌, Bool, true, false, ◌&&◌, ◌||◌, leb}
use Rattle.std.proofs.Common.{ltb, eqb, List, [], ◌∷◌, map, sym, ◌∙◌, ap, ap₂, arith}
use Rattle.std.specs.List.{flat_map, range_with_len}
use Rattle.std.proofs.Math.Bool.{and-false, and-or_distrib_left}
use Rattle.std.proofs.lemmas.Bool.Decides.{nat_tests}
use Rattle.std.proofs.lemmas.List.Folds.{list_any-append}
use Rattle.ground_types.specs.Members.{contains}
use Rattle.ground_types.specs.Recognition.{is_among}
use Rattle.ground_types.specs.Rows.{points}
use Rattle.ground_types.specs.History.{stands, before_seal}
use Rattle.ground_types.specs.Publication.{events_of_query}
use Rattle.ground_types.specs.Windows.{left, right}
use Rattle.ground_types.proofs.Points.{points_are}
use Rattle.ground_types.specs.declared.entries.Entry.{Entry}
use Rattle.ground_types.specs.declared.program.Program.{Program}
use Rattle.query_ask.proofs.TrueAnswers.{inside_is}
use Rattle.delay_revise.specs.Published.{OccurIn}

among_one : (event other t : ℕ) (xs : List ℕ)
    → is_among (map (λ t. record { event = other; at = t }) xs) event t
    ≡ (eqb other event && contains xs t)
among_one event other t [] = sym (and-false (eqb other event))
among_one event other t (x ∷ xs) =
    ap (λ (b : Bool). (eqb other event && eqb x t) || b) (among_one event other t xs)
    ∙ sym (and-or_distrib_left (eqb other event) (eqb x t) (contains xs t))

none_among : (a e : ℕ) (b : Bool) → false ≡ (leb a e && ltb e (a + 0) && b)
none_among a e b = grind (arith, nat_tests)

first_among : (a n e : ℕ) (x y : Bool) → (a ≡ e → x ≡ y)
    → ((eqb a e && x) || (leb (a + 1) e && ltb e (a + 1 + n) && y)) ≡ (leb a e && ltb e (a + suc n)
    && y)
first_among a n e true true same = grind (arith, nat_tests)
first_among a n e true false same = grind (arith, nat_tests)
first_among a n e false true same = grind (arith, nat_tests)
first_among a n e false false same = grind (arith, nat_tests)

among_all : (at : ℕ → List ℕ) (a n event t : ℕ) →
    is_among (flat_map (λ other. map (λ t. record { event = other; at = t }) (at other))
    (range_with_len a n)) event t
    ≡ (leb a event && ltb event (a + n) && contains (at event) t)
among_all at a zero event t = none_among a event (contains (at event) t)
among_all at a (suc n) event t =
    list_any-append (λ occ. eqb occ.event event && eqb occ.at t)
    (map (λ t. record { event = a; at = t }) (at a))
    (flat_map (λ other. map (λ t. record { event = other; at = t }) (at other))
    (range_with_len (a + 1) n))
    ∙ ap₂ (λ (x y : Bool). x || y) (among_one event a t (at a)) (among_all at (a + 1) n event t)
    ∙ first_among a n event (contains (at a) t) (contains (at event) t)
    (λ is. ap (λ (e : ℕ). contains (at e) t) is)

inside_once : (w q t e events : ℕ) (b : Bool) → e < events →
    (ltb w t && leb t q && (leb 0 e && ltb e (0 + events) && (ltb w t && leb t q && b)))
    ≡ (ltb w t && leb t q && b)
inside_once w q t e events true lt = grind (arith, nat_tests)
inside_once w q t e events false lt = grind (arith, nat_tests)

-- an input event of the program occurs in query k at the points of the window at which it stands
pub occurs_where : (program : Program) (history : List Entry) (k event t : ℕ)
    → event < program.events →
    (ltb (left program.plan k) t && leb t (right program.plan k)
    && is_among (events_of_query program history k) event t)
    ≡ (ltb (left program.plan k) t && leb t (right program.plan k)
    && stands (before_seal history k) event t)
occurs_where program history k event t within =
    let w = left program.plan k in
    let q = right program.plan k in
    let le : w ≤ q = omega arith in
    let here : ℕ → List ℕ = λ e. points (stands (before_seal history k) e) w q in
    let each : contains (here event) t ≡ (ltb w t && leb t q && stands (before_seal history k)
    event t) =
    (points_are (stands (before_seal history k) event) w q le).each t in
    ap (λ (b : Bool). ltb w t && leb t q && b)
    (among_all here 0 program.events event t
    ∙ ap (λ (b : Bool). leb 0 event && ltb event (0 + program.events) && b) each)
    ∙ inside_once w q t event program.events (stands (before_seal history k) event t) within

-- so at a point of the window it occurs where it is known to
pub occurs_there : (program : Program) (history : List Entry) (k : ℕ) (occurs : ℕ → ℕ → Bool)
    (event t : ℕ) → OccurIn program history k occurs → event < program.events
    → left program.plan k < t → t ≤ right program.plan k →
    (ltb (left program.plan k) t && leb t (right program.plan k)
    && is_among (events_of_query program history k) event t) ≡ occurs event t
occurs_there program history k occurs event t events known above within =
    occurs_where program history k event t known
    ∙ inside_is (left program.plan k) (right program.plan k) t (stands (before_seal history k)
    event t) above within
    ∙ sym (events event t known above within)
