-- A unit that opens with nothing, and none of whose rules has to be looked at, has no rows.
use Rattle.std.proofs.Common.{subst, ◌≡◌, ℕ, zero, suc, ◌+◌, ◌-◌, ◌<◌, ◌≤◌, Bool, true, false}
use Rattle.std.proofs.Common.{true≢false}
use Rattle.std.proofs.Common.{cond, ◌&&◌, ◌||◌, List, [], ◌∷◌, ◌++◌, map, filter, length}
use Rattle.std.proofs.Common.{Option, None, refl, sym, ◌∙◌, ap, ap₂, arith}
use Rattle.std.specs.Prelude.{replicate}
use Rattle.std.specs.List.{list_any, range_with_len}
use Rattle.std.proofs.lemmas.List.Sums.{sum_by-cons, sum_by-append}
use Rattle.std.proofs.lemmas.List.{nil_from_length}
use Rattle.ground_types.specs.Truth.{Table, happens, body_holds, is_value}
use Rattle.ground_types.specs.Members.{contains}
use Rattle.ground_types.specs.Inertia.{next_value, value_after}
use Rattle.ground_types.specs.Recognition.{values_of, value_of_unit}
use Rattle.ground_types.specs.Rows.{runs, row, points}
use Rattle.ground_types.specs.Publication.{fluent_rows, event_row}
use Rattle.ground_types.proofs.Points.{points_are}
use Rattle.ground_types.specs.declared.program.Rule.{Rule}
use Rattle.ground_types.specs.declared.program.UnitKind.{UnitKind}
use Rattle.ground_types.specs.declared.program.UnitKind.TheVariants as unit_kind
use Rattle.simple_fluent.specs.Rows.{pairs}
use Rattle.layer_cache.specs.Cached.{empty_by}
use Rattle.query_ask.specs.Right.{published}
use Rattle.ground_types.specs.Touched.{rules_of}
use Rattle.event_store.specs.Standing.{Events}
use Rattle.layer_cache.specs.Rows.{Cached}
use Rattle.point_rule.specs.Known.{known, is_open}
use Rattle.delay_revise.specs.Working.{is_static, rows_over, triggers_of, touched_of, open_points}
use Rattle.delay_revise.proofs.Alike.{row_alike, points_alike}
use Rattle.query_ask.proofs.TrueAnswers.{inside_is}

-- ---- rules that are true nowhere

nowhere : (test : ℕ → Bool) (w q t : ℕ) → length (points test w q) ≡ 0 → w < t → t ≤ q
    → test t ≡ false
nowhere test w q t none low high =
    sym (inside_is w q t (test t) low high)
    ∙ sym ((points_are test w q (omega arith)).each t)
    ∙ ap (λ (xs : List ℕ). contains xs t) (nil_from_length (points test w q) none)

body_by : (a b : Bool) → a ≡ false → (a && b) ≡ false
body_by true b is = absurd (true≢false is)
body_by false b is = refl

-- no body of these rules is true at an event point of the window
abbrev AreIdle : Table → List Rule → ℕ → ℕ → Type 0
AreIdle table rules w q = (t : ℕ) → w < t → t ≤ q → (values_of table rules t ≡ [])
    × (list_any (λ rule. body_holds table rule t) rules ≡ false)

idle_more : (table : Table) (rule : Rule) (rest : List Rule) (t : ℕ) (b : Bool) → b ≡ false →
    (values_of table rest t ≡ []) × (list_any (λ rule. body_holds table rule t) rest ≡ false) →
    (map (λ rule. rule.value) (cond b (rule ∷ filter (λ rule. body_holds table rule t) rest)
    (filter (λ rule. body_holds table rule t) rest)) ≡ [])
    × ((b || list_any (λ rule. body_holds table rule t) rest) ≡ false)
idle_more table rule rest t true is others = absurd (true≢false is)
idle_more table rule rest t false is others = others

are_idle : (table : Table) (rules : List Rule) (w q : ℕ) → triggers_of table rules w q ≡ 0
    → AreIdle table rules w q
are_idle table [] w q none t low high = (refl, refl)
are_idle table (rule ∷ rest) w q none t low high =
    let both : length (points (happens table rule.trigger) w q) + triggers_of table rest w q
    ≡ 0 =
    sym (sum_by-cons (λ rule. length (points (happens table rule.trigger) w q)) rule rest) ∙ none in
    let out : happens table rule.trigger t ≡ false = nowhere (happens table rule.trigger) w q t
    (omega arith) low high in
    idle_more table rule rest t (body_holds table rule t) (body_by (happens table rule.trigger t) _
    out)
    (are_idle table rest w q (omega arith) t low high)

-- ---- what follows

no_value : (ins outs : ℕ → List ℕ) (w n : ℕ) → ((t : ℕ) → w < t → t ≤ w + n → ins t ≡ [])
    → value_after None ins outs w n ≡ None
no_value ins outs w zero none = refl
no_value ins outs w (suc n) none =
    ap₂ (λ (o : Option ℕ) (xs : List ℕ). next_value o xs (outs (w + suc n)))
    (no_value ins outs w n (λ t low high. none t low (omega arith)))
    (none (w + suc n) (omega arith) (omega arith))

no_runs : (w n : ℕ) → runs (λ t. false) w n ≡ []
no_runs w zero = refl
no_runs w (suc n) = no_runs w n

no_kept : (xs : List ℕ) → filter (λ x. false) xs ≡ []
no_kept [] = refl
no_kept (x ∷ xs) = no_kept xs

empty_rows_are : (f : ℕ → List (ℕ × ℕ)) (a count : ℕ) → ((v : ℕ) → f v ≡ [])
    → map pairs (replicate count []) ≡ map f (range_with_len a count)
empty_rows_are f a zero none = refl
empty_rows_are f a (suc n) none = ap₂ (λ (x : List (ℕ × ℕ)) (xs : List (List (ℕ × ℕ))). x ∷ xs)
    (sym (none a)) (empty_rows_are f (a + 1) n none)

simple_idle : (table : Table) (count : ℕ) (initiate terminate : List Rule) (w q : ℕ)
    → AreIdle table initiate w q → (v : ℕ) →
    row (λ t. is_value (value_of_unit table None (unit_kind.Simple None initiate terminate) w t) v)
    w q ≡ []
simple_idle table count initiate terminate w q idle v =
    row_alike (λ t. is_value (value_of_unit table None (unit_kind.Simple None initiate terminate) w
    t) v) (λ t. false) w q
    (λ t low high. ap (λ (o : Option ℕ). is_value o v)
    (no_value (values_of table initiate) (values_of table terminate) w (t - (w + 1)) (λ s above up.
    (idle s above (omega arith)).0)))
    ∙ no_runs w (q + 1 - w)

fluent_idle : (table : Table) (count : ℕ) (initially : Option ℕ) (initiate terminate : List Rule)
    (w q : ℕ) → triggers_of table (initiate ++ terminate) w q ≡ 0 →
    published (empty_by (unit_kind.Simple initially initiate terminate) count)
    ≡ rows_over table None count (unit_kind.Simple initially initiate terminate) w q
fluent_idle table count initially initiate terminate w q none =
    let all : triggers_of table initiate w q + triggers_of table terminate w q ≡ 0 =
    sym (sum_by-append (λ rule. length (points (happens table rule.trigger) w q)) initiate
    terminate) ∙ none in
    ap fluent_rows (empty_rows_are _ 0 count (simple_idle table count initiate terminate w q
    (are_idle table initiate w q (omega arith))))

-- a unit without an opening value, none of whose triggers occurs, comes to the empty rows
pub idle_rows : (table : Table) (count : ℕ) (kind : UnitKind) (w q : ℕ) → is_static kind ≡ false
    → triggers_of table (rules_of kind) w q ≡ 0
    → published (empty_by kind count) ≡ rows_over table None count kind w q
idle_rows table count (unit_kind.Simple initially initiate terminate) w q built none =
    fluent_idle table count initially initiate terminate w q none
idle_rows table count (unit_kind.Static exprs) w q built none = absurd (true≢false built)
idle_rows table count (unit_kind.Derived rules) w q built none =
    let idle : AreIdle table rules w q = are_idle table rules w q none in
    ap event_row
    (sym (points_alike (λ t. list_any (λ rule. body_holds table rule t) rules) (λ t. false) w q
    (λ t low high. (idle t low high).1)
    ∙ no_kept (range_with_len (w + 1) (q - w))))

-- where one test is true only where another is, it has at most as many points
fewer_by : (a b : Bool) (m n : ℕ) → m ≤ n → (b ≡ false → a ≡ false) → cond a (suc m) m
    ≤ cond b (suc n) n
fewer_by true true m n le is = omega (arith, le)
fewer_by true false m n le is = absurd (true≢false (is refl))
fewer_by false true m n le is = omega (arith, le)
fewer_by false false m n le is = le

cond_length : (b : Bool) (x : ℕ) (xs : List ℕ) → length (cond b (x ∷ xs) xs)
    ≡ cond b (suc (length xs)) (length xs)
cond_length true x xs = refl
cond_length false x xs = refl

fewer : (one two : ℕ → Bool) (xs : List ℕ) → ((t : ℕ) → two t ≡ false → one t ≡ false)
    → length (filter one xs) ≤ length (filter two xs)
fewer one two [] is = omega arith
fewer one two (x ∷ xs) is =
    subst (λ (n : ℕ). n ≤ length (filter two (x ∷ xs)))
    (sym (cond_length (one x) x (filter one xs)))
    (subst (λ (n : ℕ). cond (one x) (suc (length (filter one xs))) (length (filter one xs)) ≤ n)
    (sym (cond_length (two x) x (filter two xs)))
    (fewer_by (one x) (two x) (length (filter one xs)) (length (filter two xs))
    (fewer one two xs is) (is x)))

-- rules have no open points where none of their triggers occurs
pub idle_touched : (before : Option ℕ) (cached : Cached) (store : Events) (rules : List Rule)
    (w q : ℕ) → triggers_of (known cached.rows store) rules w q ≡ 0
    → touched_of before cached store rules w q ≡ 0
idle_touched before cached store [] w q none = refl
idle_touched before cached store (rule ∷ rest) w q none =
    let both : length (points (happens (known cached.rows store) rule.trigger) w q)
    + triggers_of (known cached.rows store) rest w q ≡ 0 =
    sym (sum_by-cons (λ rule. length (points (happens (known cached.rows store) rule.trigger) w q))
    rule rest) ∙ none in
    omega (
      arith,
      both,
      idle_touched before cached store rest w q (omega (arith, both)),
      fewer (λ t. happens (known cached.rows store) rule.trigger t
          && is_open before cached store rule t) (happens (known cached.rows store) rule.trigger)
          (range_with_len (w + 1) (q - w)) (λ t out. ap (λ (b : Bool). b && is_open before cached
          store rule t) out),
      sum_by-cons (λ (rule : Rule). length (open_points before cached store w q rule)) rule rest,
    )
