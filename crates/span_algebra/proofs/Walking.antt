-- What a walk over the borders of many lists knows, from border to border.
use Rattle.std.proofs.Common.{◌≡◌, ◌⊎◌, inl, inr, ℕ, ◌+◌, ◌<◌, ◌≤◌, Bool, true, false, not, ◌&&◌}
use Rattle.std.proofs.Common.{cond, List, [], ◌∷◌, ◌++◌, length, get_or, All, Option, Some, None}
use Rattle.std.proofs.Common.{refl, sym, ◌∙◌, ap, ap₂, subst, arith, ◌*◌}
use Rattle.std.proofs.lemmas.Bool.Decides.{nat_tests}
use Rattle.std.proofs.lemmas.List.Elements.{All-nil, All-cons, All-head, All-tail}
use Rattle.std.proofs.lemmas.List.Sums.{sum_by-le}
use Rattle.std.proofs.lemmas.List.Sorted.{All-permutation, length_permutation, sum_by_pushed}
use Rattle.std.proofs.lemmas.List.Sorted.{sum_by_popped}
use Rattle.std.specs.List.{sum_by}
use Rattle.std.specs.List.Sorted.{IsPermutation}
use Rattle.std.specs.BinaryHeap.{IsHeap, IsUpperBound}
use Rattle.std.specs.Prelude.{is_some}
use Rattle.std.proofs.HeapSift.{at_most}
use Rattle.span_algebra.specs.declared.spans.Span.{Span}
use Rattle.span_algebra.specs.declared.cursor.Cursor.{Cursor}
use Rattle.span_algebra.specs.declared.cursor.Side.{Side}
use Rattle.span_algebra.specs.declared.cursor.Side.TheVariants.{Wanted, Barred}
use Rattle.span_algebra.specs.declared.walk.Held.{Held}
use Rattle.span_algebra.specs.declared.walk.Test.{Test}
use Rattle.span_algebra.specs.Normal.{IsNormal, IsRisingFrom, covers}
use Rattle.span_algebra.specs.Walk.{answer_of, stands_on, one_on, held_on, count_on, left_of}
use Rattle.span_algebra.specs.Walk.{borders_of, front_of, after_front, by_border, first_at, is_at}
use Rattle.span_algebra.specs.Walk.{IsBefore, AreCursors, IsPast, IsPassed, begun_after, closed_at}
use Rattle.span_algebra.proofs.Borders.{status, Ends, borders_rise, borders_end, covers_status}
use Rattle.span_algebra.proofs.Borders.{status_low, front_from, front_low, rising_past, ends_past}
use Rattle.span_algebra.proofs.Borders.{status_past, ended}
use Rattle.span_algebra.proofs.Covering.{covers_floor}
use Rattle.span_algebra.proofs.Drawing.{IsDrawn, IsDone, drawn_start, drawn_further, drawn_past}
use Rattle.span_algebra.proofs.Drawing.{drawn_end, is_some_after}
use Rattle.span_algebra.proofs.Parts.{rising_lower}
use Rattle.span_algebra.proofs.Sums.{sum_same, sum_none}

-- what a list adds to the count of a side at a point, and what it adds before its next border
abbrev pub adds : Side → ℕ → Cursor → ℕ
adds side t c = one_on side (status c.inside (borders_of c) t) c.side

abbrev pub adds_now : Side → Cursor → ℕ
adds_now side c = one_on side c.inside c.side

-- what the walk looks for, from the counts of both sides at each point
abbrev pub sought : Test → (Side → ℕ → ℕ) → ℕ → Bool
sought test count t = answer_of test (count Wanted t) (count Barred t)

-- a list whose borders are the top or above
pub record IsLeft (top : ℕ) (c : Cursor) : Type 0 where
  pub rising : IsRisingFrom top (borders_of c)
  pub ends : Ends c.inside (borders_of c)
  pub front : front_of (borders_of c) ≡ Some c.at

-- the lists, the counts and the spans are right as far as the top; more borders may be at it
pub record IsOn (test : Test) (count : Side → ℕ → ℕ) (cs : List Cursor) (held : Held)
    (out : List Span) (begun : Option ℕ) (top : ℕ) : Type 0 where
  pub ordered : IsHeap by_border cs
  pub each : All (IsLeft top) cs
  pub counts : (side : Side) (t : ℕ) → top < t → count side t ≡ sum_by (adds side t) cs
  pub now : (side : Side) → held_on side held ≡ sum_by (adds_now side) cs
  pub drawn : IsDrawn (sought test count) 0 top out begun

-- and a span is open where it has to be, or the next border is at the top
pub record IsWalking (test : Test) (count : Side → ℕ → ℕ) (cs : List Cursor) (held : Held)
    (out : List Span) (begun : Option ℕ) (top : ℕ) : Type 0 where
  pub on : IsOn test count cs held out begun top
  pub settled : (is_some begun ≡ answer_of test held.wanted held.barred) ⊎ (first_at cs ≡ Some top)

-- the start

left_by : (inside : Bool) (spans : List Span) → inside ≡ false → IsNormal spans
    → IsRisingFrom 0 (left_of inside spans) × Ends inside (left_of inside spans)
left_by true spans is normal = cc
left_by false spans is normal = (borders_rise 0 spans normal, borders_end spans)

left_from : (c : Cursor) → IsBefore c → IsLeft 0 c
left_from c before =
    let both : IsRisingFrom 0 (borders_of c) × Ends c.inside (borders_of c) =
    left_by c.inside c.left.now before.1 before.0 in
    record { rising = both.0; ends = both.1; front = before.2 }

adds_before : (side : Side) (t : ℕ) (c : Cursor) → IsBefore c → one_on side (covers c.left.now t)
    c.side ≡ adds side t c
adds_before side t c before = rw (before.1, covers_status 0 c.left.now t before.0) refl

one_none : (side of : Side) → one_on side false of ≡ 0
one_none Wanted Wanted = refl
one_none Wanted Barred = refl
one_none Barred Wanted = refl
one_none Barred Barred = refl

none_before : (side : Side) (c : Cursor) → IsBefore c → adds_now side c ≡ 0
none_before side c before = ap (λ (b : Bool). one_on side b c.side) before.1 ∙ one_none side c.side

held_none : (side : Side) (held : Held) → held.wanted ≡ 0 → held.barred ≡ 0 → held_on side held ≡ 0
held_none Wanted held a b = a
held_none Barred held a b = b

pub walking_start : (test : Test) (cs : List Cursor) (held : Held) → AreCursors cs
    → answer_of test 0 0 ≡ false → held.wanted ≡ 0 → held.barred ≡ 0 →
    IsWalking test (λ side. count_on side cs) cs held [] None 0
walking_start test cs held are none a b = record {
  on = record {
    ordered = are.ordered;
    each = λ k d lt. left_from (get_or cs k d) (are.before k d lt);
    counts = λ side t above. sum_same (λ c. one_on side (covers c.left.now t) c.side) (adds side t)
        cs (λ k d lt. adds_before side t (get_or cs k d) (are.before k d lt));
    now = λ side. held_none side held a b
        ∙ sym (sum_none (adds_now side) cs (λ k d lt. none_before side (get_or cs k d)
        (are.before k d lt)));
    drawn = drawn_start (sought test (λ side. count_on side cs)) 0;
  };
  settled = inl (rw (a, b) (sym none));
}

-- one border

-- the border that comes out is the least
least_from : (x : Cursor) (cs : List Cursor) → IsUpperBound by_border x cs
    → All (λ c. x.at ≤ c.at) cs
least_from x [] bound = All-nil (λ c. x.at ≤ c.at)
least_from x (c ∷ cs) bound = All-cons (λ c. x.at ≤ c.at) c cs (at_most c.at x.at bound.0)
    (least_from x cs bound.1)

left_more : (top more : ℕ) (c : Cursor) → IsLeft top c → more ≤ c.at → IsLeft more c
left_more top more c left le = record {
  rising = front_from (borders_of c) top more c.at left.rising left.front le;
  ends = left.ends;
  front = left.front;
}

-- up to the next border nothing changes
adds_low : (side : Side) (at t : ℕ) (c : Cursor) → IsLeft at c → t ≤ at
    → adds side t c ≡ adds_now side c
adds_low side at t c left le = ap (λ (b : Bool). one_on side b c.side)
    (status_low c.inside (borders_of c) at t left.rising le)

-- a list past its border
past_left : (top : ℕ) (c n : Cursor) → IsLeft top c → IsPast c n → IsLeft c.at n
past_left top c n left past = record {
  rising = rw past.borders (rising_lower (c.at + 1) c.at (after_front (borders_of c))
      (rising_past (borders_of c) top c.at left.rising left.front) (omega arith));
  ends = rw (past.borders, past.inside) (ends_past c.inside (borders_of c) c.at left.ends
      left.front);
  front = past.front;
}

past_adds : (side : Side) (top t : ℕ) (c n : Cursor) → IsLeft top c → IsPast c n → c.at < t
    → adds side t c ≡ adds side t n
past_adds side top t c n left past lt = rw (past.borders, past.inside, past.side)
    (ap (λ (b : Bool). one_on side b c.side) (status_past c.inside (borders_of c) c.at t left.front
    lt))

-- the same once the list whose border is next has been taken out; the spans are right up to this
-- border
pub record IsTaken (test : Test) (count : Side → ℕ → ℕ) (x : Cursor) (rest : List Cursor)
    (held : Held) (out : List Span) (begun : Option ℕ) (top : ℕ) : Type 0 where
  pub first : IsLeft top x
  pub each : All (IsLeft x.at) rest
  pub counts : (side : Side) (t : ℕ) → x.at < t → count side t ≡ adds side t x + sum_by
      (adds side t) rest
  pub now : (side : Side) → held_on side held ≡ adds_now side x + sum_by (adds_now side) rest
  pub drawn : IsDrawn (sought test count) 0 x.at out begun

drawn_to : (test : Test) (count : Side → ℕ → ℕ) (cs : List Cursor) (held : Held) (out : List Span)
    (begun : Option ℕ) (top at : ℕ) →
    (is_some begun ≡ answer_of test held.wanted held.barred) ⊎ (first_at cs ≡ Some top)
    → IsDrawn (sought test count) 0 top out begun → top ≤ at →
    first_at cs ≡ Some at → ((side : Side) (t : ℕ) → top < t → t ≤ at
    → count side t ≡ held_on side held) → IsDrawn (sought test count) 0 at out begun
drawn_to test count cs held out begun top at (inl is) drawn low front steady =
    drawn_further (sought test count) 0 top at out begun drawn low
    (λ t above high. ap₂ (answer_of test) (steady Wanted t above high) (steady Barred t above high)
    ∙ sym is)
drawn_to test count cs held out begun top at (inr is) drawn low front steady =
    let same : top ≡ at = cc in
    drawn_further (sought test count) 0 top at out begun drawn low (λ t above high.
    absurd (omega arith))

taken : (test : Test) (count : Side → ℕ → ℕ) (cs rest : List Cursor) (x : Cursor) (held : Held)
    (out : List Span) (begun : Option ℕ) (top : ℕ) →
    IsWalking test count cs held out begun top → IsPermutation cs (x ∷ rest)
    → IsUpperBound by_border x rest → first_at cs ≡ Some x.at →
    IsTaken test count x rest held out begun top
taken test count cs rest x held out begun top w moved bound front =
    let each : All (IsLeft top) (x ∷ rest) = All-permutation (IsLeft top) cs (x ∷ rest) moved
    w.on.each in
    let first : IsLeft top x = All-head (IsLeft top) x rest each in
    let low : top ≤ x.at = front_low (borders_of x) top x.at first.rising first.front in
    let least : All (λ c. x.at ≤ c.at) rest = least_from x rest bound in
    let here : IsLeft x.at x = left_more top x.at x first (omega arith) in
    let others : All (IsLeft x.at) rest = λ k d lt. left_more top x.at (get_or rest k d)
    (All-tail (IsLeft top) x rest each k d lt) (least k d lt) in
    let parts : (f : Cursor → ℕ) → sum_by f cs ≡ f x + sum_by f rest =
    λ f. omega (arith, sum_by_popped f x cs rest moved) in
    let steady : (side : Side) (t : ℕ) → top < t → t ≤ x.at → count side t ≡ held_on side held =
    λ side t above high.
    w.on.counts side t above ∙ parts (adds side t)
    ∙ ap₂ (λ (a b : ℕ). a + b) (adds_low side x.at t x here high)
    (sum_same (adds side t) (adds_now side) rest (λ k d lt. adds_low side x.at t
    (get_or rest k d) (others k d lt) high))
    ∙ sym (w.on.now side ∙ parts (adds_now side)) in
    record {
      first = first;
      each = others;
      counts = λ side t lt. w.on.counts side t (omega arith) ∙ parts (adds side t);
      now = λ side. w.on.now side ∙ parts (adds_now side);
      drawn = drawn_to test count cs held out begun top x.at w.settled w.on.drawn low front steady;
    }

-- the count once the list has turned
held_by : (a b c d e : ℕ) → a + b ≡ c + d → c ≡ b + e → a ≡ d + e
held_by a b c d e one two = omega arith

zero_and : (n : ℕ) → 0 + n ≡ n
zero_and n = omega arith

-- its last border: it holds no more
off : (test : Test) (count : Side → ℕ → ℕ) (rest : List Cursor) (x : Cursor) (held now : Held)
    (out : List Span) (begun : Option ℕ) (top : ℕ) →
    IsTaken test count x rest held out begun top → IsHeap by_border rest →
    ((side : Side) → held_on side now + adds_now side x ≡ held_on side held + one_on side
    (not x.inside) x.side) →
    after_front (borders_of x) ≡ [] → IsOn test count rest now out begun x.at
off test count rest x held now out begun top t ordered turns none =
    let ends : Ends (not x.inside) (after_front (borders_of x)) = ends_past x.inside (borders_of x)
    x.at t.first.ends t.first.front in
    let no : not x.inside ≡ false = ended (not x.inside) (after_front (borders_of x)) none ends in
    let nothing : (side : Side) → one_on side (not x.inside) x.side ≡ 0 =
    λ side. ap (λ (b : Bool). one_on side b x.side) no ∙ one_none side x.side in
    record {
      ordered = ordered;
      each = t.each;
      counts = λ side u lt. t.counts side u lt
          ∙ ap (λ (a : ℕ). a + sum_by (adds side u) rest)
          (ap (λ (b : Bool). one_on side b x.side) (status_past x.inside (borders_of x) x.at u
          t.first.front lt ∙ ap (λ (ps : List ℕ). status (not x.inside) ps u) none)
          ∙ nothing side)
          ∙ zero_and (sum_by (adds side u) rest);
      now = λ side. held_by _ _ _ _ _ (turns side) (t.now side)
          ∙ ap (λ (a : ℕ). a + sum_by (adds_now side) rest) (nothing side)
          ∙ zero_and (sum_by (adds_now side) rest);
      drawn = t.drawn;
    }

-- another border: it goes back among the others
on_again : (test : Test) (count : Side → ℕ → ℕ) (rest cs : List Cursor) (x n : Cursor)
    (held now : Held) (out : List Span) (begun : Option ℕ) (top : ℕ) →
    IsTaken test count x rest held out begun top → IsHeap by_border cs
    → IsPermutation (n ∷ rest) cs → IsPast x n →
    ((side : Side) → held_on side now + adds_now side x ≡ held_on side held + one_on side
    (not x.inside) x.side) →
    IsOn test count cs now out begun x.at
on_again test count rest cs x n held now out begun top t ordered moved past turns =
    let parts : (f : Cursor → ℕ) → sum_by f cs ≡ f n + sum_by f rest =
    λ f. sum_by_pushed f n rest cs moved in
    let same : (side : Side) → one_on side (not x.inside) x.side ≡ adds_now side n =
    λ side. rw (past.inside, past.side) refl in
    record {
      ordered = ordered;
      each = All-permutation (IsLeft x.at) (n ∷ rest) cs moved (All-cons (IsLeft x.at) n rest
          (past_left top x n t.first past) t.each);
      counts = λ side u lt. t.counts side u lt ∙ ap (λ (a : ℕ). a + sum_by (adds side u) rest)
          (past_adds side top u x n t.first past lt) ∙ sym (parts (adds side u));
      now = λ side. held_by _ _ _ _ _ (turns side) (t.now side)
          ∙ ap (λ (a : ℕ). a + sum_by (adds_now side) rest) (same side)
          ∙ sym (parts (adds_now side));
      drawn = t.drawn;
    }

passed_on : (test : Test) (count : Side → ℕ → ℕ) (rest cs : List Cursor) (x : Cursor)
    (held now : Held) (out : List Span) (begun : Option ℕ) (top : ℕ) →
    IsTaken test count x rest held out begun top → IsHeap by_border rest → IsHeap by_border cs
    → IsPassed x rest cs →
    ((side : Side) → held_on side now + adds_now side x ≡ held_on side held + one_on side
    (not x.inside) x.side) →
    IsOn test count cs now out begun x.at
passed_on test count rest cs x held now out begun top t rest_ordered ordered (inl (n, past, moved))
    turns =
    on_again test count rest cs x n held now out begun top t ordered moved past turns
passed_on test count rest cs x held now out begun top t rest_ordered ordered (inr (none, is)) turns
    =
    subst (λ l. IsOn test count l now out begun x.at) (sym is) (off test count rest x held now out
    begun top t rest_ordered turns none)

-- a border less is left
border_less : (ps : List ℕ) (at : ℕ) → front_of ps ≡ Some at
    → length ps ≡ 1 + length (after_front ps)
border_less [] at is = cc
border_less (p ∷ rest) at is = omega arith

abbrev pub borders_left : List Cursor → ℕ
borders_left cs = sum_by (λ c. length (borders_of c)) cs

fewer : (cs rest more : List Cursor) (x : Cursor) (top : ℕ) → IsLeft top x
    → IsPermutation cs (x ∷ rest) → IsPassed x rest more → borders_left more < borders_left cs
fewer cs rest more x top left moved (inl (n, past, again)) =
    let old : borders_left cs ≡ length (borders_of x) + borders_left rest =
    omega (arith, sum_by_popped (λ c. length (borders_of c)) x cs rest moved) in
    let new : borders_left more ≡ length (borders_of n) + borders_left rest =
    sum_by_pushed (λ c. length (borders_of c)) n rest more again in
    let same : length (borders_of n) ≡ length (after_front (borders_of x)) =
    ap length past.borders in
    let less : length (borders_of x) ≡ 1 + length (after_front (borders_of x)) =
    border_less (borders_of x) x.at left.front in
    omega (arith, old, new, same, less)
fewer cs rest more x top left moved (inr (none, is)) =
    let old : borders_left cs ≡ length (borders_of x) + borders_left rest =
    omega (arith, sum_by_popped (λ c. length (borders_of c)) x cs rest moved) in
    let new : borders_left more ≡ borders_left rest = ap borders_left is in
    let less : length (borders_of x) ≡ 1 + length (after_front (borders_of x)) =
    border_less (borders_of x) x.at left.front in
    omega (arith, old, new, less)

-- the count of a side is at most that of the lists
adds_one : (side : Side) (inside : Bool) (of : Side) → one_on side inside of ≤ 1
adds_one side inside of = at_most_one (stands_on side of && inside)
  where
    at_most_one : (b : Bool) → cond b 1 0 ≤ 1
    at_most_one true = omega arith
    at_most_one false = omega arith

pub held_few : (test : Test) (count : Side → ℕ → ℕ) (cs : List Cursor) (held : Held)
    (out : List Span) (begun : Option ℕ) (top : ℕ) →
    IsWalking test count cs held out begun top → (side : Side) → held_on side held ≤ length cs
held_few test count cs held out begun top w side =
    let few : sum_by (adds_now side) cs ≤ length cs * 1 = sum_by-le (adds_now side) 1 cs (λ k d lt.
    adds_one side (get_or cs k d).inside (get_or cs k d).side) in
    omega (arith, w.on.now side, few)

-- and at least what a list among them adds
pub held_some : (test : Test) (count : Side → ℕ → ℕ) (x : Cursor) (rest : List Cursor)
    (held : Held) (out : List Span) (begun : Option ℕ) (top : ℕ) →
    IsTaken test count x rest held out begun top → (side : Side) → one_on side x.inside x.side
    ≤ held_on side held
held_some test count x rest held out begun top t side = omega (arith, t.now side)

-- what the calls of one turn say
pub record IsTurn (cs : List Cursor) (x : Cursor) (rest more : List Cursor) (held now : Held) :
    Type 0 where
  pub moved : IsPermutation cs (x ∷ rest)
  pub first : x ≡ get_or cs 0 x
  pub rest_ordered : IsHeap by_border cs → IsHeap by_border rest
  pub bound : IsHeap by_border cs → IsUpperBound by_border x rest
  pub ordered : IsHeap by_border rest → IsHeap by_border more
  pub passed : IsPassed x rest more
  pub turns : (side : Side) → held_on side now + adds_now side x ≡ held_on side held + one_on side
      (not x.inside) x.side

pub turn_is : (cs : List Cursor) (x : Cursor) (rest more : List Cursor) (held now : Held)
    → IsPermutation cs (x ∷ rest) → x ≡ get_or cs 0 x →
    (IsHeap by_border cs → IsHeap by_border rest × IsUpperBound by_border x cs)
    → (IsHeap by_border cs → IsUpperBound by_border x rest) →
    (IsHeap by_border rest → IsHeap by_border more) → IsPassed x rest more →
    ((side : Side) → held_on side now + adds_now side x ≡ held_on side held + one_on side
    (not x.inside) x.side) → IsTurn cs x rest more held now
turn_is cs x rest more held now moved first rest_ordered bound ordered passed turns = record {
  moved = moved;
  first = first;
  rest_ordered = λ h. (rest_ordered h).0;
  bound = bound;
  ordered = ordered;
  passed = passed;
  turns = turns;
}

front_is : (cs rest : List Cursor) (x : Cursor) → length (x ∷ rest) ≡ length cs → x ≡ get_or cs 0 x
    → first_at cs ≡ Some x.at
front_is [] rest x long is = absurd (omega (arith, long))
front_is (c ∷ cs) rest x long is = ap (λ (d : Cursor). Some d.at) (sym is)

pub taken_out : (test : Test) (count : Side → ℕ → ℕ) (cs rest : List Cursor) (x : Cursor)
    (held : Held) (out : List Span) (begun : Option ℕ) (top : ℕ) →
    IsWalking test count cs held out begun top → IsPermutation cs (x ∷ rest) → x ≡ get_or cs 0 x
    → (IsHeap by_border cs → IsUpperBound by_border x rest) →
    IsTaken test count x rest held out begun top
taken_out test count cs rest x held out begun top w moved first bound =
    taken test count cs rest x held out begun top w moved (bound w.on.ordered)
    (front_is cs rest x (length_permutation cs (x ∷ rest) moved) first)

pub turned_on : (test : Test) (count : Side → ℕ → ℕ) (cs rest more : List Cursor) (x : Cursor)
    (held now : Held) (out : List Span) (begun : Option ℕ) (top : ℕ) →
    IsWalking test count cs held out begun top → IsTurn cs x rest more held now
    → IsOn test count more now out begun x.at
turned_on test count cs rest more x held now out begun top w turn =
    passed_on test count rest more x held now out begun top
    (taken_out test count cs rest x held out begun top w turn.moved turn.first turn.bound)
    (turn.rest_ordered w.on.ordered) (turn.ordered (turn.rest_ordered w.on.ordered)) turn.passed
    turn.turns

pub turned_fewer : (test : Test) (count : Side → ℕ → ℕ) (cs rest more : List Cursor) (x : Cursor)
    (held now : Held) (out : List Span) (begun : Option ℕ) (top : ℕ) →
    IsWalking test count cs held out begun top → IsTurn cs x rest more held now
    → borders_left more < borders_left cs
turned_fewer test count cs rest more x held now out begun top w turn =
    fewer cs rest more x top (taken_out test count cs rest x held out begun top w turn.moved
    turn.first turn.bound).first turn.moved turn.passed

-- the next border of all is at the point, or beyond it

pub pending : (test : Test) (count : Side → ℕ → ℕ) (cs : List Cursor) (held : Held)
    (out : List Span) (begun : Option ℕ) (at : ℕ) →
    IsOn test count cs held out begun at → is_at (first_at cs) at ≡ true
    → IsWalking test count cs held out begun at
pending test count cs held out begun at on is = record {
  on = on;
  settled =
      inr (at_point (first_at cs) at is);
}
  where
    at_point : (front : Option ℕ) (at : ℕ) → is_at front at ≡ true → front ≡ Some at
    at_point None at is = cc
    at_point (Some p) at is = let same : p ≡ at = grind (arith, nat_tests) in ap Some same

beyond : (at : ℕ) (cs : List Cursor) → All (IsLeft at) cs → is_at (first_at cs) at ≡ false →
    ((p : ℕ) → first_at cs ≡ Some p → All (λ c. p ≤ c.at) cs) → All (IsLeft (at + 1)) cs
beyond at [] each is least = All-nil (IsLeft (at + 1))
beyond at (c ∷ cs) each is least =
    let first : IsLeft at c = All-head (IsLeft at) c cs each in
    let low : at ≤ c.at = front_low (borders_of c) at c.at first.rising first.front in
    let above : at + 1 ≤ c.at = grind (arith, nat_tests) in
    λ k d lt. left_more at (at + 1) (get_or (c ∷ cs) k d) (each k d lt)
    (omega (arith, least c.at refl k d lt))

pub settled : (test : Test) (count : Side → ℕ → ℕ) (cs : List Cursor) (held : Held)
    (out : List Span) (begun : Option ℕ) (at : ℕ) →
    IsOn test count cs held out begun at → is_at (first_at cs) at ≡ false
    → ((p : ℕ) → first_at cs ≡ Some p → IsHeap by_border cs → All (λ c. p ≤ c.at) cs) →
    IsWalking test count cs held (out ++ closed_at begun (answer_of test held.wanted held.barred)
    at) (begun_after begun (answer_of test held.wanted held.barred) at) (at + 1)
settled test count cs held out begun at on is least =
    let each : All (IsLeft (at + 1)) cs = beyond at cs on.each is (λ p front.
    least p front on.ordered) in
    let steady : (side : Side) → count side (at + 1) ≡ held_on side held = λ side.
    on.counts side (at + 1) (omega arith)
    ∙ sum_same (adds side (at + 1)) (adds_now side) cs (λ k d lt. adds_low side (at + 1) (at + 1)
    (get_or cs k d) (each k d lt) (omega arith))
    ∙ sym (on.now side) in
    record {
      on = record {
        ordered = on.ordered;
        each = each;
        counts = λ side t above. on.counts side t (omega arith);
        now = on.now;
        drawn = drawn_past (sought test count) 0 at out begun (answer_of test held.wanted
            held.barred) on.drawn
            (ap₂ (answer_of test) (steady Wanted) (steady Barred));
      };
      settled = inl (is_some_after begun (answer_of test held.wanted held.barred) at);
    }

-- the end

done_open : (test : ℕ → Bool) (top : ℕ) (out : List Span) (begun : Option ℕ)
    → is_some begun ≡ false → IsDrawn test 0 top out begun →
    ((t : ℕ) → t ≤ 0 → test t ≡ false) → ((t : ℕ) → top < t → test t ≡ false) → IsDone test 0 out
done_open test top out None is d before after = drawn_end test 0 top out d before after
done_open test top out (Some a) is d before after = cc

open_end : (test : Test) (held : Held) (begun : Option ℕ) (top : ℕ)
    → (is_some begun ≡ answer_of test held.wanted held.barred) ⊎ (first_at [] ≡ Some top) →
    held.wanted ≡ 0 → held.barred ≡ 0 → answer_of test 0 0 ≡ false → is_some begun ≡ false
open_end test held begun top (inl is) a b none = is ∙ ap₂ (answer_of test) a b ∙ none
open_end test held begun top (inr is) a b none = cc

none_left : (cs : List Cursor) → length cs ≡ 0 → cs ≡ []
none_left [] is = refl
none_left (c ∷ cs) is = absurd (omega (arith, is))

nothing_left : (test : Test) (start : List Cursor) (held : Held) (out : List Span)
    (begun : Option ℕ) (top : ℕ) →
    AreCursors start → answer_of test 0 0 ≡ false → IsWalking test (λ side. count_on side start) []
    held out begun top →
    IsDone (sought test (λ side. count_on side start)) 0 out
nothing_left test start held out begun top are none w =
    done_open (sought test (λ side. count_on side start)) top out begun
    (open_end test held begun top w.settled (w.on.now Wanted) (w.on.now Barred) none) w.on.drawn
    (λ t le. ap₂ (answer_of test) (floor Wanted t le) (floor Barred t le) ∙ none)
    (λ t lt. ap₂ (answer_of test) (w.on.counts Wanted t lt) (w.on.counts Barred t lt) ∙ none)
  where
    floor : (side : Side) (t : ℕ) → t ≤ 0 → count_on side start t ≡ 0
    floor side t le = sum_none (λ c. one_on side (covers c.left.now t) c.side) start
        (λ k d lt. ap (λ (b : Bool). one_on side b (get_or start k d).side)
        (covers_floor 0 (get_or start k d).left.now t (are.before k d lt).0 le)
        ∙ one_none side (get_or start k d).side)

pub ended_walk : (test : Test) (start cs : List Cursor) (held : Held) (out : List Span)
    (begun : Option ℕ) (top : ℕ) →
    AreCursors start → answer_of test 0 0 ≡ false → IsWalking test (λ side. count_on side start) cs
    held out begun top → length cs ≡ 0 →
    IsDone (sought test (λ side. count_on side start)) 0 out
ended_walk test start cs held out begun top are none w long =
    nothing_left test start held out begun top are none
    (subst (λ l. IsWalking test (λ side. count_on side start) l held out begun top)
    (none_left cs long) w)
