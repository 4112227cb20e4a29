-- Each step of the walk keeps what is known of it.
use Rattle.std.proofs.Common.{◌≡◌, ◌⊎◌, inl, inr, ℕ, zero, suc, ◌<◌, ◌≤◌, max, List, [], ◌∷◌, ◌++◌}
use Rattle.std.proofs.Common.{length, take, set, slice_get, Option, Some, None, refl, sym, ap, ap₂}
use Rattle.std.proofs.Common.{subst, ◌∙◌, arith, true, false, cond, reverse, replicate, get_or}
use Rattle.std.proofs.lemmas.List.{length-set, length-replicate, reverse-append}
use Rattle.std.proofs.lemmas.Option.{slice_get_read, slice_get-get_or}
use Rattle.ground_types.specs.declared.program.Name.{Name}
use Rattle.ground_types.specs.Sound.{is_input}
use Rattle.strata_check.specs.declared.walk.Mark.{Mark}
use Rattle.strata_check.specs.declared.walk.Mark.TheVariants as mark
use Rattle.decl_known.specs.Layers.{greatest}
use Rattle.strata_check.specs.Rows.{row_at, NamesIt, IsWay, Leads}
use Rattle.strata_check.specs.Walks.{layer_by_mark, layer_in, layers_in, layer_over, IsDoneMark}
use Rattle.strata_check.specs.Walks.{IsOpenMark, IsNewMark, AreDone, finished, Stands, IsApart}
use Rattle.strata_check.specs.Walks.{IsNamedBy, IsTrail, IsDoneAt, IsOpenAt, IsWalking, HasWalked}
use Rattle.strata_check.specs.Walks.{AllDone}
use Rattle.strata_check.proofs.Marks.{set_cases, set_same, take_one, take_past, greatest_push}
use Rattle.strata_check.proofs.Marks.{greatest_low, finished_set, finished_most, steps_set}
use Rattle.strata_check.proofs.Marks.{done_push, all_kept}

-- ---- trails

module _ (rows : List (List ℕ)) (ms : List Mark) where
  pub trail_opened : (x next top : ℕ) (vs : List ℕ) → IsTrail rows ms vs
      → IsTrail rows (set ms x (mark.Open next top)) vs
  trail_opened x next top [] t = tt
  trail_opened x next top (v ∷ vs) t =
      let open_kept : IsOpenMark (slice_get (set ms x (mark.Open next top)) v) =
      elim (set_cases ms x (mark.Open next top) v) [
        | inl e ↦ subst (λ o. IsOpenMark o) (sym e) t.0
        | inr e ↦ subst (λ o. IsOpenMark o) (sym e.1) tt
      ] in
      (open_kept, t.1, t.2, trail_opened x next top vs t.3)

  pub trail_apart : (x : ℕ) (m : Mark) (vs : List ℕ) → IsApart x vs → IsTrail rows ms vs
      → IsTrail rows (set ms x m) vs
  trail_apart x m [] apart t = tt
  trail_apart x m (v ∷ vs) apart t =
      let open_kept : IsOpenMark (slice_get (set ms x m) v) =
      elim (set_cases ms x m v) [
        | inl e ↦ subst (λ o. IsOpenMark o) (sym e) t.0
        | inr e ↦ absurd (apart.0 e.0)
      ] in
      (open_kept, t.1, t.2, trail_apart x m vs apart.1 t.3)

  pub apart_from_new : (w : ℕ) (vs : List ℕ) → slice_get ms w ≡ Some mark.New → IsTrail rows ms vs
      → IsApart w vs
  apart_from_new w [] new t = tt
  apart_from_new w (v ∷ vs) new t = (
    λ e. subst (λ o. IsOpenMark o) (ap (slice_get ms) e ∙ new)
        t.0,
    apart_from_new w vs new t.3,
  )

  way_push : (a : ℕ) (us : List ℕ) (b c : ℕ) → IsWay rows a us b → NamesIt rows b c
      → IsWay rows a (us ++ b ∷ []) c
  way_push a [] b c way names = (way, names)
  way_push a (u ∷ us) b c way names = (way.0, way_push u us b c way.1 names)

  way_up : (w t : ℕ) (vs : List ℕ) → IsTrail rows ms (t ∷ vs) → Stands w (t ∷ vs) → (w ≡ t)
      ⊎ Leads rows w t
  way_up w t [] trail (inl e) = inl (sym e)
  way_up w t [] trail (inr s) = absurd s
  way_up w t (u ∷ us) trail (inl e) = inl (sym e)
  way_up w t (u ∷ us) trail (inr s) =
      elim (way_up w u us trail.3 s) [
        | inl e ↦ inr (
          [],
          subst (λ p. NamesIt rows p t) (sym e)
              trail.2,
        )
        | inr l ↦ inr (l.0 ++ u ∷ [], way_push w l.0 u t l.1 trail.2)
      ]

  -- a place on the trail that the last one names leads to itself
  pub circle : (w t : ℕ) (vs : List ℕ) → IsTrail rows ms (t ∷ vs) → Stands w (t ∷ vs)
      → NamesIt rows t w → Leads rows w w
  circle w t vs trail s names =
      elim (way_up w t vs trail s) [
        | inl e ↦ ([], subst (λ p. NamesIt rows p w) (sym e) names)
        | inr l ↦ (l.0 ++ t ∷ [], way_push w l.0 t w l.1 names)
      ]

-- ---- steps

begun : (ms : List Mark) (us : List ℕ) (next top : ℕ) → Some (mark.Open 0 0)
    ≡ Some (mark.Open next top) → AreDone ms (take next us)
    × (top ≡ greatest (layers_in ms (take next us)))
begun ms us next top e =
    let n : 0 ≡ next = cc in
    let t : 0 ≡ top = cc in (
      subst (λ k. AreDone ms (take k us)) n tt,
      sym t
          ∙ ap (λ k. greatest (layers_in ms (take k us))) n,
    )

module _ (names : List Name) (rows : List (List ℕ)) (ms : List Mark) (trail : List ℕ)
    (walking : IsWalking names rows ms trail) where
  -- what was done stays so where the mark of another place changes
  done_kept : (x : ℕ) (m old : Mark) → slice_get ms x ≡ Some old → (IsDoneMark (Some old) → ⊥)
      → finished ms ≤ finished (set ms x m)
      → (place layer : ℕ) → slice_get ms place ≡ Some (mark.Done layer)
      → IsDoneAt names rows (set ms x m) place layer
  done_kept x m old at undone more place layer e =
      let was = walking.done place layer e in
      let kept = all_kept ms x m old at undone (row_at rows place) was.all in
      let low : layer ≤ finished ms = was.low in
      record {
        all = kept.0;
        is = was.is ∙ ap (λ ls. layer_over (slice_get names place) (greatest ls)) (sym kept.1);
        low = omega arith;
      }

  open_kept : (x : ℕ) (m old : Mark) → slice_get ms x ≡ Some old → (IsDoneMark (Some old) → ⊥)
      → (place next top : ℕ) (now : List ℕ) → slice_get ms place ≡ Some (mark.Open next top)
      → Stands place now → IsOpenAt rows (set ms x m) now place next top
  open_kept x m old at undone place next top now e stands =
      let was = walking.opened place next top e in
      let kept = all_kept ms x m old at undone (take next (row_at rows place)) was.some in
      record { some = kept.0; is = was.is ∙ ap greatest (sym kept.1); stands = stands }

  new_kept : (x : ℕ) (m : Mark) → (IsNewMark (Some m) → ⊥) → (place : ℕ)
      → IsNewMark (slice_get (set ms x m) place) → IsNewMark (slice_get ms place)
  new_kept x m old place n =
      elim (set_cases ms x m place) [
        | inl e ↦ subst (λ o. IsNewMark o) e n
        | inr e ↦ absurd (old (subst (λ o. IsNewMark o) e.1 n))
      ]

  -- a place that is new, and named by the last on the trail
  pub entered : (w : ℕ) → slice_get ms w ≡ Some mark.New → IsNamedBy rows trail w
      → HasWalked names rows ms (set ms w (mark.Open 0 0)) (w ∷ trail)
  entered w new by =
      let now = set ms w (mark.Open 0 0) in
      let undone : IsDoneMark (Some mark.New) → ⊥ = λ d. d in
      let count = finished_set ms w (mark.Open 0 0) mark.New new in
      let more : finished ms ≤ finished now = omega arith in
      let steps = steps_set rows ms w (mark.Open 0 0) mark.New walking.few new in
      record {
        walking = record {
          few = length-set ms w (mark.Open 0 0) ∙ walking.few;
          named = walking.named;
          done = λ place layer e. elim (set_cases ms w (mark.Open 0 0) place) [
            | inl q ↦ done_kept w (mark.Open 0 0) mark.New new undone more place layer (sym q ∙ e)
            | inr q ↦ absurd (let k : Some (mark.Open 0 0) ≡ Some (mark.Done layer) = sym q.1
                ∙ e in cc)
          ];
          opened = λ place next top e. elim (set_cases ms w (mark.Open 0 0) place) [
            | inl q ↦ (let was = walking.opened place next top (sym q ∙ e) in
                open_kept w (mark.Open 0 0) mark.New new undone place next top (w ∷ trail) (sym q
                ∙ e) (inr was.stands))
            | inr q ↦ (let b = begun now (row_at rows place) next top (sym q.1 ∙ e) in
                record { some = b.0; is = b.1; stands = inl (sym q.0) })
          ];
          trail_is = (
            subst (λ o. IsOpenMark o) (sym (set_same ms w mark.New (mark.Open 0 0) new))
                tt,
            apart_from_new rows ms w trail new walking.trail_is,
            by,
            trail_opened rows ms w 0 0
                trail walking.trail_is,
          );
        };
        fewer = omega arith;
        later = new_kept w (mark.Open 0 0) (λ n. n);
      }

module _ (names : List Name) (rows : List (List ℕ)) (ms : List Mark) (t : ℕ) (vs : List ℕ)
    (walking : IsWalking names rows ms (t ∷ vs))
    (next top : ℕ) (at : slice_get ms t ≡ Some (mark.Open next top)) where
  undone : IsDoneMark (Some (mark.Open next top)) → ⊥
  undone d = d

  -- the next place in the row has a layer
  pub passed : (w layer n up : ℕ) → slice_get (row_at rows t) next ≡ Some w → slice_get ms w
      ≡ Some (mark.Done layer) → n ≡ suc next → up ≡ max top layer → next < length (row_at rows t)
      → HasWalked names rows ms (set ms t (mark.Open n up)) (t ∷ vs)
  passed w layer n up named done more greater inside =
      let m = mark.Open n up in
      let was = walking.opened t next top at in
      let count = finished_set ms t m (mark.Open next top) at in
      let enough : finished ms ≤ finished (set ms t m) = omega arith in
      let steps = steps_set rows ms t m (mark.Open next top) walking.few at in
      let taken : take n (row_at rows t) ≡ take next (row_at rows t) ++ w ∷ [] =
      ap (λ k. take k (row_at rows t)) more ∙ take_one (row_at rows t) next w named in
      let all : AreDone ms (take n (row_at rows t)) = subst (AreDone ms) (sym taken)
      (done_push ms (take next (row_at rows t)) w was.some (subst (λ o. IsDoneMark o) (sym done)
      tt)) in
      let is : up ≡ greatest (layers_in ms (take n (row_at rows t))) =
      greater ∙ ap₂ max was.is (ap layer_by_mark (sym done))
      ∙ sym (greatest_push (layers_in ms (take next (row_at rows t))) (layer_in ms w))
      ∙ ap greatest (sym (map_push ms (take next (row_at rows t)) w))
      ∙ ap (λ us. greatest (layers_in ms us)) (sym taken) in
      let kept = all_kept ms t m (mark.Open next top) at undone (take n (row_at rows t)) all in
      record {
        walking = record {
          few = length-set ms t m ∙ walking.few;
          named = walking.named;
          done = λ place l e. elim (set_cases ms t m place) [
            | inl q ↦ done_kept names rows ms (t ∷ vs) walking t m (mark.Open next top) at undone
                enough place l (sym q ∙ e)
            | inr q ↦ absurd (let k : Some (mark.Open n up) ≡ Some (mark.Done l) = sym q.1 ∙ e in
                cc)
          ];
          opened = λ place k g e. elim (set_cases ms t m place) [
            | inl q ↦ open_kept names rows ms (t ∷ vs) walking t m (mark.Open next top) at undone
                place k g (t ∷ vs) (sym q ∙ e) (walking.opened place k g (sym q ∙ e)).stands
            | inr q ↦ (let same : Some (mark.Open n up) ≡ Some (mark.Open k g) = sym q.1 ∙ e in
                let nk : n ≡ k = cc in
                let ug : up ≡ g = cc in
                subst (λ p. IsOpenAt rows (set ms t m) (t ∷ vs) p k g) (sym q.0) (record {
                  some = subst (λ i. AreDone (set ms t m) (take i (row_at rows t))) nk kept.0;
                  is = sym ug ∙ is ∙ ap greatest (sym kept.1)
                      ∙ ap (λ i. greatest (layers_in (set ms t m) (take i (row_at rows t)))) nk;
                  stands = inl refl;
                }))
          ];
          trail_is = trail_opened rows ms t n up (t ∷ vs) walking.trail_is;
        };
        fewer = omega arith;
        later = new_kept names rows ms (t ∷ vs) walking t m (λ k. k);
      }
    where
      map_push : (marks : List Mark) (us : List ℕ) (u : ℕ) → layers_in marks (us ++ u ∷ [])
          ≡ layers_in marks us ++ layer_in marks u ∷ []
      map_push marks [] u = refl
      map_push marks (v ∷ us) u = ap (λ l. layer_in marks v ∷ l) (map_push marks us u)

  all_low : (i n : ℕ) (us : List ℕ) → slice_get (layers_in ms us) i ≡ Some n → n ≤ finished ms
  all_low i n [] e = absurd (cc)
  all_low zero n (u ∷ us) e = subst (λ k. k ≤ finished ms) (let same : layer_in ms u ≡ n = cc in
      same) (by (slice_get ms u) refl)
    where
      by : (o : Option Mark) → slice_get ms u ≡ o → layer_by_mark o ≤ finished ms
      by None k = omega arith
      by (Some mark.New) k = omega arith
      by (Some (mark.Open _ _)) k = omega arith
      by (Some (mark.Done layer)) k = (walking.done u layer k).low
  all_low (suc i) n (u ∷ us) e = all_low i n us e

  -- the greatest layer is less than the number of names
  pub top_low : (top ≤ finished ms) × (top < length ms)
  top_low =
      let was = walking.opened t next top at in
      let low : greatest (layers_in ms (take next (row_at rows t))) ≤ finished ms =
      greatest_low _ _ (λ i n e. all_low i n (take next (row_at rows t)) e) in
      let here : top ≤ finished ms = subst (λ k. k ≤ finished ms) (sym was.is) low in
      let count = finished_set ms t (mark.Done 0) (mark.Open next top) at in
      let most = finished_most (set ms t (mark.Done 0)) in
      let same = length-set ms t (mark.Done 0) in
      (here, omega arith)

  over_low : (o : Option Name) (g : ℕ) → layer_over o g ≤ suc g
  over_low None g = omega arith
  over_low (Some name) g = elim (is_input name.kind) as (λ b. cond b 0 (suc g) ≤ suc g)
      [ true ↦ omega arith | false ↦ omega arith ]

  -- there is no next place in the row
  pub ended : (layer : ℕ) → slice_get (row_at rows t) next ≡ None
      → layer ≡ layer_over (slice_get names t) top
      → HasWalked names rows ms (set ms t (mark.Done layer)) vs
  ended layer none over =
      let m = mark.Done layer in
      let was = walking.opened t next top at in
      let count = finished_set ms t m (mark.Open next top) at in
      let enough : finished ms ≤ finished (set ms t m) = omega arith in
      let steps = steps_set rows ms t m (mark.Open next top) walking.few at in
      let taken : take next (row_at rows t) ≡ row_at rows t = take_past (row_at rows t) next none in
      let kept = all_kept ms t m (mark.Open next top) at undone (row_at rows t)
      (subst (AreDone ms) taken was.some) in
      let low = top_low in
      let up = over_low (slice_get names t) top in
      record {
        walking = record {
          few = length-set ms t m ∙ walking.few;
          named = walking.named;
          done = λ place l e. elim (set_cases ms t m place) [
            | inl q ↦ done_kept names rows ms (t ∷ vs) walking t m (mark.Open next top) at undone
                enough place l (sym q ∙ e)
            | inr q ↦ (let same : Some (mark.Done layer) ≡ Some (mark.Done l) = sym q.1 ∙ e in
                let is : layer ≡ l = cc in
                subst (λ p. IsDoneAt names rows (set ms t m) p l) (sym q.0) (record {
                  all = kept.0;
                  is = sym is ∙ over ∙ ap (layer_over (slice_get names t)) (was.is
                      ∙ ap (λ us. greatest (layers_in ms us)) taken ∙ ap greatest (sym kept.1));
                  low = omega arith;
                }))
          ];
          opened = λ place k g e. elim (set_cases ms t m place) [
            | inl q ↦ (let before = walking.opened place k g (sym q ∙ e) in
                open_kept names rows ms (t ∷ vs) walking t m (mark.Open next top) at undone place k
                g vs (sym q ∙ e)
                (elim before.stands [
                  | inl here ↦ absurd (let no : Some (mark.Done layer)
                      ≡ Some (mark.Open k g) = sym (set_same ms t (mark.Open next top) m at)
                      ∙ ap (slice_get (set ms t m)) here ∙ e in cc)
                  | inr below ↦ below
                ]))
            | inr q ↦ absurd (let no : Some (mark.Done layer) ≡ Some (mark.Open k g) = sym q.1
                ∙ e in cc)
          ];
          trail_is = trail_apart rows ms t m vs walking.trail_is.1 walking.trail_is.3;
        };
        fewer = omega arith;
        later = new_kept names rows ms (t ∷ vs) walking t m (λ k. k);
      }

-- ---- from the first step to the last

pub reverse_push : (xs ys : List ℕ) (x : ℕ) → ys ≡ xs ++ x ∷ [] → reverse ys ≡ x ∷ reverse xs
reverse_push xs ys x e = ap reverse e ∙ reverse-append xs (x ∷ [])

pub mark_at : (ms : List Mark) (place : ℕ) (m m' : Mark) → place < length ms
    → m ≡ get_or ms place m → m ≡ m' → slice_get ms place ≡ Some m'
mark_at ms place m m' inside at is = slice_get_read ms (length ms) place m refl inside at
    ∙ ap Some is

all_new : (n place : ℕ) (m : Mark) → slice_get (replicate n mark.New) place ≡ Some m → mark.New ≡ m
all_new zero place m e = absurd (cc)
all_new (suc n) zero m e = cc
all_new (suc n) (suc place) m e = all_new n place m e

pub begins : (names : List Name) (rows : List (List ℕ)) (ms : List Mark)
    → ms ≡ replicate (length names) mark.New → length names ≡ length rows
    → IsWalking names rows ms []
begins names rows ms is same =
    let count = length-replicate (length names) mark.New in
    let len : length ms ≡ length names = ap length is ∙ count in
    record {
      few = len ∙ same;
      named = same;
      done = λ place layer e. absurd (let no = all_new (length names) place (mark.Done layer)
          (ap (λ l. slice_get l place) (sym is) ∙ e) in cc);
      opened = λ place next top e. absurd (let no = all_new (length names) place
          (mark.Open next top) (ap (λ l. slice_get l place) (sym is) ∙ e) in cc);
      trail_is = tt;
    }

pub walked_on : (names : List Name) (rows : List (List ℕ)) (a b c : List Mark) (t u : List ℕ)
    → HasWalked names rows a b t → HasWalked names rows b c u → HasWalked names rows a c u
walked_on names rows a b c t u one two = record {
  walking = two.walking;
  fewer = omega (arith, one.fewer, two.fewer);
  later = λ place n. one.later place (two.later place n);
}

pub all_done : (names : List Name) (rows : List (List ℕ)) (ms : List Mark)
    → IsWalking names rows ms [] → ((k : ℕ) → k < length ms → IsNewMark (slice_get ms k) → ⊥)
    → AllDone names rows ms
all_done names rows ms walking met = record {
  walking = walking;
  all = λ place inside.
      by place inside (slice_get ms place) refl;
}
  where
    by : (place : ℕ) → place < length ms → (o : Option Mark) → slice_get ms place ≡ o → IsDoneMark o
    by place inside None e = absurd (let there = slice_get-get_or ms place mark.New inside in cc)
    by place inside (Some mark.New) e = met place inside (subst (λ o. IsNewMark o) (sym e) tt)
    by place inside (Some (mark.Open next top)) e = (walking.opened place next top e).stands
    by place inside (Some (mark.Done layer)) e = tt
