-- Each step of the search keeps what is known of it.
use Rattle.std.proofs.Common.{◌≡◌, ◌⊎◌, inl, inr, ℕ, zero, suc, ◌+◌, ◌<◌, Bool, true, false}
use Rattle.std.proofs.Common.{true≢false, List, [], ◌∷◌, ◌++◌, length, set, slice_get, replicate}
use Rattle.std.proofs.Common.{reverse, get_or, Some, refl, sym, ap, subst, ◌∙◌, arith, MatchBool}
use Rattle.std.proofs.lemmas.List.{length-set, length-replicate, length-append}
use Rattle.std.proofs.lemmas.Option.{slice_get_within, slice_get_read, get_or_from_slice_get}
use Rattle.strata_check.specs.Rows.{row_at, NamesIt, IsWay, Leads}
use Rattle.strata_check.specs.Walks.{Stands}
use Rattle.strata_check.specs.Searches.{IsSeen, IsMet, IsPassed, unseen, IsSearching, HasSearched}
use Rattle.strata_check.proofs.Marks.{set_cases, set_same}
use Rattle.strata_check.proofs.Walking.{reverse_push}

way_push : (rows : List (List ℕ)) (a : ℕ) (us : List ℕ) (b c : ℕ) → IsWay rows a us b
    → NamesIt rows b c → IsWay rows a (us ++ b ∷ []) c
way_push rows a [] b c way names = (way, names)
way_push rows a (u ∷ us) b c way names = (way.0, way_push rows u us b c way.1 names)

pub unseen_set : (seen : List Bool) (x : ℕ) → slice_get seen x ≡ Some false
    → unseen (set seen x true) + 1 ≡ unseen seen
unseen_set [] x e = absurd (cc)
unseen_set (true ∷ seen) zero e = absurd (let no : true ≡ false = cc in true≢false no)
unseen_set (false ∷ seen) zero e = omega arith
unseen_set (true ∷ seen) (suc x) e = unseen_set seen x e
unseen_set (false ∷ seen) (suc x) e = let rest = unseen_set seen x e in omega arith

module _ (rows : List (List ℕ)) (start : ℕ) (seen : List Bool) (place : ℕ) (left : List ℕ)
    (searching : IsSearching rows start seen (place ∷ left)) where
  seen_kept : (x u : ℕ) → IsSeen seen u → IsSeen (set seen x true) u
  seen_kept x u s = elim (set_cases seen x true u) [ inl e ↦ e ∙ s | inr e ↦ e.1 ]

  met_kept : (x u : ℕ) → IsMet seen start u → IsMet (set seen x true) start u
  met_kept x u (inl e) = inl e
  met_kept x u (inr s) = inr (seen_kept x u s)

  met_back : (x u : ℕ) → IsMet (set seen x true) start u → (IsMet seen start u) ⊎ (u ≡ x)
  met_back x u (inl e) = inl (inl e)
  met_back x u (inr s) = elim (set_cases seen x true u) [
    | inl e ↦ inl (inr (sym e ∙ s))
    | inr e ↦ inr e.0
  ]

  reaches : (x : ℕ) → NamesIt rows place x → Leads rows start x
  reaches x names = elim (searching.met place (inl refl)) [
    | inl e ↦ ([], subst (λ p. NamesIt rows p x) e names)
    | inr s ↦ (let to = searching.leads place s in
        (to.0 ++ place ∷ [], way_push rows start to.0 place x to.1 names))
  ]

  -- a place that was not seen is put among those that are left
  pub met_new : (x : ℕ) → NamesIt rows place x → slice_get seen x ≡ Some false
      → IsSearching rows start (set seen x true) (place ∷ x ∷ left)
  met_new x names fresh = record {
    few = length-set seen x true ∙ searching.few;
    leads = λ u s. elim (set_cases seen x true u) [
      | inl e ↦ searching.leads u (sym e ∙ s)
      | inr e ↦ subst (Leads rows start) (sym e.0) (reaches x names)
    ];
    met = λ u s. by u s;
    passed = λ u m. elim (met_back x u m) [
      | inl was ↦ elim (searching.passed u was) [
        | inl s ↦ inl (wider u s)
        | inr p ↦ inr (λ other n. seen_kept x other (p other n))
      ]
      | inr e ↦ inl (inr (inl (sym e)))
    ];
  }
    where
      wider : (u : ℕ) → Stands u (place ∷ left) → Stands u (place ∷ x ∷ left)
      wider u (inl e) = inl e
      wider u (inr s) = inr (inr s)

      by : (u : ℕ) → Stands u (place ∷ x ∷ left) → IsMet (set seen x true) start u
      by u (inl e) = met_kept x u (searching.met u (inl e))
      by u (inr (inl e)) = inr (subst (IsSeen (set seen x true)) e (set_same seen x false true
          fresh))
      by u (inr (inr s)) = met_kept x u (searching.met u (inr s))

  pub searched_new : (x : ℕ) (before after : List ℕ) → left ≡ reverse before → NamesIt rows place x
      → slice_get seen x ≡ Some false → after ≡ before ++ x ∷ []
      → HasSearched rows start seen before (set seen x true) after place x
  searched_new x before after is names fresh push =
      let count = unseen_set seen x fresh in
      let len : length after ≡ length before + 1 = ap length push ∙ length-append before (x ∷ []) in
      record {
        searching = subst (λ l. IsSearching rows start (set seen x true) (place ∷ l))
            (ap (λ l. x ∷ l) is ∙ sym (reverse_push before after x push)) (met_new x names fresh);
        there = set_same seen x false true fresh;
        kept = seen_kept x;
        less = omega arith;
      }

  -- a place whose row was seen is passed
  pub passes : IsPassed rows seen place → IsSearching rows start seen left
  passes all = record {
    few = searching.few;
    leads = searching.leads;
    met = λ u s. searching.met u (inr s);
    passed = λ u m. elim (searching.passed u m) [
      | inl (inl e) ↦ inr (subst (IsPassed rows seen) e all)
      | inl (inr s) ↦ inl s
      | inr p ↦ inr p
    ];
  }

none_there : (n u : ℕ) → slice_get (replicate n false) u ≡ Some true → ⊥
none_there zero u e = cc
none_there (suc n) zero e = (let no : true ≡ false = cc in true≢false no)
none_there (suc n) (suc u) e = none_there n u e

pub search_begins : (rows : List (List ℕ)) (start : ℕ)
    → IsSearching rows start (replicate (length rows) false) (start ∷ [])
search_begins rows start = record {
  few = length-replicate (length rows) false;
  leads = λ u s. absurd (none_there (length rows) u s);
  met = λ u s. elim s [ inl e ↦ inl (sym e) | inr none ↦ absurd none ];
  passed = λ u m. elim m [
    | inl e ↦ inl (inl (sym e))
    | inr s ↦ absurd (none_there (length rows) u s)
  ];
}

-- at the end all to which the start leads was seen
module _ (rows : List (List ℕ)) (start : ℕ) (seen : List Bool) (searching : IsSearching rows start
    seen []) where
  all_passed : (u : ℕ) → IsMet seen start u → IsPassed rows seen u
  all_passed u m = elim (searching.passed u m) [ inl none ↦ absurd none | inr p ↦ p ]

  seen_along : (u : ℕ) (between : List ℕ) (last : ℕ) → IsMet seen start u
      → IsWay rows u between last → IsSeen seen last
  seen_along u [] last m way = all_passed u m last way
  seen_along u (next ∷ more) last m way = seen_along next more last
      (inr (all_passed u m next way.0)) way.1

  pub search_ends : (found : Bool) → slice_get seen start ≡ Some found
      → MatchBool found (Leads rows start start) (Leads rows start start → ⊥)
  search_ends true e = searching.leads start e
  search_ends false e = λ way. (let no : true ≡ false =
      (let s = seen_along start way.0 start (inl refl) way.1 in cc) in true≢false no)

-- places that were met have rows
pub met_within : (rows : List (List ℕ)) (start : ℕ) (seen : List Bool) (left : List ℕ)
    → IsSearching rows start seen left → start < length rows → (u : ℕ) → Stands u left
    → u < length rows
met_within rows start seen left searching inside u s = elim (searching.met u s) [
  | inl e ↦ subst (λ n. n < length rows) (sym e) inside
  | inr there ↦ omega (arith, slice_get_within seen u true there, searching.few)
]

pub row_read : (rows : List (List ℕ)) (place : ℕ) (row : List ℕ) → place < length rows
    → row ≡ get_or rows place row → row_at rows place ≡ row
row_read rows place row inside is = get_or_from_slice_get rows place row []
    (slice_get_read rows (length rows) place row refl inside is)
