-- Facts about each member of a list.
use Rattle.std.proofs.Common.{◌≡◌, ◌⊎◌, inl, inr, ℕ, zero, suc, Bool, true, false, true≢false, not}
use Rattle.std.proofs.Common.{cond, ◌||◌, List, [], ◌∷◌, ◌++◌, map, flat_map, filter, filter_map}
use Rattle.std.proofs.Common.{find, slice_get, Option, Some, None, refl, sym, ap, subst, ◌∙◌}
use Rattle.std.proofs.lemmas.Bool.{and_from, or_left, or_right, or_parts}
use Rattle.std.specs.List.{list_any, list_all, cons_option}
use Rattle.rule_forms.specs.Sound.{AllOf}

-- the item is a member of the list
abbrev pub In : {A : Type 0} → A → List A → Type 0
In x [] = ⊥
In x (y ∷ ys) = (y ≡ x) ⊎ In x ys

-- ---- tests

pub not_false : (a : Bool) → not a ≡ false → a ≡ true
not_false true e = refl
not_false false e = sym e

-- ---- members

option_more : {B : Type 0} (P : B → Type 0) (o : Option B) (ys : List B)
    → ((y : B) → o ≡ Some y → P y) → AllOf P ys → AllOf P (cons_option o ys)
option_more P None ys f all = all
option_more P (Some y) ys f all = (f y refl, all)

module _ {A : Type 0} where
  pub member_of : (P : A → Type 0) (xs : List A) → AllOf P xs → (x : A) → In x xs → P x
  member_of P [] all x i = elim i [ ]
  member_of P (y ∷ ys) all x (inl e) = subst P e all.0
  member_of P (y ∷ ys) all x (inr i) = member_of P ys all.1 x i

  pub all_members : (P : A → Type 0) (xs : List A) → ((x : A) → In x xs → P x) → AllOf P xs
  all_members P [] f = tt
  all_members P (y ∷ ys) f = (f y (inl refl), all_members P ys (λ x i. f x (inr i)))

  pub all_weaker : (P Q : A → Type 0) → ((x : A) → P x → Q x) → (xs : List A) → AllOf P xs
      → AllOf Q xs
  all_weaker P Q f [] all = tt
  all_weaker P Q f (x ∷ xs) all = (f x all.0, all_weaker P Q f xs all.1)

  pub all_append : (P : A → Type 0) (xs ys : List A) → AllOf P xs → AllOf P ys → AllOf P (xs ++ ys)
  all_append P [] ys a b = b
  all_append P (x ∷ xs) ys a b = (a.0, all_append P xs ys a.1 b)

  pub all_front : (P : A → Type 0) (xs ys : List A) → AllOf P (xs ++ ys) → AllOf P xs
  all_front P [] ys a = tt
  all_front P (x ∷ xs) ys a = (a.0, all_front P xs ys a.1)

  pub all_back : (P : A → Type 0) (xs ys : List A) → AllOf P (xs ++ ys) → AllOf P ys
  all_back P [] ys a = a
  all_back P (x ∷ xs) ys a = all_back P xs ys a.1

  filtered : (P : A → Type 0) (b : Bool) (x : A) (xs : List A) → P x → AllOf P xs
      → AllOf P (cond b (x ∷ xs) xs)
  filtered P true x xs p all = (p, all)
  filtered P false x xs p all = all

  pub all_filter : (P : A → Type 0) (p : A → Bool) (xs : List A) → AllOf P xs
      → AllOf P (filter p xs)
  all_filter P p [] all = tt
  all_filter P p (x ∷ xs) all = filtered P (p x) x (filter p xs) all.0 (all_filter P p xs all.1)

  filtered_by : (P : A → Type 0) (b : Bool) (x : A) (xs : List A) → (b ≡ true → P x) → AllOf P xs
      → AllOf P (cond b (x ∷ xs) xs)
  filtered_by P true x xs p all = (p refl, all)
  filtered_by P false x xs p all = all

  -- what passes the test, passes it
  pub all_passing : (P : A → Type 0) (p : A → Bool) (xs : List A) → AllOf P xs
      → AllOf (λ x. P x × (p x ≡ true)) (filter p xs)
  all_passing P p [] all = tt
  all_passing P p (x ∷ xs) all = filtered_by (λ x. P x × (p x ≡ true)) (p x) x (filter p xs)
      (λ e. (all.0, e)) (all_passing P p xs all.1)

  -- no member passes the test
  pub none_pass : (p : A → Bool) (xs : List A) → list_any p xs ≡ false → AllOf (λ x. p x ≡ false) xs
  none_pass p [] e = tt
  none_pass p (x ∷ xs) e = (
    (or_parts (p x) (list_any p xs) e).0,
    none_pass p xs (or_parts (p x) (list_any p xs) e).1,
  )

  pub list_all_from : (p : A → Bool) (xs : List A) → AllOf (λ x. p x ≡ true) xs
      → list_all p xs ≡ true
  list_all_from p [] all = refl
  list_all_from p (x ∷ xs) all = and_from (p x) (list_all p xs) all.0 (list_all_from p xs all.1)

  pub all_places : (P : A → Type 0) (xs : List A) → ((k : ℕ) (x : A) → slice_get xs k ≡ Some x
      → P x) → AllOf P xs
  all_places P [] f = tt
  all_places P (x ∷ xs) f = (f zero x refl, all_places P xs (λ k y e. f (suc k) y e))

  -- a member that passes the test
  pub some_pass : (p : A → Bool) (xs : List A) (x : A) → In x xs → p x ≡ true → list_any p xs ≡ true
  some_pass p [] x i t = elim i [ ]
  some_pass p (y ∷ ys) x (inl e) t = or_left (p y) (list_any p ys) (ap p e ∙ t)
  some_pass p (y ∷ ys) x (inr i) t = or_right (p y) (list_any p ys) (some_pass p ys x i t)

  pub in_front : (x : A) (xs ys : List A) → In x xs → In x (xs ++ ys)
  in_front x [] ys i = elim i [ ]
  in_front x (y ∷ xs) ys (inl e) = inl e
  in_front x (y ∷ xs) ys (inr i) = inr (in_front x xs ys i)

  pub in_back : (x : A) (xs ys : List A) → In x ys → In x (xs ++ ys)
  in_back x [] ys i = i
  in_back x (y ∷ xs) ys i = inr (in_back x xs ys i)

  -- the first member that passes a test is a member that passes it
  pub record Found (p : A → Bool) (Q : A → Type 0) (xs : List A) : Type 0 where
    pub item : A
    pub is : find p xs ≡ Some item
    pub passes : p item ≡ true
    pub has : Q item

  pub first_passing : (p : A → Bool) (Q : A → Type 0) (xs : List A) → AllOf Q xs
      → list_any p xs ≡ true → Found p Q xs
  first_passing p Q [] all e = absurd (true≢false (sym e))
  first_passing p Q (x ∷ xs) all e = by (p x) refl (first_passing p Q xs all.1)
    where
      by : (b : Bool) → p x ≡ b → (list_any p xs ≡ true → Found p Q xs) → Found p Q (x ∷ xs)
      by true t rest = record {
        item = x;
        is = ap (λ b. cond b (Some x) (find p xs)) t;
        passes = t;
        has = all.0;
      }
      by false t rest =
          let r = rest (sym (ap (λ b. b || list_any p xs) t) ∙ e) in
          record {
            item = r.item;
            is = ap (λ b. cond b (Some x) (find p xs)) t ∙ r.is;
            passes =
                r.passes;
            has = r.has;
          }

module _ {A B : Type 0} where
  pub all_map : (P : B → Type 0) (f : A → B) (xs : List A) → AllOf (λ x. P (f x)) xs
      → AllOf P (map f xs)
  all_map P f [] all = tt
  all_map P f (x ∷ xs) all = (all.0, all_map P f xs all.1)

  pub all_flat_map : (P : B → Type 0) (f : A → List B) (xs : List A)
      → AllOf (λ x. AllOf P (f x)) xs → AllOf P (flat_map f xs)
  all_flat_map P f [] all = tt
  all_flat_map P f (x ∷ xs) all = all_append P (f x) (flat_map f xs) all.0
      (all_flat_map P f xs all.1)

  pub each_of_flat_map : (P : B → Type 0) (f : A → List B) (xs : List A) → AllOf P (flat_map f xs)
      → AllOf (λ x. AllOf P (f x)) xs
  each_of_flat_map P f [] all = tt
  each_of_flat_map P f (x ∷ xs) all = (
    all_front P (f x) (flat_map f xs) all,
    each_of_flat_map P f
        xs (all_back P (f x) (flat_map f xs) all),
  )

  pub all_filter_map : (P : B → Type 0) (f : A → Option B) (xs : List A)
      → AllOf (λ x. (y : B) → f x ≡ Some y → P y) xs → AllOf P (filter_map f xs)
  all_filter_map P f [] all = tt
  all_filter_map P f (x ∷ xs) all = option_more P (f x) (filter_map f xs) all.0
      (all_filter_map P f xs all.1)
