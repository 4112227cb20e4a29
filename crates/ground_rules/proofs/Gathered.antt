-- Lists that grow side by side, and what gathering one more item adds.
use Rattle.std.proofs.Common.{◌≡◌, ℕ, zero, suc, ◌+◌, ◌<◌, ◌≤◌, Bool, true, false, cond, nat_eq}
use Rattle.std.proofs.Common.{List, [], ◌∷◌, ◌++◌, append-nil, append_assoc, map, length, set}
use Rattle.std.proofs.Common.{get_or, replicate, refl, sym, ap, ap₂, subst, ◌∙◌, arith}
use Rattle.std.proofs.lemmas.List.{set_past, length-map, map-append}
use Rattle.std.proofs.lemmas.List.Elements.{filter-append}
use Rattle.std.proofs.lemmas.Bool.{eq-eqb, eqb-true}
use Rattle.std.specs.List.{range_with_len, fold}
use Rattle.ground_rules.specs.Origins.{with_key, gathered, put}

module _ {A X : Type 0} (f : A → List X) where
  -- an item more in the list at a place
  pub grown_at : (lists : List A) (n : ℕ) (x : X) (old new : A) → n < length lists
      → old ≡ get_or lists n old → f new ≡ f old ++ x ∷ []
      → map f (set lists n new) ≡ set (map f lists) n (get_or (map f lists) n [] ++ x ∷ [])
  grown_at [] n x old new within at is = refl
  grown_at (l ∷ ls) zero x old new within at is = ap (λ l. l ∷ map f ls) (is
      ∙ ap (λ l. f l ++ x ∷ []) at)
  grown_at (l ∷ ls) (suc n) x old new within at is =
      ap (λ ls. f l ∷ ls) (grown_at ls n x old new (omega arith) at is)

  -- nothing changes past the end
  pub kept_past : (lists : List A) (n : ℕ) (ys : List X) → length lists ≤ n
      → map f lists ≡ set (map f lists) n ys
  kept_past lists n ys past = sym (set_past (map f lists) n ys (omega (arith, length-map lists f)))

-- ---- lists by key: one key has an item more, and the others are as before

pub record HasOneMore {X : Type 0} (old new : ℕ → List X) (key : ℕ) (x : X) : Type 0 where
  pub here : new key ≡ old key ++ x ∷ []
  pub others : (k : ℕ) → (k ≡ key → ⊥) → new k ≡ old k

module _ {X : Type 0} (old new : ℕ → List X) where
  unchanged : (first count : ℕ) → ((k : ℕ) → first ≤ k → new k ≡ old k)
      → map new (range_with_len first count) ≡ map old (range_with_len first count)
  unchanged first zero same = refl
  unchanged first (suc count) same = ap₂ (λ l ls. l ∷ ls) (same first (omega arith))
      (unchanged (first + 1) count (λ k h. same k (omega arith)))

  pub one_more_at : (first count place key : ℕ) (x : X) → first + place ≡ key
      → HasOneMore old new key x
      → map new (range_with_len first count) ≡ set (map old (range_with_len first count)) place
      (get_or (map old (range_with_len first count)) place [] ++ x ∷ [])
  one_more_at first zero place key x is more = refl
  one_more_at first (suc count) zero key x is more =
      let at : first ≡ key = omega arith in
      ap₂ (λ l ls. l ∷ ls) (subst (λ k. new k ≡ old k ++ x ∷ []) (sym at) more.here)
      (unchanged (first + 1) count (λ k h. more.others k (λ e. (omega arith))))
  one_more_at first (suc count) (suc place) key x is more =
      ap₂ (λ l ls. l ∷ ls) (more.others first (λ e. (omega arith))) (one_more_at (first + 1) count
      place key x (omega arith) more)

  -- the key is none of these
  pub one_more_before : (first count key : ℕ) (x : X) → key < first → HasOneMore old new key x
      → map new (range_with_len first count) ≡ map old (range_with_len first count)
  one_more_before first count key x before more =
      unchanged first count (λ k h. more.others k (λ e. (omega arith)))

module _ {A : Type 0} (key : A → ℕ) (xs : List A) (x : A) where
  key_kept : (k : ℕ) (b : Bool) → nat_eq (key x) k ≡ b → (b ≡ true → k ≡ key x → ⊥)
      → with_key key (xs ++ x ∷ []) k ≡ with_key key xs k
  key_kept k true e off = absurd (off refl (sym (eqb-true (key x) k e)))
  key_kept k false e off = filter-append (λ y. nat_eq (key y) k) xs (x ∷ [])
      ∙ ap (λ b. with_key key xs k ++ cond b (x ∷ []) []) e ∙ append-nil (with_key key xs k)

  pub key_has_one_more : HasOneMore (with_key key xs) (with_key key (xs ++ x ∷ [])) (key x) x
  key_has_one_more = record {
    here = filter-append (λ y. nat_eq (key y) (key x)) xs (x ∷ [])
        ∙ ap (λ b. with_key key xs (key x) ++ cond b (x ∷ []) []) (eq-eqb (key x) (key x) refl);
    others = λ k not_here. key_kept k (nat_eq (key x) k) refl (λ e same. not_here same);
  }

-- the same of what a function gives of the items
pub mapped_has_one_more : {A X : Type 0} (f : A → X) (old new : ℕ → List A) (key : ℕ) (x : A)
    → HasOneMore old new key x → HasOneMore (λ k. map f (old k)) (λ k. map f (new k)) key (f x)
mapped_has_one_more f old new key x more = record {
  here = ap (map f) more.here ∙ map-append f (old key) (x ∷ []);
  others = λ k not_here. ap (map f) (more.others k not_here);
}

module _ {A : Type 0} (key : A → ℕ) (count : ℕ) where
  pub gathered_more : (xs : List A) (x : A) → gathered key count (xs ++ x ∷ [])
      ≡ put key (gathered key count xs) x
  gathered_more xs x = one_more_at (with_key key xs) (with_key key (xs ++ x ∷ [])) 0 count (key x)
      (key x) x (omega arith) (key_has_one_more key xs x)

  pub gathered_all : (xs ys : List A) → fold (put key) (gathered key count xs) ys
      ≡ gathered key count (xs ++ ys)
  gathered_all xs [] = ap (gathered key count) (sym (append-nil xs))
  gathered_all xs (y ∷ ys) =
      ap (λ lists. fold (put key) lists ys) (sym (gathered_more xs y))
      ∙ gathered_all (xs ++ y ∷ []) ys
      ∙ ap (gathered key count) (append_assoc xs (y ∷ []) ys)

pub all_empty : {X : Type 0} (f : ℕ → List X) → ((k : ℕ) → f k ≡ []) → (first count : ℕ)
    → map f (range_with_len first count) ≡ replicate count []
all_empty f none first zero = refl
all_empty f none first (suc count) = ap₂ (λ l ls. l ∷ ls) (none first)
    (all_empty f none (first + 1) count)

-- what puts item by item into empty lists gathers
pub gathered_from_none : {A : Type 0} (key : A → ℕ) (count : ℕ) (xs : List A)
    → fold (put key) (replicate count []) xs ≡ gathered key count xs
gathered_from_none key count xs = ap (λ lists. fold (put key) lists xs)
    (sym (all_empty (with_key key []) (λ k. refl) 0 count)) ∙ gathered_all key count [] xs
