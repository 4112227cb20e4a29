-- The lines of instances, units and layers, one after the other.
use Rattle.std.proofs.Common.{◌≡◌, ℕ, ◌+◌, ◌<◌, ◌≤◌, List, [], ◌∷◌, ◌++◌, append_assoc, append-nil}
use Rattle.std.proofs.Common.{length, take, take_all, flat_map, get_or, slice_get, option_map}
use Rattle.std.proofs.Common.{Option, Some, None, refl, sym, ap, ap₂, ◌∙◌, arith, if◌then◌else◌}
use Rattle.std.specs.List.{enumerate_from}
use Rattle.std.proofs.lemmas.List.{take_more, get_or_default}
use Rattle.std.proofs.lemmas.List.FromFn.{length-enumerate_from, get_or-enumerate_from}
use Rattle.std.proofs.lemmas.Grind.{flat_map-append}
use Rattle.std.proofs.lemmas.Option.{none-some, same_Some, slice_get_within, get_or_from_slice_get}
use Rattle.rule_forms.specs.Forms.{PlainForm, Initially}
use Rattle.ground_rules.specs.Assignments.{Instance}
use Rattle.ground_rules.specs.Limits.{counts_as_rule}
use Rattle.ground_rules.specs.Stated.{stated_form, stated}
use Rattle.ground_text.specs.GroundText.{inner_line, instance_text}

-- ---- an instance

counted_alike : (i : Instance) (form : PlainForm) → counts_as_rule (stated_form i form)
    ≡ counts_as_rule form
counted_alike i (Initially fv) = refl
counted_alike i form = refl

abbrev pub form_line : PlainForm → List ℕ
form_line form = if counts_as_rule form then inner_line form else []

-- what an instance says is its line
pub stated_line : (i : Instance) → form_line (stated i) ≡ instance_text i
stated_line i = ap (λ b. if b then inner_line (stated i) else []) (counted_alike i i.clause.form)

-- ---- lists

-- one more piece
pub piece_more : {X : Type 0} (pieces : X → List ℕ) (xs : List X) (n : ℕ) (x : X)
    (base now after : List ℕ) → (n < length xs) × (x ≡ get_or xs n x)
    → now ≡ base ++ flat_map pieces (take n xs)
    → after ≡ now ++ pieces x → after ≡ base ++ flat_map pieces (take (n + 1) xs)
piece_more pieces xs n x base now after at is more =
    more ∙ ap (λ l. l ++ pieces x) is ∙ append_assoc base (flat_map pieces (take n xs)) (pieces x)
    ∙ ap (λ l. base ++ l)
    (ap (λ l. flat_map pieces (take n xs) ++ l) (sym (append-nil (pieces x)))
    ∙ sym (flat_map-append pieces (take n xs) (x ∷ []))
    ∙ ap (λ y. flat_map pieces (take n xs ++ y ∷ [])) at.1
    ∙ ap (flat_map pieces) (sym (take_more xs n x at.0)))

-- one more number, of which a piece is known
pub number_more : (pieces : ℕ → List ℕ) (xs : List ℕ) (n : ℕ) (base now after : List ℕ)
    → n < length xs → now ≡ base ++ flat_map pieces (take n xs)
    → after ≡ now ++ pieces (get_or xs n 0) → after ≡ base ++ flat_map pieces (take (n + 1) xs)
number_more pieces xs n base now after inside is more = piece_more pieces xs n (get_or xs n 0) base
    now after (inside, get_or_default xs n 0 (get_or xs n 0) inside) is more

-- one more instance, of which the form is known that it says
pub instance_more : (mine : List Instance) (n : ℕ) (form : PlainForm) (base now after : List ℕ)
    → option_map stated (slice_get mine n) ≡ Some form → now ≡ base ++ flat_map instance_text
    (take n mine)
    → after ≡ now ++ form_line form → after ≡ base ++ flat_map instance_text (take (n + 1) mine)
instance_more mine n form base now after at is more = by (slice_get mine n) refl
  where
    by : (o : Option Instance) → slice_get mine n ≡ o → after ≡ base ++ flat_map instance_text
        (take (n + 1) mine)
    by None e = absurd (none-some form (sym (ap (option_map stated) e) ∙ at))
    by (Some i) e =
        let says : stated i ≡ form = same_Some (stated i) form (sym (ap (option_map stated) e)
        ∙ at) in
        piece_more instance_text mine n i base now after (
          slice_get_within mine n i e,
          sym (get_or_from_slice_get mine n i i e),
        ) is
        (more ∙ ap (λ l. now ++ l) (ap form_line (sym says) ∙ stated_line i))

-- ---- layers

-- one more of a list whose members are numbered from 1 on
pub numbered_more : {X : Type 0} (pieces : ℕ × X → List ℕ) (xs : List X) (n : ℕ) (x : X)
    (base now after : List ℕ) → n < length xs → x ≡ get_or xs n x
    → now ≡ base ++ flat_map pieces (take n (enumerate_from 1 xs))
    → after ≡ now ++ pieces (n + 1, x) → after ≡ base ++ flat_map pieces
    (take (n + 1) (enumerate_from 1 xs))
numbered_more pieces xs n x base now after inside at is more =
    let next : 1 + n ≡ n + 1 = omega arith in
    piece_more pieces (enumerate_from 1 xs) n (n + 1, x) base now after (
      omega (arith, inside, length-enumerate_from 1 xs),
      sym (get_or-enumerate_from 1 xs n (n + 1, x) inside ∙ ap₂ (λ m y. (m, y)) next (sym at)),
    ) is
    more

pub numbered_all : {X : Type 0} (xs : List X) (n : ℕ) → length xs ≤ n
    → take n (enumerate_from 1 xs) ≡ enumerate_from 1 xs
numbered_all xs n all = take_all n (enumerate_from 1 xs)
    (omega (arith, all, length-enumerate_from 1 xs))
