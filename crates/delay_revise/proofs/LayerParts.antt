-- The parts of a layer, and of a list of layers.
use Rattle.std.proofs.Common.{◌≡◌, ◌⊎◌, inl, inr, ℕ, nat_lt, eqb, Bool, true, false, not, ◌&&◌}
use Rattle.std.proofs.Common.{List, [], ◌∷◌, ◌++◌, flat_map, length, refl, sym, ◌∙◌, ap₂}
use Rattle.std.proofs.Common.{subst, append_assoc, append-nil}
use Rattle.std.specs.List.{list_all}
use Rattle.std.proofs.lemmas.Bool.{and_parts, or_right}
use Rattle.ground_types.specs.Meaning.{units_of_kind, is_layer, are_layers}
use Rattle.ground_types.specs.Members.{contains}
use Rattle.ground_types.specs.Recognition.{kind_of}
use Rattle.ground_types.proofs.Members.{contains_hit, contains_left}
use Rattle.ground_types.proofs.Members.{contains_either, contains_neither, first_or_rest}
use Rattle.ground_types.specs.declared.program.Program.{Program}

-- what is known of the first unit of a layer
pub record IsFirstUnit (program : Program) (below : List ℕ) (unit : ℕ) (rest : List ℕ) : Type 0
  where
    pub known : nat_lt unit (length program.units) ≡ true
    pub new : contains below unit ≡ false
    pub once : contains rest unit ≡ false
    pub named : list_all (contains below) (units_of_kind (kind_of program unit)) ≡ true
    pub others : is_layer program below rest ≡ true

first_by : (program : Program) (below : List ℕ) (unit : ℕ) (rest : List ℕ) (a b c d e : Bool) →
    (nat_lt unit (length program.units) ≡ a) × (contains below unit ≡ b) × (contains rest unit ≡ c)
    × (list_all (contains below) (units_of_kind (kind_of program unit)) ≡ d)
    × (is_layer program below rest ≡ e) →
    (a && not b && not c && d && e) ≡ true → IsFirstUnit program below unit rest
first_by program below unit rest true false false true true parts is =
    record { known = parts.0; new = parts.1; once = parts.2; named = parts.3; others = parts.4 }
first_by program below unit rest true false false true false parts is = cc
first_by program below unit rest true false false false e parts is = cc
first_by program below unit rest true false true d e parts is = cc
first_by program below unit rest true true c d e parts is = cc
first_by program below unit rest false b c d e parts is = cc

pub first_unit : (program : Program) (below : List ℕ) (unit : ℕ) (rest : List ℕ)
    → is_layer program below (unit ∷ rest) ≡ true →
    IsFirstUnit program below unit rest
first_unit program below unit rest is =
    first_by program below unit rest (nat_lt unit (length program.units)) (contains below unit)
    (contains rest unit)
    (list_all (contains below) (units_of_kind (kind_of program unit)))
    (is_layer program below rest) (refl, refl, refl, refl, refl) is

layer_by : (a b c d e : Bool) → a ≡ true → b ≡ false → c ≡ false → d ≡ true → e ≡ true
    → (a && not b && not c && d && e) ≡ true
layer_by a b c d e one two three four five = cc

layer_of : (program : Program) (below : List ℕ) (unit : ℕ) (rest : List ℕ)
    → IsFirstUnit program below unit rest → is_layer program below (unit ∷ rest) ≡ true
layer_of program below unit rest is =
    layer_by (nat_lt unit (length program.units)) (contains below unit) (contains rest unit)
    (list_all (contains below) (units_of_kind (kind_of program unit)))
    (is_layer program below rest) is.known is.new is.once is.named is.others

-- the first units of a layer are one
pub layer_front : (program : Program) (below xs ys : List ℕ) → is_layer program below (xs ++ ys)
    ≡ true → is_layer program below xs ≡ true
layer_front program below [] ys is = refl
layer_front program below (x ∷ xs) ys is =
    let first : IsFirstUnit program below x (xs ++ ys) = first_unit program below x (xs ++ ys) is in
    layer_of program below x xs (record {
      known = first.known;
      new = first.new;
      once = (contains_neither xs ys x first.once).0;
      named = first.named;
      others = layer_front program below xs ys first.others;
    })

layer_back : (program : Program) (below xs ys : List ℕ) → is_layer program below (xs ++ ys) ≡ true
    → is_layer program below ys ≡ true
layer_back program below [] ys is = is
layer_back program below (x ∷ xs) ys is = layer_back program below xs ys
    (first_unit program below x (xs ++ ys) is).others

apart_by : (x unit : ℕ) (xs ys : List ℕ) → (x ≡ unit) ⊎ (contains xs unit ≡ true)
    → contains ys x ≡ false →
    (contains xs unit ≡ true → contains ys unit ≡ false) → contains ys unit ≡ false
apart_by x unit xs ys (inl same) out later = subst (λ (n : ℕ). contains ys n ≡ false) same out
apart_by x unit xs ys (inr is) out later = later is

-- no unit stands in both parts of a layer
layer_apart : (program : Program) (below xs ys : List ℕ) (unit : ℕ)
    → is_layer program below (xs ++ ys) ≡ true → contains xs unit ≡ true →
    contains ys unit ≡ false
layer_apart program below [] ys unit is among = cc
layer_apart program below (x ∷ xs) ys unit is among =
    let first : IsFirstUnit program below x (xs ++ ys) = first_unit program below x (xs ++ ys) is in
    apart_by x unit xs ys (first_or_rest x xs unit among) (contains_neither xs ys x first.once).1
    (λ later. layer_apart program below xs ys unit first.others later)

-- where what passes one test passes another, a list that passes the one passes the other
pub all_more : {X : Type 0} (one two : X → Bool) (xs : List X)
    → ((x : X) → one x ≡ true → two x ≡ true) → list_all one xs ≡ true → list_all two xs ≡ true
all_more one two [] more all = refl
all_more one two (x ∷ xs) more all =
    ap₂ (λ (a b : Bool). a && b) (more x (and_parts (one x) (list_all one xs) all).0)
    (all_more one two xs more (and_parts (one x) (list_all one xs) all).1)

-- a layer over some units is one over more units that are not its own
layer_over : (program : Program) (below more layer : List ℕ)
    → ((unit : ℕ) → contains below unit ≡ true → contains more unit ≡ true) →
    ((unit : ℕ) → contains layer unit ≡ true → contains below unit ≡ false → contains more unit
    ≡ false) → is_layer program below layer ≡ true →
    is_layer program more layer ≡ true
layer_over program below more [] within out is = refl
layer_over program below more (x ∷ xs) within out is =
    let first : IsFirstUnit program below x xs = first_unit program below x xs is in
    layer_of program more x xs (record {
      known = first.known;
      new = out x (contains_hit x xs x refl) first.new;
      once = first.once;
      named = all_more (contains below) (contains more) (units_of_kind (kind_of program x)) within
          first.named;
      others = layer_over program below more xs within (λ unit among.
          out unit (or_right (eqb x unit) (contains xs unit) among)) first.others;
    })

neither_by : (below xs ys : List ℕ) (unit : ℕ) (b : Bool) → contains xs unit ≡ b
    → contains below unit ≡ false → contains ys unit ≡ true →
    (contains xs unit ≡ true → contains ys unit ≡ false) → (c : Bool) → contains (below ++ xs) unit
    ≡ c → c ≡ false
neither_by below xs ys unit true at new there apart c is = let both : true ≡ false = sym there
    ∙ apart at in cc
neither_by below xs ys unit false at new there apart false is = refl
neither_by below xs ys unit false at new there apart true is =
    elim (contains_either below xs unit is) [
      | inl before ↦ (let both : true ≡ false = sym before ∙ new in cc)
      | inr now ↦ (let both : true ≡ false = sym now ∙ at in cc)
    ]

-- the other units of a layer are one after the first
pub layer_later : (program : Program) (below xs ys : List ℕ) → is_layer program below (xs ++ ys)
    ≡ true → is_layer program (below ++ xs) ys ≡ true
layer_later program below xs ys is =
    layer_over program below (below ++ xs) ys (λ unit before. contains_left below xs unit before)
    (λ unit there new. neither_by below xs ys unit (contains xs unit) refl new there
    (λ at. layer_apart program below xs ys unit is at) (contains (below ++ xs) unit) refl)
    (layer_back program below xs ys is)

-- the first of some layers are layers
pub layers_front : (program : Program) (below : List ℕ) (xs ys : List (List ℕ))
    → are_layers program below (xs ++ ys) ≡ true →
    are_layers program below xs ≡ true
layers_front program below [] ys is = refl
layers_front program below (x ∷ xs) ys is =
    ap₂ (λ (a b : Bool). a && b) (and_parts (is_layer program below x)
    (are_layers program (below ++ x) (xs ++ ys)) is).0
    (layers_front program (below ++ x) xs ys (and_parts (is_layer program below x)
    (are_layers program (below ++ x) (xs ++ ys)) is).1)

-- the first of some layers and the last of them
pub record AreFrontAndLast (program : Program) (below : List ℕ) (layers : List (List ℕ))
    (layer : List ℕ) : Type 0 where
  pub front : are_layers program below layers ≡ true
  pub last : is_layer program (below ++ flat_map (λ layer. layer) layers) layer ≡ true

pub layers_parts : (program : Program) (below : List ℕ) (layers : List (List ℕ)) (layer : List ℕ) →
    are_layers program below (layers ++ layer ∷ []) ≡ true → AreFrontAndLast program below layers
    layer
layers_parts program below [] layer is = record {
  front = refl;
  last = subst (λ (units : List ℕ). is_layer program units layer ≡ true) (sym (append-nil below))
      (and_parts (is_layer program below layer) true is).0;
}
layers_parts program below (first ∷ rest) layer is =
    let here : is_layer program below first ≡ true =
    (and_parts (is_layer program below first) (are_layers program (below ++ first)
    (rest ++ layer ∷ [])) is).0 in
    let later : AreFrontAndLast program (below ++ first) rest layer =
    layers_parts program (below ++ first) rest layer
    (and_parts (is_layer program below first) (are_layers program (below ++ first)
    (rest ++ layer ∷ [])) is).1 in
    record {
      front = ap₂ (λ (a b : Bool). a && b) here later.front;
      last = subst (λ (units : List ℕ). is_layer program units layer ≡ true)
          (append_assoc below first (flat_map (λ layer. layer) rest)) later.last;
    }
