-- Public contracts speak by this: *Layer*, the layers of names.
use Rattle.std.specs.Prelude.{◌≡◌, ℕ, suc, nat_le, List, [], ◌∷◌, length, map, slice_get}
use Rattle.std.specs.Prelude.{slice_index_or, Option, Some, None, if◌then◌else◌}
use Rattle.ground_types.specs.Sound.{is_input}
use Rattle.ground_types.specs.declared.program.Name.{Name}
use Rattle.rule_forms.specs.Forms.{PlainStatement}
use Rattle.ground_types.specs.Words.{place_in, name_words}
use Rattle.decl_known.specs.Occurrences.{bodies_of}

abbrev pub layer_at : List ℕ → Option ℕ → ℕ
layer_at of_name None = 0
layer_at of_name (Some place) = slice_index_or of_name place 0

-- the layer that a list has for a name
abbrev pub layer_of : List Name → List ℕ → List ℕ → ℕ
layer_of names of_name word = layer_at of_name (place_in (name_words names) word)

-- the greatest of some numbers, and 0 where there is none
abbrev pub greatest : List ℕ → ℕ
greatest [] = 0
greatest (n ∷ ns) = if nat_le n (greatest ns) then greatest ns else n

-- An input event has layer 0; another name has one more than the greatest layer of a name in its
-- bodies.
abbrev pub layer_by : List PlainStatement → List Name → List ℕ → Name → ℕ
layer_by rules names of_name name =
    if is_input name.kind then 0 else suc
    (greatest (map (layer_of names of_name) (bodies_of rules name.word)))

-- each name has its layer
pub record IsLayering (rules : List PlainStatement) (names : List Name) (of_name : List ℕ) : Type 0
  where
    pub len : length of_name ≡ length names
    pub each : (place : ℕ) (name : Name) → slice_get names place ≡ Some name
        → slice_get of_name place ≡ Some (layer_by rules names of_name name)
