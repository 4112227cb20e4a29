-- For private functions alone: a walk from name to name that gives each its layer once all names
-- in its row have theirs.
use Rattle.std.specs.Prelude.{◌≡◌, ◌≢◌, ◌⊎◌, ◌+◌, ◌-◌, ◌<◌, ◌≤◌, ℕ, suc, List, [], ◌∷◌, length, map}
use Rattle.std.specs.Prelude.{take, slice_get, Option, Some, None, if◌then◌else◌}
use Rattle.ground_types.specs.Sound.{is_input}
use Rattle.ground_types.specs.declared.program.Name.{Name}
use Rattle.strata_check.specs.declared.walk.Mark.{Mark}
use Rattle.strata_check.specs.declared.walk.Mark.TheVariants as mark
use Rattle.decl_known.specs.Layers.{greatest}
use Rattle.strata_check.specs.Rows.{row_at, NamesIt}

-- ---- marks

abbrev pub layer_by_mark : Option Mark → ℕ
layer_by_mark (Some (mark.Done layer)) = layer
layer_by_mark m = 0

-- the layer that a place has, and 0 where it has none yet
abbrev pub layer_in : List Mark → ℕ → ℕ
layer_in marks place = layer_by_mark (slice_get marks place)

abbrev pub IsDoneMark : Option Mark → Type 0
IsDoneMark (Some (mark.Done layer)) = Unit {0}
IsDoneMark m = ⊥

abbrev pub IsOpenMark : Option Mark → Type 0
IsOpenMark (Some (mark.Open next greatest)) = Unit {0}
IsOpenMark m = ⊥

-- all of these places have layers
abbrev pub AreDone : List Mark → List ℕ → Type 0
AreDone marks [] = Unit {0}
AreDone marks (place ∷ places) = IsDoneMark (slice_get marks place) × AreDone marks places

abbrev pub layers_in : List Mark → List ℕ → List ℕ
layers_in marks places = map (layer_in marks) places

-- the layer over a greatest one
abbrev pub layer_over : Option Name → ℕ → ℕ
layer_over (Some name) top = if is_input name.kind then 0 else suc top
layer_over None top = 0

-- how many places have a layer
abbrev pub finished : List Mark → ℕ
finished [] = 0
finished (mark.Done layer ∷ marks) = suc (finished marks)
finished (m ∷ marks) = finished marks

-- ---- how many steps are left

abbrev pub steps_at : List ℕ → Mark → ℕ
steps_at row mark.New = length row + 2
steps_at row (mark.Open next top) = (length row - next) + 1
steps_at row (mark.Done layer) = 0

abbrev pub steps_left : List (List ℕ) → List Mark → ℕ
steps_left [] marks = 0
steps_left (row ∷ rows) [] = 0
steps_left (row ∷ rows) (m ∷ marks) = steps_at row m + steps_left rows marks

-- ---- the trail of open places, the last first

abbrev pub Stands : ℕ → List ℕ → Type 0
Stands place [] = ⊥
Stands place (first ∷ others) = (first ≡ place) ⊎ Stands place others

abbrev pub IsApart : ℕ → List ℕ → Type 0
IsApart place [] = Unit {0}
IsApart place (first ∷ others) = (first ≢ place) × IsApart place others

abbrev pub IsNamedBy : List (List ℕ) → List ℕ → ℕ → Type 0
IsNamedBy rows [] place = Unit {0}
IsNamedBy rows (before ∷ others) place = NamesIt rows before place

-- each is open, stands once, and is named by the one before it
abbrev pub IsTrail : List (List ℕ) → List Mark → List ℕ → Type 0
IsTrail rows marks [] = Unit {0}
IsTrail rows marks (place ∷ places) =
    IsOpenMark (slice_get marks place) × IsApart place places × IsNamedBy rows places place
    × IsTrail rows marks places

-- a place that is done has the layer over those in its row, which are done
pub record IsDoneAt (names : List Name) (rows : List (List ℕ)) (marks : List Mark)
    (place layer : ℕ) : Type 0 where
  pub all : AreDone marks (row_at rows place)
  pub is : layer ≡ layer_over (slice_get names place)
      (greatest (layers_in marks (row_at rows place)))
  pub low : layer ≤ finished marks

-- of an open place some of the row are done, and the greatest layer of these is known
pub record IsOpenAt (rows : List (List ℕ)) (marks : List Mark) (trail : List ℕ)
    (place next top : ℕ) : Type 0 where
  pub some : AreDone marks (take next (row_at rows place))
  pub is : top ≡ greatest (layers_in marks (take next (row_at rows place)))
  pub stands : Stands place trail

pub record IsWalking (names : List Name) (rows : List (List ℕ)) (marks : List Mark)
    (trail : List ℕ) : Type 0 where
  pub few : length marks ≡ length rows
  pub named : length names ≡ length rows
  pub done : (place layer : ℕ) → slice_get marks place ≡ Some (mark.Done layer)
      → IsDoneAt names rows marks place layer
  pub opened : (place next top : ℕ) → slice_get marks place ≡ Some (mark.Open next top)
      → IsOpenAt rows marks trail place next top
  pub trail_is : IsTrail rows marks trail

-- every place has its layer
pub record AllDone (names : List Name) (rows : List (List ℕ)) (marks : List Mark) : Type 0 where
  pub walking : IsWalking names rows marks []
  pub all : (place : ℕ) → place < length marks → IsDoneMark (slice_get marks place)

abbrev pub IsNewMark : Option Mark → Type 0
IsNewMark (Some mark.New) = Unit {0}
IsNewMark m = ⊥

-- The walk went on: fewer steps are left, and what is new was new before.
pub record HasWalked (names : List Name) (rows : List (List ℕ)) (before marks : List Mark)
    (trail : List ℕ) : Type 0 where
  pub walking : IsWalking names rows marks trail
  pub fewer : steps_left rows marks < steps_left rows before
  pub later : (place : ℕ) → IsNewMark (slice_get marks place) → IsNewMark (slice_get before place)

-- The walk from a place is over: the place is not new.
pub record HasVisited (names : List Name) (rows : List (List ℕ)) (before marks : List Mark)
    (start : ℕ) : Type 0 where
  pub walking : IsWalking names rows marks []
  pub later : (place : ℕ) → IsNewMark (slice_get marks place) → IsNewMark (slice_get before place)
  pub visited : IsNewMark (slice_get marks start) → ⊥
