-- Units are worked and kept by single calls, in whichever order.
use Rattle.std.proofs.Common.{◌≡◌, ◌∙◌, ℕ, ◌+◌, ◌<◌, true, List, length, get_or, slice_get}
use Rattle.std.proofs.Common.{slice_set, inl, inr, refl, sym, ap, subst, arith}
use Rattle.std.specs.List.{list_all}
use Rattle.std.proofs.lemmas.Bool.{cases_lt}
use Rattle.std.proofs.lemmas.List.{length-set}
use Rattle.std.proofs.lemmas.Option.{slice_get_read}
use Rattle.ground_types.specs.Members.{contains}
use Rattle.delay_revise.specs.Layers.{unit_at}
use Rattle.delay_revise.specs.Orders.{IsReady, KeepsMore}
use Rattle.delay_revise.specs.Revising.{Revising, is_kept, layer_or_none, open_units}
use Rattle.delay_revise.proofs.LayerWork.{contains_at, kept_again, kept_still, one_more_kept}
use Rattle.delay_revise.proofs.LayerWork.{all_kept}
use Rattle.delay_revise.proofs.UnitWork.{sound_open}

-- the unit at a place of the open layer is open
open_unit : (r : Revising) (units : List ℕ) (place : ℕ) → units ≡ open_units r
    → place < length units → contains (open_units r) (unit_at units place) ≡ true
open_unit r units place opened within =
    subst (λ (l : List ℕ). contains l (unit_at units place) ≡ true) opened
    (contains_at units place within)

pub one_more : (old now next : Revising) (units : List ℕ) (from here to : ℕ) → IsReady old
    → units ≡ open_units old → here < length units → KeepsMore old now units from to
    → here + 1 ≡ from
    → next ≡ record now { kept = slice_set now.kept (unit_at units here) true }
    → KeepsMore old next units here to
one_more old now next units from here to ready opened within more before put =
    let known : unit_at units here < length old.program.units =
    sound_open old (unit_at units here) ready.roomy.sound
    (open_unit old units here opened within) in
    record {
      same = kept_again old now next now.kept (slice_set now.kept (unit_at units here) true)
          more.same put;
      size = ap (λ (r : Revising). length r.kept) put
          ∙ length-set now.kept (unit_at units here) true ∙ more.size;
      still = λ unit is. subst (λ (r : Revising). is_kept r unit ≡ true) (sym put)
          (kept_still now.kept (unit_at units here) unit (more.still unit is));
      done = one_more_kept units now next from here to more.done put before
          (omega (arith, known, more.size, ready.roomy.size));
    }

-- Where the places below a border are kept, and then the others, the open layer may be ended.
pub both_kept : (old middle new : Revising) (units : List ℕ) (border : ℕ)
    → units ≡ open_units old → KeepsMore old middle units 0 border
    → KeepsMore middle new units border (length units)
    → list_all (is_kept new) (open_units new) ≡ true
both_kept old middle new units border opened one two =
    subst (λ (l : List ℕ). list_all (is_kept new) l ≡ true)
    (opened ∙ sym (ap open_units one.same) ∙ sym (ap open_units two.same))
    (all_kept new units (λ place within. elim (cases_lt place border) [
      | inl before ↦ two.still (unit_at units place) (one.done place (omega arith) before)
      | inr after ↦ two.done place after within
    ]))

-- ---- layer after layer

pub layer_ready : (r now : Revising) (layer : ℕ) → IsReady r
    → now ≡ record r { layer = layer; kept = now.kept } → length now.kept ≡ length r.kept
    → IsReady now
layer_ready r now layer ready same size =
    subst IsReady (sym same) (record {
      roomy = record { sound = ready.roomy.sound; size = size ∙ ready.roomy.size };
      opened = ready.opened;
      applied = ready.applied;
    })

pub layer_within : (r now : Revising) (layer : ℕ)
    → now ≡ record r { layer = layer; kept = now.kept } → layer < length r.program.layers
    → now.layer < length now.program.layers
layer_within r now layer same within =
    subst (λ (s : Revising). s.layer < length s.program.layers) (sym same) within

-- the units at this place of the layers of the program are the open ones
pub layer_units : (r now : Revising) (layer : ℕ) (layers : List (List ℕ)) (units : List ℕ)
    → now ≡ record r { layer = layer; kept = now.kept } → layers ≡ r.program.layers
    → layer < length layers → units ≡ get_or layers layer units → units ≡ open_units now
layer_units r now layer layers units same read within at =
    sym (ap layer_or_none (slice_get_read layers (length layers) layer units refl within at))
    ∙ ap (λ (l : List (List ℕ)). layer_or_none (slice_get l layer)) read
    ∙ sym (ap open_units same)
