-- The parts of a publication of a lamp that is on are right for themselves, whatever they were made
-- of.
use Rattle.std.proofs.Common.{◌≡◌, ℕ, List, Option, sym, ◌∙◌, ap, subst}
use Rattle.ground_types.specs.declared.entries.Occ.{Occ}
use Rattle.ground_types.specs.declared.program.Program.{Program}
use Rattle.span_algebra.specs.declared.rows.UnitRows.{UnitRows}
use Rattle.query_ask.specs.Right.{Parts, IsRightForItself}
use Rattle.query_ask.specs.Examples.{lamp, lamp_on, is_on}

abbrev with : Program → List (Option ℕ) → List Occ → List UnitRows → Parts
with program opening events rows = record {
  number = 1;
  front = 2;
  program = program;
  opening = opening;
  events = events;
  rows = rows;
  evaluations = 7;
}

pub lamp_is_right : (program : Program) (opening : List (Option ℕ)) (events : List Occ)
    (rows : List UnitRows) → program ≡ lamp → opening ≡ lamp_on.opening → events ≡ lamp_on.events
    → rows ≡ lamp_on.rows → IsRightForItself (with program opening events rows)
lamp_is_right program opening events rows p o e r =
    subst IsRightForItself
    (sym
    (ap (λ (x : Program). with x opening events rows) p
    ∙ ap (λ (x : List (Option ℕ)). with lamp x events rows) o
    ∙ ap (λ (x : List Occ). with lamp lamp_on.opening x rows) e
    ∙ ap (λ (x : List UnitRows). with lamp lamp_on.opening lamp_on.events x) r)) is_on
