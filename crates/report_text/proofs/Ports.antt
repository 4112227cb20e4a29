-- The sample publication is right for itself, whatever it was made of, and its program is counted.
use Rattle.std.proofs.Common.{◌≡◌, ℕ, zero, suc, ◌<◌, List, [], ◌∷◌, Option, sym, ◌∙◌, ap, subst}
use Rattle.std.proofs.Common.{get_or, refl, rules, arith}
use Rattle.ground_types.specs.Sound.{IsSound}
use Rattle.ground_types.specs.declared.entries.Occ.{Occ}
use Rattle.ground_types.specs.declared.program.Program.{Program}
use Rattle.span_algebra.specs.declared.rows.UnitRows.{UnitRows}
use Rattle.query_ask.specs.Right.{Parts, IsRightForItself}
use Rattle.report_text.specs.Printed.{IsCounted}
use Rattle.report_text.specs.Examples.{port, port_lit, is_lit}

-- the sample publication, made of parts that are the same
pub port_is_right : (program : Program) (opening : List (Option ℕ)) (events : List Occ)
    (rows : List UnitRows) → program ≡ port → opening ≡ port_lit.opening
    → events ≡ port_lit.events → rows ≡ port_lit.rows → IsRightForItself (record port_lit {
      program = program;
      opening = opening;
      events = events;
      rows = rows;
    })
port_is_right program opening events rows p o e r =
    subst (λ (x : Program). IsRightForItself (record port_lit {
      program = x;
      opening = opening;
      events = events;
      rows = rows;
    })) (sym p)
    (subst (λ (x : List (Option ℕ)). IsRightForItself (record port_lit {
      opening = x;
      events = events;
      rows = rows;
    })) (sym o)
    (subst (λ (x : List Occ). IsRightForItself (record port_lit { events = x; rows = rows }))
    (sym e)
    (subst (λ (x : List UnitRows). IsRightForItself (record port_lit { rows = x })) (sym r)
    is_lit)))

port_is_sound : IsSound port
port_is_sound = search rules

port_is_counted : IsCounted port
port_is_counted = record { sound = port_is_sound; values_few = refl }

counted_by : (parts : Parts) → parts ≡ port_lit → IsCounted parts.program
counted_by parts is = subst (λ (p : Parts). IsCounted p.program) (sym is) port_is_counted

pub both_counted : (one two : Parts) → one ≡ port_lit → two ≡ port_lit → (k : ℕ) (d : Parts)
    → k < 2 → IsCounted (get_or (one ∷ two ∷ []) k d).program
both_counted one two first second zero d h = counted_by one first
both_counted one two first second (suc zero) d h = counted_by two second
both_counted one two first second (suc (suc k)) d h = absurd (omega (arith, h))
