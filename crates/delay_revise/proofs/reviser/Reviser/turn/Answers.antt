use Rattle.std.proofs.Common.{◌≡◌, ◌<◌, true, length, sym, subst}
use Rattle.std.specs.List.{list_all}
use Rattle.delay_revise.specs.Revising.{Revising, is_kept, open_units}
use Rattle.delay_revise.proofs.GoingOn.{turned_on}
use Rattle.delay_revise.proofs.reviser.Reviser.turn.Goals as goal

pub invariant_of-self : goal.invariant_of-self
invariant_of-self c =
    turned_on _ _ c.self.invariant
    (subst (λ (r : Revising). r.has_chunk ≡ true) (sym c.self.view_is) c.requires.chunk)
    (subst (λ (r : Revising). r.layer < length r.program.layers) (sym c.self.view_is)
    c.requires.layer)
    (subst (λ (r : Revising). list_all (is_kept r) (open_units r) ≡ true) (sym c.self.view_is)
    c.requires.kept)
