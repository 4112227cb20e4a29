use Rattle.std.proofs.Common.{◌<◌, ◌≤◌, length, refl, arith}
use Rattle.std.specs.Vec.{vec_capacity}
use Rattle.admit_core.proofs.Grows.{held_seal}
use Rattle.admit_core.proofs.state.AdmitState.seal.Goals as goal

pub invariant_of-self : goal.invariant_of-self
invariant_of-self c =
    let s = c.self.inside in
    let room = vec_capacity c.push.new.self in
    let few : length s.history.items < s.cap =
    omega (arith, c.self.invariant.kept.few, c.if-len-self.false, c.len.ensures, s.history.ok) in
    let roomy : s.cap ≤ room = omega (arith, c.self.invariant.roomy, c.push.ensures.capacity) in
    held_seal _ _ _ _ c.self.invariant few room roomy _ _ _ refl c.if-number-self.false
    c.in-Ok.ensures.items c.count_seal.ensures
