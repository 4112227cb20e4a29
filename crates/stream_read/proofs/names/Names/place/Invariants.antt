use Rattle.std.proofs.Common.{◌≡◌, drop}
use Rattle.stream_read.specs.Looked.{place_from}
use Rattle.stream_read.proofs.names.Names.place.Given as goal

abbrev pub invariant-loop-domain : goal.invariant-loop-domain
invariant-loop-domain l =
    place_from l.self.program.now.domains l.place (drop l.domain-index l.name.args) l.fields
    ≡ place_from l.self.program.now.domains 0 l.name.args l.fn.fields
