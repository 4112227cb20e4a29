use Rattle.std.proofs.Common.{◌<◌, arith}
use Rattle.stream_read.proofs.Powers.{fifteen}
use Rattle.stream_read.proofs.fields.number.Goals as goal

pub overflow_mul-value : goal.overflow_mul-value
overflow_mul-value c =
    let small : c.loop-c.value < 1000000000000000 = fifteen c.loop-c.value c.loop-c.c-index
    c.loop-c.invariant.1 (omega (arith, c.loop-c.invariant.2)) in
    record { fits = omega (arith, small) }

pub overflow_add-value : goal.overflow_add-value
overflow_add-value c =
    let small : c.loop-c.value < 1000000000000000 = fifteen c.loop-c.value c.loop-c.c-index
    c.loop-c.invariant.1 (omega (arith, c.loop-c.invariant.2)) in
    record { fits = omega (arith, small) }
