-- For private functions alone: what a tally comes to, from what the tallies before its last turn
-- came to. Its age is above theirs, so no tally leads back to itself.
use Rattle.std.specs.Prelude.{ℕ, ◌+◌, ◌-◌}
use Rattle.rt_base.specs.Counted.{Counted}
use Rattle.rt_base.specs.declared.steps.Turn.{Turn}
use Rattle.rt_base.specs.declared.steps.Turn.TheVariants.{First, Tick, Part, Add}

-- the counter's two numbers
abbrev pub counted : Turn → Counted
counted First = record { count = 0; out = 0 }
counted (Tick before) = record { count = before.value.0.count + 1; out = before.value.0.out }
counted (Part before) = record { count = before.value.0.count; out = before.value.0.out + 1 }
counted (Add before part) = record {
  count = before.value.0.count + part.value.0.count;
  out = before.value.0.out - 1;
}

-- one more than the ages of the tallies before
abbrev pub age : Turn → ℕ
age First = 1
age (Tick before) = before.value.1 + 1
age (Part before) = before.value.1 + 1
age (Add before part) = before.value.1 + part.value.1 + 1
