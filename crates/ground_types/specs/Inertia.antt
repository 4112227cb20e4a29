-- Public contracts speak by this: *Next value* and *Simple fluent*, the law of inertia of RTEC,
-- point by point.
use Rattle.std.specs.Prelude.{ℕ, zero, suc, ◌+◌, ◌-◌, min, Bool, if◌then◌else◌, List, [], ◌∷◌, fold}
use Rattle.std.specs.Prelude.{Option, Some, None}
use Rattle.ground_types.specs.Members.{contains}
use Rattle.ground_types.specs.Truth.{is_value}

-- the value declared first among these, which is the least number
abbrev pub first_value : List ℕ → Option ℕ
first_value [] = None
first_value (v ∷ vs) = Some (fold min v vs)

-- the value is kept, unless it is one of these
abbrev pub kept_unless : Option ℕ → List ℕ → Option ℕ
kept_unless None ended = None
kept_unless (Some v) ended = if contains ended v then None else Some v

-- *Next value*: the value after a point at which the fluent has this value, those are initiated and
-- those terminated. An initiation comes first, and of several values the one declared first.
abbrev pub next_value : Option ℕ → List ℕ → List ℕ → Option ℕ
next_value v [] terminated = kept_unless v terminated
next_value v (i ∷ is) terminated = first_value (i ∷ is)

-- the value n points after the first value point w + 1, where it is the opening value
abbrev pub value_after : Option ℕ → (ℕ → List ℕ) → (ℕ → List ℕ) → ℕ → ℕ → Option ℕ
value_after opening initiated terminated w zero = opening
value_after opening initiated terminated w (suc n) =
    next_value (value_after opening initiated terminated w n) (initiated (w + suc n))
    (terminated (w + suc n))

-- *Simple fluent*: its value at a value point of the window that begins after w
abbrev pub value_at : Option ℕ → (ℕ → List ℕ) → (ℕ → List ℕ) → ℕ → ℕ → Option ℕ
value_at opening initiated terminated w t = value_after opening initiated terminated w (t - (w + 1))

-- the values, counted from this one on, whose list has the point
abbrev pub values_with : ℕ → List (List ℕ) → ℕ → List ℕ
values_with v [] t = []
values_with v (points ∷ rest) t = if contains points t then v ∷ values_with (v + 1) rest t
    else values_with (v + 1) rest t

-- a simple fluent has this value at a point, from the points at which each of its values is
-- initiated and terminated
abbrev pub has_value : Option ℕ → List (List ℕ) → List (List ℕ) → ℕ → ℕ → ℕ → Bool
has_value opening initiated terminated w v t =
    is_value (value_at opening (values_with 0 initiated) (values_with 0 terminated) w t) v
