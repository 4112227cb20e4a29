-- Public contracts speak by this: *History*, *Standing*, *Reply* and *Legal history*, what was told
-- and what was answered.
use Rattle.std.specs.Prelude.{◌≡◌, ◌≤◌, ℕ, zero, suc, nat_le, Bool, true, false, not, ◌&&◌, ◌==◌}
use Rattle.std.specs.Prelude.{if◌then◌else◌, List, [], ◌∷◌, ◌++◌, reverse, count_by, find, Option}
use Rattle.std.specs.Prelude.{Some}
use Rattle.ground_types.specs.Windows.{left, right}
use Rattle.ground_types.specs.declared.plan.Plan.{Plan}
use Rattle.ground_types.specs.declared.entries.Act.{Act}
use Rattle.ground_types.specs.declared.entries.Act.TheVariants.{Add, Revoke}
use Rattle.ground_types.specs.declared.entries.Reply.{Reply}
use Rattle.ground_types.specs.declared.entries.Reply.TheVariants.{Admitted, Delayed, Already}
use Rattle.ground_types.specs.declared.entries.Reply.TheVariants.{Revoked, DelayedRevoked, Unknown}
use Rattle.ground_types.specs.declared.entries.Reply.TheVariants.{Forgotten}
use Rattle.ground_types.specs.declared.entries.Entry.{Entry}
use Rattle.ground_types.specs.declared.entries.Entry.TheVariants.{Fed, Seal}

abbrev pub is_seal : Entry → Bool
is_seal (Fed feeder act event at reply) = false
is_seal (Seal number) = true

-- k(H), the number of seals
abbrev pub seals : List Entry → ℕ
seals history = count_by is_seal history

abbrev pub is_forgotten : Reply → Bool
is_forgotten Forgotten = true
is_forgotten reply = false

-- the entry names this event and point, and was not answered Forgotten
abbrev pub counts_for : ℕ → ℕ → Entry → Bool
counts_for event t (Fed feeder act e at reply) = (e == event) && (at == t)
    && not (is_forgotten reply)
counts_for event t (Seal number) = false

-- the entry, if there is one, is an add
abbrev pub is_add : Option Entry → Bool
is_add (Some (Fed feeder Add e at reply)) = true
is_add entry = false

-- *Standing*: the last entry that counts for the event at the point is an add
abbrev pub stands : List Entry → ℕ → ℕ → Bool
stands history event t = is_add (find (counts_for event t) (reverse history))

-- there were seals, and the point is at or before the right border of the window sealed last
abbrev pub is_delayed : Plan → ℕ → ℕ → Bool
is_delayed plan zero t = false
is_delayed plan (suc k) t = nat_le t (right plan k)

-- the reply to what is not forgotten
abbrev pub reply_unless_forgotten : Plan → List Entry → Act → ℕ → ℕ → Reply
reply_unless_forgotten plan history Add event t =
    if stands history event t then Already else if is_delayed plan (seals history) t then Delayed
    else Admitted
reply_unless_forgotten plan history Revoke event t =
    if not (stands history event t) then Unknown else if is_delayed plan (seals history) t
    then DelayedRevoked else Revoked

-- *Reply* to an add or a revoke after a history: forgotten at or before the left border of the next
-- window
abbrev pub reply_to : Plan → List Entry → Act → ℕ → ℕ → Reply
reply_to plan history act event t =
    if nat_le t (left plan (seals history)) then Forgotten else reply_unless_forgotten plan history
    act event t

-- an entry is as it has to be after the entries before it: a feed has its reply, a seal its number
abbrev pub FollowsLegally : Plan → List Entry → Entry → Type 0
FollowsLegally plan before (Fed feeder act event at reply) = reply ≡ reply_to plan before act event
    at
FollowsLegally plan before (Seal number) = number ≡ seals before

abbrev pub AreLegalAfter : Plan → List Entry → List Entry → Type 0
AreLegalAfter plan before [] = Unit {0}
AreLegalAfter plan before (entry ∷ rest) = FollowsLegally plan before entry
    × AreLegalAfter plan (before ++ entry ∷ []) rest

-- *Legal history*: replies and seal numbers are right, and there are at most as many seals as
-- queries
pub record IsLegal (plan : Plan) (history : List Entry) : Type 0 where
  pub entries : AreLegalAfter plan [] history
  pub few_seals : seals history ≤ plan.queries

-- the entries before seal k, or all where there is no such seal
abbrev pub before_seal : List Entry → ℕ → List Entry
before_seal [] k = []
before_seal (Fed feeder act event at reply ∷ rest) k = Fed feeder act event at reply ∷ before_seal
    rest k
before_seal (Seal number ∷ rest) zero = []
before_seal (Seal number ∷ rest) (suc k) = Seal number ∷ before_seal rest k
