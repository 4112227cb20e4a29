-- For private functions alone: how much of a text is written, and why no more of it is.
use Rattle.std.specs.Prelude.{◌≡◌, ◌≤◌, ℕ, List, ◌++◌, Option, Result, Ok, Err}
use Rattle.rt_base.specs.Outside.{Rose, with_bytes}
use Rattle.rtec_main.specs.declared.writes.Unwritten.{Unwritten}
use Rattle.rtec_main.specs.declared.writes.Unwritten.TheVariants.{Fault, OutOfMemory}
use Rattle.run_status.specs.declared.status.Status.{Status}
use Rattle.run_status.specs.declared.status.Status.TheVariants as status

-- the sink has its old bytes and a beginning of the text, of which this is left
pub record IsOnWay (old now : Option (List ℕ)) (left text : List ℕ) : Type 0 where
  pub written : List ℕ
  pub is : written ++ left ≡ text
  pub taken : now ≡ with_bytes written old

-- the sink has its old bytes and some beginning of the text
abbrev pub IsCut : Option (List ℕ) → Option (List ℕ) → List ℕ → Type 0
IsCut old now text = (left : List ℕ) × IsOnWay old now left text

-- the count of faults rose where it is said to be why a text is not written, and else it did not
abbrev pub IsBlamed : {X : Type 0} → ℕ → ℕ → Result X Unwritten → Type 0
IsBlamed before now (Ok x) = now ≡ before
IsBlamed before now (Err Fault) = (before ≤ now) × Rose before now
IsBlamed before now (Err OutOfMemory) = now ≡ before

abbrev pub unwritten_status : Unwritten → Status
unwritten_status Fault = status.WriteFault
unwritten_status OutOfMemory = status.OutOfMemory
