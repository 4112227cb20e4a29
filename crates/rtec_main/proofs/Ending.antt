-- What the answer of a task, or how its text was written, says of a run.
use Rattle.std.proofs.Common.{inl, inr, ℕ, List, length, Option, Some, None, Err, refl, sym, subst}
use Rattle.run_status.specs.declared.status.Status.{Status}
use Rattle.run_status.specs.declared.status.Status.TheVariants as status
use Rattle.rtec_main.specs.declared.writes.Unwritten.{Unwritten}
use Rattle.rtec_main.specs.declared.writes.Unwritten.TheVariants as unwritten
use Rattle.command_words.specs.Words.{Task, Recognise, Ground, Simulate, Live}
use Rattle.rtec_main.specs.Run.{World, IsText, WritesNothing, WritesPart, Refuses, LeavesPart}
use Rattle.rtec_main.specs.Run.{Leaves, Means, MeansOfWords, Completes}
use Rattle.rtec_main.specs.Tasks.{Gives}
use Rattle.rtec_main.specs.Writes.{IsCut, IsBlamed, unwritten_status}
use Rattle.rtec_main.proofs.Concluding.{memory_concludes}
use Rattle.rtec_main.proofs.Writing.{front_of_way}

-- ---- a task without a text

nothing_refused : (old new : World) (task : Task) → Refuses old new task status.Done → ⊥
nothing_refused old new (Recognise description script workers) (inl h) = h
nothing_refused old new (Recognise description script workers) (inr h) = h
nothing_refused old new (Ground description) h = h
nothing_refused old new (Simulate description seed size workers is_full) (inl h) = h
nothing_refused old new (Simulate description seed size workers is_full) (inr h) = h
nothing_refused old new (Live description clock feeders readers workers) h = h

no_write_refused : (old new : World) (task : Task) → Refuses old new task status.WriteFault → ⊥
no_write_refused old new (Recognise description script workers) (inl h) = h
no_write_refused old new (Recognise description script workers) (inr h) = h
no_write_refused old new (Ground description) h = h
no_write_refused old new (Simulate description seed size workers is_full) (inl h) = h
no_write_refused old new (Simulate description seed size workers is_full) (inr h) = h
no_write_refused old new (Live description clock feeders readers workers) h = h

leaves_nothing : (old new : World) (task : Task) → WritesNothing old new → Leaves old new task
leaves_nothing old new (Recognise description script workers) none = inl none
leaves_nothing old new (Ground description) none = none
leaves_nothing old new (Simulate description seed size workers is_full) none = inl none
leaves_nothing old new (Live description clock feeders readers workers) none = none

means : (old new : World) (task : Task) (s : Status) → Refuses old new task s
    → WritesNothing old new → Means old new task s
means old new task status.Done why none = absurd (nothing_refused old new task why)
means old new task status.WriteFault why none = absurd (no_write_refused old new task why)
means old new task status.OutOfMemory why none = leaves_nothing old new task none
means old new task s why none = (why, none)

pub refused_means : {X : Type 0} (text : X → List ℕ) (old new : World) (task : Task) (s : Status)
    → Gives text old new task (Err s) → WritesNothing old new → Means old new task s
refused_means text old new task s (inl e) none =
    subst (λ (t : Status). Means old new task t) (sym e) (leaves_nothing old new task none)
refused_means text old new task s (inr why) none = means old new task s why none

-- ---- a report that is not written whole

part_of_cut : (old new : World) (task : Task) (text : List ℕ) → IsText old task text
    → IsCut old.taken new.taken text → WritesPart old new task
part_of_cut old new task text is cut = record {
  text = text;
  count = length cut.1.written;
  is_text = is;
  taken = front_of_way old.taken new.taken text cut;
}

pub unwritten_means : (old new : World) (task : Task) (text : List ℕ)
    → (LeavesPart old new task → Leaves old new task)
    → IsText old task text → IsCut old.taken new.taken text
    → (why : Unwritten) → IsBlamed {X = Unit {0}} old.write_faults new.write_faults (Err why)
    → Means old new task (unwritten_status why)
unwritten_means old new task text leaves is cut unwritten.Fault blame =
    (blame.1, part_of_cut old new task text is cut)
unwritten_means old new task text leaves is cut unwritten.OutOfMemory blame =
    leaves (inr (part_of_cut old new task text is cut, blame))

-- ---- words

-- where memory runs out before the words are read
pub no_memory_means : (world : World) (asked : Option Task)
    → MeansOfWords world world asked status.OutOfMemory
no_memory_means world None = (inr refl, refl)
no_memory_means world (Some (Recognise description script workers)) = inl (refl, refl)
no_memory_means world (Some (Ground description)) = (refl, refl)
no_memory_means world (Some (Simulate description seed size workers is_full)) = inl (refl, refl)
no_memory_means world (Some (Live description clock feeders readers workers)) = (inr refl, refl)

pub no_memory_completes : (world : World) (asked : Option Task)
    → Completes world world asked status.OutOfMemory
no_memory_completes world None = tt
no_memory_completes world (Some task) = λ well. memory_concludes world world task
