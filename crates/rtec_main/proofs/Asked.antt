-- What words ask for has a size where it needs one.
use Rattle.std.proofs.Common.{◌≡◌, ℕ, ◌≤◌, nat_le, Bool, true, false, ◌&&◌, if◌then◌else◌, List, []}
use Rattle.std.proofs.Common.{◌∷◌, take, drop, Option, Some, None, refl, arith}
use Rattle.std.specs.Prelude.{is_some, option_and_then, option_map, ◌||◌, codes}
use Rattle.std.specs.Str.{bytes_eq}
use Rattle.std.specs.Str.Parse.{digits_value}
use Rattle.std.proofs.lemmas.Bool.Decides.{nat_tests}
use Rattle.command_words.specs.Words.{Text, Given, Task, Recognise, Ground, Simulate, Live}
use Rattle.command_words.specs.Words.{is_file, are_digits, seed_of, size_of, workers_of}
use Rattle.command_words.specs.Words.{feeders_of, recognise_files, ground_files, simulate_places}
use Rattle.command_words.specs.Words.{are_live, live_files, recognise, grounding, simulate, live}
use Rattle.command_words.specs.Words.{asked, given_by, task_of}
use Rattle.rtec_main.specs.Tasks.{IsSized}

by_test : (b : Bool) (x y : Option Task) → IsSized x → IsSized y → IsSized (if b then x else y)
by_test true x y p q = p
by_test false x y p q = q

for_each : {X : Type 0} (f : X → Option Task) (x : Option X) → ((y : X) → IsSized (f y))
    → IsSized (option_and_then f x)
for_each f None p = tt
for_each f (Some y) p = p y

-- ---- the forms of commands

recognise_so : (places : List Text) (workers : ℕ) → IsSized (recognise_files places workers)
recognise_so [] workers = tt
recognise_so (a ∷ []) workers = tt
recognise_so (a ∷ b ∷ []) workers =
    by_test (is_file a && is_file b) (Some (Recognise a b workers)) None tt tt
recognise_so (a ∷ b ∷ c ∷ rest) workers = tt

ground_so : (places : List Text) → IsSized (ground_files places)
ground_so [] = tt
ground_so (a ∷ []) = by_test (is_file a) (Some (Ground a)) None tt tt
ground_so (a ∷ b ∷ rest) = tt

sized_if : (description : Text) (seed workers : ℕ) (is_full : Bool) (b : Bool) (n : ℕ)
    → (b ≡ true → 1 ≤ n)
    → IsSized (option_map (λ size. Simulate description seed size workers is_full)
    (if b then Some n else None))
sized_if description seed workers is_full true n some = some refl
sized_if description seed workers is_full false n some = tt

least : (a : Bool) (n most : ℕ) → (a && nat_le 1 n && nat_le n most) ≡ true → 1 ≤ n
least true n most h = grind (arith, nat_tests)
least false n most h = absurd cc

size_so : (description : Text) (seed workers : ℕ) (is_full : Bool) (size : Text)
    → IsSized (option_map (λ n. Simulate description seed n workers is_full) (size_of size))
size_so description seed workers is_full size =
    let n : ℕ = digits_value 10 size in
    sized_if description seed workers is_full
    (are_digits 7 size && nat_le 1 n && nat_le n 2097152) n
    (least (are_digits 7 size) n 2097152)

simulate_so : (places : List Text) (workers : ℕ) (is_full : Bool)
    → IsSized (simulate_places places workers is_full)
simulate_so [] workers is_full = tt
simulate_so (a ∷ []) workers is_full = tt
simulate_so (a ∷ b ∷ []) workers is_full = tt
simulate_so (a ∷ b ∷ c ∷ []) workers is_full =
    by_test (is_file a) (option_and_then (λ x. option_map (λ n. Simulate a x n workers is_full)
    (size_of c)) (seed_of b)) None
    (for_each (λ x. option_map (λ n. Simulate a x n workers is_full) (size_of c)) (seed_of b)
    (λ x. size_so a x workers is_full c)) tt
simulate_so (a ∷ b ∷ c ∷ d ∷ rest) workers is_full = tt

live_so : (places : List Text) (feeders workers : ℕ) → IsSized (live_files places feeders workers)
live_so [] feeders workers = tt
live_so (a ∷ []) feeders workers = tt
live_so (a ∷ b ∷ scripts) feeders workers =
    by_test (are_live (a ∷ b ∷ []) scripts feeders)
    (Some (Live a b (take feeders scripts) (drop feeders scripts) workers)) None tt tt

-- ---- the words

recognise_given : (given : Given) → IsSized (recognise given)
recognise_given given =
    by_test (is_some given.feeders || given.is_full) None
    (option_and_then (recognise_files given.places) (workers_of given.workers)) tt
    (for_each (recognise_files given.places) (workers_of given.workers)
    (recognise_so given.places))

ground_given : (given : Given) → IsSized (grounding given)
ground_given given =
    by_test (is_some given.workers || is_some given.feeders || given.is_full) None
    (ground_files given.places) tt (ground_so given.places)

simulate_given : (given : Given) → IsSized (simulate given)
simulate_given given =
    by_test (is_some given.feeders) None
    (option_and_then (λ workers. simulate_places given.places workers given.is_full)
    (workers_of given.workers)) tt
    (for_each (λ workers. simulate_places given.places workers given.is_full)
    (workers_of given.workers) (λ workers. simulate_so given.places workers given.is_full))

live_given : (given : Given) → IsSized (live given)
live_given given =
    by_test given.is_full None
    (option_and_then (λ feeders. option_and_then (live_files given.places feeders)
    (workers_of given.workers)) (feeders_of given.feeders)) tt
    (for_each (λ feeders. option_and_then (live_files given.places feeders)
    (workers_of given.workers)) (feeders_of given.feeders)
    (λ feeders. for_each (live_files given.places feeders) (workers_of given.workers)
    (live_so given.places feeders)))

command_given : (command : Text) (given : Given) → IsSized (asked command given)
command_given command given =
    by_test (bytes_eq command (codes "recognise")) (recognise given)
    (if bytes_eq command (codes "ground") then grounding given
    else if bytes_eq command (codes "simulate") then simulate given
    else if bytes_eq command (codes "live") then live given else None)
    (recognise_given given)
    (by_test (bytes_eq command (codes "ground")) (grounding given)
    (if bytes_eq command (codes "simulate") then simulate given
    else if bytes_eq command (codes "live") then live given else None)
    (ground_given given)
    (by_test (bytes_eq command (codes "simulate")) (simulate given)
    (if bytes_eq command (codes "live") then live given else None)
    (simulate_given given)
    (by_test (bytes_eq command (codes "live")) (live given) None (live_given given) tt)))

pub words_sized : (words : List Text) → IsSized (task_of words)
words_sized [] = tt
words_sized (command ∷ words) = for_each (asked command) (given_by words) (command_given command)
