-- The parts of a report are the whole.
use Rattle.std.proofs.Common.{◌≡◌, ℕ, List, [], ◌∷◌, ◌++◌, map, codes, decimal, refl, sym, ◌∙◌}
use Rattle.std.proofs.Common.{◌+◌, ap, append_assoc, length}
use Rattle.std.specs.List.{sum_by, range_with_len}
use Rattle.std.proofs.lemmas.List.{length-map}
use Rattle.std.proofs.lemmas.Simd.{map-map}
use Rattle.std.proofs.lemmas.List.FromFn.{length-range_with_len}
use Rattle.std.proofs.lemmas.List.Sums.{sum_by-cons}
use Rattle.ground_types.specs.History.{seals}
use Rattle.ground_types.specs.Publication.{PublishedRows, Published, publication}
use Rattle.ground_types.specs.Touched.{evaluations}
use Rattle.ground_types.specs.declared.plan.Plan.{Plan}
use Rattle.ground_types.specs.declared.entries.Entry.{Entry}
use Rattle.ground_types.specs.declared.entries.Command.{Command}
use Rattle.ground_types.specs.declared.program.Program.{Program}
use Rattle.query_ask.specs.Right.{Parts}
use Rattle.query_ask.specs.Answers.{said}
use Rattle.report_text.specs.Report.{entries_of, history_after, lines_of, command_lines}
use Rattle.report_text.specs.Report.{span_count, point_count, entries_line, block_lines, end_lines}
use Rattle.report_text.specs.Printed.{rows_in, block_of, block_in, spans_in, points_in, totals_line}
use Rattle.report_text.specs.Printed.{end_of, AreOf}

-- commands one after the other
pub history_goes_on : (plan : Plan) (before : List Entry) (first others : List Command) →
    history_after plan before (first ++ others)
    ≡ history_after plan (history_after plan before first) others
history_goes_on plan before [] others = refl
history_goes_on plan before (c ∷ first) others =
    history_goes_on plan (before ++ entries_of plan before c) first others

pub lines_go_on : (program : Program) (before : List Entry) (first others : List Command) →
    command_lines program before (first ++ others)
    ≡ command_lines program before first
    ++ command_lines program (history_after program.plan before first) others
lines_go_on program before [] others = refl
lines_go_on program before (c ∷ first) others =
    let next : List Entry = before ++ entries_of program.plan before c in
    let lines : List (List ℕ) = lines_of program before c in
    ap (λ (l : List (List ℕ)). lines ++ l) (lines_go_on program next first others)
    ∙ sym (append_assoc lines (command_lines program next first)
    (command_lines program (history_after program.plan next first) others))

-- the block of a publication of a seal
pub block_is : (program : Program) (history : List Entry) (k : ℕ) (parts : Parts)
    → parts.number ≡ k → parts.program ≡ program
    → rows_in parts ≡ (publication program history k).rows →
    parts.evaluations ≡ evaluations program history k →
    block_in parts ≡ block_lines program history k
block_is program history k parts number of_program rows count =
    ap (λ (p : Program). block_of p parts.number (rows_in parts) parts.evaluations) of_program
    ∙ ap (λ (n : ℕ). block_of program n (rows_in parts) parts.evaluations) number
    ∙ ap (λ r. block_of program k r parts.evaluations) rows
    ∙ ap (λ (n : ℕ). block_of program k (publication program history k).rows n) count

-- a sum over what is made of items
pub sum_by_map : {A B : Type 0} (count : B → ℕ) (f : A → B) (xs : List A)
    → sum_by count (map f xs) ≡ sum_by (λ x. count (f x)) xs
sum_by_map count f [] = refl
sum_by_map count f (x ∷ xs) =
    sum_by-cons count (f x) (map f xs) ∙ ap (λ (n : ℕ). count (f x) + n) (sum_by_map count f xs)
    ∙ sym (sum_by-cons (λ y. count (f y)) x xs)

-- two lists of which the same is made have the same sum of it
same_sum : {A B C : Type 0} (count : C → ℕ) (f : A → C) (g : B → C) (xs : List A) (ys : List B)
    → map f xs ≡ map g ys → sum_by (λ x. count (f x)) xs ≡ sum_by (λ y. count (g y)) ys
same_sum count f g xs ys same = sym (sum_by_map count f xs) ∙ ap (sum_by count) same
    ∙ sum_by_map count g ys

-- and the same length
pub same_length : {A B C : Type 0} (f : A → C) (g : B → C) (xs : List A) (ys : List B)
    → map f xs ≡ map g ys → length xs ≡ length ys
same_length f g xs ys same =
    sym (length-map xs f) ∙ ap (λ l. length l) same ∙ length-map ys g

-- the last lines
pub ends_are_whole : (program : Program) (history : List Entry) (ignored : ℕ) (list : List Parts)
    → AreOf program history list → end_of history ignored list ≡ end_lines program history ignored
ends_are_whole program history ignored list are =
    let all : List ℕ = range_with_len 0 (seals history) in
    let rows : ℕ → List PublishedRows = λ k. (publication program history k).rows in
    let ends : ℕ → ℕ → ℕ → List (List ℕ) =
    λ spans points count. (codes "ignored " ++ decimal ignored) ∷ entries_line history
    ∷ totals_line (seals history) spans points count ∷ [] in
    let of_rows : map rows_in list ≡ map rows all =
    sym (map-map (λ (p : Published). p.rows) said list) ∙ ap (map (λ (p : Published). p.rows))
    are.published ∙ map-map (λ (p : Published). p.rows) (publication program history) all in
    let spans : sum_by spans_in list ≡ sum_by (λ k. sum_by span_count (rows k)) all =
    same_sum (λ (r : List PublishedRows). sum_by span_count r) rows_in rows list all of_rows in
    let points : sum_by points_in list ≡ sum_by (λ k. sum_by point_count (rows k)) all =
    same_sum (λ (r : List PublishedRows). sum_by point_count r) rows_in rows list all of_rows in
    let counts : sum_by (λ (parts : Parts). parts.evaluations) list
    ≡ sum_by (evaluations program history) all =
    same_sum (λ (n : ℕ). n) (λ (parts : Parts). parts.evaluations) (evaluations program history)
    list all are.evaluations in
    ap (λ (n : ℕ). (codes "ignored " ++ decimal ignored) ∷ entries_line history
    ∷ totals_line n (sum_by spans_in list) (sum_by points_in list)
    (sum_by (λ (parts : Parts). parts.evaluations) list) ∷ [])
    (same_length rows_in rows list all of_rows ∙ length-range_with_len 0 (seals history))
    ∙ ap (λ (n : ℕ). ends n (sum_by points_in list)
    (sum_by (λ (parts : Parts). parts.evaluations) list)) spans
    ∙ ap (λ (n : ℕ). ends (sum_by (λ k. sum_by span_count (rows k)) all) n
    (sum_by (λ (parts : Parts). parts.evaluations) list)) points
    ∙ ap (λ (n : ℕ). ends (sum_by (λ k. sum_by span_count (rows k)) all)
    (sum_by (λ k. sum_by point_count (rows k)) all) n) counts
