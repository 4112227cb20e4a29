-- Public contracts speak by this: the parts of a report, from what is at hand where each is
-- printed.
use Rattle.std.specs.Prelude.{◌≡◌, ℕ, nat_le, Bool, true, List, [], ◌∷◌, ◌++◌, map, length, sum_by}
use Rattle.std.specs.Prelude.{codes, decimal, slice_get, Option, Some, None}
use Rattle.std.specs.List.{All, list_all, range_with_len}
use Rattle.ground_types.specs.Windows.{left, right}
use Rattle.ground_types.specs.History.{seals}
use Rattle.ground_types.specs.Sound.{IsSound}
use Rattle.ground_types.specs.Publication.{PublishedRows}
use Rattle.ground_types.specs.Touched.{evaluations}
use Rattle.ground_types.specs.declared.entries.Entry.{Entry}
use Rattle.ground_types.specs.declared.entries.Entry.TheVariants.{Fed, Seal}
use Rattle.ground_types.specs.declared.program.Name.{Name}
use Rattle.ground_types.specs.declared.program.Program.{Program}
use Rattle.query_ask.specs.Right.{Parts, published}
use Rattle.query_ask.specs.Answers.{said}
use Rattle.report_text.specs.Report.{entry_line, query_line, row_lines, entries_line, span_count}
use Rattle.report_text.specs.Report.{point_count, publications}

-- the line of an add or a revoke
abbrev pub feed_lines : Program → Entry → List (List ℕ)
feed_lines program (Fed feeder act event at reply) = entry_line program feeder act event at reply
    ∷ []
feed_lines program (Seal number) = []

-- the block of query k with these rows, after so many evaluations
abbrev pub block_of : Program → ℕ → List PublishedRows → ℕ → List (List ℕ)
block_of program k rows evaluations =
    query_line k (left program.plan k) (right program.plan k) evaluations ∷ row_lines program
    (right program.plan k) rows

-- `queries 1 spans 2 points 0 evaluations 3`
abbrev pub totals_line : ℕ → ℕ → ℕ → ℕ → List ℕ
totals_line queries spans points evaluations =
    codes "queries " ++ decimal queries ++ codes " spans " ++ decimal spans ++ codes " points "
    ++ decimal points
    ++ codes " evaluations " ++ decimal evaluations

-- the rows of a publication, as they are printed
abbrev pub rows_in : Parts → List PublishedRows
rows_in parts = map published parts.rows

-- the block of a publication
abbrev pub block_in : Parts → List (List ℕ)
block_in parts = block_of parts.program parts.number (rows_in parts) parts.evaluations

-- the spans and the points of a publication
abbrev pub spans_in : Parts → ℕ
spans_in parts = sum_by span_count (rows_in parts)

abbrev pub points_in : Parts → ℕ
points_in parts = sum_by point_count (rows_in parts)

-- the three last lines where these are the publications
abbrev pub end_of : List Entry → ℕ → List Parts → List (List ℕ)
end_of history ignored list =
    (codes "ignored " ++ decimal ignored) ∷ entries_line history
    ∷ totals_line (length list) (sum_by spans_in list) (sum_by points_in list)
    (sum_by (λ parts. parts.evaluations) list)
    ∷ []

-- the block of the publication at a place, if there is one
abbrev pub block_if : Option Parts → List (List ℕ)
block_if None = []
block_if (Some parts) = block_in parts

abbrev pub block_at : List Parts → ℕ → List (List ℕ)
block_at list number = block_if (slice_get list number)

-- for each seal of the history, in order, what is published and the count of evaluations
pub record AreOf (program : Program) (history : List Entry) (list : List Parts) : Type 0 where
  pub published : map said list ≡ publications program history
  pub evaluations : map (λ parts. parts.evaluations) list ≡ map (evaluations program history)
      (range_with_len 0 (seals history))

-- publications of sound programs
abbrev pub AreSound : List Parts → Type 0
AreSound list = (j : ℕ) (parts : Parts) → slice_get list j ≡ Some parts → IsSound parts.program

-- (a fluent has at most 64 values, which has to be known where spans are counted)
abbrev pub has_few_values : Name → Bool
has_few_values name = nat_le (length name.values) 64

-- a sound program, over which the spans and the points of publications are counted in 128 bits
pub record IsCounted (program : Program) : Type 0 where
  pub sound : IsSound program
  pub values_few : list_all has_few_values program.names ≡ true

-- publications of such programs
abbrev pub AreCounted : List Parts → Type 0
AreCounted list = All (λ (parts : Parts). IsCounted parts.program) list
