-- For private functions alone: where instances come from, and the buckets in which they are
-- gathered.
use Rattle.std.specs.Prelude.{◌≡◌, ◌<◌, ℕ, ◌+◌, ◌^◌, ◌==◌, nat_lt, Bool, ◌&&◌, ◌||◌, List, [], ◌∷◌}
use Rattle.std.specs.Prelude.{◌++◌, map, flat_map, filter, length, slice_index_or, slice_set, min}
use Rattle.std.specs.Prelude.{Option, Some, None, if◌then◌else◌}
use Rattle.std.specs.List.{range_with_len}
use Rattle.ground_types.specs.Sound.{is_input, arguments_of}
use Rattle.ground_types.specs.declared.program.Domain.{Domain}
use Rattle.ground_types.specs.declared.program.Name.{Name}
use Rattle.rule_forms.specs.Forms.{Window}
use Rattle.ground_rules.specs.declared.units.Origin.{Origin}
use Rattle.ground_rules.specs.Assignments.{Clause, Instance, assignments, is_permitted}
use Rattle.ground_rules.specs.Atoms.{head_unit}

-- the items with a key, in order
abbrev pub with_key : {X : Type 0} → (X → ℕ) → List X → ℕ → List X
with_key key xs k = filter (λ x. key x == k) xs

-- for each number below so many the items with it as key
abbrev pub gathered : {X : Type 0} → (X → ℕ) → ℕ → List X → List (List X)
gathered key count xs = map (with_key key xs) (range_with_len 0 count)

-- an item behind those of the list of its key
abbrev pub put : {X : Type 0} → (X → ℕ) → List (List X) → X → List (List X)
put key lists x = slice_set lists (key x) (slice_index_or lists (key x) [] ++ (x ∷ []))

-- (that of a number past the end, which no origin has)
abbrev pub no_clause : Clause
no_clause = record { domains = []; names = []; form = Window 0 }

abbrev pub clause_at : List Clause → ℕ → Clause
clause_at clauses statement = slice_index_or clauses statement no_clause

-- how many assignments the statement at a place has
abbrev pub count_at : List Clause → ℕ → ℕ
count_at clauses statement = length (assignments (clause_at clauses statement))

-- an origin is the place of a statement and that of one of its assignments, of which there are not
-- too many
abbrev pub is_origin : List Clause → Origin → Bool
is_origin clauses origin =
    nat_lt origin.statement (length clauses) && nat_lt origin.assignment
    (count_at clauses origin.statement) && nat_lt (count_at clauses origin.statement) (2 ^ 32)

-- the instance of an origin
abbrev pub instance_at : List Clause → Origin → Instance
instance_at clauses origin = record {
  clause = clause_at clauses origin.statement;
  assignment = slice_index_or (assignments (clause_at clauses origin.statement)) origin.assignment
      [];
}

-- the unit in its head
abbrev pub origin_unit : List Clause → Origin → ℕ
origin_unit clauses origin = head_unit (instance_at clauses origin)

abbrev pub is_permitted_at : List Clause → Origin → Bool
is_permitted_at clauses origin = is_permitted (instance_at clauses origin)

-- the permitted ones among the first origins of the statement at a place
abbrev pub first_origins : List Clause → ℕ → ℕ → List Origin
first_origins clauses statement count =
    filter (is_permitted_at clauses) (map (λ number. record {
      statement = statement;
      assignment =
          number;
    }) (range_with_len 0 count))

-- all permitted ones of the statement at a place
abbrev pub origins_at : List Clause → ℕ → List Origin
origins_at clauses statement = first_origins clauses statement (count_at clauses statement)

-- all permitted ones, in the order of the text and then of the assignments
abbrev pub origins_of : List Clause → List Origin
origins_of clauses = flat_map (origins_at clauses) (range_with_len 0 (length clauses))

-- lists have for each unit below their number the origins of the instances with it as head
abbrev pub AreOrigins : List Clause → List (List Origin) → Type 0
AreOrigins clauses lists = lists ≡ gathered (origin_unit clauses) (length lists)
    (origins_of clauses)

-- the statement at a place has not too many assignments
abbrev pub AreFew : List Clause → Type 0
AreFew clauses = (statement : ℕ) → statement < length clauses → count_at clauses statement < 2 ^ 32

-- each unit of a name has a number below this one
abbrev pub has_units_below : List Domain → ℕ → Name → Bool
has_units_below domains count name = is_input name.kind
    || nat_lt (name.first + length (arguments_of domains name)) (count + 1)

abbrev pub lesser_of : Option ℕ → ℕ → ℕ
lesser_of None n = n
lesser_of (Some least) n = min least n

-- the lesser of the least so far and a number, if it is one of so many
abbrev pub lesser : ℕ → Option ℕ → ℕ → Option ℕ
lesser count least n = if nat_lt n count then Some (lesser_of least n) else least
