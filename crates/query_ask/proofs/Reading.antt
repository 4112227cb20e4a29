-- What is read off the rows of publications.
use Rattle.std.proofs.Common.{◌≡◌, ℕ, ◌+◌, ◌-◌, ◌<◌, Bool, true, ◌&&◌, ◌||◌}
use Rattle.std.proofs.Common.{leb, ltb, List, [], ◌∷◌, map, length, slice_get, Option, Some, None}
use Rattle.std.proofs.Common.{refl, sym, ◌∙◌, ap, arith, option_map, get_or, subst}
use Rattle.std.specs.List.{slice_index_or}
use Rattle.std.proofs.lemmas.Option.{slice_get-map, slice_get_within}
use Rattle.std.proofs.lemmas.List.{length-map}
use Rattle.std.proofs.Math.ListN.{get_or-map}
use Rattle.ground_types.specs.Rows.{covers}
use Rattle.ground_types.specs.Sound.{IsSound, is_fluent_value}
use Rattle.ground_types.specs.Publication.{Published}
use Rattle.ground_types.specs.declared.entries.Query.{Query}
use Rattle.ground_types.specs.declared.entries.Query.TheVariants as query
use Rattle.ground_types.specs.declared.program.Unit.{Unit}
use Rattle.ground_types.specs.declared.program.Program.{Program}
use Rattle.span_algebra.specs.Normal.{pairs, covers as has_span}
use Rattle.span_algebra.specs.declared.spans.Span.{Span}
use Rattle.query_ask.specs.Right.{Parts}
use Rattle.query_ask.specs.Answers.{said, last_of, holds_answer, AreOfProgram, IsAsked}
use Rattle.query_ask.specs.declared.answers.Answer.{Answer}

-- a fluent-value is one of a unit that there is
unit_there : (program : Program) (unit v : ℕ) (found : Option Unit)
    → slice_get program.units unit ≡ found → is_fluent_value program found v ≡ true
    → unit < length program.units
unit_there program unit v None at is = absurd cc
unit_there program unit v (Some u) at is = slice_get_within program.units unit u at

-- the spans as pairs have the same points
pub covers_pairs : (row : List Span) (t : ℕ) → has_span row t ≡ covers (pairs row) t
covers_pairs [] t = refl
covers_pairs (s ∷ rest) t = ap (λ (b : Bool). (ltb s.after t && leb t s.until) || b)
    (covers_pairs rest t)

-- the row of a value, which is empty where there is no such value
pub row_has : (rows : List (List Span)) (v t : ℕ) (row : List Span) → row ≡ get_or rows v []
    → has_span row t ≡ covers (slice_index_or (map pairs rows) v []) t
row_has rows v t row at =
    covers_pairs row t
    ∙ ap (λ (r : List (ℕ × ℕ)). covers r t)
    (ap pairs at ∙ sym (get_or-map pairs rows v []))

-- ---- the last publication

module _ {X : Type 0} (parts_of : X → Parts) (list : List X) (last : X)
    (is : slice_get list (length list - 1) ≡ Some last) where
  last_at : slice_get (map parts_of list) (length list - 1) ≡ Some (parts_of last)
  last_at = slice_get-map parts_of list (length list - 1) ∙ ap (option_map parts_of) is

  pub last_program : (program : Program) → AreOfProgram program (map parts_of list)
      → (parts_of last).program ≡ program
  last_program program members = members.programs (length list - 1) (parts_of last) last_at

  -- its number is one less than how many there are
  pub last_number : (program : Program) → AreOfProgram program (map parts_of list)
      → (parts_of last).number + 1 ≡ length (map parts_of list)
  last_number program members =
      let number : (parts_of last).number ≡ length list - 1
      = members.numbers (length list - 1) (parts_of last) last_at in
      let some : length list - 1 < length list = slice_get_within list (length list - 1) last is in
      omega (arith, number, some, length-map list parts_of)

  pub number_fits : (asked : Query) → IsAsked (map parts_of list) asked
      → (parts_of last).number < (parts_of last).program.plan.queries
      → (parts_of last).number + 1 < 4294967296
  number_fits asked a right =
      let same : (parts_of last).program.plan.queries ≡ a.program.plan.queries
      = ap (λ (p : Program). p.plan.queries) (last_program a.program a.members) in
      omega (arith, right, same, a.sound.plan.queries_most)

  pub last_sound : (asked : Query) → IsAsked (map parts_of list) asked
      → IsSound (parts_of last).program
  last_sound asked a = subst IsSound (sym (last_program a.program a.members)) a.sound

  -- what is read of the last member
  last_said : last_of (map said (map parts_of list)) ≡ Some (said (parts_of last))
  last_said =
      ap (λ (n : ℕ). slice_get (map said (map parts_of list)) (n - 1))
      (length-map (map parts_of list) said ∙ length-map list parts_of)
      ∙ slice_get-map said (map parts_of list) (length list - 1) ∙ ap (option_map said) last_at

  pub last_answers : (unit v t : ℕ) (result : Answer)
      → result ≡ holds_answer (parts_of last).program.plan (Some (said (parts_of last))) unit v t
      → (program : Program) → AreOfProgram program (map parts_of list) →
      result ≡ holds_answer program.plan (last_of (map said (map parts_of list))) unit v t
  last_answers unit v t result is program members =
      is
      ∙ ap (λ (p : Program). holds_answer p.plan (Some (said (parts_of last))) unit v t)
      (last_program program members)
      ∙ ap (λ (o : Option Published). holds_answer program.plan o unit v t) (sym last_said)

  -- the unit that is asked for is one of the program
  pub last_unit : (unit v t : ℕ) → IsAsked (map parts_of list) (query.Holds unit v t)
      → unit < length (parts_of last).program.units
  last_unit unit v t a =
      let there : unit < length a.program.units
      = unit_there a.program unit v (slice_get a.program.units unit) refl a.question in
      omega (
        arith,
        there,
        ap (λ (p : Program). length p.units)
            (last_program a.program a.members),
      )

pub asked_count : (list : List Parts) (asked : Query) → IsAsked list asked
    → IsAsked list query.Count
asked_count list asked a = record {
  program = a.program;
  sound = a.sound;
  members = a.members;
  question = refl;
}
