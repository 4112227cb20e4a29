-- The lines of an answer are those of the report.
use Rattle.std.proofs.Common.{◌≡◌, ℕ, ◌+◌, ◌<◌, nat_le, Bool, true, false, List}
use Rattle.std.proofs.Common.{◌∷◌, ◌++◌, map, length, slice_get, Option, Some, None, refl, sym, ◌∙◌}
use Rattle.std.proofs.Common.{ap, arith, codes, get_or, if◌then◌else◌, option_map}
use Rattle.std.specs.List.{range_with_len}
use Rattle.std.proofs.lemmas.Bool.Decides.{nat_tests}
use Rattle.std.proofs.lemmas.List.{length-map}
use Rattle.std.proofs.lemmas.Option.{slice_get-map, slice_get-get_or, same_Some}
use Rattle.std.proofs.lemmas.List.FromFn.{length-range_with_len}
use Rattle.ground_types.specs.History.{seals}
use Rattle.ground_types.specs.Publication.{Published, publication}
use Rattle.ground_types.specs.Touched.{evaluations}
use Rattle.ground_types.specs.Windows.{left, right}
use Rattle.ground_types.specs.declared.plan.Plan.{Plan}
use Rattle.ground_types.specs.declared.entries.Entry.{Entry}
use Rattle.ground_types.specs.declared.entries.Query.{Query}
use Rattle.ground_types.specs.declared.entries.Query.TheVariants as query
use Rattle.ground_types.specs.declared.program.Program.{Program}
use Rattle.query_ask.specs.Right.{Parts}
use Rattle.query_ask.specs.Answers.{said, last_of, yes_if, is_value_point, holds_answer}
use Rattle.query_ask.specs.Answers.{block_answer, answered, AreOfProgram}
use Rattle.query_ask.specs.declared.answers.Answer.{Answer}
use Rattle.query_ask.specs.declared.answers.Answer.TheVariants as answer
use Rattle.query_ask.proofs.TrueAnswers.{range_at}
use Rattle.report_text.specs.Report.{query_text, answer_text, asked_block, answer_lines, behind}
use Rattle.report_text.specs.Report.{ask_lines, block_lines}
use Rattle.report_text.specs.Printed.{block_in, block_at, block_if, AreOf}
use Rattle.report_text.proofs.Wholes.{same_length, block_is}

-- no block stands behind an answer that is none
yes_alone : (holds : Bool) (block other : ℕ → List (List ℕ))
    → asked_block block (yes_if holds) ≡ asked_block other (yes_if holds)
yes_alone true block other = refl
yes_alone false block other = refl

inside_alone : (inside holds : Bool) (w q : ℕ) (block other : ℕ → List (List ℕ)) →
    asked_block block (if inside then yes_if holds else answer.Outside w q)
    ≡ asked_block other (if inside then yes_if holds else answer.Outside w q)
inside_alone true holds w q block other = yes_alone holds block other
inside_alone false holds w q block other = refl

holds_alone : (plan : Plan) (last : Option Published) (unit v t : ℕ)
    (block other : ℕ → List (List ℕ)) →
    asked_block block (holds_answer plan last unit v t)
    ≡ asked_block other (holds_answer plan last unit v t)
holds_alone plan None unit v t block other = refl
holds_alone plan (Some last) unit v t block other =
    inside_alone (is_value_point plan last.number t) _ (left plan last.number)
    (right plan last.number) block other

-- what is made of the item at a place
pub made_of : {X : Type 0} (made : X → Parts) (list : List X) (number : ℕ) (item : X)
    → number < length list → item ≡ get_or list number item
    → slice_get (map made list) number ≡ Some (made item)
made_of made list number item within is =
    slice_get-map made list number
    ∙ ap (option_map made) (slice_get-get_or list number item within ∙ ap Some (sym is))

-- the lines of a block that is there
pub asked_is : (list : List Parts) (reply : Answer) (number : ℕ) (parts shown : Parts)
    → reply ≡ answer.Block number → slice_get list number ≡ Some parts → shown ≡ parts
    → behind (codes "ask ") (block_in shown) ≡ asked_block (block_at list) reply
asked_is list reply number parts shown is at same =
    ap (λ (p : Parts). behind (codes "ask ") (block_in p)) same
    ∙ ap (λ (o : Option Parts). behind (codes "ask ") (block_if o)) (sym at)
    ∙ ap (asked_block (block_at list)) (sym is)

-- blocks that are alike below so many
block_alike : (have number : ℕ) (block other : ℕ → List (List ℕ)) →
    (number < have → block number ≡ other number) →
    asked_block block (block_answer have number) ≡ asked_block other (block_answer have number)
block_alike have number block other alike = by (nat_le have number) refl where
  by : (past : Bool) → nat_le have number ≡ past →
      asked_block block (if past then answer.NotPublished have else answer.Block number)
      ≡ asked_block other (if past then answer.NotPublished have else answer.Block number)
  by true is = refl
  by false is =
      let below : number < have = grind (arith, nat_tests) in
      ap (behind (codes "ask ")) (alike below)

module _ (program : Program) (history : List Entry) (list : List Parts)
    (are : AreOf program history list) (members : AreOfProgram program list) where
  abbrev all : List ℕ
  all = range_with_len 0 (seals history)

  same_count : length list ≡ seals history
  same_count = same_length said (publication program history) list all are.published
      ∙ length-range_with_len 0 (seals history)

  -- what is made of the member at a place, where the same is made of numbers
  made_at : {C : Type 0} (made : Parts → C) (of : ℕ → C) (number : ℕ) (found : Option Parts)
      → map made list ≡ map of all → slice_get list number ≡ found → number < length list →
      option_map made found ≡ Some (of number)
  made_at made of number found same at below =
      ap (option_map made) (sym at) ∙ sym (slice_get-map made list number)
      ∙ ap (λ l. slice_get l number) same ∙ slice_get-map of all number
      ∙ ap (option_map of) (range_at (seals history) number (omega (arith, below, same_count)))

  block_by : (number : ℕ) (found : Option Parts) → slice_get list number ≡ found
      → number < length list → block_if found ≡ block_lines program history number
  block_by number None at below =
      let none = made_at said (publication program history) number None are.published at below in
      absurd cc
  block_by number (Some parts) at below =
      block_is program history number parts (members.numbers number parts at)
      (members.programs number parts at)
      (ap (λ (p : Published). p.rows) (same_Some (said parts) (publication program history number)
      (made_at said (publication program history) number (Some parts) are.published at below)))
      (same_Some parts.evaluations (evaluations program history number)
      (made_at (λ (p : Parts). p.evaluations) (evaluations program history) number (Some parts)
      are.evaluations at below))

  same_blocks : (asked : Query) →
      asked_block (block_at list) (answered program.plan (map said list) asked)
      ≡ asked_block (block_lines program history) (answered program.plan (map said list) asked)
  same_blocks (query.Holds unit v t) = holds_alone program.plan (last_of (map said list)) unit v t
      (block_at list) (block_lines program history)
  same_blocks query.Count = refl
  same_blocks (query.Block number) =
      block_alike (length (map said list)) number (block_at list) (block_lines program history)
      (λ below. block_by number (slice_get list number) refl
      (omega (arith, below, length-map list said)))

  pub lines_are : (asked : Query) →
      answer_lines program (block_at list) asked (answered program.plan (map said list) asked)
      ≡ ask_lines program history asked
  lines_are asked =
      let answer : Answer = answered program.plan (map said list) asked in
      ap (λ (lines : List (List ℕ)). (query_text program asked ++ answer_text answer) ∷ lines)
      (same_blocks asked)
      ∙ ap (λ (said : List Published). answer_lines program (block_lines program history) asked
      (answered program.plan said asked)) are.published

pub answers_are_whole : (program : Program) (history : List Entry) (list : List Parts)
    (asked : Query) → AreOf program history list → AreOfProgram program list →
    answer_lines program (block_at list) asked (answered program.plan (map said list) asked)
    ≡ ask_lines program history asked
answers_are_whole program history list asked are members = lines_are program history list are
    members asked
