-- What is told later changes nothing of the queries that are sealed.
use Rattle.std.proofs.Common.{◌≡◌, ℕ, zero, suc, ◌+◌, ◌<◌, ◌≤◌, List, [], ◌∷◌, ◌++◌, map}
use Rattle.std.proofs.Common.{flat_map, length, Option, cond, refl, sym, ◌∙◌, ap, ap₂, arith}
use Rattle.std.proofs.Common.{◌&&◌, ◌||◌, true, ltb}
use Rattle.std.specs.Prelude.{sum_by}
use Rattle.std.specs.List.{range_with_len}
use Rattle.std.proofs.lemmas.List.Sums.{sum_by-cons, sum_by-append}
use Rattle.ground_types.specs.History.{is_seal, seals, stands, before_seal}
use Rattle.ground_types.specs.Publication.{opening_of, query_table, publication}
use Rattle.ground_types.specs.Publication.{Published, PublishedRows, rows_of_table}
use Rattle.ground_types.specs.Publication.{events_of_query}
use Rattle.ground_types.specs.Recognition.{recognition, is_among, listed, kind_of}
use Rattle.ground_types.specs.Rows.{points}
use Rattle.ground_types.specs.Touched.{evaluations, is_changed, rules_of}
use Rattle.ground_types.specs.Truth.{Table, happens}
use Rattle.ground_types.specs.Windows.{left, right}
use Rattle.ground_types.specs.declared.entries.Entry.{Entry}
use Rattle.ground_types.specs.declared.entries.Entry.TheVariants.{Fed, Seal}
use Rattle.ground_types.specs.declared.entries.Occ.{Occ}
use Rattle.ground_types.specs.declared.program.Program.{Program}
use Rattle.query_ask.specs.Right.{Parts}
use Rattle.query_ask.specs.Answers.{said}
use Rattle.delay_revise.specs.Revising.{IsPublished}

-- one more entry before others counts if it is a seal
pub seals_cons : (x : Entry) (rest : List Entry) → seals (x ∷ rest) ≡ cond (is_seal x) 1 0
    + seals rest
seals_cons x rest = sum_by-cons (λ (entry : Entry). cond (is_seal entry) 1 0) x rest

pub seals_append : (xs ys : List Entry) → seals (xs ++ ys) ≡ seals xs + seals ys
seals_append xs ys = sum_by-append (λ (entry : Entry). cond (is_seal entry) 1 0) xs ys

pub before_stays : (history more : List Entry) (k : ℕ) → k < seals history
    → before_seal (history ++ more) k ≡ before_seal history k
before_stays [] more k lt = absurd (omega (arith, lt))
before_stays (Fed feeder act event at reply ∷ rest) more k lt =
    ap (λ (l : List Entry). Fed feeder act event at reply ∷ l) (before_stays rest more k
    (omega (arith, lt, seals_cons (Fed feeder act event at reply) rest)))
before_stays (Seal number ∷ rest) more zero lt = refl
before_stays (Seal number ∷ rest) more (suc k) lt =
    ap (λ (l : List Entry). Seal number ∷ l) (before_stays rest more k
    (omega (arith, lt, seals_cons (Seal number) rest)))

-- the events of query k, by the entries before its seal
abbrev events_after : Program → ℕ → List Entry → List Occ
events_after program k before =
    flat_map
    (λ event. map (λ t. record { event = event; at = t })
    (points (stands before event) (left program.plan k) (right program.plan k)))
    (range_with_len 0 program.events)

-- and what is true in it, with the values with which it opens
abbrev table_after : Program → ℕ → List Entry → List (Option ℕ) → Table
table_after program k before opening =
    recognition program (listed opening) (is_among (events_after program k before))
    (left program.plan k) (right program.plan k)

pub opening_stays : (program : Program) (history more : List Entry) (k : ℕ) → k ≤ seals history
    → opening_of program (history ++ more) k ≡ opening_of program history k
opening_stays program history more zero le = refl
opening_stays program history more (suc k) le =
    ap₂ (λ (before : List Entry) (opening : List (Option ℕ)).
    map (λ unit. (table_after program k before opening).value unit
    (left program.plan (suc k) + 1)) (range_with_len 0 (length program.units)))
    (before_stays history more k (omega (arith, le)))
    (opening_stays program history more k (omega (arith, le)))

pub query_stays : (program : Program) (history more : List Entry) (k : ℕ) → k < seals history
    → query_table program (history ++ more) k ≡ query_table program history k
query_stays program history more k lt =
    ap₂ (λ (before : List Entry) (opening : List (Option ℕ)). table_after program k before opening)
    (before_stays history more k lt) (opening_stays program history more k (omega (arith, lt)))

-- what is published, by the entries before the seal
abbrev published_after : Program → ℕ → List Entry → List (Option ℕ) → Published
published_after program k before opening = record {
  number = k;
  front = length before + 1;
  opening = opening;
  events = events_after program k before;
  rows = rows_of_table program (table_after program k before opening) (left program.plan k)
      (right program.plan k);
}

pub publication_stays : (program : Program) (history more : List Entry) (k : ℕ)
    → k < seals history → publication program (history ++ more) k ≡ publication program history k
publication_stays program history more k lt =
    ap₂ (λ (before : List Entry) (opening : List (Option ℕ)).
    published_after program k before opening)
    (before_stays history more k lt) (opening_stays program history more k (omega (arith, lt)))

pub evaluations_stay : (program : Program) (history more : List Entry) (k : ℕ)
    → k < seals history → evaluations program (history ++ more) k ≡ evaluations program history k
evaluations_stay program history more zero lt =
    ap (λ (now : Table). sum_by (λ layer. sum_by (λ unit. sum_by (λ rule.
    length (points (λ t. happens now rule.trigger t && true) (left program.plan 0)
    (right program.plan 0))) (rules_of (kind_of program unit))) layer) program.layers)
    (query_stays program history more zero lt)
evaluations_stay program history more (suc k) lt =
    ap₂ (λ (old now : Table). sum_by (λ layer. sum_by (λ unit. sum_by (λ rule.
    length (points (λ t. happens now rule.trigger t
    && (ltb (right program.plan k) t || is_changed old now rule t)) (left program.plan (suc k))
    (right program.plan (suc k)))) (rules_of (kind_of program unit))) layer) program.layers)
    (query_stays program history more k (omega (arith, lt)))
    (query_stays program history more (suc k) lt)

pub published_stays : (program : Program) (before more : List Entry) (k : ℕ) (parts : Parts)
    → IsPublished program before k parts → IsPublished program (before ++ more) k parts
published_stays program before more k parts is =
    let same : publication program (before ++ more) k ≡ publication program before k =
    publication_stays program before more k is.sealed in
    record {
      sealed = omega (arith, is.sealed, seals_append before more);
      number = is.number;
      front = is.front ∙ sym (ap (λ (p : Published). p.front) same);
      program_is = is.program_is;
      opening = is.opening ∙ sym (ap (λ (p : Published). p.opening) same);
      events = is.events ∙ sym (ap (λ (p : Published). p.events) same);
      rows = is.rows ∙ sym (ap (λ (p : Published). p.rows) same);
      evaluations_are = is.evaluations_are ∙ sym (evaluations_stay program before more k
          is.sealed);
    }

-- parts that are published of a query say what is published of it
pub says_publication : (program : Program) (history : List Entry) (k : ℕ) (parts : Parts)
    → IsPublished program history k parts → said parts ≡ publication program history k
says_publication program history k parts is =
    let told : ℕ → ℕ → List (Option ℕ) → List Occ → List PublishedRows → Published =
    λ number front opening events rows. record {
      number = number;
      front = front;
      opening = opening;
      events = events;
      rows = rows;
    } in
    ap₂ (λ number front. told number front parts.opening parts.events (said parts).rows) is.number
    is.front
    ∙ ap₂ (λ opening events. told k (length (before_seal history k) + 1) opening events
    (said parts).rows) is.opening is.events
    ∙ ap (told k (length (before_seal history k) + 1) (opening_of program history k)
    (events_of_query program history k)) is.rows
