-- What is published once all layers are ended.
use Rattle.std.proofs.Common.{◌≡◌, ◌∙◌, ◌<◌, ◌≤◌, ◌+◌, ◌^◌, ℕ, zero, suc, Bool, true, false, List}
use Rattle.std.proofs.Common.{length}
use Rattle.std.proofs.Common.{◌++◌, Option, map, refl, sym, ap, ap₂, subst, arith}
use Rattle.std.specs.Prelude.{flat_map, sum_by}
use Rattle.std.specs.List.{range_with_len}
use Rattle.std.proofs.lemmas.Bool.{true≢false}
use Rattle.ground_types.specs.History.{stands, before_seal}
use Rattle.ground_types.specs.Publication.{PublishedRows, opening_of, events_of_query}
use Rattle.ground_types.specs.Publication.{rows_of_table}
use Rattle.ground_types.specs.Recognition.{recognition, is_among, listed}
use Rattle.ground_types.specs.Rows.{points}
use Rattle.ground_types.specs.Touched.{evaluations}
use Rattle.ground_types.specs.Windows.{left, right}
use Rattle.ground_types.specs.declared.entries.Entry.{Entry}
use Rattle.ground_types.specs.declared.entries.Occ.{Occ}
use Rattle.ground_types.specs.declared.program.Program.{Program}
use Rattle.event_store.specs.Occurring.{occurrences_of}
use Rattle.event_store.specs.Standing.{standing}
use Rattle.query_ask.specs.Right.{Parts as PublishedParts, published, IsRightForItself}
use Rattle.span_algebra.specs.Normal.{has}
use Rattle.delay_revise.specs.Counting.{count_of}
use Rattle.delay_revise.specs.Going.{Parts, IsRevising, AreEnded, sealed_until}
use Rattle.delay_revise.specs.Revising.{Revising, IsPublished, number_of}
use Rattle.delay_revise.proofs.Alike.{points_alike}
use Rattle.delay_revise.proofs.Chunks.{open_front}
use Rattle.delay_revise.proofs.GoingOn.{open_number}
use Rattle.delay_revise.proofs.KeptUnits.{total_is, all_rows_kept}
use Rattle.delay_revise.proofs.MostEvaluations.{evaluations_most}
use Rattle.layer_cache.proofs.Shaping.{size_by_shapes}

-- functions that agree on a range give the same lists one after the other
range_alike : (f g : ℕ → List Occ) (a n : ℕ) → ((e : ℕ) → a ≤ e → e < a + n → f e ≡ g e)
    → flat_map f (range_with_len a n) ≡ flat_map g (range_with_len a n)
range_alike f g a zero same = refl
range_alike f g a (suc n) same =
    ap₂ (λ (one two : List Occ). one ++ two) (same a (omega arith) (omega arith))
    (range_alike f g (a + 1) n (λ e low high. same e (omega (arith, low)) (omega (arith, high))))

seals_open : (b : Bool) (s n : ℕ) → s ≡ sealed_until b n → b ≡ true → s ≡ suc n
seals_open true s n is opened = is
seals_open false s n is opened = absurd (true≢false (sym opened))

-- the rows that are right in the window of a query, by its program, opening, events and number
abbrev rows_by : Program → List (Option ℕ) → List Occ → ℕ → List PublishedRows
rows_by program opening events k =
    rows_of_table program (recognition program (listed opening) (is_among events)
    (left program.plan k) (right program.plan k)) (left program.plan k) (right program.plan k)

pub right_of : (program : Program) (history : List Entry) (k : ℕ) (parts : PublishedParts)
    → k < program.plan.queries → IsPublished program history k parts → IsRightForItself parts
right_of program history k parts few is = record {
  number = omega (arith, few, is.number, ap (λ (p : Program). p.plan.queries) is.program_is);
  rows = is.rows ∙ sym (
      ap (λ (p : Program). rows_by p parts.opening parts.events parts.number) is.program_is
      ∙ ap₂ (λ (opening : List (Option ℕ)) (events : List Occ). rows_by program opening events
      parts.number) is.opening is.events
      ∙ ap (rows_by program (opening_of program history k) (events_of_query program history k))
      is.number
      );
}

module _ (r : Revising) (p : Parts) (is : IsRevising r p) (opened : r.has_chunk ≡ true)
    (done : r.applied ≡ true) (layers : r.layer ≡ length r.program.layers) where
  all_ended : AreEnded r.program (length r.program.layers) p.counts
  all_ended = subst (λ (n : ℕ). AreEnded r.program n p.counts) layers is.ended

  size : length p.cached.rows ≡ length r.program.units
  size = size_by_shapes r.program p.cached.rows is.shapes_now

  total_here : sum_by (λ layer. sum_by (count_of p.counts) layer) r.program.layers
      ≡ evaluations r.program r.taken p.number
  total_here = total_is r.program r.taken p.number p.cached.rows p.counts is.sound size is.kept
      all_ended

  -- the counts fit
  pub total_few : (program : Program) (counts : List (Option ℕ)) → program ≡ r.program
      → counts ≡ p.counts
      → sum_by (λ layer. sum_by (count_of counts) layer) program.layers < 2 ^ 64
  total_few program counts this these =
      omega (
        arith,
        ap₂ (λ (of : Program) (l : List (Option ℕ)). sum_by (λ layer. sum_by (count_of l) layer)
            of.layers) this these,
        total_here,
        evaluations_most r.program r.taken p.number is.sound,
      )

  events_here : (w q : ℕ) (items : List Occ) → w ≡ left r.program.plan p.number
      → q ≡ right r.program.plan p.number
      → ((events : ℕ) → ((e t : ℕ) → has (standing p.store e) t ≡ true → w < t → t ≤ q → e < events)
      → items ≡ flat_map (occurrences_of p.store w q) (range_with_len 0 events))
      → items ≡ events_of_query r.program r.taken p.number
  events_here w q items from until found =
      found r.program.events (λ e t here low high. (is.applied done).next.known e t here)
      ∙ range_alike (occurrences_of p.store w q) _ 0 r.program.events (λ event low few.
      ap (map (λ t. record { event = event; at = t }))
      (ap₂ (λ (a b : ℕ). points (λ t. has (standing p.store event) t) a b) from until
      ∙ points_alike (λ t. has (standing p.store event) t)
      (stands (before_seal r.taken p.number) event) (left r.program.plan p.number)
      (right r.program.plan p.number)
      (λ t low high. (is.applied done).events event t (omega (arith, few)) low high)))

  -- the parts are those of the publication
  pub published_here : (parts : PublishedParts) (program of : Program) (counts : List (Option ℕ))
      (w q : ℕ)
      → parts.number ≡ p.number → parts.front ≡ length r.taken → program ≡ r.program
      → parts.program ≡ program → of ≡ r.program → parts.opening ≡ p.opening
      → w ≡ left r.program.plan p.number → q ≡ right r.program.plan p.number
      → ((events : ℕ) → ((e t : ℕ) → has (standing p.store e) t ≡ true → w < t → t ≤ q → e < events)
      → parts.events ≡ flat_map (occurrences_of p.store w q) (range_with_len 0 events))
      → parts.rows ≡ p.cached.rows → counts ≡ p.counts
      → parts.evaluations ≡ sum_by (λ layer. sum_by (count_of counts) layer) of.layers
      → IsPublished r.program r.taken p.number parts
  published_here parts program of counts w q number front this shared total opening from until
      events rows these count = record {
        sealed = omega (arith, seals_open r.has_chunk _ _ is.seals_are opened);
        number = number;
        front = front ∙ open_front r.taken p.number (is.opened opened);
        program_is = shared ∙ this;
        opening = opening ∙ (is.applied done).opening_is;
        events = events_here w q parts.events from until events;
        rows = ap (map published) rows
            ∙ all_rows_kept r.program r.taken p.number p.cached.rows p.counts is.sound size is.kept
            all_ended;
        evaluations_are = count
            ∙ ap₂ (λ (of : Program) (l : List (Option ℕ)).
            sum_by (λ layer. sum_by (count_of l) layer) of.layers) total these
            ∙ total_here;
      }

  pub queries_more : p.number < r.program.plan.queries
  queries_more = omega (
    arith,
    seals_open r.has_chunk _ _ is.seals_are opened,
    is.legal.few_seals,
  )

  -- the same of what the reviser is seen as
  pub published_by : (now : Revising) (parts : PublishedParts) → r ≡ now
      → IsPublished r.program r.taken p.number parts
      → IsPublished now.program now.taken (number_of now) parts
  published_by now parts seen given =
      subst (λ (s : Revising). IsPublished s.program s.taken (number_of s) parts) seen
      (subst (λ (k : ℕ). IsPublished r.program r.taken k parts) (sym (open_number r p is opened))
      given)
