-- What a system holds stays so over each of its steps.
use Rattle.std.proofs.Common.{◌≡◌, ◌≢◌, ◌⊎◌, inl, inr, ℕ, zero, suc, ◌+◌, ◌-◌, ◌<◌, ◌≤◌, Bool, true}
use Rattle.std.proofs.Common.{false, ◌&&◌, List, [], ◌∷◌, ◌++◌, length, map, replicate, slice_get}
use Rattle.std.proofs.Common.{slice_set, Option, Some, None, refl, sym, ◌∙◌, ap, ap₂, subst, arith}
use Rattle.std.proofs.Common.{append_assoc, append-nil, length-append, nat_lt, if◌then◌else◌, Ok, Err}
use Rattle.std.specs.Prelude.{slice_index}
use Rattle.std.specs.List.{slice_index_or, list_all}
use Rattle.std.proofs.lemmas.Bool.{and_parts}
use Rattle.std.proofs.lemmas.Bool.Decides.{nat_tests}
use Rattle.std.proofs.lemmas.List.{length-replicate, length-set, get_or-set_same}
use Rattle.std.proofs.lemmas.List.{length-map}
use Rattle.std.proofs.lemmas.Option.{slice_get_past}
use Rattle.ground_types.specs.History.{is_seal, seals}
use Rattle.ground_types.specs.Members.{contains}
use Rattle.ground_types.specs.Publication.{Published, publication}
use Rattle.ground_types.specs.Sound.{IsSound}
use Rattle.ground_types.specs.declared.entries.Entry.{Entry}
use Rattle.ground_types.specs.declared.entries.Entry.TheVariants.{Fed, Seal}
use Rattle.ground_types.specs.declared.program.Program.{Program}
use Rattle.ground_types.proofs.Members.{contains_either, first_or_rest}
use Rattle.query_ask.specs.Right.{Parts}
use Rattle.query_ask.specs.Answers.{said, answered, AreOfProgram}
use Rattle.query_ask.specs.declared.answers.Answer.{Answer}
use Rattle.ground_types.specs.declared.entries.Query.{Query}
use Rattle.admit_core.specs.Log.{Log}
use Rattle.publish_shelf.specs.Listed.{MayFollow}
use Rattle.delay_revise.specs.Revising.{Revising, new_reviser, is_kept}
use Rattle.delay_revise.specs.Revising.{number_of, closed, open_units, layer_or_none, IsPublished}
use Rattle.delay_revise.proofs.LayerWork.{kept_still}
use Rattle.delay_revise.proofs.Staying.{seals_append, published_stays, says_publication}
use Rattle.system_core.specs.Core.{Core, Revision, Stepped, open_layer, units_of, layer_units}
use Rattle.system_core.specs.Core.{has_layer, is_finished, read, refuse, published, publish}
use Rattle.system_core.specs.declared.steps.Outcome.TheVariants.{Published as Put, Read}
use Rattle.system_core.specs.declared.steps.StepRefused.TheVariants as refused
use Rattle.system_core.specs.Claiming.{Claiming, with_claim}
use Rattle.system_core.specs.Holding.{reviser_of, is_open, IsWorking, IsResting, IsBetween}
use Rattle.system_core.specs.Holding.{IsDue, IsNext, IsHolding, core_of, open_revision}
use Rattle.system_core.proofs.Places.{old_or_last}

-- ---- before the first step

none_seen : (n reader : ℕ) → slice_index (replicate n 0) reader ≤ 0
none_seen zero reader = omega arith
none_seen (suc n) zero = omega arith
none_seen (suc n) (suc reader) = none_seen n reader

pub holds_first : (program : Program) (cap readers : ℕ) → IsSound program
    → IsHolding (record { program = program; revision = open_layer 0 })
    (record { plan = program.plan; events = program.events; cap = cap; history = [] })
    (new_reviser program cap) [] (replicate readers 0) None
holds_first program cap readers sound = record {
  sound = sound;
  plan = refl;
  events = refl;
  within = omega arith;
  published_are = λ j parts at. absurd cc;
  seen_are = none_seen readers;
  taken = [];
  rest = [];
  joined = refl;
  unsealed = refl;
  few = omega arith;
  between = (record { reviser_is = refl; first = refl }, refl);
}

-- ---- a reader has seen more

slice_set_index : (xs : List ℕ) (i n j bound : ℕ) → ((k : ℕ) → slice_index xs k ≤ bound)
    → n ≤ bound → slice_index (slice_set xs i n) j ≤ bound
slice_set_index [] i n j bound all le = all j
slice_set_index (x ∷ xs) zero n zero bound all le = le
slice_set_index (x ∷ xs) zero n (suc j) bound all le = all (suc j)
slice_set_index (x ∷ xs) (suc i) n zero bound all le = all zero
slice_set_index (x ∷ xs) (suc i) n (suc j) bound all le =
    slice_set_index xs i n j bound (λ k. all (suc k)) le

-- ---- between the steps

between_resting : (claiming : Claiming) (cap : ℕ) (taken : List Entry) (reviser : Revising) (k : ℕ)
    (made : Option Parts) → IsResting claiming cap taken reviser → k ≡ seals taken → made ≡ None
    → IsBetween claiming cap taken reviser k made reviser.has_chunk
between_resting claiming cap taken reviser k made is all none =
    subst (λ (m : Option Parts). IsBetween claiming cap taken reviser k m reviser.has_chunk)
    (sym none)
    (subst (λ (b : Bool). IsBetween claiming cap taken reviser k None b)
    (sym (ap (λ (r : Revising). r.has_chunk) is.reviser_is)) (is, all))

between_working : (claiming : Claiming) (cap : ℕ) (taken : List Entry) (reviser : Revising) (k : ℕ)
    (made : Option Parts) → IsWorking claiming cap taken reviser → k + 1 ≡ seals taken
    → made ≡ None → IsBetween claiming cap taken reviser k made reviser.has_chunk
between_working claiming cap taken reviser k made is all none =
    subst (λ (m : Option Parts). IsBetween claiming cap taken reviser k m reviser.has_chunk)
    (sym none)
    (subst (λ (b : Bool). IsBetween claiming cap taken reviser k None b)
    (sym (ap (λ (r : Revising). r.has_chunk) is.reviser_is)) (is, all))

-- no revision is open
pub record Rests (claiming : Claiming) (cap : ℕ) (taken : List Entry) (reviser : Revising) (k : ℕ)
    (made : Option Parts) : Type 0 where
  pub is : IsResting claiming cap taken reviser
  pub all : k ≡ seals taken
  pub none_made : made ≡ None

rests_by : (claiming : Claiming) (cap : ℕ) (taken : List Entry) (reviser : Revising) (k : ℕ)
    (made : Option Parts) (has_chunk : Bool) → is_open has_chunk made ≡ false
    → IsBetween claiming cap taken reviser k made has_chunk
    → Rests claiming cap taken reviser k made
rests_by claiming cap taken reviser k (Some parts) true shut b = cc
rests_by claiming cap taken reviser k (Some parts) false shut b = cc
rests_by claiming cap taken reviser k None true shut b = cc
rests_by claiming cap taken reviser k None false shut b = record {
  is = b.0;
  all = b.1;
  none_made = refl;
}

-- a chunk is open
pub record Works (claiming : Claiming) (cap : ℕ) (taken : List Entry) (reviser : Revising) (k : ℕ)
    (made : Option Parts) : Type 0 where
  pub is : IsWorking claiming cap taken reviser
  pub all : k + 1 ≡ seals taken
  pub none_made : made ≡ None

works_by : (claiming : Claiming) (cap : ℕ) (taken : List Entry) (reviser : Revising) (k : ℕ)
    (made : Option Parts) (has_chunk : Bool) → is_open has_chunk made ≡ true
    → claiming.revision.layer < length claiming.program.layers
    → IsBetween claiming cap taken reviser k made has_chunk
    → Works claiming cap taken reviser k made
works_by claiming cap taken reviser k (Some parts) has_chunk opened low b =
    absurd (omega (arith, b.0.turned, low))
works_by claiming cap taken reviser k None false opened low b = cc
works_by claiming cap taken reviser k None true opened low b = record {
  is = b.0;
  all = b.1;
  none_made = refl;
}

-- ---- the history grows

no_seal : (entry : Entry) → is_seal entry ≡ false → seals (entry ∷ []) ≡ 0
no_seal (Fed feeder act event at reply) fed = refl
no_seal (Seal number) fed = cc

module _ (claiming : Claiming) (log : Log) (reviser : Revising) (board : List Parts) (seen : List ℕ)
    (made : Option Parts) (h : IsHolding claiming log reviser board seen made) where
  -- all seals are taken
  pub seals_taken : seals h.taken ≡ seals log.history
  seals_taken = omega (
    arith,
    seals_append h.taken h.rest,
    ap seals h.joined,
    h.unsealed,
  )

  pub holds_fed : (entry : Entry) → is_seal entry ≡ false
      → IsHolding claiming (record log { history = log.history ++ entry ∷ [] }) reviser board seen
      made
  holds_fed entry fed = record {
    sound = h.sound;
    plan = h.plan;
    events = h.events;
    within = h.within;
    published_are = λ j parts at. published_stays claiming.program log.history (entry ∷ []) j parts
        (h.published_are j parts at);
    seen_are = h.seen_are;
    taken = h.taken;
    rest = h.rest ++ entry ∷ [];
    joined = sym (append_assoc h.taken h.rest (entry ∷ []))
        ∙ ap (λ (l : List Entry). l ++ entry ∷ []) h.joined;
    unsealed = omega (
      arith,
      seals_append h.rest (entry ∷ []),
      h.unsealed,
      no_seal entry fed,
    );
    few = omega (arith, h.few, seals_append log.history (entry ∷ []), no_seal entry fed);
    between = h.between;
  }

  -- there are no more publications than queries
  few_by : (made : Option Parts) (has_chunk : Bool)
      → IsBetween claiming log.cap h.taken reviser (length board) made has_chunk
      → length board ≤ seals h.taken
  few_by (Some parts) has_chunk is = omega (arith, is.1)
  few_by None false is = omega (arith, is.1)
  few_by None true is = omega (arith, is.1)

  pub few_published : length board ≤ 1024
  few_published =
      omega (
        arith,
        few_by made reviser.has_chunk h.between,
        seals_taken,
        h.few,
        h.sound.plan.queries_most,
      )

  pub of_program : AreOfProgram claiming.program board
  of_program = record {
    numbers = λ j parts at. (h.published_are j parts at).number;
    programs = λ j parts at. (h.published_are j parts at).program_is;
  }

  -- ---- a reader

  pub holds_read : (reader : ℕ) → IsHolding claiming log reviser board
      (slice_set seen reader (length board)) made
  holds_read reader = record {
    sound = h.sound;
    plan = h.plan;
    events = h.events;
    within = h.within;
    published_are = h.published_are;
    seen_are = λ other. slice_set_index seen reader (length board) other (length board) h.seen_are
        (omega arith);
    taken = h.taken;
    rest = h.rest;
    joined = h.joined;
    unsealed = h.unsealed;
    few = h.few;
    between = h.between;
  }

  -- ---- the claims go on

  claimed_by : (claimed : List ℕ) (made : Option Parts) (has_chunk : Bool)
      → is_open has_chunk made ≡ true
      → IsBetween claiming log.cap h.taken reviser (length board) made has_chunk
      → IsBetween (record claiming {
        revision = record claiming.revision { claimed = claimed };
      }) log.cap h.taken reviser (length board) made has_chunk
  claimed_by claimed (Some parts) has_chunk opened b = (
    record {
      reviser_is = b.0.reviser_is;
      turned = b.0.turned;
      published_is = b.0.published_is;
    },
    b.1,
  )
  claimed_by claimed None false opened b = cc
  claimed_by claimed None true opened b = (
    record {
      reviser_is = b.0.reviser_is;
      places = b.0.places;
      kept_are = b.0.kept_are;
    },
    b.1,
  )

  pub holds_claimed : (claimed : List ℕ) → is_open reviser.has_chunk made ≡ true
      → IsHolding (record claiming {
        revision = record claiming.revision { claimed = claimed };
      }) log reviser board seen made
  holds_claimed claimed opened = record {
    sound = h.sound;
    plan = h.plan;
    events = h.events;
    within = h.within;
    published_are = h.published_are;
    seen_are = h.seen_are;
    taken = h.taken;
    rest = h.rest;
    joined = h.joined;
    unsealed = h.unsealed;
    few = h.few;
    between = claimed_by claimed made reviser.has_chunk opened h.between;
  }

  pub holds_with_claim : (unit : Option ℕ) → is_open reviser.has_chunk made ≡ true
      → IsHolding (with_claim claiming unit) log reviser board seen made
  holds_with_claim None opened = h
  holds_with_claim (Some unit) opened = holds_claimed (claiming.revision.claimed ++ unit ∷ []) opened

  -- ---- an open chunk

  pub works : is_open reviser.has_chunk made ≡ true
      → claiming.revision.layer < length claiming.program.layers
      → Works claiming log.cap h.taken reviser (length board) made
  works opened low = works_by claiming log.cap h.taken reviser (length board) made
      reviser.has_chunk opened low h.between

  -- with other claims and another reviser that works on
  pub holds_working : (other : Claiming) (next : Revising) → other.program ≡ claiming.program
      → other.revision.layer ≤ length other.program.layers → IsWorking other log.cap h.taken next → Works claiming log.cap h.taken reviser (length board)
      made → IsHolding other log next board seen made
  holds_working other next same low is w = record {
    sound = subst IsSound (sym same) h.sound;
    plan = h.plan ∙ ap (λ (p : Program). p.plan) (sym same);
    events = h.events ∙ ap (λ (p : Program). p.events) (sym same);
    within = low;
    published_are = λ j parts at. subst (λ (p : Program). IsPublished p log.history j parts)
        (sym same) (h.published_are j parts at);
    seen_are = h.seen_are;
    taken = h.taken;
    rest = h.rest;
    joined = h.joined;
    unsealed = h.unsealed;
    few = subst (λ (p : Program). seals log.history ≤ p.plan.queries) (sym same) h.few;
    between = between_working other log.cap h.taken next (length board) made is w.all w.none_made;
  }

-- ---- what a working reviser goes on to

last_or_before : (xs : List ℕ) (x y : ℕ) → contains (xs ++ y ∷ []) x ≡ true
    → (contains xs x ≡ true) ⊎ (y ≡ x)
last_or_before xs x y is =
    elim (contains_either xs (y ∷ []) x is) [
      | inl early ↦ inl early
      | inr last ↦ elim (first_or_rest y [] x last) [ inl same ↦ inr same | inr empty ↦ cc ]
    ]

kept_here : (kept : List Bool) (unit other : ℕ) → unit ≡ other → unit < length kept
    → slice_index_or (slice_set kept unit true) other false ≡ true
kept_here kept unit other same within =
    subst (λ (n : ℕ). slice_index_or (slice_set kept unit true) n false ≡ true) same
    (get_or-set_same kept unit true false within)

module _ (claiming : Claiming) (cap : ℕ) (taken : List Entry) (reviser : Revising)
    (w : IsWorking claiming cap taken reviser) where
  abbrev as_it_is : Bool → ℕ → List Bool → Revising
  as_it_is applied layer kept = record (reviser_of claiming.program cap taken) {
    has_chunk = true;
    applied = applied;
    layer = layer;
    kept = kept;
  }

  pub applied_works : (next : Revising) → next ≡ record reviser { applied = next.applied }
      → IsWorking claiming cap taken next
  applied_works next same = record {
    reviser_is =
        same
        ∙ ap (λ (r : Revising). let n : Revising = record r { applied = next.applied } in n)
        w.reviser_is
        ∙ ap (as_it_is next.applied claiming.revision.layer)
        (sym (ap (λ (r : Revising). r.kept) same));
    places = ap (λ (r : Revising). length r.kept) same ∙ w.places;
    kept_are = λ unit done. ap (λ (r : Revising). is_kept r unit) same ∙ w.kept_are unit done;
  }

  pub finished_works : (next : Revising) (unit : ℕ) → next ≡ record reviser {
    applied = true;
    kept = slice_set reviser.kept unit true;
  } → unit < length claiming.program.units
      → IsWorking (record claiming {
        revision = record claiming.revision {
          finished = claiming.revision.finished ++ unit ∷ [];
        };
      }) cap taken next
  finished_works next unit same within = record {
    reviser_is =
        same
        ∙ ap (λ (r : Revising). let n : Revising = record r {
          applied = true;
          kept = slice_set reviser.kept unit true;
        } in n) w.reviser_is
        ∙ ap₂ (λ (a : Bool) (k : List Bool). as_it_is a claiming.revision.layer k)
        (sym (ap (λ (r : Revising). r.applied) same))
        (sym (ap (λ (r : Revising). r.kept) same));
    places = ap (λ (r : Revising). length r.kept) same ∙ length-set reviser.kept unit true
        ∙ w.places;
    kept_are = λ other done. ap (λ (r : Revising). is_kept r other) same
        ∙ elim (last_or_before claiming.revision.finished other unit done) [
          | inl early ↦ kept_still reviser.kept unit other (w.kept_are other early)
          | inr last ↦ kept_here reviser.kept unit other last (omega (arith, within, w.places))
        ];
  }

  pub turned_works : (next : Revising) → next ≡ record reviser { layer = reviser.layer + 1 }
      → IsWorking (record claiming { revision = open_layer (claiming.revision.layer + 1) }) cap taken
      next
  turned_works next same = record {
    reviser_is =
        same
        ∙ ap (λ (r : Revising). let n : Revising = record r { layer = r.layer + 1 } in n)
        w.reviser_is
        ∙ ap₂ (λ (a : Bool) (k : List Bool). as_it_is a (claiming.revision.layer + 1) k)
        (sym (ap (λ (r : Revising). r.applied) same))
        (sym (ap (λ (r : Revising). r.kept) same));
    places = ap (λ (r : Revising). length r.kept) same ∙ w.places;
    kept_are = λ unit done. cc;
  }

-- ---- a seal

pub sealed_works : (claiming : Claiming) (cap : ℕ) (taken all : List Entry) (reviser next : Revising)
    → IsResting claiming cap taken reviser → next ≡ record reviser { taken = all; has_chunk = true }
    → IsWorking claiming cap all next
sealed_works claiming cap taken all reviser next r same =
    let opened : next ≡ record (reviser_of claiming.program cap all) { has_chunk = true } =
    same
    ∙ ap (λ (r : Revising). let n : Revising = record r {
      taken = all;
      has_chunk = true;
    } in n) r.reviser_is in
    let first : claiming.revision.layer ≡ 0 = ap (λ (v : Revision). v.layer) r.first in
    let none : claiming.revision.finished ≡ [] = ap (λ (v : Revision). v.finished) r.first in
    let fresh : Bool → ℕ → List Bool → Revising = λ applied layer kept.
    record (reviser_of claiming.program cap all) {
      has_chunk = true;
      applied = applied;
      layer = layer;
      kept = kept;
    } in
    record {
      reviser_is = opened
          ∙ ap₂ (λ (a : Bool) (k : List Bool). fresh a 0 k)
          (sym (ap (λ (r : Revising). r.applied) opened))
          (sym (ap (λ (r : Revising). r.kept) opened))
          ∙ ap (λ (l : ℕ). fresh next.applied l next.kept) (sym first);
      places = ap (λ (r : Revising). length r.kept) opened
          ∙ length-replicate (length claiming.program.units) false;
      kept_are = λ unit done.
          (let never : contains [] unit ≡ true = ap (λ (l : List ℕ). contains l unit) (sym none)
          ∙ done in cc);
    }

module _ (claiming : Claiming) (log : Log) (reviser : Revising) (board : List Parts) (seen : List ℕ)
    (made : Option Parts) (h : IsHolding claiming log reviser board seen made) where
  pub rests : is_open reviser.has_chunk made ≡ false
      → Rests claiming log.cap h.taken reviser (length board) made
  rests shut = rests_by claiming log.cap h.taken reviser (length board) made reviser.has_chunk shut
      h.between

  pub holds_sealed : (next : Revising) (number : ℕ) → is_open reviser.has_chunk made ≡ false
      → next ≡ record reviser { taken = log.history ++ Seal number ∷ []; has_chunk = true }
      → seals log.history ≢ claiming.program.plan.queries
      → IsHolding claiming (record log { history = log.history ++ Seal number ∷ [] }) next board seen
      made
  holds_sealed next number shut same more =
      let r = rests shut in
      let one : seals (Seal number ∷ []) ≡ 1 = refl in
      let count : seals (log.history ++ Seal number ∷ []) ≡ seals log.history + seals (Seal number
      ∷ []) = seals_append log.history (Seal number ∷ []) in
      let now = seals_taken claiming log reviser board seen made h in
      record {
        sound = h.sound;
        plan = h.plan;
        events = h.events;
        within = h.within;
        published_are = λ j parts at. published_stays claiming.program log.history (Seal number ∷ [])
            j parts (h.published_are j parts at);
        seen_are = h.seen_are;
        taken = log.history ++ Seal number ∷ [];
        rest = [];
        joined = append-nil (log.history ++ Seal number ∷ []);
        unsealed = refl;
        few = omega (arith, count, one, h.few, more);
        between = between_working claiming log.cap (log.history ++ Seal number ∷ []) next
            (length board) made
            (sealed_works claiming log.cap h.taken (log.history ++ Seal number ∷ []) reviser next
            r.is same) (omega (arith, count, one, r.all, now)) r.none_made;
      }

  -- ---- a publication

  -- what is made next is what follows the board
  pub record Follows (next : Revising) (parts : Parts) : Type 0 where
    pub closed_is : next ≡ reviser_of claiming.program log.cap h.taken
    pub published_is : IsPublished claiming.program h.taken (length board) parts
    pub all : length board + 1 ≡ seals h.taken

  due_by : (made : Option Parts) (has_chunk : Bool) → reviser.has_chunk ≡ has_chunk
      → is_open has_chunk made ≡ true
      → claiming.revision.layer ≡ length claiming.program.layers
      → IsBetween claiming log.cap h.taken reviser (length board) made has_chunk
      → IsDue reviser made
  due_by (Some parts) has_chunk at opened past b = tt
  due_by None false at opened past b = cc
  due_by None true at opened past b = (
    at,
    ap (λ (r : Revising). r.layer) b.0.reviser_is ∙ past
        ∙ ap (λ (r : Revising). length r.program.layers) (sym b.0.reviser_is),
  )

  pub due : is_open reviser.has_chunk made ≡ true
      → claiming.revision.layer ≡ length claiming.program.layers → IsDue reviser made
  due opened past = due_by made reviser.has_chunk refl opened past h.between

  follows_by : (made : Option Parts) (has_chunk : Bool) (next : Revising) (parts : Parts)
      → is_open has_chunk made ≡ true
      → IsBetween claiming log.cap h.taken reviser (length board) made has_chunk
      → IsNext reviser made next parts → Follows next parts
  follows_by (Some there) has_chunk next parts opened b n = record {
    closed_is = n.1 ∙ b.0.reviser_is;
    published_is = subst (IsPublished claiming.program h.taken (length board)) (sym n.0)
        b.0.published_is;
    all = b.1;
  }
  follows_by None false next parts opened b n = cc
  follows_by None true next parts opened b n =
      let number : seals h.taken - 1 ≡ length board = omega (arith, b.1) in
      record {
        closed_is = n.1 ∙ ap closed b.0.reviser_is;
        published_is = subst (λ (k : ℕ). IsPublished claiming.program h.taken k parts) number
            (subst (λ (r : Revising). IsPublished r.program r.taken (number_of r) parts)
            b.0.reviser_is n.0);
        all = b.1;
      }

  pub follows : (next : Revising) (parts : Parts) → is_open reviser.has_chunk made ≡ true
      → IsNext reviser made next parts → Follows next parts
  follows next parts opened n = follows_by made reviser.has_chunk next parts opened h.between n

  -- it may go on the board
  pub may_follow : (next : Revising) (parts : Parts) → Follows next parts → MayFollow board parts
  may_follow next parts f = record {
    number = f.published_is.number;
    program = λ j other at. (h.published_are j other at).program_is ∙ sym f.published_is.program_is;
  }

  -- it is what the definitions say of the history
  pub of_history : (next : Revising) (parts : Parts) → Follows next parts
      → IsPublished claiming.program log.history (length board) parts
  of_history next parts f =
      subst (λ (l : List Entry). IsPublished claiming.program l (length board) parts) h.joined
      (published_stays claiming.program h.taken h.rest (length board) parts f.published_is)

  longer : (parts : Parts) → length board ≤ length (board ++ parts ∷ [])
  longer parts = omega (arith, length-append board (parts ∷ []))

  pub holds_put : (next : Revising) (parts : Parts) → Follows next parts
      → IsHolding (record claiming { revision = open_layer 0 }) log next (board ++ parts ∷ []) seen
      None
  holds_put next parts f = record {
    sound = h.sound;
    plan = h.plan;
    events = h.events;
    within = omega arith;
    published_are = λ j other at. elim (old_or_last board parts other j at) [
      | inl early ↦ h.published_are j other early
      | inr last ↦ subst (λ (k : ℕ). IsPublished claiming.program log.history k other) (sym last.0)
          (subst (IsPublished claiming.program log.history (length board)) last.1
          (of_history next parts f))
    ];
    seen_are = λ reader. omega (arith, h.seen_are reader, longer parts);
    taken = h.taken;
    rest = h.rest;
    joined = h.joined;
    unsealed = h.unsealed;
    few = h.few;
    between = between_resting (record claiming { revision = open_layer 0 }) log.cap h.taken next
        (length (board ++ parts ∷ [])) None
        (record { reviser_is = f.closed_is; first = refl })
        (omega (arith, length-append board (parts ∷ []), f.all)) refl;
  }

  -- without memory to put it, it is kept
  pub holds_made : (next : Revising) (parts : Parts) → Follows next parts
      → claiming.revision.layer ≡ length claiming.program.layers
      → IsHolding claiming log next board seen (Some parts)
  holds_made next parts f past = record {
    sound = h.sound;
    plan = h.plan;
    events = h.events;
    within = h.within;
    published_are = h.published_are;
    seen_are = h.seen_are;
    taken = h.taken;
    rest = h.rest;
    joined = h.joined;
    unsealed = h.unsealed;
    few = h.few;
    between = (
      record { reviser_is = f.closed_is; turned = past; published_is = f.published_is },
      f.all,
    );
  }

-- ---- the end of a layer

pub low_from : (program : Program) (revision : Revision) → has_layer program revision ≡ true
    → revision.layer < length program.layers
low_from program revision is = grind (arith, nat_tests)

pub past_from : (program : Program) (revision : Revision) → has_layer program revision ≡ false
    → revision.layer ≤ length program.layers → revision.layer ≡ length program.layers
past_from program revision is most = grind (arith, nat_tests)

same_units : (o : Option (List ℕ)) → layer_or_none o ≡ units_of o
same_units None = refl
same_units (Some units) = refl

all_weaker : (p q : ℕ → Bool) (xs : List ℕ) → ((x : ℕ) → p x ≡ true → q x ≡ true)
    → list_all p xs ≡ true → list_all q xs ≡ true
all_weaker p q [] go all = refl
all_weaker p q (x ∷ xs) go all =
    let both = and_parts (p x) (list_all p xs) all in
    ap₂ (λ (a b : Bool). a && b) (go x both.0) (all_weaker p q xs go both.1)

pub open_units_are : (claiming : Claiming) (cap : ℕ) (taken : List Entry) (reviser : Revising)
    → IsWorking claiming cap taken reviser
    → open_units reviser ≡ layer_units claiming.program claiming.revision.layer
open_units_are claiming cap taken reviser w =
    ap open_units w.reviser_is
    ∙ same_units (slice_get claiming.program.layers claiming.revision.layer)

pub kept_all : (claiming : Claiming) (cap : ℕ) (taken : List Entry) (reviser : Revising)
    → IsWorking claiming cap taken reviser
    → is_finished claiming.program claiming.revision ≡ true
    → list_all (is_kept reviser) (open_units reviser) ≡ true
kept_all claiming cap taken reviser w done =
    ap (list_all (is_kept reviser)) (open_units_are claiming cap taken reviser w)
    ∙ all_weaker (contains claiming.revision.finished) (is_kept reviser)
    (layer_units claiming.program claiming.revision.layer) w.kept_are done

unit_low : (program : Program) (layer unit : ℕ) (b : Bool) → nat_lt layer (length program.layers) ≡ b
    → contains (layer_units program layer) unit ≡ true → layer < length program.layers
unit_low program layer unit true low among = grind (arith, nat_tests)
unit_low program layer unit false low among =
    let past : length program.layers ≤ layer = grind (arith, nat_tests) in
    let never : contains [] unit ≡ true =
    ap (λ (o : Option (List ℕ)). contains (units_of o) unit)
    (sym (slice_get_past program.layers layer past)) ∙ among in
    cc

-- a layer with a unit is one of the program's
pub low_of : (program : Program) (layer unit : ℕ) → contains (layer_units program layer) unit ≡ true
    → layer < length program.layers
low_of program layer unit among = unit_low program layer unit (nat_lt layer (length program.layers))
    refl among

-- ---- the state after a question and after a publication

pub read_is : (claiming : Claiming) (log : Log) (reviser : Revising) (board : List Parts)
    (seen : List ℕ) (made : Option Parts) (reader : ℕ) (asked : Query) (n : ℕ) (answer : Answer)
    → n ≡ length board → answer ≡ answered claiming.program.plan (map said board) asked
    → (core_of claiming log reviser board (slice_set seen reader n) made, Ok (Read n answer))
    ≡ read (core_of claiming log reviser board seen made) reader asked
read_is claiming log reviser board seen made reader asked n answer count same =
    ap₂ (λ (k : ℕ) (a : Answer). let s : Stepped =
    (core_of claiming log reviser board (slice_set seen reader k) made, Ok (Read k a)) in s)
    (count ∙ sym (length-map board said)) same

-- a step Publish that is not refused
pub record IsDueNow (core : Core) (revision : Revision) (opened : Bool) : Type 0 where
  pub is : opened ≡ true
  pub turned : has_layer core.program revision ≡ false

due_layers : (core : Core) (revision : Revision) (b : Bool) → has_layer core.program revision ≡ b
    → (if b then refuse core refused.LayersLeft else published core) ≡ published core
    → has_layer core.program revision ≡ false
due_layers core revision true is same =
    let never : Err refused.LayersLeft ≡ Ok (Put (length core.list)) =
    ap (λ (s : Stepped). s.1) same in
    cc
due_layers core revision false is same = is

pub due_now : (core : Core) (revision : Revision) (b : Bool)
    → publish core (open_revision b revision) ≡ published core → IsDueNow core revision b
due_now core revision true same = record {
  is = refl;
  turned = due_layers core revision (has_layer core.program revision) refl same;
}
due_now core revision false same =
    let never : Err refused.Idle ≡ Ok (Put (length core.list)) =
    ap (λ (s : Stepped). s.1) same in
    cc

map_more : (board : List Parts) (parts : Parts)
    → map said (board ++ parts ∷ []) ≡ map said board ++ said parts ∷ []
map_more [] parts = refl
map_more (first ∷ rest) parts = ap (λ (l : List Published). said first ∷ l) (map_more rest parts)

module _ (claiming : Claiming) (log : Log) (reviser : Revising) (board : List Parts) (seen : List ℕ)
    (made : Option Parts) (h : IsHolding claiming log reviser board seen made) (next : Revising)
    (parts : Parts) (f : Follows claiming log reviser board seen made h next parts) where
  pub put_is : (claims : Claiming) (now : List Parts) (left : Option Parts) (n : ℕ)
      → claims ≡ record claiming { revision = open_layer 0 } → now ≡ board ++ parts ∷ []
      → left ≡ None → n ≡ parts.number
      → (core_of claims log next now seen left, Ok (Put n))
      ≡ published (core_of claiming log reviser board seen made)
  put_is claims now left n restarted grown none number =
      let told : Claiming → List Published → Option Revision → ℕ → Stepped = λ c l r k. (
        record {
          program = c.program;
          cap = log.cap;
          history = log.history;
          list = l;
          seen = seen;
          revision = r;
        },
        Ok (Put k),
      ) in
      let shut : is_open next.has_chunk left ≡ false =
      ap₂ (λ (b : Bool) (m : Option Parts). is_open b m)
      (ap (λ (r : Revising). r.has_chunk) f.closed_is) none in
      let here = of_history claiming log reviser board seen made h next parts f in
      let list : map said now ≡ map said board ++ publication claiming.program log.history
      (length (map said board)) ∷ [] =
      ap (map said) grown ∙ map_more board parts
      ∙ ap (λ (p : Published). map said board ++ p ∷ [])
      (says_publication claiming.program log.history (length board) parts here
      ∙ ap (publication claiming.program log.history) (sym (length-map board said))) in
      ap₂ (λ (c : Claiming) (l : List Published). told c l
      (open_revision (is_open next.has_chunk left) claims.revision) n) restarted list
      ∙ ap₂ (λ (b : Bool) (k : ℕ). told claiming (map said board ++ publication claiming.program
      log.history (length (map said board)) ∷ []) (open_revision b claims.revision) k) shut
      (number ∙ here.number ∙ sym (length-map board said))
