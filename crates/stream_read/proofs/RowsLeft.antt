-- Reading a record leaves the records behind it.
use Rattle.std.proofs.Common.{◌≡◌, ◌∷◌, [], ℕ, zero, suc, ◌+◌, ◌<◌, ◌⊎◌, inl, inr, Bool, true}
use Rattle.std.proofs.Common.{false, List, length, refl, ap, add-one, arith, Option, Some, None}
use Rattle.std.proofs.Common.{IsSome, sym, ◌∙◌}
use Rattle.csv.specs.Machine.{Read, next_record, step, is_end, fields_after, field_after}
use Rattle.csv.specs.Machine.{ends_at_end}
use Rattle.csv.specs.Reading.{records_from, records_next, default_config, source_of, Reached}
use Rattle.csv.specs.Reading.{ReadRecord, is_flexible, took_first}
use Rattle.csv.specs.declared.parser.Config.{Config}
use Rattle.csv.specs.declared.parser.State.{State}
use Rattle.csv.specs.declared.parser.State.TheVariants as st
use Rattle.csv.proofs.ReadFacts.{rows-end, rows-more}
use Rattle.stream_read.specs.Left.{TextReader, given, rest_of, IsReading, Took}

-- a record takes a byte, or it ends with the text
abbrev pub Shortens : Read → List ℕ → Type 0
Shortens p xs = (length p.2 < length xs) ⊎ ((p.1 ≡ st.StartRecord) × (p.2 ≡ []))

pub shortens : (cfg : Config) (s : State) (fields : List (List ℕ)) (field xs : List ℕ) (p : Read)
    → next_record cfg s fields field xs ≡ Some p → Shortens p xs
unfolding next_record
shortens cfg s fields field [] p e = at_end (ends_at_end s) refl e
  where
    at_end : (b : Bool) → ends_at_end s ≡ b → next_record cfg s fields field [] ≡ Some p
        → Shortens p []
    at_end true is e = let same = rw is at e in inr (cc, cc)
    at_end false is e = let same = rw is at e in cc
shortens cfg s fields field (c ∷ rest) p e =
    at_byte (is_end (step cfg s c).1) refl e (shortens cfg (step cfg s c).0
    (fields_after (step cfg s c).1 fields field) (field_after (step cfg s c).1 c field) rest p)
  where
    at_byte : (b : Bool) → is_end (step cfg s c).1 ≡ b → next_record cfg s fields field (c ∷ rest)
        ≡ Some p
        → (next_record cfg (step cfg s c).0 (fields_after (step cfg s c).1 fields field)
        (field_after (step cfg s c).1 c field) rest ≡ Some p → Shortens p rest)
        → Shortens p (c ∷ rest)
    at_byte true is e more =
        let same = rw is at e in
        let behind : p.2 ≡ rest = cc in
        inl (rw behind (omega arith))
    at_byte false is e more =
        elim (more (rw is at e)) [
          | inl shorter ↦ inl (omega arith)
          | inr ended ↦ inr ended
        ]

none_at_end : (cfg : Config) (n : ℕ) → records_from cfg n st.StartRecord [] ≡ []
unfolding records_from next_record
none_at_end cfg zero = refl
none_at_end cfg (suc n) = refl

-- as many turns as there are bytes, and one more, are enough
enough : (cfg : Config) (m n : ℕ) (s : State) (xs : List ℕ) → length xs < m → length xs < n
    → records_from cfg m s xs ≡ records_from cfg n s xs
unfolding records_from
enough cfg zero n s xs a b = absurd (omega arith)
enough cfg (suc m) zero s xs a b = absurd (omega arith)
enough cfg (suc m) (suc n) s xs a b = by_next (next_record cfg s [] [] xs) refl (enough cfg m n)
  where
    by_next : (next : Option Read) → next_record cfg s [] [] xs ≡ next
        → ((t : State) (ys : List ℕ) → length ys < m → length ys < n → records_from cfg m t ys
        ≡ records_from cfg n t ys)
        → records_next (records_from cfg m) next ≡ records_next (records_from cfg n) next
    by_next None is more = refl
    by_next (Some p) is more =
        elim (shortens cfg s [] [] xs p is) [
          | inl shorter ↦ ap (λ (rows : List (List (List ℕ))). p.0 ∷ rows)
              (more p.1 p.2 (omega arith) (omega arith))
          | inr ended ↦ rw (ended.0, ended.1, none_at_end cfg m, none_at_end cfg n) refl
        ]

rest_ends : (s : State) (xs : List ℕ) → next_record default_config s [] [] xs ≡ None
    → rest_of s xs ≡ []
unfolding records_from
rest_ends s xs none = rw (add-one (length xs)) (rw none refl)

rest_goes_on : (s : State) (xs : List ℕ) (p : Read) → next_record default_config s [] [] xs
    ≡ Some p → rest_of s xs ≡ p.0 ∷ rest_of p.1 p.2
unfolding records_from
rest_goes_on s xs p found = rw (add-one (length xs))
    (rw found (ap (λ (more : List (List (List ℕ))). p.0 ∷ more)
    (elim (shortens default_config s [] [] xs p found) [
      | inl shorter ↦ enough default_config (length xs) (length p.2 + 1) p.1 p.2 shorter
          (omega arith)
      | inr ended ↦ rw (ended.0, ended.1) (none_at_end default_config (length xs)
          ∙ sym (none_at_end default_config 1))
    ])))

alike : (f g : List (List ℕ)) (s t : State) (x y : List ℕ) → f ≡ g → s ≡ t → x ≡ y
    → f ∷ rest_of s x ≡ g ∷ rest_of t y
alike f g s t x y a b c = rw (a, b, c) refl

-- a record that was read is the first of those that were left
took_one : (a b : TextReader) (fields : List (List ℕ)) (y : List ℕ) → IsReading a
    → source_of given a ≡ Some y → ReadRecord given a b true fields
    → is_flexible b ≡ is_flexible a → took_first b ≡ true → Took true fields a b
unfolding Reached
took_one a b fields y reading source r flexible first =
    let (z, behind, reached) = rows-more given a b fields default_config a.state y y []
    reading.config source (refl, refl) r in
    let (p, found, same, ends) = reached in
    let known : IsSome (source_of given b) = rw behind refl in
    let goes_on : rest_of a.state y ≡ fields ∷ rest_of b.state z = rest_goes_on a.state y p found
    ∙ alike p.0 fields p.1 b.state p.2 z (sym same) ends.0 ends.1 in (
      record {
        trim = r.3 ∙ reading.trim;
        config = r.2 ∙ reading.config;
        flexible = flexible
            ∙ reading.flexible;
        ready = inl first;
        known = known;
      },
      rw (source, behind) goes_on,
    )

took_none : (a b : TextReader) (fields : List (List ℕ)) (y : List ℕ) → IsReading a
    → source_of given a ≡ Some y → ReadRecord given a b false fields
    → Took false fields a b
took_none a b fields y reading source r =
    rw source (rest_ends a.state y (rows-end given a b fields default_config y reading.config
    source r))

by_found : (a b : TextReader) (found : Bool) (fields : List (List ℕ)) (source : Option (List ℕ))
    → source_of given a ≡ source → IsReading a → ReadRecord given a b found fields
    → is_flexible b ≡ is_flexible a → took_first b ≡ true → Took found fields a b
by_found a b found fields None is reading r flexible first = let known = rw is at reading.known in
    cc
by_found a b true fields (Some y) is reading r flexible first = took_one a b fields y reading is r
    flexible first
by_found a b false fields (Some y) is reading r flexible first = took_none a b fields y reading is r

pub took : (a b : TextReader) (found : Bool) (fields : List (List ℕ)) → IsReading a
    → ReadRecord given a b found fields
    → is_flexible b ≡ is_flexible a → took_first b ≡ true → Took found fields a b
took a b found fields reading r flexible first = by_found a b found fields (source_of given a) refl
    reading r flexible first
