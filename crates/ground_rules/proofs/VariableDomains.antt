-- The places of a statement's variables, and their domains.
use Rattle.std.proofs.Common.{◌≡◌, ℕ, ◌<◌, nat_lt, Bool, true, false, true≢false, cond, List, []}
use Rattle.std.proofs.Common.{◌∷◌, map, find, get_or, length, filter_map, zip, position, Option}
use Rattle.std.proofs.Common.{option_map, Some, None, refl, sym, ap, ap₂, subst, ◌∙◌}
use Rattle.std.proofs.lemmas.List.{length-map, get_or-map}
use Rattle.std.proofs.lemmas.List.Quantifiers.{position-Some}
use Rattle.std.proofs.lemmas.Option.{none-some}
use Rattle.std.specs.Str.{bytes_eq}
use Rattle.ground_types.specs.declared.program.Name.{Name}
use Rattle.rule_forms.specs.declared.form.Term.{Term}
use Rattle.rule_forms.specs.declared.form.Term.TheVariants as term
use Rattle.rule_forms.specs.Forms.{PlainForm}
use Rattle.rule_forms.specs.Sound.{AllOf}
use Rattle.decl_known.specs.declared.variables.Place.{Place}
use Rattle.ground_types.specs.Words.{has, place_in, declaration}
use Rattle.decl_known.specs.Gathered.{place_of, places_of}
use Rattle.decl_known.specs.Mentions.{Mention, mentions, variable_in}
use Rattle.decl_known.specs.Rules.{variable_at, places_by, places}
use Rattle.word_table.proofs.LookUps.{place_of_items, same_word}
use Rattle.ground_rules.specs.Assignments.{variables_of, number_at}
use Rattle.ground_rules.proofs.Members.{all_weaker, all_flat_map}
use Rattle.ground_rules.proofs.Places.{word_place}
use Rattle.ground_rules.proofs.VariablePlaces.{AreVariables, variables_among}

-- ---- words and places that are lent

pub position_of_items : {X : Type 0} (word_of : X → List ℕ) (word : List ℕ) (xs : List X)
    → position (λ x. bytes_eq (word_of x) word) xs ≡ place_in (map word_of xs) word
position_of_items word_of word xs =
    ap₂ (λ n m. cond (nat_lt n m) (Some n) None) (place_of_items word_of word xs)
    (sym (length-map xs word_of))

find_by : (b : Bool) (place : Place) (o : Option (List ℕ × ℕ)) (p : Option Place)
    → o ≡ option_map place_of p → cond b (Some (place_of place)) o ≡ option_map place_of
    (cond b (Some place) p)
find_by true place o p e = refl
find_by false place o p e = e

pub find_place : (word : List ℕ) (lent : List Place)
    → find (λ (place : List ℕ × ℕ). bytes_eq place.0 word) (places_of lent) ≡ option_map place_of
    (find (λ (place : Place). bytes_eq place.variable.now word) lent)
find_place word [] = refl
find_place word (place ∷ lent) = find_by (bytes_eq place.variable.now word) place _ _
    (find_place word lent)

-- ---- a variable that is none of the statement's stands at no place

zipped : (P : List ℕ → Type 0) (args : List Term) (domains : List ℕ)
    → AllOf P (filter_map variable_in args) → AllOf (λ (place : List ℕ × ℕ). P place.0)
    (filter_map (λ place. variable_at place.0 place.1) (zip args domains))
zipped P [] domains all = tt
zipped P (t ∷ ts) [] all = tt
zipped P (term.Entity w ∷ ts) (d ∷ ds) all = zipped P ts ds all
zipped P (term.Variable w ∷ ts) (d ∷ ds) all = (all.0, zipped P ts ds all.1)

zipped_by : (P : List ℕ → Type 0) (args : List Term) (name : Option Name)
    → AllOf P (filter_map variable_in args) → AllOf (λ (place : List ℕ × ℕ). P place.0)
    (places_by args name)
zipped_by P args None all = tt
zipped_by P args (Some name) all = zipped P args name.args all

places_among : (names : List Name) (form : PlainForm)
    → AllOf (λ (place : List ℕ × ℕ). has (variables_of form) place.0 ≡ true) (places names form)
places_among names form =
    all_flat_map (λ (place : List ℕ × ℕ). has (variables_of form) place.0 ≡ true) (λ (m : Mention).
    places_by m.atom.args (declaration names m.atom.name)) (mentions form)
    (all_weaker (AreVariables form) (λ (m : Mention). AllOf (λ (place : List ℕ × ℕ).
    has (variables_of form) place.0 ≡ true)
    (places_by m.atom.args (declaration names m.atom.name)))
    (λ m all. zipped_by (λ word. has (variables_of form) word ≡ true) m.atom.args
    (declaration names m.atom.name) all)
    (mentions form) (variables_among form))

not_among : (words : List (List ℕ)) (word : List ℕ) (b : Bool) → has words word ≡ b
    → place_in words word ≡ None → b ≡ false
not_among words word true h none = let at = word_place words word h in
    absurd (none-some at.place (sym none ∙ at.is))
not_among words word false h none = refl

not_there : (words : List (List ℕ)) (word other : List ℕ) (b : Bool) → bytes_eq other word ≡ b
    → has words word ≡ false → has words other ≡ true → b ≡ false
not_there words word other true e out among =
    absurd (true≢false (sym among ∙ ap (has words) (same_word other word e) ∙ out))
not_there words word other false e out among = refl

found_nowhere : (words : List (List ℕ)) (word : List ℕ) (all : List (List ℕ × ℕ)) → has words word
    ≡ false → AllOf (λ (place : List ℕ × ℕ). has words place.0 ≡ true) all
    → find (λ (place : List ℕ × ℕ). bytes_eq place.0 word) all ≡ None
found_nowhere words word [] out among = refl
found_nowhere words word (place ∷ all) out among =
    ap (λ b. cond b (Some place) (find (λ (p : List ℕ × ℕ). bytes_eq p.0 word) all))
    (not_there words word place.0 _ refl out among.0)
    ∙ found_nowhere words word all out among.1

pub without_place : (names : List Name) (form : PlainForm) (word : List ℕ)
    → place_in (variables_of form) word ≡ None
    → number_at (find (λ place. bytes_eq place.0 word) (places names form)) ≡ 0
without_place names form word none =
    ap number_at (found_nowhere (variables_of form) word (places names form)
    (not_among (variables_of form) word (has (variables_of form) word) refl none)
    (places_among names form))

-- ---- what stands at the place of a word

pub at_place : {B : Type 0} (f : List ℕ → B) (words : List (List ℕ)) (word : List ℕ) (i : ℕ)
    (d : B) → place_in words word ≡ Some i → (i < length (map f words))
    × (get_or (map f words) i d ≡ f word)
at_place f words word i d e =
    let at = position-Some (λ other. bytes_eq other word) words i [] e in
    let inside : i < length (map f words) = subst (λ n. i < n) (sym (length-map words f)) at.0 in
    (inside, get_or-map f words i [] d at.0 ∙ ap f (same_word _ word at.1))

-- ---- the domains of words that are lent

pub domains_of_lent : {X : Type 0} (word_of : X → List ℕ) (all : List (List ℕ × ℕ)) (lent : List X)
    → map (λ x. number_at (find (λ (place : List ℕ × ℕ). bytes_eq place.0 (word_of x)) all)) lent
    ≡ map (λ word. number_at (find (λ (place : List ℕ × ℕ). bytes_eq place.0 word) all))
    (map word_of lent)
domains_of_lent word_of all [] = refl
domains_of_lent word_of all (x ∷ lent) =
    ap (λ ns. number_at (find (λ (place : List ℕ × ℕ). bytes_eq place.0 (word_of x)) all) ∷ ns)
    (domains_of_lent word_of all lent)
