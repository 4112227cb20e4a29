-- Where the variables of a statement stand.
use Rattle.std.proofs.Common.{◌≡◌, inl, inr, ℕ, Bool, true, false, true≢false, not, ◌&&◌, ◌==◌}
use Rattle.std.proofs.Common.{List, [], ◌∷◌, ◌++◌, flat_map, filter_map, fold, refl, sym, ap, subst}
use Rattle.std.proofs.Common.{◌∙◌, arith, if◌then◌else◌}
use Rattle.std.proofs.lemmas.Bool.{or_left, or_right}
use Rattle.std.specs.List.{list_any}
use Rattle.std.specs.Str.{bytes_eq}
use Rattle.std.proofs.lemmas.Bool.Decides.{nat_tests}
use Rattle.std.proofs.lemmas.List.Folds.{list_any-append}
use Rattle.rule_forms.specs.declared.form.Body.{Body}
use Rattle.rule_forms.specs.declared.form.Body.TheVariants as body
use Rattle.rule_forms.specs.Forms.{PlainForm, conditions_of}
use Rattle.rule_forms.specs.Sound.{AllOf}
use Rattle.ground_types.specs.Words.{has}
use Rattle.decl_known.specs.Mentions.{Mention, head_of, leaves_of, body_mentions, mentions}
use Rattle.decl_known.specs.Mentions.{variable_in, variables}
use Rattle.decl_known.specs.Rules.{places, clash, has_clash}
use Rattle.ground_rules.specs.Assignments.{Clause, variables_in, with_word, variables_of, number_at}
use Rattle.ground_rules.specs.Assignments.{domain_of}
use Rattle.ground_rules.proofs.Members.{In, member_of, all_members, all_weaker, all_append}
use Rattle.ground_rules.proofs.Members.{all_front, all_back, all_flat_map, each_of_flat_map}
use Rattle.ground_rules.proofs.Members.{none_pass, some_pass, Found, first_passing}
use Rattle.word_table.proofs.LookUps.{same_word, equal_word}

-- ---- each word once

kept_by : (b : Bool) (words : List (List ℕ)) (next word : List ℕ) → has words word ≡ true
    → has (if b then words else words ++ (next ∷ [])) word ≡ true
kept_by true words next word h = h
kept_by false words next word h = list_any-append (λ o. bytes_eq o word) words (next ∷ [])
    ∙ or_left (has words word) (has (next ∷ []) word) h

kept : (words more : List (List ℕ)) (word : List ℕ) → has words word ≡ true
    → has (fold with_word words more) word ≡ true
kept words [] word h = h
kept words (x ∷ xs) word h = kept (with_word words x) xs word (kept_by (has words x) words x word h)

put_by : (b : Bool) (words : List (List ℕ)) (word : List ℕ) → has words word ≡ b
    → has (if b then words else words ++ (word ∷ [])) word ≡ true
put_by true words word h = h
put_by false words word h =
    list_any-append (λ o. bytes_eq o word) words (word ∷ [])
    ∙ or_right (has words word) (has (word ∷ []) word) (or_left (bytes_eq word word) false
    (equal_word word word refl))

taken : (words more : List (List ℕ)) (word : List ℕ) → In word more
    → has (fold with_word words more) word ≡ true
taken words [] word i = elim i [ ]
taken words (x ∷ xs) word (inl e) =
    kept (with_word words x) xs word (subst (λ w. has (with_word words x) w ≡ true) e
    (put_by (has words x) words x refl))
taken words (x ∷ xs) word (inr i) = taken (with_word words x) xs word i

-- ---- the variables of all atoms of a statement are among its variables

among_condition : (P : List ℕ → Type 0) (condition : Body) → AllOf P (variables_in condition)
    → AllOf P (variables (body_mentions condition))
among_condition P (body.Happens positive event) all = all
among_condition P (body.Holds positive fv) all = all
among_condition P (body.Unequal x y) all = tt

-- each variable of the atom stands among those of the statement
abbrev pub AreVariables : PlainForm → Mention → Type 0
AreVariables form m = AllOf (λ word. has (variables_of form) word ≡ true)
    (filter_map variable_in m.atom.args)

pub variables_among : (form : PlainForm) → AllOf (AreVariables form) (mentions form)
variables_among form =
    let heads = variables (head_of form) in
    let conditions = flat_map variables_in (conditions_of form) in
    let leaves = variables (leaves_of form) in
    let all = heads ++ (conditions ++ leaves) in
    let each : AllOf (λ word. has (variables_of form) word ≡ true) all =
    all_members (λ word. has (variables_of form) word ≡ true) all (λ word i. taken [] all word i)
    in
    let behind = all_back (λ word. has (variables_of form) word ≡ true) heads
    (conditions ++ leaves) each in
    let of_head : AllOf (AreVariables form) (head_of form) =
    each_of_flat_map (λ word. has (variables_of form) word ≡ true) (λ (m : Mention).
    filter_map variable_in m.atom.args) (head_of form)
    (all_front (λ word. has (variables_of form) word ≡ true) heads (conditions ++ leaves) each) in
    let of_leaves : AllOf (AreVariables form) (leaves_of form) =
    each_of_flat_map (λ word. has (variables_of form) word ≡ true) (λ (m : Mention).
    filter_map variable_in m.atom.args) (leaves_of form)
    (all_back (λ word. has (variables_of form) word ≡ true) conditions leaves behind) in
    let of_conditions : AllOf (AreVariables form) (flat_map body_mentions (conditions_of form)) =
    all_flat_map (AreVariables form) body_mentions (conditions_of form)
    (all_weaker (λ condition. AllOf (λ word. has (variables_of form) word ≡ true)
    (variables_in condition)) (λ condition. AllOf (AreVariables form) (body_mentions condition))
    (λ condition h. each_of_flat_map (λ word. has (variables_of form) word ≡ true)
    (λ (m : Mention). filter_map variable_in m.atom.args) (body_mentions condition)
    (among_condition (λ word. has (variables_of form) word ≡ true) condition h))
    (conditions_of form)
    (each_of_flat_map (λ word. has (variables_of form) word ≡ true) variables_in
    (conditions_of form)
    (all_front (λ word. has (variables_of form) word ≡ true) conditions leaves behind))) in
    all_append (AreVariables form) (head_of form) (flat_map body_mentions (conditions_of form)
    ++ leaves_of form) of_head
    (all_append (AreVariables form) (flat_map body_mentions (conditions_of form)) (leaves_of form)
    of_conditions of_leaves)

-- ---- where there is no clash, the domain of a variable is that of each place at which it stands

same_number : (a : Bool) (n m : ℕ) → (a && not (n == m)) ≡ false → a ≡ true → n ≡ m
same_number true n m e t = grind (arith, nat_tests)
same_number false n m e t = absurd (true≢false (sym t))

pub domain_at_places : (clause : Clause) → has_clash clause.names clause.form ≡ false
    → AllOf (λ (place : List ℕ × ℕ). domain_of clause place.0 ≡ place.1)
    (places clause.names clause.form)
domain_at_places clause e =
    all_members (λ (place : List ℕ × ℕ). domain_of clause place.0 ≡ place.1)
    (places clause.names clause.form) one
  where
    one : (place : List ℕ × ℕ) → In place (places clause.names clause.form)
        → domain_of clause place.0 ≡ place.1
    one place i =
        let all = places clause.names clause.form in
        let none : list_any (clash place) all ≡ false = member_of (λ p. list_any (clash p) all
        ≡ false) all (none_pass (λ p. list_any (clash p) all) all e) place i in
        let first : Found (λ (p : List ℕ × ℕ). bytes_eq p.0 place.0) (λ other. clash place other
        ≡ false) all =
        first_passing (λ (p : List ℕ × ℕ). bytes_eq p.0 place.0) (λ other. clash place other
        ≡ false) all (none_pass (clash place) all none)
        (some_pass (λ (p : List ℕ × ℕ). bytes_eq p.0 place.0) all place i
        (equal_word place.0 place.0 refl)) in
        ap number_at first.is
        ∙ sym (same_number (bytes_eq place.0 first.item.0) place.1 first.item.1 first.has
        (equal_word place.0 first.item.0 (sym (same_word first.item.0 place.0 first.passes))))
