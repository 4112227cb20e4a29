-- A statement has the form that its tokens spell, and no other.
use Rattle.std.proofs.Common.{◌≡◌, ℕ, Bool, true, false, cond, eqb, List, [], ◌∷◌, ◌++◌, length}
use Rattle.std.proofs.Common.{map, Option, Some, None, refl, sym, ap, subst, ◌∙◌, append_assoc}
use Rattle.std.proofs.lemmas.List.{append-nil, nil_from_length}
use Rattle.std.proofs.lemmas.Bool.{eqb-true}
use Rattle.rule_read.proofs.Tools.{chosen, bind_with, Takes, Again, some_is, finish, join}
use Rattle.rule_read.proofs.Tools.{behind_takes, word_by_takes, word_takes, word_again}
use Rattle.rule_read.proofs.Tools.{enclosed_takes, enclosed_again}
use Rattle.rule_read.specs.declared.token.Mark.TheVariants.{Open, Close, If}
use Rattle.rule_read.specs.declared.keyword.Keyword.{Keyword}
use Rattle.rule_read.specs.declared.keyword.Keyword.TheVariants as key
use Rattle.rule_read.specs.declared.keyword.Kind.TheVariants as kind
use Rattle.rule_forms.specs.declared.form.Decl.{Decl}
use Rattle.rule_forms.specs.declared.form.Atom.{Atom}
use Rattle.rule_forms.specs.declared.form.Fv.{Fv}
use Rattle.rule_forms.specs.declared.form.Body.{Body}
use Rattle.rule_read.specs.Tokens.{Token, Word, Sign}
use Rattle.rule_read.specs.Words.{is_number, number_of}
use Rattle.rule_forms.specs.Forms.{Expression, PlainForm, Window, Step, From, Queries, Domain}
use Rattle.rule_forms.specs.Forms.{Input, Simple, Static, Derived, Initially, Initiated, Terminated}
use Rattle.rule_forms.specs.Forms.{Happens, HoldsFor}
use Rattle.rule_read.specs.FormTokens.{keyword, word_tokens, in_parentheses, in_brackets}
use Rattle.rule_read.specs.FormTokens.{decl_tokens, atom_tokens, fv_tokens, body_tokens}
use Rattle.rule_read.specs.FormTokens.{expression_tokens, number_tokens}
use Rattle.rule_forms.specs.Sound.{AllOf, SomeOf, IsName, IsConstant, FitsSixteenDigits}
use Rattle.rule_forms.specs.Sound.{IsSoundDecl, IsSoundAtom, IsSoundFv, IsSoundBody}
use Rattle.rule_forms.specs.Sound.{IsSoundExpression, IsSoundForm}
use Rattle.rule_read.specs.Grammar.{SpellsNumber, SpellsForm}
use Rattle.rule_read.specs.Reading.{Part, bind, mapped, tail, key_at, word_at, members_at}
use Rattle.rule_read.specs.Reading.{enclosed_at, decl_at, atom_at, fv_at, body_at, expression_at}
use Rattle.rule_read.specs.Reading.{number_at, numbered_at, valued_at, domain_at, conditions_at}
use Rattle.rule_read.specs.Reading.{rule_at, static_at, form_by, form_at, form_of}
use Rattle.rule_read.proofs.Numbers.{number_small}
use Rattle.rule_read.proofs.Keys.{key_takes, key_again}
use Rattle.rule_read.proofs.Members.{listed, members_takes, members_again, row_takes, row_again}
use Rattle.rule_read.proofs.Members.{any_row_takes, any_row_again}
use Rattle.rule_read.proofs.Parts.{decl_takes, decl_again, fv_takes, fv_again, atom_takes}
use Rattle.rule_read.proofs.Parts.{atom_again, head_tokens, head_takes, head_again, body_takes}
use Rattle.rule_read.proofs.Parts.{body_again, body_some, word_some}
use Rattle.rule_read.proofs.Expressions.{expression_takes, expression_again}

-- ---- what stands behind the reserved word

abbrev values_of : List (List ℕ) → List Token
values_of ws = in_brackets (map word_tokens ws)

abbrev valued_of : Decl × List (List ℕ) → List Token
valued_of x = decl_tokens x.0 ++ values_of x.1

abbrev IsSoundValued : Decl × List (List ℕ) → Type 0
IsSoundValued x = IsSoundDecl x.0 × SomeOf IsConstant x.1

valued_takes : Takes valued_of IsSoundValued valued_at
unfolding valued_at
valued_takes ts y e =
    bind_with e (λ d ed e1. bind_with e1 (λ ws ew e2.
    let t = decl_takes ts d ed in
    let w = row_takes word_tokens IsConstant (word_at kind.Constant) (word_takes kind.Constant) d.1
    ws ew in
    finish valued_of IsSoundValued ts e2 (
      join ts (decl_tokens d.0) d.1 (values_of ws.0) ws.1 t.0
          w.0,
      (t.1, w.1),
    )))

valued_again : Again valued_of IsSoundValued valued_at
unfolding valued_at bind
valued_again x rest h =
    ap valued_at (append_assoc (decl_tokens x.0) (values_of x.1) rest)
    ∙ rw (
      decl_again x.0 (values_of x.1 ++ rest) h.0 refl,
      row_again word_tokens IsConstant (word_at kind.Constant) (word_again kind.Constant)
          word_some x.1 rest h.1,
    ) refl

abbrev domain_of : List ℕ × List (List ℕ) → List Token
domain_of x = Word x.0 ∷ values_of x.1

abbrev IsSoundDomain : List ℕ × List (List ℕ) → Type 0
IsSoundDomain x = IsName x.0 × AllOf IsConstant x.1

domain_takes : Takes domain_of IsSoundDomain domain_at
unfolding domain_at
domain_takes ts y e =
    bind_with e (λ n en e1. bind_with e1 (λ ws ew e2.
    let t = word_takes kind.Name ts n en in
    let w = any_row_takes word_tokens IsConstant (word_at kind.Constant) (word_takes kind.Constant)
    n.1 ws ew in
    finish domain_of IsSoundDomain ts e2 (
      t.0 ∙ ap (λ (t : List Token). Word n.0 ∷ t) w.0,
      (t.1, w.1),
    )))

domain_again : Again domain_of IsSoundDomain domain_at
unfolding domain_at bind
domain_again x rest h = rw (h.0, any_row_again x.1 rest h.1) refl

abbrev rule_of : {A : Type 0} → (A → List Token) → A × List Body → List Token
rule_of toks x = in_parentheses (toks x.0) ++ (Sign If ∷ listed body_tokens x.1)

abbrev IsSoundRule : {A : Type 0} → (A → Type 0) → A × List Body → Type 0
IsSoundRule Sound x = Sound x.0 × SomeOf IsSoundBody x.1

conditions_takes : Takes (λ xs. Sign If ∷ listed body_tokens xs) (SomeOf IsSoundBody) conditions_at
unfolding conditions_at
conditions_takes ts y e =
    bind_with e (λ r er e1.
    let t = members_takes body_tokens IsSoundBody body_at body_takes r y e1 in
    (behind_takes If ts r er ∙ ap (λ (t : List Token). Sign If ∷ t) t.0, t.1))

rule_takes : {A : Type 0} (toks : A → List Token) (Sound : A → Type 0) (at : Part A)
    → Takes toks Sound at
    → Takes (rule_of toks) (IsSoundRule Sound) (rule_at at)
unfolding rule_at
rule_takes toks Sound at takes ts y e =
    bind_with e (λ x ex e1. bind_with e1 (λ bs eb e2.
    let t = enclosed_takes toks Sound at takes ts x ex in
    let w = conditions_takes x.1 bs eb in
    finish (rule_of toks) (IsSoundRule Sound) ts e2 (
      join ts (in_parentheses (toks x.0)) x.1
          (Sign If ∷ listed body_tokens bs.0) bs.1 t.0 w.0,
      (t.1, w.1),
    )))

-- before nothing
last_again : {A : Type 0} (toks : A → List Token) (Sound : A → Type 0) (at : Part A)
    → Again toks Sound at → (x : A) → Sound x
    → at (toks x) ≡ Some (x, [])
last_again toks Sound at again x h = ap at (sym (append-nil (toks x))) ∙ again x [] h

bodies_again : (bs : List Body) → SomeOf IsSoundBody bs
    → members_at body_at (listed body_tokens bs) ≡ Some (bs, [])
bodies_again bs h =
    ap (λ (t : List Token). members_at body_at t) (sym (append-nil (listed body_tokens bs)))
    ∙ members_again body_tokens IsSoundBody body_at body_again body_some bs [] h refl

rule_again : {A : Type 0} (toks : A → List Token) (at : Part A) (x : A) (bs : List Body)
    → ((rest : List Token) → at (toks x ++ (Sign Close ∷ rest)) ≡ Some (x, Sign Close ∷ rest))
    → SomeOf IsSoundBody bs
    → rule_at at (rule_of toks (x, bs)) ≡ Some ((x, bs), [])
unfolding rule_at conditions_at bind
rule_again toks at x bs again h =
    rw (
      enclosed_again at (toks x) (Sign If ∷ listed body_tokens bs) x
          (again (Sign If ∷ listed body_tokens bs)),
      bodies_again bs h,
    ) refl

abbrev static_of : Fv × Expression → List Token
static_of x = head_tokens x.0 ++ (Sign If ∷ expression_tokens x.1)

abbrev IsSoundStatic : Fv × Expression → Type 0
IsSoundStatic x = IsSoundFv x.0 × IsSoundExpression 8 x.1

static_takes : Takes static_of IsSoundStatic static_at
unfolding static_at
static_takes ts y e =
    bind_with e (λ fv ef e1. bind_with e1 (λ r er e2. bind_with e2 (λ x ex e3.
    let t = head_takes ts fv ef in
    let w = expression_takes 8 r x ex in
    finish static_of IsSoundStatic ts e3 (
      join ts (head_tokens fv.0) fv.1 (Sign If ∷ expression_tokens x.0) x.1 t.0
          (behind_takes If fv.1 r er ∙ ap (λ (t : List Token). Sign If ∷ t) w.0),
      (t.1, w.1),
    ))))

static_again : (x : Fv × Expression) → IsSoundStatic x → static_at (static_of x) ≡ Some (x, [])
unfolding static_at bind
static_again x h =
    rw (
      head_again x.0 (Sign If ∷ expression_tokens x.1) h.0,
      last_again expression_tokens (IsSoundExpression 8) (expression_at 8)
          (expression_again 8) x.1 h.1,
    ) refl

-- ---- numbers

number_takes : (ts : List Token) (y : ℕ × List Token) → number_at ts ≡ Some y
    → (digits : List ℕ) × (is_number digits ≡ true) × (number_of digits ≡ y.0)
    × (ts ≡ Word digits ∷ y.1)
unfolding number_at mapped
number_takes ts y e =
    bind_with e (λ w ew e1.
    let t = word_by_takes is_number ts w ew in
    let P : ℕ × List Token → Type 0 = λ y. (digits : List ℕ) × (is_number digits ≡ true)
    × (number_of digits ≡ y.0) × (ts ≡ Word digits ∷ y.1) in
    subst P (some_is e1) (w.0, t.1, refl, t.0))

numbered_again : (digits : List ℕ) → is_number digits ≡ true
    → numbered_at (in_parentheses (Word digits ∷ [])) ≡ Some (number_of digits, [])
unfolding enclosed_at number_at mapped bind
numbered_again digits h = rw h refl

-- ---- what is read is spelled so

-- what is read without a rest
abbrev AtForm : List Token → PlainForm × List Token → Type 0
AtForm ts y = y.1 ≡ [] → SpellsForm ts y.0 × IsSoundForm y.0

form_takes_by : {A : Type 0} (f : A → PlainForm) (k : Keyword) (toks : A → List Token) (Sound : A
    → Type 0) (at : Part A) → Takes toks Sound at
    → ((x : A) (ts : List Token) → ts ≡ keyword k ∷ toks x → SpellsForm ts (f x))
    → ((x : A) → Sound x → IsSoundForm (f x))
    → (ts : List Token) (y : PlainForm × List Token) → key_at ts ≡ Some k → mapped f at (tail ts)
    ≡ Some y → AtForm ts y
unfolding mapped
form_takes_by f k toks Sound at takes spells sound ts y h e =
    bind_with e (λ x ex e1.
    let t = takes (tail ts) x ex in
    subst (AtForm ts) (some_is e1) (λ nil. (
      spells x.0 ts (key_takes ts k h ∙ ap (λ (t : List Token). keyword k ∷ t)
          (t.0 ∙ ap (λ (r : List Token). toks x.0 ++ r) nil ∙ append-nil (toks x.0))),
      sound x.0 t.1,
    )))

number_takes_by : (f : ℕ → PlainForm) (k : Keyword) → ((n : ℕ) (ts : List Token)
    → SpellsNumber k n ts → SpellsForm ts (f n))
    → ((n : ℕ) → FitsSixteenDigits n → IsSoundForm (f n))
    → (ts : List Token) (y : PlainForm × List Token) → key_at ts ≡ Some k
    → mapped f numbered_at (tail ts) ≡ Some y → AtForm ts y
unfolding mapped enclosed_at
number_takes_by f k spells sound ts y h e =
    bind_with e (λ n en e1. bind_with en (λ r er en1. bind_with en1 (λ m em en2.
    bind_with en2 (λ s es en3.
    let t = number_takes r m em in
    let same : (m.0, s) ≡ n = some_is en3 in
    let small : FitsSixteenDigits m.0 = subst FitsSixteenDigits t.2 (number_small t.0 t.1) in
    let P : ℕ × List Token → Type 0 = λ n. AtForm ts (f n.0, n.1) in
    subst (AtForm ts) (some_is e1) (subst P same (λ nil.
    let whole : ts ≡ number_tokens k t.0 = key_takes ts k h
    ∙ ap (λ (t : List Token). keyword k ∷ t) (behind_takes Open (tail ts) r er
    ∙ ap (λ (t : List Token). Sign Open ∷ t)
    (t.3 ∙ ap (λ (x : List Token). Word t.0 ∷ x) (behind_takes Close m.1 s es
    ∙ ap (λ (x : List Token). Sign Close ∷ x) nil))) in
    (spells m.0 ts (t.0, t.1, t.2, whole), sound m.0 small)))))))

form_takes : (ts : List Token) (y : PlainForm × List Token) → form_at ts ≡ Some y → AtForm ts y
unfolding form_at
form_takes ts y e = of_key (key_at ts) refl e
  where
    of_key : (k : Option Keyword) → key_at ts ≡ k → form_by k (tail ts) ≡ Some y → AtForm ts y
    of_key (Some key.Window) h e = number_takes_by Window key.Window (λ n ts s. s) (λ n s. s) ts y
        h e
    of_key (Some key.Step) h e = number_takes_by Step key.Step (λ n ts s. s) (λ n s. s) ts y h e
    of_key (Some key.From) h e = number_takes_by From key.From (λ n ts s. s) (λ n s. s) ts y h e
    of_key (Some key.Queries) h e = number_takes_by Queries key.Queries (λ n ts s. s) (λ n s. s) ts
        y h e
    of_key (Some key.Domain) h e =
        form_takes_by (λ x. Domain x.0 x.1) key.Domain domain_of IsSoundDomain domain_at
        domain_takes (λ x ts s. s) (λ x s. s) ts y h e
    of_key (Some key.Input) h e = form_takes_by Input key.Input decl_tokens IsSoundDecl decl_at
        decl_takes (λ x ts s. s) (λ x s. s) ts y h e
    of_key (Some key.Simple) h e =
        form_takes_by (λ x. Simple x.0 x.1) key.Simple valued_of IsSoundValued valued_at
        valued_takes (λ x ts s. s) (λ x s. s) ts y h e
    of_key (Some key.Static) h e =
        form_takes_by (λ x. Static x.0 x.1) key.Static valued_of IsSoundValued valued_at
        valued_takes (λ x ts s. s) (λ x s. s) ts y h e
    of_key (Some key.Derived) h e = form_takes_by Derived key.Derived decl_tokens IsSoundDecl
        decl_at decl_takes (λ x ts s. s) (λ x s. s) ts y h e
    of_key (Some key.Initially) h e =
        form_takes_by Initially key.Initially head_tokens IsSoundFv (enclosed_at fv_at) head_takes
        (λ x ts s. s) (λ x s. s) ts y h e
    of_key (Some key.InitiatedAt) h e =
        form_takes_by (λ x. Initiated x.0 x.1) key.InitiatedAt (rule_of fv_tokens)
        (IsSoundRule IsSoundFv) (rule_at fv_at)
        (rule_takes fv_tokens IsSoundFv fv_at fv_takes) (λ x ts s. s) (λ x s. s) ts y h e
    of_key (Some key.TerminatedAt) h e =
        form_takes_by (λ x. Terminated x.0 x.1) key.TerminatedAt (rule_of fv_tokens)
        (IsSoundRule IsSoundFv) (rule_at fv_at)
        (rule_takes fv_tokens IsSoundFv fv_at fv_takes) (λ x ts s. s) (λ x s. s) ts y h e
    of_key (Some key.HappensAt) h e =
        form_takes_by (λ x. Happens x.0 x.1) key.HappensAt (rule_of atom_tokens)
        (IsSoundRule IsSoundAtom) (rule_at atom_at)
        (rule_takes atom_tokens IsSoundAtom atom_at atom_takes) (λ x ts s. s) (λ x s. s) ts y h e
    of_key (Some key.HoldsFor) h e =
        form_takes_by (λ x. HoldsFor x.0 x.1) key.HoldsFor static_of IsSoundStatic static_at
        static_takes (λ x ts s. s) (λ x s. s) ts y h e
    of_key _ h e = absurd cc

-- What has a form is spelled so, and sound.
pub form_found : (ts : List Token) (f : PlainForm) → form_of ts ≡ Some f → SpellsForm ts f
    × IsSoundForm f
unfolding form_of
form_found ts f e =
    bind_with e (λ y ey e1.
    let g = chosen (eqb (length y.1) 0) y.0 f e1 in
    let P : PlainForm → Type 0 = λ f. SpellsForm ts f × IsSoundForm f in
    subst P g.1 (form_takes ts y ey (nil_from_length y.1 (eqb-true _ _ g.0))))

-- ---- what is spelled so is read

form_again : {A : Type 0} (f : A → PlainForm) (k : Keyword) (at : Part A) (body : List Token)
    (x : A)
    → ((ts : List Token) → form_by (Some k) ts ≡ mapped f at ts) → at body ≡ Some (x, [])
    → (ts : List Token) → ts ≡ keyword k ∷ body → form_of ts ≡ Some (f x)
unfolding form_of form_at mapped bind
form_again f k at body x by h ts e = ap form_of e ∙ rw (key_again k, by body, h) refl

number_again : (f : ℕ → PlainForm) (k : Keyword) (n : ℕ) → ((ts : List Token) → form_by (Some k) ts
    ≡ mapped f numbered_at ts) → (ts : List Token)
    → SpellsNumber k n ts → form_of ts ≡ Some (f n)
number_again f k n by ts h =
    form_again f k numbered_at (in_parentheses (Word h.0 ∷ [])) (number_of h.0) by
    (numbered_again h.0 h.1) ts h.3 ∙ ap (λ n. Some (f n)) h.2

fluent_rule : (fv : Fv) (bs : List Body) → IsSoundFv fv → SomeOf IsSoundBody bs
    → rule_at fv_at (rule_of fv_tokens (fv, bs)) ≡ Some ((fv, bs), [])
fluent_rule fv bs h hs = rule_again fv_tokens fv_at fv bs (λ rest. fv_again fv (Sign Close ∷ rest)
    h) hs

event_rule : (atom : Atom) (bs : List Body) → IsSoundAtom atom → SomeOf IsSoundBody bs
    → rule_at atom_at (rule_of atom_tokens (atom, bs)) ≡ Some ((atom, bs), [])
event_rule atom bs h hs = rule_again atom_tokens atom_at atom bs
    (λ rest. atom_again atom (Sign Close ∷ rest) h refl) hs

last_decl : (x : Decl) → IsSoundDecl x → decl_at (decl_tokens x) ≡ Some (x, [])
last_decl x h = ap decl_at (sym (append-nil (decl_tokens x))) ∙ decl_again x [] h refl

-- What is spelled by a sound form has that form.
pub form_only : (ts : List Token) (f : PlainForm) → SpellsForm ts f → IsSoundForm f
    → form_of ts ≡ Some f
form_only ts (Window n) h sound = number_again Window key.Window n (λ ts. refl) ts h
form_only ts (Step n) h sound = number_again Step key.Step n (λ ts. refl) ts h
form_only ts (From n) h sound = number_again From key.From n (λ ts. refl) ts h
form_only ts (Queries n) h sound = number_again Queries key.Queries n (λ ts. refl) ts h
form_only ts (Domain name entities) h sound =
    form_again (λ x. Domain x.0 x.1) key.Domain domain_at (domain_of (name, entities))
    (name, entities) (λ ts. refl)
    (last_again domain_of IsSoundDomain domain_at domain_again (name, entities) sound) ts h
form_only ts (Input decl) h sound = form_again Input key.Input decl_at (decl_tokens decl) decl
    (λ ts. refl) (last_decl decl sound) ts h
form_only ts (Simple decl values) h sound =
    form_again (λ x. Simple x.0 x.1) key.Simple valued_at (valued_of (decl, values)) (decl, values)
    (λ ts. refl)
    (last_again valued_of IsSoundValued valued_at valued_again (decl, values) sound) ts h
form_only ts (Static decl values) h sound =
    form_again (λ x. Static x.0 x.1) key.Static valued_at (valued_of (decl, values)) (decl, values)
    (λ ts. refl)
    (last_again valued_of IsSoundValued valued_at valued_again (decl, values) sound) ts h
form_only ts (Derived decl) h sound = form_again Derived key.Derived decl_at (decl_tokens decl)
    decl (λ ts. refl) (last_decl decl sound) ts h
form_only ts (Initially fv) h sound =
    form_again Initially key.Initially (enclosed_at fv_at) (head_tokens fv) fv (λ ts. refl)
    (last_again head_tokens IsSoundFv (enclosed_at fv_at) head_again fv sound) ts h
form_only ts (Initiated fv bs) h sound =
    form_again (λ x. Initiated x.0 x.1) key.InitiatedAt (rule_at fv_at)
    (rule_of fv_tokens (fv, bs)) (fv, bs) (λ ts. refl)
    (fluent_rule fv bs sound.0 sound.1) ts h
form_only ts (Terminated fv bs) h sound =
    form_again (λ x. Terminated x.0 x.1) key.TerminatedAt (rule_at fv_at)
    (rule_of fv_tokens (fv, bs)) (fv, bs) (λ ts. refl)
    (fluent_rule fv bs sound.0 sound.1) ts h
form_only ts (Happens atom bs) h sound =
    form_again (λ x. Happens x.0 x.1) key.HappensAt (rule_at atom_at)
    (rule_of atom_tokens (atom, bs)) (atom, bs) (λ ts. refl)
    (event_rule atom bs sound.0 sound.1) ts h
form_only ts (HoldsFor fv e) h sound =
    form_again (λ x. HoldsFor x.0 x.1) key.HoldsFor static_at (static_of (fv, e)) (fv, e)
    (λ ts. refl) (static_again (fv, e) sound) ts h

-- A statement has one form.
pub one_form : (ts : List Token) (f g : PlainForm) → SpellsForm ts f → IsSoundForm f
    → SpellsForm ts g → IsSoundForm g → f ≡ g
one_form ts f g hf sf hg sg = some_is (sym (form_only ts f hf sf) ∙ form_only ts g hg sg)
