-- The two laws for declarations, atoms, fluent-values, events and conditions.
use Rattle.std.proofs.Common.{◌≡◌, Bool, true, false, cond, if◌then◌else◌, List, [], ◌∷◌, ◌++◌}
use Rattle.std.proofs.Common.{Option, Some, None, refl, sym, ap, subst, ◌∙◌, append_assoc, arith}
use Rattle.rt_base.specs.Kinds.{is_constant}
use Rattle.rule_read.specs.declared.token.Mark.TheVariants.{Open, Close, Equals, Differs}
use Rattle.rule_read.specs.declared.keyword.Keyword.{Keyword}
use Rattle.rule_read.specs.declared.keyword.Keyword.TheVariants as key
use Rattle.rule_read.specs.declared.keyword.Kind.TheVariants as kind
use Rattle.rule_forms.specs.declared.form.Decl.{Decl}
use Rattle.rule_forms.specs.declared.form.Term.TheVariants as term
use Rattle.rule_forms.specs.declared.form.Atom.{Atom}
use Rattle.rule_forms.specs.declared.form.Fv.{Fv}
use Rattle.rule_forms.specs.declared.form.EventText.{EventText}
use Rattle.rule_forms.specs.declared.form.EventText.TheVariants as event
use Rattle.rule_forms.specs.declared.form.Body.{Body}
use Rattle.rule_forms.specs.declared.form.Body.TheVariants as body
use Rattle.rule_read.specs.Tokens.{Token, Word, Sign}
use Rattle.rule_forms.specs.Sound.{is_variable, IsName, IsSoundDecl, IsSoundTerm, IsSoundAtom}
use Rattle.rule_forms.specs.Sound.{IsSoundFv, IsSoundEvent, IsSoundBody}
use Rattle.rule_read.specs.FormTokens.{word_tokens, in_parentheses, decl_tokens, term_tokens}
use Rattle.rule_read.specs.FormTokens.{atom_tokens, fv_tokens, event_tokens, unless, body_tokens}
use Rattle.rule_read.specs.Reading.{bind, mapped, has, tail, key_at, word_at, enclosed_at, decl_at}
use Rattle.rule_read.specs.Reading.{term_at, atom_at, fv_at, event_by, event_at, condition_by}
use Rattle.rule_read.specs.Reading.{condition_at, unequal_at, body_by, body_at}
use Rattle.rule_read.proofs.Tools.{bind_with, At, Takes, Again, some_is, finish, join, behind_takes}
use Rattle.rule_read.proofs.Tools.{word_takes, word_again, enclosed_takes, enclosed_again}
use Rattle.rule_read.proofs.Tools.{mapped_takes}
use Rattle.rule_read.proofs.Keys.{key_takes, key_again, keyed, keyed_takes, name_free}
use Rattle.rule_read.proofs.Keys.{variable_free, variable_no_constant}
use Rattle.rule_read.proofs.Members.{HasTokens, args_takes, args_again}

-- ---- declarations and atoms

pub decl_takes : Takes decl_tokens IsSoundDecl decl_at
unfolding decl_at
decl_takes ts y e =
    bind_with e (λ w ew e1. bind_with e1 (λ args ea e2.
    let n = word_takes kind.Name ts w ew in
    let a = args_takes word_tokens IsName (word_at kind.Name) (word_takes kind.Name) w.1 args ea in
    finish decl_tokens IsSoundDecl ts e2 (
      n.0 ∙ ap (λ (t : List Token). Word w.0 ∷ t) a.0,
      (n.1, a.1),
    )))

pub word_some : HasTokens word_tokens
word_some w = omega arith

pub decl_again : (x : Decl) (rest : List Token) → IsSoundDecl x → has Open rest ≡ false
    → decl_at (decl_tokens x ++ rest) ≡ Some (x, rest)
unfolding decl_at bind
decl_again x rest h ends = rw (
  h.0,
  args_again word_tokens IsName (word_at kind.Name)
      (word_again kind.Name) word_some x.args rest h.1 ends,
) refl

term_takes : Takes term_tokens IsSoundTerm term_at
unfolding term_at
term_takes [] y e = absurd cc
term_takes (Sign m ∷ ts) y e = absurd cc
term_takes (Word w ∷ ts) y e = of_constant (is_constant w) refl e
  where
    of_variable : (b : Bool) → is_variable w ≡ b → cond b (Some (term.Variable w, ts)) None
        ≡ Some y → At term_tokens IsSoundTerm (Word w ∷ ts) y
    of_variable true h e = finish term_tokens IsSoundTerm (Word w ∷ ts) e (refl, h)
    of_variable false h e = absurd cc

    of_constant : (b : Bool) → is_constant w ≡ b
        → cond b (Some (term.Entity w, ts)) (if is_variable w then Some (term.Variable w, ts)
        else None) ≡ Some y
        → At term_tokens IsSoundTerm (Word w ∷ ts) y
    of_constant true h e = finish term_tokens IsSoundTerm (Word w ∷ ts) e (refl, h)
    of_constant false h e = of_variable (is_variable w) refl e

term_again : Again term_tokens IsSoundTerm term_at
unfolding term_at
term_again (term.Entity w) rest h = rw h refl
term_again (term.Variable w) rest h = rw (variable_no_constant w h, h) refl

term_some : HasTokens term_tokens
term_some (term.Entity w) = omega arith
term_some (term.Variable w) = omega arith

pub atom_takes : Takes atom_tokens IsSoundAtom atom_at
unfolding atom_at
atom_takes ts y e =
    bind_with e (λ w ew e1. bind_with e1 (λ args ea e2.
    let n = word_takes kind.Name ts w ew in
    let a = args_takes term_tokens IsSoundTerm term_at term_takes w.1 args ea in
    finish atom_tokens IsSoundAtom ts e2 (
      n.0 ∙ ap (λ (t : List Token). Word w.0 ∷ t) a.0,
      (n.1, a.1),
    )))

pub atom_again : (x : Atom) (rest : List Token) → IsSoundAtom x → has Open rest ≡ false
    → atom_at (atom_tokens x ++ rest) ≡ Some (x, rest)
unfolding atom_at bind
atom_again x rest h ends = rw (
  h.0,
  args_again term_tokens IsSoundTerm term_at term_again term_some
      x.args rest h.1 ends,
) refl

-- ---- fluent-values

pub fv_takes : Takes fv_tokens IsSoundFv fv_at
unfolding fv_at
fv_takes ts y e =
    bind_with e (λ a ea e1. bind_with e1 (λ r er e2. bind_with e2 (λ v ev e3.
    let t = atom_takes ts a ea in
    let w = word_takes kind.Constant r v ev in
    finish fv_tokens IsSoundFv ts e3 (
      join ts (atom_tokens a.0) a.1 (Sign Equals ∷ Word v.0 ∷ []) v.1 t.0
          (behind_takes Equals a.1 r er ∙ ap (λ (r : List Token). Sign Equals ∷ r) w.0),
      (t.1, w.1),
    ))))

pub fv_again : Again fv_tokens IsSoundFv fv_at
unfolding fv_at bind
fv_again x rest h =
    ap fv_at (append_assoc (atom_tokens x.atom) (Sign Equals ∷ Word x.value ∷ []) rest)
    ∙ rw (atom_again x.atom (Sign Equals ∷ Word x.value ∷ rest) h.0 refl, h.1) refl

abbrev pub head_tokens : Fv → List Token
head_tokens fv = in_parentheses (fv_tokens fv)

pub head_takes : Takes head_tokens IsSoundFv (enclosed_at fv_at)
head_takes ts y e = enclosed_takes fv_tokens IsSoundFv fv_at fv_takes ts y e

pub head_again : Again head_tokens IsSoundFv (enclosed_at fv_at)
head_again x rest h = enclosed_again fv_at (fv_tokens x) rest x (fv_again x (Sign Close ∷ rest) h)

-- ---- events and conditions

event_takes : Takes event_tokens IsSoundEvent event_at
unfolding event_at
event_takes ts y e = of_key (key_at ts) refl e
  where
    of_key : (k : Option Keyword) → key_at ts ≡ k → event_by k ts ≡ Some y
        → At event_tokens IsSoundEvent ts y
    of_key (Some key.Start) h e =
        keyed_takes event.Start key.Start head_tokens IsSoundFv (enclosed_at fv_at) head_takes
        event_tokens IsSoundEvent (λ x. refl) (λ x s. s) ts y h e
    of_key (Some key.End) h e =
        keyed_takes event.End key.End head_tokens IsSoundFv (enclosed_at fv_at) head_takes
        event_tokens IsSoundEvent (λ x. refl) (λ x s. s) ts y h e
    of_key _ h e = mapped_takes event.Plain atom_tokens IsSoundAtom atom_at atom_takes event_tokens
        IsSoundEvent (λ x. refl) (λ x s. s) ts y e

event_again : (x : EventText) (rest : List Token) → IsSoundEvent x → has Open rest ≡ false
    → event_at (event_tokens x ++ rest) ≡ Some (x, rest)
unfolding event_at mapped bind
event_again (event.Plain atom) rest h ends = rw (
  name_free atom.name h.0,
  atom_again atom rest h
      ends,
) refl
event_again (event.Start fv) rest h ends = rw (key_again key.Start, head_again fv rest h) refl
event_again (event.End fv) rest h ends = rw (key_again key.End, head_again fv rest h) refl

condition_takes : (positive : Bool) (ts : List Token) (y : Body × List Token)
    → condition_at positive ts ≡ Some y
    → (unless positive ++ ts ≡ body_tokens y.0 ++ y.1) × IsSoundBody y.0
unfolding condition_at mapped
condition_takes positive ts y e = of_key (key_at ts) refl e
  where
    led : (t : List Token) (r : List Token) → ts ≡ t ++ r → unless positive ++ ts
        ≡ (unless positive ++ t) ++ r
    led t r e = ap (λ (x : List Token). unless positive ++ x) e
        ∙ sym (append_assoc (unless positive) t r)

    of_key : (k : Option Keyword) → key_at ts ≡ k → condition_by k positive ts ≡ Some y
        → (unless positive ++ ts ≡ body_tokens y.0 ++ y.1) × IsSoundBody y.0
    of_key (Some key.HappensAt) h e =
        bind_with e (λ ev eev e1.
        let t = enclosed_takes event_tokens IsSoundEvent event_at event_takes (tail ts) ev eev in
        let P : Body × List Token → Type 0 = λ y. (unless positive ++ ts ≡ body_tokens y.0 ++ y.1)
        × IsSoundBody y.0 in
        subst P (some_is e1) (
          led _ ev.1 (keyed ts (in_parentheses (event_tokens ev.0)) ev.1
              key.HappensAt h t.0),
          t.1,
        ))
    of_key (Some key.HoldsAt) h e =
        bind_with e (λ fv ef e1.
        let t = head_takes (tail ts) fv ef in
        let P : Body × List Token → Type 0 = λ y. (unless positive ++ ts ≡ body_tokens y.0 ++ y.1)
        × IsSoundBody y.0 in
        subst P (some_is e1) (led _ fv.1 (keyed ts (head_tokens fv.0) fv.1 key.HoldsAt h t.0), t.1))
    of_key _ h e = absurd cc

unequal_takes : Takes body_tokens IsSoundBody unequal_at
unfolding unequal_at
unequal_takes ts y e =
    bind_with e (λ x ex e1. bind_with e1 (λ r er e2. bind_with e2 (λ z ez e3.
    let a = word_takes kind.Variable ts x ex in
    let b = word_takes kind.Variable r z ez in
    finish body_tokens IsSoundBody ts e3 (
      a.0 ∙ ap (λ (t : List Token). Word x.0 ∷ t)
          (behind_takes Differs x.1 r er ∙ ap (λ (t : List Token). Sign Differs ∷ t) b.0),
      (a.1, b.1),
    ))))

pub body_takes : Takes body_tokens IsSoundBody body_at
unfolding body_at
body_takes ts y e = of_key (key_at ts) refl e
  where
    of_key : (k : Option Keyword) → key_at ts ≡ k → body_by k ts ≡ Some y
        → At body_tokens IsSoundBody ts y
    of_key (Some key.Not) h e = let t = condition_takes false (tail ts) y e in
        (key_takes ts key.Not h ∙ t.0, t.1)
    of_key None h e = unequal_takes ts y e
    of_key (Some _) h e = condition_takes true ts y e

happens_again : (ev : EventText) (rest : List Token) → IsSoundEvent ev
    → enclosed_at event_at (in_parentheses (event_tokens ev) ++ rest) ≡ Some (ev, rest)
happens_again ev rest h = enclosed_again event_at (event_tokens ev) rest ev
    (event_again ev (Sign Close ∷ rest) h refl)

pub body_again : Again body_tokens IsSoundBody body_at
unfolding body_at condition_at unequal_at mapped bind
body_again (body.Happens true ev) rest h = rw (
  key_again key.HappensAt,
  key_again key.HappensAt,
  happens_again ev rest h,
) refl
body_again (body.Happens false ev) rest h = rw (
  key_again key.Not,
  key_again key.HappensAt,
  happens_again ev rest h,
) refl
body_again (body.Holds true fv) rest h = rw (
  key_again key.HoldsAt,
  key_again key.HoldsAt,
  head_again fv rest h,
) refl
body_again (body.Holds false fv) rest h = rw (
  key_again key.Not,
  key_again key.HoldsAt,
  head_again fv rest h,
) refl
body_again (body.Unequal x z) rest h = rw (variable_free x h.0, h.0, h.1) refl

pub body_some : HasTokens body_tokens
body_some (body.Happens true ev) = omega arith
body_some (body.Happens false ev) = omega arith
body_some (body.Holds true fv) = omega arith
body_some (body.Holds false fv) = omega arith
body_some (body.Unequal x z) = omega arith
