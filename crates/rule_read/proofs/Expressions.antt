-- The two laws for expressions over intervals.
use Rattle.std.proofs.Common.{◌≡◌, ℕ, zero, suc, List, [], ◌∷◌, ◌++◌, map, Option, Some, refl, sym}
use Rattle.std.proofs.Common.{ap, ◌∙◌, append_assoc, arith}
use Rattle.rule_read.specs.declared.token.Mark.TheVariants.{Close, Comma}
use Rattle.rule_read.specs.declared.keyword.Keyword.{Keyword}
use Rattle.rule_read.specs.declared.keyword.Keyword.TheVariants as key
use Rattle.rule_forms.specs.declared.form.Fv.{Fv}
use Rattle.rule_read.specs.Tokens.{Token, Sign}
use Rattle.rule_forms.specs.Forms.{Expression, Expressions, none, more, Value_of, Union_of}
use Rattle.rule_forms.specs.Forms.{Intersect_of, Complement_of, expressions}
use Rattle.rule_read.specs.FormTokens.{keyword, in_parentheses, in_brackets, fv_tokens}
use Rattle.rule_read.specs.FormTokens.{expression_tokens, row_tokens}
use Rattle.rule_forms.specs.Sound.{AllOf, SomeOf, IsSoundFv, IsSoundExpression, AreSoundMembers}
use Rattle.rule_forms.specs.Sound.{AreSoundOthers}
use Rattle.rule_read.specs.Reading.{Part, bind, mapped, key_at, fv_at, enclosed_at, row_at}
use Rattle.rule_read.specs.Reading.{value_at, pair_at, construct_by, construct_at, expression_at}
use Rattle.rule_read.proofs.Tools.{bind_with, At, Takes, Again, finish, join, behind_takes}
use Rattle.rule_read.proofs.Tools.{mapped_takes, enclosed_takes, enclosed_again}
use Rattle.rule_read.proofs.Keys.{key_again, keyed_takes, name_free}
use Rattle.rule_read.proofs.Members.{HasTokens, row_takes, row_again}
use Rattle.rule_read.proofs.Parts.{fv_takes, fv_again}

-- ---- members as a list

abbrev members : Expressions → List Expression
members none = []
members (more e es) = e ∷ members es

members_back : (es : Expressions) → expressions (members es) ≡ es
members_back none = refl
members_back (more e es) = ap (more e) (members_back es)

row_tokens_are : (es : List Expression) → map expression_tokens es ≡ row_tokens (expressions es)
row_tokens_are [] = refl
row_tokens_are (e ∷ es) = ap (λ (t : List (List Token)). expression_tokens e ∷ t)
    (row_tokens_are es)

others_sound : (d : ℕ) (es : List Expression) → AllOf (IsSoundExpression d) es
    → AreSoundOthers d (expressions es)
others_sound d [] h = tt
others_sound d (e ∷ es) h = (h.0, others_sound d es h.1)

members_sound : (d : ℕ) (es : List Expression) → SomeOf (IsSoundExpression d) es
    → AreSoundMembers d (expressions es)
members_sound d [] h = h
members_sound d (e ∷ es) h = (h.0, others_sound d es h.1)

sound_others : (d : ℕ) (es : Expressions) → AreSoundOthers d es
    → AllOf (IsSoundExpression d) (members es)
sound_others d none h = tt
sound_others d (more e es) h = (h.0, sound_others d es h.1)

sound_members : (d : ℕ) (es : Expressions) → AreSoundMembers d es
    → SomeOf (IsSoundExpression d) (members es)
sound_members d none h = h
sound_members d (more e es) h = (h.0, sound_others d es h.1)

-- ---- what is read is spelled so

abbrev row_of : List Expression → List Token
row_of es = in_brackets (map expression_tokens es)

abbrev pair_of : Expression × List Expression → List Token
pair_of x = expression_tokens x.0 ++ (Sign Comma ∷ row_of x.1)

abbrev IsSoundPair : ℕ → Expression × List Expression → Type 0
IsSoundPair d x = IsSoundExpression d x.0 × SomeOf (IsSoundExpression d) x.1

pair_takes : (d : ℕ) (member : Part Expression) → Takes expression_tokens (IsSoundExpression d)
    member
    → Takes pair_of (IsSoundPair d) (pair_at member)
unfolding pair_at
pair_takes d member takes ts y e =
    bind_with e (λ x ex e1. bind_with e1 (λ r er e2. bind_with e2 (λ es ees e3.
    let t = takes ts x ex in
    let w = row_takes expression_tokens (IsSoundExpression d) member takes r es ees in
    finish pair_of (IsSoundPair d) ts e3 (
      join ts (expression_tokens x.0) x.1 (Sign Comma ∷ row_of es.0) es.1 t.0
          (behind_takes Comma x.1 r er ∙ ap (λ (t : List Token). Sign Comma ∷ t) w.0),
      (t.1, w.1),
    ))))

value_takes : (d : ℕ) → Takes expression_tokens (IsSoundExpression d) value_at
value_takes d ts y e = mapped_takes Value_of fv_tokens IsSoundFv fv_at fv_takes expression_tokens
    (IsSoundExpression d) (λ x. refl) (λ x s. s) ts y e

construct_takes : (d : ℕ) (member : Part Expression)
    → Takes expression_tokens (IsSoundExpression d) member
    → Takes expression_tokens (IsSoundExpression (suc d)) (construct_at member)
unfolding construct_at
construct_takes d member takes ts y e = of_key (key_at ts) refl e
  where
    rows : Takes (λ es. in_parentheses (row_of es)) (SomeOf (IsSoundExpression d))
        (enclosed_at (row_at member))
    rows = enclosed_takes row_of (SomeOf (IsSoundExpression d)) (row_at member)
        (row_takes expression_tokens (IsSoundExpression d) member takes)

    pairs : Takes (λ x. in_parentheses (pair_of x)) (IsSoundPair d) (enclosed_at (pair_at member))
    pairs = enclosed_takes pair_of (IsSoundPair d) (pair_at member) (pair_takes d member takes)

    of_key : (k : Option Keyword) → key_at ts ≡ k → construct_by k member ts ≡ Some y
        → At expression_tokens (IsSoundExpression (suc d)) ts y
    of_key (Some key.UnionAll) h e =
        keyed_takes (λ es. Union_of (expressions es)) key.UnionAll
        (λ es. in_parentheses (row_of es)) (SomeOf (IsSoundExpression d))
        (enclosed_at (row_at member)) rows expression_tokens (IsSoundExpression (suc d))
        (λ es. ap (λ (t : List (List Token)). keyword key.UnionAll ∷ in_parentheses
        (in_brackets t)) (row_tokens_are es))
        (λ es s. members_sound d es s) ts y h e
    of_key (Some key.IntersectAll) h e =
        keyed_takes (λ es. Intersect_of (expressions es)) key.IntersectAll
        (λ es. in_parentheses (row_of es)) (SomeOf (IsSoundExpression d))
        (enclosed_at (row_at member)) rows expression_tokens (IsSoundExpression (suc d))
        (λ es. ap (λ (t : List (List Token)). keyword key.IntersectAll ∷ in_parentheses
        (in_brackets t)) (row_tokens_are es))
        (λ es s. members_sound d es s) ts y h e
    of_key (Some key.RelativeComplementAll) h e =
        keyed_takes (λ x. Complement_of x.0 (expressions x.1)) key.RelativeComplementAll
        (λ x. in_parentheses (pair_of x)) (IsSoundPair d)
        (enclosed_at (pair_at member)) pairs expression_tokens (IsSoundExpression (suc d))
        (λ x. ap (λ (t : List (List Token)). keyword key.RelativeComplementAll ∷ in_parentheses
        (expression_tokens x.0 ++ (Sign Comma ∷ in_brackets t))) (row_tokens_are x.1))
        (λ x s. (s.0, members_sound d x.1 s.1)) ts y h e
    of_key _ h e = value_takes (suc d) ts y e

pub expression_takes : (d : ℕ) → Takes expression_tokens (IsSoundExpression d) (expression_at d)
unfolding expression_at
expression_takes zero ts y e = value_takes zero ts y e
expression_takes (suc d) ts y e = construct_takes d (expression_at d) (expression_takes d) ts y e

-- ---- what is spelled so is read

expression_some : HasTokens expression_tokens
expression_some (Value_of fv) = omega arith
expression_some (Union_of es) = omega arith
expression_some (Intersect_of es) = omega arith
expression_some (Complement_of e es) = omega arith

members_again : (d : ℕ) (member : Part Expression) → Again expression_tokens (IsSoundExpression d)
    member → (es : Expressions) (rest : List Token)
    → AreSoundMembers d es → row_at member (in_brackets (row_tokens es) ++ rest)
    ≡ Some (members es, rest)
members_again d member again es rest h =
    let same : row_tokens es ≡ map expression_tokens (members es) =
    ap row_tokens (sym (members_back es)) ∙ sym (row_tokens_are (members es)) in
    ap (λ (t : List (List Token)). row_at member (in_brackets t ++ rest)) same
    ∙ row_again expression_tokens (IsSoundExpression d) member again expression_some (members es)
    rest (sound_members d es h)

enclosed_members : (d : ℕ) (member : Part Expression)
    → Again expression_tokens (IsSoundExpression d) member → (es : Expressions) (rest : List Token)
    → AreSoundMembers d es
    → enclosed_at (row_at member) (in_parentheses (in_brackets (row_tokens es)) ++ rest)
    ≡ Some (members es, rest)
enclosed_members d member again es rest h =
    enclosed_again (row_at member) (in_brackets (row_tokens es)) rest (members es)
    (members_again d member again es (Sign Close ∷ rest) h)

pair_again : (d : ℕ) (member : Part Expression) → Again expression_tokens (IsSoundExpression d)
    member
    → (e : Expression) (es : Expressions) (rest : List Token) → IsSoundExpression d e
    → AreSoundMembers d es
    → pair_at member ((expression_tokens e ++ (Sign Comma ∷ in_brackets (row_tokens es))) ++ rest)
    ≡ Some ((e, members es), rest)
unfolding pair_at bind
pair_again d member again e es rest h hs =
    ap (pair_at member) (append_assoc (expression_tokens e)
    (Sign Comma ∷ in_brackets (row_tokens es)) rest)
    ∙ rw (
      again e (Sign Comma ∷ (in_brackets (row_tokens es) ++ rest)) h,
      members_again d member
          again es rest hs,
    ) refl

enclosed_pair : (d : ℕ) (member : Part Expression) → Again expression_tokens (IsSoundExpression d)
    member
    → (e : Expression) (es : Expressions) (rest : List Token) → IsSoundExpression d e
    → AreSoundMembers d es
    → enclosed_at (pair_at member) (in_parentheses (expression_tokens e
    ++ (Sign Comma ∷ in_brackets (row_tokens es))) ++ rest) ≡ Some ((e, members es), rest)
enclosed_pair d member again e es rest h hs =
    enclosed_again (pair_at member) (expression_tokens e
    ++ (Sign Comma ∷ in_brackets (row_tokens es))) rest (e, members es)
    (pair_again d member again e es (Sign Close ∷ rest) h hs)

value_again : (fv : Fv) (rest : List Token) → IsSoundFv fv → (member : Part Expression)
    → construct_at member (fv_tokens fv ++ rest) ≡ Some (Value_of fv, rest)
unfolding construct_at mapped bind
value_again fv rest h member = rw (name_free fv.atom.name h.0.0, fv_again fv rest h) refl

construct_again : (d : ℕ) (member : Part Expression)
    → Again expression_tokens (IsSoundExpression d) member
    → Again expression_tokens (IsSoundExpression (suc d)) (construct_at member)
unfolding construct_at mapped bind
construct_again d member again (Value_of fv) rest h = value_again fv rest h member
construct_again d member again (Union_of es) rest h =
    rw (key_again key.UnionAll, enclosed_members d member again es rest h, members_back es) refl
construct_again d member again (Intersect_of es) rest h =
    rw (key_again key.IntersectAll, enclosed_members d member again es rest h, members_back es) refl
construct_again d member again (Complement_of e es) rest h =
    rw (
      key_again key.RelativeComplementAll,
      enclosed_pair d member again e es rest h.0 h.1,
      members_back es,
    ) refl

pub expression_again : (d : ℕ) → Again expression_tokens (IsSoundExpression d) (expression_at d)
unfolding expression_at mapped bind
expression_again zero (Value_of fv) rest h = rw (fv_again fv rest h) refl
expression_again zero (Union_of es) rest h = absurd h
expression_again zero (Intersect_of es) rest h = absurd h
expression_again zero (Complement_of e es) rest h = absurd h
expression_again (suc d) x rest h = construct_again d (expression_at d) (expression_again d) x rest
    h
