-- Steps of readers, and the two laws of a part: what is read is spelled so, and what is spelled so
-- is read.
use Rattle.std.proofs.Common.{◌≡◌, ℕ, Bool, true, false, cond, if◌then◌else◌, ◌==◌, List, [], ◌∷◌}
use Rattle.std.proofs.Common.{◌++◌, Option, Some, None, refl, sym, ap, subst, ◌∙◌, append_assoc}
use Rattle.std.proofs.lemmas.Bool.{eqb-true}
use Rattle.rule_read.specs.declared.token.Mark.{Mark}
use Rattle.rule_read.specs.declared.token.Mark.TheVariants.{Open, Close, OpenList, CloseList, Comma}
use Rattle.rule_read.specs.declared.token.Mark.TheVariants.{Equals, If, Differs, Stray}
use Rattle.rule_read.specs.declared.keyword.Kind.{Kind}
use Rattle.rule_read.specs.Tokens.{Token, Word, Sign}
use Rattle.rule_read.specs.Words.{is_of}
use Rattle.rule_read.specs.FormTokens.{word_tokens, in_parentheses}
use Rattle.rule_read.specs.Reading.{Part, bind, mapped, has, tail, behind, word_by, word_at}
use Rattle.rule_read.specs.Reading.{enclosed_at, same_mark, number_of_mark}

pub bind_ok : {A B : Type 0} {r : Option A} {f : A → Option B} {y : B} → bind r f ≡ Some y
    → (x : A) × (r ≡ Some x) × (f x ≡ Some y)
unfolding bind
bind_ok {r = Some x} e = (x, refl, e)
bind_ok {r = None} e = absurd cc

pub bind_with : {A B : Type 0} {C : Type 0} {r : Option A} {f : A → Option B} {y : B}
    → bind r f ≡ Some y → ((x : A) → r ≡ Some x → f x ≡ Some y → C)
    → C
bind_with e go = let p = bind_ok e in go p.0 p.1 p.2

-- the front of the tokens spells the value, which is sound, and the rest is what is left
abbrev pub At : {A : Type 0} → (A → List Token) → (A → Type 0) → List Token → A × List Token
    → Type 0
At toks Sound ts y = (ts ≡ toks y.0 ++ y.1) × Sound y.0

-- what is read is spelled so
abbrev pub Takes : {A : Type 0} → (A → List Token) → (A → Type 0) → Part A → Type 0
Takes {A} toks Sound at = (ts : List Token) (y : A × List Token) → at ts ≡ Some y
    → At toks Sound ts y

-- what is spelled so is read, whatever follows
abbrev pub Again : {A : Type 0} → (A → List Token) → (A → Type 0) → Part A → Type 0
Again {A} toks Sound at = (x : A) (rest : List Token) → Sound x → at (toks x ++ rest)
    ≡ Some (x, rest)

pub some_is : {A : Type 0} {x y : A} → Some x ≡ Some y → x ≡ y
some_is e = cc

pub finish : {A : Type 0} (toks : A → List Token) (Sound : A → Type 0) (ts : List Token) {x y : A
    × List Token} → Some x ≡ Some y → At toks Sound ts x
    → At toks Sound ts y
finish toks Sound ts e h = subst (At toks Sound ts) (some_is e) h

pub join : (ts p r q s : List Token) → ts ≡ p ++ r → r ≡ q ++ s → ts ≡ (p ++ q) ++ s
join ts p r q s e f = e ∙ ap (λ (t : List Token). p ++ t) f ∙ sym (append_assoc p q s)

pub mapped_takes : {A B : Type 0} (f : A → B) (toks : A → List Token) (Sound : A → Type 0)
    (at : Part A) → Takes toks Sound at
    → (toks' : B → List Token) (Sound' : B → Type 0)
    → ((x : A) → toks x ≡ toks' (f x)) → ((x : A) → Sound x → Sound' (f x))
    → Takes toks' Sound' (mapped f at)
unfolding mapped
mapped_takes f toks Sound at takes toks' Sound' same sound ts y e =
    bind_with e (λ x ex e1. let t = takes ts x ex in
    finish toks' Sound' ts e1 (
      t.0 ∙ ap (λ (p : List Token). p ++ x.1) (same x.0),
      sound x.0 t.1,
    ))

-- ---- marks and words

pub chosen : {A : Type 0} (b : Bool) (x y : A) → cond b (Some x) None ≡ Some y → (b ≡ true)
    × (x ≡ y)
chosen true x y e = (refl, cc)
chosen false x y e = absurd cc

mark_of : ℕ → Mark
mark_of n =
    if n == 0 then Open else if n == 1 then Close else if n == 2 then OpenList else if n == 3
    then CloseList else if n == 4 then Comma
    else if n == 5 then Equals else if n == 6 then If else if n == 7 then Differs else Stray

mark_back : (m : Mark) → mark_of (number_of_mark m) ≡ m
unfolding mark_of
mark_back Open = refl
mark_back Close = refl
mark_back OpenList = refl
mark_back CloseList = refl
mark_back Comma = refl
mark_back Equals = refl
mark_back If = refl
mark_back Differs = refl
mark_back Stray = refl

marks_equal : (m n : Mark) → same_mark m n ≡ true → m ≡ n
marks_equal m n e = sym (mark_back m) ∙ ap mark_of (eqb-true _ _ e) ∙ mark_back n

pub has_takes : (m : Mark) (ts : List Token) → has m ts ≡ true → ts ≡ Sign m ∷ tail ts
has_takes m [] e = absurd cc
has_takes m (Word w ∷ ts) e = absurd cc
has_takes m (Sign n ∷ ts) e = ap (λ k. Sign k ∷ ts) (sym (marks_equal m n e))

pub behind_takes : (m : Mark) (ts rest : List Token) → behind m ts ≡ Some rest → ts ≡ Sign m ∷ rest
behind_takes m ts rest e = let p = chosen (has m ts) (tail ts) rest e in has_takes m ts p.0
    ∙ ap (λ r. Sign m ∷ r) p.1

pub word_by_takes : (p : List ℕ → Bool) → Takes word_tokens (λ w. p w ≡ true) (word_by p)
word_by_takes p [] y e = absurd cc
word_by_takes p (Sign m ∷ ts) y e = absurd cc
word_by_takes p (Word w ∷ ts) y e = let c = chosen (p w) (w, ts) y e in
    subst (At word_tokens (λ w. p w ≡ true) (Word w ∷ ts)) c.1 (refl, c.0)

abbrev pub OfKind : Kind → List ℕ → Type 0
OfKind kind word = is_of kind word ≡ true

pub word_takes : (kind : Kind) → Takes word_tokens (OfKind kind) (word_at kind)
word_takes kind ts y e = word_by_takes (is_of kind) ts y e

pub word_again : (kind : Kind) → Again word_tokens (OfKind kind) (word_at kind)
word_again kind w rest h = rw h refl

-- ---- in parentheses

pub enclosed_takes : {A : Type 0} (toks : A → List Token) (Sound : A → Type 0) (at : Part A)
    → Takes toks Sound at
    → Takes (λ x. in_parentheses (toks x)) Sound (enclosed_at at)
unfolding enclosed_at
enclosed_takes toks Sound at takes ts y e =
    bind_with e (λ r er e1. bind_with e1 (λ x ex e2. bind_with e2 (λ s es e3.
    let t = takes r x ex in
    finish (λ x. in_parentheses (toks x)) Sound ts e3 (
      behind_takes Open ts r er ∙ ap (λ (r : List Token). Sign Open ∷ r)
          (join r (toks x.0) x.1 (Sign Close ∷ []) s t.0 (behind_takes Close x.1 s es)),
      t.1,
    ))))

pub enclosed_again : {A : Type 0} (at : Part A) (ts rest : List Token) (x : A)
    → at (ts ++ (Sign Close ∷ rest)) ≡ Some (x, Sign Close ∷ rest)
    → enclosed_at at (in_parentheses ts ++ rest) ≡ Some (x, rest)
unfolding enclosed_at bind
enclosed_again at ts rest x h = ap (λ (t : List Token). enclosed_at at (Sign Open ∷ t))
    (append_assoc ts (Sign Close ∷ []) rest) ∙ rw h refl
