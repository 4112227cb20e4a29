-- The two laws for lists of members.
use Rattle.std.proofs.Common.{◌≡◌, ℕ, zero, suc, ◌<◌, ◌≤◌, Bool, true, false, cond, List, [], ◌∷◌}
use Rattle.std.proofs.Common.{◌++◌, length, map, Some, refl, sym, ap, ◌∙◌, append_assoc, arith}
use Rattle.std.proofs.Common.{length-append}
use Rattle.rule_read.specs.declared.token.Mark.TheVariants.{Open, Close, OpenList, CloseList, Comma}
use Rattle.rule_read.specs.declared.keyword.Kind.TheVariants as kind
use Rattle.rule_read.specs.Tokens.{Token, Sign}
use Rattle.rule_read.specs.FormTokens.{commas, word_tokens, in_parentheses, in_brackets, arguments}
use Rattle.rule_forms.specs.Sound.{AllOf, SomeOf, IsConstant}
use Rattle.rule_read.specs.Reading.{Part, bind, has, tail, behind, list_at, members_at, row_at}
use Rattle.rule_read.specs.Reading.{any_row_at, args_at, enclosed_at, word_at}
use Rattle.rule_read.proofs.Tools.{bind_with, At, Takes, Again, finish, join, has_takes}
use Rattle.rule_read.proofs.Tools.{behind_takes, enclosed_takes, enclosed_again, word_again}

pub some_all : {A : Type 0} (P : A → Type 0) (xs : List A) → SomeOf P xs → AllOf P xs
some_all P [] h = absurd h
some_all P (x ∷ xs) h = h

commas_more : {A : Type 0} (toks : A → List Token) (P : A → Type 0) (x : A) (xs : List A)
    → SomeOf P xs
    → commas (map toks (x ∷ xs)) ≡ toks x ++ (Sign Comma ∷ commas (map toks xs))
commas_more toks P x [] h = absurd h
commas_more toks P x (z ∷ zs) h = refl

abbrev pub listed : {A : Type 0} → (A → List Token) → List A → List Token
listed toks xs = commas (map toks xs)

of_comma : {A : Type 0} (toks : A → List Token) (Sound : A → Type 0) (at : Part A)
    → Takes toks Sound at → (n : ℕ)
    → Takes (listed toks) (SomeOf Sound) (list_at at n)
    → (ts : List Token) (y : List A × List Token) (x : A × List Token) → at ts ≡ Some x
    → (b : Bool) → has Comma x.1 ≡ b → cond b (bind (list_at at n (tail x.1))
    (λ xs. Some (x.0 ∷ xs.0, xs.1))) (Some (x.0 ∷ [], x.1)) ≡ Some y → At
    (listed toks) (SomeOf Sound) ts y
of_comma toks Sound at takes n rest_takes ts y x ex false eb e1 = let t = takes ts x ex in
    finish (listed toks) (SomeOf Sound) ts e1 (t.0, (t.1, tt))
of_comma toks Sound at takes n rest_takes ts y x ex true eb e1 =
    bind_with e1 (λ xs exs e2.
    let t = takes ts x ex in
    let u = rest_takes (tail x.1) xs exs in
    let whole = join ts (toks x.0) x.1 (Sign Comma ∷ listed toks xs.0) xs.1 t.0
    (has_takes Comma x.1 eb ∙ ap (λ (r : List Token). Sign Comma ∷ r) u.0) in
    finish (listed toks) (SomeOf Sound) ts e2 (
      whole ∙ ap (λ (r : List Token). r ++ xs.1) (sym (commas_more toks Sound x.0 xs.0 u.1)),
      (t.1, some_all Sound xs.0 u.1),
    ))

list_takes : {A : Type 0} (toks : A → List Token) (Sound : A → Type 0) (at : Part A)
    → Takes toks Sound at → (n : ℕ)
    → Takes (listed toks) (SomeOf Sound) (list_at at n)
list_takes toks Sound at takes zero ts y e = absurd cc
list_takes toks Sound at takes (suc n) ts y e =
    bind_with e (λ x ex e1. of_comma toks Sound at takes n (list_takes toks Sound at takes n) ts y
    x ex (has Comma x.1) refl e1)

pub members_takes : {A : Type 0} (toks : A → List Token) (Sound : A → Type 0) (at : Part A)
    → Takes toks Sound at
    → Takes (listed toks) (SomeOf Sound) (members_at at)
members_takes toks Sound at takes ts y e = list_takes toks Sound at takes (length ts) ts y e

list_again : {A : Type 0} (toks : A → List Token) (Sound : A → Type 0) (at : Part A)
    → Again toks Sound at → (xs : List A) (n : ℕ) (rest : List Token)
    → SomeOf Sound xs → has Comma rest ≡ false → length xs ≤ n
    → list_at at n (listed toks xs ++ rest) ≡ Some (xs, rest)
unfolding bind
list_again toks Sound at again [] n rest h ends le = absurd h
list_again toks Sound at again (x ∷ xs) zero rest h ends le = absurd (omega arith)
list_again toks Sound at again (x ∷ []) (suc n) rest h ends le = rw (again x rest h.0, ends) refl
list_again toks Sound at again (x ∷ z ∷ zs) (suc n) rest h ends le =
    ap (list_at at (suc n)) (append_assoc (toks x) (Sign Comma ∷ listed toks (z ∷ zs)) rest)
    ∙ rw (
      again x (Sign Comma ∷ (listed toks (z ∷ zs) ++ rest)) h.0,
      list_again toks Sound at again
          (z ∷ zs) n rest h.1 ends (omega arith),
    ) refl

-- each member has a token
abbrev pub HasTokens : {A : Type 0} → (A → List Token) → Type 0
HasTokens {A} toks = (x : A) → 0 < length (toks x)

listed-le : {A : Type 0} (toks : A → List Token) → HasTokens toks
    → (xs : List A) (rest : List Token) → length xs ≤ length (listed toks xs ++ rest)
listed-le toks some [] rest = omega arith
listed-le toks some (x ∷ []) rest = omega (arith, some x, length-append (toks x) rest)
listed-le toks some (x ∷ z ∷ zs) rest =
    omega (
      arith,
      listed-le toks some (z ∷ zs) rest,
      some x,
      length-append (listed toks (x ∷ z ∷ zs)) rest,
      length-append (listed toks (z ∷ zs)) rest,
      length-append (toks x) (Sign Comma ∷ listed toks (z ∷ zs)),
    )

pub members_again : {A : Type 0} (toks : A → List Token) (Sound : A → Type 0) (at : Part A)
    → Again toks Sound at → HasTokens toks
    → (xs : List A) (rest : List Token) → SomeOf Sound xs → has Comma rest ≡ false
    → members_at at (listed toks xs ++ rest) ≡ Some (xs, rest)
members_again toks Sound at again some xs rest h ends =
    list_again toks Sound at again xs (length (listed toks xs ++ rest)) rest h ends
    (listed-le toks some xs rest)

-- ---- in brackets

pub row_takes : {A : Type 0} (toks : A → List Token) (Sound : A → Type 0) (at : Part A)
    → Takes toks Sound at
    → Takes (λ xs. in_brackets (map toks xs)) (SomeOf Sound) (row_at at)
unfolding row_at
row_takes toks Sound at takes ts y e =
    bind_with e (λ r er e1. bind_with e1 (λ xs exs e2. bind_with e2 (λ s es e3.
    let l = members_takes toks Sound at takes r xs exs in
    let inner = join r (listed toks xs.0) xs.1 (Sign CloseList ∷ []) s l.0
    (behind_takes CloseList xs.1 s es) in
    finish (λ xs. in_brackets (map toks xs)) (SomeOf Sound) ts e3 (
      behind_takes OpenList ts r er
          ∙ ap (λ (r : List Token). Sign OpenList ∷ r) inner,
      l.1,
    ))))

pub row_again : {A : Type 0} (toks : A → List Token) (Sound : A → Type 0) (at : Part A)
    → Again toks Sound at → HasTokens toks
    → Again (λ xs. in_brackets (map toks xs)) (SomeOf Sound) (row_at at)
unfolding row_at bind
row_again toks Sound at again some xs rest h =
    ap (λ (t : List Token). row_at at (Sign OpenList ∷ t)) (append_assoc (listed toks xs)
    (Sign CloseList ∷ []) rest)
    ∙ rw (members_again toks Sound at again some xs (Sign CloseList ∷ rest) h refl) refl

pub any_row_takes : {A : Type 0} (toks : A → List Token) (Sound : A → Type 0) (at : Part A)
    → Takes toks Sound at
    → Takes (λ xs. in_brackets (map toks xs)) (AllOf Sound) (any_row_at at)
unfolding any_row_at
any_row_takes {A} toks Sound at takes ts y e =
    bind_with e (λ r er e1. of_last (has CloseList r) r (behind_takes OpenList ts r er) refl e1)
  where
    of_last : (b : Bool) (r : List Token) → ts ≡ Sign OpenList ∷ r → has CloseList r ≡ b
        → cond b (Some ([], tail r)) (bind (members_at at r) (λ xs. bind (behind CloseList xs.1)
        (λ rest. Some (xs.0, rest)))) ≡ Some y
        → At (λ (xs : List A). in_brackets (map toks xs)) (AllOf Sound) ts y
    of_last true r er h e =
        finish (λ (xs : List A). in_brackets (map toks xs)) (AllOf Sound) ts e (
          er
              ∙ ap (λ (r : List Token). Sign OpenList ∷ r) (has_takes CloseList r h),
          tt,
        )
    of_last false r er h e =
        bind_with e (λ xs exs e2. bind_with e2 (λ s es e3.
        let l = members_takes toks Sound at takes r xs exs in
        let inner = join r (listed toks xs.0) xs.1 (Sign CloseList ∷ []) s l.0
        (behind_takes CloseList xs.1 s es) in
        finish (λ (xs : List A). in_brackets (map toks xs)) (AllOf Sound) ts e3 (
          er
              ∙ ap (λ (r : List Token). Sign OpenList ∷ r) inner,
          some_all Sound xs.0 l.1,
        )))

pub any_row_again : Again (λ ws. in_brackets (map word_tokens ws)) (AllOf IsConstant)
    (any_row_at (word_at kind.Constant))
unfolding any_row_at bind
any_row_again [] rest h = refl
any_row_again (w ∷ []) rest h =
    rw (members_again word_tokens IsConstant (word_at kind.Constant) (word_again kind.Constant)
    (λ w. omega arith) (w ∷ []) (Sign CloseList ∷ rest) h refl) refl
any_row_again (w ∷ v ∷ ws) rest h =
    ap (λ (t : List Token). any_row_at (word_at kind.Constant) (Sign OpenList ∷ t))
    (append_assoc (listed word_tokens (w ∷ v ∷ ws)) (Sign CloseList ∷ []) rest)
    ∙ rw (members_again word_tokens IsConstant (word_at kind.Constant) (word_again kind.Constant)
    (λ w. omega arith) (w ∷ v ∷ ws) (Sign CloseList ∷ rest) h
    refl) refl

-- ---- arguments

args_some : {A : Type 0} (toks : A → List Token) (Sound : A → Type 0) (xs : List A)
    → SomeOf Sound xs
    → arguments (map toks xs) ≡ in_parentheses (listed toks xs)
args_some toks Sound [] h = absurd h
args_some toks Sound (x ∷ xs) h = refl

pub args_takes : {A : Type 0} (toks : A → List Token) (Sound : A → Type 0) (at : Part A)
    → Takes toks Sound at
    → Takes (λ xs. arguments (map toks xs)) (AllOf Sound) (args_at at)
unfolding args_at
args_takes {A} toks Sound at takes ts y e = of_open (has Open ts) refl e
  where
    of_open : (b : Bool) → has Open ts ≡ b → cond b (enclosed_at (members_at at) ts)
        (Some ([], ts)) ≡ Some y
        → At (λ xs. arguments (map toks xs)) (AllOf Sound) ts y
    of_open false h e = finish (λ xs. arguments (map toks xs)) (AllOf Sound) ts e (refl, tt)
    of_open true h e =
        let t = enclosed_takes (listed toks) (SomeOf Sound) (members_at at)
        (members_takes toks Sound at takes) ts y e in (
          t.0 ∙ ap (λ (t : List Token). t ++ y.1) (sym (args_some toks Sound y.0 t.1)),
          some_all Sound y.0 t.1,
        )

pub args_again : {A : Type 0} (toks : A → List Token) (Sound : A → Type 0) (at : Part A)
    → Again toks Sound at → HasTokens toks
    → (xs : List A) (rest : List Token) → AllOf Sound xs → has Open rest ≡ false
    → args_at at (arguments (map toks xs) ++ rest) ≡ Some (xs, rest)
unfolding args_at
args_again toks Sound at again some [] rest h ends = rw ends refl
args_again toks Sound at again some (x ∷ xs) rest h ends =
    enclosed_again (members_at at) (listed toks (x ∷ xs)) rest (x ∷ xs)
    (members_again toks Sound at again some (x ∷ xs) (Sign Close ∷ rest) h refl)
