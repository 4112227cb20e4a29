-- A line, token by token.
use Rattle.std.proofs.Common.{arith, ◌≤◌, ◌<◌, ◌-◌, length, take, drop, get_or, ◌≡◌, ℕ, Bool, true}
use Rattle.std.proofs.Common.{false, List, [], ◌∷◌, ◌++◌, refl, sym, ap, ◌∙◌, append_assoc}
use Rattle.std.specs.Prelude.{if◌then◌else◌}
use Rattle.std.proofs.lemmas.List.{take_all}
use Rattle.rule_read.specs.declared.token.Token.{Token as Code}
use Rattle.rule_read.specs.Lexed.{token, tokens}
use Rattle.rule_read.specs.Tokens.{Token}
use Rattle.rule_read.specs.Canonical.{token_bytes, space_between, line_of}
use Rattle.rule_read.specs.Printed.{space_behind}

spaced : (b : Bool) (bytes : List ℕ) → (if b then 32 ∷ bytes else bytes) ≡ (if b then 32 ∷ []
    else []) ++ bytes
spaced true bytes = refl
spaced false bytes = refl

pub line_more : (t : Token) (ts : List Token) → line_of (t ∷ ts) ≡ token_bytes t
    ++ (space_behind t ts ++ line_of ts)
unfolding line_of
line_more t [] = refl
line_more t (u ∷ ts) = ap (λ (bytes : List ℕ). token_bytes t ++ bytes) (spaced (space_between t u)
    (line_of (u ∷ ts)))

-- what is put with the line of the rest stays the same
pub put_token_of : (before after : List ℕ) (t : Token) (ts : List Token)
    → after ≡ before ++ (token_bytes t ++ space_behind t ts) → after ++ line_of ts ≡ before
    ++ line_of (t ∷ ts)
put_token_of before after t ts e =
    ap (λ (bytes : List ℕ). bytes ++ line_of ts) e
    ∙ append_assoc before (token_bytes t ++ space_behind t ts) (line_of ts)
    ∙ ap (λ (bytes : List ℕ). before ++ bytes) (append_assoc (token_bytes t) (space_behind t ts)
    (line_of ts) ∙ sym (line_more t ts))

pub put_front : (rest : List Code) (d : Code) (before after : List ℕ) → 1 ≤ length rest
    → after ≡ before ++ (token_bytes (token (get_or rest 0 d)) ++ space_behind
    (token (get_or rest 0 d)) (tokens (take (length rest - 1) (drop 1 rest))))
    → after ++ line_of (tokens (take (length rest - 1) (drop 1 rest))) ≡ before ++ line_of
    (tokens rest)
put_front [] d before after le e = absurd (omega arith)
put_front (x ∷ xs) d before after le e =
    let others : take (length (x ∷ xs) - 1) xs ≡ xs = take_all (length (x ∷ xs) - 1) xs
    (omega arith) in
    put_token_of before after (token x) (tokens (take (length (x ∷ xs) - 1) xs)) e
    ∙ ap (λ ys. before ++ line_of (token x ∷ tokens ys)) others

pub nothing_left : (rest : List Code) → length rest < 1 → line_of (tokens rest) ≡ 46 ∷ 10 ∷ []
unfolding line_of
nothing_left [] lt = refl
nothing_left (x ∷ xs) lt = absurd (omega arith)
