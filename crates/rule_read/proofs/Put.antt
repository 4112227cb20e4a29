-- Tokens that are put one behind the other.
use Rattle.std.proofs.Common.{arith, ◌≡◌, ℕ, ◌+◌, ◌<◌, length, take, get_or, List, [], ◌∷◌, ◌++◌}
use Rattle.std.proofs.Common.{map, refl, sym, ap, ◌∙◌, append_assoc}
use Rattle.std.proofs.lemmas.List.{map-append, take_more, length-map, length-take-le}
use Rattle.rule_read.specs.declared.token.Token.{Token as Code}
use Rattle.rule_read.specs.declared.token.Mark.TheVariants.{Comma}
use Rattle.rule_read.specs.Tokens.{Token, Sign}
use Rattle.rule_read.specs.Lexed.{token, tokens}
use Rattle.rule_read.specs.FormTokens.{commas}
use Rattle.rule_read.specs.Printed.{comma_at}

pub put_one : (before : List Code) (t : Code) → tokens (before ++ t ∷ []) ≡ tokens before ++ token
    t ∷ []
put_one before t = map-append token before (t ∷ [])

-- one member more
list_with_one_more : (xs : List (List Token)) (x : List Token) → commas (xs ++ x ∷ []) ≡ commas xs
    ++ (comma_at (length xs) ++ x)
list_with_one_more [] x = refl
list_with_one_more (y ∷ []) x = refl
list_with_one_more (y ∷ z ∷ zs) x =
    ap (λ (t : List Token). y ++ (Sign Comma ∷ t)) (list_with_one_more (z ∷ zs) x)
    ∙ sym (append_assoc y (Sign Comma ∷ commas (z ∷ zs)) (Sign Comma ∷ x))

pub next_member : {A : Type 0} (toks : A → List Token) (init t0 t1 t2 : List Token) (xs : List A)
    (i : ℕ) (d : A) → i < length xs → t2 ≡ t1 ++ toks (get_or xs i d) → t1 ≡ t0 ++ comma_at i
    → t0 ≡ init ++ commas (map toks (take i xs)) → t2 ≡ init ++ commas (map toks (take (i + 1) xs))
next_member toks init t0 t1 t2 xs i d lt e2 e1 e0 =
    let count : length (map toks (take i xs)) ≡ i = length-map (take i xs) toks
    ∙ length-take-le i xs (omega arith) in
    e2 ∙ ap (λ (t : List Token). t ++ toks (get_or xs i d)) (e1
    ∙ ap (λ (t : List Token). t ++ comma_at i) e0)
    ∙ append_assoc (init ++ commas (map toks (take i xs))) (comma_at i) (toks (get_or xs i d))
    ∙ append_assoc init (commas (map toks (take i xs))) (comma_at i ++ toks (get_or xs i d))
    ∙ ap (λ (t : List Token). init ++ t)
    (ap (λ n. commas (map toks (take i xs)) ++ (comma_at n ++ toks (get_or xs i d))) (sym count)
    ∙ sym (list_with_one_more (map toks (take i xs)) (toks (get_or xs i d)))
    ∙ ap commas (sym (map-append toks (take i xs) (get_or xs i d ∷ [])))
    ∙ ap (λ ys. commas (map toks ys)) (sym (take_more xs i d lt)))
