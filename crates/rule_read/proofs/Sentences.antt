-- Statements as tokens, token by token.
use Rattle.std.proofs.Common.{◌≡◌, ℕ, ◌≤◌, arith, List, [], ◌∷◌, ◌++◌, refl, sym, ap, append_assoc}
use Rattle.rule_read.specs.Tokens.{Token}
use Rattle.rule_read.specs.Sentences.{Sentence, lead}
use Rattle.rule_read.specs.Lexed.{line_then, Shorter}
use Rattle.rule_read.specs.declared.token.Lexeme.{Lexeme}
use Rattle.rule_read.specs.declared.token.Lexeme.TheVariants as lexeme

pub one_more_token : (old new : ℕ) (ts : List Token) (t : Token) (ss : List Sentence)
    → lead old ts (lead new (t ∷ []) ss) ≡ lead (line_then ts old new) (ts ++ t ∷ []) ss
one_more_token old new [] t ss = refl
one_more_token old new (u ∷ ts) t [] = refl
one_more_token old new (u ∷ ts) t (s ∷ ss) =
    ap (λ (x : List Token). record { line = old; tokens = u ∷ x; whole = s.whole } ∷ ss)
    (sym (append_assoc ts (t ∷ []) s.tokens))

pub shorter_still : (x : Lexeme) (a b c : ℕ) → Shorter x b c → b ≤ a → Shorter x a c
shorter_still lexeme.End a b c h le = tt
shorter_still (lexeme.Token t) a b c h le = omega arith
shorter_still lexeme.Dot a b c h le = omega arith
shorter_still lexeme.Bad a b c h le = omega arith
