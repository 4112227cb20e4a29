-- For private functions alone: what the parts of the printer put.
use Rattle.std.specs.Prelude.{ℕ, zero, suc, List, [], ◌∷◌, if◌then◌else◌}
use Rattle.rule_forms.specs.declared.form.Tree.{Tree}
use Rattle.rule_read.specs.declared.token.Mark.TheVariants.{Comma}
use Rattle.rule_read.specs.Tokens.{Token, Sign}
use Rattle.rule_forms.specs.Forms.{plain_tree}
use Rattle.rule_read.specs.FormTokens.{expression_tokens}
use Rattle.rule_read.specs.Canonical.{space_between}

abbrev pub tree_tokens : Tree → List Token
tree_tokens tree = expression_tokens (plain_tree tree)

-- the space between a token and the tokens behind it
abbrev pub space_behind : Token → List Token → List ℕ
space_behind t [] = []
space_behind t (u ∷ us) = if space_between t u then 32 ∷ [] else []

-- the comma before the member of this number
abbrev pub comma_at : ℕ → List Token
comma_at zero = []
comma_at (suc n) = Sign Comma ∷ []
