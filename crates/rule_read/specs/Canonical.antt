-- Public contracts speak by this: the canonical text, one statement a line, and which two
-- neighbouring tokens have a space between them.
use Rattle.std.specs.Prelude.{ℕ, Bool, true, false, ◌||◌, ◌&&◌, List, [], ◌∷◌, ◌++◌, flat_map, ◌+◌}
use Rattle.std.specs.Prelude.{if◌then◌else◌}
use Rattle.rule_read.specs.declared.token.Mark.{Mark}
use Rattle.rule_read.specs.declared.token.Mark.TheVariants.{Open, Close, OpenList, CloseList, Comma}
use Rattle.rule_read.specs.declared.token.Mark.TheVariants.{Equals, If, Differs, Stray}
use Rattle.rule_read.specs.Tokens.{Token, Word, Sign}
use Rattle.rule_forms.specs.Forms.{PlainForm, PlainStatement}
use Rattle.rule_read.specs.FormTokens.{form_tokens}

-- (a stray mark stands in no form)
abbrev pub mark_bytes : Mark → List ℕ
mark_bytes Open = 40 ∷ []
mark_bytes Close = 41 ∷ []
mark_bytes OpenList = 91 ∷ []
mark_bytes CloseList = 93 ∷ []
mark_bytes Comma = 44 ∷ []
mark_bytes Equals = 61 ∷ []
mark_bytes If = 58 ∷ 45 ∷ []
mark_bytes Differs = 92 ∷ 61 ∷ []
mark_bytes Stray = 45 ∷ []

abbrev pub token_bytes : Token → List ℕ
token_bytes (Word w) = w
token_bytes (Sign m) = mark_bytes m

-- one space on each side
abbrev pub is_spaced : Mark → Bool
is_spaced If = true
is_spaced Differs = true
is_spaced _ = false

abbrev pub is_comma : Mark → Bool
is_comma Comma = true
is_comma _ = false

abbrev pub opens_list : Mark → Bool
opens_list OpenList = true
opens_list _ = false

abbrev pub is_close : Mark → Bool
is_close Close = true
is_close _ = false

-- A space stands between two words, behind a comma, on each side of :- and \=, and before a [ that
-- follows a word or a ).
abbrev pub space_between : Token → Token → Bool
space_between (Word v) (Word w) = true
space_between (Word v) (Sign n) = is_spaced n || opens_list n
space_between (Sign m) (Word w) = is_spaced m || is_comma m
space_between (Sign m) (Sign n) = is_spaced m || is_comma m || is_spaced n || is_close m
    && opens_list n

-- the bytes of the tokens, a dot and the end of the line
unfoldable pub line_of : List Token → List ℕ
line_of [] = 46 ∷ 10 ∷ []
line_of (t ∷ []) = token_bytes t ++ (46 ∷ 10 ∷ [])
line_of (t ∷ u ∷ ts) = token_bytes t ++ (if space_between t u then 32 ∷ line_of (u ∷ ts)
    else line_of (u ∷ ts))

-- the canonical text of forms
abbrev pub text_of : List PlainForm → List ℕ
text_of forms = flat_map (λ f. line_of (form_tokens f)) forms

-- the forms, each on a line of its own from this one on
abbrev pub on_lines : ℕ → List PlainForm → List PlainStatement
on_lines line [] = []
on_lines line (f ∷ fs) = record { line = line; form = f } ∷ on_lines (line + 1) fs
