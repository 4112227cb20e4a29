-- No contract speaks by this: small texts, computed. Each equation holds by computation alone.
use Rattle.std.specs.Prelude.{◌≡◌, ℕ, true, false, List, [], ◌∷◌, ◌++◌, map, codes, refl}
use Rattle.std.specs.Fmt.{digits}
use Rattle.rt_base.specs.Kinds.{reserved}
use Rattle.rule_read.specs.declared.token.Mark.TheVariants.{Stray}
use Rattle.rule_forms.specs.declared.form.Term.TheVariants as term
use Rattle.rule_forms.specs.declared.form.Atom.{Atom}
use Rattle.rule_forms.specs.declared.form.Fv.{Fv}
use Rattle.rule_forms.specs.declared.form.EventText.TheVariants as event
use Rattle.rule_forms.specs.declared.form.Body.TheVariants as body
use Rattle.rule_read.specs.Bytes.{class_of}
use Rattle.rule_read.specs.Tokens.{Token, Word, Sign, Said, Dot, Bad, put, cut, pieces}
use Rattle.rule_read.specs.Sentences.{sentences, first_bad, sentences_of}
use Rattle.rule_read.specs.Words.{spelled, keywords, keyword_of}
use Rattle.rule_forms.specs.Forms.{PlainForm, Window, Domain, Input, Simple, Initiated, HoldsFor}
use Rattle.rule_forms.specs.Forms.{Value_of, Union_of, none, more}
use Rattle.rule_read.specs.Canonical.{line_of, text_of, on_lines}
use Rattle.rule_read.specs.Reading.{bind, mapped, enclosed_at, row_at, any_row_at, args_at, decl_at}
use Rattle.rule_read.specs.Reading.{term_at, atom_at, fv_at, event_at, condition_at, unequal_at}
use Rattle.rule_read.specs.Reading.{body_at, construct_at, expression_at, number_at, valued_at}
use Rattle.rule_read.specs.Reading.{domain_at, conditions_at, rule_at, static_at, form_at, form_of}
use Rattle.rule_read.specs.Whole.{BadByte, BadStatement, Statements, forms_of, reading}

-- the reserved words of both crates are the same
same_reserved : map spelled keywords ≡ reserved
same_reserved = refl

-- ---- pieces and statements

abbrev word : List ℕ → Token
word letters = Word letters

-- a comment may hold any byte, a colon without a dash is a stray mark, and a question mark may not
-- stand there
abbrev three_lines : List ℕ
three_lines = codes "input up % ?" ++ (10 ∷ codes ": ?" ++ (10 ∷ codes "down.on"))

its_pieces : pieces 1 three_lines
    ≡ put 1 (Said (word (codes "input"))) (put 1 (Said (word (codes "up")))
    (put 2 (Said (Sign Stray)) (put 2 Bad
    (put 3 (Said (word (codes "down"))) (put 3 Dot (put 3 (Said (word (codes "on"))) []))))))
unfolding cut class_of
its_pieces = refl

its_statements : sentences_of three_lines
    ≡ record {
      line = 1;
      tokens = word (codes "input") ∷ word (codes "up") ∷ Sign Stray
          ∷ word (codes "down") ∷ [];
      whole = true;
    }
    ∷ record { line = 3; tokens = word (codes "on") ∷ []; whole = false } ∷ []
unfolding cut class_of sentences
its_statements = refl

-- ---- readings

abbrev input_of : List ℕ → PlainForm
input_of name = Input (record { name = name; args = [] })

two_read : reading (codes "% a description" ++ (10 ∷ codes "window(0010). input"
    ++ (10 ∷ codes "up.")))
    ≡ Statements (record { line = 2; form = Window 10 } ∷ record {
      line = 2;
      form = input_of (codes "up");
    } ∷ [])
unfolding cut class_of sentences first_bad keyword_of bind mapped enclosed_at args_at decl_at
    number_at form_at form_of forms_of
two_read = refl

-- the second statement begins on line 2 and has no form
one_unformed : reading (codes "input up." ++ (10 ∷ codes "input" ++ (10 ∷ codes "end.")))
    ≡ BadStatement 2
unfolding cut class_of sentences first_bad keyword_of bind mapped enclosed_at args_at decl_at
    number_at form_at form_of forms_of
one_unformed = refl

-- a byte that may not stand there is refused first
one_bad : reading (codes "input." ++ (10 ∷ codes "input up?")) ≡ BadByte 2
unfolding cut class_of sentences first_bad keyword_of bind mapped enclosed_at args_at decl_at
    number_at form_at form_of forms_of
one_bad = refl

-- ---- forms and their text

abbrev atom_of : List ℕ → Atom
atom_of name = record { name = name; args = [] }

abbrev on_x : Fv
on_x = record {
  atom = record { name = codes "on"; args = term.Variable (codes "X") ∷ [] };
  value = codes "true";
}

-- some forms of a small description
abbrev some_forms : List PlainForm
some_forms =
    Window 10
    ∷ Domain (codes "v") (codes "x" ∷ codes "2y" ∷ [])
    ∷ Simple (record { name = codes "on"; args = codes "v" ∷ [] }) (codes "true" ∷ [])
    ∷ Initiated on_x
    (body.Happens true (event.Start on_x) ∷ body.Holds false on_x ∷ body.Unequal (codes "X")
    (codes "Y") ∷ [])
    ∷ HoldsFor (record { atom = atom_of (codes "idle"); value = codes "true" })
    (Union_of (more (Value_of on_x) (more (Value_of on_x) none)))
    ∷ []

its_text : text_of some_forms
    ≡ codes "window(10)." ++ (10 ∷ codes "domain v [x, 2y]." ++ (10 ∷ codes "simple on(v) [true]."
    ++ (10 ∷ codes
    "initiatedAt(on(X)=true) :- happensAt(start(on(X)=true)), not holdsAt(on(X)=true), X \\= Y."
    ++ (10 ∷ codes "holdsFor(idle=true) :- union_all([on(X)=true, on(X)=true])." ++ (10 ∷ [])))))
unfolding line_of digits
its_text = refl

its_reading : reading (text_of some_forms) ≡ Statements (on_lines 1 some_forms)
unfolding line_of digits cut class_of sentences first_bad keyword_of bind mapped enclosed_at row_at
    any_row_at args_at decl_at term_at atom_at fv_at event_at condition_at unequal_at body_at
    construct_at expression_at number_at valued_at domain_at conditions_at rule_at static_at
    form_at form_of forms_of
its_reading = refl
