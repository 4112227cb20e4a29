-- Public contracts speak by this: reading tokens from left to right, the value at the front and
-- the tokens behind it.
use Rattle.std.specs.Prelude.{◌≡◌, ℕ, zero, suc, Bool, true, false, ◌==◌, List, [], ◌∷◌, ◌++◌}
use Rattle.std.specs.Prelude.{length, Option, Some, None, Result, Ok, Err, if◌then◌else◌}
use Rattle.rule_read.specs.declared.token.Mark.{Mark}
use Rattle.rule_read.specs.declared.token.Mark.TheVariants.{Open, Close, OpenList, CloseList, Comma}
use Rattle.rule_read.specs.declared.token.Mark.TheVariants.{Equals, If, Differs, Stray}
use Rattle.rule_read.specs.declared.keyword.Keyword.{Keyword}
use Rattle.rule_read.specs.declared.keyword.Keyword.TheVariants as key
use Rattle.rule_read.specs.declared.keyword.Kind.{Kind}
use Rattle.rule_read.specs.declared.keyword.Kind.TheVariants as kind
use Rattle.rule_forms.specs.declared.form.Decl.{Decl}
use Rattle.rule_forms.specs.declared.form.Term.{Term}
use Rattle.rule_forms.specs.declared.form.Term.TheVariants as term
use Rattle.rule_forms.specs.declared.form.Atom.{Atom}
use Rattle.rule_forms.specs.declared.form.Fv.{Fv}
use Rattle.rule_forms.specs.declared.form.EventText.{EventText}
use Rattle.rule_forms.specs.declared.form.EventText.TheVariants as event
use Rattle.rule_forms.specs.declared.form.Body.{Body}
use Rattle.rule_forms.specs.declared.form.Body.TheVariants as body
use Rattle.rule_read.specs.declared.stop.Stop.{Stop}
use Rattle.rule_read.specs.declared.stop.Stop.TheVariants.{NoForm, OutOfMemory}
use Rattle.rt_base.specs.Kinds.{is_constant}
use Rattle.rule_read.specs.Tokens.{Token, Word, Sign}
use Rattle.rule_read.specs.Words.{keyword_of, is_of, is_number, number_of}
use Rattle.rule_forms.specs.Sound.{is_variable}
use Rattle.rule_forms.specs.Forms.{expressions, Expression, Expressions, none, more, Value_of}
use Rattle.rule_forms.specs.Forms.{Union_of, Intersect_of, Complement_of, PlainForm, Window, Step}
use Rattle.rule_forms.specs.Forms.{From, Queries, Domain, Input, Simple, Static, Derived, Initially}
use Rattle.rule_forms.specs.Forms.{Initiated, Terminated, Happens, HoldsFor}

-- what reads a value at the front of some tokens
abbrev pub Part : Type 0 → Type 0
Part A = List Token → Option (A × List Token)

-- what a step gives, read on
unfoldable pub bind : {A B : Type 0} → Option A → (A → Option B) → Option B
bind (Some x) f = f x
bind None f = None

-- a part, seen as another
unfoldable pub mapped : {A B : Type 0} → (A → B) → Part A → Part B
mapped f at ts = bind (at ts) (λ x. Some (f x.0, x.1))

-- why a reader stopped: nothing stands there to be read, or memory ran out
abbrev pub Stops : {Y : Type 0} → Stop → Option Y → Type 0
Stops OutOfMemory read = Unit {0}
Stops NoForm read = read ≡ None

-- What a reader returned, seen by view, and the tokens that it left, are what reading gives, unless
-- memory ran out.
abbrev pub Reads : {X Y : Type 0} → (X → Y) → Result X Stop → List Token → Option (Y × List Token)
    → Type 0
Reads view (Ok x) after read = read ≡ Some (view x, after)
Reads view (Err e) after read = Stops e read

-- the same of what leaves nothing
abbrev pub Gives : {X Y : Type 0} → (X → Y) → Result X Stop → Option Y → Type 0
Gives view (Ok x) read = read ≡ Some (view x)
Gives view (Err e) read = Stops e read

-- the same of what has no value
abbrev pub Passes : {X : Type 0} → Result X Stop → List Token → Option (List Token) → Type 0
Passes (Ok x) after read = read ≡ Some after
Passes (Err e) after read = Stops e read

-- ---- marks and words

abbrev pub number_of_mark : Mark → ℕ
number_of_mark Open = 0
number_of_mark Close = 1
number_of_mark OpenList = 2
number_of_mark CloseList = 3
number_of_mark Comma = 4
number_of_mark Equals = 5
number_of_mark If = 6
number_of_mark Differs = 7
number_of_mark Stray = 8

abbrev pub same_mark : Mark → Mark → Bool
same_mark m n = number_of_mark m == number_of_mark n

-- the mark is in front
abbrev pub has : Mark → List Token → Bool
has m [] = false
has m (Word w ∷ ts) = false
has m (Sign n ∷ ts) = same_mark m n

abbrev pub tail : List Token → List Token
tail [] = []
tail (t ∷ ts) = ts

abbrev pub behind : Mark → List Token → Option (List Token)
behind m ts = if has m ts then Some (tail ts) else None

abbrev pub word_by : (List ℕ → Bool) → Part (List ℕ)
word_by test [] = None
word_by test (Sign m ∷ ts) = None
word_by test (Word w ∷ ts) = if test w then Some (w, ts) else None

-- a word of this kind
abbrev pub word_at : Kind → Part (List ℕ)
word_at kind ts = word_by (is_of kind) ts

-- the reserved word in front
abbrev pub key_at : List Token → Option Keyword
key_at [] = None
key_at (Sign m ∷ ts) = None
key_at (Word w ∷ ts) = keyword_of w

-- ---- lists: at most as many members as the number

abbrev pub list_at : {A : Type 0} → Part A → ℕ → Part (List A)
list_at at zero ts = None
list_at at (suc n) ts =
    bind (at ts) (λ x. if has Comma x.1 then (bind (list_at at n (tail x.1))
    (λ xs. Some (x.0 ∷ xs.0, xs.1))) else Some (x.0 ∷ [], x.1))

abbrev pub with_front : {A : Type 0} → List A → Option (List A × List Token)
    → Option (List A × List Token)
with_front front read = bind (read) (λ x. Some (front ++ x.0, x.1))

-- one member or more
abbrev pub members_at : {A : Type 0} → Part A → Part (List A)
members_at at ts = list_at at (length ts) ts

-- in parentheses
unfoldable pub enclosed_at : {A : Type 0} → Part A → Part A
enclosed_at at ts = bind (behind Open ts) (λ rest. bind (at rest) (λ x. bind (behind Close x.1)
    (λ rest. Some (x.0, rest))))

-- members in brackets
unfoldable pub row_at : {A : Type 0} → Part A → Part (List A)
row_at at ts = bind (behind OpenList ts) (λ rest. bind (members_at at rest)
    (λ xs. bind (behind CloseList xs.1) (λ rest. Some (xs.0, rest))))

-- members in brackets, or nothing in them
unfoldable pub any_row_at : {A : Type 0} → Part A → Part (List A)
any_row_at at ts =
    bind (behind OpenList ts) (λ rest. if has CloseList rest then Some ([], tail rest)
    else (bind (members_at at rest) (λ xs. bind (behind CloseList xs.1)
    (λ rest. Some (xs.0, rest)))))

-- arguments in parentheses, or none
unfoldable pub args_at : {A : Type 0} → Part A → Part (List A)
args_at at ts = if has Open ts then enclosed_at (members_at at) ts else Some ([], ts)

-- ---- parts

unfoldable pub decl_at : Part Decl
decl_at ts =
    bind (word_at kind.Name ts) (λ name. bind (args_at (word_at kind.Name) name.1)
    (λ args. Some (record { name = name.0; args = args.0 }, args.1)))

unfoldable pub term_at : Part Term
term_at [] = None
term_at (Sign m ∷ ts) = None
term_at (Word w ∷ ts) = if is_constant w then Some (term.Entity w, ts) else if is_variable w
    then Some (term.Variable w, ts) else None

unfoldable pub atom_at : Part Atom
atom_at ts = bind (word_at kind.Name ts) (λ name. bind (args_at term_at name.1)
    (λ args. Some (record { name = name.0; args = args.0 }, args.1)))

unfoldable pub fv_at : Part Fv
fv_at ts =
    bind (atom_at ts) (λ atom. bind (behind Equals atom.1) (λ rest.
    bind (word_at kind.Constant rest) (λ value. Some (
      record { atom = atom.0; value = value.0 },
      value.1,
    ))))

abbrev pub event_by : Option Keyword → Part EventText
event_by (Some key.Start) ts = mapped event.Start (enclosed_at fv_at) (tail ts)
event_by (Some key.End) ts = mapped event.End (enclosed_at fv_at) (tail ts)
event_by _ ts = mapped event.Plain atom_at ts

unfoldable pub event_at : Part EventText
event_at ts = event_by (key_at ts) ts

abbrev pub condition_by : Option Keyword → Bool → Part Body
condition_by (Some key.HappensAt) positive ts = mapped (body.Happens positive)
    (enclosed_at event_at) (tail ts)
condition_by (Some key.HoldsAt) positive ts = mapped (body.Holds positive) (enclosed_at fv_at)
    (tail ts)
condition_by _ positive ts = None

unfoldable pub condition_at : Bool → Part Body
condition_at positive ts = condition_by (key_at ts) positive ts

unfoldable pub unequal_at : Part Body
unequal_at ts =
    bind (word_at kind.Variable ts) (λ x. bind (behind Differs x.1) (λ rest.
    bind (word_at kind.Variable rest) (λ y. Some (body.Unequal x.0 y.0, y.1))))

abbrev pub body_by : Option Keyword → Part Body
body_by (Some key.Not) ts = condition_at false (tail ts)
body_by (Some k) ts = condition_at true ts
body_by None ts = unequal_at ts

unfoldable pub body_at : Part Body
body_at ts = body_by (key_at ts) ts

-- ---- expressions

abbrev pub value_at : Part Expression
value_at ts = mapped Value_of fv_at ts

-- an expression, a comma, and expressions in brackets
unfoldable pub pair_at : Part Expression → Part (Expression × List Expression)
pair_at member ts = bind (member ts) (λ e. bind (behind Comma e.1)
    (λ rest. bind (row_at member rest) (λ es. Some ((e.0, es.0), es.1))))

-- a construct over these members, or an FV
abbrev pub construct_by : Option Keyword → Part Expression → Part Expression
construct_by (Some key.UnionAll) member ts = mapped (λ es. Union_of (expressions es))
    (enclosed_at (row_at member)) (tail ts)
construct_by (Some key.IntersectAll) member ts = mapped (λ es. Intersect_of (expressions es))
    (enclosed_at (row_at member)) (tail ts)
construct_by (Some key.RelativeComplementAll) member ts =
    mapped (λ x. Complement_of x.0 (expressions x.1)) (enclosed_at (pair_at member)) (tail ts)
construct_by _ member ts = value_at ts

unfoldable pub construct_at : Part Expression → Part Expression
construct_at member ts = construct_by (key_at ts) member ts

-- with at most so many constructs inside one another
unfoldable pub expression_at : ℕ → Part Expression
expression_at zero ts = value_at ts
expression_at (suc depth) ts = construct_at (expression_at depth) ts

-- ---- statements

unfoldable pub number_at : Part ℕ
number_at ts = mapped number_of (word_by is_number) ts

-- a number in parentheses
abbrev pub numbered_at : Part ℕ
numbered_at ts = enclosed_at number_at ts

-- a declaration and its values
unfoldable pub valued_at : Part (Decl × List (List ℕ))
valued_at ts = bind (decl_at ts) (λ decl. bind (row_at (word_at kind.Constant) decl.1) (λ values.
    Some ((decl.0, values.0), values.1)))

-- the name of a domain and its entities
unfoldable pub domain_at : Part (List ℕ × List (List ℕ))
domain_at ts =
    bind (word_at kind.Name ts) (λ name. bind (any_row_at (word_at kind.Constant) name.1)
    (λ entities. Some ((name.0, entities.0), entities.1)))

unfoldable pub conditions_at : Part (List Body)
conditions_at ts = bind (behind If ts) (λ rest. members_at body_at rest)

-- a head in parentheses, and conditions
unfoldable pub rule_at : {A : Type 0} → Part A → Part (A × List Body)
rule_at head ts = bind (enclosed_at head ts) (λ head. bind (conditions_at head.1) (λ bodies.
    Some ((head.0, bodies.0), bodies.1)))

-- a head in parentheses, and an expression
unfoldable pub static_at : Part (Fv × Expression)
static_at ts = bind (enclosed_at fv_at ts) (λ fv. bind (behind If fv.1)
    (λ rest. bind (expression_at 8 rest) (λ e. Some ((fv.0, e.0), e.1))))

abbrev pub form_by : Option Keyword → Part PlainForm
form_by (Some key.Window) ts = mapped Window numbered_at ts
form_by (Some key.Step) ts = mapped Step numbered_at ts
form_by (Some key.From) ts = mapped From numbered_at ts
form_by (Some key.Queries) ts = mapped Queries numbered_at ts
form_by (Some key.Domain) ts = mapped (λ x. Domain x.0 x.1) domain_at ts
form_by (Some key.Input) ts = mapped Input decl_at ts
form_by (Some key.Simple) ts = mapped (λ x. Simple x.0 x.1) valued_at ts
form_by (Some key.Static) ts = mapped (λ x. Static x.0 x.1) valued_at ts
form_by (Some key.Derived) ts = mapped Derived decl_at ts
form_by (Some key.Initially) ts = mapped Initially (enclosed_at fv_at) ts
form_by (Some key.InitiatedAt) ts = mapped (λ x. Initiated x.0 x.1) (rule_at fv_at) ts
form_by (Some key.TerminatedAt) ts = mapped (λ x. Terminated x.0 x.1) (rule_at fv_at) ts
form_by (Some key.HappensAt) ts = mapped (λ x. Happens x.0 x.1) (rule_at atom_at) ts
form_by (Some key.HoldsFor) ts = mapped (λ x. HoldsFor x.0 x.1) static_at ts
form_by _ ts = None

unfoldable pub form_at : Part PlainForm
form_at ts = form_by (key_at ts) (tail ts)

-- all of the tokens
unfoldable pub form_of : List Token → Option PlainForm
form_of ts = bind (form_at ts) (λ x. if length x.1 == 0 then Some x.0 else None)
