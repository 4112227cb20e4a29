-- Public contracts speak by this: the first of many rules that is broken, and the first statement
-- that breaks one.
use Rattle.std.specs.Prelude.{ℕ, Bool, List, [], ◌∷◌, ◌++◌, Option, Some, None, if◌then◌else◌}
use Rattle.rule_forms.specs.Forms.{PlainForm, PlainStatement}
use Rattle.decl_known.specs.declared.checked.DeclRefused.{DeclRefused}

-- a refusal that does not yet say its line
abbrev pub Fault : Type 0
Fault = ℕ → DeclRefused

-- the first fault of a list of tests
abbrev pub first_fault : List (Bool × Fault) → Option Fault
first_fault [] = None
first_fault (test ∷ tests) = if test.0 then Some test.1 else first_fault tests

-- the fault of a statement on a line, or what others have
abbrev pub refused_at : Option Fault → ℕ → Option DeclRefused → Option DeclRefused
refused_at (Some fault) line others = Some (fault line)
refused_at None line others = others

-- The first statement with a fault, each seen with those before it, and the refusal with its line.
abbrev pub first_refusal : (List PlainStatement → PlainForm → Option Fault) → List PlainStatement
    → List PlainStatement → Option DeclRefused
first_refusal fault before [] = None
first_refusal fault before (s ∷ ss) = refused_at (fault before s.form) s.line
    (first_refusal fault (before ++ (s ∷ [])) ss)
