-- What is known of statements of which none is refused.
use Rattle.std.proofs.Common.{◌≡◌, ℕ, nat_lt, nat_le, Bool, true, false, true≢false, not, ◌||◌}
use Rattle.std.proofs.Common.{◌&&◌, List, [], ◌∷◌, ◌++◌, length, Option, Some, None, refl}
use Rattle.std.specs.List.{count_by}
use Rattle.ground_types.specs.Sound.{is_distinct}
use Rattle.rule_forms.specs.Forms.{PlainForm, PlainStatement}
use Rattle.decl_known.specs.declared.checked.DeclRefused.{DeclRefused}
use Rattle.decl_known.specs.Faults.{Fault, first_fault, first_refusal, refused_at}
use Rattle.domain_decl.specs.Declarations.{is_domain, declares, arguments_in, members_in}
use Rattle.domain_decl.specs.Declarations.{most_members, is_declared_before}
use Rattle.domain_decl.specs.Declarations.{has_undeclared_argument, declaration_fault}
use Rattle.domain_decl.specs.Declarations.{declares_too_many, declares_twice}

-- no statement has a fault, each seen with those before it
abbrev pub AllPass : (List PlainStatement → PlainForm → Option Fault) → List PlainStatement
    → List PlainStatement → Type 0
AllPass fault before [] = Unit {0}
AllPass fault before (s ∷ ss) = (fault before s.form ≡ None) × AllPass fault (before ++ s ∷ []) ss

first_passes : (fault : Option Fault) (line : ℕ) (others : Option DeclRefused)
    → refused_at fault line others ≡ None → (fault ≡ None) × (others ≡ None)
first_passes None line others h = (refl, h)
first_passes (Some f) line others h = absurd (cc)

pub all_pass : (fault : List PlainStatement → PlainForm → Option Fault)
    (before ss : List PlainStatement) → first_refusal fault before ss ≡ None
    → AllPass fault before ss
all_pass fault before [] h = tt
all_pass fault before (s ∷ ss) h =
    let one = first_passes (fault before s.form) s.line (first_refusal fault (before ++ s ∷ []) ss)
    h in
    (one.0, all_pass fault (before ++ s ∷ []) ss one.1)

-- what holds of a declaration without a fault
pub record Passed (before : List PlainStatement) (form : PlainForm) : Type 0 where
  pub room : (is_domain form && nat_le 64 (count_by (λ s. is_domain s.form) before)) ≡ false
  pub members : nat_lt (most_members form) (length (members_in form)) ≡ false
  pub arguments : nat_lt 3 (length (arguments_in form)) ≡ false
  pub fresh : is_declared_before before (declares form) ≡ false
  pub distinct : is_distinct (members_in form) ≡ true

three_false : (a b c : Bool) (f g h : Fault) → first_fault ((a, f) ∷ (b, g) ∷ (c, h) ∷ []) ≡ None
    → (a ≡ false) × (b ≡ false) × (c ≡ false)
three_false true b c f g h e = absurd (cc)
three_false false true c f g h e = absurd (cc)
three_false false false true f g h e = absurd (cc)
three_false false false false f g h e = (refl, refl, refl)

each_false : (a b c : Bool) → (a || b || c) ≡ false → (a ≡ false) × (b ≡ false) × (c ≡ false)
each_false true b c h = absurd (true≢false h)
each_false false true c h = absurd (true≢false h)
each_false false false true h = absurd (true≢false h)
each_false false false false h = (refl, refl, refl)

parts_false : (a b : Bool) → (a || not b) ≡ false → (a ≡ false) × (b ≡ true)
parts_false true b h = absurd (true≢false h)
parts_false false true h = (refl, refl)
parts_false false false h = absurd (true≢false h)

pub passed : (all before : List PlainStatement) (form : PlainForm)
    → declaration_fault all before form ≡ None → Passed before form
passed all before form h =
    let tests = three_false (declares_too_many before form) (has_undeclared_argument all form)
    (declares_twice before form) _ _ _ h in
    let sizes = each_false (is_domain form && nat_le 64 (count_by (λ s. is_domain s.form) before))
    (nat_lt (most_members form) (length (members_in form)))
    (nat_lt 3 (length (arguments_in form))) tests.0 in
    let words = parts_false (is_declared_before before (declares form))
    (is_distinct (members_in form)) tests.2 in
    record {
      room = sizes.0;
      members = sizes.1;
      arguments = sizes.2;
      fresh = words.0;
      distinct =
          words.1;
    }
