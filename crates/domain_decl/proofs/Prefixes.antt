-- The statements up to the next one, and from it on.
use Rattle.std.proofs.Common.{◌≡◌, ℕ, suc, ◌+◌, ◌<◌, Bool, cond, List, [], ◌∷◌, ◌++◌, append-nil}
use Rattle.std.proofs.Common.{length, map, take, drop, drop-cons, get_or, filter, filter_map}
use Rattle.std.proofs.Common.{Option, Some, None, Err, refl, sym, ap, ap₂, ◌∙◌, add-one}
use Rattle.std.specs.List.{cons_option}
use Rattle.std.proofs.lemmas.List.{take_more, map-append}
use Rattle.std.proofs.lemmas.List.Elements.{filter-append, filter_map-append}
use Rattle.rule_forms.specs.declared.syntax.Statement.{Statement}
use Rattle.rule_forms.specs.Forms.{PlainStatement, PlainForm, plain, plain_form}
use Rattle.decl_known.specs.declared.checked.DeclRefused.{DeclRefused}
use Rattle.decl_known.specs.declared.checked.DeclRefused.TheVariants as refused
use Rattle.decl_known.specs.Faults.{Fault, first_refusal, refused_at}
use Rattle.domain_decl.specs.Testing.{Tests}

module _ (statements : List Statement) (i : ℕ) (s : Statement) (within : i < length statements)
    (at : s ≡ get_or statements i s) where
  pub plain_next : map plain (take (i + 1) statements) ≡ map plain (take i statements) ++ plain s
      ∷ []
  plain_next =
      ap (map plain) (take_more statements i s within ∙ ap (λ x. take i statements ++ x ∷ [])
      (sym at))
      ∙ map-append plain (take i statements) (s ∷ [])

  pub plain_rest : map plain (drop i statements) ≡ plain s ∷ map plain (drop (i + 1) statements)
  plain_rest =
      let rest : drop i statements ≡ s ∷ drop (i + 1) statements =
      rw add-one (drop-cons statements i s within ∙ ap (λ x. x ∷ drop (suc i) statements)
      (sym at)) in
      ap (map plain) rest

  -- what a function gives of the statements up to the next
  pub filter_map-next : {Y : Type 0} (h : PlainStatement → Option Y)
      → filter_map h (map plain (take (i + 1) statements))
      ≡ filter_map h (map plain (take i statements)) ++ cons_option (h (plain s)) []
  filter_map-next h = ap (filter_map h) plain_next
      ∙ filter_map-append h (map plain (take i statements)) (plain s ∷ [])

  pub filter-next : (p : PlainStatement → Bool)
      → filter p (map plain (take (i + 1) statements)) ≡ filter p (map plain (take i statements))
      ++ cond (p (plain s)) (plain s ∷ []) []
  filter-next p = ap (filter p) plain_next ∙ filter-append p (map plain (take i statements))
      (plain s ∷ [])

-- ---- the first refusal, statement by statement

module _ (statements : List Statement) (i : ℕ) (s : Statement) (within : i < length statements)
    (at : s ≡ get_or statements i s)
    (fault : List PlainStatement → PlainForm → Option Fault) where
  -- that of the next statement, or that of the others
  pub refusal_next : first_refusal fault (map plain (take i statements))
      (map plain (drop i statements))
      ≡ refused_at (fault (map plain (take i statements)) (plain_form s.form)) s.line
      (first_refusal fault (map plain (take (i + 1) statements))
      (map plain (drop (i + 1) statements)))
  refusal_next =
      ap (first_refusal fault (map plain (take i statements))) (plain_rest statements i s within at)
      ∙ ap (λ before. refused_at (fault (map plain (take i statements)) (plain_form s.form)) s.line
      (first_refusal fault before (map plain (drop (i + 1) statements))))
      (sym (plain_next statements i s within at))

-- a statement that passed has no fault
pub without_fault : (fault : Option Fault) (line : ℕ) → refused_at fault line None ≡ None
    → fault ≡ None
without_fault None line h = refl
without_fault (Some f) line h = absurd (cc)

-- the refusal of a statement is that of the whole, whatever follows
pub refused_first : (fault : Option Fault) (line : ℕ) (others : Option DeclRefused)
    (e : DeclRefused) → Tests (Err e) (refused_at fault line None)
    → Tests (Err e) (refused_at fault line others)
refused_first (Some f) line others e h = h
refused_first None line others refused.OutOfMemory h = tt
refused_first None line others refused.BadPlan h = absurd (cc)
refused_first None line others (refused.TooMany l) h = absurd (cc)
refused_first None line others (refused.Undeclared l) h = absurd (cc)
refused_first None line others (refused.Twice l) h = absurd (cc)
refused_first None line others (refused.NoTrigger l) h = absurd (cc)
refused_first None line others (refused.WrongKind l) h = absurd (cc)
refused_first None line others (refused.Arity l) h = absurd (cc)
refused_first None line others (refused.Clash l) h = absurd (cc)
refused_first None line others (refused.Loose l) h = absurd (cc)
