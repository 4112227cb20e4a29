-- Declarations, one after the other.
use Rattle.std.proofs.Common.{◌≡◌, ℕ, ◌+◌, ◌<◌, Bool, true, false, true≢false, not, cond, ◌||◌}
use Rattle.std.proofs.Common.{List, [], ◌∷◌, ◌++◌, length, map, take, drop, get_or, filter_map}
use Rattle.std.proofs.Common.{Option, Some, None, Err, option_map, refl, sym, ap, ap₂, subst, ◌∙◌}
use Rattle.std.proofs.Common.{if◌then◌else◌, arith}
use Rattle.std.specs.List.{list_any, cons_option, count_by}
use Rattle.std.specs.Str.{bytes_eq}
use Rattle.std.proofs.lemmas.List.{map-append}
use Rattle.std.proofs.lemmas.List.Folds.{list_any-append}
use Rattle.std.proofs.lemmas.List.Sums.{sum_by-append}
use Rattle.std.proofs.lemmas.Slice.Eq.{bytes_eq-Decides}
use Rattle.ground_types.specs.Sound.{is_distinct}
use Rattle.ground_types.specs.declared.program.Domain.{Domain}
use Rattle.rule_forms.specs.declared.syntax.Statement.{Statement}
use Rattle.rule_forms.specs.Forms.{PlainForm, PlainStatement, plain, plain_form}
use Rattle.decl_known.specs.declared.checked.DeclRefused.{DeclRefused}
use Rattle.decl_known.specs.declared.checked.DeclRefused.TheVariants as refused
use Rattle.ground_types.specs.Words.{has, domain_words}
use Rattle.decl_known.specs.Faults.{first_fault, first_refusal, refused_at}
use Rattle.domain_decl.specs.Testing.{Tests}
use Rattle.word_table.proofs.WordLists.{has_put}
use Rattle.domain_decl.proofs.Prefixes.{plain_next, refusal_next, without_fault, refused_first}
use Rattle.domain_decl.specs.Contents.{domains_of}
use Rattle.domain_decl.specs.Declarations.{is_domain, declares, arguments_in, members_in}
use Rattle.domain_decl.specs.Declarations.{is_declared_before, declaration_fault}
use Rattle.domain_decl.specs.Declarations.{declaration_refusal}
use Rattle.domain_decl.specs.Passes.{is_among, fault_behind, too_many_behind}

-- ---- the set of the words of domains

-- the domain that a statement declares, if one
pub has_domain : (o : Option Domain) (word other : List ℕ) → Some word ≡ option_map (λ d. d.word) o
    → has (domain_words (cons_option o [])) other ≡ (bytes_eq word other || false)
has_domain None word other e = absurd (cc)
has_domain (Some d) word other e = let same : d.word ≡ word = cc in
    ap (λ w. bytes_eq w other || false) same

pub has_no_domain : (o : Option Domain) (other : List ℕ) → option_map (λ d. d.word) o ≡ None
    → has (domain_words (cons_option o [])) other ≡ false
has_no_domain None other e = refl
has_no_domain (Some d) other e = absurd (cc)

pub or_nothing : (a b : Bool) → b ≡ false → a ≡ (a || b)
or_nothing true b e = refl
or_nothing false b e = sym e

-- the words of some domains and one more
pub has_domains : (before : List Domain) (o : Option Domain) (other : List ℕ)
    → has (domain_words (before ++ cons_option o [])) other ≡ (has (domain_words before) other
    || has (domain_words (cons_option o [])) other)
has_domains before o other =
    ap (λ l. has l other) (map-append (λ d. d.word) before (cons_option o []))
    ∙ list_any-append (λ w. bytes_eq w other) (domain_words before)
    (domain_words (cons_option o []))

-- ---- faults by what is remembered

same_undeclared : (one two : List (List ℕ)) → ((w : List ℕ) → has one w ≡ has two w)
    → (args : List (List ℕ)) → list_any (λ a. not (has one a)) args
    ≡ list_any (λ a. not (has two a)) args
same_undeclared one two same [] = refl
same_undeclared one two same (a ∷ args) = ap₂ (λ h rest. not h || rest) (same a)
    (same_undeclared one two same args)

same_among : (before : List PlainStatement) (o : Option (List ℕ))
    → is_among (filter_map (λ s. declares s.form) before) o ≡ is_declared_before before o
same_among before None = refl
same_among before (Some word) = refl

module _ (all before : List PlainStatement) (domains : List (List ℕ)) (same : (w : List ℕ)
    → has domains w ≡ has (domain_words (domains_of all)) w) (form : PlainForm) where
  pub fault_same : fault_behind domains (count_by (λ s. is_domain s.form) before)
      (filter_map (λ s. declares s.form) before) form ≡ declaration_fault all before form
  fault_same =
      ap₂ (λ undeclared twice. first_fault (
      (too_many_behind (count_by (λ s. is_domain s.form) before) form, refused.TooMany)
      ∷ (undeclared, refused.Undeclared) ∷ (twice, refused.Twice) ∷ []))
      (same_undeclared domains (domain_words (domains_of all)) same (arguments_in form))
      (ap (λ b. b || not (is_distinct (members_in form))) (same_among before (declares form)))

-- ---- the step of the pass

-- the domains up to a statement
pub count_more : (before : List PlainStatement) (s : PlainStatement)
    → count_by (λ s. is_domain s.form) (before ++ s ∷ []) ≡ count_by (λ s. is_domain s.form) before
    + cond (is_domain s.form) 1 0
count_more before s = sum_by-append (λ s. cond (is_domain s.form) 1 0) before (s ∷ [])
    ∙ ap (λ n. count_by (λ s. is_domain s.form) before + n) (omega arith)

module _ (statements : List Statement) (i : ℕ) (s : Statement) (within : i < length statements)
    (at : s ≡ get_or statements i s) where
  pub count_next : count_by (λ s. is_domain s.form) (map plain (take (i + 1) statements))
      ≡ count_by (λ s. is_domain s.form) (map plain (take i statements)) + cond
      (is_domain (plain_form s.form)) 1 0
  count_next = ap (count_by (λ s. is_domain s.form)) (plain_next statements i s within at)
      ∙ count_more (map plain (take i statements)) (plain s)

  module _ (domains declared : List (List ℕ)) (count : ℕ)
      (same : (w : List ℕ) → has domains w ≡ has (domain_words (domains_of (map plain statements)))
      w)
      (those : declared ≡ filter_map (λ s. declares s.form) (map plain (take i statements)))
      (so_many : count ≡ count_by (λ s. is_domain s.form) (map plain (take i statements))) where
    pub same_fault : fault_behind domains count declared (plain_form s.form) ≡ declaration_fault
        (map plain statements) (map plain (take i statements)) (plain_form s.form)
    same_fault =
        ap₂ (λ n words. fault_behind domains n words (plain_form s.form)) so_many those
        ∙ fault_same (map plain statements) (map plain (take i statements)) domains same
        (plain_form s.form)

    module _ (rest : declaration_refusal (map plain statements)
        ≡ first_refusal (declaration_fault (map plain statements)) (map plain (take i statements))
        (map plain (drop i statements))) where
      step : declaration_refusal (map plain statements)
          ≡ refused_at (fault_behind domains count declared (plain_form s.form)) s.line
          (first_refusal (declaration_fault (map plain statements))
          (map plain (take (i + 1) statements)) (map plain (drop (i + 1) statements)))
      step =
          rest ∙ refusal_next statements i s within at (declaration_fault (map plain statements))
          ∙ ap (λ f. refused_at f s.line (first_refusal (declaration_fault (map plain statements))
          (map plain (take (i + 1) statements)) (map plain (drop (i + 1) statements))))
          (sym same_fault)

      -- a declaration that is refused
      pub refused_next : (e : DeclRefused)
          → Tests (Err e) (refused_at (fault_behind domains count declared (plain_form s.form))
          s.line None) → Tests (Err e) (declaration_refusal (map plain statements))
      refused_next e h = subst (Tests (Err e)) (sym step) (refused_first _ s.line _ e h)

      -- a declaration that passes
      pub passed_next : refused_at (fault_behind domains count declared (plain_form s.form)) s.line
          None ≡ None → declaration_refusal (map plain statements)
          ≡ first_refusal (declaration_fault (map plain statements))
          (map plain (take (i + 1) statements)) (map plain (drop (i + 1) statements))
      passed_next h = step ∙ ap (λ f. refused_at f s.line
          (first_refusal (declaration_fault (map plain statements))
          (map plain (take (i + 1) statements)) (map plain (drop (i + 1) statements))))
          (without_fault _ s.line h)
