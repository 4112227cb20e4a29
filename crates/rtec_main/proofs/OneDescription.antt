-- What a text is as a description is determined.
use Rattle.std.proofs.Common.{◌≡◌, ◌⊎◌, inl, inr, ℕ, ◌<◌, ◌≤◌, List, length, Option, Some, None}
use Rattle.std.proofs.Common.{Result, Ok, Err, refl, sym, ap, ◌∙◌, subst, arith}
use Rattle.std.proofs.lemmas.Bool.{cases_lt}
use Rattle.std.proofs.lemmas.Option.{same_Some, slice_get_within}
use Rattle.rt_base.specs.declared.limit.Limit.{Limit}
use Rattle.ground_types.specs.declared.program.Name.{Name}
use Rattle.rule_forms.specs.Forms.{PlainStatement}
use Rattle.rule_read.specs.Whole.{Reading, reading, TooLong as LongText, BadByte, BadStatement}
use Rattle.rule_read.specs.Whole.{Statements}
use Rattle.decl_known.specs.Checked.{PlainChecked}
use Rattle.domain_decl.specs.Accepted.{checking}
use Rattle.decl_known.specs.declared.checked.DeclRefused.{DeclRefused}
use Rattle.decl_known.specs.declared.checked.DeclRefused.TheVariants as refused
use Rattle.decl_known.specs.Occurrences.{NoneBefore, IsFirstCycle}
use Rattle.strata_check.proofs.OneLayering.{layerings_equal}
use Rattle.ground_rules.specs.Limits.{exceeded}
use Rattle.run_status.specs.declared.status.DescFault.{DescFault}
use Rattle.run_status.specs.declared.status.DescFault.TheVariants as fault
use Rattle.rtec_main.specs.Described.{Described, TooLong, Faulty, Exceeds, Describes, IsRefused}
use Rattle.rtec_main.specs.Described.{HasLayers, IsFaulty, IsDescribed}

-- ---- the first cycle

lines_equal : (rules : List PlainStatement) (names : List Name) (place one two : ℕ)
    → IsFirstCycle rules names place one → IsFirstCycle rules names place two → one ≡ two
lines_equal rules names place one two first second =
    first.line_is ∙ ap (λ (n : Name). n.line) (same_Some first.name second.name (sym first.at
    ∙ second.at)) ∙ sym second.line_is

no_earlier : (rules : List PlainStatement) (names : List Name) (place other line : ℕ)
    → IsFirstCycle rules names place line → NoneBefore rules names other → place < other → ⊥
no_earlier rules names place other line first none before = none place first.name before first.at
    first.reaches

cycles_equal : (rules : List PlainStatement) (names : List Name) (p q one two : ℕ)
    → IsFirstCycle rules names p one → IsFirstCycle rules names q two
    → (p < q) ⊎ (q ≤ p) → (q < p) ⊎ (p ≤ q) → one ≡ two
cycles_equal rules names p q one two first second (inl before) other =
    absurd (no_earlier rules names p q one first second.none_before before)
cycles_equal rules names p q one two first second (inr below) (inl after) =
    absurd (no_earlier rules names q p two second first.none_before after)
cycles_equal rules names p q one two first second (inr below) (inr above) =
    let same : p ≡ q = omega arith in
    lines_equal rules names q one two (subst (λ k. IsFirstCycle rules names k one) same first)
    second

no_cycle : (rules : List PlainStatement) (names : List Name) (place line : ℕ)
    → IsFirstCycle rules names place line → NoneBefore rules names (length names) → ⊥
no_cycle rules names place line first none = none place first.name (slice_get_within names place
    first.name first.at) first.at first.reaches

-- ---- what is known of a description, from what its reading and checking come to

abbrev by_limits : List PlainStatement → PlainChecked → List ℕ → Option Limit → Described
by_limits statements checked of_name None = Describes statements checked of_name
by_limits statements checked of_name (Some limit) = Exceeds limit

abbrev HasCycle : PlainChecked → Described → Type 0
HasCycle checked d = (place : ℕ) × (line : ℕ) × IsFirstCycle checked.rules checked.names place line
    × (d ≡ Faulty (fault.Cyclic line))

abbrev ByLayers : List PlainStatement → PlainChecked → Described → Type 0
ByLayers statements checked d = (of_name : List ℕ) × HasLayers checked of_name
    × (d ≡ by_limits statements checked of_name (exceeded checked))

-- (no text is refused for want of memory)
abbrev by_refusal : DeclRefused → Described
by_refusal refused.BadPlan = Faulty fault.BadPlan
by_refusal (refused.TooMany line) = Faulty (fault.TooMany line)
by_refusal (refused.Undeclared line) = Faulty (fault.Undeclared line)
by_refusal (refused.Twice line) = Faulty (fault.Twice line)
by_refusal (refused.NoTrigger line) = Faulty (fault.NoTrigger line)
by_refusal (refused.WrongKind line) = Faulty (fault.WrongKind line)
by_refusal (refused.Arity line) = Faulty (fault.Arity line)
by_refusal (refused.Clash line) = Faulty (fault.Clash line)
by_refusal (refused.Loose line) = Faulty (fault.Loose line)
by_refusal refused.OutOfMemory = TooLong

abbrev ByChecking : List PlainStatement → Result PlainChecked DeclRefused → Described → Type 0
ByChecking statements (Err refusal) d = d ≡ by_refusal refusal
ByChecking statements (Ok checked) d = HasCycle checked d ⊎ ByLayers statements checked d

abbrev ByReading : Reading → Described → Type 0
ByReading LongText d = d ≡ TooLong
ByReading (BadByte line) d = d ≡ Faulty (fault.BadByte line)
ByReading (BadStatement line) d = d ≡ Faulty (fault.BadStatement line)
ByReading (Statements statements) d = ByChecking statements (checking statements) d

-- ---- it follows

by_reading : (text : List ℕ) (read : Reading) (d : Described) → reading text ≡ read
    → ByReading read d → ByReading (reading text) d
by_reading text read d e h = subst (λ r. ByReading r d) (sym e) h

by_checked : (text : List ℕ) (statements : List PlainStatement) (given : Result PlainChecked
    DeclRefused) (d : Described)
    → reading text ≡ Statements statements → checking statements ≡ given
    → ByChecking statements given d → ByReading (reading text) d
by_checked text statements given d read e h = by_reading text (Statements statements) d read
    (subst (λ c. ByChecking statements c d) (sym e) h)

refused_so : (text : List ℕ) (refusal : DeclRefused) → IsRefused text refusal
    → ByReading (reading text) (by_refusal refusal)
refused_so text refusal h =
    by_checked text h.0 (Err refusal) (by_refusal refusal) h.1 h.2 refl

faulty_so : (text : List ℕ) (why : DescFault) → IsFaulty text why
    → ByReading (reading text) (Faulty why)
faulty_so text (fault.BadByte line) h = by_reading text (BadByte line)
    (Faulty (fault.BadByte line)) h refl
faulty_so text (fault.BadStatement line) h = by_reading text (BadStatement line)
    (Faulty (fault.BadStatement line)) h refl
faulty_so text fault.BadPlan h = refused_so text refused.BadPlan h
faulty_so text (fault.TooMany line) h = refused_so text (refused.TooMany line) h
faulty_so text (fault.Undeclared line) h = refused_so text (refused.Undeclared line) h
faulty_so text (fault.Twice line) h = refused_so text (refused.Twice line) h
faulty_so text (fault.NoTrigger line) h = refused_so text (refused.NoTrigger line) h
faulty_so text (fault.WrongKind line) h = refused_so text (refused.WrongKind line) h
faulty_so text (fault.Arity line) h = refused_so text (refused.Arity line) h
faulty_so text (fault.Clash line) h = refused_so text (refused.Clash line) h
faulty_so text (fault.Loose line) h = refused_so text (refused.Loose line) h
faulty_so text (fault.Cyclic line) (statements, checked, place, declares, cycle) =
    by_checked text statements (Ok checked) (Faulty (fault.Cyclic line)) declares.0 declares.1
    (inl (place, line, cycle, refl))

described_so : (text : List ℕ) (d : Described) → IsDescribed text d → ByReading (reading text) d
described_so text TooLong h = by_reading text LongText TooLong h refl
described_so text (Faulty why) h = faulty_so text why h
described_so text (Exceeds limit) (statements, checked, of_name, declares, layers, limited) =
    by_checked text statements (Ok checked) (Exceeds limit) declares.0 declares.1
    (inr (of_name, layers, sym (ap (by_limits statements checked of_name) limited)))
described_so text (Describes statements checked of_name) (declares, layers, limited) =
    by_checked text statements (Ok checked) (Describes statements checked of_name) declares.0
    declares.1
    (inr (of_name, layers, sym (ap (by_limits statements checked of_name) limited)))

-- ---- and it says one thing

one_checked : (statements : List PlainStatement) (given : Result PlainChecked DeclRefused)
    (one two : Described)
    → ByChecking statements given one → ByChecking statements given two → one ≡ two
one_checked statements (Err refusal) one two first second = first ∙ sym second
one_checked statements (Ok checked) one two (inl (p, line, cycle, is)) (inl (q, other, again, so)) =
    is ∙ ap (λ l. Faulty (fault.Cyclic l)) (cycles_equal checked.rules checked.names p q line other
    cycle again (cases_lt p q) (cases_lt q p)) ∙ sym so
one_checked statements (Ok checked) one two (inl (p, line, cycle, is)) (inr (of_name, layers, so)) =
    absurd (no_cycle checked.rules checked.names p line cycle layers.0)
one_checked statements (Ok checked) one two (inr (of_name, layers, is)) (inl (q, line, cycle, so)) =
    absurd (no_cycle checked.rules checked.names q line cycle layers.0)
one_checked statements (Ok checked) one two (inr (of_name, layers, is)) (inr (again, others, so)) =
    is ∙ ap (λ o. by_limits statements checked o (exceeded checked)) (layerings_equal checked.rules
    checked.names of_name again layers.1 others.1) ∙ sym so

one_read : (read : Reading) (one two : Described) → ByReading read one → ByReading read two
    → one ≡ two
one_read LongText one two first second = first ∙ sym second
one_read (BadByte line) one two first second = first ∙ sym second
one_read (BadStatement line) one two first second = first ∙ sym second
one_read (Statements statements) one two first second =
    one_checked statements (checking statements) one two first second

pub one_description_is : (text : List ℕ) (one two : Described) → IsDescribed text one
    → IsDescribed text two → one ≡ two
one_description_is text one two first second = one_read (reading text) one two
    (described_so text one first) (described_so text two second)
