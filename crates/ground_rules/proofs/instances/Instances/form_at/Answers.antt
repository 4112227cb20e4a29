use Rattle.std.proofs.Common.{◌≡◌, ◌<◌, [], map, length, get_or, option_map, Some, subst, ap, ap₂}
use Rattle.std.proofs.Common.{sym, ◌∙◌, arith}
use Rattle.std.proofs.lemmas.Result.{IfOk-weaker}
use Rattle.rule_forms.specs.Forms.{plain_form, is_rule}
use Rattle.ground_rules.specs.Assignments.{Instance}
use Rattle.ground_rules.specs.Clauses.{clause_of}
use Rattle.ground_rules.specs.LentInstances.{instance_of}
use Rattle.ground_rules.specs.declared.units.Origin.{Origin}
use Rattle.ground_rules.specs.Origins.{instance_at}
use Rattle.ground_rules.specs.Stated.{stated}
use Rattle.ground_rules.specs.Listed.{clauses_in}
use Rattle.ground_rules.proofs.ListedInstances.{as_many, is_one, is_listed, has_clause}
use Rattle.ground_rules.proofs.instances.Instances.form_at.Goals as goal

pub offset_bounds-get-place : goal.offset_bounds-get-place
offset_bounds-get-place c =
    let self = c.args.self.now in
    let many = ap length c.get.ensures ∙ as_many (clauses_in self) self.are_few self.origins
    self.are_origins c.args.unit c.requires.unit in
    omega (arith, many, c.requires.place, c.get.type_inv.1)

pub bounds-get-place : goal.bounds-get-place
bounds-get-place c =
    let self = c.args.self.now in
    subst (λ n. c.args.place < n) (sym (ap length c.get.ensures ∙ as_many (clauses_in self)
    self.are_few self.origins self.are_origins c.args.unit c.requires.unit)) c.requires.place

pub enter-requires : goal.enter-requires
enter-requires c =
    let self = c.args.self.now in
    rw (c.as_slice.ensures.value, c.get.ensures) (is_one (clauses_in self) self.are_few
    self.origins self.are_origins c.args.unit c.requires.unit c.args.place c.requires.place _)

pub stated-requires : goal.stated-requires
stated-requires c =
    let self = c.args.self.now in
    let first : Origin = record { statement = 0; assignment = 0 } in
    let made = c.in_ok-instance.ensures ∙ ap₂ (λ cs os. instance_at (map clause_of cs)
    (get_or os c.args.place first)) c.as_slice.ensures.value c.get.ensures in
    let one = is_one (clauses_in self) self.are_few self.origins self.are_origins c.args.unit
    c.requires.unit c.args.place c.requires.place first in
    ap (λ (i : Instance). is_rule i.clause.form) made
    ∙ has_clause (clauses_in self) (get_or (get_or self.origins c.args.unit []) c.args.place first)
    one self.are_rules

pub returns : goal.returns
returns c =
    let self = c.args.self.now in
    let first : Origin = record { statement = 0; assignment = 0 } in
    let made = c.in_ok-instance.ensures ∙ ap₂ (λ cs os. instance_at (map clause_of cs)
    (get_or os c.args.place first)) c.as_slice.ensures.value c.get.ensures in
    let at = is_listed (clauses_in self) self.are_few self.origins self.are_origins c.args.unit
    c.requires.unit c.args.place c.requires.place first in
    IfOk-weaker c.stated.result (λ form. plain_form form
    ≡ stated (instance_of c.in_ok-instance.instance)) _
    (λ form is. ap (option_map stated) at ∙ ap (λ i. Some (stated i)) (sym made)
    ∙ ap Some (sym is)) c.stated.ensures
