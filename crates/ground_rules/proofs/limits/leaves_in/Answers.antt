use Rattle.std.proofs.Common.{◌≡◌, length, drop, ap, sym, ◌∙◌, arith, length-drop}
use Rattle.std.proofs.lemmas.List.{length-map}
use Rattle.rule_forms.specs.Forms.{plain_form}
use Rattle.decl_known.specs.Mentions.{leaves_of}
use Rattle.decl_known.specs.Gathered.{mention_of}
use Rattle.ground_names.proofs.Caps.{capped_small}
use Rattle.ground_rules.proofs.limits.leaves_in.Goals as goal

pub returns : goal.returns
returns c =
    let atoms = c.gather.new.into.items in
    let others = c.in_ok-others.others in
    let count : length (leaves_of (plain_form c.args.form.now)) ≡ length (drop others atoms) =
    sym (ap length c.in_ok-others.ensures.leaves) ∙ length-map (drop others atoms) mention_of in
    let left = length-drop others atoms in
    let same = capped_small (length (leaves_of (plain_form c.args.form.now))) (omega (
      arith,
      count,
      left,
      c.gather.new.into.ok.0,
    )) in
    omega (arith, count, left, same)
