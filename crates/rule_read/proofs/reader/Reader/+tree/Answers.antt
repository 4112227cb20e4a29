use Rattle.std.proofs.Common.{◌≡◌, true, false, length, map, sym, ◌∙◌, refl}
use Rattle.std.proofs.lemmas.List.{length-map, map-append}
use Rattle.rule_read.specs.Lexed.{tokens}
use Rattle.rule_forms.specs.Forms.{plain_tree}
use Rattle.rule_read.specs.Reading.{has, list_at, expression_at}
use Rattle.rule_read.specs.declared.token.Mark.TheVariants.{Comma}
use Rattle.rule_read.proofs.Lists.{goes_on, last_one}
use Rattle.rule_read.proofs.reader.Reader.+tree.Goals as goal

pub trees-returns-then-not-has : goal.trees-returns-then-not-has
trees-returns-then-not-has t c =
    let comma : has Comma (tokens c.tree.new.self.rest.now) ≡ false = sym c.has.ensures
    ∙ c.if-not-has.true in
    let whole = last_one (expression_at c.args.depth) (map plain_tree c.loop-turn.members.items)
    (length c.args.self.now.rest.now) c.loop-turn.turn
    (tokens c.loop-turn.self.rest.now) (tokens c.tree.new.self.rest.now)
    (plain_tree c.in_ok-tree.field-0)
    (list_at (expression_at c.args.depth) (length c.args.self.now.rest.now)
    (tokens c.args.self.now.rest.now)) c.loop-turn-test.true
    c.in_ok-tree.ensures comma c.loop-turn.invariant in
    rw (length-map, whole, c.in_ok-push.ensures.items, map-append) refl

pub trees-loop-turn-preserved : goal.trees-loop-turn-preserved
trees-loop-turn-preserved t c =
    let comma : has Comma (tokens c.tree.new.self.rest.now) ≡ true = sym c.has.ensures
    ∙ c.if-not-has.false in
    rw (c.in_ok-push.ensures.items, map-append, c.pass.ensures)
    (goes_on (expression_at c.args.depth) (map plain_tree c.loop-turn.members.items)
    (length c.args.self.now.rest.now) c.loop-turn.turn (tokens c.loop-turn.self.rest.now)
    (tokens c.tree.new.self.rest.now)
    (plain_tree c.in_ok-tree.field-0)
    (list_at (expression_at c.args.depth) (length c.args.self.now.rest.now)
    (tokens c.args.self.now.rest.now)) c.loop-turn-test.true
    c.in_ok-tree.ensures comma c.loop-turn.invariant)
