use Rattle.std.proofs.Common.{◌≡◌, true, false, length, sym, ◌∙◌, refl}
use Rattle.std.proofs.lemmas.List.{length-map}
use Rattle.rule_read.specs.Lexed.{tokens}
use Rattle.rule_read.specs.Reading.{has, list_at}
use Rattle.rule_read.specs.declared.token.Mark.TheVariants.{Comma}
use Rattle.rule_read.proofs.Lists.{goes_on, last_one}
use Rattle.rule_read.proofs.reader.Reader.list.Goals as goal

pub returns-then-not-has : goal.returns-then-not-has
returns-then-not-has g c =
    let comma : has Comma (tokens c.read.new.reader.rest.now) ≡ false = sym c.has.ensures
    ∙ c.if-not-has.true in
    let whole = last_one g.M.Member.at c.loop-turn.members.items (length c.args.self.now.rest.now)
    c.loop-turn.turn (tokens c.loop-turn.self.rest.now)
    (tokens c.read.new.reader.rest.now) c.in_ok-read.field-0
    (list_at g.M.Member.at (length c.args.self.now.rest.now) (tokens c.args.self.now.rest.now))
    c.loop-turn-test.true c.in_ok-read.ensures comma c.loop-turn.invariant in
    rw (length-map, whole, c.of.ensures, c.in_ok-push.ensures.items) refl

pub loop-turn-preserved : goal.loop-turn-preserved
loop-turn-preserved g c =
    let comma : has Comma (tokens c.read.new.reader.rest.now) ≡ true = sym c.has.ensures
    ∙ c.if-not-has.false in
    rw (c.in_ok-push.ensures.items, c.pass.ensures)
    (goes_on g.M.Member.at c.loop-turn.members.items (length c.args.self.now.rest.now)
    c.loop-turn.turn (tokens c.loop-turn.self.rest.now) (tokens c.read.new.reader.rest.now)
    c.in_ok-read.field-0
    (list_at g.M.Member.at (length c.args.self.now.rest.now) (tokens c.args.self.now.rest.now))
    c.loop-turn-test.true c.in_ok-read.ensures comma c.loop-turn.invariant)
