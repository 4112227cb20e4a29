use Rattle.std.proofs.Common.{◌∙◌, sym}
use Rattle.word_table.proofs.WordLists.{put_next, distinct_next, twice_next}
use Rattle.word_table.proofs.table.are_distinct.Goals as goal

pub returns-then-not-branch : goal.returns-then-not-branch
returns-then-not-branch c =
    sym (twice_next c.args.words.now c.loop-word.word-index c.as_str.result.now
    c.loop-word-test.true (cc) c.loop-word.seen c.insert.new.self c.in_ok-insert.field-0
    c.loop-word.invariant.seen c.in_ok-insert.ensures.added c.in_ok-insert.ensures.words
    c.loop-word.invariant.distinct c.if-not-branch.true)

pub loop-word-preserved : goal.loop-word-preserved
loop-word-preserved c = record {
  seen = put_next c.args.words.now c.loop-word.word-index c.as_str.result.now c.loop-word-test.true
      (cc) c.loop-word.seen c.insert.new.self c.in_ok-insert.field-0
      c.loop-word.invariant.seen c.in_ok-insert.ensures.added c.in_ok-insert.ensures.words
      c.if-not-branch.false;
  distinct = distinct_next c.args.words.now c.loop-word.word-index c.as_str.result.now
      c.loop-word-test.true (cc) c.loop-word.seen c.insert.new.self c.in_ok-insert.field-0
      c.loop-word.invariant.seen c.in_ok-insert.ensures.added c.in_ok-insert.ensures.words
      c.loop-word.invariant.distinct ∙ c.if-not-branch.false;
}
