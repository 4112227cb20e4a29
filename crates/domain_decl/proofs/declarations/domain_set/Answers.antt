use Rattle.std.proofs.Common.{◌∙◌, ap, ap₂, sym, map, take, ◌||◌, [], Some}
use Rattle.std.specs.List.{cons_option}
use Rattle.rule_forms.specs.Forms.{plain, plain_form}
use Rattle.ground_types.specs.Words.{has, domain_words}
use Rattle.domain_decl.specs.Contents.{domain_in, domains_of}
use Rattle.domain_decl.proofs.Prefixes.{filter_map-next}
use Rattle.word_table.proofs.WordLists.{has_put}
use Rattle.domain_decl.proofs.Declaring.{has_domain, has_no_domain, or_nothing, has_domains}
use Rattle.domain_decl.proofs.declarations.domain_set.Goals.{in-Some+in_ok-insert, in_default}
use Rattle.domain_decl.proofs.declarations.domain_set.Goals as goal

pub loop-statement-preserved : goal.loop-statement-preserved
loop-statement-preserved c = λ other.
    let before = domains_of (map plain (take c.loop-statement.statement-index
    c.args.statements.now)) in
    let o = domain_in (plain_form c.statement-item.result.form) in
    let next = ap (λ domains. has (domain_words domains) other)
    (filter_map-next c.args.statements.now c.loop-statement.statement-index c.statement-item.result
    c.loop-statement-test.true c.statement-item.is (λ s. domain_in s.form))
    ∙ has_domains before o other in
    elim c.match-domain_word.branch [
      | in-Some+in_ok-insert w ↦
          ap (λ set. has set other) w.set-is
          ∙ has_put c.loop-statement.set w.insert.new.self w.as_str.result.now
          w.in_ok-insert.field-0 w.in_ok-insert.ensures.added w.in_ok-insert.ensures.words other
          ∙ ap₂ ◌||◌ (c.loop-statement.invariant other)
          (sym (has_domain o w.as_str.result.now other (ap Some w.as_str.ensures
          ∙ w.in-Some.ensures)))
          ∙ sym next
      | in_default w ↦
          ap (λ set. has set other) w.set-is ∙ c.loop-statement.invariant other
          ∙ or_nothing (has (domain_words before) other) (has (domain_words (cons_option o []))
          other) (has_no_domain o other (sym w.in_default.ensures))
          ∙ sym next
    ]
