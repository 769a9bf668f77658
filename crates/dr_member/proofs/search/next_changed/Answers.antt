use Rattle.std.proofs.Common.{sym, ◌∙◌, arith}
use Rattle.dr_entry.proofs.NumberFacts.{none_more}
use Rattle.dr_rows.specs.Words.{changed}
use Rattle.dr_member.proofs.search.next_changed.Goals as goal

pub loop-column-preserved : goal.loop-column-preserved
loop-column-preserved c = none_more (changed c.args.replica.now.rows c.args.to) c.args.from c.loop-column.column
    c.loop-column.invariant (sym c.has_changed.ensures ∙ c.if-has_changed.false)

pub returns-clause-unchanged : goal.returns-clause-unchanged
returns-clause-unchanged c =
    λ x above within. c.loop-column.invariant x above (omega (arith, within, c.loop-column-test.false))
