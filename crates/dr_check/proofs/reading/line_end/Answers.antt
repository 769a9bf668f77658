use Rattle.dr_entry.proofs.ListFacts.{free_more}
use Rattle.dr_check.proofs.Feeds.{line_alone, line_at}
use Rattle.dr_check.proofs.reading.line_end.Goals as goal

pub returns-then-bytes-at-eq10-clause-first : goal.returns-then-bytes-at-eq10-clause-first
returns-then-bytes-at-eq10-clause-first c =
    line_at c.args.bytes.now c.loop-at.at c.loop-at-test.true c.if-bytes-at-eq10.true c.loop-at.invariant

pub loop-at-preserved : goal.loop-at-preserved
loop-at-preserved c =
    free_more c.args.bytes.now c.loop-at.at c.loop-at-test.true c.if-bytes-at-eq10.false c.loop-at.invariant

pub returns-clause-first : goal.returns-clause-first
returns-clause-first c = line_alone c.args.bytes.now c.loop-at.at c.requires c.loop-at-test.false c.loop-at.invariant
