use Rattle.std.proofs.Common.{arith}
use Rattle.dr_words.proofs.Layouts.{noted_more}
use Rattle.dr_member.proofs.Indices.{made}
use Rattle.dr_member.proofs.bases.Bases.of.Goals as goal

pub loop-other-preserved : goal.loop-other-preserved
loop-other-preserved c = noted_more c.shape-shape.result.members c.shape-shape.result.window c.view-view.result
    c.me-me.result c.loop-other.other c.from.result c.from-in-loop-other.result c.word_index.result
    c.word_index-in-loop-other.result c.loop-other.looks c.loop-other.pushes (omega arith)
    c.loop-other.invariant c.from.ensures c.from-in-loop-other.ensures c.word_index.ensures.value
    c.word_index-in-loop-other.ensures.value

pub returns : goal.returns
returns c = made c.args.replica.now c.shape-shape.result.members c.shape-shape.result.window
    c.view-view.result c.me-me.result _ c.loop-other.other _ _
    c.shape-shape.ensures.members c.shape-shape.ensures.window c.view-view.ensures.view c.me-me.ensures.me
    (omega arith) c.columns.ensures (omega (arith, c.loop-other-test.false)) c.loop-other.invariant
