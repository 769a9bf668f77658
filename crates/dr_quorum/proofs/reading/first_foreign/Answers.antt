use Rattle.std.proofs.{Common.{arith, rules}, lemmas.Option.slice_get_within}
use Rattle.dr_entry.proofs.ListPlaces.{slice_get-some}
use Rattle.dr_quorum.proofs.Stands.{none_read}
use Rattle.dr_quorum.proofs.reading.first_foreign.Goals as goal

pub loop-at-init : goal.loop-at-init
loop-at-init c = (none_read, λ i e l at. absurd (omega (arith, l)))

pub returns-clause-none : goal.returns-clause-none
returns-clause-none c i e at =
    c.loop-at.invariant.1 i e (omega (arith, slice_get_within c.args.entries.now i e at, c.loop-at-test.false)) at

pub returns-then-not-may_stand-clause-some : goal.returns-then-not-may_stand-clause-some
returns-then-not-may_stand-clause-some c =
    let there = slice_get-some c.args.entries.now c.loop-at.at c.loop-at-test.true in
    record { before = c.loop-at.invariant.1; entry = there.0; here = there.1; foreign = λ stands. search rules }
