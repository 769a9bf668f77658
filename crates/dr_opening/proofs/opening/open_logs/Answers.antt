use Rattle.std.{specs.Prelude.Err, proofs.Common.{◌≡◌, rules}}
use Rattle.dr_opening.{specs.declared.opening.OpenFault.OpenFault, proofs.Crashing.ready_by}
use Rattle.dr_opening.proofs.Opened.{begins_after, left_after, tried_after, unvoted_on}
use Rattle.dr_opening.proofs.opening.open_logs.Goals as goal

pub returns-in_err-vote_on_all-clause-left : goal.returns-in_err-vote_on_all-clause-left
returns-in_err-vote_on_all-clause-left g c =
    let fault = c.in_err-vote_on_all.field-0.0 in
    let answer : c.from_residual.result ≡ Err fault = search rules in
    rw answer (λ o before after is among safe left.
    unvoted_on g.D.Disk.told g.D.Disk.faults c.args.start.now c.args.logs.now c.vote_on_all.new.logs fault.member
    fault.why o before after c.requires.few c.in_err-vote_on_all.ensures.stopped is among safe left)

pub raise_all-requires-clause-ready : goal.raise_all-requires-clause-ready
raise_all-requires-clause-ready g c κs h = λ m log at.
    ready_by g.D.Disk.told g.D.Disk.faults c.args.start.now c.args.logs.now c.vote_on_all.new.logs m log
    c.in_ok-vote_on_all.ensures.voted at

pub returns-clause-tried : goal.returns-clause-tried
returns-clause-tried g c =
    tried_after (Unit {0}) OpenFault g.D.Disk.told g.D.Disk.faults c.args.start.now c.args.logs.now
    c.vote_on_all.new.logs c.raise_all.new.logs c.raise_all.result c.requires.few c.in_ok-vote_on_all.ensures.voted
    c.raise_all.ensures.raised

pub returns-clause-left : goal.returns-clause-left
returns-clause-left g c = left_after (Unit {0}) g.D.Disk.told g.D.Disk.faults c.args.start.now c.args.logs.now
    c.vote_on_all.new.logs c.raise_all.new.logs c.raise_all.result c.requires.few c.in_ok-vote_on_all.ensures.voted
    c.raise_all.ensures.stopped

pub returns-clause-begins : goal.returns-clause-begins
returns-clause-begins g c =
    begins_after (Unit {0}) OpenFault g.D.Disk.told g.D.Disk.faults c.args.start.now c.vote_on_all.new.logs
    c.raise_all.new.logs c.raise_all.result c.raise_all.ensures.raised
