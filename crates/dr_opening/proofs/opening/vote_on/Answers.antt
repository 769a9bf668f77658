use Rattle.std.{specs.Prelude.Err, proofs.Common.{◌≡◌, rules, arith, max}}
use Rattle.dr_opening.{specs.declared.catching_up.CatchFault.TheVariants.OutOfMemory, proofs.Catching.GotRoom}
use Rattle.dr_opening.proofs.{Voting.{no_room_for, unvoted_by, voted_by}, opening.vote_on.Given.Over}
use Rattle.dr_opening.proofs.opening.vote_on.Goals as goal

-- a log that got no room, for want of memory
no_room : (g : Over) (c : goal.After-from_residual g)
    → GotRoom g.D.Disk.told g.D.Disk.faults c.args.log.now c.reserve.new.self
no_room g c = record {
  spare_entries = c.args.log.now.spare_entries;
  spare_votes = c.args.log.now.spare_votes;
  spare_others = c.args.log.now.spare_others;
  is = c.in_err-reserve.ensures.err;
  tells = c.in_err-reserve.ensures.told;
  safe = c.in_err-reserve.ensures.safe c.requires.whole;
  calm = c.in_err-reserve.ensures.faults;
}

pub returns-in_err-reserve-clause-stuck : goal.returns-in_err-reserve-clause-stuck
returns-in_err-reserve-clause-stuck g c =
    let answer : c.from_residual.result ≡ Err OutOfMemory = search rules in
    rw answer (no_room_for g.D.Disk.told g.D.Disk.faults c.args.start.now c.args.log.now c.reserve.new.self
    (no_room g c) c.requires.whole)

pub returns-in-Ok-clause-voted : goal.returns-in-Ok-clause-voted
returns-in-Ok-clause-voted g c =
    let got : GotRoom g.D.Disk.told g.D.Disk.faults c.args.log.now c.reserve.new.self = record {
      spare_entries = max c.args.log.now.spare_entries 0;
      spare_votes = max c.args.log.now.spare_votes 0;
      spare_others = max c.args.log.now.spare_others 3;
      is = c.in_ok-reserve.ensures.ok;
      tells = c.in_ok-reserve.ensures.told;
      safe = c.in_ok-reserve.ensures.safe c.requires.whole;
      calm = c.in_ok-reserve.ensures.faults;
    } in
    voted_by g.D.Disk.told g.D.Disk.faults c.args.start.now c.args.log.now c.reserve.new.self c.vote_age.new.self
    tt got c.requires.whole (omega arith) c.in-Ok.ensures.appends c.in-Ok.ensures.durable c.in-Ok.ensures.any_moment

pub returns-in-Err-clause-stuck : goal.returns-in-Err-clause-stuck
returns-in-Err-clause-stuck g c =
    let got : GotRoom g.D.Disk.told g.D.Disk.faults c.args.log.now c.reserve.new.self = record {
      spare_entries = max c.args.log.now.spare_entries 0;
      spare_votes = max c.args.log.now.spare_votes 0;
      spare_others = max c.args.log.now.spare_others 3;
      is = c.in_ok-reserve.ensures.ok;
      tells = c.in_ok-reserve.ensures.told;
      safe = c.in_ok-reserve.ensures.safe c.requires.whole;
      calm = c.in_ok-reserve.ensures.faults;
    } in
    unvoted_by g.D.Disk.told g.D.Disk.faults c.args.start.now c.args.log.now c.reserve.new.self c.vote_age.new.self
    c.in-Err.why c.why_of.result got c.requires.whole c.in-Err.ensures.appends c.in-Err.ensures.any_moment
    c.why_of.ensures.disk c.why_of.ensures.full
