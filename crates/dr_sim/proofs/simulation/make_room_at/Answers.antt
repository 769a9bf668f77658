use Rattle.std.proofs.Common.{refl}
use Rattle.dr_entry.proofs.OptionFacts.{on_ok}
use Rattle.dr_served.proofs.Rooms.{roomy}
use Rattle.dr_play.proofs.LoggedMembers.{reserve_keeps}
use Rattle.dr_sim.proofs.Rooms.{log_got_room, log_stays, no_log_there, no_member_there, stays_same}
use Rattle.dr_sim.proofs.simulation.make_room_at.Goals as goal

pub returns-in_default-clause-room : goal.returns-in_default-clause-room
returns-in_default-clause-room g c =
    no_member_there g.D.Disk.told g.D.Disk.faults c.args.member.now c.args.place.now c.args.place.now c.in_default.is

pub returns-in_default-clause-stays : goal.returns-in_default-clause-stays
returns-in_default-clause-stays g c = stays_same g.D.Disk.told g.D.Disk.faults c.args.place.now

pub returns-in_default-place-clause-room : goal.returns-in_default-place-clause-room
returns-in_default-place-clause-room g c =
    no_log_there g.D.Disk.told g.D.Disk.faults c.args.member.now c.args.place.now c.args.place.now c.in_default-place.is

pub returns-in_default-place-clause-stays : goal.returns-in_default-place-clause-stays
returns-in_default-place-clause-stays g c = stays_same g.D.Disk.told g.D.Disk.faults c.args.place.now

-- what room is made leaves what is on the log, whether there was memory for it or not
pub returns-clause-stays : goal.returns-clause-stays
returns-clause-stays g c =
    log_stays g.D.Disk.told g.D.Disk.faults c.args.place.now c.in-Some-place.log c.reserve.new.self c.in-Some-place.is
    (reserve_keeps c.reserve.result c.in-Some-place.log c.reserve.new.self _ _ refl refl c.reserve.ensures.ok
    c.reserve.ensures.err) c.reserve.ensures.told c.reserve.ensures.faults

pub returns-clause-room : goal.returns-clause-room
returns-clause-room g c = on_ok _ _ c.reserve.result (λ ok.
    log_got_room g.D.Disk.told g.D.Disk.faults c.args.member.now c.args.place.now c.in-Some.member c.in-Some-place.log
    c.reserve.new.self c.in-Some.is c.in-Some-place.is
    (roomy g.D.Disk.told g.D.Disk.faults c.in-Some.member c.in-Some-place.log c.reserve.new.self _ _
    c.appends_left.ensures c.votes_left.ensures ok c.reserve.ensures.told
    c.reserve.ensures.faults c.reserve.ensures.safe)) c.reserve.ensures.ok
