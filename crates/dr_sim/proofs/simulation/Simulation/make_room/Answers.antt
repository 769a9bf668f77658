use Rattle.std.proofs.Common.{arith}
use Rattle.dr_program.proofs.Present.{present_within}
use Rattle.dr_play.proofs.LoggedMembers.{none_made}
use Rattle.dr_sim.proofs.{Rooms.{one_more_made, stays_set}, Steps.place_read}
use Rattle.dr_sim.proofs.simulation.Simulation.make_room.Goals as goal

pub loop-m-init : goal.loop-m-init
loop-m-init g c = none_made g.D.Disk.told g.D.Disk.faults c.args.self.now.members c.args.logs.now

pub returns-in_err-make_room_at-clause-kept : goal.returns-in_err-make_room_at-clause-kept
returns-in_err-make_room_at-clause-kept g c =
    (stays_set g.D.Disk.told g.D.Disk.faults c.args.logs.now c.loop-m.logs c.loop-m.m c.index-logs-m.result
    c.make_room_at.new.place (omega (arith, c.loop-m-test.true, c.loop-m.invariant.places.all))
    c.make_room_at.ensures.stays c.loop-m.invariant.places c.loop-m.invariant.same c.loop-m.invariant.calm).1

pub returns-in_err-make_room_at-clause-calm : goal.returns-in_err-make_room_at-clause-calm
returns-in_err-make_room_at-clause-calm g c =
    (stays_set g.D.Disk.told g.D.Disk.faults c.args.logs.now c.loop-m.logs c.loop-m.m c.index-logs-m.result
    c.make_room_at.new.place (omega (arith, c.loop-m-test.true, c.loop-m.invariant.places.all))
    c.make_room_at.ensures.stays c.loop-m.invariant.places c.loop-m.invariant.same c.loop-m.invariant.calm).2

pub returns-in_err-make_room_at-clause-places : goal.returns-in_err-make_room_at-clause-places
returns-in_err-make_room_at-clause-places g c =
    (stays_set g.D.Disk.told g.D.Disk.faults c.args.logs.now c.loop-m.logs c.loop-m.m c.index-logs-m.result
    c.make_room_at.new.place (omega (arith, c.loop-m-test.true, c.loop-m.invariant.places.all))
    c.make_room_at.ensures.stays c.loop-m.invariant.places c.loop-m.invariant.same c.loop-m.invariant.calm).0

pub loop-m-preserved : goal.loop-m-preserved
loop-m-preserved g c =
    one_more_made g.D.Disk.told g.D.Disk.faults c.args.self.now.members c.args.logs.now c.loop-m.logs c.loop-m.m
    c.index.result.now c.index-logs-m.result c.make_room_at.new.place c.loop-m.invariant
    (omega (arith, c.loop-m-test.true, c.loop-m.invariant.places.all))
    (place_read c.self.inside.members.items c.self.inside.table.items c.self.inside.posts.letters
    c.args.self.now c.loop-m.m c.index.result.now c.self.view_is
    (omega (arith, c.loop-m-test.true, c.requires.all)) c.index.ensures)
    c.make_room_at.ensures.stays c.in_ok-make_room_at.ensures.room

pub returns-clause-room : goal.returns-clause-room
returns-clause-room g c = λ m r old new member there here. c.loop-m.invariant.made m r old new
    (omega (arith, c.loop-m-test.false, present_within c.loop-m.logs m new here, c.loop-m.invariant.places.all))
    member there here
