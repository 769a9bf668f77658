use Rattle.std.proofs.Common.{rules}
use Rattle.dr_served.proofs.Served.{places_on}
use Rattle.dr_play.proofs.Sound.{as_many}
use Rattle.dr_sim.proofs.{Logs.{ready_on, served_on}, Places.{ready_at, served_at}}
use Rattle.dr_sim.proofs.simulation.Simulation.take_turn_of.Goals as goal

pub take_turn-requires-send-D : goal.take_turn-requires-send-D
take_turn-requires-send-D g c = λ ks within. (
  within.0,
  (
    within.1,
    (
      search rules,
      (
        c.requires.1.1.1.0,
        (
          c.requires.1.1.1.1.0,
          λ r there. ready_at c.args.logs.now c.args.self.now.members c.args.m c.index-logs-m.result r
              c.requires.1.1.1.1.1.1 there,
        ),
      ),
    ),
  ),
)

pub returns-clause-ready : goal.returns-clause-ready
returns-clause-ready g c =
    ready_on c.args.logs.now c.take_turn.new.place c.args.self.now c.take_turn.new.self c.args.m
    c.requires.1.1.1.1.1.1
    (as_many g.group c.args.self.now c.take_turn.new.self c.requires.1.1.1.0 c.take_turn.ensures.took.0.sound)
    c.take_turn.ensures.others c.take_turn.ensures.ready c.requires.1.1.1.1.1.0

pub returns-clause-places : goal.returns-clause-places
returns-clause-places g c = places_on c.args.logs.now c.args.m c.index-logs-m.result c.take_turn.new.place
    c.requires.1.1.1.1.1.0 c.take_turn.ensures.stays

pub returns-clause-served : goal.returns-clause-served
returns-clause-served g c = λ bases served.
    served_on g.D.Disk.told g.D.Disk.faults bases c.args.logs.now c.take_turn.new.place c.args.self.now
    c.take_turn.new.self c.args.m c.take_turn.ensures.others c.requires.1.1.1.1.1.0
    (λ base from. c.take_turn.ensures.served base
    (λ r there. served_at g.D.Disk.told g.D.Disk.faults bases c.args.logs.now c.args.self.now.members c.args.m
    c.index-logs-m.result base r c.requires.1.1.1.1.1.0 served from there)) served
