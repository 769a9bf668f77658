use Rattle.std.proofs.Common.{rules, arith}
use Rattle.dr_program_laws.proofs.Failing.{all_failing}
use Rattle.dr_play.proofs.{Ends.ready_with, Playing.age_on}
use Rattle.dr_sim.{specs.Simulated.IsSimulated, proofs.Courses.{schedule_ran, schedule_ends}}
use Rattle.dr_sim.proofs.age.watch_age.Given.{Over}
use Rattle.dr_served.proofs.Served.{places_both, places_same}
use Rattle.dr_sim.proofs.age.watch_age.Goals as goal

-- its age is that of the script
abbrev simulated : (g : Over) (c : goal.After-logs-2-1 g)
    → IsSimulated c.args.script.now c.args.start.now c.args.nth c.run.result c.run.ensures.0
simulated g c =
    let (p, has_run, sound, same, served, places, opened, ended, opening, moves, closing) = c.run.ensures in
    record {
      begun = c.in_ok-simulation.simulation;
      begins = c.in_ok-simulation.ensures.begun;
      run = has_run;
      told = same;
    }

pub run-requires-send-D : goal.run-requires-send-D
run-requires-send-D g c = λ ks within. (
  within.0,
  (
    within.1,
    (
      search rules,
      (
        c.in_ok-simulation.ensures.sound,
        (
          c.in_ok-entries.ensures,
          (
            c.in_ok-ends.ensures.items,
            (
              omega (
                arith,
                c.in_ok-simulation.ensures.sound.form.all,
                c.requires.ranges.group.lists,
                c.in_ok-ends.ensures.capacity,
              ),
              (ready_with g.D.Disk.told g.D.Disk.faults c.args.script.now c.args.start.now c.args.nth
                  c.in_ok-simulation.simulation c.args.logs.now c.make_room.new.logs
                  c.requires.ranges.group.lists c.in_ok-simulation.ensures.begun c.requires.logs
                  c.make_room.ensures.places c.in_ok-make_room.ensures.room).0,
            ),
          ),
        ),
      ),
    ),
  ),
)

pub returns-clause-age : goal.returns-clause-age
returns-clause-age g c =
    let (p, has_run, sound, same, served, places, opened, ended, opening, moves, closing) = c.run.ensures in
    let script = c.args.script.now in
    let start = c.args.start.now in
    let begun = c.in_ok-simulation.simulation in
    let begins = c.in_ok-simulation.ensures.begun in
    let ran = schedule_ran script.schedule begun p has_run in
    age_on IsSimulated g.D.Disk.told g.D.Disk.faults script start c.args.nth c.args.logs.now c.run.new.logs begun p
    c.run.result c.requires.ranges begins ran (record {
      sound = sound;
      ended = schedule_ends script.schedule begun p has_run;
      failing = all_failing script start c.args.nth begun p sound.group c.requires.ranges.group.lists
          c.requires.ranges.some_turn begins ran;
      opened = c.requires.logs;
      places = places_both c.args.logs.now c.make_room.new.logs c.run.new.logs c.make_room.ensures.places places;
      served = served c.args.logs.now
          (ready_with g.D.Disk.told g.D.Disk.faults script start c.args.nth begun c.args.logs.now
          c.make_room.new.logs c.requires.ranges.group.lists begins c.requires.logs c.make_room.ensures.places
          c.in_ok-make_room.ensures.room).1;
    }) same (simulated g c)

pub returns-clause-watched : goal.returns-clause-watched
returns-clause-watched g c =
    let (p, has_run, sound, same, served, places, opened, ended, opening, moves, closing) = c.run.ensures in
    record {
      over = p;
      is = simulated g c;
      opened = opened;
      ended = ended;
      opening = opening;
      moves = moves;
      closing = closing;
    }

pub returns-clause-places : goal.returns-clause-places
returns-clause-places g c =
    let (p, has_run, sound, same, served, places, opened, ended, opening, moves, closing) = c.run.ensures in
    places_both c.args.logs.now c.make_room.new.logs c.run.new.logs c.make_room.ensures.places places

pub returns-in_err-entries-clause-places : goal.returns-in_err-entries-clause-places
returns-in_err-entries-clause-places g c = places_same c.args.logs.now

pub returns-in_err-ends-clause-places : goal.returns-in_err-ends-clause-places
returns-in_err-ends-clause-places g c = places_same c.args.logs.now

pub returns-in_err-simulation-clause-places : goal.returns-in_err-simulation-clause-places
returns-in_err-simulation-clause-places g c = places_same c.args.logs.now
