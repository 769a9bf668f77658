use Rattle.std.{specs.Prelude.Option, proofs.Common.{ap, ◌∙◌, List, map}}
use Rattle.dr_log.specs.State.{LogState}
use Rattle.dr_served.specs.Served.{HaveSamePlaces, HaveServed}
use Rattle.dr_play.specs.Sound.{IsSound}
use Rattle.dr_program.specs.Program.{Program, end_at}
use Rattle.dr_sim.{specs.{Simulated.HasRun, Watched.WasTold}, proofs.age.run.Goals.{in-Lockstep, in-Seed}}
use Rattle.dr_sim.proofs.age.run.Goals as goal

pub tell_end-requires : goal.tell_end-requires
tell_end-requires g c = λ ks within. elim c.match-script.branch [
  | in-Lockstep w ↦ (within, rw w.simulation-is w.run_lockstep.ensures.sound)
  | in-Seed w ↦ (within, rw w.simulation-is w.run_seeded.ensures.sound)
]

pub returns : goal.returns
returns g c =
    let over : Program = c.match-script.simulation in
    let ran : ((run : HasRun c.args.script.now.schedule c.args.simulation over)
    × WasTold g.W.Watcher.sees c.args.simulation run.moves c.open.new.self c.match-script.watcher)
    × IsSound g.group over × ((bases : List (Option (LogState g.row.D.Denot)))
    → HaveServed g.D.Disk.told g.D.Disk.faults bases c.args.logs.now c.args.simulation.members
    → HaveServed g.D.Disk.told g.D.Disk.faults bases c.match-script.logs over.members)
    × HaveSamePlaces c.args.logs.now c.match-script.logs = elim c.match-script.branch [
      | in-Lockstep w ↦ rw (w.simulation-is, w.watcher-is, w.logs-is, w.in-Lockstep.is) (
        w.run_lockstep.ensures.run,
        w.run_lockstep.ensures.sound,
        w.run_lockstep.ensures.served,
        w.run_lockstep.ensures.places,
      )
      | in-Seed w ↦ rw (w.simulation-is, w.watcher-is, w.logs-is, w.in-Seed.is) (
        w.run_seeded.ensures.run,
        w.run_seeded.ensures.sound,
        w.run_seeded.ensures.served,
        w.run_seeded.ensures.places,
      )
    ] in (
      over,
      ran.0.0,
      ran.1,
      (λ z. record {
        age = c.args.start.now.age;
        start = c.requires.1.1.1.1.0 z;
        members = (c.of.ensures ∙ c.ends_of.ensures ∙ ap (map end_at) c.into_members.ensures) z;
      }),
      ran.2,
      ran.3,
      c.open.new.self,
      c.match-script.watcher,
      c.open.ensures,
      ran.0.1,
      c.tell_end.ensures,
    )
