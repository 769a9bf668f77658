use Rattle.std.{specs.Prelude.Option, proofs.Common.{◌≡◌, ◌<◌, List, length}}
use Rattle.dr_log.specs.State.{LogState}
use Rattle.dr_served.specs.Served.{AreReady, HaveSamePlaces, HaveServed}
use Rattle.dr_program.specs.Schedule.{going}
use Rattle.dr_play.specs.Sound.{IsSound}
use Rattle.dr_sim.{specs.{Lists.HaveSpares, Sound.{all_left, program_over}}, proofs.Choices.HasChosen}
use Rattle.dr_sim.proofs.seeded.run_by_seed.Given as goal

abbrev pub ghost-take_deed : goal.ghost-take_deed
ghost-take_deed g a = g.group

abbrev pub invariant-members : goal.invariant-members
invariant-members g l = record {
  sound : IsSound g.group (program_over l.members l.table l.posts.letters);
  going : l.going.items ≡ going (program_over l.members l.table l.posts.letters);
  chosen : HasChosen g.W.Watcher.sees l.fn.watcher l.watcher l.seed (program_over l.fn.members l.fn.table l.fn.posts.letters) l.lcg (program_over l.members l.table l.posts.letters);
  ready : AreReady l.logs l.members;
  lists : HaveSpares l.posts l.members;
  places : HaveSamePlaces l.fn.logs l.logs;
  served : (bases : List (Option (LogState g.row.D.Denot)))
      → HaveServed g.D.Disk.told g.D.Disk.faults bases l.fn.logs l.fn.members
      → HaveServed g.D.Disk.told g.D.Disk.faults bases l.logs l.members;
}

abbrev pub decreases-members : goal.decreases-members
decreases-members g l = length l.going.items

abbrev pub invariant-deeds : goal.invariant-deeds
invariant-deeds g l = record {
  sound : IsSound g.group (program_over l.members l.table l.posts.letters);
  going : l.going.items ≡ going (program_over l.members l.table l.posts.letters);
  few : l.few ≡ length l.going.items;
  some : 0 < l.few;
  chosen : HasChosen g.W.Watcher.sees l.fn.watcher l.watcher l.seed (program_over l.fn.members l.fn.table l.fn.posts.letters) l.lcg (program_over l.members l.table l.posts.letters);
  ready : AreReady l.logs l.members;
  lists : HaveSpares l.posts l.members;
  places : HaveSamePlaces l.fn.logs l.logs;
  served : (bases : List (Option (LogState g.row.D.Denot)))
      → HaveServed g.D.Disk.told g.D.Disk.faults bases l.fn.logs l.fn.members
      → HaveServed g.D.Disk.told g.D.Disk.faults bases l.logs l.members;
}

abbrev pub decreases-deeds : goal.decreases-deeds
decreases-deeds g l = all_left (program_over l.members l.table l.posts.letters)
