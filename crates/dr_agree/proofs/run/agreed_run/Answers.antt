use Rattle.std.proofs.Common.{◌∙◌}
use Rattle.dr_machine.proofs.Runs.{run_reached}
use Rattle.dr_restart.specs.Groups.{group_of}
use Rattle.dr_world.{specs.Held.its_world, proofs.Holding.from_opening}
use Rattle.dr_world_laws.proofs.Worlds.{Known, agreed, known, no_later}
use Rattle.dr_agree.proofs.Certain.{done_hold_all, views_agreed, whole_are_one}
use Rattle.dr_agree.proofs.run.agreed_run.Goals as goal

pub returns : goal.returns
returns c =
    let g = group_of c.args.script.now c.args.start.now in
    let w = its_world c.run.new.self in
    let run = from_opening c.args.script.now c.args.start.now c.in_ok-world.world c.run.new.self c.args.events.now
    c.in_ok-world.ensures.script c.in_ok-world.ensures.start c.in_ok-world.ensures.opening c.run.ensures.run in
    let y : Known g w = known g w c.requires.group (run_reached g w c.args.events.now run) in
    record {
      run = run;
      agreed = agreed g w c.requires.group y;
      views = views_agreed g w c.requires.group y;
      done = done_hold_all g w c.requires.group y;
      whole = whole_are_one g w c.requires.group y;
      no_later_item = no_later g w c.requires.group y;
      script = c.run.ensures.script ∙ c.in_ok-world.ensures.script;
      start = c.run.ensures.start ∙ c.in_ok-world.ensures.start;
    }
