use Rattle.std.proofs.{Common.{sym, arith}, lemmas.List.length-take-le}
use Rattle.dr_machine.proofs.Runs.{events_reached}
use Rattle.dr_world_laws.proofs.Worlds.{durable_delivered}
use Rattle.dr_world.specs.Held.{its_group, its_world}
use Rattle.dr_agree.proofs.keeping.durable_entries.Goals as goal

pub slice_bounds-result-end : goal.slice_bounds-result-end
slice_bounds-result-end c =
    let w = its_world c.args.world.now in
    let short = durable_delivered (its_group c.args.world.now) w c.args.m c.requires.group
    (events_reached (its_group c.args.world.now) w c.requires.events) c.requires.present in
    rw (c.durable.ensures, c.history.ensures)
    (sym (length-take-le (w.past.durable c.args.m) (w.past.history c.args.m) (omega (arith, short))))
