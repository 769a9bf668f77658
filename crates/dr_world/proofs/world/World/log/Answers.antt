use Rattle.std.proofs.{Common.{sym, ap, ◌∙◌, length, arith}, lemmas.List.length-take-le}
use Rattle.dr_world.proofs.world.World.log.Goals as goal

pub slice_bounds-result-end : goal.slice_bounds-result-end
slice_bounds-result-end c =
    let form = c.replica.ensures.members.form c.args.m c.in-Some.replica (c.replica.ensures.replica ∙ c.in-Some.is) in
    sym (length-take-le c.logged.result c.history.result.now
    (omega (arith, form.logged, c.logged.ensures, ap length c.history.ensures)))
