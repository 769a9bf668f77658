use Rattle.std.proofs.Common.{◌||◌, sym, ap, ◌∙◌}
use Rattle.dr_program.specs.Running.{crashes_now}
use Rattle.dr_member.specs.Search.{standing}
use Rattle.dr_member.proofs.search.has_pushes.Goals as goal

pub returns-else-is_inside : goal.returns-else-is_inside
returns-else-is_inside c = λ place. c.crashes_now.ensures c.args.replica.now place c.requires
    ∙ ap (λ b. b || crashes_now (standing c.args.replica.now c.args.fate.now place))
    (sym c.if-is_inside.false ∙ c.is_inside.ensures)
