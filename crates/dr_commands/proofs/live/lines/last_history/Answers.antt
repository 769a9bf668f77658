use Rattle.std.proofs.Common.{ap, sym, ◌∙◌}
use Rattle.dr_summary.specs.Histories.{longest}
use Rattle.dr_commands.proofs.LiveLasts.{last_longest}
use Rattle.dr_commands.proofs.live.lines.last_history.Goals as goal

pub returns-in-len1-up : goal.returns-in-len1-up
returns-in-len1-up c = c.longest.ensures ∙ ap longest c.as_slice.ensures
    ∙ sym (last_longest c.args.ages.now c.age-item.result c.in-len1-up.len_at_least c.age-item.is)
