use Rattle.std.proofs.Common.{arith}
use Rattle.dr_history.proofs.Keeping.{front_of_longest}
use Rattle.dr_restart.specs.Left.{entries_on_logs}
use Rattle.dr_opening.proofs.{Trying.chosen_by, Whole.{all_in_set, entries_among}}
use Rattle.dr_opening.proofs.laws.whole_openings_cut_nothing.Goals as goal

pub returns : goal.returns
returns c o contents lists start few is among all there along m content at =
    front_of_longest (entries_on_logs lists) start.entries content.entries m along
    (c.all_logs_give_the_longest.ensures o lists start.present start (chosen_by o contents lists start is few among)
    (λ i l. all_in_set o contents start i is few (there i (omega (arith, l, all)))) along)
    (entries_among contents lists m content among at)
