use Rattle.std.proofs.Common.{refl, sym}
use Rattle.dr_restart.{specs.Groups.first_start_of, proofs.Groups.all_present}
use Rattle.dr_tools.proofs.Calm.{all_done}
use Rattle.dr_tools.proofs.explaining.turns.complete.Goals as goal

pub returns : goal.returns
returns c =
    let script = c.args.script.now in
    let age = c.in_ok-first_age.field-0 in
    let first = c.in_ok-first_age.ensures.first in
    let complete = c.timely_ages_complete.ensures script (first_start_of script) 0 age first.over
    c.in_ok-first_age.ensures.group (all_present script c.requires.ranges.group.lists) refl c.requires.ranges first.run
    c.requires.time first.stored in
    record { age = age; is = first; done = sym (all_done age.members (λ m e at. (complete m e at).end)) }
