use Rattle.std.proofs.Common.{List, sym, subst}
use Rattle.dr_entry.specs.declared.end.AgeEnd.{AgeEnd}
use Rattle.dr_live.{specs.Live.{AreReadyFor, calm_yard}, proofs.Course.none_yet}
use Rattle.dr_live.proofs.group.Group.new.Goals as goal

pub returns-clause-ready : goal.returns-clause-ready
returns-clause-ready c = λ plan lists.
    let yard = c.in_ok-new.field-0 in
    subst (λ (ages : List AgeEnd). AreReadyFor plan lists ages (calm_yard yard))
    (sym c.in_ok-with_capacity.ensures.items) (none_yet plan lists yard c.in_ok-new.ensures.empty)
