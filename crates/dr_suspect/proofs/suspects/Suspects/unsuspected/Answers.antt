use Rattle.std.proofs.Common.{not}
use Rattle.dr_history.{specs.Members.has, proofs.Masks.members_kept}
use Rattle.dr_suspect.proofs.suspects.Suspects.unsuspected.Goals as goal

pub returns-clause-list : goal.returns-clause-list
returns-clause-list c = rw (← c.self.view_is)
    (members_kept (λ i. not (has c.self.inside.suspects i)) c.self.inside.members c.without.result
    c.without.ensures.members)
