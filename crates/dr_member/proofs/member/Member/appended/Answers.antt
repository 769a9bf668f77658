use Rattle.std.proofs.Common.{sym, ap, ◌∙◌}
use Rattle.dr_program.specs.{Running.Running, Turn.part_of}
use Rattle.dr_member.proofs.member.Member.appended.Goals as goal

pub entry_appended-requires-clause-at : goal.entry_appended-requires-clause-at
entry_appended-requires-clause-at c = λ e. c.in_default.not-Vote
    (c.part_of.ensures ∙ ap (λ (x : Running). part_of x.place) c.self.view_is ∙ e)

pub vote_appended-requires-clause-at : goal.vote_appended-requires-clause-at
vote_appended-requires-clause-at c =
    sym (ap (λ (x : Running). part_of x.place) c.self.view_is) ∙ sym c.part_of.ensures ∙ c.in-Vote.is
