use Rattle.std.{specs.Prelude.None, proofs.Common.{◌≡◌, ap, sym, ◌∙◌}}
use Rattle.dr_program.specs.{Replica.{value_due, vote_of}, Running.{Running, next_deed}}
use Rattle.dr_program.proofs.RunningPrograms.{entry_deed, vote_deed}
use Rattle.dr_member.specs.{Inside.member_inside, Search.step_by}
use Rattle.dr_member.proofs.member.Member.due_deed.Goals as goal

pub returns-in-Append-clause-deed : goal.returns-in-Append-clause-deed
returns-in-Append-clause-deed c =
    let none : c.self.inside.replica.end ≡ None =
    ap (λ (r : Running). r.replica.end) c.self.view_is ∙ c.requires.going in
    entry_deed (member_inside c.self.inside) c.next_entry.result none
    (ap (λ d. step_by d c.self.inside.place (value_due c.self.inside.replica)) (sym c.in-Append.is)
    ∙ c.due_at.ensures) c.next_entry.ensures ∙ ap next_deed c.self.view_is

pub returns-in-Vote-clause-deed : goal.returns-in-Vote-clause-deed
returns-in-Vote-clause-deed c =
    let none : c.self.inside.replica.end ≡ None =
    ap (λ (r : Running). r.replica.end) c.self.view_is ∙ c.requires.going in
    vote_deed (member_inside c.self.inside) c.next_vote.result none
    (ap (λ d. step_by d c.self.inside.place (value_due c.self.inside.replica)) (sym c.in-Vote.is) ∙ c.due_at.ensures)
    (c.next_vote.ensures ∙ ap (λ r. vote_of r.replica (value_due r.replica)) (sym c.self.view_is))
    ∙ ap next_deed c.self.view_is
