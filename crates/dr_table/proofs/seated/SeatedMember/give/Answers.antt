use Rattle.std.proofs.Common.{[], sym, ap, ◌∙◌, refl, subst, arith}
use Rattle.dr_program.{specs.Running.{Running, after_step, next_deed}, proofs.Fixed.{told, after_told}}
use Rattle.dr_table.{specs.{Cards.{DealtTable, Seated}, Steps.IsReachedMember}, proofs.Keeping.give_reached}
use Rattle.dr_table.proofs.Members.{inside_after}
use Rattle.dr_table.proofs.seated.SeatedMember.give.Goals as goal

pub give_at-requires-clause-alone : goal.give_at-requires-clause-alone
give_at-requires-clause-alone c = c.self.invariant.known

pub give_at-requires-clause-reached : goal.give_at-requires-clause-reached
give_at-requires-clause-reached c = c.self.invariant.reached

pub give_at-requires-clause-size : goal.give_at-requires-clause-size
give_at-requires-clause-size c = c.self.invariant.of ∙ ap (λ (w : Seated). w.table.id.words) c.self.view_is
    ∙ ap (λ (t : DealtTable). t.id.words) c.requires.board

pub give_at-requires-clause-due : goal.give_at-requires-clause-due
give_at-requires-clause-due c = record {
  gives = λ one. ap (λ (w : Seated). next_deed w.member) c.self.view_is ∙ c.requires.deed;
  takes = λ two. absurd (omega (arith, two));
}

pub invariant_of-self : goal.invariant_of-self
invariant_of-self c =
    let after = c.given.ensures.after 0 in
    inside_after (after_step 0 c.self.inside.member) c.self.invariant (record { places = refl; rest = refl })
    c.give_at.ensures.given ([], sym after)
    (ap (λ (q : Running). told q.replica) after ∙ after_told 0 c.self.inside.member)
    (subst IsReachedMember (sym after) (give_reached c.self.inside.member c.args.late
    (ap (λ (w : Seated). next_deed w.member) c.self.view_is ∙ c.requires.deed) c.self.invariant.reached))
    c.give_at.ensures.table
