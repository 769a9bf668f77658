use Rattle.std.proofs.Common.{refl, ap, ◌∙◌}
use Rattle.dr_member.specs.Deeds.{is_append}
use Rattle.dr_program.specs.declared.outcome.Outcome.TheVariants as outcomes
use Rattle.dr_program.specs.Running.{next_deed}
use Rattle.dr_table.{specs.Cards.Seated, proofs.Members.inside_appended}
use Rattle.dr_table.proofs.seated.SeatedMember.append_failed.Goals as goal

pub invariant_of-self : goal.invariant_of-self
invariant_of-self c = inside_appended (outcomes.Failed c.args.why.now) c.self.invariant
    (record { places = refl; rest = refl }) refl (ap (λ (w : Seated). is_append (next_deed w.member)) c.self.view_is
    ∙ c.requires.deed) c.append_failed.ensures.after
