use Rattle.std.proofs.Common.{◌∙◌, ℕ, ap, arith, length, subst, sym}
use Rattle.dr_member.specs.{Alone.{LeadsTo, SeesAlong}, Deeds.is_look}
use Rattle.dr_program.specs.Running.{next_deed}
use Rattle.dr_door.{specs.Lone.{LeadsBy, Lone}, proofs.Rows.{along, sees_along}}
use Rattle.dr_door.proofs.door.Door.look_row.Goals as goal

pub look_alone-requires-clause-deed : goal.look_alone-requires-clause-deed
look_alone-requires-clause-deed c = ap (λ (d : Lone). is_look (next_deed d.member)) c.self.view_is ∙ c.requires

pub look_alone-requires-clause-size : goal.look_alone-requires-clause-size
look_alone-requires-clause-size c = omega (arith, c.self.invariant.kept.whole, ap length c.as_slice.ensures.value)

pub look_alone-requires-clause-sight : goal.look_alone-requires-clause-sight
look_alone-requires-clause-sight c = subst (λ ws. SeesAlong ws c.self.inside.member) (sym c.as_slice.ensures.value)
    (sees_along c.self.inside.words.items c.self.inside.member c.self.invariant.form c.self.invariant.kept)

pub invariant_of-self : goal.invariant_of-self
invariant_of-self c =
    let taken = subst (λ ws. (n : ℕ) × LeadsTo n ws c.self.inside.member ws c.look_alone.new.self) c.as_slice.ensures.value
    c.look_alone.ensures.taken in
    let on = along taken.0 c.self.inside.words.items c.self.inside.member c.look_alone.new.self c.self.invariant.form
    c.self.invariant.kept taken.1 in
    record { form = on.0; kept = on.1 }

pub returns-clause-led : goal.returns-clause-led
returns-clause-led c =
    let taken = subst (λ ws. (n : ℕ) × LeadsTo n ws c.self.inside.member ws c.look_alone.new.self) c.as_slice.ensures.value
    c.look_alone.ensures.taken in
    let on = along taken.0 c.self.inside.words.items c.self.inside.member c.look_alone.new.self c.self.invariant.form
    c.self.invariant.kept taken.1 in (
      taken.0,
      subst (λ d. LeadsBy taken.0 d (record { member = c.look_alone.new.self; words = c.self.inside.words.items }))
          c.self.view_is on.2,
    )
