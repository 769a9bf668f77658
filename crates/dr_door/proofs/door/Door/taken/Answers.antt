use Rattle.std.specs.Prelude.{IfSome, Option, None, Some, option_map}
use Rattle.std.proofs.Common.{◌∙◌, ap, subst, sym}
use Rattle.dr_member.specs.Deeds.{is_take}
use Rattle.dr_program.specs.Running.{Running, next_deed}
use Rattle.dr_door.{specs.{Inside.IsKept, Letters.Suits, Lone.Lone}, proofs.Kept.kept_asked}
use Rattle.dr_door.proofs.door.Door.taken.Goals as goal

mapped : {A B : Type 0} (f : A → B) (P : B → Type 0) (o : Option A) → IfSome o (λ a. P (f a)) → IfSome (option_map f o) P
mapped f P None is = is
mapped f P (Some a) is = is

pub invariant_of-self : goal.invariant_of-self
invariant_of-self c = record {
  form = c.taken.ensures.form;
  kept = subst (λ (x : Running). IsKept x.replica c.self.inside.words.items) (sym c.taken.ensures.after)
      (kept_asked (option_map (λ list. list.now) c.args.letter) c.self.inside.member c.self.inside.words.items
      c.self.invariant.form c.self.invariant.kept
      (ap (λ (d : Lone). is_take (next_deed d.member)) c.self.view_is ∙ sym c.takes.ensures ∙ c.if-not-takes.false)
      (subst (λ (d : Lone). IfSome (option_map (λ list. list.now) c.args.letter) (Suits d.member.replica))
      (sym c.self.view_is) (mapped (λ list. list.now) (Suits c.args.self.now.member.replica) c.args.letter
      (c.suits.ensures.0 c.if-not-suits.false))));
}
