-- What a member judges, by the code's tests.
use Rattle.std.specs.{Option.{option_map, option_or}, Prelude.{Option, Some, None}}
use Rattle.std.proofs.Common.{◌≡◌, refl, ◌∙◌, ℕ}
use Rattle.dr_machine.specs.declared.event.Act.{Act}
use Rattle.dr_machine.specs.declared.event.Act.TheVariants as acts
use Rattle.dr_program.specs.Running.{Running, judgement, minority, named_by, overdue, scripted, told}
use Rattle.dr_member.specs.Judge.{suspicion}

-- where no other member names it, it judges whom it suspects, and else its end with too few others
pub judgement_by : (r : Running) (other : Option ℕ) (few : Option Act) → named_by r.replica ≡ None
    → suspicion r ≡ other → minority r.replica ≡ few → judgement r ≡ option_or (option_map acts.Suspect other) few
judgement_by r other few none a b = by _ acts.Suspect (named_by r.replica) (scripted r)
    (told r.replica) (overdue r) (minority r.replica) none ∙ (λ z. option_or (option_map acts.Suspect (a z)) (b z))
  where
    by : (f g : ℕ → Act) (named script spread late : Option ℕ) (few : Option Act) → named ≡ None
        → option_or (option_map f named) (option_or (option_map g script)
        (option_or (option_map g spread) (option_or (option_map g late) few)))
        ≡ option_or (option_map g (option_or script (option_or spread late))) few
    by f g (Some i) script spread late few none = absurd (cc)
    by f g None (Some i) spread late few none = refl
    by f g None None (Some i) late few none = refl
    by f g None None None late few none = refl
