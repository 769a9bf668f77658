use Rattle.std.{specs.List.slice_split, proofs.Common.{◌≡◌, ◌∙◌, ◌==◌, ◌&&◌, ap, arith, false, rules, sym, true}}
use Rattle.dr_tools.{specs.OutcomeForms.{are_ages, is_last}, proofs.Forms.{with_colon, without_colon}}
use Rattle.dr_tools.proofs.sweeps.forms.is_outcome.Goals as goal

pub returns-then-are_ages : goal.returns-then-are_ages
returns-then-are_ages c =
    let parts = c.in-Some.ensures.byte (omega arith) (λ w o found. found) in
    let texts = slice_split (λ byte. byte == 124) c.in-Some.ends.now in
    let fit : are_ages c.args.members c.args.ages texts ≡ true = search rules in
    c.is_last.ensures ∙ sym (ap (λ b. b && is_last c.in-Some.last.now) fit)
    ∙ with_colon c.args.members c.args.ages c.args.line.now c.in-Some.ends.now c.in-Some.last.now parts.0 parts.1
    parts.2

pub returns-else-are_ages : goal.returns-else-are_ages
returns-else-are_ages c =
    let parts = c.in-Some.ensures.byte (omega arith) (λ w o found. found) in
    let texts = slice_split (λ byte. byte == 124) c.in-Some.ends.now in
    let unfit : are_ages c.args.members c.args.ages texts ≡ false = search rules in
    c.are_ages.ensures ∙ unfit ∙ sym (ap (λ b. b && is_last c.in-Some.last.now) unfit)
    ∙ with_colon c.args.members c.args.ages c.args.line.now c.in-Some.ends.now c.in-Some.last.now parts.0 parts.1
    parts.2

pub returns-in-None : goal.returns-in-None
returns-in-None c = c.is_last-in-None.ensures ∙ without_colon c.args.members c.args.ages c.args.line.now
    (c.in-None.ensures.byte (omega arith) (λ w o found. found))
