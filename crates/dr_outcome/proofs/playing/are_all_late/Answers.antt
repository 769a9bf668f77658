use Rattle.std.proofs.Common.{◌∙◌, ◌&&◌, ap, sym, subst, Bool, MatchBool, not}
use Rattle.dr_ages.specs.Ages.{HaveSomebodyPrompt}
use Rattle.dr_history.specs.Members.{has}
use Rattle.dr_outcome.{specs.Outcome.AreAllLate, proofs.Due.all_late}
use Rattle.dr_outcome.proofs.playing.are_all_late.Goals as goal

pub all-requires-clause-some : goal.all-requires-clause-some
all-requires-clause-some c = c.requires.group.some_member

pub all-requires-clause-most : goal.all-requires-clause-most
all-requires-clause-most c = c.requires.group.most_members

pub returns : goal.returns
returns c =
    let script = c.args.script.now in
    let part = c.args.part.now in
    subst (λ (b : Bool). MatchBool b (AreAllLate script part) (HaveSomebodyPrompt script part))
    (sym c.is_first_alone.ensures) (all_late script part c.without-there.result c.without-prompt.result
    (λ i. c.without-there.ensures.members i ∙ ap (λ b. b && not (has part.missing i)) (c.all.ensures.members i))
    c.without-prompt.ensures.members c.least-some.result c.least-first.result c.least-some.ensures.least
    c.least-first.ensures.least)
