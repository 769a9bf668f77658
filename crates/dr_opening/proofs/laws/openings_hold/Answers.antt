use Rattle.std.proofs.Common.{refl, sym, subst, List}
use Rattle.dr_quorum.specs.Handing.{handed_by}
use Rattle.dr_quorum_laws.specs.Holding.{HoldSince}
use Rattle.dr_restart.specs.{Groups.{first_group_of, group_of}, declared.lists.Attempt.Attempt}
use Rattle.dr_opening.{specs.Lists.all_as_lists, proofs.Trying.told_try}
use Rattle.dr_opening.proofs.laws.openings_hold.Goals as goal

pub returns-clause-held : goal.returns-clause-held
returns-clause-held c w contents run left held is among came told =
    let g = group_of c.args.script.now c.args.start.now in
    subst (λ (l : List Attempt). HoldSince g w c.args.choice.now l c.args.after.now) (sym c.requires.tries)
    (c.held_by_try.ensures.tried w run left held
    (told_try g.opening contents c.args.before.now c.args.after.now c.args.added.now c.requires.group.most_members
    (record {
      all = is.all;
      chosen = c.choices_go_by_messages.ensures.start (first_group_of c.args.script.now).opening g.opening
          (handed_by (all_as_lists contents)) c.args.added.now.start refl is.chosen;
    }) among came told))

pub returns-clause-kept : goal.returns-clause-kept
returns-clause-kept c w contents next run left held is among came told chosen =
    let g = group_of c.args.script.now c.args.start.now in
    c.kept_by_majority.ensures w next run left
    (subst (λ (l : List Attempt). HoldSince g w c.args.choice.now l c.args.after.now) (sym c.requires.tries)
    (c.held_by_try.ensures.tried w run left held
    (told_try g.opening contents c.args.before.now c.args.after.now c.args.added.now c.requires.group.most_members
    (record {
      all = is.all;
      chosen = c.choices_go_by_messages.ensures.start (first_group_of c.args.script.now).opening g.opening
          (handed_by (all_as_lists contents)) c.args.added.now.start refl is.chosen;
    }) among came told))) chosen
