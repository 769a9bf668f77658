use Rattle.std.proofs.Common.{refl, sym, ap, ◌∙◌, subst}
use Rattle.dr_served.specs.Appended.{is_append}
use Rattle.dr_member.proofs.Deeds.{stays_going}
use Rattle.dr_sim.{specs.Deeds.own_letter, proofs.Places.{ready_still, ready_took, served_still, served_took}}
use Rattle.dr_sim.{specs.Places.{HasServedAt, IsReadyAt}, proofs.Lists.{lists_after, lists_still, taken_told}}
use Rattle.dr_sim.proofs.Deeds.{act_taken, give_taken, look_seen, look_taken, push_taken, take_taken}
use Rattle.dr_world.specs.{Posts.PostsOf, Steps.posts_after}
use Rattle.dr_play.proofs.Deeds.{at_act, at_give, at_look, at_push, at_take}
use Rattle.dr_sim.proofs.deed.take.Goals as goal

pub looked-requires : goal.looked-requires
looked-requires g c = look_seen c.args.table.now c.args.member.now _ c.requires.sight (sym c.in-Look.ensures.deed)

pub returns-in-Look-clause-taken : goal.returns-in-Look-clause-taken
returns-in-Look-clause-taken g c =
    look_taken c.args.table.now c.args.posts.now.letters c.args.member.now _ c.looked.new.self (sym c.in-Look.ensures.deed)
    c.looked.ensures.after

pub returns-in-Look-clause-lists : goal.returns-in-Look-clause-lists
returns-in-Look-clause-lists g c = lists_still c.args.posts.now c.args.member.now c.looked.new.self
    (taken_told c.args.table.now c.args.posts.now.letters c.args.member.now _ c.args.posts.now.letters c.looked.new.self c.requires.going
    (look_taken c.args.table.now c.args.posts.now.letters c.args.member.now _ c.looked.new.self (sym c.in-Look.ensures.deed)
    c.looked.ensures.after))

pub returns-in-Look-clause-ended : goal.returns-in-Look-clause-ended
returns-in-Look-clause-ended g c = sym (stays_going _ c.args.member.now c.looked.new.self _
    (sym c.in-Look.ensures.deed) refl c.requires.going c.looked.ensures.after)

pub returns-in-Look-clause-ready : goal.returns-in-Look-clause-ready
returns-in-Look-clause-ready g c = subst (IsReadyAt c.args.place.now) (sym c.looked.ensures.after)
    (ready_still c.args.place.now _ c.args.member.now (at_look c.args.member.now _ (sym c.in-Look.ensures.deed)) c.requires.ready)

pub returns-in-Look-clause-served : goal.returns-in-Look-clause-served
returns-in-Look-clause-served g c = λ base served.
    subst (HasServedAt g.D.Disk.told g.D.Disk.faults base c.args.place.now) (sym c.looked.ensures.after)
    (served_still _ _ base c.args.place.now _ c.args.member.now (at_look c.args.member.now _ (sym c.in-Look.ensures.deed)) c.requires.going
    c.requires.form.replica.logged served)

pub returns-in-Push-clause-taken : goal.returns-in-Push-clause-taken
returns-in-Push-clause-taken g c =
    push_taken c.args.table.now c.args.posts.now.letters c.args.member.now _ _ _ c.pushed.new.self (sym c.in-Push.ensures.deed)
    c.pushed.ensures.after refl

pub returns-in-Push-clause-lists : goal.returns-in-Push-clause-lists
returns-in-Push-clause-lists g c = lists_still c.args.posts.now c.args.member.now c.pushed.new.self
    (taken_told c.args.table.now c.args.posts.now.letters c.args.member.now _ c.args.posts.now.letters c.pushed.new.self c.requires.going
    (push_taken c.args.table.now c.args.posts.now.letters c.args.member.now _ _ _ c.pushed.new.self (sym c.in-Push.ensures.deed)
    c.pushed.ensures.after refl))

pub returns-in-Push-clause-ended : goal.returns-in-Push-clause-ended
returns-in-Push-clause-ended g c = sym (stays_going 0 c.args.member.now c.pushed.new.self _
    (sym c.in-Push.ensures.deed) refl c.requires.going (c.pushed.ensures.after 0))

pub returns-in-Push-clause-ready : goal.returns-in-Push-clause-ready
returns-in-Push-clause-ready g c = subst (IsReadyAt c.args.place.now) (sym (c.pushed.ensures.after 0))
    (ready_still c.args.place.now 0 c.args.member.now (at_push c.args.member.now _ _ (sym c.in-Push.ensures.deed)) c.requires.ready)

pub returns-in-Push-clause-served : goal.returns-in-Push-clause-served
returns-in-Push-clause-served g c = λ base served.
    subst (HasServedAt g.D.Disk.told g.D.Disk.faults base c.args.place.now) (sym (c.pushed.ensures.after 0))
    (served_still _ _ base c.args.place.now 0 c.args.member.now (at_push c.args.member.now _ _ (sym c.in-Push.ensures.deed)) c.requires.going
    c.requires.form.replica.logged served)

pub returns-in-Act-clause-taken : goal.returns-in-Act-clause-taken
returns-in-Act-clause-taken g c =
    act_taken c.args.table.now c.args.posts.now.letters c.args.member.now _ _ _ c.acted.new.self (sym c.in-Act.ensures.deed)
    c.acted.ensures.after refl

pub returns-in-Act-clause-lists : goal.returns-in-Act-clause-lists
returns-in-Act-clause-lists g c = lists_still c.args.posts.now c.args.member.now c.acted.new.self
    (taken_told c.args.table.now c.args.posts.now.letters c.args.member.now _ c.args.posts.now.letters c.acted.new.self c.requires.going
    (act_taken c.args.table.now c.args.posts.now.letters c.args.member.now _ _ _ c.acted.new.self (sym c.in-Act.ensures.deed)
    c.acted.ensures.after refl))

pub returns-in-Act-clause-ready : goal.returns-in-Act-clause-ready
returns-in-Act-clause-ready g c = subst (IsReadyAt c.args.place.now) (sym (c.acted.ensures.after 0))
    (ready_still c.args.place.now 0 c.args.member.now (at_act c.args.member.now _ _ (sym c.in-Act.ensures.deed)) c.requires.ready)

pub returns-in-Act-clause-served : goal.returns-in-Act-clause-served
returns-in-Act-clause-served g c = λ base served.
    subst (HasServedAt g.D.Disk.told g.D.Disk.faults base c.args.place.now) (sym (c.acted.ensures.after 0))
    (served_still _ _ base c.args.place.now 0 c.args.member.now (at_act c.args.member.now _ _ (sym c.in-Act.ensures.deed)) c.requires.going
    c.requires.form.replica.logged served)

pub returns-in-Append-clause-taken : goal.returns-in-Append-clause-taken
returns-in-Append-clause-taken g c = c.append.ensures.taken c.args.table.now c.args.posts.now.letters

pub returns-in-Append-clause-lists : goal.returns-in-Append-clause-lists
returns-in-Append-clause-lists g c = lists_still c.args.posts.now c.args.member.now c.append.new.member
    (taken_told c.args.table.now c.args.posts.now.letters c.args.member.now _ c.args.posts.now.letters
    c.append.new.member c.requires.going (c.append.ensures.taken c.args.table.now c.args.posts.now.letters))

pub returns-in-Give-clause-taken : goal.returns-in-Give-clause-taken
returns-in-Give-clause-taken g c =
    give_taken c.args.table.now c.args.posts.now.letters c.args.member.now _ _ c.give.new.member
    (sym c.in-Give.ensures.deed) c.give.ensures.after (ap (λ (p : PostsOf). p.letters) c.give.ensures.posts)

pub returns-in-Give-clause-lists : goal.returns-in-Give-clause-lists
returns-in-Give-clause-lists g c = λ lists.
    let due = at_give c.args.member.now _ (sym c.in-Give.ensures.deed) in
    lists_after c.args.posts.now c.give.new.posts c.args.member.now c.give.new.member c.requires.going
    (taken_told c.args.table.now c.args.posts.now.letters c.args.member.now c.args.table.now _ c.give.new.member
    c.requires.going (give_taken c.args.table.now c.args.posts.now.letters c.args.member.now _ _ c.give.new.member
    (sym c.in-Give.ensures.deed) c.give.ensures.after (ap (λ (p : PostsOf). p.letters) c.give.ensures.posts)))
    (c.give.ensures.posts ∙ sym (ap (posts_after c.args.posts.now c.args.member.now.replica) due))
    c.requires.lists lists

pub returns-in-Give-clause-same : goal.returns-in-Give-clause-same
returns-in-Give-clause-same g c = ap (λ (p : PostsOf). p.room) c.give.ensures.posts

pub returns-in-Give-clause-ready : goal.returns-in-Give-clause-ready
returns-in-Give-clause-ready g c = subst (IsReadyAt c.args.place.now) (sym (c.give.ensures.after 0))
    (ready_still c.args.place.now 0 c.args.member.now
    (ap is_append (at_give c.args.member.now _ (sym c.in-Give.ensures.deed))) c.requires.ready)

pub returns-in-Give-clause-served : goal.returns-in-Give-clause-served
returns-in-Give-clause-served g c = λ base served.
    subst (HasServedAt g.D.Disk.told g.D.Disk.faults base c.args.place.now) (sym (c.give.ensures.after 0))
    (served_still _ _ base c.args.place.now 0 c.args.member.now
    (ap is_append (at_give c.args.member.now _ (sym c.in-Give.ensures.deed))) c.requires.going
    c.requires.form.replica.logged served)

pub returns-in-Take-clause-taken : goal.returns-in-Take-clause-taken
returns-in-Take-clause-taken g c =
    take_taken c.args.table.now c.args.posts.now.letters c.args.member.now c.take_letter.new.member
    (sym c.in-Take.ensures.deed) c.take_letter.ensures.after

pub returns-in-Take-clause-lists : goal.returns-in-Take-clause-lists
returns-in-Take-clause-lists g c = lists_still c.args.posts.now c.args.member.now c.take_letter.new.member
    (taken_told c.args.table.now c.args.posts.now.letters c.args.member.now _ c.args.posts.now.letters
    c.take_letter.new.member c.requires.going (take_taken c.args.table.now c.args.posts.now.letters c.args.member.now
    c.take_letter.new.member (sym c.in-Take.ensures.deed) c.take_letter.ensures.after))

pub returns-in-Take-clause-ready : goal.returns-in-Take-clause-ready
returns-in-Take-clause-ready g c = subst (IsReadyAt c.args.place.now) (sym c.take_letter.ensures.after)
    (ready_took c.args.place.now (own_letter c.args.posts.now.letters c.args.member.now) c.args.member.now
    c.requires.ready)

pub returns-in-Take-clause-served : goal.returns-in-Take-clause-served
returns-in-Take-clause-served g c = λ base served.
    subst (HasServedAt g.D.Disk.told g.D.Disk.faults base c.args.place.now) (sym c.take_letter.ensures.after)
    (served_took _ _ base c.args.place.now (own_letter c.args.posts.now.letters c.args.member.now) c.args.member.now
    (record { unended = c.requires.going; due = at_take c.args.member.now (sym c.in-Take.ensures.deed) })
    c.requires.form.replica.logged (c.requires.lists.goes_on (sym c.in-Take.ensures.deed)) served)
