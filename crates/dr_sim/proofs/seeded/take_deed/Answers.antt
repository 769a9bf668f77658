use Rattle.std.{specs.Prelude.{Some, slice_set}, proofs.lemmas.Option.same_Some}
use Rattle.std.proofs.Common.{rules, refl, sym, ap, ◌∙◌, subst, le_of_eq, length, length-set, ◌<◌, arith}
use Rattle.dr_play.proofs.Sound.{appends_well, whole_table}
use Rattle.dr_served.{specs.Served.{AreReady, HaveServed}, proofs.Served.places_on}
use Rattle.dr_program.specs.{Presence.{present_at, with_present}, Program.has_ended, Running.Running}
use Rattle.dr_program.proofs.{Fixed.Told, Present.{present_kept, present_set, place_is, at_set}}
use Rattle.dr_program.proofs.RunningPrograms.{going_none}
use Rattle.dr_sim.specs.{Places.{HasServedAt, IsReadyAt}, Sound.program_over}
use Rattle.dr_sim.proofs.{Lists.{finds_lists, lists_on, taken_told}, Logs.{ready_on, served_on}}
use Rattle.dr_sim.proofs.{Places.{ready_at, same_place, served_at}, Steps.{sees_well, took}}
use Rattle.dr_sim.proofs.seeded.take_deed.Goals as goal

pub unreachable-requires : goal.unreachable-requires
unreachable-requires g c =
    let at = place_is c.args.members.now c.args.m c.index-members-m.result _ c.requires.1.1.1.1.1.0 c.in_default.is in
    absurd (cc (c.requires.1.1.1.1.0, ap has_ended at))

pub bounds-logs-me : goal.bounds-logs-me
bounds-logs-me g c =
    let at = place_is c.args.members.now c.args.m c.index-members-m.result _ c.requires.1.1.1.1.1.0 c.in-Some.is in
    let same = c.from-me.ensures ∙ c.me.ensures ∙ (c.requires.1.1.1.0.form.of c.args.m c.in-Some.member at).number in
    omega (arith, same, c.requires.1.1.1.1.1.1.0.all, c.requires.1.1.1.1.1.0)

pub offset_bounds-logs-me : goal.offset_bounds-logs-me
offset_bounds-logs-me g c =
    let at = place_is c.args.members.now c.args.m c.index-members-m.result _ c.requires.1.1.1.1.1.0 c.in-Some.is in
    let same = c.from-me.ensures ∙ c.me.ensures ∙ (c.requires.1.1.1.0.form.of c.args.m c.in-Some.member at).number in
    let below : c.from-me.result < length c.args.logs.now = omega (arith, same, c.requires.1.1.1.1.1.1.0.all, c.requires.1.1.1.1.1.0) in
    search rules

pub take-requires-clause-going : goal.take-requires-clause-going
take-requires-clause-going g c = λ ks within.
    let at = place_is c.args.members.now c.args.m c.index-members-m.result _ c.requires.1.1.1.1.1.0 c.in-Some.is in
    going_none c.in-Some.member (sym (ap has_ended at) ∙ c.requires.1.1.1.1.0)

pub take-requires-clause-size : goal.take-requires-clause-size
take-requires-clause-size g c = λ ks within.
    let at = place_is c.args.members.now c.args.m c.index-members-m.result _ c.requires.1.1.1.1.1.0 c.in-Some.is in
    le_of_eq (whole_table g.group (program_over c.args.members.now c.args.table.now c.args.posts.now.letters) c.args.m c.in-Some.member
    c.requires.1.1.1.0 at)

pub take-requires-clause-form : goal.take-requires-clause-form
take-requires-clause-form g c = λ ks within.
    let at = place_is c.args.members.now c.args.m c.index-members-m.result _ c.requires.1.1.1.1.1.0 c.in-Some.is in
    c.requires.1.1.1.0.form.form c.args.m c.in-Some.member at

pub take-requires-clause-sight : goal.take-requires-clause-sight
take-requires-clause-sight g c = λ ks within.
    let at = place_is c.args.members.now c.args.m c.index-members-m.result _ c.requires.1.1.1.1.1.0 c.in-Some.is in
    sees_well g.group (program_over c.args.members.now c.args.table.now c.args.posts.now.letters) c.args.m c.in-Some.member
    c.requires.1.1.1.0 at

pub take-requires-clause-appends : goal.take-requires-clause-appends
take-requires-clause-appends g c = λ ks within.
    let at = place_is c.args.members.now c.args.m c.index-members-m.result _ c.requires.1.1.1.1.1.0 c.in-Some.is in
    appends_well g.group (program_over c.args.members.now c.args.table.now c.args.posts.now.letters) c.args.m c.in-Some.member
    c.requires.1.1.1.0 at

pub take-requires-clause-ready : goal.take-requires-clause-ready
take-requires-clause-ready g c = λ ks within.
    let at = place_is c.args.members.now c.args.m c.index-members-m.result _ c.requires.1.1.1.1.1.0 c.in-Some.is in
    let same = c.from-me.ensures ∙ c.me.ensures ∙ (c.requires.1.1.1.0.form.of c.args.m c.in-Some.member at).number in
    ready_at c.args.logs.now c.args.members.now c.from-me.result c.index-logs-me.result c.in-Some.member
    c.requires.1.1.1.1.1.1.0 (ap (present_at c.args.members.now) same ∙ at)

pub take-requires-clause-lists : goal.take-requires-clause-lists
take-requires-clause-lists g c = λ ks within.
    let at = place_is c.args.members.now c.args.m c.index-members-m.result _ c.requires.1.1.1.1.1.0 c.in-Some.is in
    finds_lists g.group (program_over c.args.members.now c.args.table.now c.args.posts.now.letters) c.args.m
    c.in-Some.member c.args.table.now c.args.posts.now
    (record { sound = c.requires.1.1.1.0; there = at; table = refl; letters = refl }) (going_none c.in-Some.member
    (sym (ap has_ended at) ∙ c.requires.1.1.1.1.0)) (c.requires.1.1.1.1.1.1.1 c.args.m c.in-Some.member at)

pub returns-clause-lists : goal.returns-clause-lists
returns-clause-lists g c =
    let at = place_is c.args.members.now c.args.m c.index-members-m.result _ c.requires.1.1.1.1.1.0 c.in-Some.is in
    lists_on g.group (program_over c.args.members.now c.args.table.now c.args.posts.now.letters) c.args.posts.now
    c.take.new.posts c.args.m c.in-Some.member c.take.new.member c.requires.1.1.1.0 at
    (ap (λ (t : Told). t.late) (taken_told c.args.table.now c.args.posts.now.letters c.in-Some.member
    c.take.new.table c.take.new.posts.letters c.take.new.member
    (going_none c.in-Some.member (sym (ap has_ended at) ∙ c.requires.1.1.1.1.0)) c.take.ensures.taken))
    (c.take.ensures.lists (c.requires.1.1.1.1.1.1.1 c.args.m c.in-Some.member at)) c.take.ensures.same
    c.requires.1.1.1.1.1.1.1

pub returns-clause-took : goal.returns-clause-took
returns-clause-took g c =
    let at = place_is c.args.members.now c.args.m c.index-members-m.result _ c.requires.1.1.1.1.1.0 c.in-Some.is in
    took g.group (program_over c.args.members.now c.args.table.now c.args.posts.now.letters) c.args.m c.in-Some.member c.take.new.member
    c.take.new.table c.take.new.posts.letters c.requires.1.1.1.0 at
    (going_none c.in-Some.member (sym (ap has_ended at) ∙ c.requires.1.1.1.1.0))
    c.take.ensures.taken c.take.ensures.falls

pub returns-clause-ended : goal.returns-clause-ended
returns-clause-ended g c = c.take.ensures.ended
    ∙ sym (ap has_ended (present_set c.args.members.now c.args.m c.take.new.member c.requires.1.1.1.1.1.0))

pub returns-clause-ready : goal.returns-clause-ready
returns-clause-ready g c =
    let at = place_is c.args.members.now c.args.m c.index-members-m.result _ c.requires.1.1.1.1.1.0 c.in-Some.is in
    let same = c.from-me.ensures ∙ c.me.ensures ∙ (c.requires.1.1.1.0.form.of c.args.m c.in-Some.member at).number in
    subst (λ k. AreReady (slice_set c.args.logs.now k c.take.new.place)
    (with_present c.args.members.now c.args.m c.take.new.member)) (sym same)
    (ready_on c.args.logs.now c.take.new.place (program_over c.args.members.now c.args.table.now c.args.posts.now.letters)
    (program_over (with_present c.args.members.now c.args.m c.take.new.member) c.take.new.table
    c.take.new.posts.letters) c.args.m c.requires.1.1.1.1.1.1.0
    (length-set c.args.members.now c.args.m (Some c.take.new.member))
    (λ i other. present_kept c.args.members.now c.args.m i c.take.new.member other)
    (λ r there. at_set (IsReadyAt c.take.new.place) c.args.members.now c.args.m c.take.new.member r
    c.requires.1.1.1.1.1.0 c.take.ensures.ready there)
    (omega (arith, c.requires.1.1.1.1.1.1.0.all, c.requires.1.1.1.1.1.0)))

pub returns-clause-places : goal.returns-clause-places
returns-clause-places g c =
    let at = place_is c.args.members.now c.args.m c.index-members-m.result _ c.requires.1.1.1.1.1.0 c.in-Some.is in
    let same = c.from-me.ensures ∙ c.me.ensures ∙ (c.requires.1.1.1.0.form.of c.args.m c.in-Some.member at).number in
    places_on c.args.logs.now c.from-me.result c.index-logs-me.result c.take.new.place
    (omega (arith, same, c.requires.1.1.1.1.1.1.0.all, c.requires.1.1.1.1.1.0))
    (same_place _ c.take.new.place c.in-Some.member c.take.new.member
    (ready_at c.args.logs.now c.args.members.now c.from-me.result c.index-logs-me.result c.in-Some.member
    c.requires.1.1.1.1.1.1.0 (ap (present_at c.args.members.now) same ∙ at)) c.take.ensures.ready)

pub returns-clause-served : goal.returns-clause-served
returns-clause-served g c = λ bases served.
    let at = place_is c.args.members.now c.args.m c.index-members-m.result _ c.requires.1.1.1.1.1.0 c.in-Some.is in
    let same = c.from-me.ensures ∙ c.me.ensures ∙ (c.requires.1.1.1.0.form.of c.args.m c.in-Some.member at).number in
    let within : c.args.m < length c.args.logs.now = omega (arith, c.requires.1.1.1.1.1.1.0.all, c.requires.1.1.1.1.1.0) in
    subst (λ k. HaveServed g.D.Disk.told g.D.Disk.faults bases (slice_set c.args.logs.now k c.take.new.place)
    (with_present c.args.members.now c.args.m c.take.new.member)) (sym same)
    (served_on g.D.Disk.told g.D.Disk.faults bases c.args.logs.now c.take.new.place
    (program_over c.args.members.now c.args.table.now c.args.posts.now.letters)
    (program_over (with_present c.args.members.now c.args.m c.take.new.member) c.take.new.table
    c.take.new.posts.letters) c.args.m
    (λ i other. present_kept c.args.members.now c.args.m i c.take.new.member other) within
    (λ base from r there. at_set (HasServedAt g.D.Disk.told g.D.Disk.faults base c.take.new.place)
    c.args.members.now c.args.m c.take.new.member r c.requires.1.1.1.1.1.0
    (c.take.ensures.served base (served_at g.D.Disk.told g.D.Disk.faults bases c.args.logs.now c.args.members.now
    c.from-me.result c.index-logs-me.result base c.in-Some.member (omega (arith, same, within)) served
    (ap (present_at bases) same ∙ from) (ap (present_at c.args.members.now) same ∙ at))) there) served)

pub returns-clause-told : goal.returns-clause-told
returns-clause-told g c = λ r there.
    let at = place_is c.args.members.now c.args.m c.index-members-m.result _ c.requires.1.1.1.1.1.0 c.in-Some.is in
    subst (λ (x : Running). g.W.Watcher.sees c.args.watcher.now x c.args.table.now c.take.new.watcher)
    (same_Some c.in-Some.member r (sym at ∙ there)) c.take.ensures.told
