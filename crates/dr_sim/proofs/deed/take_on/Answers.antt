use Rattle.std.proofs.Common.{refl, sym, ap, ◌∙◌, subst, inl, inr, ◌||◌, ◌≤◌, ℕ, List, length, arith}
use Rattle.std.proofs.lemmas.List.{with_items_is}
use Rattle.dr_program.proofs.RunningPrograms.{going_none}
use Rattle.dr_member.specs.{Alone.{LeadsTo, SeesAlong}, Deeds.{is_look, is_push, table_size}}
use Rattle.dr_play.proofs.Sound.{appends_well, entries_valid}
use Rattle.dr_sim.{specs.Deeds.SeesWell, proofs.{Lists.finds_lists, Steps.sees_well}}
use Rattle.dr_sim.proofs.Sweeps.{come_lists, come_ready, come_served, lists_alone, sees_along, somewhere_logged, whole_words}
use Rattle.dr_sim.proofs.deed.take_on.Goals as goal

pub take-requires-clause-size : goal.take-requires-clause-size
take-requires-clause-size g c = λ ks within. subst (λ words. table_size c.args.member.now ≤ length words)
    (sym c.as_mut_slice-in_default.ensures.value)
    (whole_words c.args.table.now.items c.args.posts.now.letters c.args.member.now c.requires.somewhere)

pub take-requires-clause-form : goal.take-requires-clause-form
take-requires-clause-form g c = λ ks within.
    let (h, p, m, is) = c.requires.somewhere in is.sound.form.form m c.args.member.now is.there

pub take-requires-clause-sight : goal.take-requires-clause-sight
take-requires-clause-sight g c = λ ks within.
    let (h, p, m, is) = c.requires.somewhere in
    subst (λ t. SeesWell t c.args.member.now) (is.table ∙ sym c.as_mut_slice-in_default.ensures.value)
    (sees_well h p m c.args.member.now is.sound is.there)

pub take-requires-clause-appends : goal.take-requires-clause-appends
take-requires-clause-appends g c = λ ks within.
    let (h, p, m, is) = c.requires.somewhere in appends_well h p m c.args.member.now is.sound is.there

pub take-requires-clause-lists : goal.take-requires-clause-lists
take-requires-clause-lists g c = λ ks within.
    let (h, p, m, is) = c.requires.somewhere in
    finds_lists h p m c.args.member.now c.args.table.now.items c.args.posts.now is
    (going_none c.args.member.now c.requires.going) c.requires.lists

pub look_alone-requires-clause-size : goal.look_alone-requires-clause-size
look_alone-requires-clause-size g c =
    subst (λ words. table_size c.args.member.now ≤ length words) (sym c.as_slice.ensures.value)
    (whole_words c.args.table.now.items c.args.posts.now.letters c.args.member.now c.requires.somewhere)

pub look_alone-requires-clause-sight : goal.look_alone-requires-clause-sight
look_alone-requires-clause-sight g c =
    subst (λ words. SeesAlong words c.args.member.now) (sym c.as_slice.ensures.value)
    (sees_along c.args.table.now.items c.args.posts.now.letters c.args.member.now c.requires.somewhere)

pub push_alone-requires-clause-size : goal.push_alone-requires-clause-size
push_alone-requires-clause-size g c =
    subst (λ words. table_size c.args.member.now ≤ length words) (sym c.as_mut_slice.ensures.value)
    (whole_words c.args.table.now.items c.args.posts.now.letters c.args.member.now c.requires.somewhere)

pub returns-in-Look-clause-goes : goal.returns-in-Look-clause-goes
returns-in-Look-clause-goes g c = inr (
  inl (
    ap (λ d. is_look d || is_push d) (sym c.in-Look.ensures.deed),
    subst (λ words. (n : ℕ) × LeadsTo n words c.args.member.now words c.look_alone.new.self)
        c.as_slice.ensures.value c.look_alone.ensures.taken,
  ),
  refl,
  refl,
  c.takes_note-noted.ensures c.if-not-noted.true,
)

pub returns-in-Look-clause-lists : goal.returns-in-Look-clause-lists
returns-in-Look-clause-lists g c = come_lists c.args.posts.now _ _ _ _ c.look_alone.ensures.taken c.requires.lists

pub returns-in-Look-clause-ready : goal.returns-in-Look-clause-ready
returns-in-Look-clause-ready g c = come_ready c.args.place.now _ _ _ _ c.look_alone.ensures.taken c.requires.ready

pub returns-in-Look-clause-served : goal.returns-in-Look-clause-served
returns-in-Look-clause-served g c = λ base served.
    come_served g.D.Disk.told g.D.Disk.faults base c.args.place.now _ _ _ _ c.look_alone.ensures.taken
    (somewhere_logged c.args.member.now c.args.table.now.items c.args.posts.now.letters c.requires.somewhere) served

pub returns-in-Push-clause-goes : goal.returns-in-Push-clause-goes
returns-in-Push-clause-goes g c = inr (
  inl (
    ap (λ d. is_look d || is_push d) (sym c.in-Push.ensures.deed),
    subst (λ (words : List ℕ × List ℕ). (n : ℕ) × LeadsTo n words.0 c.args.member.now words.1 c.push_alone.new.self)
        (λ z. (
          c.as_mut_slice.ensures.value z,
          sym (with_items_is c.args.table.now c.push_alone.new.table
              (omega (arith, c.push_alone.auto.table, ap length c.as_mut_slice.ensures.value, c.args.table.now.ok))) z,
        )) c.push_alone.ensures.taken,
  ),
  refl,
  refl,
  c.takes_note-noted.ensures c.if-not-noted-2.true,
)

pub returns-in-Push-clause-lists : goal.returns-in-Push-clause-lists
returns-in-Push-clause-lists g c = come_lists c.args.posts.now _ _ _ _ c.push_alone.ensures.taken c.requires.lists

pub returns-in-Push-clause-ready : goal.returns-in-Push-clause-ready
returns-in-Push-clause-ready g c = come_ready c.args.place.now _ _ _ _ c.push_alone.ensures.taken c.requires.ready

pub returns-in-Push-clause-served : goal.returns-in-Push-clause-served
returns-in-Push-clause-served g c = λ base served.
    come_served g.D.Disk.told g.D.Disk.faults base c.args.place.now _ _ _ _ c.push_alone.ensures.taken
    (somewhere_logged c.args.member.now c.args.table.now.items c.args.posts.now.letters c.requires.somewhere) served

pub append_alone-requires-clause-form : goal.append_alone-requires-clause-form
append_alone-requires-clause-form g c = λ κs within.
    let (h, p, m, is) = c.requires.somewhere in is.sound.form.form m c.args.member.now is.there

pub append_alone-requires-clause-appends : goal.append_alone-requires-clause-appends
append_alone-requires-clause-appends g c = λ κs within.
    let (h, p, m, is) = c.requires.somewhere in appends_well h p m c.args.member.now is.sound is.there

pub append_alone-requires-clause-valid : goal.append_alone-requires-clause-valid
append_alone-requires-clause-valid g c = λ κs within.
    let (h, p, m, is) = c.requires.somewhere in entries_valid h p m c.args.member.now is.sound is.there

pub append_alone-requires-clause-size : goal.append_alone-requires-clause-size
append_alone-requires-clause-size g c = λ κs within. subst (λ words. table_size c.args.member.now ≤ length words)
    (sym c.as_mut_slice-in-Append.ensures.value)
    (whole_words c.args.table.now.items c.args.posts.now.letters c.args.member.now c.requires.somewhere)

pub returns-in-Append-clause-lists : goal.returns-in-Append-clause-lists
returns-in-Append-clause-lists g c = lists_alone c.args.posts.now _ _ c.args.member.now c.append_alone.new.member
    (going_none c.args.member.now c.requires.going) (c.append_alone.ensures.goes c.args.posts.now.letters)
    c.requires.lists
