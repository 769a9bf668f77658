-- A member that has entries on its log logs one after the other, and publishes each.
use Rattle.std.specs.Prelude.{Bool, Option, None, Some, ◌||◌, false, is_some, slice_set}
use Rattle.std.proofs.{Common.{◌≡◌, refl, sym, ap, ◌∙◌, subst, ℕ, zero, suc, ◌+◌, ◌*◌, ◌-◌, ◌<◌, ◌≤◌, true, nat_lt, ltb-true, List, length, arith}, lemmas.{Bool.Decides.nat_tests, List.length-drop}}
use Rattle.dr_entry.{specs.declared.end.End.End, proofs.BoolFacts.together}
use Rattle.dr_machine.specs.Effects.{one_more}
use Rattle.dr_machine.specs.declared.{event.Act.TheVariants.{Beat, Publish}, step.Step.TheVariants.{Append, Do}}
use Rattle.dr_words.specs.{Layout.words_of, declared.column.TheConstants.LOGGED_COLUMN}
use Rattle.dr_member.specs.Deeds.{table_size}
use Rattle.dr_rows.specs.Words.{own}
use Rattle.dr_program.specs.{Acts.taken, Form.{HasForm, IsRunningMember}, Replica.{Replica, appended, is_inside, me}}
use Rattle.dr_program.specs.Running.{Running, after_step, append_or_end, applies, columns, crashes_now, deed, deed_of, goes, members, next_deed, next_step, settled, step_at, took}
use Rattle.dr_program.specs.{Steps.{IsAppend, allows, index_in, stepped, stored}, Turn.{is_beat, part_of}, declared.{outcome.LogWhy.LogWhy, place.{Part.Part, Place.Place}}}
use Rattle.dr_program.specs.declared.place.Part.TheVariants as parts
use Rattle.dr_program.specs.declared.deed.Deed.TheVariants as deeds
use Rattle.dr_program.specs.Schedule.{is_between_turns}
use Rattle.dr_program.proofs.{Fixed.{Told, after_told, told}, Persisting.{amid, logged_one, to_publish}}
use Rattle.dr_program.proofs.{Order.append_next, Parts.begin, RunningPrograms.{allowed_inside, in_view, stays}, Search.{beat_test, settled_same}}
use Rattle.dr_program.proofs.StepsAt.{none_failed, push_either, vote_either}
use Rattle.dr_served.specs.{Appended.HasLoggedAll, Served.{entries_due, next_record}}
use Rattle.dr_play.proofs.Deeds.{deed_tells}
use Rattle.dr_play.specs.Persisted.{HasPersisted, IsToPersist, persisted, words_persisted}

-- the member once it has published the entry
abbrev published_one : Running → Running
published_one r = record r { replica = taken (appended r.replica) Publish; place = begin 7 }

-- so it is to do both
pub to_persist : (r : Running) → IsRunningMember r → r.replica.end ≡ None → next_step r ≡ Append → IsToPersist r
to_persist r form none is = record { none = none; append = is; publish = ap next_step (to_publish r form none is) }

-- and then goes on with the next entry, where there is one
pub persists_on : (r : Running) → IsRunningMember r → IsToPersist r
    → r.replica.logged + 1 < length r.replica.history → next_step (persisted r) ≡ Append
persists_on r form is more =
    ap (λ x. next_step (after_step 0 x)) (to_publish r form is.none is.append)
    ∙ ap next_step (sym (stays (published_one r) appends)) ∙ ap append_or_end unfailed
  where
    unfailed : r.failed ≡ None
    unfailed = none_failed r (subst IsAppend (sym is.append) tt)

    inside : is_inside r.replica ≡ true
    inside = in_view r form is.none Append is.append refl

    appends : applies (published_one r) (begin 7) ≡ true
    appends = ap (allows (taken (appended r.replica) Publish)) (ap append_or_end unfailed)
        ∙ together (is_inside r.replica) (nat_lt (r.replica.logged + 1) (length r.replica.history)) inside
        (grind (arith, nat_tests, more))

-- ---- what becomes of it

-- the replica that has persisted an entry
persisted_replica : (r : Running) → IsToPersist r → (persisted r).replica ≡ taken (appended r.replica) Publish
persisted_replica r is =
    ap (λ (x : Running). x.replica) (settled_same 0 (after_step 0 r))
    ∙ ap (stepped 0 (after_step 0 r).replica) is.publish
    ∙ ap (λ (q : Replica). taken q Publish) (ap (λ (x : Running). x.replica) (settled_same 0 r)
    ∙ ap (stepped 0 r.replica) is.append)

persisted_failed : (r : Running) → (persisted r).failed ≡ r.failed
persisted_failed r = ap (λ (x : Running). x.failed) (settled_same 0 (after_step 0 r))
    ∙ ap (λ (x : Running). x.failed) (settled_same 0 r)

-- it is the same but for what it has logged and published
pub record IsPersisted (n : ℕ) (r q : Running) : Type 0 where
  pub history : q.replica.history ≡ r.replica.history
  pub logged : q.replica.logged ≡ r.replica.logged + n
  pub votes : q.replica.votes ≡ r.replica.votes
  pub same : told q.replica ≡ told r.replica
  pub end : q.replica.end ≡ r.replica.end
  pub failed : q.failed ≡ r.failed

pub is_persisted : (n : ℕ) (r q : Running) → HasPersisted n r q → IsPersisted n r q
is_persisted zero r q same = subst (IsPersisted 0 r) same (record {
  history = refl;
  logged = omega arith;
  votes = refl;
  same = refl;
  end = refl;
  failed = refl;
})
is_persisted (suc n) r q (is, rest) =
    let one = persisted_replica r is in
    let on = is_persisted n (persisted r) q rest in
    record {
      history = on.history ∙ ap (λ (x : Replica). x.history) one;
      logged = omega (arith, on.logged, ap (λ (x : Replica). x.logged) one);
      votes = on.votes ∙ ap (λ (x : Replica). x.votes) one;
      same = on.same ∙ after_told 0 (after_step 0 r) ∙ after_told 0 r;
      end = on.end ∙ ap (λ (x : Replica). x.end) one;
      failed = on.failed ∙ persisted_failed r;
    }

-- one more
pub persisted_more : (n : ℕ) (r q : Running) → HasPersisted n r q → IsToPersist q → HasPersisted (suc n) r (persisted q)
persisted_more zero r q same is = (subst IsToPersist (sym same) is, ap persisted same)
persisted_more (suc n) r q (first, rest) is = (first, persisted_more n (persisted r) q rest is)

pub words_more : (n : ℕ) (words : List ℕ) (r q : Running) → HasPersisted n r q
    → words_persisted (suc n) words r
    ≡ stored (words_persisted n words r) (after_step 0 q).replica (next_step (after_step 0 q))
words_more zero words r q same = ap (λ x. stored words (after_step 0 x).replica (next_step (after_step 0 x))) same
words_more (suc n) words r q (first, rest) =
    words_more n (stored words (after_step 0 r).replica (next_step (after_step 0 r))) (persisted r) q rest

-- as long as entries are left it is to do so with the next one
pub to_go_on : (n : ℕ) (r q : Running) → HasPersisted n r q → IsRunningMember q → r.replica.end ≡ None
    → next_step q ≡ Append → IsToPersist q
to_go_on n r q has form none next = to_persist q form ((is_persisted n r q has).end ∙ none) next

pub goes_on : (n : ℕ) (r q : Running) → HasPersisted n r q → IsRunningMember q → IsToPersist q
    → suc n < length (entries_due r.replica) → next_step (persisted q) ≡ Append
goes_on n r q has form is more =
    let so = is_persisted n r q has in
    persists_on q form is (omega (
      arith,
      so.logged,
      ap length so.history,
      length-drop r.replica.logged r.replica.history,
      more,
    ))

-- and with the words that it stored the table has those of one more
pub stored_more : (n : ℕ) (words cells : List ℕ) (r q x : Running) (index word : ℕ) → HasPersisted n r q
    → cells ≡ words_persisted n words r → x ≡ after_step 0 q → deeds.Act index word ≡ next_deed x
    → slice_set cells index word ≡ words_persisted (suc n) words r
stored_more n words cells r q x index word has are after due =
    ap (λ t. slice_set t index word) are
    ∙ sym (deed_tells (words_persisted n words r) x (deeds.Act index word) (sym due)).says.stores
    ∙ ap (λ y. stored (words_persisted n words r) y.replica (next_step y)) after
    ∙ sym (words_more n words r q has)

-- and once none is left it has logged all
pub all_logged : (r q : Running) → HasForm r.replica → IsAppend (next_step r)
    → HasPersisted (length (entries_due r.replica)) r q → HasLoggedAll r q
all_logged r q form append has =
    let is = is_persisted (length (entries_due r.replica)) r q has in record {
      history = is.history;
      logged = omega (arith, is.logged, length-drop r.replica.logged r.replica.history, form.logged);
      votes = is.votes;
      room = ap (λ (t : Told). t.room) is.same;
      most = ap (λ (t : Told). t.banks * t.roster) is.same;
      failed = is.failed ∙ none_failed r append;
    }

-- ---- its deeds

-- the deeds that it is to do
pub record ArePersisting (words : List ℕ) (r : Running) : Type 0 where
  pub append : next_deed r ≡ deeds.Append (next_record r.replica.history r.replica.logged)
  pub after : (seen : ℕ) → after_step 0 r ≡ after_step seen r
  pub amid : is_between_turns (Some r) ≡ false
  pub none : (after_step 0 r).replica.end ≡ None
  pub publish : next_deed (after_step 0 r)
      ≡ deeds.Act (index_in (after_step 0 r).replica (me (after_step 0 r).replica) (me (after_step 0 r).replica) 0)
      (one_more 64 (after_step 0 r).replica.acts)
  pub published : (seen : ℕ) → persisted r ≡ after_step seen (after_step 0 r)
  pub amid_then : is_between_turns (Some (after_step 0 r)) ≡ false
  pub stores : stored words (after_step 0 r).replica (next_step (after_step 0 r)) ≡ slice_set words
      (index_in (after_step 0 r).replica (me (after_step 0 r).replica) (me (after_step 0 r).replica) 0)
      (one_more 64 (after_step 0 r).replica.acts)

pub are_persisting : (words : List ℕ) (r : Running) → IsToPersist r → ArePersisting words r
are_persisting words r is = record {
  append = ap (deed r) is.none ∙ ap (deed_of r) is.append;
  after = λ seen. ap (λ s. settled (took 0 r s)) is.append ∙ sym (ap (λ s. settled (took seen r s)) is.append);
  amid = amid r is.none (λ e. cc (e, is.append));
  none = none;
  publish = ap (deed q) none ∙ ap (deed_of q) is.publish;
  published = λ seen. ap (λ s. settled (took 0 q s)) is.publish ∙ sym (ap (λ s. settled (took seen q s)) is.publish);
  amid_then = amid q none (λ e. cc (e, is.publish));
  stores = ap (stored words q.replica) is.publish;
}
  where
    q : Running
    q = after_step 0 r

    none : q.replica.end ≡ None
    none = ap (λ (x : Running). x.replica.end) (settled_same 0 r)
        ∙ ap (λ s. (stepped 0 r.replica s).end) is.append ∙ is.none
