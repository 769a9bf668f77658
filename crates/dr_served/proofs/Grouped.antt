-- All entries that a member has due go to its log together.
use Rattle.std.specs.Prelude.{Option, None, Some, slice_index_or}
use Rattle.std.proofs.Common.{◌≡◌, refl, sym, ap, ◌∙◌, subst, inr, ℕ, ◌+◌, ◌*◌, ◌<◌, ◌≤◌, false, List, [], ◌∷◌, ◌++◌, length, take, append_assoc, le_trans, ltb-true, arith}
use Rattle.std.proofs.{Math.Nat.le-max_left, lemmas.List.{length-drop, length_push, take-append-drop, take_all, take_more}}
use Rattle.dr_disk.specs.{Disk.Told, Images.Goes}
use Rattle.dr_disk.proofs.Moments.{Goes-last}
use Rattle.dr_entry.{specs.declared.entry.Entry.Entry, proofs.OptionFacts.none_or_some}
use Rattle.dr_io.specs.Faults.{Rose}
use Rattle.dr_log.specs.{Standing.{IsNoneOrAll, entries_length, votes_length, with_entries}, State.{LogState, appended_all, broken_off_all}}
use Rattle.dr_log.proofs.{Growing.entries_length-append, Ordinary.moments_all}
use Rattle.dr_log_bytes.specs.Content.{OnLog}
use Rattle.dr_machine.specs.declared.step.Step.TheVariants.{Append}
use Rattle.dr_program.{specs.Form.IsRunningMember, proofs.RunningPrograms.allowed_inside}
use Rattle.dr_program.specs.{Replica.Replica, Running.{Running, broken_off, next_step}}
use Rattle.dr_program.specs.declared.outcome.LogWhy.TheVariants as whys
use Rattle.dr_served.specs.Appended.{HasAppendedAll, HasBrokenAll, HasLoggedAll, IsAppendDue, MayLog}
use Rattle.dr_served.specs.Served.{HasCome, HasServed, IsReady, IsSafe, LosesNothing, WentSo, entries_due}
use Rattle.dr_served.proofs.Serving.{broke_served, has_base, lasting_on, unfailed}

-- the log of a member that has logged all has served it
pub all_served : {D : Type 0} (told : D → Option Told) (faults : D → ℕ) (base log new : LogState D) (r q : Running)
    → MayLog r (next_step r) → HasAppendedAll told faults log new r → HasLoggedAll r q
    → HasServed told faults base log r → HasServed told faults base new q
all_served {D} told faults base log new r q may did now served = record {
  come = subst (HasCome told faults base new q.replica) (sym now.failed) come;
  ends = λ why failed. absurd (none_or_some q.failed why now.failed failed);
}
  where
    news : List Entry
    news = entries_due r.replica

    before : HasCome told faults base log r.replica None
    before = subst (HasCome told faults base log r.replica) (unfailed r may) served.come

    went : WentSo told faults base log r.replica None
    went = before.last

    entries : new.content.entries ≡ log.content.entries ++ news
    entries = ap (λ (l : LogState D). l.content.entries) did.made

    grown : new.content.length ≡ log.content.length + entries_length news
    grown = ap (λ (l : LogState D). l.content.length) did.made

    limit : new.limit ≡ log.limit
    limit = ap (λ (l : LogState D). l.limit) did.made

    whole : new.content.entries ≡ take q.replica.logged q.replica.history
    whole = entries ∙ ap (λ (l : List Entry). l ++ news) before.entries
        ∙ take-append-drop r.replica.logged r.replica.history ∙ sym now.history
        ∙ sym (take_all q.replica.logged q.replica.history (omega (arith, now.logged, ap length now.history)))

    come : HasCome told faults base new q.replica None
    come = record {
      entries = whole;
      more = (
        before.more.0 ++ news,
        entries ∙ ap (λ (l : List Entry). l ++ news) before.more.1
            ∙ append_assoc base.content.entries before.more.0 news,
      );
      voted = ap (λ (l : LogState D). l.content.votes) did.made ∙ before.voted
          ∙ ap (λ vs. base.content.votes ++ vs) (sym now.votes);
      age_votes = ap (λ (l : LogState D). l.content.age_votes) did.made ∙ before.age_votes;
      newer = ap (λ (l : LogState D). l.content.newer) did.made ∙ before.newer;
      long = omega (
        arith,
        grown,
        before.long,
        entries_length-append before.more.0 news,
        ap votes_length now.votes,
      );
      limit = limit ∙ before.limit;
      within = le_trans (omega (arith, did.fits, limit, grown)) (le-max_left new.limit _);
      last = (ap (λ (l : LogState D). l.failed) did.made ∙ went.0, did.safe);
      moments = moments_all told base log new news (has_base told faults base log r.replica None before)
          before.moments did.goes;
      lasting = lasting_on told base log new before.lasting did.lasting;
      calm = λ unbroken. did.calm ∙ before.calm unbroken;
      later = omega (arith, before.later, did.calm);
    }

-- and is ready for what comes
pub all_ready : {D : Type 0} (told : D → Option Told) (faults : D → ℕ) (log new : LogState D) (r q : Running)
    → IsAppendDue r → next_step r ≡ Append → HasAppendedAll told faults log new r → HasLoggedAll r q
    → IsReady log r → IsReady new q
all_ready {D} told faults log new r q due is did now ready = record {
  whole = λ none. ap (λ (l : LogState D). l.failed) did.made ∙ ready.whole before;
  spare = λ none. omega (
    arith,
    ready.spare before,
    ap (λ (l : LogState D). l.spare_entries) did.made,
    length-drop r.replica.logged r.replica.history,
    due.room,
    now.room,
    now.logged,
    within,
  );
  votes = λ none. omega (
    arith,
    ready.votes before,
    ap (λ (l : LogState D). l.spare_votes) did.made,
    ap length now.votes,
    now.most,
  );
}
  where
    before : r.failed ≡ None
    before = unfailed r due.due

    within : r.replica.logged < length r.replica.history
    within = subst (MayLog r) is due.due

-- where the disk fails at them the member is told
pub all_failed : {D : Type 0} (told : D → Option Told) (faults : D → ℕ) (base log new : LogState D) (r : Running)
    → MayLog r (next_step r) → HasBrokenAll told faults log new r → HasServed told faults base log r
    → HasServed told faults base new (broken_off whys.DiskFault r)
all_failed {D} told faults base log new r may did served =
    broke_served told faults base log new r (with_entries (entries_due r.replica) log.content) may served
    (ap (λ (l : LogState D). l.content) did.made) (ap (λ (l : LogState D). l.limit) did.made)
    (ap (λ (l : LogState D). l.failed) did.made) (inr refl)
    (Goes-last (told log.disk) (told new.disk) (IsNoneOrAll log.content (entries_due r.replica)) did.goes)
    (moments_all told base log new (entries_due r.replica)
    (has_base told faults base log r.replica r.failed served.come) served.come.moments did.goes)
    did.lasting did.rose did.later

-- the log has a spare for each of them
pub all_spared : {D : Type 0} (log : LogState D) (r : Running) → IsAppendDue r → IsReady log r
    → length (entries_due r.replica) ≤ log.spare_entries
all_spared log r due ready = omega (
  arith,
  due.room,
  ready.spare (unfailed r due.due),
  length-drop r.replica.logged r.replica.history,
)

-- one at least is due to a member that is to append one
pub some_due : (r : Running) → IsRunningMember r → r.replica.end ≡ None → next_step r ≡ Append
    → 0 < length (entries_due r.replica)
some_due r form none is = omega (
  arith,
  ltb-true r.replica.logged (length r.replica.history) (allowed_inside r form none Append is),
  length-drop r.replica.logged r.replica.history,
)

-- ---- what an append of entries has come to, where these are the ones that are due

pub parts_due : (r : Running) (due : List Entry) (n : ℕ) (x : Entry) → due ≡ entries_due r.replica
    → n + 1 ≡ length due → x ≡ slice_index_or due n x → take n due ++ x ∷ [] ≡ entries_due r.replica
parts_due r due n x same last is = ap (λ y. take n due ++ y ∷ []) is
    ∙ sym (take_more due n x (omega (arith, last))) ∙ take_all (n + 1) due (omega (arith, last)) ∙ same

pub did_append_all : {D : Type 0} (told : D → Option Told) (count : D → ℕ) (log new : LogState D) (r : Running)
    (news : List Entry) → news ≡ entries_due r.replica → new ≡ appended_all log news new.disk
    → log.content.length + entries_length news ≤ log.limit
    → Goes (told log.disk) (told new.disk) (λ calls. IsNoneOrAll log.content news) → LosesNothing told log new
    → IsSafe told new → count new.disk ≡ count log.disk → HasAppendedAll told count log new r
did_append_all told count log new r news same made fits goes lasting safe calm = record {
  made = subst (λ es. new ≡ appended_all log es new.disk) same made;
  fits = subst (λ es. log.content.length + entries_length es ≤ log.limit) same fits;
  goes = subst (λ es. Goes (told log.disk) (told new.disk) (λ calls. IsNoneOrAll log.content es)) same goes;
  lasting = lasting;
  safe = safe;
  calm = calm;
}

pub did_break_all : {D : Type 0} (told : D → Option Told) (count : D → ℕ) (log new : LogState D) (r : Running)
    (front : List Entry) (last : Entry) → front ++ last ∷ [] ≡ entries_due r.replica
    → new ≡ broken_off_all log (length front + 1) new.disk
    → Goes (told log.disk) (told new.disk) (λ calls. IsNoneOrAll log.content (front ++ last ∷ []))
    → LosesNothing told log new → Rose (count log.disk) (count new.disk) → count log.disk ≤ count new.disk
    → HasBrokenAll told count log new r
did_break_all told count log new r front last same made goes lasting rose later = record {
  made = subst (λ k. new ≡ broken_off_all log k new.disk)
      (omega (arith, length_push front last, ap length same)) made;
  goes = subst (λ es. Goes (told log.disk) (told new.disk) (λ calls. IsNoneOrAll log.content es)) same goes;
  lasting = lasting;
  rose = rose;
  later = later;
}
