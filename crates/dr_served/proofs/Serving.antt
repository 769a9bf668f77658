-- Each deed of a member leaves its log ready and served.
use Rattle.std.{specs.Prelude.{Option, None, Some, slice_index_or}, proofs.Math.Nat.{le-max_left, le-max_right}}
use Rattle.std.proofs.Common.{◌≡◌, ◌≢◌, ◌⊎◌, inl, inr, true, refl, sym, ap, ◌∙◌, subst, ℕ, ◌+◌, ◌*◌, ◌-◌, ◌<◌, ◌≤◌, max, false, List, [], ◌∷◌, ◌++◌, length, take, drop, append-nil, append_assoc, le_refl, le_trans, arith, length-append}
use Rattle.std.proofs.lemmas.List.{length_push, take-append-drop, take-append-le, take_all, take_more}
use Rattle.std.proofs.lemmas.{List.Sums.sum_by_push, Option.{same_Some, slice_get-get_or}}
use Rattle.dr_entry.specs.{Spelling.{entry_spelling, vote_spelling}, declared.entry.Entry.{Entry, TheVariants.View}}
use Rattle.dr_entry.{specs.declared.record.{Record.Record, Vote.Vote}, proofs.OptionFacts.none_or_some}
use Rattle.dr_entry.proofs.Records.{IsOrdinary}
use Rattle.dr_entry.specs.declared.record.Record.TheVariants as records
use Rattle.dr_disk.specs.{Disk.Told, Images.{Goes, IsLeft}}
use Rattle.dr_disk.proofs.Moments.{Goes-last, lasts_still, lasts_then, stays_at}
use Rattle.dr_io.{specs.Faults.Rose, proofs.KnownLemmas.rose_since}
use Rattle.dr_log.specs.Standing.{HasAllOf, IsBeforeOrAfter, LosesNone, entries_length, votes_length}
use Rattle.dr_log.specs.State.{LogState, appended, as_entry, as_vote, broken_off as log_broken_off}
use Rattle.dr_log.proofs.Ordinary.{has_itself, none_lost, moments_on}
use Rattle.dr_log_bytes.specs.{Content.{OnLog, block_length, with_record}, Grammar.StandFor}
use Rattle.dr_log_bytes.proofs.Grammars.{ordinary_age_votes, ordinary_newer}
use Rattle.dr_machine.specs.declared.step.Step.{Step, TheVariants.{Append, LogVote}}
use Rattle.dr_program.specs.{Replica.{Replica, vote_of}, Steps.{IsAppend, stepped}}
use Rattle.dr_program.specs.Running.{Running, after_step, append_or_end, broken_off, end_by, next_step, settled, took_letter, AsksForLetter}
use Rattle.dr_program.{specs.{Turn.part_of, declared.outcome.LogWhy.LogWhy}, proofs.StepsAt.{ends_at, none_failed}}
use Rattle.dr_program.{specs.declared.place.Place.Place, proofs.{Finishing.begins_so, RunningPrograms.took_failed}}
use Rattle.dr_program.proofs.{Fixed.{step_told, Told as ToldReplica}, Search.{settled_same, settled_took}}
use Rattle.dr_program.specs.declared.outcome.LogWhy.TheVariants as whys
use Rattle.dr_served.{specs.Appended.{IsAppendDue, MayLog, is_append, record_due, record_of}, proofs.Dues.{due_behind, due_still}}
use Rattle.dr_served.specs.Served.{EndsNext, HasCome, HasDueBehind, HasServed, IsReady, IsRecordDue, IsRoomy, IsSafe, LetterGoesOn, LosesNothing, WentSo}

-- ---- what a step other than an append leaves

-- the history has at its end what was delivered, and as much is logged as before
pub record Grows (r q : Replica) : Type 0 where
  pub more : List Entry
  pub history : q.history ≡ r.history ++ more
  pub logged : q.logged ≡ r.logged
  pub votes : q.votes ≡ r.votes

pub grows : (word : ℕ) (r : Replica) (s : Step) → is_append s ≡ false → Grows r (stepped word r s)
grows word r s other = record {
  more = drop (length r.history) (stepped word r s).history;
  history = sym (take-append-drop (length r.history) (stepped word r s).history)
      ∙ ap (λ h. h ++ drop (length r.history) (stepped word r s).history)
      (grind (arith, begins_so, take_all (length r.history) r.history (le_refl _)));
  logged = grind (arith, other);
  votes = grind (arith, other);
}

-- ---- the log of a member that doesn't append

-- what r has due q has due
record KeepsDue (r q : Replica) : Type 0 where
  one : (next : Record) → IsRecordDue r next → IsRecordDue q next
  behind : (before after : OnLog) → HasDueBehind r before after → HasDueBehind q before after

-- what the member has logged stays as it is while more is delivered, and so does that at which its last append
-- has failed, if one did
went_on : {D : Type 0} (told : D → Option Told) (faults : D → ℕ) (base log : LogState D) (r q : Replica)
    (why : Option LogWhy) → (why ≢ None → KeepsDue r q)
    → WentSo told faults base log r why → WentSo told faults base log q why
went_on told faults base log r q None still went = went
went_on told faults base log r q (Some whys.DiskFault) still went =
    (went.0, (still (λ e. absurd (cc e))).behind log.content went.0 went.1, went.2)
went_on told faults base log r q (Some (whys.LogFull len)) still went =
    (went.0, (still (λ e. absurd (cc e))).one went.0 went.1, went.2)

come_on : {D : Type 0} (told : D → Option Told) (faults : D → ℕ) (base log : LogState D) (r q : Replica)
    (why : Option LogWhy) → Grows r q → r.logged ≤ length r.history
    → (why ≢ None → KeepsDue r q) → HasCome told faults base log r why → HasCome told faults base log q why
come_on told faults base log r q why g within still come = record {
  entries = come.entries ∙ sym (ap (λ k. take k q.history) g.logged ∙ ap (take r.logged) g.history
      ∙ take-append-le r.logged r.history g.more within);
  more = come.more;
  voted = come.voted ∙ ap (λ vs. base.content.votes ++ vs) (sym g.votes);
  age_votes = come.age_votes;
  newer = come.newer;
  long = omega (arith, come.long, ap votes_length g.votes);
  limit = come.limit;
  within = come.within;
  last = went_on told faults base log r q why still come.last;
  moments = come.moments;
  lasting = come.lasting;
  calm = come.calm;
  later = come.later;
}

-- what a member with a failed append has due it has due as it ends
due_on : (word : ℕ) (r : Running) (why : Option LogWhy) → r.failed ≡ why → EndsNext r
    → r.replica.end ≡ None → why ≢ None → KeepsDue r.replica (stepped word r.replica (next_step r))
due_on word r None e ends none some = absurd (some refl)
due_on word r (Some why) e ends none some = subst (λ s. KeepsDue r.replica (stepped word r.replica s))
    (sym (ends why e none)) (record { one = due_still r.replica (end_by why); behind = due_behind r.replica (end_by why) })

-- a member that has found its next place
found_place : {D : Type 0} (told : D → Option Told) (faults : D → ℕ) (base log : LogState D) (word : ℕ)
    (r : Running) → HasCome told faults base log (stepped word r.replica (next_step r)) r.failed
    → ((why : LogWhy) → r.failed ≡ Some why → (stepped word r.replica (next_step r)).end ≢ None)
    → HasServed told faults base log (after_step word r)
found_place told faults base log word r come over = record {
  come = subst (λ (x : Running). HasCome told faults base log x.replica x.failed) (sym (settled_same word r)) come;
  ends = λ why failed none. absurd (over why (sym (ap (λ (x : Running). x.failed) (settled_same word r)) ∙ failed)
      (sym (ap (λ (x : Running). x.replica.end) (settled_same word r)) ∙ none));
}

-- the log of a member that takes another deed than an append has served it
pub other_served : {D : Type 0} (told : D → Option Told) (faults : D → ℕ) (base log : LogState D)
    (word : ℕ) (r : Running) → is_append (next_step r) ≡ false → r.replica.end ≡ None
    → r.replica.logged ≤ length r.replica.history
    → HasServed told faults base log r → HasServed told faults base log (after_step word r)
other_served told faults base log word r other none within served = found_place told faults base log word r
    (come_on told faults base log r.replica (stepped word r.replica (next_step r)) r.failed
    (grows word r.replica (next_step r) other) within (due_on word r r.failed refl served.ends none) served.come)
    (λ why failed unended. none_or_some (stepped word r.replica (next_step r)).end (end_by why) unended
    (ap (λ s. (stepped word r.replica s).end) (served.ends why failed none)))

-- and is ready for the next one
pub other_ready : {D : Type 0} (log : LogState D) (word : ℕ) (r : Running) → is_append (next_step r) ≡ false
    → IsReady log r → IsReady log (after_step word r)
other_ready log word r other ready =
    let g = grows word r.replica (next_step r) other in
    let same = step_told word r.replica (next_step r) in
    subst (IsReady log) (sym (settled_same word r)) (record {
      whole = ready.whole;
      spare = λ none. omega (arith, ready.spare none, g.logged, ap (λ (t : ToldReplica). t.room) same);
      votes = λ none. omega (
        arith,
        ready.votes none,
        ap length g.votes,
        ap (λ (t : ToldReplica). t.banks * t.roster) same,
      );
    })

-- ---- a take

-- the member has another history where it joins, and nothing else of what its log goes by
took_grows : (letter : Option (List Entry)) (r : Running) → LetterGoesOn r.replica.history letter
    → Grows r.replica (took_letter letter r).replica
took_grows None r on = record { more = []; history = sym (append-nil r.replica.history); logged = refl; votes = refl }
took_grows (Some letter) r on = record { more = on.0; history = on.1; logged = refl; votes = refl }

took_ready : {D : Type 0} (log : LogState D) (letter : Option (List Entry)) (r : Running) → IsReady log r
    → IsReady log (took_letter letter r)
took_ready log None r ready = record { whole = ready.whole; spare = ready.spare; votes = ready.votes }
took_ready log (Some letter) r ready = record { whole = ready.whole; spare = ready.spare; votes = ready.votes }

-- no append of a member that takes has failed
takes_well : (r : Running) (why : Option LogWhy) → r.failed ≡ why → EndsNext r → AsksForLetter r → why ≡ None
takes_well r None e ends asks = refl
takes_well r (Some why) e ends asks = absurd (cc (ends why e asks.unended, asks.due))

-- the log of a member that takes has served it
pub took_served : {D : Type 0} (told : D → Option Told) (faults : D → ℕ) (base log : LogState D)
    (letter : Option (List Entry)) (r : Running) → AsksForLetter r
    → r.replica.logged ≤ length r.replica.history → LetterGoesOn r.replica.history letter
    → HasServed told faults base log r → HasServed told faults base log (settled (took_letter letter r))
took_served told faults base log letter r asks within on served =
    subst (HasServed told faults base log) (sym (settled_took letter r)) (record {
      come = subst (HasCome told faults base log (took_letter letter r).replica) (sym (took_failed letter r))
          (come_on told faults base log r.replica (took_letter letter r).replica r.failed
          (took_grows letter r on) within (λ some. absurd (some well)) served.come);
      ends = λ why failed unended. absurd (none_or_some r.failed why well (sym (took_failed letter r) ∙ failed));
    })
  where
    well : r.failed ≡ None
    well = takes_well r r.failed refl served.ends asks

-- and is ready for the next deed
pub took_stays_ready : {D : Type 0} (log : LogState D) (letter : Option (List Entry)) (r : Running)
    → IsReady log r → IsReady log (settled (took_letter letter r))
took_stays_ready log letter r ready =
    subst (IsReady log) (sym (settled_took letter r)) (placed (took_letter letter r) _ (took_ready log letter r ready))
  where
    placed : (x : Running) (p : Place) → IsReady log x → IsReady log (record x { place = p })
    placed x p is = record { whole = is.whole; spare = is.spare; votes = is.votes }

-- ---- an append

is_logged : (r : Running) (s : Step) → MayLog r s → IsAppend s
is_logged r Append may = tt
is_logged r (LogVote v) may = tt
is_logged r s may = absurd may

pub unfailed : (r : Running) → MayLog r (next_step r) → r.failed ≡ None
unfailed r may = none_failed r (is_logged r (next_step r) may)

-- its record is the one that is due
pub next_is : (r : Running) (s : Step) → MayLog r s → IsRecordDue r.replica (record_of r s)
next_is r Append may = slice_get-get_or r.replica.history r.replica.logged (View 0 0 0) may
next_is r (LogVote v) may = may
next_is r s may = absurd may

ends_next : (why : LogWhy) (r : Running) → MayLog r (next_step r) → EndsNext (broken_off why r)
ends_next why r may reason failed none = ends_at why r (part_of r.place) r.place.row r.place.column
    (is_logged r (next_step r) may) ∙ ap (λ (x : LogWhy). append_or_end (Some x)) (same_Some why reason failed)

-- it is an entry or a vote
pub ordinary_record : (r : Running) (s : Step) → IsOrdinary (record_of r s)
ordinary_record r (LogVote v) = tt
ordinary_record r s = tt

-- a log has all that it had
pub has_base : {D : Type 0} (told : D → Option Told) (faults : D → ℕ) (base log : LogState D) (r : Replica)
    (why : Option LogWhy) → HasCome told faults base log r why → HasAllOf base.content log.content
has_base told faults base log r why come = record {
  more_entries = come.more.0;
  more_votes = r.votes;
  more_age_votes = [];
  entries = come.more.1;
  votes = come.voted;
  age_votes = come.age_votes ∙ sym (append-nil base.content.age_votes);
}

pub lasting_on : {D : Type 0} (told : D → Option Told) (base log new : LogState D)
    → LosesNothing told base log → LosesNothing told log new → LosesNothing told base new
lasting_on told base log new before behind = λ first.
    lasts_then (told base.disk) (told log.disk) (told new.disk) (LosesNone first) (before first) (behind first)

-- what an append that went well has come to, by its record and by what the member has logged then
record Put {D : Type 0} (told : D → Option Told) (faults : D → ℕ) (base log new : LogState D)
    (due : Record) (history : List Entry) (k : ℕ) (vs : List Vote) : Type 0 where
  ordinary : IsOrdinary due
  made : new ≡ appended log due new.disk
  fits : log.content.length + block_length due ≤ log.limit
  goes : Goes (told log.disk) (told new.disk) (λ calls. IsBeforeOrAfter log.content due)
  lasting : LosesNothing told log new
  safe : IsSafe told new
  calm : faults new.disk ≡ faults log.disk
  entries : (with_record due log.content).entries ≡ take k history
  more : (es : List Entry) × ((with_record due log.content).entries ≡ base.content.entries ++ es)
  voted : (with_record due log.content).votes ≡ base.content.votes ++ vs
  long : log.content.length + block_length due ≡ base.content.length + (entries_length more.0 + votes_length vs)

put : {D : Type 0} (told : D → Option Told) (faults : D → ℕ) (base log new : LogState D)
    (due : Record) (r q : Replica) → HasCome told faults base log r None
    → Put told faults base log new due q.history q.logged q.votes → HasCome told faults base new q None
put {D} told faults base log new due r q served p = record {
  entries = entries ∙ p.entries;
  more = (p.more.0, entries ∙ p.more.1);
  voted = votes ∙ p.voted;
  long = grown ∙ p.long;
  limit = limit ∙ served.limit;
  within = le_trans (omega (arith, p.fits, limit, grown)) (le-max_left new.limit _);
  last = (ap (λ (x : LogState D). x.failed) p.made ∙ served.last.0, p.safe);
  age_votes = ap (λ (x : LogState D). x.content.age_votes) p.made
      ∙ ordinary_age_votes due log.content p.ordinary ∙ served.age_votes;
  newer = ap (λ (x : LogState D). x.content.newer) p.made ∙ ordinary_newer due log.content p.ordinary ∙ served.newer;
  moments = moments_on told base log new due p.ordinary (has_base told faults base log r None served)
      served.moments p.goes;
  lasting = lasting_on told base log new served.lasting p.lasting;
  calm = λ unbroken. p.calm ∙ served.calm unbroken;
  later = omega (arith, served.later, p.calm);
}
  where
    entries : new.content.entries ≡ (with_record due log.content).entries
    entries = ap (λ (x : LogState D). x.content.entries) p.made

    votes : new.content.votes ≡ (with_record due log.content).votes
    votes = ap (λ (x : LogState D). x.content.votes) p.made

    grown : new.content.length ≡ log.content.length + block_length due
    grown = ap (λ (x : LogState D). x.content.length) p.made

    limit : new.limit ≡ log.limit
    limit = ap (λ (x : LogState D). x.limit) p.made

-- an append that goes well puts the record that is due on the log
put_step : {D : Type 0} (told : D → Option Told) (faults : D → ℕ) (base log new : LogState D)
    (word : ℕ) (r : Running) (s : Step) → MayLog r s → HasCome told faults base log r.replica None
    → new ≡ appended log (record_of r s) new.disk → log.content.length + block_length (record_of r s) ≤ log.limit
    → Goes (told log.disk) (told new.disk) (λ calls. IsBeforeOrAfter log.content (record_of r s))
    → LosesNothing told log new → IsSafe told new
    → faults new.disk ≡ faults log.disk → HasCome told faults base new (stepped word r.replica s) None
put_step told faults base log new word r Append within served made fits goes lasting safe calm =
    let e : Entry = slice_index_or r.replica.history r.replica.logged (View 0 0 0) in
    put told faults base log new (records.Entry e) r.replica (stepped word r.replica Append) served (record {
      ordinary = tt;
      made = made;
      fits = fits;
      goes = goes;
      lasting = lasting;
      safe = safe;
      calm = calm;
      entries = ap (λ xs. xs ++ e ∷ []) served.entries
          ∙ sym (take_more r.replica.history r.replica.logged (View 0 0 0) within);
      more = (
        served.more.0 ++ e ∷ [],
        ap (λ xs. xs ++ e ∷ []) served.more.1 ∙ append_assoc base.content.entries served.more.0 (e ∷ []),
      );
      voted = served.voted;
      long = omega (arith, served.long, sum_by_push (λ (x : Entry). 1 + length (entry_spelling x)) served.more.0 e);
    })
put_step told faults base log new word r (LogVote v) within served made fits goes lasting safe calm =
    let x : Vote = vote_of r.replica v in
    put told faults base log new (records.Vote x) r.replica (stepped word r.replica (LogVote v)) served (record {
      ordinary = tt;
      made = made;
      fits = fits;
      goes = goes;
      lasting = lasting;
      safe = safe;
      calm = calm;
      entries = served.entries;
      more = served.more;
      voted = ap (λ xs. xs ++ x ∷ []) served.voted ∙ append_assoc base.content.votes r.replica.votes (x ∷ []);
      long = omega (arith, served.long, sum_by_push (λ (y : Vote). 1 + length (vote_spelling y)) r.replica.votes x);
    })
put_step told faults base log new word r s within served made fits goes lasting safe calm = absurd within

pub appended_served : {D : Type 0} (told : D → Option Told) (faults : D → ℕ)
    (base log new : LogState D) (word : ℕ) (r : Running) → MayLog r (next_step r) → HasServed told faults base log r
    → new ≡ appended log (record_due r) new.disk → log.content.length + block_length (record_due r) ≤ log.limit
    → Goes (told log.disk) (told new.disk) (λ calls. IsBeforeOrAfter log.content (record_due r))
    → LosesNothing told log new
    → IsSafe told new → faults new.disk ≡ faults log.disk → HasServed told faults base new (after_step word r)
appended_served told faults base log new word r may served made fits goes lasting safe calm =
    found_place told faults base new word r
    (subst (HasCome told faults base new (stepped word r.replica (next_step r))) (sym (unfailed r may))
    (put_step told faults base log new word r (next_step r) may
    (subst (HasCome told faults base log r.replica) (unfailed r may) served.come) made fits goes lasting safe calm))
    (λ why failed. absurd (none_or_some r.failed why (unfailed r may) failed))

-- the log has a spare for the record that is due
pub spares : {D : Type 0} (log : LogState D) (r : Running) (s : Step) → MayLog r s
    → length r.replica.history ≤ r.replica.room → r.failed ≡ None → IsReady log r
    → (as_entry (record_of r s) ≤ log.spare_entries) × (as_vote (record_of r s) ≤ log.spare_votes)
spares log r Append may room none ready = (omega (arith, may, room, ready.spare none), omega arith)
spares log r (LogVote v) may room none ready = (omega arith, omega (arith, may.few, ready.votes none))
spares log r s may room none ready = absurd may

-- and leaves it ready for the next one
ready_step : {D : Type 0} (log new : LogState D) (word : ℕ) (r : Running) (s : Step) → MayLog r s
    → length r.replica.history ≤ r.replica.room → r.failed ≡ None → IsReady log r
    → new ≡ appended log (record_of r s) new.disk
    → ((stepped word r.replica s).room ≤ (stepped word r.replica s).logged + new.spare_entries)
    × ((stepped word r.replica s).banks * (stepped word r.replica s).roster
    ≤ length (stepped word r.replica s).votes + new.spare_votes)
ready_step {D} log new word r Append some room none ready made = (
  omega (arith, ready.spare none, some, room, ap (λ (l : LogState D). l.spare_entries) made),
  omega (arith, ready.votes none, ap (λ (l : LogState D). l.spare_votes) made),
)
ready_step {D} log new word r (LogVote v) some room none ready made = (
  omega (arith, ready.spare none, ap (λ (l : LogState D). l.spare_entries) made),
  omega (
    arith,
    ready.votes none,
    some.few,
    length_push r.replica.votes (vote_of r.replica v),
    ap (λ (l : LogState D). l.spare_votes) made,
  ),
)
ready_step log new word r s some room none ready made = absurd some

pub appended_ready : {D : Type 0} (log new : LogState D) (word : ℕ) (r : Running) → IsAppendDue r
    → IsReady log r → new ≡ appended log (record_due r) new.disk → IsReady new (after_step word r)
appended_ready {D} log new word r due ready made = subst (IsReady new) (sym (settled_same word r)) (record {
  whole = λ none. ap (λ (l : LogState D). l.failed) made ∙ ready.whole none;
  spare = λ none. (ready_step log new word r (next_step r) due.due due.room none ready made).0;
  votes = λ none. (ready_step log new word r (next_step r) due.due due.room none ready made).1;
})

-- an append whose disk fails leaves what was there, or what it was to make of it
pub broke_served : {D : Type 0} (told : D → Option Told) (faults : D → ℕ) (base log new : LogState D) (r : Running)
    (after : OnLog) → MayLog r (next_step r) → HasServed told faults base log r → new.content ≡ log.content
    → new.limit ≡ log.limit → new.failed ≡ true → HasDueBehind r.replica log.content after
    → IsLeft (told new.disk) (λ image. StandFor image log.content ⊎ StandFor image after)
    → Goes (told base.disk) (told new.disk) (λ calls. LosesNone base.content) → LosesNothing told log new
    → Rose (faults log.disk) (faults new.disk) → faults log.disk ≤ faults new.disk
    → HasServed told faults base new (broken_off whys.DiskFault r)
broke_served told faults base log new r after may before same limit failed due left moments lasting rose later =
    record { come = come; ends = ends_next whys.DiskFault r may }
  where
    served : HasCome told faults base log r.replica r.failed
    served = before.come

    come : HasCome told faults base new r.replica (Some whys.DiskFault)
    come = record {
      entries = ap (λ (c : OnLog). c.entries) same ∙ served.entries;
      more = (served.more.0, ap (λ (c : OnLog). c.entries) same ∙ served.more.1);
      voted = ap (λ (c : OnLog). c.votes) same ∙ served.voted;
      age_votes = ap (λ (c : OnLog). c.age_votes) same ∙ served.age_votes;
      newer = ap (λ (c : OnLog). c.newer) same ∙ served.newer;
      limit = limit ∙ served.limit;
      long = ap (λ (c : OnLog). c.length) same ∙ served.long;
      within = subst (λ (c : OnLog). c.length ≤ max new.limit base.content.length) (sym same)
          (subst (λ n. log.content.length ≤ max n base.content.length) (sym limit) served.within);
      last = (
        after,
        subst (λ c. HasDueBehind r.replica c after) (sym same) due,
        record {
          failed = failed;
          rose = rose_since (faults base.disk) (faults log.disk) (faults new.disk) served.later rose;
          left = subst (λ c. IsLeft (told new.disk) (λ image. StandFor image c ⊎ StandFor image after)) (sym same) left;
        },
      );
      moments = moments;
      lasting = lasting_on told base log new served.lasting lasting;
      calm = λ unbroken. absurd (unbroken refl);
      later = le_trans served.later later;
    }

-- one of the record that is due
pub failed_served : {D : Type 0} (told : D → Option Told) (faults : D → ℕ) (base log new : LogState D) (r : Running)
    → MayLog r (next_step r) → HasServed told faults base log r → new ≡ log_broken_off log (record_due r) new.disk
    → Goes (told log.disk) (told new.disk) (λ calls. IsBeforeOrAfter log.content (record_due r))
    → LosesNothing told log new → Rose (faults log.disk) (faults new.disk)
    → faults log.disk ≤ faults new.disk → HasServed told faults base new (broken_off whys.DiskFault r)
failed_served {D} told faults base log new r may before made goes lasting rose later =
    broke_served told faults base log new r (with_record (record_due r) log.content) may before
    (ap (λ (l : LogState D). l.content) made) (ap (λ (l : LogState D). l.limit) made)
    (ap (λ (l : LogState D). l.failed) made) (inl (record_due r, next_is r (next_step r) may, refl))
    (Goes-last (told log.disk) (told new.disk) (IsBeforeOrAfter log.content (record_due r)) goes)
    (moments_on told base log new (record_due r) (ordinary_record r (next_step r))
    (has_base told faults base log r.replica r.failed before.come) before.come.moments goes) lasting rose later

-- an append for which the log has no room
pub full_served : {D : Type 0} (told : D → Option Told) (faults : D → ℕ) (base log : LogState D)
    (r : Running) (len : ℕ) → MayLog r (next_step r) → HasServed told faults base log r → len ≡ log.content.length
    → log.limit < len + block_length (record_due r) → HasServed told faults base log (broken_off (whys.LogFull len) r)
full_served {D} told faults base log r len may before long over =
    record { come = come; ends = ends_next (whys.LogFull len) r may }
  where
    served : HasCome told faults base log r.replica r.failed
    served = before.come

    went : WentSo told faults base log r.replica None
    went = subst (WentSo told faults base log r.replica) (unfailed r may) served.last

    come : HasCome told faults base log r.replica (Some (whys.LogFull len))
    come = record {
      entries = served.entries;
      more = served.more;
      voted = served.voted;
      age_votes = served.age_votes;
      newer = served.newer;
      long = served.long;
      limit = served.limit;
      within = served.within;
      last = (
        record_due r,
        next_is r (next_step r) may,
        record { whole = went.0; safe = went.1; long = long; over = over },
      );
      moments = served.moments;
      lasting = served.lasting;
      calm = λ unbroken. served.calm (rw (unfailed r may) (λ broken. cc broken));
      later = served.later;
    }

-- a log is ready for a member whose append has failed, as that one appends no more
pub failed_ready : {D : Type 0} (log : LogState D) (why : LogWhy) (r : Running) → IsReady log (broken_off why r)
failed_ready log why r = record {
  whole = λ none. absurd (cc none);
  spare = λ none. absurd (cc none);
  votes = λ none. absurd (cc none);
}

-- ---- the beginning

-- a log that has all of its member's history, and got room, has served it so far and is ready
pub begins : {D : Type 0} (told : D → Option Told) (faults : D → ℕ) (old new : LogState D) (r : Running)
    → IsRoomy told faults r old new → old.failed ≡ false → old.content.entries ≡ r.replica.history
    → r.replica.logged ≡ length r.replica.history → r.replica.votes ≡ [] → r.failed ≡ None
    → HasServed told faults old new r × IsReady new r
begins {D} told faults old new r roomy whole has all empty none = (
  record { come = come; ends = λ why failed. absurd (none_or_some r.failed why none failed) },
  record { whole = λ n. failed; spare = λ n. omega (arith, roomy.spare); votes = λ n. omega (arith, roomy.votes) },
)
  where
    entries : new.content.entries ≡ old.content.entries
    entries = ap (λ (l : LogState D). l.content.entries) roomy.is

    votes : new.content.votes ≡ old.content.votes
    votes = ap (λ (l : LogState D). l.content.votes) roomy.is

    grown : new.content.length ≡ old.content.length
    grown = ap (λ (l : LogState D). l.content.length) roomy.is

    failed : new.failed ≡ false
    failed = ap (λ (l : LogState D). l.failed) roomy.is ∙ whole

    same : new.content ≡ old.content
    same = ap (λ (l : LogState D). l.content) roomy.is

    keeps : (t : Option Told) → IsLeft t (λ image. StandFor image new.content) → IsLeft t (LosesNone old.content)
    keeps None safe = tt
    keeps (Some calls) safe = λ image is. none_lost old.content old.content image (has_itself old.content)
        (subst (StandFor image) same (safe image is))

    come : HasCome told faults old new r.replica r.failed
    come = record {
      entries = entries ∙ has ∙ sym (take_all r.replica.logged r.replica.history (omega (arith, all)));
      more = ([], entries ∙ sym (append-nil old.content.entries));
      voted = votes ∙ sym (append-nil old.content.votes) ∙ ap (λ vs. old.content.votes ++ vs) (sym empty);
      age_votes = ap (λ (c : OnLog). c.age_votes) same;
      newer = ap (λ (c : OnLog). c.newer) same;
      long = omega (arith, grown, ap votes_length empty);
      limit = ap (λ (l : LogState D). l.limit) roomy.is;
      within = subst (λ n. n ≤ max new.limit old.content.length) (sym grown) (le-max_right new.limit _);
      last = rw none (failed, roomy.safe whole);
      moments = rw roomy.tells (stays_at (told old.disk) (λ calls. LosesNone old.content)
          (rw (← roomy.tells) (keeps (told new.disk) (roomy.safe whole))));
      lasting = λ first. rw roomy.tells (lasts_still (told old.disk) (LosesNone first));
      calm = λ unbroken. roomy.calm;
      later = omega (arith, roomy.calm);
    }

-- no more is logged than there is, as before
pub logged_on : (word : ℕ) (r : Running) → is_append (next_step r) ≡ false
    → r.replica.logged ≤ length r.replica.history
    → (after_step word r).replica.logged ≤ length (after_step word r).replica.history
logged_on word r other within =
    let g = grows word r.replica (next_step r) other in
    subst (λ (x : Replica). x.logged ≤ length x.history) (sym (ap (λ (x : Running). x.replica) (settled_same word r)))
    (omega (arith, within, g.logged, ap length g.history, length-append r.replica.history g.more))
