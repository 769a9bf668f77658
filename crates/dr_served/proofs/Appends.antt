-- What an append to a log has come to for its member.
use Rattle.std.{specs.Prelude.{Option, Result, Ok, Err, IsErrOf, OnOk, None, All, Some}, proofs.lemmas.Bool.and_parts}
use Rattle.std.proofs.Common.{◌≡◌, refl, sym, subst, ℕ, ◌+◌, ◌<◌, ◌≤◌, arith, ap, true, length, ltb-true, false, List}
use Rattle.dr_disk.specs.{Disk.Told, Images.{Goes, Lasts}}
use Rattle.dr_entry.specs.{Spelling.{IsValid, IsValidEntry}, declared.entry.Entry.{Entry, TheVariants.View}}
use Rattle.dr_entry.{specs.declared.record.{Record.Record, Value.Value}, proofs.Records.IsOrdinary}
use Rattle.dr_io.specs.Faults.{Rose}
use Rattle.dr_log.specs.Standing.{HasAllOf, IsBeforeOrAfter, LosesNone}
use Rattle.dr_log.specs.State.{KeepsLimit, LogState, appended, as_entry, as_other, as_vote, broken_off as log_broken_off}
use Rattle.dr_log.{specs.declared.fault.LogFault.LogFault, proofs.Ordinary.{ordinary_keeps, ordinary_spare}}
use Rattle.dr_log.specs.declared.fault.LogFault.TheVariants as faults
use Rattle.dr_log_bytes.{specs.Content.{IsPlaced, OnLog, block_length, with_record}, proofs.Grammars.ordinary_placed}
use Rattle.dr_machine.specs.declared.step.Step.{Step, TheVariants.{Append, LogVote}}
use Rattle.dr_program.specs.{Form.HasForm, Replica.{is_inside, may_append, may_vote, vote_of}}
use Rattle.dr_program.specs.{Running.{Running, broken_off, next_step}, Schedule.is_between_turns}
use Rattle.dr_program.specs.Steps.{IsAppend, allows, IsNoJoin, stored_letters}
use Rattle.dr_program.proofs.Voting.{vote_room, vote_valid, votes_for}
use Rattle.dr_served.specs.Appended.{HasAppended, HasBroken, IsAppendDue, IsOver, record_due, why_of, MayLog, record_of, is_append}
use Rattle.dr_served.specs.Served.{HasServed, IsReady, IsSafe, LosesNothing}
use Rattle.dr_served.proofs.Serving.{failed_served, full_served, ordinary_record, spares, unfailed}

-- what an append of this record promises of what no crash loses
abbrev pub KeepsMoments : {D : Type 0} → (D → Option Told) → LogState D → LogState D → Record → Type 0
KeepsMoments told log new due = (first : OnLog) → (HasAllOf first log.content → HasAllOf first
    (with_record due log.content)) → Lasts (told log.disk) (told new.disk) (LosesNone first)

-- an entry or a vote takes nothing away
ordinary_due : (r : Running) (due : Record) → due ≡ record_due r → IsOrdinary due
ordinary_due r due same = subst IsOrdinary (sym same) (ordinary_record r (next_step r))

loses_nothing : {D : Type 0} (told : D → Option Told) (log new : LogState D) (r : Running) (due : Record)
    → due ≡ record_due r → KeepsMoments told log new due → LosesNothing told log new
loses_nothing told log new r due same lasting first =
    lasting first (ordinary_keeps due first log.content (ordinary_due r due same))

-- a record that is the one due was appended
did_append : {D : Type 0} (told : D → Option Told) (count : D → ℕ) (log new : LogState D) (r : Running) (due : Record)
    → due ≡ record_due r → new ≡ appended log due new.disk → log.content.length + block_length due ≤ log.limit
    → Goes (told log.disk) (told new.disk) (λ calls. IsBeforeOrAfter log.content due) → KeepsMoments told log new due
    → IsSafe told new → count new.disk ≡ count log.disk → HasAppended told count log new r
did_append told count log new r due same made fits goes lasting safe calm = record {
  made = subst (λ x. new ≡ appended log x new.disk) same made;
  fits = subst (λ x. log.content.length + block_length x ≤ log.limit) same fits;
  goes = subst (λ x. Goes (told log.disk) (told new.disk) (λ calls. IsBeforeOrAfter log.content x)) same goes;
  lasting = loses_nothing told log new r due same lasting;
  safe = safe;
  calm = calm;
}

-- by the answer of its log
pub appended_due : {D : Type 0} (T : Type 0) (told : D → Option Told) (count : D → ℕ) (log new : LogState D)
    (r : Running) (due : Record) (result : Result T LogFault) → due ≡ record_due r
    → OnOk result (new ≡ appended log due new.disk)
    → KeepsLimit log.limit log.content.length (block_length due) result
    → Goes (told log.disk) (told new.disk) (λ calls. IsBeforeOrAfter log.content due) → KeepsMoments told log new due
    → OnOk result (IsSafe told new) → OnOk result (count new.disk ≡ count log.disk)
    → OnOk result (HasAppended told count log new r)
appended_due T told count log new r due (Ok x) same made fits goes lasting safe calm =
    did_append told count log new r due same made fits goes lasting safe calm
appended_due T told count log new r due (Err fault) same made fits goes lasting safe calm = tt

-- or it wasn't, since the disk failed
pub broken_due : {D : Type 0} (told : D → Option Told) (count : D → ℕ) (log new : LogState D) (r : Running)
    (due : Record) → due ≡ record_due r → new ≡ log_broken_off log due new.disk
    → Goes (told log.disk) (told new.disk) (λ calls. IsBeforeOrAfter log.content due) → KeepsMoments told log new due
    → Rose (count log.disk) (count new.disk) → count log.disk ≤ count new.disk → HasBroken told count log new r
broken_due told count log new r due same made goes lasting rose later = record {
  made = subst (λ x. new ≡ log_broken_off log x new.disk) same made;
  goes = subst (λ x. Goes (told log.disk) (told new.disk) (λ calls. IsBeforeOrAfter log.content x)) same goes;
  lasting = loses_nothing told log new r due same lasting;
  rose = rose;
  later = later;
}

-- or since there is no room for it
pub over_due : {D : Type 0} (T : Type 0) (log : LogState D) (r : Running) (due : Record) (len : ℕ)
    (result : Result T LogFault) → due ≡ record_due r
    → KeepsLimit log.limit log.content.length (block_length due) result → IsErrOf result (faults.LogFull len)
    → IsOver log len r
over_due T log r due len result same limit is =
    let told = subst (KeepsLimit log.limit log.content.length (block_length due)) is limit in record {
      long = told.0;
      over = subst (λ x. log.limit < len + block_length x) same
          (subst (λ n. log.limit < n + block_length due) (sym told.0) told.1);
    }

-- the member tells why
pub failed_due : {D : Type 0} (T : Type 0) (told : D → Option Told) (count : D → ℕ) (base log new : LogState D)
    (r : Running) (fault : LogFault) → IsAppendDue r
    → (IsErrOf {T = T} (Err fault) faults.DiskFault → HasBroken told count log new r) → ((len : ℕ)
    → IsErrOf {T = T} (Err fault) (faults.LogFull len) → (new ≡ log) × IsOver log len r)
    → HasServed told count base log r → HasServed told count base new (broken_off (why_of fault) r)
failed_due T told count base log new r faults.DiskFault is broken full served =
    let b = broken refl in
    failed_served told count base log new r is.due served b.made b.goes b.lasting b.rose b.later
failed_due T told count base log new r (faults.LogFull len) is broken full served =
    let f = full len refl in
    subst (λ l. HasServed told count base l (broken_off (why_of (faults.LogFull len)) r)) (sym f.0)
    (full_served told count base log r len is.due served f.1.long f.1.over)

-- the log has a spare for the record that is due, which may stand there
pub has_spares : {D : Type 0} (log : LogState D) (r : Running) (due : Record) → IsAppendDue r
    → due ≡ record_due r → IsReady log r → (as_entry due ≤ log.spare_entries) × (as_vote due ≤ log.spare_votes)
has_spares log r due is same ready = subst (λ x. (as_entry x ≤ log.spare_entries) × (as_vote x ≤ log.spare_votes))
    (sym same) (spares log r (next_step r) is.due is.room (unfailed r is.due) ready)

pub has_place : {D : Type 0} (log : LogState D) (r : Running) (due : Record) → due ≡ record_due r
    → (as_other due ≤ log.spare_others) × IsPlaced log.content due
has_place log r due same =
    let ordinary = ordinary_due r due same in
    (omega (arith, ordinary_spare due ordinary), ordinary_placed due log.content ordinary)

-- an append that is allowed is of the next entry, which is there, or of a vote
pub may_log : (r : Running) (s : Step) → HasForm r.replica → IsAppend s → allows r.replica s ≡ true
    → r.replica.pending ≡ None → MayLog r s
may_log r Append form is both free = ltb-true r.replica.logged (length r.replica.history)
    (and_parts (is_inside r.replica) (may_append r.replica) both).1
may_log r (LogVote v) form is both free =
    let may = (and_parts (is_inside r.replica) (may_vote r.replica v) both).1 in record {
      may = subst (λ (x : Value). may_vote r.replica x ≡ true) (votes_for r.replica v may) may;
      is = ap (vote_of r.replica) (votes_for r.replica v may);
      valid = vote_valid r.replica v form may;
      few = vote_room r.replica v form free may;
    }
may_log r s form is may free = absurd is

-- and its record is valid where the entries of the member's history are
pub valid_due : (r : Running) (s : Step) → All IsValidEntry r.replica.history → MayLog r s → IsValid (record_of r s)
valid_due r Append valid may = valid r.replica.logged (View 0 0 0) may
valid_due r (LogVote v) valid may = may.valid
valid_due r s valid may = absurd may

-- the deed is no append, no take, and gives no letter
pub record IsPlain (r : Running) (s : Step) : Type 0 where
  pub other : is_append s ≡ false
  pub no_join : IsNoJoin s
  pub posts : (letters : List (Option (List Entry))) → stored_letters letters r.replica s ≡ letters

-- so it has not ended, appends nothing, and stands amid its turn
pub record IsSweeping (r : Running) : Type 0 where
  pub none : r.replica.end ≡ None
  pub other : is_append (next_step r) ≡ false
  pub no_join : IsNoJoin (next_step r)
  pub posts : (letters : List (Option (List Entry))) → stored_letters letters r.replica (next_step r) ≡ letters
  pub amid : is_between_turns (Some r) ≡ false
