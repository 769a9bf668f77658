-- Logs of members that are served, one by one and all together.
use Rattle.std.specs.Prelude.{Option, Some, is_some, None, slice_set}
use Rattle.std.proofs.Common.{◌≡◌, ap, ◌∙◌, ℕ, List, refl, sym, inl, inr, ◌<◌, length, length-set, get_or, ◌+◌, ◌++◌, ◌-◌, length-append, arith, true, true≢false}
use Rattle.std.proofs.lemmas.{Bool.cases_eq, List.{get_or-set_same, get_or-set_other, get_or_default}}
use Rattle.dr_entry.{specs.{declared.end.End.End, declared.record.Record.Record}, proofs.OptionFacts.some_there}
use Rattle.dr_entry.proofs.Records.{IsOrdinary}
use Rattle.dr_entry.specs.declared.record.Record.TheVariants as records
use Rattle.dr_disk.{specs.{Disk.Told, Images.IsLeft}, proofs.Images.left_so}
use Rattle.dr_log_bytes.specs.Grammar.{StandFor}
use Rattle.dr_log.{specs.{Standing.LosesNone, State.LogState}, proofs.Ordinary.{has_itself, none_lost}}
use Rattle.dr_machine.specs.declared.step.Step.{Step}
use Rattle.dr_machine.specs.declared.step.Step.TheVariants as steps
use Rattle.dr_program.specs.{Presence.{present_at, with_present}, Replica.{Replica, vote_of}}
use Rattle.dr_program.specs.{Running.{Running, deed_of, next_step, deed, next_deed}, Steps.IsAppend}
use Rattle.dr_program.proofs.{Deeds.record_in, Present.{filled_behind, present_set, present_kept, present_within}}
use Rattle.dr_program.specs.declared.deed.Deed.TheVariants as deeds
use Rattle.dr_served.specs.Served.{HaveSamePlaces, IsRecordDue, IsSafe, next_record}

-- a log at the place of one that was there
pub same_there : {D : Type 0} (olds news : List (Option (LogState D))) (m : ℕ) (old : LogState D)
    → HaveSamePlaces olds news → present_at olds m ≡ Some old → (new : LogState D) × (present_at news m ≡ Some new)
same_there olds news m old places there = some_there (present_at news m) (places.each m ∙ ap is_some there)

pub places_same : {D : Type 0} (logs : List (Option (LogState D))) → HaveSamePlaces logs logs
places_same logs = record { all = refl; each = λ k. refl }

pub places_both : {D : Type 0} (logs mids news : List (Option (LogState D))) → HaveSamePlaces logs mids
    → HaveSamePlaces mids news → HaveSamePlaces logs news
places_both logs mids news one other = record { all = other.all ∙ one.all; each = λ k. other.each k ∙ one.each k }

-- what comes to a place that has a log as the one before it
pub places_on : {D : Type 0} (logs : List (Option (LogState D))) (m : ℕ) (x new : Option (LogState D))
    → m < length logs → is_some new ≡ is_some (get_or logs m x) → HaveSamePlaces logs (slice_set logs m new)
places_on logs m x new within same = record {
  all = length-set logs m new;
  each = λ k. elim (cases_eq k m) [
    | inl here ↦ ap (λ n. is_some (present_at (slice_set logs m new) n)) here
        ∙ ap is_some (get_or-set_same logs m new None within) ∙ same
        ∙ ap is_some (get_or_default logs m x None within) ∙ ap (λ n. is_some (present_at logs n)) (sym here)
    | inr other ↦ ap is_some (get_or-set_other logs m k new None other)
  ];
}

pub places_behind : {D : Type 0} (logs more news newer : List (Option (LogState D))) → HaveSamePlaces logs news
    → HaveSamePlaces more newer → HaveSamePlaces (logs ++ more) (news ++ newer)
places_behind logs more news newer a b = record {
  all = length-append news newer ∙ (λ z. a.all z + b.all z) ∙ sym (length-append logs more);
  each = filled_behind logs more news newer a.all a.each b.each;
}

-- a log is read where one stands
pub some_log : {D : Type 0} (logs : List (Option (LogState D))) (x : Option (LogState D)) → length logs ≡ 1
    → is_some (present_at logs 0) ≡ true → x ≡ get_or logs 0 x → x ≡ None → ⊥
some_log logs x one there read none = true≢false
    (sym there ∙ ap is_some (get_or_default logs 0 None x (omega (arith, one)) ∙ sym read ∙ none))

-- where a log was put in place of one the same places are filled
pub put_places : {D : Type 0} (logs : List (Option (LogState D))) (old new : LogState D) (m : ℕ)
    → present_at logs m ≡ Some old → HaveSamePlaces logs (with_present logs m new)
put_places logs old new m there = record {
  all = length-set logs m (Some new);
  each = λ k. elim (cases_eq k m) [
    | inl here ↦ ap (λ i. is_some (present_at (with_present logs m new) i)) here ∙ ap is_some (present_set logs m new
        (present_within logs m old there)) ∙ sym (ap is_some there) ∙ sym (ap (λ i. is_some (present_at logs i)) here)
    | inr other ↦ ap is_some (present_kept logs m k new other)
  ];
}

-- what stands on a log has been kept by whatever the member may leave of it
pub ordinary_due : (r : Replica) (next : Record) → IsRecordDue r next → IsOrdinary next
ordinary_due r (records.Entry x) due = tt
ordinary_due r (records.Vote v) due = tt
ordinary_due r (records.AgeVote v) due = absurd due
ordinary_due r (records.Cut keep) due = absurd due
ordinary_due r records.Upgrade due = absurd due

-- what is safe on a log has not been lost
pub safe_kept : {D : Type 0} (tells : D → Option Told) (log : LogState D) → IsSafe tells log
    → IsLeft (tells log.disk) (LosesNone log.content)
safe_kept tells log safe = left_so (tells log.disk) (λ image. StandFor image log.content) (LosesNone log.content)
    (λ image is. none_lost log.content log.content image (has_itself log.content) is) safe

-- the step is an append of this record
abbrev pub IsAppendOf : Running → Step → Record → Type 0
IsAppendOf r steps.Append next = next ≡ next_record r.replica.history r.replica.logged
IsAppendOf r (steps.LogVote v) next = next ≡ records.Vote (vote_of r.replica v)
IsAppendOf r s next = ⊥

by_step : (r : Running) (s : Step) (next : Record) → deed_of r s ≡ deeds.Append next → IsAppendOf r s next
by_step r steps.Append next e = sym (ap (record_in next) e)
by_step r (steps.LogVote v) next e = sym (ap (record_in next) e)
by_step r (steps.Do a) next e = absurd (cc (e))
by_step r (steps.Look i c) next e = absurd (cc (e))
by_step r (steps.Push j c) next e = absurd (cc (e))
by_step r (steps.Welcome j) next e = absurd (cc (e))
by_step r steps.Join next e = absurd (cc (e))

-- who is to append has no end, and that is its next step
pub record IsToAppend (r : Running) (next : Record) : Type 0 where
  pub none : r.replica.end ≡ None
  pub step : IsAppendOf r (next_step r) next

pub to_append : (r : Running) (next : Record) → next_deed r ≡ deeds.Append next → IsToAppend r next
to_append r next = by r.replica.end refl
  where
    by : (o : Option End) → r.replica.end ≡ o → deed r o ≡ deeds.Append next → IsToAppend r next
    by None none e = record { none = none; step = by_step r (next_step r) next e }
    by (Some end) ended e = absurd (cc (e))

pub append_next : (r : Running) (next : Record) → next_deed r ≡ deeds.Append next → IsAppend (next_step r)
append_next r next due = by (next_step r) (to_append r next due).step
  where
    by : (s : Step) → IsAppendOf r s next → IsAppend s
    by steps.Append is = tt
    by (steps.LogVote v) is = tt
    by s is = absurd is
