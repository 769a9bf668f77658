-- Members with their logs, as they act and when they end.
use Rattle.std.specs.Prelude.{IsTrue, Some, is_some, unwrap_or, Option, Err, Ok, OnErr, OnOk, Result, None}
use Rattle.std.{specs.declared.alloc.AllocError.AllocError, proofs.lemmas.Option.same_Some}
use Rattle.std.proofs.Common.{◌≡◌, refl, sym, ap, ◌∙◌, inl, inr, [], true≢false, ℕ, ◌<◌, ◌≤◌, List, subst, arith, true}
use Rattle.dr_entry.specs.declared.end.End.{End}
use Rattle.dr_entry.specs.declared.end.End.TheVariants as ends
use Rattle.dr_disk.specs.Disk.{Told}
use Rattle.dr_log.specs.State.{LogState}
use Rattle.dr_machine.specs.declared.step.Step.TheVariants.{Append}
use Rattle.dr_program.specs.{Presence.present_at, Program.{end_of, appended_as}}
use Rattle.dr_program.specs.{Running.{Running, end_by, next_deed, next_step}, Steps.IsAppend, declared.deed.Deed.Deed}
use Rattle.dr_program.{specs.declared.outcome.{LogWhy.LogWhy, Outcome.Outcome}, proofs.Deeds.settle_replica}
use Rattle.dr_program.proofs.Replicas.{unended_append}
use Rattle.dr_program.specs.declared.outcome.LogWhy.TheVariants as whys
use Rattle.dr_program.specs.declared.deed.Deed.TheVariants as deeds
use Rattle.dr_program.specs.declared.outcome.Outcome.TheVariants as outcomes
use Rattle.dr_served.specs.Served.{HaveSamePlaces, IsRoomy}
use Rattle.dr_member.specs.Deeds.{is_append}
use Rattle.dr_program_laws.specs.Failing.{IsFailing}
use Rattle.dr_play.{specs.Logged.{why_ended, AreAsBefore, AreCalm, IsAsBefore, IsNotFull}, proofs.Deeds.deed_tells}

-- a member whose append has failed ends by it
pub stopped : (r : Running) (why : LogWhy) → IsFailing r → r.failed ≡ Some why → IsTrue (is_some r.replica.end)
    → why_ended (end_of r).end ≡ Some why
stopped r why is failed ended = elim (is.broken why failed) [
  | inl still ↦ absurd (true≢false (sym ended ∙ ap is_some still.0))
  | inr over ↦ ap (λ o. why_ended (unwrap_or o ends.Done)) over ∙ by why
]
  where
    by : (w : LogWhy) → why_ended (end_by w) ≡ Some w
    by whys.DiskFault = refl
    by (whys.LogFull len) = refl

-- the logs below k got room, and the others are as they were
pub record HasMadeRoom {D : Type 0} (told : D → Option Told) (count : D → ℕ) (members : List (Option Running))
    (olds news : List (Option (LogState D))) (k : ℕ) : Type 0 where
  pub made : (m : ℕ) (r : Running) (old new : LogState D) → m < k → present_at members m ≡ Some r
      → present_at olds m ≡ Some old → present_at news m ≡ Some new → IsRoomy told count r old new
  pub others : (m : ℕ) → k ≤ m → present_at news m ≡ present_at olds m
  pub places : HaveSamePlaces olds news
  pub same : AreAsBefore olds news
  pub calm : AreCalm told count olds news

-- before the first
pub none_made : {D : Type 0} (told : D → Option Told) (count : D → ℕ) (members : List (Option Running))
    (logs : List (Option (LogState D))) → HasMadeRoom told count members logs logs 0
none_made told count members logs = record {
  made = λ m r old new below member there here. absurd (omega (arith, below));
  others = λ m above. refl;
  places = record { all = refl; each = λ m. refl };
  same = λ m old new there here. subst (λ x. IsAsBefore old x) (same_Some old new (sym there ∙ here)) refl;
  calm = λ m old new there here.
      let is = same_Some new old (sym here ∙ there) in (ap (λ x. told x.disk) is, ap (λ x. count x.disk) is);
}

-- what room is made for leaves what is on the log, whether there was memory or not
pub reserve_keeps : {D : Type 0} (result : Result (Unit {0}) AllocError) (old new more less : LogState D)
    → more.content ≡ old.content → less.content ≡ old.content → OnOk result (new ≡ more)
    → OnErr result (new ≡ less) → IsAsBefore old new
reserve_keeps {D} (Ok u) old new more less kept lost ok err = ap (λ (l : LogState D). l.content) ok ∙ kept
reserve_keeps {D} (Err e) old new more less kept lost ok err = ap (λ (l : LogState D). l.content) err ∙ lost

-- a member whose next deed is an append is due to append
pub append_due : (r : Running) → is_append (next_deed r) ≡ true → (r.replica.end ≡ None) × IsAppend (next_step r)
append_due r due = by (next_deed r) refl due
  where
    by : (d : Deed) → next_deed r ≡ d → is_append d ≡ true → (r.replica.end ≡ None) × IsAppend (next_step r)
    by (deeds.Append x) next due = let t = deed_tells [] r (deeds.Append x) next in (t.none, t.says.0)
    by d next due = absurd (cc)

-- an append ends nobody
pub append_stays : (o : Outcome) (r : Running) → is_append (next_deed r) ≡ true → (appended_as o r).replica.end ≡ None
append_stays (outcomes.Failed why) r due = (append_due r due).0
append_stays outcomes.Ok r due =
    let (none, step) = append_due r due in
    ap (λ q. q.end) (settle_replica _ _) ∙ unended_append 0 r.replica (next_step r) step ∙ none

-- an end by a failed append is none of a member whose log did not end it
pub by_log : (why : LogWhy) (o : Option End) → o ≡ Some (end_by why) → why_ended (unwrap_or o ends.Done) ≡ None → ⊥
by_log whys.DiskFault o is none = absurd (cc)
by_log (whys.LogFull len) o is none = absurd (cc)

-- whom a disk ended
by_disk : (end : End) → why_ended end ≡ Some whys.DiskFault → end ≡ ends.DiskFault
by_disk ends.DiskFault e = refl
by_disk (ends.LogFull len) e = absurd (cc)
by_disk end e = absurd (cc)

-- who has ended by a disk has ended
pub ended_by_disk : (o : Option End) → why_ended (unwrap_or o ends.Done) ≡ Some whys.DiskFault
    → o ≡ Some ends.DiskFault
ended_by_disk None e = absurd (cc)
ended_by_disk (Some end) e = ap Some (by_disk end e)

pub unstopped : (e : End) → IsNotFull e → (e ≡ ends.DiskFault → ⊥) → why_ended e ≡ None
unstopped ends.Done room safe = refl
unstopped ends.Crashed room safe = refl
unstopped (ends.Suspected by) room safe = refl
unstopped (ends.Excluded view) room safe = refl
unstopped (ends.NoMajority mask) room safe = refl
unstopped ends.DiskFault room safe = absurd (safe refl)
unstopped (ends.LogFull len) room safe = absurd room
unstopped (ends.Spent turns) room safe = refl
unstopped ends.Absent room safe = refl
