-- Logs that stop no member: their disks count no fault, and they have room for all that the age may bring.
use Rattle.std.specs.Prelude.{Option, None, Some}
use Rattle.std.proofs.{Common.{◌≡◌, refl, sym, ap, subst, ℕ, ◌<◌, List, length, map, arith}, lemmas.List.length-map}
use Rattle.dr_disk.specs.Disk.{Told}
use Rattle.dr_entry.{specs.declared.end.{AgeEnd.AgeEnd, End.End, MemberEnd.MemberEnd}, proofs.ListParts.each_at}
use Rattle.dr_log.specs.State.{LogState}
use Rattle.dr_served.{specs.Served.{HasCome, WentSo}, proofs.Served.same_there}
use Rattle.dr_machine.{specs.Group.AllPresent, proofs.Presence.is_present}
use Rattle.dr_program.specs.{Program.{Program, age_of, end_at, end_of}, Replica.Replica}
use Rattle.dr_program.{specs.declared.outcome.LogWhy.LogWhy, proofs.Present.{present_within, all_ends, end_told}}
use Rattle.dr_restart.specs.{Groups.group_of, declared.start.Start.Start}
use Rattle.dr_script.specs.declared.script.Script.{Script}
use Rattle.dr_play.specs.{Age.IsAgeOn, Logged.{AreAmple, AreOpened, IsNotFull, NoneFull, NoneStopped, why_ended}}
use Rattle.dr_entry.specs.declared.end.End.TheVariants as ends
use Rattle.dr_program.specs.declared.outcome.LogWhy.TheVariants as whys

-- a member that neither a fault nor a full log ended was not ended by its log
unstopped : (end : End) → IsNotFull end → (why_ended end ≡ Some whys.DiskFault → ⊥) → why_ended end ≡ None
unstopped ends.DiskFault room calm = absurd (calm refl)
unstopped (ends.LogFull len) room calm = absurd room
unstopped end room calm = refl

module _ {D : Type 0} (told : D → Option Told) (count : D → ℕ) (never : (disk : D) → count disk ≡ 0) where
  -- on a disk that counts no fault no append fails for one
  no_fault : (base log : LogState D) (r : Replica) (why : Option LogWhy) → HasCome told count base log r why
      → why ≡ Some whys.DiskFault → ⊥
  no_fault base log r why come fault =
      let broke = subst (WentSo told count base log r) fault come.last in
      omega (arith, broke.2.rose, never base.disk, never log.disk)

  -- the members of an age that nobody is absent from
  pub none_stopped : (plays : Script → Start → ℕ → AgeEnd → Program → Type 0) (script : Script) (start : Start) (nth : ℕ)
      (bases logs : List (Option (LogState D))) (age : AgeEnd)
      → (on : IsAgeOn plays told count script start nth bases logs age)
      → age ≡ age_of (group_of script start).opening on.played.over → length script.messages ≡ script.members
      → AllPresent (group_of script start) → AreOpened (group_of script start) bases
      → AreAmple (group_of script start) bases → NoneStopped age.members
  none_stopped plays script start nth bases logs age on is lists present opened ample =
      subst NoneStopped (sym ends) (all_ends (λ (e : MemberEnd). why_ended e.end ≡ None) over refl (λ m r member.
      let below : m < length script.messages = omega (
        arith,
        present_within over.members m r member,
        length-map over.members end_at,
        ap length ends,
        on.played.roster,
        lists,
      ) in
      let base = opened.there m below (is_present (group_of script start) m present below) in
      let log = same_there bases logs m base.0 on.places base.1 in
      unstopped (end_of r).end (each_at (λ (e : MemberEnd). IsNotFull e.end)
      (map end_at over.members) m (end_of r) (subst NoneFull ends (on.ample ample)) (end_told over m r member))
      (no_fault base.0 log.0 r.replica (why_ended (end_of r).end) (on.logged m base.0 log.0 r base.1 log.1 member))))
    where
      over : Program
      over = on.played.over

      ends : age.members ≡ map end_at over.members
      ends = ap (λ (a : AgeEnd). a.members) is
