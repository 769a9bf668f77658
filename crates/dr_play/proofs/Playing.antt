-- An age that was played until its program was over.
use Rattle.std.{specs.Prelude.Option, proofs.Common.{◌≡◌, sym, ap, ◌∙◌, subst, ℕ, List, length, map}}
use Rattle.std.proofs.lemmas.List.{length-map}
use Rattle.dr_disk.specs.Disk.{Told}
use Rattle.dr_entry.specs.declared.end.{AgeEnd.AgeEnd, MemberEnd.MemberEnd}
use Rattle.dr_history.specs.Agreement.{EndsAgreed}
use Rattle.dr_log.specs.State.{LogState}
use Rattle.dr_program.specs.Program.{IsRanFrom, Program, age_of, end_at}
use Rattle.dr_program_laws.{specs.{Ended.HaveEnded, Trusting.NoneLeft}, proofs.Ending.{ended_by_script, ends_agreed}}
use Rattle.dr_program_laws.proofs.Trusting.{none_by_script}
use Rattle.dr_restart.specs.{Groups.group_of, Setups.{IsBegun, crashes_of}, declared.start.Start.Start}
use Rattle.dr_script.specs.{Ranges.HasRanges, declared.script.Script.Script}
use Rattle.dr_play.{specs.{Age.IsAgeOn, Logged.NoneFull}, proofs.Ends.{IsOver, have_come, none_full}}

-- it is one, however it was played, where its program ran from its beginning
pub age_on : {D : Type 0} (plays : Script → Start → ℕ → AgeEnd → Program → Type 0) (told : D → Option Told)
    (faults : D → ℕ) (script : Script) (start : Start) (nth : ℕ) (olds news : List (Option (LogState D)))
    (begun p : Program) (age : AgeEnd) → HasRanges script → IsBegun script start nth begun → IsRanFrom begun p
    → IsOver told faults (group_of script start) olds news p → age ≡ age_of (group_of script start).opening p
    → plays script start nth age p → IsAgeOn plays told faults script start nth olds news age
age_on plays told faults script start nth olds news begun p age ranges begins ran over is run = record {
  played = record {
    over = p;
    run = run;
    roster = ap length ends ∙ length-map p.members end_at ∙ over.sound.form.all ∙ ranges.group.lists;
    agreed = subst (λ (es : List MemberEnd). EndsAgreed (group_of script start).opening es) (sym ends)
        (ends_agreed (group_of script start) p over.sound.group over.sound.form over.sound.reached);
    ended = subst (λ (es : List MemberEnd). HaveEnded (group_of script start).opening script.turns
        (crashes_of script.faults nth) es) (sym ends)
        (ended_by_script script start nth begun p over.sound.group ranges.group.lists ranges.some_turn begins ran
        over.ended);
    trusting = λ nobody. subst NoneLeft (sym ends)
        (none_by_script script start nth begun p over.sound.group ranges.group.lists ranges.some_turn nobody begins
        ran);
  };
  logged = have_come told faults (group_of script start) olds news p over;
  ample = λ ample. subst NoneFull (sym ends) (none_full told faults (group_of script start) olds news p over ample);
  places = over.places;
}
  where
    ends : age.members ≡ map end_at p.members
    ends = ap (λ (a : AgeEnd). a.members) is
