-- Where an append of a member has begun, or has failed, no vote of it waits to be acted on, also as it has ended
-- by that.
use Rattle.std.specs.Prelude.{Option, None, Some}
use Rattle.std.proofs.Common.{◌≡◌, refl, sym, ap, ◌∙◌, inl, inr, ℕ, ◌≤◌, false, List}
use Rattle.dr_entry.specs.{declared.end.End.TheVariants.DiskFault, declared.record.Record.Record}
use Rattle.dr_machine.specs.Group.{Group, IsGroup}
use Rattle.dr_program.specs.{Form.IsRunningMember, Presence.present_at, Running.Running, Turn.part_of}
use Rattle.dr_program.specs.{Program.{AreSetups, IsRanFrom, Program, begun_program, ran}, declared.setup.Setup.Setup}
use Rattle.dr_program.{specs.declared.outcome.LogWhy.LogWhy, proofs.RunningPrograms.{AreIdleFailed, idle_at}}
use Rattle.dr_program.specs.declared.outcome.LogWhy.TheVariants as whys
use Rattle.dr_served.proofs.Served.{append_next}
use Rattle.dr_program_laws.{specs.Failing.{AreFailing, has_log_end}, proofs.Waiting.all_idle}
use Rattle.dr_kept.specs.Leaving.{HasBegunAppend, HasDiskFailed}

-- no vote of a member waits an append of which has begun
pub idle_append : (g : Group) (turns : ℕ) (setups : List (Option Setup)) (p : Program) (m : ℕ) (r : Running)
    (next : Record) → IsGroup g → 1 ≤ turns → AreSetups g turns setups → IsRanFrom (begun_program g setups) p
    → present_at p.members m ≡ Some r → IsRunningMember r → HasBegunAppend r next → r.replica.pending ≡ None
idle_append g turns setups p m r next group some are ran there form = by
  where
    both : AreFailing p × AreIdleFailed p
    both = all_idle g turns setups p group some are ran

    -- who has ended by its disk
    none_so : r.replica.end ≡ Some DiskFault → has_log_end r.replica.end ≡ false → r.replica.pending ≡ None
    none_so over well = absurd (let e = sym (ap has_log_end over) ∙ well in cc (e))

    ended : r.replica.end ≡ Some DiskFault → (o : Option LogWhy) → r.failed ≡ o → r.replica.pending ≡ None
    ended over None unfailed = none_so over ((both.0 m r there).well unfailed)
    ended over (Some why) failed = both.1 m r there why failed

    failed_so : HasDiskFailed r → r.replica.pending ≡ None
    failed_so (inl failed) = both.1 m r there whys.DiskFault failed
    failed_so (inr over) = ended over r.failed refl

    by : HasBegunAppend r next → r.replica.pending ≡ None
    by (inl due) = idle_at r (part_of r.place) r.place.row r.place.column (append_next r next due) form.free
    by (inr had) = failed_so had.0
