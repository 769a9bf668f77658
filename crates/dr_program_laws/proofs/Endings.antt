-- Members that have ended, or gone away.
use Rattle.std.proofs.Common.{◌≡◌, ◌≢◌, sym, ap, ◌∙◌, subst, ℕ, inl, inr, true≢false, List, true, false}
use Rattle.dr_entry.specs.declared.end.End.TheVariants as ends
use Rattle.dr_entry.specs.declared.end.MemberEnd.{MemberEnd}
use Rattle.dr_history.specs.declared.opening.Opening.{Opening}
use Rattle.dr_program.specs.declared.setup.CrashPoint.{CrashPoint}
use Rattle.dr_program_laws.specs.Ended.{HasEnded, HasReason, IsLeftOut, is_log_end, IsWhole}

-- nobody that is there ends as one that is absent
pub not_away : (o : Opening) (all : List MemberEnd) (limit m : ℕ) (points : List CrashPoint) (e : MemberEnd)
    → HasEnded o all limit m points e → e.end ≡ ends.Absent → ⊥
not_away o all limit m points e ended away = by ended.reason
  where
    by : HasReason o all ended.number ended.members limit m points e → ⊥
    by (inl done) = absurd (cc (done.whole.end, away))
    by (inr (inl spent)) = absurd (cc (spent.end, away))
    by (inr (inr (inl crashed))) = absurd (cc (crashed.end, away))
    by (inr (inr (inr (inl by_log)))) = true≢false (sym by_log.end ∙ ap is_log_end away)
    by (inr (inr (inr (inr left)))) = subst (IsLeftOut o all ended.number ended.members m) away left.end

-- who is done has all messages of the members of its view
pub done_whole : (o : Opening) (members : List MemberEnd) (number view limit m : ℕ) (points : List CrashPoint)
    (e : MemberEnd) → e.end ≡ ends.Done → HasReason o members number view limit m points e
    → IsWhole o members number view e
done_whole o members number view limit m points e done (inl is) = is.whole
done_whole o members number view limit m points e done (inr (inl spent)) =
    let other : ends.Spent limit ≡ ends.Done = sym spent.end ∙ done in absurd (cc)
done_whole o members number view limit m points e done (inr (inr (inl crashed))) =
    let other : ends.Crashed ≡ ends.Done = sym crashed.end ∙ done in absurd (cc)
done_whole o members number view limit m points e done (inr (inr (inr (inl logged)))) =
    let other : false ≡ true = sym (ap is_log_end done) ∙ logged.end in absurd (cc)
done_whole o members number view limit m points e done (inr (inr (inr (inr left)))) =
    absurd (subst (IsLeftOut o members number view m) done left.end)
