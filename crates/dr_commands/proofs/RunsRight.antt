-- The report of a run whose last line has status 0, 8 or 9 is right.
use Rattle.std.proofs.Common.{◌≡◌, ◌≢◌, ◌⊎◌, refl, sym, ap, ◌∙◌, subst, inl, inr, ℕ, suc, ◌+◌, ◌-◌, ◌^◌, ◌<◌, ◌≤◌, ◌&&◌, nat_lt, not, true, false, true≢false, pow_mono, arith, List, [], All, Option, None, Some, is_some, length, slice_get}
use Rattle.std.proofs.lemmas.{Bool.{cases_Bool, or_parts}, Option.same_Some}
use Rattle.dr_ages.specs.{Ages.{IsAgeOf, opening_of, taking_part}, Runs.{AreKept, IsRunOf}, declared.mode.Mode.Mode}
use Rattle.dr_ages.{specs.declared.{part.Part.Part, stop.Stop.Stop}, proofs.Parts.{its_group, all_ages}}
use Rattle.dr_check.specs.Lines.{EndFits, LastFits}
use Rattle.dr_check.specs.Values.{HasSmallNumbers, IsAgreed, KeepEachOther, TellsNothing, told_opening, took_part}
use Rattle.dr_check.proofs.{Agreed.{end_there, is_here, order, told_as_opened}, Flawless.printed_right, Values.took}
use Rattle.dr_entry.{specs.declared.end.{AgeEnd.AgeEnd, End.End, MemberEnd.MemberEnd}, proofs.ListParts.each_at}
use Rattle.dr_entry.proofs.{ListPlaces.all_from_places, NumberFacts.{IsRunEnd, apart}}
use Rattle.dr_check.specs.declared.verdict.Verdict.TheVariants as verdicts
use Rattle.dr_entry.specs.declared.end.End.TheVariants as ends
use Rattle.dr_history.specs.{Agreement.{EndsAgreed, accounts_of, sent_by}, declared.opening.Opening.Opening}
use Rattle.dr_history.{specs.{History.GroupView, Soundness.{IsPresentIn, Sound}}, proofs.MemberLemmas.low_number}
use Rattle.dr_history.{specs.{Members.{has, members_of}, Restarting.Kept}, proofs.{Bits.has_zero, Masks.same_masks}}
use Rattle.dr_intake.specs.Status.{status_of}
use Rattle.dr_outcome.specs.Last.{first_end, first_told, is_of, last_by, last_of, refusal_of, some_end, stopped_by}
use Rattle.dr_outcome.specs.declared.last.Kind.TheVariants.{DiskFault, LogFull, NoMajority, Spent}
use Rattle.dr_outcome.proofs.{Due.line_behind, Lasts.{refusal_status, told_so}, OutcomeKinds.none_full}
use Rattle.dr_program.specs.Program.{absent_end}
use Rattle.dr_program_laws.specs.Ended.{HasEnded, HasReason, IsLeftOut, is_log_end}
use Rattle.dr_restart.specs.Setups.{crashes_of}
use Rattle.dr_script.specs.{Ranges.HasRanges, declared.script.Script.Script}
use Rattle.dr_text.specs.{Report.{is_absent, report_text}, declared.last.Last.Last}
use Rattle.dr_text.specs.declared.last.Last.TheVariants as lasts
use Rattle.dr_words.{specs.Masks.mask_of, proofs.Masks.{has_mask_of, in_roster_small}}
use Rattle.dr_yard.specs.Yards.{AllTell, YardState}
use Rattle.dr_commands.specs.Check.{TellsVerdict}

-- ---- the last line

-- a last line with one of them tells of no full log, and is one of a report
fits_by : (disk : Option ℕ) (logs : Option Last) (full turns split : Option ℕ) (line : Last)
    → ((l : Last) → logs ≡ Some l → status_of l ≡ 7) → last_by disk logs full turns split ≡ line
    → IsRunEnd (status_of line) → (is_some full ≡ false) × LastFits line
fits_by (Some m) logs full turns split line seven said end = absurd (apart 6 (status_of line)
    (λ e. omega (arith, e)) (λ e. omega (arith, e)) (λ e. omega (arith, e)) (ap status_of (sym said)) end)
fits_by None (Some l) full turns split line seven said end = absurd (apart 7 (status_of line) (λ e. omega (arith, e))
    (λ e. omega (arith, e)) (λ e. omega (arith, e)) (ap status_of (sym said) ∙ seven l refl) end)
fits_by None None (Some m) turns split line seven said end = absurd (apart 11 (status_of line)
    (λ e. omega (arith, e)) (λ e. omega (arith, e)) (λ e. omega (arith, e)) (ap status_of (sym said)) end)
fits_by None None None (Some m) split line seven said end = (refl, subst LastFits said tt)
fits_by None None None None (Some m) line seven said end = (refl, subst LastFits said tt)
fits_by None None None None None line seven said end = (refl, subst LastFits said tt)

last_fits : (ages : List AgeEnd) (stop : Option Stop) (line : Last) → last_of ages stop ≡ Some line
    → IsRunEnd (status_of line) → (some_end LogFull ages ≡ false) × LastFits line
last_fits ages stop line is end =
    let by = fits_by (first_told DiskFault ages stop) (refusal_of stop) (first_told LogFull ages stop)
    (first_end Spent ages) (first_end NoMajority ages) line (refusal_status stop) (line_behind ages stop line is).1
    end in (
      (or_parts (some_end LogFull ages) (is_some (stopped_by LogFull stop))
          (sym (told_so LogFull ages stop) ∙ by.0)).0,
      by.1,
    )

-- ---- the ends of members

-- the end of a member that was left out
left_fits : (o : Opening) (all : List MemberEnd) (number members m : ℕ) (end : End) → length o.messages ≤ 16
    → number ≤ 32 → ((n : ℕ) → has members n ≡ true → n < length o.messages)
    → IsLeftOut o all number members m end → EndFits end
left_fits o all number members m (ends.Suspected by) few low roster out = omega (arith, roster by out.0, few)
left_fits o all number members m (ends.NoMajority mask) few low roster out =
    let small = in_roster_small (length o.messages) mask (λ n h. roster n (out.1 n h)) in
    let most : 2 ^ length o.messages ≤ 2 ^ 16 = pow_mono few in (
      omega (arith, small, most),
      λ none. true≢false (sym out.0 ∙ (ap (λ (x : ℕ). has x m) none ∙ has_zero m)),
    )
left_fits o all number members m (ends.Excluded view) few low roster out = omega (arith, out.0, low)
left_fits o all number members m ends.Done few low roster out = absurd out
left_fits o all number members m ends.Crashed few low roster out = absurd out
left_fits o all number members m ends.DiskFault few low roster out = absurd out
left_fits o all number members m (ends.LogFull len) few low roster out = absurd out
left_fits o all number members m (ends.Spent turns) few low roster out = absurd out
left_fits o all number members m ends.Absent few low roster out = absurd out

-- one by a log that was not full
log_fits : (end : End) → is_log_end end ≡ true → is_of LogFull end ≡ false → EndFits end
log_fits ends.DiskFault by_log other = tt
log_fits (ends.LogFull len) by_log other = absurd (true≢false other)
log_fits ends.Done by_log other = absurd (true≢false (sym by_log))
log_fits ends.Crashed by_log other = absurd (true≢false (sym by_log))
log_fits (ends.Suspected by) by_log other = absurd (true≢false (sym by_log))
log_fits (ends.Excluded view) by_log other = absurd (true≢false (sym by_log))
log_fits (ends.NoMajority mask) by_log other = absurd (true≢false (sym by_log))
log_fits (ends.Spent turns) by_log other = absurd (true≢false (sym by_log))
log_fits ends.Absent by_log other = absurd (true≢false (sym by_log))

-- any but that of a full log
end_fits : (script : Script) (a : AgeEnd) (nth m : ℕ) (e : MemberEnd) → HasRanges script → IsAgreed script a
    → slice_get a.members m ≡ Some e → is_absent e.end ≡ false
    → HasEnded (told_opening script a) a.members script.turns m (crashes_of script.faults nth m) e
    → is_of LogFull e.end ≡ false → EndFits e.end
end_fits script a nth m e ranges good here took ended other = by ended.reason
  where
    few : length script.messages ≤ 16
    few = omega (arith, ranges.group.most_members, ranges.group.lists)

    low : ended.number ≤ 32
    low =
        let view : GroupView = record { age = a.age; number = ended.number; members = members_of ended.members } in
        low_number (told_opening script a) (sent_by (accounts_of a.members)) e.history view
        (order script a ranges.group.most_members good m e here took) ended.view

    by : HasReason (told_opening script a) a.members ended.number ended.members script.turns m
        (crashes_of script.faults nth m) e → EndFits e.end
    by (inl done) = subst EndFits (sym done.whole.end) tt
    by (inr (inl spent)) =
        let small : script.turns < 2 ^ 32 = omega (arith, ranges.most_turns) in subst EndFits (sym spent.end) small
    by (inr (inr (inl crashed))) = subst EndFits (sym crashed.end) tt
    by (inr (inr (inr (inl by_log)))) = log_fits e.end by_log.end other
    by (inr (inr (inr (inr left)))) =
        left_fits (told_opening script a) a.members ended.number ended.members m e.end few low ended.roster left.end

-- ---- who took part

-- an age opened as its ends tell
opened_as_told : (script : Script) (part : Part) (mode : Mode) (nth : ℕ) (before after : YardState) (age : AgeEnd)
    → HasRanges script → IsAgeOf script part mode nth before after age
    → told_opening script age ≡ opening_of script part age
opened_as_told script part mode nth before after age ranges is =
    told_as_opened script (opening_of script part age) age ranges.group is.played.roster
    (ap (λ mask. record (opening_of script part age) { present = mask }) same)
    (its_group script part mode nth before after age ranges is).sound is.played.agreed
  where
    same : mask_of (took_part age.members) ≡ taking_part script part.missing
    same = same_masks (mask_of (took_part age.members)) (taking_part script part.missing)
        (λ i. has_mask_of (took_part age.members) i
        ∙ ap (λ b. nat_lt i 16 && b) (took script.members part.missing i age.members is.played.roster is.absent)
        ∙ sym (has_mask_of (λ k. has (2 ^ script.members - 1) k && not (has part.missing k)) i))

-- ---- the ages of a run

agreed_age : (script : Script) (part : Part) (mode : Mode) (nth : ℕ) (before after : YardState) (age : AgeEnd)
    → HasRanges script → IsAgeOf script part mode nth before after age → IsAgreed script age
agreed_age script part mode nth before after age ranges is = record {
  all = is.played.roster;
  sound = subst Sound (sym same) (its_group script part mode nth before after age ranges is).sound;
  agreed = subst (λ o. EndsAgreed o age.members) (sym same) is.played.agreed;
}
  where
    same : told_opening script age ≡ opening_of script part age
    same = opened_as_told script part mode nth before after age ranges is

-- an age, and that its numbers are small where no log was full
abbrev IsSmallUnlessFull : AgeEnd → Type 0
IsSmallUnlessFull age = ((m : ℕ) (e : MemberEnd) → slice_get age.members m ≡ Some e → is_of LogFull e.end ≡ false)
    → HasSmallNumbers age

-- what tells nothing
nothing_told : (e : MemberEnd) → e ≡ absent_end → TellsNothing e
nothing_told e is = record {
  absent = ap (λ (x : MemberEnd). x.end) is;
  history = ap (λ (x : MemberEnd). x.history) is;
  logged = ap (λ (x : MemberEnd). x.logged) is;
  durable = ap (λ (x : MemberEnd). x.durable) is;
}

small_age : (script : Script) (part : Part) (mode : Mode) (nth : ℕ) (before after : YardState) (age : AgeEnd)
    → HasRanges script → IsAgeOf script part mode nth before after age → IsSmallUnlessFull age
small_age script part mode nth before after age ranges is room = record {
  age = (its_group script part mode nth before after age ranges is).age;
  ends = all_from_places (λ (e : MemberEnd). EndFits e.end ⊎ TellsNothing e) age.members each;
}
  where
    good : IsAgreed script age
    good = agreed_age script part mode nth before after age ranges is

    same : told_opening script age ≡ opening_of script part age
    same = opened_as_told script part mode nth before after age ranges is

    not_there : (m : ℕ) (e : MemberEnd) → slice_get age.members m ≡ Some e → is_absent e.end ≡ true
        → IsPresentIn (told_opening script age) m → ⊥
    not_there m e at away here =
        let other = end_there script age m here in
        absurd (cc (away, other.2, ap (λ (x : MemberEnd). is_absent x.end) (same_Some other.0 e (sym other.1 ∙ at))))

    each : (m : ℕ) (e : MemberEnd) → slice_get age.members m ≡ Some e → EndFits e.end ⊎ TellsNothing e
    each m e at = elim (cases_Bool (is_absent e.end)) [
      | inl away ↦ inr (nothing_told e (is.played.ended.absent m e at (λ here. not_there m e at away
          (subst (λ o. IsPresentIn o m) (sym same) here))))
      | inr there ↦
          let here : IsPresentIn (opening_of script part age) m =
          subst (λ o. IsPresentIn o m) same (is_here script age ranges.group.most_members good m e at there) in
          let ended = subst (λ o. HasEnded o age.members script.turns m (crashes_of script.faults nth m) e) (sym same)
          (is.played.ended.each m e at here) in
          inl (end_fits script age nth m e ranges good at there ended (room m e at))
    ]

keep_each_other : (script : Script) (part : Part) (ages : List AgeEnd) → AreKept script part ages
    → All (λ age. told_opening script age ≡ opening_of script part age) ages → KeepEachOther script ages
keep_each_other script part ages kept told i a next at after =
    let same : suc i ≡ i + 1 = omega arith in
    let one = each_at (λ age. told_opening script age ≡ opening_of script part age) ages i a told at in
    let other = each_at (λ age. told_opening script age ≡ opening_of script part age) ages (suc i) next told after in
    subst (λ o. Kept o (accounts_of a.members) (told_opening script next)) (sym one)
    (subst (λ o. Kept (opening_of script part a) (accounts_of a.members) o) (sym other)
    (kept.next i a next at (ap (slice_get ages) (sym same) ∙ after)))

pub run_right : (script : Script) (part : Part) (mode : Mode) (before after : YardState) (ages : List AgeEnd)
    (stop : Option Stop) (last : Last) → HasRanges script → AllTell script.members before
    → IsRunOf script part mode before after ages stop → last_of ages stop ≡ Some last → IsRunEnd (status_of last)
    → TellsVerdict script (report_text ages last) lasts.Right
run_right script part mode before after ages stop last ranges tell run is end =
    let fits = last_fits ages stop last is end in
    let small = all_ages IsSmallUnlessFull script part mode
    (λ nth before after age is. small_age script part mode nth before after age ranges is) 0 before run.last ages
    run.course in
    let right = printed_right script ages last ranges.group
    (all_ages (IsAgreed script) script part mode
    (λ nth before after age is. agreed_age script part mode nth before after age ranges is) 0 before run.last
    ages run.course)
    (keep_each_other script part ages (run.kept tell)
    (all_ages (λ age. told_opening script age ≡ opening_of script part age) script part mode
    (λ nth before after age is. opened_as_told script part mode nth before after age ranges is) 0 before run.last
    ages run.course))
    (all_from_places HasSmallNumbers ages
    (λ i age at. each_at IsSmallUnlessFull ages i age small at
    (λ m e there. none_full ages i age m e fits.0 at there))) fits.1 in
    (verdicts.Right right.0, (right.1, right.2), refl)
