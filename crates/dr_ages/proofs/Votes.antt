-- The votes that are found on disks, and those that the members of an age cast.
use Rattle.std.specs.Prelude.{All, IfSome, IsTrue, Option, None, Some, is_some, option_map, slice_get}
use Rattle.std.proofs.{Common.{◌≡◌, ◌⊎◌, refl, sym, ap, ◌∙◌, subst, ℕ, ◌<◌, inl, inr, arith, List}, lemmas.Nat.mul-le}
use Rattle.std.proofs.lemmas.Option.{same_Some, slice_get-map}
use Rattle.dr_disk.specs.Disk.{Told, content_of}
use Rattle.dr_entry.specs.{Spelling.IsValidVote, declared.end.{AgeEnd.AgeEnd, MemberEnd.MemberEnd}}
use Rattle.dr_log_bytes.{specs.Content.OnLog, proofs.Grammars.stands_valid}
use Rattle.dr_machine.specs.Group.{IsGroup, banks, roster}
use Rattle.dr_served.specs.Served.{AtMember}
use Rattle.dr_opening.specs.Tries.{content_at}
use Rattle.dr_program.specs.{Presence.present_at, Program.{IsRanFrom, Program, absent_end, age_of, end_at, end_of}}
use Rattle.dr_program.{specs.Running.Running, proofs.{Present.{present_slice, slice_present}, Voting.votes_within}}
use Rattle.dr_program_laws.proofs.Keeping.{deeds_kept}
use Rattle.dr_refine.specs.Programs.{IsProgram}
use Rattle.dr_restart.{specs.{Groups.group_of, Setups.IsBegun, declared.start.Start.Start}, proofs.Setups.are_setups}
use Rattle.dr_script.specs.{Ranges.HasRanges, declared.script.Script.Script}
use Rattle.dr_sim.proofs.Courses.{schedule_ran}
use Rattle.dr_yard.specs.Yards.{AllTell, YardState}
use Rattle.dr_ages.specs.{Ages.{IsMemberOf, IsPlayed}, Found.{AreFound, ReadsAs}, declared.mode.Mode.Mode}
use Rattle.dr_ages.specs.declared.mode.Mode.TheVariants.{Sim, Run}
use Rattle.dr_play.specs.Age.{IsAge}

-- ---- votes that are found are valid

pub found_valid : (n missing : ℕ) (yard : YardState) (contents : List (Option OnLog)) (m : ℕ) (c : OnLog)
    → AllTell n yard → AreFound n missing yard contents → m < n → content_at contents m ≡ Some c
    → All IsValidVote c.votes
found_valid n missing yard contents m c tell found l at = read (yard.told m) (tell m l) (found.each m c at).reads
  where
    read : (o : Option Told) → IsTrue (is_some o) → IfSome o (ReadsAs c) → All IsValidVote c.votes
    read None some reads = absurd (cc)
    read (Some t) some reads = stands_valid (content_of t) c reads.stands

-- ---- the votes that an age brings

-- the program of an age ran from its beginning
pub record HasRanOver (script : Script) (start : Start) (nth : ℕ) (over : Program) : Type 0 where
  pub begun : Program
  pub begins : IsBegun script start nth begun
  pub ran : IsRanFrom begun over

pub ran_over : (mode : Mode) (script : Script) (start : Start) (nth : ℕ) (age : AgeEnd)
    → (is : IsAge (IsPlayed mode) script start nth age) → HasRanOver script start nth is.over
ran_over Sim script start nth age is = record {
  begun = is.run.begun;
  begins = is.run.begins;
  ran = schedule_ran script.schedule is.run.begun is.over is.run.run;
}
ran_over Run script start nth age is = record { begun = is.run.begun; begins = is.run.begins; ran = is.run.ran }

-- so it is a program of the group
pub over_form : (mode : Mode) (script : Script) (start : Start) (nth : ℕ) (age : AgeEnd) → HasRanges script
    → IsGroup (group_of script start) → (is : IsAge (IsPlayed mode) script start nth age)
    → IsProgram (group_of script start) is.over
over_form mode script start nth age ranges group is =
    let r = ran_over mode script start nth age is in
    (deeds_kept (group_of script start) script.turns r.begins.0 is.over group ranges.some_turn
    (are_setups script start nth r.begins.0 ranges.group.lists r.begins.1)
    (subst (λ (b : Program). IsRanFrom b is.over) r.begins.2 r.ran)).0

-- and a member casts in each view no more votes than the roster has members
pub few_cast : (mode : Mode) (script : Script) (start : Start) (nth : ℕ) (age : AgeEnd) → HasRanges script
    → IsGroup (group_of script start) → (is : IsAge (IsPlayed mode) script start nth age) → (m : ℕ)
    → AtMember is.over m (λ r. IsMemberOf (group_of script start) r.replica)
few_cast mode script start nth age ranges group is m r at = record {
  roster = (form.of m r at).members;
  banks = (form.of m r at).banks;
  few = omega (
    arith,
    votes_within r.replica (form.form m r at).replica,
    mul-le r.replica.banks r.replica.roster (banks (group_of script start)) (roster (group_of script start))
        (omega (arith, (form.of m r at).banks)) (omega (arith, (form.of m r at).members)),
  );
}
  where
    form : IsProgram (group_of script start) is.over
    form = over_form mode script start nth age ranges group is

-- ---- the members of an age

-- its end tells the entries of its start, its number, and how its members ended
pub told_by : (mode : Mode) (script : Script) (start : Start) (nth : ℕ) (age : AgeEnd)
    → (is : IsAge (IsPlayed mode) script start nth age) → age ≡ age_of (group_of script start).opening is.over
told_by Sim script start nth age is = is.run.told
told_by Run script start nth age is = is.run.told

-- a member of its program, by how it ended
pub record EndsSo (p : Program) (m : ℕ) (e : MemberEnd) : Type 0 where
  pub r : Running
  pub at : present_at p.members m ≡ Some r
  pub is : end_of r ≡ e

-- or an empty place, of which nothing is told
pub record LacksSo (p : Program) (m : ℕ) (e : MemberEnd) : Type 0 where
  pub at : present_at p.members m ≡ None
  pub is : absent_end ≡ e

pub member_over : (mode : Mode) (script : Script) (start : Start) (nth : ℕ) (age : AgeEnd)
    → (is : IsAge (IsPlayed mode) script start nth age) → (m : ℕ) (e : MemberEnd) → slice_get age.members m ≡ Some e
    → EndsSo is.over m e ⊎ LacksSo is.over m e
member_over mode script start nth age is m e at = by (slice_get over.members m) refl
    (sym (slice_get-map end_at over.members m)
    ∙ sym (ap (λ (a : AgeEnd). slice_get a.members m) (told_by mode script start nth age is)) ∙ at)
  where
    over : Program
    over = is.over

    by : (o : Option (Option Running)) → slice_get over.members m ≡ o → option_map end_at o ≡ Some e
        → EndsSo over m e ⊎ LacksSo over m e
    by None there same = absurd (cc)
    by (Some None) there same =
        inr (record { at = slice_present over.members m None there; is = same_Some absent_end e same })
    by (Some (Some r)) there same = inl (record {
      r = r;
      at = slice_present over.members m (Some r) there;
      is = same_Some (end_of r) e same;
    })

-- and it tells of each that stands at a place
pub age_told : (mode : Mode) (script : Script) (start : Start) (nth : ℕ) (age : AgeEnd)
    → (is : IsAge (IsPlayed mode) script start nth age) → (m : ℕ) (r : Running)
    → present_at is.over.members m ≡ Some r → slice_get age.members m ≡ Some (end_of r)
age_told mode script start nth age is m r at =
    ap (λ (a : AgeEnd). slice_get a.members m) (told_by mode script start nth age is)
    ∙ (slice_get-map end_at is.over.members m ∙ ap (option_map end_at) (present_slice is.over.members m r at))
