-- Kinds of outcomes, and the statuses that they end with.
use Rattle.std.{specs.List.list_any, proofs.lemmas.List.Folds.{list_any_none, list_any_at}}
use Rattle.std.proofs.Common.{inl, inr, sym, arith, ℕ, Contains, ◌≡◌, subst, Some, false, is_some, true, ap, ap₂, [], None, ◌⊎◌, zero, suc, ◌∙◌, true≢false, ◌≤◌, refl, ◌-◌, List, get_or, All, ◌∷◌, Option, ◌≢◌, slice_get}
use Rattle.std.proofs.lemmas.{Bool.cases_Bool, Option.{same_Some, none-some, get_or_from_slice_get, slice_get_within}}
use Rattle.dr_entry.specs.declared.end.{AgeEnd.AgeEnd, End.End, MemberEnd.MemberEnd}
use Rattle.dr_entry.proofs.NumberFacts.{IsEnd, IsUnrun, late, IsRunEnd, apart}
use Rattle.dr_entry.specs.declared.end.End.TheVariants as ends
use Rattle.dr_script.specs.{Reading.{Reading, Reads}, declared.script.Script.Script}
use Rattle.dr_text.specs.declared.last.Last.{Last}
use Rattle.dr_text.specs.declared.last.Last.TheVariants as lasts
use Rattle.dr_yard.specs.Yards.{YardState}
use Rattle.dr_intake.specs.Status.{status_of}
use Rattle.dr_program_laws.specs.Trusting.{is_left_out, NoneLeft}
use Rattle.dr_play.specs.Logged.{why_ended, NoneStopped}
use Rattle.dr_ages.specs.declared.{mode.Mode.TheVariants.Sim, part.Part.Part, stop.Stop.Stop}
use Rattle.dr_outcome.specs.Last.{refusal_of, some_end, some_so, is_of, last_by, last_of}
use Rattle.dr_outcome.specs.Outcome.{unrun_ends, AreAllLate, WasPlayedOrNot, SaysOnly, IsDue, by_run, unrun, IsMemoryRun}
use Rattle.dr_outcome.specs.{Playing.{Playing, part_in}, declared.outcome.Outcome.Outcome}
use Rattle.dr_outcome.specs.declared.last.Kind.{Kind, TheVariants.{DiskFault, LogFull, NoMajority, Spent}}
use Rattle.dr_outcome.specs.declared.outcome.Body.TheVariants as bodies

-- it is one of those behind which nothing was run
pub is_unrun : (n : ℕ) → IsEnd n → Contains unrun_ends n
is_unrun n (inl is) = (0, omega arith, sym is)
is_unrun n (inr (inl is)) = (2, omega arith, sym is)
is_unrun n (inr (inr is)) = (4, omega arith, sym is)

-- a last line that is this one ends as it does
pub same_end : (known last : Last) → last ≡ known → IsEnd (status_of known) → IsEnd (status_of last)
same_end known last is ends = subst (λ (l : Last). IsEnd (status_of l)) (sym is) ends

pub refused_ends : (known last : Last) → Some known ≡ Some last → IsEnd (status_of known) → IsEnd (status_of last)
refused_ends known last is ends = same_end known last (sym (same_Some known last is)) ends

-- nothing that a status tells has come
pub record IsQuiet (o : Outcome) : Type 0 where
  pub disk : some_so DiskFault o.ages o.stop ≡ false
  pub logs : is_some (refusal_of o.stop) ≡ false
  pub full : some_so LogFull o.ages o.stop ≡ false
  pub turns : some_end Spent o.ages ≡ false
  pub split : some_end NoMajority o.ages ≡ false

-- the status behind the ages of a run, by the first of these that has come
pub data Rank (o : Outcome) (status : ℕ) : Type 0 where
  by_disk : status ≡ 6 → some_so DiskFault o.ages o.stop ≡ true → Rank o status
  by_logs : status ≡ 7 → some_so DiskFault o.ages o.stop ≡ false → is_some (refusal_of o.stop) ≡ true → Rank o status
  by_full : status ≡ 11 → some_so DiskFault o.ages o.stop ≡ false → is_some (refusal_of o.stop) ≡ false
      → some_so LogFull o.ages o.stop ≡ true → Rank o status
  by_turns : status ≡ 8 → some_so DiskFault o.ages o.stop ≡ false → is_some (refusal_of o.stop) ≡ false
      → some_so LogFull o.ages o.stop ≡ false → some_end Spent o.ages ≡ true → Rank o status
  by_split : status ≡ 9 → some_so DiskFault o.ages o.stop ≡ false → is_some (refusal_of o.stop) ≡ false
      → some_so LogFull o.ages o.stop ≡ false → some_end Spent o.ages ≡ false
      → some_end NoMajority o.ages ≡ true → Rank o status
  by_none : status ≡ 0 → IsQuiet o → Rank o status

pub quiet : (o : Outcome) → o.ages ≡ [] → o.stop ≡ None → IsQuiet o
quiet o none unstopped = record {
  disk = ap₂ (some_so DiskFault) none unstopped;
  logs = ap (λ stop. is_some (refusal_of stop)) unstopped;
  full = ap₂ (some_so LogFull) none unstopped;
  turns = ap (some_end Spent) none;
  split = ap (some_end NoMajority) none;
}

-- a status that tells of no run is that of the usage or another
pub usage_or_not : (status : ℕ) → Contains unrun_ends status → (status ≡ 2) ⊎ IsUnrun status
usage_or_not status (zero, below, is) = inr (0, omega arith, is)
usage_or_not status (suc zero, below, is) = inl (sym is)
usage_or_not status (suc (suc i), below, is) = inr (suc i, omega (arith, below), is)

-- where a script that was to be played comes to the usage all who take part are late
abbrev pub IsLateReading : Playing → Reading → Type 0
IsLateReading play r = (script : Script) × (r ≡ Reads script) × AreAllLate script (part_in play)

-- a script in which all are late who take part was not played
pub unplayed : (play : Playing) (script : Script) (before after : YardState) (o : Outcome)
    → AreAllLate script (part_in play) → WasPlayedOrNot play script before after o → o.last ≡ Some lasts.Usage
unplayed play script before after o late (inl played) =
    let k = played.0.prompt late.some.0 late.some.1 late.some.2 in
    absurd (true≢false (sym (late.all k.0 k.1 k.2) ∙ k.3))
unplayed play script before after o late (inr says) = says.1.line

-- a status behind the ages is none of those without ages
pub ranked : (o : Outcome) (status : ℕ) → Rank o status → 1 ≤ status → status ≤ 5 → ⊥
ranked o status rank low high = elim rank [
  | by_disk e disk ↦ omega (arith, high, e)
  | by_logs e disk logs ↦ omega (arith, high, e)
  | by_full e disk logs full ↦ omega (arith, high, e)
  | by_turns e disk logs full turns ↦ omega (arith, high, e)
  | by_split e disk logs full turns split ↦ omega (arith, high, e)
  | by_none e calm ↦ omega (arith, low, e)
]

-- an end that no log brought about, and no suspicion, is none of these
pub by_no_disk : (e : End) → why_ended e ≡ None → is_left_out e ≡ false → is_of DiskFault e ≡ false
by_no_disk ends.Done is calm = refl
by_no_disk ends.Crashed is calm = refl
by_no_disk (ends.Suspected by) is calm = refl
by_no_disk (ends.Excluded view) is calm = refl
by_no_disk (ends.NoMajority mask) is calm = refl
by_no_disk ends.DiskFault is calm = absurd (none-some _ (sym is))
by_no_disk (ends.LogFull len) is calm = refl
by_no_disk (ends.Spent turns) is calm = refl
by_no_disk ends.Absent is calm = refl

pub by_no_full_log : (e : End) → why_ended e ≡ None → is_left_out e ≡ false → is_of LogFull e ≡ false
by_no_full_log ends.Done is calm = refl
by_no_full_log ends.Crashed is calm = refl
by_no_full_log (ends.Suspected by) is calm = refl
by_no_full_log (ends.Excluded view) is calm = refl
by_no_full_log (ends.NoMajority mask) is calm = refl
by_no_full_log ends.DiskFault is calm = refl
by_no_full_log (ends.LogFull len) is calm = absurd (none-some _ (sym is))
by_no_full_log (ends.Spent turns) is calm = refl
by_no_full_log ends.Absent is calm = refl

pub by_no_split : (e : End) → why_ended e ≡ None → is_left_out e ≡ false → is_of NoMajority e ≡ false
by_no_split ends.Done is calm = refl
by_no_split ends.Crashed is calm = refl
by_no_split (ends.Suspected by) is calm = refl
by_no_split (ends.Excluded view) is calm = refl
by_no_split (ends.NoMajority mask) is calm = absurd (true≢false calm)
by_no_split ends.DiskFault is calm = refl
by_no_split (ends.LogFull len) is calm = refl
by_no_split (ends.Spent turns) is calm = refl
by_no_split ends.Absent is calm = refl

-- so no member ended so
pub none_so : (kind : Kind) → ((e : End) → why_ended e ≡ None → is_left_out e ≡ false → is_of kind e ≡ false)
    → (ages : List AgeEnd) → All (λ (age : AgeEnd). NoneStopped age.members) ages
    → All (λ (age : AgeEnd). NoneLeft age.members) ages → some_end kind ages ≡ false
none_so kind each ages stored calm =
    list_any_none (λ (age : AgeEnd). list_any (λ (m : MemberEnd). is_of kind m.end) age.members) ages
    (λ k d within. list_any_none (λ (m : MemberEnd). is_of kind m.end) (get_or ages k d).members
    (λ j e below. each (get_or (get_or ages k d).members j e).end (stored k d within j e below)
    (calm k d within j e below)))

pub turns_or_none : (disk : Option ℕ) (logs : Option Last) (full turns split : Option ℕ) (line : Last)
    → is_some disk ≡ false → is_some logs ≡ false → is_some full ≡ false → is_some split ≡ false
    → last_by disk logs full turns split ≡ line → Contains (0 ∷ 8 ∷ []) (status_of line)
turns_or_none (Some m) logs full turns split line d l f s said = absurd (true≢false d)
turns_or_none None (Some refusal) full turns split line d l f s said = absurd (true≢false l)
turns_or_none None None (Some m) turns split line d l f s said = absurd (true≢false f)
turns_or_none None None None (Some m) split line d l f s said = (1, omega arith, ap status_of said)
turns_or_none None None None None (Some m) line d l f s said = absurd (true≢false s)
turns_or_none None None None None None line d l f s said = (0, omega arith, ap status_of said)

-- where nothing is run the status is another
pub refused : (known last : Last) (before after : YardState) (o : Outcome) → status_of known ≡ 3
    → SaysOnly (Some known) before after o → o.last ≡ Some last → IsRunEnd (status_of last) → ⊥
refused known last before after o three says is end = apart 3 (status_of last) (λ e. omega (arith, e)) (λ e. omega
    (arith, e)) (λ e. omega (arith, e)) (ap status_of (same_Some last known (sym is ∙ says.line)) ∙ three) end

-- where no member of any age ended by a full log none did
pub none_full : (ages : List AgeEnd) (i : ℕ) (age : AgeEnd) (m : ℕ) (e : MemberEnd) → some_end LogFull ages ≡ false
    → slice_get ages i ≡ Some age → slice_get age.members m ≡ Some e → is_of LogFull e.end ≡ false
none_full ages i age m e none at there = elim (cases_Bool (is_of LogFull e.end)) [
  | inl full ↦
      let here : list_any (λ (x : MemberEnd). is_of LogFull x.end) age.members ≡ true =
      list_any_at (λ (x : MemberEnd). is_of LogFull x.end) age.members m e (slice_get_within age.members m e there)
      (ap (λ (x : MemberEnd). is_of LogFull x.end) (get_or_from_slice_get age.members m e e there) ∙ full) in
      absurd (true≢false (sym (list_any_at
      (λ (x : AgeEnd). list_any (λ (y : MemberEnd). is_of LogFull y.end) x.members) ages i age
      (slice_get_within ages i age at)
      (ap (λ (x : AgeEnd). list_any (λ (y : MemberEnd). is_of LogFull y.end) x.members)
      (get_or_from_slice_get ages i age age at) ∙ here)) ∙ none))
  | inr other ↦ other
]

abbrev pub saying : Outcome → List ℕ → Outcome
saying o text = record o { body = bodies.Text text }

pub due : (o : Outcome) (text : List ℕ) → IsDue o → IsDue (saying o text)
due o text is = elim is [ by_run told ↦ by_run told | unrun none unstopped tells ↦ unrun none unstopped tells ]

-- the run behind a last line
pub run_behind : (script : Script) (part : Part) (ages : List AgeEnd) (stop : Option Stop) (last : Option Last) (line : Last)
    → ((ages ≡ []) × (stop ≡ None) × (last ≡ None))
    ⊎ (IsMemoryRun script part Sim ages stop × (last ≡ last_of ages stop))
    → last ≡ Some line → IsMemoryRun script part Sim ages stop × (last_of ages stop ≡ Some line)
run_behind script part ages stop last line (inl (none, unstopped, silent)) is =
    absurd (none-some line (sym silent ∙ is))
run_behind script part ages stop last line (inr (run, told)) is = (run, sym told ∙ is)
