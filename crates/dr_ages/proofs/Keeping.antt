-- What an age leaves is what the next one finds; so nothing durable is lost.
use Rattle.std.specs.Prelude.{IfSome, IsTrue, Option, None, Some, is_some, slice_get}
use Rattle.std.proofs.Common.{◌≡◌, ◌⊎◌, refl, sym, ap, ◌∙◌, subst, ⊎_elim, ℕ, zero, suc, ◌+◌, ◌-◌, ◌<◌, ◌≤◌, inl, inr, arith, Bool, true, false, not, List, [], ◌∷◌, ◌++◌, take, drop, append-nil}
use Rattle.std.proofs.lemmas.{Bool.cases_lt, List.{get_or_past, take-append-drop, take_more}}
use Rattle.std.proofs.lemmas.Option.{get_or_from_slice_get, slice_get_within}
use Rattle.dr_disk.specs.{Disk.{Told, content_of, state_of}, Images.IsImage}
use Rattle.dr_entry.specs.declared.{end.{AgeEnd.AgeEnd, End.TheVariants.DiskFault, MemberEnd.MemberEnd}, entry.Entry.Entry}
use Rattle.dr_entry.{specs.declared.record.Record.Record, proofs.ListPlaces.{within_places, slice_get-some}}
use Rattle.dr_entry.specs.declared.record.Record.TheVariants as records
use Rattle.dr_history.specs.{Agreement.accounts_of, History.IsPrefixOf, Members.has, Order.first_entries}
use Rattle.dr_history.{specs.Restarting.Kept, proofs.{Histories.durable_by, Lists.prefix-trans}}
use Rattle.dr_kept.{specs.Leaving.{AreLeftFrom, IsAgeOfChoice, LeavesSo}, proofs.Chosen.{has_log, known_age}}
use Rattle.dr_kept.proofs.{Following.{next_begins, next_keeps, next_number}, Returning.next_has_all}
use Rattle.dr_log_bytes.{specs.{Content.{OnLog, with_record}, Grammar.StandFor}, proofs.Grammars.some_there}
use Rattle.dr_log_bytes.proofs.Meaning.{content_once}
use Rattle.dr_served.{specs.{Left.IsLeftOf, Served.{HasDueBehind, IsRecordDue}}, proofs.Leaving.left_begins}
use Rattle.dr_opening.specs.Tries.{IsChosenOf, content_at}
use Rattle.dr_program.specs.{Presence.present_at, Program.{Program, member_end}, Replica.Replica, Running.Running}
use Rattle.dr_restart.specs.{Groups.first_group_of, declared.start.Start.Start}
use Rattle.dr_script.specs.{Ranges.HasRanges, declared.script.Script.Script}
use Rattle.dr_yard.specs.Yards.{AllTell, YardState}
use Rattle.dr_ages.specs.{Ages.{AreAges, IsAgeOf, opening_of, start_of}, Found.{AreFound, ReadsAs}}
use Rattle.dr_ages.specs.{Left.{HasLeft, with_logged}, Runs.AreKept, declared.{mode.Mode.Mode, part.Part.Part}}
use Rattle.dr_ages.proofs.{Chain.{AreBeside, beside}, Votes.{EndsSo, LacksSo, member_over, ran_over, told_by}}

-- ---- one disk

-- the entries that an image stands for
pub image_entries : (t : Told) (image : List ℕ) (r : Replica) (c found : OnLog)
    → IsImage (state_of t) image → StandFor image c → HasLeft (Some t) r found → IsLeftOf r.history r.logged c.entries
image_entries t image r c found is reads left = by left
  where
    logged : List Entry
    logged = take r.logged r.history

    entries_of : (d : OnLog) → StandFor image d → c.entries ≡ d.entries
    entries_of d here = ap (λ (x : OnLog). x.entries) (content_once image c d reads here)

    one_more : (next : Record) → IsRecordDue r next → StandFor image (with_record next (with_logged found r))
        → IsLeftOf r.history r.logged c.entries
    one_more (records.Entry x) due s =
        let same : c.entries ≡ logged ++ x ∷ [] = entries_of (with_record (records.Entry x) (with_logged found r)) s in
        inr (inl (
          x,
          same,
          (
            drop (r.logged + 1) r.history,
            ap (λ (l : List Entry). l ++ drop (r.logged + 1) r.history)
                (same ∙ ap (λ y. logged ++ y ∷ []) (sym (get_or_from_slice_get r.history r.logged x x due))
                ∙ sym (take_more r.history r.logged x (slice_get_within r.history r.logged x due)))
                ∙ take-append-drop (r.logged + 1) r.history,
          ),
        ))
    one_more (records.Vote v) due s = inl (entries_of (with_record (records.Vote v) (with_logged found r)) s)
    one_more (records.AgeVote v) due s = absurd due
    one_more (records.Cut keep) due s = absurd due
    one_more records.Upgrade due s = absurd due

    more : (after : OnLog) → HasDueBehind r (with_logged found r) after → StandFor image after
        → IsLeftOf r.history r.logged c.entries
    more after (inl (next, due, same)) stands = one_more next due (subst (StandFor image) same stands)
    more after (inr same) stands = inr (inr (entries_of after stands ∙ ap (λ (x : OnLog). x.entries) same
        ∙ take-append-drop r.logged r.history))

    by : HasLeft (Some t) r found → IsLeftOf r.history r.logged c.entries
    by (inl safe) = inl (entries_of (with_logged found r) (safe image is))
    by (inr broken) = elim (broken.left image is) [
      | inl before ↦ inl (entries_of (with_logged found r) before)
      | inr after ↦ more broken.after broken.due after
    ]

-- what an image stands for is what its member may leave
pub image_leaves : (t : Told) (image : List ℕ) (r : Running) (c base : OnLog) → IsImage (state_of t) image
    → StandFor image c → HasLeft (Some t) r.replica base → LeavesSo base r c
image_leaves t image r c base is reads left = by left
  where
    just : StandFor image (with_logged base r.replica) → LeavesSo base r c
    just s =
        let same = content_once image c (with_logged base r.replica) reads s in
        inl (record {
          entries = ap (λ (d : OnLog). d.entries) same;
          votes = ap (λ (d : OnLog). d.votes) same;
          age_votes = ap (λ (d : OnLog). d.age_votes) same;
        })

    more : (after : OnLog) → r.replica.end ≡ Some DiskFault
        → HasDueBehind r.replica (with_logged base r.replica) after → StandFor image after → LeavesSo base r c
    more after failed (inl (next, due, same)) stands = inr (inl (record {
      next = next;
      begun = inr (inr failed, due);
      before = with_logged base r.replica;
      logged = record { entries = refl; votes = refl; age_votes = refl };
      is = content_once image c after reads stands ∙ same;
    }))
    more after failed (inr same) stands = inr (inr (record {
      before = with_logged base r.replica;
      logged = record { entries = refl; votes = refl; age_votes = refl };
      is = content_once image c after reads stands ∙ same;
    }))

    by : HasLeft (Some t) r.replica base → LeavesSo base r c
    by (inl safe) = just (safe image is)
    by (inr broken) = elim (broken.left image is) [
      | inl before ↦ just before
      | inr after ↦ more broken.after broken.failed broken.due after
    ]

-- and so is what a read gives
read_leaves : (o : Option Told) (r : Running) (c base : OnLog) → IsTrue (is_some o) → IfSome o (ReadsAs c)
    → HasLeft o r.replica base → LeavesSo base r c
read_leaves None r c base some reads left = absurd (cc)
read_leaves (Some t) r c base some reads left = image_leaves t (content_of t) r c base reads.image reads.stands left

-- ---- the disks that an age leaves

-- the age is one of choice, by its program
pub of_choice : (script : Script) (part : Part) (mode : Mode) (nth : ℕ) (before yard : YardState) (age : AgeEnd)
    → (is : IsAgeOf script part mode nth before yard age)
    → IsAgeOfChoice script (start_of script part age) nth is.contents is.played.over
of_choice script part mode nth before yard age is =
    let ran = ran_over mode script (start_of script part age) nth age is.played in
    record { chosen = is.starts; begun = ran.begun; begins = ran.begins; ran = ran.ran }

-- an age over disks that tell behind it, and what is found on them then
pub record IsBehind (script : Script) (part : Part) (yard : YardState) (age : AgeEnd)
    (contents : List (Option OnLog)) : Type 0 where
  pub ranges : HasRanges script
  pub mode : Mode
  pub nth : ℕ
  pub before : YardState
  pub is : IsAgeOf script part mode nth before yard age
  pub tell : AllTell script.members yard
  pub found : AreFound script.members part.missing yard contents

abbrev pub behind : (script : Script) (part : Part) (mode : Mode) (nth : ℕ) (before yard : YardState) (age : AgeEnd)
    → HasRanges script → IsAgeOf script part mode nth before yard age → AllTell script.members yard
    → (contents : List (Option OnLog)) → AreFound script.members part.missing yard contents
    → IsBehind script part yard age contents
behind script part mode nth before yard age ranges is tell contents found = record {
  ranges = ranges;
  mode = mode;
  nth = nth;
  before = before;
  is = is;
  tell = tell;
  found = found;
}

-- the program as it ended
abbrev pub over_behind : {script : Script} {part : Part} {yard : YardState} {age : AgeEnd}
    {contents : List (Option OnLog)} → IsBehind script part yard age contents → Program
over_behind b = b.is.played.over

-- where something is found the member isn't missing
pub found_there : (n missing : ℕ) (yard : YardState) (contents : List (Option OnLog)) (m : ℕ) (c : OnLog)
    → AreFound n missing yard contents → content_at contents m ≡ Some c → has missing m ≡ false
found_there n missing yard contents m c found at = by (has missing m) refl
    (sym (ap is_some at) ∙ found.there m (omega (arith, within_places contents m c at, found.all)))
  where
    by : (b : Bool) → has missing m ≡ b → true ≡ not (has missing m) → has missing m ≡ false
    by false is there = is
    by true is there = absurd (let no : true ≡ false = there ∙ ap not is in cc)

-- and of each member that isn't missing something is found
pub there_found : (n missing : ℕ) (yard : YardState) (contents : List (Option OnLog)) (m : ℕ)
    → AreFound n missing yard contents → m < n → has missing m ≡ false
    → (c : OnLog) × (content_at contents m ≡ Some c)
there_found n missing yard contents m found l there =
    some_there (content_at contents m) (found.there m l ∙ ap not there)

-- how who isn't missing ended
pub ended_over : (script : Script) (part : Part) (mode : Mode) (nth : ℕ) (before yard : YardState) (age : AgeEnd)
    → (is : IsAgeOf script part mode nth before yard age) → (m : ℕ) (e : MemberEnd)
    → slice_get age.members m ≡ Some e → has part.missing m ≡ false → EndsSo is.played.over m e
ended_over script part mode nth before yard age is m e at there =
    by (member_over mode script (start_of script part age) nth age is.played m e at)
  where
    over : Program
    over = is.played.over

    by : EndsSo over m e ⊎ LacksSo over m e → EndsSo over m e
    by (inl ends) = ends
    by (inr lacks) = absurd (
        let no : true ≡ false = sym ((is.absent m e at).0 (ap (λ (x : MemberEnd). x.end) (sym lacks.is))) ∙ there in
        cc)

-- who stands at a place of the program isn't missing
pub told_there : (script : Script) (part : Part) (mode : Mode) (nth : ℕ) (before yard : YardState) (age : AgeEnd)
    → HasRanges script → (is : IsAgeOf script part mode nth before yard age) → (m : ℕ) (r : Running)
    → present_at is.played.over.members m ≡ Some r → has part.missing m ≡ false
told_there script part mode nth before yard age ranges is m r at =
    let start = start_of script part age in
    let over = is.played.over in
    let choice = of_choice script part mode nth before yard age is in
    let known = known_age script start nth is.contents over ranges.group ranges.some_turn choice in
    let c = some_there (content_at is.contents m)
    (has_log script start nth is.contents over m ranges.group choice (known.form.of m r at).present) in
    found_there script.members part.missing before is.contents m c.0 is.found c.1

-- the same logs are there
same_there : (n missing : ℕ) (one other : YardState) (xs ys : List (Option OnLog)) → AreFound n missing one xs
    → AreFound n missing other ys → (m : ℕ) → is_some (content_at xs m) ≡ is_some (content_at ys m)
same_there n missing one other xs ys first next m = ⊎_elim (λ (l : m < n). first.there m l ∙ sym (next.there m l))
    (λ (past : n ≤ m). ap is_some (get_or_past xs m None (omega (arith, first.all, past))
    ∙ sym (get_or_past ys m None (omega (arith, next.all, past))))) (cases_lt m n)

pub left_from : (script : Script) (part : Part) (yard : YardState) (age : AgeEnd) (contents : List (Option OnLog))
    → (b : IsBehind script part yard age contents)
    → AreLeftFrom (start_of script part age) b.is.contents (over_behind b) contents
left_from script part yard age contents b = record {
  all = b.found.all ∙ sym b.is.found.all;
  same = same_there script.members part.missing yard b.before contents b.is.contents b.found b.is.found;
  each = λ m c at.
      let l : m < script.members = omega (arith, within_places contents m c at, b.found.all) in
      let there = found_there script.members part.missing yard contents m c b.found at in
      let e = slice_get-some age.members m (omega (arith, l, b.is.played.roster)) in
      let x = ended_over script part b.mode b.nth b.before yard age b.is m e.0 e.1 there in
      let first = there_found script.members part.missing b.before b.is.contents m b.is.found l there in
      record {
        member = x.r;
        there = x.at;
        first = first.0;
        on = first.1;
        base = b.is.begun m;
        opened = b.is.begins m first.0 first.1;
        leaves = read_leaves (yard.told m) x.r c (b.is.begun m) (b.tell m l) (b.found.each m c at).reads
            (b.is.left m x.r x.at);
      };
}

-- the next age has the next number
pub age_next : (script : Script) (part : Part) (yard : YardState) (age : AgeEnd) (contents : List (Option OnLog))
    (next : Start) → (b : IsBehind script part yard age contents)
    → IsChosenOf (first_group_of script).opening contents next → next.age ≡ age.age + 1
age_next script part yard age contents next b chosen = next_number script
    (start_of script part age) next b.nth b.is.contents contents (over_behind b) b.ranges.group b.ranges.some_turn
    (of_choice script part b.mode b.nth b.before yard age b.is) (left_from script part yard age contents b) chosen

-- and what is found is a front of its start
pub next_has : (script : Script) (part : Part) (yard : YardState) (age : AgeEnd) (contents : List (Option OnLog))
    (next : Start) (m : ℕ) (c : OnLog) → (b : IsBehind script part yard age contents)
    → IsChosenOf (first_group_of script).opening contents next → content_at contents m ≡ Some c
    → IsPrefixOf c.entries next.entries
next_has script part yard age contents next m c b chosen at = next_has_all script
    (start_of script part age) next b.nth b.is.contents contents (over_behind b) m c b.ranges.group b.ranges.some_turn
    (of_choice script part b.mode b.nth b.before yard age b.is) (left_from script part yard age contents b) chosen at

-- so the start has all that a member has logged
pub logged_first : (script : Script) (part : Part) (yard : YardState) (age : AgeEnd) (contents : List (Option OnLog))
    (next : Start) (m : ℕ) (e : MemberEnd) → (b : IsBehind script part yard age contents)
    → IsChosenOf (first_group_of script).opening contents next → slice_get age.members m ≡ Some e
    → has part.missing m ≡ false → IsPrefixOf (take e.logged e.history) next.entries
logged_first script part yard age contents next m e b chosen at there =
    prefix-trans (take e.logged e.history) on.0.entries next.entries
    (subst (λ (end : MemberEnd). IsPrefixOf (take end.logged end.history) on.0.entries) x.is
    (left_begins (take x.r.replica.logged x.r.replica.history) (member_end x.r.replica) on.0.entries ([], append-nil _)
    (read_entries (yard.told m) x.r.replica on.0 (b.is.begun m) (b.tell m l) (b.found.each m on.0 on.1).reads
    (b.is.left m x.r x.at)))) (next_has script part yard age contents next m on.0 b chosen on.1)
  where
    l : m < script.members
    l = omega (arith, slice_get_within age.members m e at, b.is.played.roster)

    x : EndsSo (over_behind b) m e
    x = ended_over script part b.mode b.nth b.before yard age b.is m e at there

    on : (c : OnLog) × (content_at contents m ≡ Some c)
    on = there_found script.members part.missing yard contents m b.found l there

    read_entries : (o : Option Told) (r : Replica) (c base : OnLog) → IsTrue (is_some o) → IfSome o (ReadsAs c)
        → HasLeft o r base → IsLeftOf r.history r.logged c.entries
    read_entries None r c base some reads left = absurd (cc)
    read_entries (Some t) r c base some reads left =
        image_entries t (content_of t) r c base reads.image reads.stands left

-- ---- ages beside one another

abbrev behind_first : (script : Script) (part : Part) (start : YardState) (a b : AgeEnd) → HasRanges script
    → AllTell script.members start → (r : AreBeside script part start a b)
    → IsBehind script part r.mid a r.second.contents
behind_first script part start a b ranges tell r = behind script part r.mode r.nth r.before r.mid a ranges r.first
    (r.tell tell) r.second.contents r.second.found

keeps_next : (script : Script) (part : Part) (start : YardState) (a b : AgeEnd) → HasRanges script
    → AllTell script.members start → AreBeside script part start a b
    → Kept (opening_of script part a) (accounts_of a.members) (opening_of script part b)
keeps_next script part start a b ranges tell r =
    subst (λ (ends : List MemberEnd). Kept (opening_of script part a) (accounts_of ends) (opening_of script part b))
    (sym (ap (λ (x : AgeEnd). x.members) (told_by r.mode script (start_of script part a) r.nth a r.first.played)))
    (next_keeps script (start_of script part a) (start_of script part b) r.nth r.first.contents r.second.contents
    r.first.played.over ranges.group ranges.some_turn (of_choice script part r.mode r.nth r.before r.mid a r.first)
    (left_from script part r.mid a r.second.contents (behind_first script part start a b ranges tell r))
    r.second.starts)

-- a later start begins with an earlier one
pub grows : (script : Script) (part : Part) (start : YardState) (a b : AgeEnd) → HasRanges script
    → AllTell script.members start → AreBeside script part start a b → IsPrefixOf a.start b.start
grows script part start a b ranges tell r =
    prefix-trans a.start (first_entries (opening_of script part a)) b.start (_ ∷ [], refl)
    (next_begins script (start_of script part a) (start_of script part b) r.nth r.first.contents r.second.contents
    r.first.played.over ranges.group ranges.some_turn (of_choice script part r.mode r.nth r.before r.mid a r.first)
    (left_from script part r.mid a r.second.contents (behind_first script part start a b ranges tell r))
    r.second.starts)

pub are_kept : (script : Script) (part : Part) (mode : Mode) (before : YardState) (ages : List AgeEnd)
    (last : YardState) → HasRanges script → AreAges script part mode 0 before ages last
    → AllTell script.members before → AreKept script part ages
are_kept script part mode before ages last ranges are tell = record {
  next = λ i a b at_a at_b. keeps_next script part before a b ranges tell (pair i a b at_a at_b);
  ever = λ i j m a b e l at_a at_b there. ever (j - (i + 1)) i j m a b e (omega (arith, l)) at_a at_b there;
}
  where
    pair : (i : ℕ) (a b : AgeEnd) → slice_get ages i ≡ Some a → slice_get ages (i + 1) ≡ Some b
        → AreBeside script part before a b
    pair i a b at_a at_b = beside script part mode 0 before ages last i a b are at_a at_b

    -- who was absent knew of nothing
    one : (m : ℕ) (a b : AgeEnd) (e : MemberEnd) → (r : AreBeside script part before a b)
        → slice_get a.members m ≡ Some e → (here : Bool) → has (opening_of script part a).present m ≡ here
        → IsPrefixOf (take e.durable e.history) b.start
    one m a b e r there true present =
        durable_by a.members m e b.start there ((keeps_next script part before a b ranges tell r).durable m present)
    one m a b e r there false gone = subst (λ (x : MemberEnd). IsPrefixOf (take x.durable x.history) b.start)
        (sym (r.first.played.ended.absent m e there (λ present. let no : true ≡ false = sym present ∙ gone in cc)))
        (b.start, refl)

    ever : (d i j m : ℕ) (a b : AgeEnd) (e : MemberEnd) → j ≡ i + 1 + d → slice_get ages i ≡ Some a
        → slice_get ages j ≡ Some b → slice_get a.members m ≡ Some e → IsPrefixOf (take e.durable e.history) b.start
    ever zero i j m a b e far at_a at_b there = one m a b e (pair i a b at_a
        (ap (slice_get ages) (omega (arith, far)) ∙ at_b)) there (has (opening_of script part a).present m) refl
    ever (suc d) i j m a b e far at_a at_b there =
        let c = slice_get-some ages (i + 1 + d) (omega (arith, far, slice_get_within ages j b at_b)) in
        prefix-trans (take e.durable e.history) c.0.start b.start (ever d i (i + 1 + d) m a c.0 e refl at_a c.1 there)
        (grows script part before c.0 b ranges tell
        (pair (i + 1 + d) c.0 b c.1 (ap (slice_get ages) (omega (arith, far)) ∙ at_b)))
