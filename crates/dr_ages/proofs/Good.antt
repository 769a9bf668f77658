-- Disks whose logs are never refused, as they read: empty ones, and what an age leaves.
use Rattle.std.{specs.Option.option_map_or, proofs.{Math.Path.fun_ext, lemmas.Bool.cases_lt}}
use Rattle.std.specs.Prelude.{IfSome, IsSomeAnd, IsTrue, Option, None, Some, if◌then◌else◌, is_some, nat_lt, option_map, slice_get}
use Rattle.std.proofs.Common.{◌≡◌, sym, ap, ◌∙◌, subst, ⊎_elim, ℕ, ◌-◌, ◌^◌, ◌<◌, ◌≤◌, inl, inr, arith, Bool, true, false, not, List, [], length}
use Rattle.std.proofs.lemmas.{List.{get_or_past, length-map}, Option.{same_Some, slice_get-map, slice_get_within}}
use Rattle.dr_disk.specs.{Disk.{Told, content_of, state_of}, Images.AllImages}
use Rattle.dr_entry.specs.declared.{end.AgeEnd.AgeEnd, entry.Entry.Entry}
use Rattle.dr_entry.proofs.ListPlaces.{within_places, slice_get-some}
use Rattle.dr_history.{specs.{Members.has, Restarting.AllStand}, proofs.Bits.{has_ones, has_zero}}
use Rattle.dr_kept.proofs.Following.{among_lists, lists_with}
use Rattle.dr_log_bytes.{specs.{Content.{OnLog, empty_of}, Grammar.StandFor}, proofs.Grammars.some_there}
use Rattle.dr_log_bytes.proofs.Meaning.{stands_or_damaged}
use Rattle.dr_opening.specs.{Accepted.AreAccepted, Lists.{all_as_lists, as_lists}, Tries.content_at}
use Rattle.dr_opening.proofs.{Accepting.none_accepted, Lists.{handed_is, handed_there}}
use Rattle.dr_program.specs.Replica.{Replica}
use Rattle.dr_quorum.specs.Handing.{handed_by}
use Rattle.dr_quorum_laws.proofs.AllThere.{all-pass}
use Rattle.dr_restart.specs.{Choosing.of_set, Groups.first_group_of, Left.entries_on_logs}
use Rattle.dr_restart.specs.{Refusing.{IsRefusedFor, Refusal}, declared.lists.LogLists.LogLists}
use Rattle.dr_script.specs.{Ranges.{HasGroupRanges, HasRanges}, declared.script.Script.Script}
use Rattle.dr_yard.specs.Yards.{AllTell, AreEmpty, YardState}
use Rattle.dr_ages.specs.{Ages.{IsAgeOf, NamesNobody}, Fit.IsReadable, Found.{AreFound, ReadsAs}}
use Rattle.dr_ages.specs.{Left.{HasLeft, with_logged}, Stops.{AreRefusedFor, HasStopped, IsBadLogs, ReadsDamaged}}
use Rattle.dr_ages.specs.declared.{mode.Mode.Mode, part.Part.Part, stop.Stop.Stop}
use Rattle.dr_ages.specs.declared.stop.Stop.TheVariants.{OutOfMemory, DiskFault, LogFull, Damaged, Disagree, Foreign, NoQuorum, AgesUsedUp}
use Rattle.dr_ages.proofs.{Keeping.{behind, ended_over}, Refusals.refused_after}

-- ---- an undamaged disk

pub undamaged : (o : Option Told) (at : ℕ) → IsSomeAnd o (λ t. AllImages (state_of t) IsReadable)
    → IfSome o (ReadsDamaged at) → ⊥
undamaged None at is reads = is
undamaged (Some t) at is reads =
    let r = is (content_of t) reads.image in stands_or_damaged (content_of t) r.0 at r.1 reads.damaged

-- whatever a crash leaves of the disk of a member that an age has left is a log
pub left_readable : (o : Option Told) (r : Replica) (base : OnLog) → IsTrue (is_some o) → HasLeft o r base
    → IsSomeAnd o (λ t. AllImages (state_of t) IsReadable)
left_readable None r base some left = absurd (cc)
left_readable (Some t) r base some (inl safe) = λ image here. (with_logged base r, safe image here)
left_readable (Some t) r base some (inr broken) = λ image here. elim (broken.left image here) [
  | inl before ↦ (with_logged base r, before)
  | inr after ↦ (broken.after, after)
]

pub readable_behind : (script : Script) (part : Part) (mode : Mode) (nth : ℕ) (before yard : YardState) (age : AgeEnd)
    → IsAgeOf script part mode nth before yard age → AllTell script.members yard → (m : ℕ) → m < script.members
    → has part.missing m ≡ false → IsSomeAnd (yard.told m) (λ t. AllImages (state_of t) IsReadable)
readable_behind script part mode nth before yard age is tell m l there =
    let e = slice_get-some age.members m (omega (arith, l, is.played.roster)) in
    let x = ended_over script part mode nth before yard age is m e.0 e.1 there in
    left_readable (yard.told m) x.r.replica (is.begun m) (tell m l) (is.left m x.r x.at)

-- the logs that an age leaves are not refused by the next one, but as no number is left
pub age_never : (script : Script) (part : Part) (mode : Mode) (nth : ℕ) (before last after : YardState)
    (age : AgeEnd) (s : Stop) → HasRanges script → IsAgeOf script part mode nth before last age
    → AllTell script.members last → HasStopped script part last after s → IsBadLogs s → ⊥
age_never script part mode nth before last after age s ranges is tell stopped bad = by s stopped bad
  where
    other : (why : Refusal) → (found : (contents : List (Option OnLog))
        × AreFound script.members part.missing last contents × AreRefusedFor script why contents)
        → why ≡ Refusal.AgesUsedUp
    other why found = (refused_after script part last age found.0 why
        (behind script part mode nth before last age ranges is tell found.0 found.1) found.2).0

    by : (s : Stop) → HasStopped script part last after s → IsBadLogs s → ⊥
    by (Damaged m at) stopped bad = undamaged (last.told m) at
        (readable_behind script part mode nth before last age is tell m stopped.below stopped.there) stopped.damaged
    by (Disagree a b p) stopped bad =
        absurd (let same : Refusal.Disagree a b p ≡ Refusal.AgesUsedUp = other (Refusal.Disagree a b p) stopped in cc)
    by (Foreign m p) stopped bad =
        absurd (let same : Refusal.Foreign m p ≡ Refusal.AgesUsedUp = other (Refusal.Foreign m p) stopped in cc)
    by (NoQuorum v h n) stopped bad =
        absurd (let same : Refusal.NoQuorum v h n ≡ Refusal.AgesUsedUp = other (Refusal.NoQuorum v h n) stopped in cc)
    by OutOfMemory stopped bad = bad
    by (DiskFault m) stopped bad = bad
    by (LogFull m len) stopped bad = bad
    by AgesUsedUp stopped bad = bad

-- ---- where none is missing

pub found_whole : (n missing : ℕ) (yard : YardState) (contents : List (Option OnLog)) → NamesNobody n missing
    → AreFound n missing yard contents → AreFound n 0 yard contents
found_whole n missing yard contents none found = record {
  all = found.all;
  there = λ m l. found.there m l ∙ ap not (none m l ∙ sym (has_zero m));
  each = found.each;
}

-- something is found of each member
pub found_of : (n : ℕ) (yard : YardState) (contents : List (Option OnLog)) (m : ℕ) → AreFound n 0 yard contents
    → m < n → (c : OnLog) × (content_at contents m ≡ Some c)
found_of n yard contents m found l = some_there (content_at contents m) (found.there m l ∙ ap not (has_zero m))

-- and these are its entries
pub listed_found : (n : ℕ) (yard : YardState) (contents : List (Option OnLog)) (m : ℕ) (es : List Entry)
    → AreFound n 0 yard contents → slice_get (entries_on_logs (lists_with contents)) m ≡ Some es
    → (c : OnLog) × (content_at contents m ≡ Some c) × (c.entries ≡ es)
listed_found n yard contents m es found at =
    let l : m < n = omega (
      arith,
      slice_get_within (entries_on_logs (lists_with contents)) m es at,
      length-map (lists_with contents) (λ (log : LogLists). log.entries),
      length-map contents (λ (o : Option OnLog). option_map_or as_lists o (record { entries = []; votes = []; age_votes = [] })),
      found.all,
    ) in
    let c = found_of n yard contents m found l in (
      c.0,
      c.1,
      same_Some c.0.entries es (sym (slice_get-map (λ (log : LogLists). log.entries) (lists_with contents) m
          ∙ ap (option_map (λ (log : LogLists). log.entries)) (among_lists contents m c.0 c.1)) ∙ at),
    )

-- as they are handed in, they are those of all members
pub handed_whole : (n : ℕ) (yard : YardState) (contents : List (Option OnLog)) → AreFound n 0 yard contents
    → handed_by (all_as_lists contents) ≡ of_set (lists_with contents) (2 ^ n - 1)
handed_whole n yard contents found = fun_ext λ m. ⊎_elim (λ (l : m < n).
    let c = found_of n yard contents m found l in
    handed_is contents m ∙ ap (option_map as_lists) c.1
    ∙ sym (ap (λ (b : Bool). if b then slice_get (lists_with contents) m else None) (has_ones n m ∙ below m l)
    ∙ among_lists contents m c.0 c.1)) (λ (past : n ≤ m). handed_is contents m
    ∙ ap (option_map as_lists) (get_or_past contents m None (omega (arith, past, found.all)))
    ∙ sym (ap (λ (b : Bool). if b then slice_get (lists_with contents) m else None) (has_ones n m ∙ above m past)))
    (cases_lt m n)
  where
    below : (m : ℕ) → m < n → nat_lt m n ≡ true
    below m l = grind (arith, l)

    above : (m : ℕ) → n ≤ m → nat_lt m n ≡ false
    above m past = grind (arith, past)

-- where they are accepted, they are refused only as no number is left
pub accepted_pass : (script : Script) (yard : YardState) (contents : List (Option OnLog)) (why : Refusal)
    → HasGroupRanges script → AreFound script.members 0 yard contents
    → AreAccepted script (entries_on_logs (lists_with contents)) → AreRefusedFor script why contents
    → why ≡ Refusal.AgesUsedUp
accepted_pass script yard contents why ranges found accepted refused = all-pass (first_group_of script).opening
    (lists_with contents) (2 ^ script.members - 1) why (omega (arith, ranges.lists, ranges.some_member))
    (omega (arith, ranges.lists, ranges.most_members)) (long ∙ sym ranges.lists) all
    (λ m log at. accepted.sound m log.entries (slice_get-map (λ (log : LogLists). log.entries) (lists_with contents) m
    ∙ ap (option_map (λ (log : LogLists). log.entries)) at)) accepted.along
    (subst (λ h. IsRefusedFor (first_group_of script).opening h why)
    (handed_whole script.members yard contents found) refused)
  where
    long : length (lists_with contents) ≡ script.members
    long = length-map contents (λ (o : Option OnLog). option_map_or as_lists o (record { entries = []; votes = []; age_votes = [] }))
        ∙ found.all

    all : (m : ℕ) → m < length (lists_with contents) → has (2 ^ script.members - 1) m ≡ true
    all m l = has_ones script.members m ∙ below (omega (arith, l, long))
      where
        below : m < script.members → nat_lt m script.members ≡ true
        below less = grind (arith, less)

-- whatever is found on the disks is accepted, and no disk is damaged
pub record IsGood (script : Script) (yard : YardState) : Type 0 where
  pub accepted : (contents : List (Option OnLog)) → AreFound script.members 0 yard contents
      → AreAccepted script (entries_on_logs (lists_with contents))
  pub whole : (m at : ℕ) → m < script.members → IfSome (yard.told m) (ReadsDamaged at) → ⊥

-- disks of which none is damaged, and whose logs are refused only as no number is left
pub pass_never : (script : Script) (part : Part) (last after : YardState) (s : Stop)
    → NamesNobody script.members part.missing
    → ((contents : List (Option OnLog)) (why : Refusal) → AreFound script.members 0 last contents
    → AreRefusedFor script why contents → why ≡ Refusal.AgesUsedUp)
    → ((m at : ℕ) → m < script.members → IfSome (last.told m) (ReadsDamaged at) → ⊥)
    → HasStopped script part last after s → IsBadLogs s → ⊥
pass_never script part last after s none pass whole stopped bad = by s stopped bad
  where
    other : (why : Refusal) → (found : (contents : List (Option OnLog))
        × AreFound script.members part.missing last contents × AreRefusedFor script why contents)
        → why ≡ Refusal.AgesUsedUp
    other why found = pass found.0 why (found_whole script.members part.missing last found.0 none found.1) found.2

    by : (s : Stop) → HasStopped script part last after s → IsBadLogs s → ⊥
    by (Damaged m at) stopped bad = whole m at stopped.below stopped.damaged
    by (Disagree a b p) stopped bad =
        absurd (let same : Refusal.Disagree a b p ≡ Refusal.AgesUsedUp = other (Refusal.Disagree a b p) stopped in cc)
    by (Foreign m p) stopped bad =
        absurd (let same : Refusal.Foreign m p ≡ Refusal.AgesUsedUp = other (Refusal.Foreign m p) stopped in cc)
    by (NoQuorum v h n) stopped bad =
        absurd (let same : Refusal.NoQuorum v h n ≡ Refusal.AgesUsedUp = other (Refusal.NoQuorum v h n) stopped in cc)
    by OutOfMemory stopped bad = bad
    by (DiskFault m) stopped bad = bad
    by (LogFull m len) stopped bad = bad
    by AgesUsedUp stopped bad = bad

-- so the logs of good ones are never refused
pub good_never : (script : Script) (part : Part) (last after : YardState) (s : Stop) → HasGroupRanges script
    → NamesNobody script.members part.missing → IsGood script last → HasStopped script part last after s → IsBadLogs s
    → ⊥
good_never script part last after s ranges none good stopped bad = pass_never script part last after s none
    (λ contents why found refused.
    accepted_pass script last contents why ranges found (good.accepted contents found) refused) good.whole stopped bad

-- ---- empty disks

-- nothing is read of one
pub empty_reads : (o : Option Told) (c : OnLog) → IsSomeAnd o (λ t. content_of t ≡ [])
    → IfSome o (ReadsAs c) → c ≡ empty_of true
empty_reads None c empty reads = absurd empty
empty_reads (Some t) c empty reads = by reads.stands
  where
    by : StandFor (content_of t) c → c ≡ empty_of true
    by (inl few) = few.1
    by (inr more) = absurd (omega (arith, more.0, ap length empty))

pub empty_found : (script : Script) (missing : ℕ) (yard : YardState) (contents : List (Option OnLog)) (m : ℕ)
    (c : OnLog) → AreEmpty script.members yard → AreFound script.members missing yard contents
    → content_at contents m ≡ Some c → c ≡ empty_of true
empty_found script missing yard contents m c empty found at = empty_reads (yard.told m) c
    (empty m (omega (arith, within_places contents m c at, found.all))) (found.each m c at).reads

pub empty_good : (script : Script) (yard : YardState) → AreEmpty script.members yard → IsGood script yard
empty_good script yard empty = record {
  accepted = λ contents found. none_accepted script (entries_on_logs (lists_with contents)) (λ m es at.
      let c = listed_found script.members yard contents m es found at in
      sym c.2 ∙ ap (λ (d : OnLog). d.entries) (empty_found script 0 yard contents m c.0 empty found c.1));
  whole = λ m at l. none (yard.told m) at (empty m l);
}
  where
    none : (o : Option Told) (at : ℕ) → IsSomeAnd o (λ t. content_of t ≡ []) → IfSome o (ReadsDamaged at) → ⊥
    none None at is reads = is
    none (Some t) at is reads = absurd (omega (arith, reads.damaged.0, ap length is))

-- what stands on logs that are never refused may stand there
pub stands_there : (script : Script) (yard : YardState) (contents : List (Option OnLog)) → IsGood script yard
    → AreFound script.members 0 yard contents → (m : ℕ) (log : LogLists)
    → handed_by (all_as_lists contents) m ≡ Some log → AllStand (first_group_of script).opening log.entries
stands_there script yard contents good found m log at =
    let there = handed_there contents m log (sym (handed_is contents m) ∙ at) in
    let list : slice_get (lists_with contents) m ≡ Some log =
    among_lists contents m there.0 there.1 ∙ ap Some there.2 in
    (good.accepted contents found).sound m log.entries (slice_get-map (λ (l : LogLists). l.entries)
    (lists_with contents) m ∙ ap (option_map (λ (l : LogLists). l.entries)) list)
