-- The disks of a yard that are lent, with one more, and the logs on them.
use Rattle.std.{specs.Prelude.{IfSome, not, Option, None, Some, is_some}, proofs.lemmas.Bool.{cases_eq, cases_lt}}
use Rattle.std.proofs.Common.{◌≡◌, ◌≢◌, refl, sym, ap, ◌∙◌, subst, ⊎_elim, inl, inr, ℕ, ◌+◌, ◌<◌, ◌≤◌, le_trans, Bool, false, List, [], ◌∷◌, ◌++◌, length, arith, length-append}
use Rattle.dr_disk.specs.{Calls.Sync, Disk.{Told, added, content_of}, Images.{Goes, IsLeft, ReadsAnImage}}
use Rattle.dr_entry.specs.declared.entry.Entry.{Entry}
use Rattle.dr_history.specs.Members.{has}
use Rattle.dr_io.specs.Faults.{Rose}
use Rattle.dr_log.specs.{Standing.{KeepsRecords, least_length}, State.LogState, declared.fault.MountWhy.MountWhy}
use Rattle.dr_log.specs.declared.fault.MountWhy.TheVariants as whys
use Rattle.dr_log.specs.Appending as mounts
use Rattle.dr_log_bytes.specs.{Content.OnLog, Grammar.{IsDamaged, StandFor}}
use Rattle.dr_served.specs.Served.{HaveSamePlaces, IsSafe}
use Rattle.dr_opening.specs.Lists.{contents_of, log_of}
use Rattle.dr_opening.proofs.Lists.{was_there, log_of_content, contents_count, contents_there}
use Rattle.dr_program.proofs.{Present.{present_within, place_new}, Programs.place_past, Received.place_other}
use Rattle.dr_script.specs.declared.script.Script.{Script}
use Rattle.dr_yard.specs.Yards.{YardState}
use Rattle.dr_ages.{specs.Found.{AreFound, ReadsAs, WasFound}, proofs.Backs.{AreAllBack, told_at, told_none}}
use Rattle.dr_ages.specs.{Lent.{AreAllBut, AreLent, AreMounted, IsMounted, WasRefused, WereRefused}, Opened.AreLater}
use Rattle.dr_ages.specs.{Passing.AreKeptSince, declared.{part.Part.Part, stop.Stop.Stop}}
use Rattle.dr_ages.specs.Stops.{AreMountedBelow, HasMounted, HasStopped, IsBehindMounts, NamesFaults, ReadsDamaged, in_mount}
use Rattle.dr_ages.specs.declared.stop.Stop.TheVariants.{OutOfMemory, DiskFault, LogFull, Damaged, Disagree, Foreign, NoQuorum, AgesUsedUp}

-- ---- one place more

-- with one place more at the end, where the disk is lent if a log stands there
pub lent_more : {Y D : Type 0} (is_lent : Y → ℕ → Bool) (yard_faults : Y → ℕ → ℕ) (faults : D → ℕ)
    (old new : Y) (logs : List (Option (LogState D))) (place : Option (LogState D)) (m : ℕ)
    → AreLent is_lent yard_faults faults old logs → length logs ≡ m → m < 16 → is_lent new m ≡ is_some place
    → IfSome place (λ (log : LogState D). yard_faults new m ≤ faults log.disk)
    → ((k : ℕ) → k ≢ m → (is_lent new k ≡ is_lent old k) × (yard_faults new k ≡ yard_faults old k))
    → AreLent is_lent yard_faults faults new (logs ++ place ∷ [])
lent_more {Y} {D} is_lent yard_faults faults old new logs place m are at small lent counted others = record {
  few = omega (arith, length-append logs (place ∷ []), at, small);
  lent = λ k l. ⊎_elim (λ (e : k ≡ m). ap (is_lent new) e
      ∙ (lent ∙ ap (λ (o : Option (LogState D)). is_some o) (sym (place_new logs place k (at ∙ sym e)))))
      (λ (apart : k ≢ m). (others k apart).0 ∙ (are.lent k l ∙ ap (λ (o : Option (LogState D)). is_some o)
      (sym (place_other logs place k (λ e. apart (e ∙ at)))))) (cases_eq k m);
  counted = λ k x here. ⊎_elim (λ (e : k ≡ m).
      let is : place ≡ Some x = sym (place_new logs place k (at ∙ sym e)) ∙ here in
      subst (λ (j : ℕ). yard_faults new j ≤ faults x.disk) (sym e)
      (subst (λ (o : Option (LogState D)). IfSome o (λ (log : LogState D). yard_faults new m ≤ faults log.disk))
      is counted)) (λ (apart : k ≢ m).
      let there = are.counted k x (sym (place_other logs place k (λ e. apart (e ∙ at))) ∙ here) in
      omega (arith, there, (others k apart).1)) (cases_eq k m);
}

-- and with the last one given back
pub lent_less : {Y D : Type 0} (is_lent : Y → ℕ → Bool) (yard_faults : Y → ℕ → ℕ) (faults : D → ℕ)
    (old new : Y) (logs rest : List (Option (LogState D))) (place : Option (LogState D))
    → AreLent is_lent yard_faults faults old logs → logs ≡ rest ++ place ∷ [] → is_lent new (length rest) ≡ false
    → ((k : ℕ) → k ≢ length rest → (is_lent new k ≡ is_lent old k) × (yard_faults new k ≡ yard_faults old k))
    → AreLent is_lent yard_faults faults new rest
lent_less {Y} {D} is_lent yard_faults faults old new logs rest place are parts here others = record {
  few = omega (arith, are.few, long);
  lent = λ k l. ⊎_elim (λ (e : k ≡ length rest). ap (is_lent new) e
      ∙ (here ∙ ap (λ (o : Option (LogState D)). is_some o) (sym (place_past rest k (omega (arith, e))))))
      (λ (apart : k ≢ length rest). (others k apart).0
      ∙ (are.lent k l ∙ ap (λ (o : Option (LogState D)). is_some o) (same k apart))) (cases_eq k (length rest));
  counted = λ k x at.
      let l : k < length rest = present_within rest k x at in
      let apart : k ≢ length rest = λ e. absurd (omega (arith, l, e)) in
      omega (arith, are.counted k x (same k apart ∙ at), (others k apart).1);
}
  where
    long : length logs ≡ length rest + 1
    long = ap length parts ∙ length-append rest (place ∷ [])

    same : (k : ℕ) → k ≢ length rest → log_of logs k ≡ log_of rest k
    same k apart = ap (λ (xs : List (Option (LogState D))). log_of xs k) parts ∙ place_other rest place k apart

-- with one place more all that stand there were mounted
pub mounted_more : {D : Type 0} (tells : D → Option Told) (faults : D → ℕ) (before : YardState)
    (logs : List (Option (LogState D))) (place : Option (LogState D)) (k : ℕ) → AreMounted tells faults before logs
    → length logs ≡ k → IfSome place (IsMounted tells faults (before.told k) (before.faults k))
    → AreMounted tells faults before (logs ++ place ∷ [])
mounted_more {D} tells faults before logs place k are at is m x here = ⊎_elim (λ (e : m ≡ k).
    let same : place ≡ Some x = sym (place_new logs place m (at ∙ sym e)) ∙ here in
    subst (λ (j : ℕ). IsMounted tells faults (before.told j) (before.faults j) x) (sym e)
    (subst (λ (o : Option (LogState D)). IfSome o (IsMounted tells faults (before.told k) (before.faults k)))
    same is)) (λ (apart : m ≢ k). are m x (sym (place_other logs place m (λ e. apart (e ∙ at))) ∙ here))
    (cases_eq m k)

-- and none but those of the missing is empty
pub all_but_more : {D : Type 0} (missing : ℕ) (logs : List (Option (LogState D))) (place : Option (LogState D))
    (k : ℕ) → AreAllBut missing logs → length logs ≡ k → is_some place ≡ not (has missing k)
    → AreAllBut missing (logs ++ place ∷ [])
all_but_more {D} missing logs place k but at is m l = ⊎_elim
    (λ (e : m ≡ k). ap (λ (o : Option (LogState D)). is_some o) (place_new logs place m (at ∙ sym e))
    ∙ (is ∙ ap (λ (j : ℕ). not (has missing j)) (sym e)))
    (λ (apart : m ≢ k). ap (λ (o : Option (LogState D)). is_some o) (place_other logs place m (λ e. apart (e ∙ at)))
    ∙ but m (omega (arith, l, length-append logs (place ∷ []), apart, at))) (cases_eq m k)

-- a log that was mounted from a disk that was lent
pub was_mounted : {D : Type 0} (tells : D → Option Told) (faults : D → ℕ) (told : Option Told) (count : ℕ) (disk : D)
    (log : LogState D) → tells disk ≡ told → IfSome (tells disk) ReadsAnImage → IfSome (tells disk) (λ t. StandFor
    (content_of t) log.content) → IsSafe tells log → least_length log.content ≤ log.content.length
    → log.limit ≡ 2147483648 → log.failed ≡ false → Goes (tells disk) (tells log.disk) KeepsRecords
    → faults log.disk ≡ count → mounts.IsMounted (tells disk) (tells log.disk) → IsMounted tells faults told count log
was_mounted {D} tells faults told count disk log same image stands safe least limit whole goes calm calls = record {
  found = both told (subst (λ (o : Option Told). IfSome o ReadsAnImage) same image)
      (subst (λ (o : Option Told). IfSome o (λ t. StandFor (content_of t) log.content)) same stands);
  safe = safe;
  least = least;
  limit = limit;
  whole = whole;
  on = record {
    moments = subst (λ (o : Option Told). Goes o (tells log.disk) KeepsRecords) same goes;
    later = omega (arith, calm);
  };
  calm = calm;
  calls = subst (λ (o : Option Told). mounts.IsMounted o (tells log.disk)) same calls;
}
  where
    both : (o : Option Told) → IfSome o ReadsAnImage → IfSome o (λ t. StandFor (content_of t) log.content)
        → IfSome o (ReadsAs log.content)
    both None i s = tt
    both (Some t) i s = record { image = i; stands = s }

-- the same logs later
pub lent_later : {Y D : Type 0} (is_lent : Y → ℕ → Bool) (yard_faults : Y → ℕ → ℕ) (tells : D → Option Told)
    (faults : D → ℕ) (starts : List (List Entry)) (yard : Y) (olds news : List (Option (LogState D)))
    → AreLent is_lent yard_faults faults yard olds → AreLater tells faults starts olds news
    → HaveSamePlaces olds news → AreLent is_lent yard_faults faults yard news
lent_later is_lent yard_faults tells faults starts yard olds news are later places = record {
  few = omega (arith, are.few, places.all);
  lent = λ m l. are.lent m l ∙ sym (places.each m);
  counted = λ m log at.
      let old = was_there olds news m log places at in
      omega (arith, are.counted m old.0 old.1, (later m old.0 log old.1 at).later);
}

-- ---- what was found on them

pub are_found : {D : Type 0} (tells : D → Option Told) (faults : D → ℕ) (missing : ℕ) (before : YardState)
    (logs : List (Option (LogState D))) (n : ℕ) → AreMounted tells faults before logs → AreAllBut missing logs
    → length logs ≡ n → AreFound n missing before (contents_of logs)
are_found {D} tells faults missing before logs n are but count = record {
  all = contents_count logs ∙ count;
  there = λ m l. contents_there logs m ∙ but m (omega (arith, l, count));
  each = λ m c at.
      let log = log_of_content logs m c at in
      let is = are m log.0 log.1 in
      subst (WasFound (before.told m)) log.2 (record { least = is.least; reads = is.found });
}

-- ---- why one was not mounted

pub was_refused : (member : ℕ) (told now : Option Told) (before after : ℕ) (why : MountWhy) (stop : Stop)
    → (why ≡ whys.OutOfMemory → stop ≡ OutOfMemory) → (why ≡ whys.DiskFault → stop ≡ DiskFault member)
    → ((at : ℕ) → why ≡ whys.Damaged at → stop ≡ Damaged member at) → (why ≡ whys.DiskFault → Rose before after)
    → ((at : ℕ) → why ≡ whys.Damaged at → IfSome told ReadsAnImage) → ((at : ℕ) → why ≡ whys.Damaged at → IfSome told
    (λ t. IsDamaged (content_of t) at)) → ((at : ℕ) → why ≡ whys.Damaged at → now ≡ added Sync told)
    → (why ≢ whys.DiskFault → after ≡ before) → WasRefused member told now before after stop
was_refused member told now before after whys.OutOfMemory stop memory disk bytes rose image damaged kept calm =
    subst (WasRefused member told now before after) (sym (memory refl)) (calm (λ e. absurd (cc (e))))
was_refused member told now before after whys.DiskFault stop memory disk bytes rose image damaged kept calm =
    subst (WasRefused member told now before after) (sym (disk refl)) (refl, rose refl)
was_refused member told now before after (whys.Damaged at) stop memory disk bytes rose image damaged kept calm =
    subst (WasRefused member told now before after) (sym (bytes at refl))
    (refl, both told (image at refl) (damaged at refl), kept at refl, calm (λ e. absurd (cc (e))))
  where
    both : (o : Option Told) → IfSome o ReadsAnImage → IfSome o (λ t. IsDamaged (content_of t) at)
        → IfSome o (ReadsDamaged at)
    both None i d = tt
    both (Some t) i d = record { image = i; damaged = d }

pub were_refused : {D : Type 0} (tells : D → Option Told) (faults : D → ℕ) (missing n k : ℕ)
    (before mid after : YardState) (logs : List (Option (LogState D))) (stop : Stop) → k < n
    → has missing k ≡ false → AreMounted tells faults before logs → AreAllBut missing logs → length logs ≡ k
    → mid.told k ≡ before.told k → mid.faults k ≡ before.faults k
    → ((j : ℕ) → k < j → (after.told j ≡ before.told j) × (after.faults j ≡ before.faults j))
    → WasRefused k (mid.told k) (after.told k) (mid.faults k) (after.faults k) stop
    → WereRefused n missing (length logs) before after stop
were_refused tells faults missing n k before mid after logs OutOfMemory below there are but count told same
    above is = (
      omega (arith, below, count),
      λ j l. (above j (omega (arith, l, count))).0,
      λ j l. ⊎_elim (λ (e : j ≡ k). ap after.faults e ∙ (is ∙ same) ∙ ap before.faults (sym e))
          (λ (apart : j ≢ k). (above j (omega (arith, l, count, apart))).1) (cases_eq j k),
    )
were_refused tells faults missing n k before mid after logs (DiskFault m) below there are but count told same above
    is = (
      is.0 ∙ sym count,
      record {
        below = omega (arith, is.0, below);
        there = ap (has missing) is.0 ∙ there;
        rose = subst (λ (j : ℕ). Rose (before.faults j) (after.faults j)) (sym is.0)
            (subst (λ (x : ℕ). Rose x (after.faults k)) same is.1);
        contents = contents_of logs;
        found = are_found tells faults missing before logs m are but (count ∙ sym is.0);
        above = λ j l. above j (omega (arith, l, is.0));
      },
    )
were_refused tells faults missing n k before mid after logs (Damaged m at) below there are but count told same above
    is = (
      is.0 ∙ sym count,
      record {
        below = omega (arith, is.0, below);
        there = ap (has missing) is.0 ∙ there;
        damaged = subst (λ (j : ℕ). IfSome (before.told j) (ReadsDamaged at)) (sym is.0)
            (subst (λ (o : Option Told). IfSome o (ReadsDamaged at)) told is.1);
        kept = subst (λ (j : ℕ). after.told j ≡ added Sync (before.told j)) (sym is.0) (is.2 ∙ ap (added Sync) told);
        contents = contents_of logs;
        found = are_found tells faults missing before logs m are but (count ∙ sym is.0);
      },
      λ j l. ⊎_elim (λ (e : j ≡ k). ap after.faults e ∙ (is.3 ∙ same) ∙ ap before.faults (sym e))
          (λ (apart : j ≢ k). (above j (omega (arith, l, count, apart))).1) (cases_eq j k),
    )
were_refused tells faults missing n k before mid after logs stop below there are but count told same above is =
    absurd is

-- so the next age was not opened, where the disks of the others are as they were then
pub refused_stop : (script : Script) (part : Part) (k : ℕ) (before mid after : YardState) (stop : Stop)
    → ((m : ℕ) → mid.faults m ≤ after.faults m) → ((m : ℕ) → k ≤ m → after.told m ≡ mid.told m)
    → AreKeptSince script.members part.missing k [] before after
    → WereRefused script.members part.missing k before mid stop → HasStopped script part before after stop
refused_stop script part k before mid after OutOfMemory later back since is = tt
refused_stop script part k before mid after (DiskFault m) later back since is = record {
  below = is.1.below;
  there = is.1.there;
  rose = le_trans is.1.rose (later m);
  at = in_mount is.1.contents is.1.found (λ j l. back j (omega (arith, l, is.0)) ∙ (is.1.above j l).0)
      (subst (λ (n : ℕ). AreKeptSince script.members part.missing n [] before after) (sym is.0) since);
}
refused_stop script part k before mid after (Damaged m at) later back since is = record {
  below = is.1.below;
  there = is.1.there;
  damaged = is.1.damaged;
  kept = back m (omega (arith, is.0)) ∙ is.1.kept;
  contents = is.1.contents;
  found = is.1.found;
}
refused_stop script part k before mid after (LogFull m len) later back since is = absurd is
refused_stop script part k before mid after (Disagree a b p) later back since is = absurd is
refused_stop script part k before mid after (Foreign m p) later back since is = absurd is
refused_stop script part k before mid after (NoQuorum v h n) later back since is = absurd is
refused_stop script part k before mid after AgesUsedUp later back since is = absurd is

-- so many were mounted then, and are back
pub refused_mounted : (n missing k : ℕ) (before mid after : YardState) (stop : Stop)
    → (((m : ℕ) → k < m → mid.told m ≡ before.told m) → AreMountedBelow k missing before after)
    → WereRefused n missing k before mid stop → HasMounted n missing before after k stop
refused_mounted n missing k before mid after OutOfMemory back is = inl (is.0, back is.1)
refused_mounted n missing k before mid after (DiskFault m) back is = inl (sym is.0)
refused_mounted n missing k before mid after (Damaged m at) back is = sym is.0
refused_mounted n missing k before mid after stop back is = absurd is

-- and all where what stopped the opening came later
pub stopped_mounted : (n missing : ℕ) (before after : YardState) (k : ℕ) (stop : Stop) → k ≡ n
    → IsBehindMounts stop → HasMounted n missing before after k stop
stopped_mounted n missing before after k OutOfMemory all is = inr all
stopped_mounted n missing before after k (DiskFault m) all is = inr all
stopped_mounted n missing before after k (Damaged m at) all is = absurd is
stopped_mounted n missing before after k (LogFull m len) all is = all
stopped_mounted n missing before after k (Disagree a b p) all is = all
stopped_mounted n missing before after k (Foreign m p) all is = all
stopped_mounted n missing before after k (NoQuorum v h need) all is = all
stopped_mounted n missing before after k AgesUsedUp all is = all

-- logs that were mounted, and are back on their disks
pub mounted_below : {D : Type 0} (tells : D → Option Told) (faults : D → ℕ) (missing : ℕ)
    (before mid after : YardState) (logs : List (Option (LogState D))) → AreMounted tells faults before logs
    → AreAllBut missing logs → AreAllBack tells faults mid after logs
    → ((m : ℕ) → length logs < m → mid.told m ≡ before.told m) → AreMountedBelow (length logs) missing before after
mounted_below {D} tells faults missing before mid after logs mounted but back above = record {
  contents = contents_of logs;
  found = are_found tells faults missing before logs (length logs) mounted but refl;
  safe = λ m c at.
      let log = log_of_content logs m c at in
      subst (λ (o : Option Told). IsLeft o (λ image. StandFor image c))
      (sym ((back m).0 ∙ told_at tells faults mid logs m log.0 log.1))
      (subst (λ (d : OnLog). IsLeft (tells log.0.disk) (λ image. StandFor image d)) log.2
      (mounted m log.0 log.1).safe);
  above = λ m past. (back m).0
      ∙ (told_none tells faults mid logs m (place_past logs m (omega (arith, past))) ∙ above m past);
}

-- ---- whose calls failed

-- of a disk that is back under its log as it was mounted none did, and those behind them have counted what they had
-- once the mounts had stopped
pub refused_names : (n missing k : ℕ) (before mid after : YardState) (stop : Stop)
    → ((m : ℕ) → m < k → after.faults m ≡ before.faults m) → ((m : ℕ) → k ≤ m → after.faults m ≡ mid.faults m)
    → WereRefused n missing k before mid stop → NamesFaults stop before after
refused_names n missing k before mid after OutOfMemory low high is = tt
refused_names n missing k before mid after (DiskFault m) low high is = λ j apart. elim (cases_lt j k) [
  | inl l ↦ low j l
  | inr past ↦ high j past ∙ (is.1.above j (omega (arith, past, is.0, apart))).1
]
refused_names n missing k before mid after (Damaged m at) low high is = λ j. elim (cases_lt j k) [
  | inl l ↦ low j l
  | inr past ↦ high j past ∙ is.2 j past
]
refused_names n missing k before mid after (LogFull m len) low high is = absurd is
refused_names n missing k before mid after (Disagree a b p) low high is = absurd is
refused_names n missing k before mid after (Foreign m p) low high is = absurd is
refused_names n missing k before mid after (NoQuorum v h need) low high is = absurd is
refused_names n missing k before mid after AgesUsedUp low high is = absurd is

-- where none did, no stop names one in vain
pub names_none : (stop : Stop) (before after : YardState) → ((m : ℕ) → after.faults m ≡ before.faults m)
    → NamesFaults stop before after
names_none OutOfMemory before after same = tt
names_none (DiskFault m) before after same = λ j apart. same j
names_none (LogFull m len) before after same = same
names_none (Damaged m at) before after same = same
names_none (Disagree a b p) before after same = same
names_none (Foreign m p) before after same = same
names_none (NoQuorum v h need) before after same = same
names_none AgesUsedUp before after same = same
