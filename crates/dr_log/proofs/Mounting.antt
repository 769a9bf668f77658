-- What a crash leaves at each moment of a mount, and what the disk is then.
use Rattle.std.proofs.Common.{◌≡◌, true, false, ℕ, ◌<◌, ◌≤◌, List, [], ◌∷◌, ◌++◌, length, Option, Some, None, IfSome, inl, inr, refl, sym, ap, subst, ◌∙◌, arith}
use Rattle.dr_entry.specs.declared.record.Record.{Record}
use Rattle.dr_disk.specs.Calls.{Call, Write, FailedWrite, Cut, FailedCut, Sync, State, at_rest, run_from}
use Rattle.dr_disk.{specs.Disk.{Told, state_of, content_of, after, added}, proofs.Images.image_at_rest}
use Rattle.dr_disk.{specs.Images.{IsImage, During, Went, Goes, ReadsAnImage}, proofs.DiskCalls.short_state}
use Rattle.dr_disk.proofs.Moments.{after_all, state-after, state-after_all, During-weaken, went_by, Went-still, synced_content, length_told}
use Rattle.dr_log.specs.{Appending.{IsMounted, made, StopsMaking}, Kept.IsSettled, Standing.KeepsRecords}
use Rattle.dr_log_bytes.specs.Content.{OnLog, empty_of}
use Rattle.dr_log_bytes.specs.Grammar.{IsDamaged, IsLog, IsLogOf, IsNoLog, StandFor, newer_magic}
use Rattle.dr_log_bytes.proofs.{Grammars.{short_alike, empty_log}, Reading.log_stands}

abbrev Keeps : Option Told → Option Told → Type 0
Keeps told new = Goes told new KeepsRecords

-- an image of before is such an image
same_image : (s : State) (image : List ℕ) → IsImage s image → KeepsRecords s image
same_image s image is = record { before = image; was = is; alike = λ c. (λ here. here, λ here. here) }

-- while no call is made
pub keeps_still : (told : Option Told) → Keeps told told
keeps_still None = tt
keeps_still (Some t) = Went-still t (KeepsRecords (state_of t)) (same_image (state_of t))

-- what a read gives
reads_alike : (s : State) (image : List ℕ) → IsImage s s.content → IsImage (at_rest s.content) image
    → KeepsRecords s image
reads_alike s image reads is =
    let same = image_at_rest s.content image is in
    record {
      before = s.content;
      was = reads;
      alike = λ c. (subst (λ (l : List ℕ). StandFor l c) (sym same), subst (λ (l : List ℕ). StandFor l c) same);
    }

-- once the disk is synced
pub synced_keeps : (told new : Option Told) → new ≡ added Sync told → IfSome told ReadsAnImage → Keeps told new
synced_keeps None new is reads = subst (Keeps None) (sym is) tt
synced_keeps (Some t) new is reads = subst (Keeps (Some t)) (sym is) (went_by t
    (Sync ∷ []) (KeepsRecords (state_of t)) (same_image (state_of t), λ image. reads_alike (state_of t) image reads))

-- ---- a log that is there

pub found_settled : (told mid : Option Told) (bytes : List ℕ) (c : OnLog) (n : ℕ) → mid ≡ added Sync told
    → IfSome mid (λ t. n ≡ length (content_of t)) → 9 < n → IfSome mid (λ t. bytes ≡ content_of t)
    → IsLogOf bytes c → IfSome mid (IsSettled c)
found_settled None mid bytes c n is long more reads found = subst (λ (o : Option Told).
    IfSome o (IsSettled c)) (sym is) tt
found_settled (Some t) mid bytes c n is long more reads found =
    let same = subst (λ (o : Option Told). IfSome o (λ t. bytes ≡ content_of t)) is reads in
    let lengths = subst (λ (o : Option Told). IfSome o (λ t. n ≡ length (content_of t))) is long in
    let settled : IsSettled c (after Sync t) = record {
      rests = state-after t Sync ∙ ap at_rest (sym (synced_content t));
      newer = found.newer;
      records = found.records;
      log = subst (λ (l : List ℕ). IsLog l found.newer found.records) same found.log;
      whole = λ older. omega (arith, lengths, more);
      content = found.content;
    } in
    subst (λ (o : Option Told). IfSome o (IsSettled c)) (sym is) settled

pub found_records : (told mid : Option Told) (bytes : List ℕ) (c : OnLog) (n : ℕ) → mid ≡ added Sync told
    → IfSome mid (λ t. n ≡ length (content_of t)) → 9 < n → IfSome mid (λ t. bytes ≡ content_of t)
    → IsLogOf bytes c → IfSome told (λ t. StandFor (content_of t) c)
found_records None mid bytes c n is long more reads found = tt
found_records (Some t) mid bytes c n is long more reads found =
    let same = subst (λ (o : Option Told). IfSome o (λ t. bytes ≡ content_of t)) is reads in
    let lengths = subst (λ (o : Option Told). IfSome o (λ t. n ≡ length (content_of t))) is long in
    let content = synced_content t in
    log_stands (content_of t) found.newer found.records c (subst (λ (l : List ℕ). IsLog l found.newer found.records)
    (same ∙ content) found.log) (λ older. omega (arith, lengths, more, ap length content)) found.content

pub found_damaged : (told mid : Option Told) (bytes : List ℕ) (n at : ℕ) → mid ≡ added Sync told
    → IfSome mid (λ t. n ≡ length (content_of t)) → 9 < n → IfSome mid (λ t. bytes ≡ content_of t) → IsNoLog bytes at
    → IfSome told (λ t. IsDamaged (content_of t) at)
found_damaged None mid bytes n at is long more reads none = tt
found_damaged (Some t) mid bytes n at is long more reads none =
    let same = subst (λ (o : Option Told). IfSome o (λ t. bytes ≡ content_of t)) is reads in
    let lengths = subst (λ (o : Option Told). IfSome o (λ t. n ≡ length (content_of t))) is long in
    let content = synced_content t in (
      omega (arith, more, lengths, ap length content),
      subst (λ (l : List ℕ). IsNoLog l at) (same ∙ content) none,
    )

-- ---- a log that is made

short_keeps : (s : State) → IsImage s s.content → length s.content ≤ 9 → (image : List ℕ)
    → length image ≤ 9 → KeepsRecords s image
short_keeps s reads short image here = record {
  before = s.content;
  was = reads;
  alike = λ c. (short_alike s.content image short here c, short_alike image s.content here short c);
}

-- calls behind a sync during which the disk stays short
short_went : (t : Told) (more : List Call) → ReadsAnImage t
    → length (content_of t) ≤ 9 → During (at_rest (content_of t)) more
    (λ image. length image ≤ 9) → Went t (after_all (Sync ∷ more) t) (KeepsRecords (state_of t))
short_went t more reads short each = went_by t (Sync ∷ more) (KeepsRecords (state_of t)) (
  same_image (state_of t),
  During-weaken (at_rest (content_of t)) more
      (λ image. length image ≤ 9) (KeepsRecords (state_of t)) (short_keeps (state_of t) reads short) each,
)

-- all calls of making a log on a short disk
made_short : (c : List ℕ) → length c ≤ 9 → During (at_rest c) (Cut 0
    ∷ Write 0 newer_magic ∷ Sync ∷ Write 8 (0 ∷ []) ∷ Sync ∷ []) (λ image. length image ≤ 9)
made_short c l = (
  short_state _ l,
  (
    short_state _ l,
    (
      short_state _ (omega (arith, l)),
      (short_state _ (omega arith), (short_state _ (omega arith), short_state _ (omega arith))),
    ),
  ),
)

pub made_keeps : (told new : Option Told) (n : ℕ) → IfSome (added Sync told) (λ t. n ≡ length (content_of t))
    → n ≤ 9 → IfSome told ReadsAnImage → new ≡ made (added Sync told) → Keeps told new
made_keeps None new n long small reads is = subst (Keeps None) (sym is) tt
made_keeps (Some t) new n long small reads is =
    let l = length_told (Some t) n long small in
    subst (Keeps (Some t)) (sym is) (short_went t
    (Cut 0 ∷ Write 0 newer_magic ∷ Sync ∷ Write 8 (0 ∷ []) ∷ Sync ∷ []) reads l (made_short (content_of t) l))

-- the calls of a mount that makes a log
pub mounted_new : (told new : Option Told) (n : ℕ) → IfSome (added Sync told)
    (λ t. n ≡ length (content_of t)) → n ≤ 9 → new ≡ made (added Sync told) → IsMounted told new
mounted_new None new n long small is = tt
mounted_new (Some t) new n long small is = inl (length_told (Some t) n long small, is)

-- and of one that finds a log
pub mounted_there : (told new : Option Told) (n : ℕ) → IfSome (added Sync told)
    (λ t. n ≡ length (content_of t)) → 9 < n → new ≡ added Sync told → IsMounted told new
mounted_there None new n long more is = tt
mounted_there (Some t) new n long more is = inr (omega (arith, long, more, ap length (synced_content t)), is)

stops_keeps_some : (t : Told) (new : Option Told) → length (content_of t) ≤ 9 → ReadsAnImage t
    → StopsMaking (added Sync (Some t)) new → Keeps (Some t) new
stops_keeps_some t new l reads (inl e) =
    subst (Keeps (Some t)) (sym e) (short_went t (FailedCut 0 ∷ []) reads l (short_state _ l, short_state _ l))
stops_keeps_some t new l reads (inr (inl (inl e))) = subst (Keeps (Some t)) (sym e) (short_went t
    (Cut 0 ∷ FailedWrite 0 8 ∷ []) reads l (short_state _ l, (short_state _ l, short_state _ (omega (arith, l)))))
stops_keeps_some t new l reads (inr (inl (inr e))) = subst (Keeps (Some t)) (sym e) (short_went t
    (Cut 0 ∷ Write 0 newer_magic ∷ []) reads l (short_state _ l, (short_state _ l, short_state _ (omega (arith, l)))))
stops_keeps_some t new l reads (inr (inr (inl e))) = subst (Keeps (Some t)) (sym e)
    (short_went t (Cut 0 ∷ Write 0 newer_magic ∷ Sync ∷ FailedWrite 8 1 ∷ []) reads l (
      short_state _ l,
      (
        short_state _ l,
        (short_state _ (omega (arith, l)), (short_state _ (omega arith), short_state _ (omega arith))),
      ),
    ))
stops_keeps_some t new l reads (inr (inr (inr e))) = subst (Keeps (Some t)) (sym e)
    (short_went t (Cut 0 ∷ Write 0 newer_magic ∷ Sync ∷ Write 8 (0 ∷ []) ∷ []) reads l (
      short_state _ l,
      (
        short_state _ l,
        (short_state _ (omega (arith, l)), (short_state _ (omega arith), short_state _ (omega arith))),
      ),
    ))

stays_silent : (new : Option Told) → StopsMaking None new → new ≡ None
stays_silent new (inl e) = e
stays_silent new (inr (inl (inl e))) = e
stays_silent new (inr (inl (inr e))) = e
stays_silent new (inr (inr (inl e))) = e
stays_silent new (inr (inr (inr e))) = e

pub stops_keeps : (told new : Option Told) (n : ℕ) → IfSome (added Sync told) (λ t. n ≡ length (content_of t))
    → n ≤ 9 → IfSome told ReadsAnImage → StopsMaking (added Sync told) new → Keeps told new
stops_keeps None new n long small reads stops = subst (Keeps None) (sym (stays_silent new stops)) tt
stops_keeps (Some t) new n long small reads stops = stops_keeps_some t new
    (length_told (Some t) n long small) reads stops

-- whatever was there stands for a new log
pub made_records : (told : Option Told) (n : ℕ) → IfSome (added Sync told)
    (λ t. n ≡ length (content_of t)) → n ≤ 9 → IfSome told (λ t. StandFor (content_of t) (empty_of true))
made_records None n long small = tt
made_records (Some t) n long small = inl (length_told (Some t) n long small, refl)

made_run : (s : State) → run_from s (Cut 0 ∷ Write 0 newer_magic ∷ Sync ∷ Write 8 (0 ∷ []) ∷ Sync ∷ [])
    ≡ at_rest (newer_magic ++ (0 ∷ []))
made_run s = refl

-- the disk of a new log
pub made_settled : (told new : Option Told) → new ≡ made told → IfSome new (IsSettled (empty_of true))
made_settled None new is = subst (λ (o : Option Told). IfSome o (IsSettled (empty_of true))) (sym is) tt
made_settled (Some t) new is =
    let more = Cut 0 ∷ Write 0 newer_magic ∷ Sync ∷ Write 8 (0 ∷ []) ∷ Sync ∷ [] in
    let ran : state_of (after_all more t) ≡ at_rest (newer_magic ++ (0 ∷ [])) = state-after_all t more
    ∙ made_run (state_of t) in
    let reads = ap (λ (s : State). s.content) ran in
    let settled : IsSettled (empty_of true) (after_all more t) = record {
      rests = ran ∙ ap at_rest (sym reads);
      newer = true;
      records = [];
      log = subst (λ (l : List ℕ). IsLog l true []) (sym reads) empty_log;
      whole = λ older. absurd (cc (older));
      content = refl;
    } in
    subst (λ (o : Option Told). IfSome o (IsSettled (empty_of true))) (sym is) settled
