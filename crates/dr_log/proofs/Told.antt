-- What a log's calls make of a disk that may tell: what a crash leaves at each moment, and what the
-- disk is then.
use Rattle.std.proofs.Common.{◌≡◌, ℕ, ◌+◌, ◌-◌, ◌<◌, ◌≤◌, List, [], ◌∷◌, ◌++◌, length, Option, Some, None, IfSome, inl, inr, refl, sym, ap, subst, ◌∙◌, arith}
use Rattle.dr_entry.{specs.{declared.entry.Entry.Entry, declared.record.Record.Record}, proofs.ListFacts.IsWhole}
use Rattle.dr_disk.specs.Calls.{Call, Write, FailedWrite, Cut, FailedCut, Sync, State, at_rest, written, run_from}
use Rattle.dr_disk.{specs.Disk.{Told, state_of, content_of, after, added}, proofs.Images.image_at_rest}
use Rattle.dr_disk.specs.Images.{IsImage, AllImages, During, Goes, IsLeft, LastsDuring, Lasts}
use Rattle.dr_disk.proofs.Moments.{after_all, state-after_all, Goes-weaken, went_by, Went-still, lasts_by, content-after_all}
use Rattle.dr_log.specs.{Appending.staged, Grouping.{StopsAmong, added_all, group}, Kept.IsSettled}
use Rattle.dr_log.{specs.Standing.{IsNoneOrAll, LosesNone, as_records, with_entries}, proofs.Groups.bytes_of}
use Rattle.dr_log.proofs.{Growing.content-entries, Lasting.{TakesNothing, Witnessed, lasts_during}}
use Rattle.dr_log.proofs.Moments.{fine_during, fine_seen, group_fine, group_is, group_whole, run_group, stopped}
use Rattle.dr_log_bytes.specs.Content.{ArePlaced, OnLog, content_after, empty_of}
use Rattle.dr_log_bytes.specs.Grammar.{AreSpelled, IsLog, StandFor, blocks, newer_magic}
use Rattle.dr_log_bytes.proofs.{Grammars.{content-append, HasNoneOrAll}, Moments.{Behind, Stands, made_by}}
use Rattle.dr_log_bytes.proofs.Reading.{length-after, log_stands, gate_inside}

-- once the magic is written over a disk that was cut, the disk reaches to its end
pub reaches_magic : (told new : Option Told) → new ≡ staged 0 newer_magic (added (Cut 0) told)
    → IfSome new (λ t. 8 ≤ length (content_of t))
reaches_magic None new is = subst (λ (o : Option Told). IfSome o (λ t. 8 ≤ length (content_of t))) (sym is) tt
reaches_magic (Some told) new is =
    let now = content-after_all told (Cut 0 ∷ Write 0 newer_magic ∷ Sync ∷ []) in
    let long : 8 ≤ length (content_of (after_all (Cut 0 ∷ Write 0 newer_magic ∷ Sync ∷ []) told)) =
    omega (arith, ap length now) in
    subst (λ (o : Option Told). IfSome o (λ t. 8 ≤ length (content_of t))) (sym is) long

-- ---- a log at rest

-- what a settled disk reads stands for what is on the log
pub settled_content : (c : OnLog) (t : Told) → IsSettled c t → StandFor (content_of t) c
settled_content c t is = log_stands (content_of t) is.newer is.records c is.log is.whole is.content

-- so does each of its images
pub settled_images : (c : OnLog) (t : Told) → IsSettled c t → AllImages (state_of t) (λ image. StandFor image c)
settled_images c t is image here =
    let same = image_at_rest (content_of t) image (subst (λ (s : State). IsImage s image) is.rests here) in
    subst (λ (l : List ℕ). StandFor l c) (sym same) (settled_content c t is)

-- the same where it may not tell
pub images_told : (c : OnLog) (told : Option Told) → IfSome told (IsSettled c)
    → IsLeft told (λ image. StandFor image c)
images_told c None is = tt
images_told c (Some t) is = settled_images c t is

-- and where neither what it tells nor what is on the log has changed
pub images_still : (c d : OnLog) (told new : Option Told) → IfSome told (IsSettled c)
    → new ≡ told → d ≡ c → IsLeft new (λ image. StandFor image d)
images_still c d told new is same content = rw (same, content) (images_told c told is)

-- its length is that of its records
settled_length : (c : OnLog) (t : Told) (is : IsSettled c t) → c.length ≡ 9 + length (blocks is.records)
settled_length c t is = omega (
  arith,
  ap (λ (d : OnLog). d.length) is.content,
  length-after (empty_of is.newer) is.records,
)

pub reaches_end : (c : OnLog) (told : Option Told) → IfSome told (IsSettled c)
    → IfSome told (λ t. c.length ≤ length (content_of t))
reaches_end c None is = tt
reaches_end c (Some t) is = omega (
  arith,
  settled_length c t is,
  gate_inside (content_of t) is.newer is.records (8 + length (blocks is.records)) is.log refl,
)

-- while no call is made, images stand for what is on the log
pub still_goes : (c : OnLog) (told : Option Told) (P : List ℕ → Type 0)
    → IfSome told (IsSettled c) → ((image : List ℕ) → StandFor image c → P image) → Goes told told (λ s. P)
still_goes c None P is so = tt
still_goes c (Some t) P is so = Went-still t P (λ image here. so image (settled_images c t is image here))

-- ---- an append

-- at each moment of it an image stands for what was on the log or for that with all the new records, and what no
-- crash loses at one moment no crash loses later on, unless the new records take it away
pub record GoesWell (c : OnLog) (news : List Record) (told new : Option Told) : Type 0 where
  pub goes : Goes told new (λ s. HasNoneOrAll c news)
  pub lasts : (first : OnLog) → TakesNothing first c news → Lasts told new (LosesNone first)

-- so of entries alone
pub goes_all : (c : OnLog) (news : List Entry) (told new : Option Told)
    → GoesWell c (as_records news) told new → Goes told new (λ s. IsNoneOrAll c news)
goes_all c news told new is = Goes-weaken told new (λ s. HasNoneOrAll c (as_records news)) (λ s. IsNoneOrAll c news)
    (λ s image here. all image here) is.goes
  where
    all : (image : List ℕ) → HasNoneOrAll c (as_records news) image → IsNoneOrAll c news image
    all image (inl before) = inl before
    all image (inr behind) = inr (subst (StandFor image) (content-entries c news) behind)

-- the moments of calls that begin on a settled disk
from_rest : (c : OnLog) (t : Told) (more : List Call) (news : List Record) (is : IsSettled c t)
    → During (at_rest (content_of t)) more (Stands is.newer is.records news)
    → Witnessed (made_by is.newer is.records) (at_rest (content_of t)) more
    → GoesWell c news (Some t) (Some (after_all more t))
from_rest c t more news is each seen = record {
  goes = went_by t more (HasNoneOrAll c news)
      (subst (λ (s : State). During s more (HasNoneOrAll c news)) (sym is.rests) now);
  lasts = λ first takes. lasts_by t more (LosesNone first)
      (subst (λ (s : State). LastsDuring s more (LosesNone first)) (sym is.rests)
      (lasts_during c first news (at_rest (content_of t)) more takes now
      (subst (λ x. Witnessed x (at_rest (content_of t)) more) is.content seen)));
}
  where
    now : During (at_rest (content_of t)) more (HasNoneOrAll c news)
    now = subst (λ x. During (at_rest (content_of t)) more (HasNoneOrAll x news)) is.content each

-- what is to be appended to a settled disk: some valid records that may stand there, by the length of the log
pub record MayCome (c : OnLog) (at : ℕ) (news : List Record) : Type 0 where
  pub long : at ≡ c.length
  pub some : 0 < length news
  pub fit : AreSpelled news
  pub placed : ArePlaced c news

behind : (c : OnLog) (t : Told) (at : ℕ) (news : List Record) (is : IsSettled c t)
    → MayCome c at news → Behind (content_of t) is.newer is.records (at - 1) at news
behind c t at news is may = record {
  log = is.log;
  whole = is.whole;
  gate = omega (arith, settled_length c t is, may.long);
  place = omega (arith, settled_length c t is, may.long);
  some = may.some;
  fit = may.fit;
  placed = subst (λ x. ArePlaced x news) (sym is.content) may.placed;
}

added_some : (calls : List Call) (t : Told) → added_all calls (Some t) ≡ Some (after_all calls t)
added_some [] t = refl
added_some (call ∷ calls) t = added_some calls (after call t)

added_none : (calls : List Call) → added_all calls None ≡ None
added_none [] = refl
added_none (call ∷ calls) = added_none calls

silent : (calls : List Call) (new : Option Told) → StopsAmong calls None new → new ≡ None
silent [] new stops = absurd stops
silent (Write at bytes ∷ calls) new (inl e) = e
silent (Write at bytes ∷ calls) new (inr more) = silent calls new more
silent (Sync ∷ calls) new (inl e) = e
silent (Sync ∷ calls) new (inr more) = silent calls new more
silent (FailedWrite at count ∷ calls) new stops = absurd stops
silent (Cut to ∷ calls) new stops = absurd stops
silent (FailedCut to ∷ calls) new stops = absurd stops

goes_silent : (c : OnLog) (news : List Record) → GoesWell c news None None
goes_silent c news = record { goes = tt; lasts = λ first takes. tt }

-- a group that was appended
pub group_goes : (c : OnLog) (told new : Option Told) (at : ℕ) (news : List Record)
    → IfSome told (IsSettled c) → MayCome c at news → new ≡ added_all (group at news) told → GoesWell c news told new
group_goes c None new at news is may e =
    subst (GoesWell c news None) (sym (e ∙ added_none (group at news))) (goes_silent c news)
group_goes c (Some t) new at news is may e =
    let calls = group at news in
    let fine = group_fine (content_of t) is.newer is.records (at - 1) at news (behind c t at news is may) in
    subst (GoesWell c news (Some t)) (sym (e ∙ added_some calls t)) (from_rest c t calls news is
    (fine_during (Stands is.newer is.records news) (made_by is.newer is.records) (at_rest (content_of t)) calls fine)
    (fine_seen (Stands is.newer is.records news) (made_by is.newer is.records) (at_rest (content_of t)) calls fine))

-- and one that stopped
pub group_stops : (c : OnLog) (told new : Option Told) (at : ℕ) (news : List Record)
    → IfSome told (IsSettled c) → MayCome c at news → StopsAmong (group at news) told new → GoesWell c news told new
group_stops c None new at news is may stops =
    subst (GoesWell c news None) (sym (silent (group at news) new stops)) (goes_silent c news)
group_stops c (Some t) new at news is may stops =
    let calls = group at news in
    let fine = group_fine (content_of t) is.newer is.records (at - 1) at news (behind c t at news is may) in
    let so = stopped (Stands is.newer is.records news) (made_by is.newer is.records)
    (at_rest (content_of t)) t new calls fine stops in
    subst (GoesWell c news (Some t)) (sym so.is) (from_rest c t so.done news is so.each so.seen)

-- once it was appended, the disk is settled with its records
pub group_settled : (c d : OnLog) (told new : Option Told) (at : ℕ) (news : List Record) → IfSome told (IsSettled c)
    → MayCome c at news → new ≡ added_all (group at news) told → d ≡ content_after c news → IfSome new (IsSettled d)
group_settled c d None new at news is may e same =
    subst (λ (o : Option Told). IfSome o (IsSettled d)) (sym (e ∙ added_none (group at news))) tt
group_settled c d (Some t) new at news is may e same =
    let calls = group at news in
    let f = is.newer in
    let rs = is.records in
    let old = content_of t in
    let b = behind c t at news is may in
    let bytes = written (written old at (bytes_of news)) (at - 1) (1 ∷ []) in
    let ran : state_of (after_all calls t) ≡ at_rest bytes = state-after_all t calls
    ∙ ap (λ (s : State). run_from s calls) is.rests ∙ run_group old f rs (at - 1) at news b in
    let reads = ap (λ (s : State). s.content) ran in
    let settled : IsSettled d (after_all calls t) = record {
      rests = ran ∙ ap at_rest (sym reads);
      newer = f;
      records = rs ++ news;
      log = subst (λ (l : List ℕ). IsLog l f (rs ++ news)) (sym reads) (group_is old f rs (at - 1) at news b);
      whole = subst (IsWhole f) (sym reads) (group_whole old f rs (at - 1) at news b);
      content = content-append (empty_of f) rs news ∙ ap (λ (x : OnLog). content_after x news) is.content ∙ sym same;
    } in
    subst (λ (o : Option Told). IfSome o (IsSettled d)) (sym (e ∙ added_some calls t)) settled
