-- What a log stands for: its content, what is read of it, and what it may lose.
use Rattle.std.specs.Prelude.{All, slice_index_or, option_map, IsSomeAnd}
use Rattle.std.proofs.Common.{◌+◌, ◌*◌, ◌≤◌, List, length, arith, ◌≡◌, refl, Option, None, Some, true, ap, sym, ◌∙◌, inl, inr, [], IfSome, ◌≢◌, ℕ, Bool, false, ◌-◌, ◌∷◌, suc, filter}
use Rattle.std.proofs.lemmas.{List.{Elements.{All-head, All-tail}, Sums.{sum_by-le, sum_by-cons}}, Option.same_Some}
use Rattle.dr_entry.specs.{Spelling.{vote_spelling, IsValidEntry, entry_spelling}, declared.entry.Entry.Entry}
use Rattle.dr_entry.specs.declared.{entry.Entry.TheVariants.{View, Msg}, limits.TheConstants.MAX_MEMBERS}
use Rattle.dr_entry.{specs.declared.record.{AgeVote.AgeVote, Vote.Vote}, proofs.Entries.is_message}
use Rattle.dr_entry.proofs.{Records.short_block, Trims.short_vote}
use Rattle.dr_entry.specs.declared.record.Record.TheVariants as records
use Rattle.dr_disk.{specs.{Disk.{Told, content_of, state_of}, Images.{Goes, IsLeft}}, proofs.Moments.Went-weaken}
use Rattle.dr_log_bytes.specs.{Content.{OnLog, empty_of, block_length}, Grammar.{StandFor, IsDamaged}}
use Rattle.dr_log_bytes.proofs.{Grammars.newer_either, Meaning.{content_once, stands_or_damaged, damaged_once}}
use Rattle.dr_log.specs.Standing.{votes_length, with_age_vote, in_newer_format, LosesNone, StandAlike, KeepsRecords, entries_length}
use Rattle.dr_log.specs.State.{LogState}

pub short_votes : (vs : List Vote) → All (λ (v : Vote). v.members ≤ MAX_MEMBERS) vs → votes_length vs ≤ 73 * length vs
short_votes vs few =
    let votes = sum_by-le (λ (v : Vote). 1 + length (vote_spelling v)) 73 vs
    (λ k d l. short_vote (slice_index_or vs k d) (few k d l)) in
    omega (arith, votes)

-- the content of a log that is there
pub content_there : {D : Type 0} (o : Option (LogState D)) (c : OnLog)
    → option_map (λ (log : LogState D). log.content) o ≡ Some c
    → (log : LogState D) × (o ≡ Some log) × (log.content ≡ c)
content_there None c same = absurd (cc)
content_there (Some log) c same = (log, refl, same_Some log.content c same)

pub no_content : {D : Type 0} (o : Option (LogState D)) → option_map (λ (log : LogState D). log.content) o ≡ None
    → o ≡ None
no_content None same = refl
no_content (Some log) same = absurd (cc)

pub voted_newer : (vote : AgeVote) (c : OnLog) → (with_age_vote vote c).newer ≡ true
voted_newer vote c = newer_either c c.newer refl

-- any other log from some bytes
pub record_used : (told : Option Told) (c : OnLog) → c ≢ empty_of c.newer
    → IfSome told (λ t. StandFor (content_of t) c) → IfSome told (λ t. content_of t ≢ [])
record_used None c other stands = tt
record_used (Some t) c other (inl (short, same)) =
    absurd (other (same ∙ ap empty_of (sym (ap (λ (d : OnLog). d.newer) same))))
record_used (Some t) c other (inr (long, log)) = λ none. omega (arith, long, ap length none)

-- bytes that are damaged are some
pub damaged_used : (told : Option Told) (at : ℕ) → IfSome told (λ t. IsDamaged (content_of t) at)
    → IfSome told (λ t. content_of t ≢ [])
damaged_used None at damaged = tt
damaged_used (Some t) at damaged = λ none. omega (arith, damaged.0, ap length none)

pub newer_long : (c : OnLog) → (in_newer_format c).length ≤ c.length + 2
newer_long c = by c.newer refl
  where
    by : (b : Bool) → c.newer ≡ b → (in_newer_format c).length ≤ c.length + 2
    by true e = rw e (omega arith)
    by false e = let block : block_length records.Upgrade ≤ 2 = omega arith in rw e (omega (arith, block))

pub one_read : (o : Option Told) (c d : OnLog) → IsSomeAnd o (λ t. StandFor (content_of t) c)
    → IsSomeAnd o (λ t. StandFor (content_of t) d) → c ≡ d
one_read None c d a b = absurd a
one_read (Some t) c d a b = content_once (content_of t) c d a b

-- a disk that reads as a log is not damaged
pub readable : (o : Option Told) (c : OnLog) (at : ℕ) → IsSomeAnd o (λ t. StandFor (content_of t) c)
    → IsSomeAnd o (λ t. IsDamaged (content_of t) at) → ⊥
readable None c at stands damaged = stands
readable (Some t) c at stands damaged = stands_or_damaged (content_of t) c at stands damaged

pub one_place : (o : Option Told) (at to : ℕ) → IsSomeAnd o (λ t. IsDamaged (content_of t) at)
    → IsSomeAnd o (λ t. IsDamaged (content_of t) to) → at ≡ to
one_place None at to a b = absurd a
one_place (Some t) at to a b = damaged_once (content_of t) at to a b

-- bytes that stand for the same have lost the same
pub loses_alike : (c : OnLog) (first second : List ℕ) → StandAlike first second → LosesNone c first
    → LosesNone c second
loses_alike c first second alike none = record {
  content = none.content;
  stands = (alike none.content).0 none.stands;
  has = none.has;
}

-- what each image had, and those that stand alike share, each has while a crash leaves what it might have left
-- before
pub alike_goes : (told now : Option Told) (P : List ℕ → Type 0)
    → ((first second : List ℕ) → StandAlike first second → P first → P second) → Goes told now KeepsRecords
    → IsLeft told P → Goes told now (λ s. P)
alike_goes None None P more goes left = tt
alike_goes None (Some now) P more goes left = absurd goes
alike_goes (Some told) None P more goes left = absurd goes
alike_goes (Some told) (Some now) P more goes left = Went-weaken told now (KeepsRecords (state_of told)) P
    (λ image k. more k.before image k.alike (left k.before k.was)) goes

-- a View takes 7 bytes, and a message 72 at most
pub entries_short : (es : List Entry) → All IsValidEntry es
    → entries_length es ≤ 7 * length es + 65 * length (filter is_message es)
entries_short [] valid = omega arith
entries_short (View a k m ∷ es) valid =
    let block : 1 + length (entry_spelling (View a k m)) ≤ 7 = omega arith in
    let told : length (filter is_message (View a k m ∷ es)) ≡ length (filter is_message es) = refl in
    omega (
      arith,
      block,
      told,
      sum_by-cons (λ (e : Entry). 1 + length (entry_spelling e)) (View a k m) es,
      entries_short es (All-tail IsValidEntry (View a k m) es valid),
    )
entries_short (Msg s i b ∷ es) valid =
    let block = short_block (Msg s i b) (All-head IsValidEntry (Msg s i b) es valid) in
    let told : length (filter is_message (Msg s i b ∷ es)) ≡ suc (length (filter is_message es)) = refl in
    omega (
      arith,
      block,
      told,
      sum_by-cons (λ (e : Entry). 1 + length (entry_spelling e)) (Msg s i b) es,
      entries_short es (All-tail IsValidEntry (Msg s i b) es valid),
    )
