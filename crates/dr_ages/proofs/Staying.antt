-- What no crash would have lost of a disk none would lose later on.
use Rattle.std.specs.Prelude.{IfSome, Option, None, Some, is_some}
use Rattle.std.proofs.Common.{◌≡◌, refl, sym, ◌∙◌, subst, ℕ, ◌≤◌, arith, le_refl, List, [], ◌∷◌, ◌++◌}
use Rattle.std.proofs.lemmas.List.Elements.{All-cons, All-head, All-nil, All-tail}
use Rattle.dr_disk.specs.{Disk.{Told, content_of, state_of}, Images.{AllImages, Goes, IsLeft}}
use Rattle.dr_disk.proofs.{DiskCalls.goes_tells, Images.silent, Moments.{Goes-last, stays_at, goes_both}}
use Rattle.dr_entry.specs.declared.entry.Entry.{Entry}
use Rattle.dr_history.specs.History.{IsPrefixOf}
use Rattle.dr_log.specs.{Standing.{HasAllOf, KeepsRecords, LosesNone, StandAlike}, State.LogState}
use Rattle.dr_log.proofs.{Ordinary.left_less, Standing.{loses_alike, alike_goes}}
use Rattle.dr_log_bytes.{specs.Content.OnLog, proofs.Meaning.content_once}
use Rattle.dr_served.proofs.Served.{safe_kept}
use Rattle.dr_ages.specs.{Found.ReadsAs, Lent.{IsAlike, IsMounted}, Opened.IsLater}
use Rattle.dr_ages.specs.Passing.{AllBeginWith, GoesOn, IsKeptSince, IsUnreadable}

-- ---- starts

abbrev begins_with : List Entry → List Entry → Type 0
begins_with es start = IsPrefixOf es start

-- the first of some starts, and the others
pub first_starts : (es : List Entry) (xs ys : List (List Entry)) → AllBeginWith es (xs ++ ys) → AllBeginWith es xs
first_starts es [] ys all = All-nil (begins_with es)
first_starts es (x ∷ xs) ys all = All-cons (begins_with es) x xs (All-head (begins_with es) x (xs ++ ys) all)
    (first_starts es xs ys (All-tail (begins_with es) x (xs ++ ys) all))

pub other_starts : (es : List Entry) (xs ys : List (List Entry)) → AllBeginWith es (xs ++ ys) → AllBeginWith es ys
other_starts es [] ys all = all
other_starts es (x ∷ xs) ys all = other_starts es xs ys (All-tail (begins_with es) x (xs ++ ys) all)

pub no_starts : (es : List Entry) → AllBeginWith es []
no_starts es = All-nil (begins_with es)

pub of_one_start : (es start : List Entry) → AllBeginWith es (start ∷ []) → IsPrefixOf es start
of_one_start es start all = All-head (begins_with es) start [] all

-- ---- bytes

unread_alike : (first second : List ℕ) → StandAlike first second → IsUnreadable first → IsUnreadable second
unread_alike first second alike none c stands = none c ((alike c).1 stands)

-- ---- disks

-- ---- a disk goes on

-- while it is left alone
pub alike_same : (told now : Option Told) (count faults : ℕ) → now ≡ told → count ≤ faults
    → IsAlike told count now faults
alike_same told now count faults same later = record {
  moments = subst (λ (o : Option Told). Goes told o KeepsRecords) (sym same) (stays_at told KeepsRecords (own told));
  later = later;
}
  where
    own : (o : Option Told) → IfSome o (λ t. AllImages (state_of t) (KeepsRecords (state_of t)))
    own None = tt
    own (Some t) = λ image is. record { before = image; was = is; alike = λ c. (λ r. r, λ r. r) }

-- where a crash leaves what it might have left before, as far as records go
pub on_alike : (starts : List (List Entry)) (told now : Option Told) (count faults : ℕ)
    → IsAlike told count now faults → GoesOn starts told count now faults
on_alike starts told now count faults is = record {
  tells = goes_tells told now KeepsRecords is.moments;
  later = is.later;
  stays = λ c all left. alike_goes told now (LosesNone c) (loses_alike c) is.moments left;
  unread = λ left. alike_goes told now IsUnreadable unread_alike is.moments left;
}

pub on_same : (starts : List (List Entry)) (told now : Option Told) (count faults : ℕ) → now ≡ told
    → count ≤ faults → GoesOn starts told count now faults
on_same starts told now count faults same later =
    on_alike starts told now count faults (alike_same told now count faults same later)

-- first while some starts were chosen, and then while others were
pub on_then : (xs ys : List (List Entry)) (a b c : Option Told) (k m n : ℕ) → GoesOn xs a k b m
    → GoesOn ys b m c n → GoesOn (xs ++ ys) a k c n
on_then xs ys a b c k m n first next = record {
  tells = first.tells ∙ next.tells;
  later = omega (arith, first.later, next.later);
  stays = λ x all left.
      let one = first.stays x (first_starts x.entries xs ys all) left in
      goes_both a b c (LosesNone x) one
      (next.stays x (other_starts x.entries xs ys all) (Goes-last a b (LosesNone x) one));
  unread = λ left.
      let one = first.unread left in goes_both a b c IsUnreadable one (next.unread (Goes-last a b IsUnreadable one));
}

-- ---- a log goes on

-- while it is left alone
pub later_same : {D : Type 0} (told : D → Option Told) (faults : D → ℕ) (starts : List (List Entry))
    (log : LogState D) → IsLater told faults starts log log
later_same told faults starts log = record {
  has = λ first all has. has;
  tells = refl;
  later = le_refl (faults log.disk);
  stays = λ first all has left. stays_at (told log.disk) (λ s. LosesNone first) left;
}

pub later_then : {D : Type 0} (told : D → Option Told) (faults : D → ℕ) (starts : List (List Entry))
    (a b c : LogState D) → IsLater told faults starts a b → IsLater told faults starts b c
    → IsLater told faults starts a c
later_then told faults starts a b c first next = record {
  has = λ x all has. next.has x all (first.has x all has);
  tells = first.tells ∙ next.tells;
  later = omega (arith, first.later, next.later);
  stays = λ x all has left.
      let one = first.stays x all has left in
      goes_both (told a.disk) (told b.disk) (told c.disk) (LosesNone x) one
      (next.stays x all (first.has x all has) (Goes-last (told a.disk) (told b.disk) (LosesNone x) one));
}

-- where it has kept all, it has kept what some starts have in common
pub later_by_all : {D : Type 0} (told : D → Option Told) (faults : D → ℕ) (starts : List (List Entry))
    (a b : LogState D) → IsLater told faults [] a b → IsLater told faults starts a b
later_by_all told faults starts a b is = record {
  has = λ x all has. is.has x (no_starts x.entries) has;
  tells = is.tells;
  later = is.later;
  stays = λ x all has left. is.stays x (no_starts x.entries) has left;
}

-- the disk of a log that was mounted, and went on since
pub on_since : {D : Type 0} (tells : D → Option Told) (faults : D → ℕ) (starts : List (List Entry))
    (told : Option Told) (count : ℕ) (old new : LogState D) → IsMounted tells faults told count old
    → IsLater tells faults starts old new → GoesOn starts told count (tells new.disk) (faults new.disk)
on_since {D} tells faults starts told count old new is later = record {
  tells = same;
  later = omega (arith, is.on.later, later.later);
  stays = λ c all left. kept c all told same is.found left (mounted.stays c all left);
  unread = λ left. unread told same is.found left;
}
  where
    mounted : GoesOn starts told count (tells old.disk) (faults old.disk)
    mounted = on_alike starts told (tells old.disk) count (faults old.disk) is.on

    same : is_some told ≡ is_some (tells new.disk)
    same = mounted.tells ∙ later.tells

    kept : (c : OnLog) → AllBeginWith c.entries starts → (o : Option Told) → is_some o ≡ is_some (tells new.disk)
        → IfSome o (ReadsAs old.content) → IsLeft o (LosesNone c)
        → Goes o (tells old.disk) (λ s. LosesNone c) → Goes o (tells new.disk) (λ s. LosesNone c)
    kept c all None alike found left mid = silent (tells new.disk) (LosesNone c) alike
    kept c all (Some t) alike found left mid =
        let none = left (content_of t) found.image in
        goes_both (Some t) (tells old.disk) (tells new.disk) (LosesNone c) mid (later.stays c all
        (subst (HasAllOf c) (content_once (content_of t) none.content old.content none.stands found.stands) none.has)
        (Goes-last (Some t) (tells old.disk) (LosesNone c) mid))

    unread : (o : Option Told) → is_some o ≡ is_some (tells new.disk)
        → IfSome o (ReadsAs old.content) → IsLeft o IsUnreadable → Goes o (tells new.disk) (λ s. IsUnreadable)
    unread None alike found left = silent (tells new.disk) IsUnreadable alike
    unread (Some t) alike found left = absurd (left (content_of t) found.image old.content found.stands)

-- ---- a disk is kept since it was mounted

pub kept_since : {D : Type 0} (tells : D → Option Told) (faults : D → ℕ) (starts : List (List Entry))
    (told : Option Told) (count : ℕ) (old new : LogState D) → IsMounted tells faults told count old
    → IsLater tells faults starts old new → IsKeptSince starts told (tells new.disk)
kept_since tells faults starts told count old new is later = record {
  content = old.content;
  found = is.found;
  mounted = tells old.disk;
  by = is.calls;
  since = λ first has all. later.stays first all has
      (left_less (tells old.disk) first old.content has (safe_kept tells old is.safe));
}

pub kept_on : (xs ys : List (List Entry)) (a b c : Option Told) (m n : ℕ) → IsKeptSince xs a b
    → GoesOn ys b m c n → IsKeptSince (xs ++ ys) a c
kept_on xs ys a b c m n kept on = record {
  content = kept.content;
  found = kept.found;
  mounted = kept.mounted;
  by = kept.by;
  since = λ first has all.
      let one = kept.since first has (first_starts first.entries xs ys all) in
      goes_both kept.mounted b c (LosesNone first) one
      (on.stays first (other_starts first.entries xs ys all) (Goes-last kept.mounted b (LosesNone first) one));
}
