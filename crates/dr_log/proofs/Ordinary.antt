-- Entries and votes may stand behind any records, take nothing away, and take a spare of their kind.
use Rattle.std.specs.Prelude.{Option}
use Rattle.std.proofs.Common.{◌≡◌, ℕ, List, [], ◌∷◌, ◌++◌, inl, inr, refl, ap, ◌∙◌, append_assoc, append-nil, sym}
use Rattle.dr_entry.specs.{declared.entry.Entry.Entry, declared.record.{AgeVote.AgeVote, Record.Record, Vote.Vote}}
use Rattle.dr_entry.proofs.Records.{IsOrdinary}
use Rattle.dr_entry.specs.declared.record.Record.TheVariants as records
use Rattle.dr_disk.{specs.{Disk.Told, Images.{Goes, IsLeft}}, proofs.{Images.left_so, Moments.goes_on}}
use Rattle.dr_log.specs.{Standing.{HasAllOf, IsBeforeOrAfter, IsNoneOrAll, LosesNone, with_entries}, State.{as_other, LogState}}
use Rattle.dr_log_bytes.specs.{Content.{OnLog, with_record}, Grammar.StandFor}

pub ordinary_spare : (r : Record) → IsOrdinary r → as_other r ≡ 0
ordinary_spare (records.Entry entry) is = refl
ordinary_spare (records.Vote vote) is = refl
ordinary_spare (records.AgeVote vote) is = absurd is
ordinary_spare (records.Cut keep) is = absurd is
ordinary_spare records.Upgrade is = absurd is

-- what is on a log has all of itself
pub has_itself : (c : OnLog) → HasAllOf c c
has_itself c = record {
  more_entries = [];
  more_votes = [];
  more_age_votes = [];
  entries = sym (append-nil c.entries);
  votes = sym (append-nil c.votes);
  age_votes = sym (append-nil c.age_votes);
}

-- and of whatever that has all of
pub has_through : (a b c : OnLog) → HasAllOf a b → HasAllOf b c → HasAllOf a c
has_through a b c first next = record {
  more_entries = first.more_entries ++ next.more_entries;
  more_votes = first.more_votes ++ next.more_votes;
  more_age_votes = first.more_age_votes ++ next.more_age_votes;
  entries = next.entries ∙ ap (λ (l : List Entry). l ++ next.more_entries) first.entries
      ∙ append_assoc a.entries first.more_entries next.more_entries;
  votes = next.votes ∙ ap (λ (l : List Vote). l ++ next.more_votes) first.votes
      ∙ append_assoc a.votes first.more_votes next.more_votes;
  age_votes = next.age_votes ∙ ap (λ (l : List AgeVote). l ++ next.more_age_votes) first.age_votes
      ∙ append_assoc a.age_votes first.more_age_votes next.more_age_votes;
}

-- a log with a record more has all that it had
pub ordinary_has : (r : Record) (c : OnLog) → IsOrdinary r → HasAllOf c (with_record r c)
ordinary_has (records.Entry entry) c is = record {
  more_entries = entry ∷ [];
  more_votes = [];
  more_age_votes = [];
  entries = refl;
  votes = sym (append-nil c.votes);
  age_votes = sym (append-nil c.age_votes);
}
ordinary_has (records.Vote vote) c is = record {
  more_entries = [];
  more_votes = vote ∷ [];
  more_age_votes = [];
  entries = sym (append-nil c.entries);
  votes = refl;
  age_votes = sym (append-nil c.age_votes);
}
ordinary_has (records.AgeVote vote) c is = absurd is
ordinary_has (records.Cut keep) c is = absurd is
ordinary_has records.Upgrade c is = absurd is

pub ordinary_keeps : (r : Record) (first c : OnLog) → IsOrdinary r → HasAllOf first c
    → HasAllOf first (with_record r c)
ordinary_keeps r first c is has = has_through first c (with_record r c) has (ordinary_has r c is)

-- bytes that stand for a log which has all of this have lost none of it
pub none_lost : (first c : OnLog) (bytes : List ℕ) → HasAllOf first c → StandFor bytes c → LosesNone first bytes
none_lost first c bytes has is = record { content = c; stands = is; has = has }

pub none_lost_by : (first c : OnLog) (r : Record) (bytes : List ℕ) → IsOrdinary r → HasAllOf first c
    → IsBeforeOrAfter c r bytes → LosesNone first bytes
none_lost_by first c r bytes ordinary has (inl is) = none_lost first c bytes has is
none_lost_by first c r bytes ordinary has (inr is) =
    none_lost first (with_record r c) bytes (ordinary_keeps r first c ordinary has) is

-- what has lost none of this has lost none of what this has all of
pub less_lost : (a b : OnLog) (bytes : List ℕ) → HasAllOf a b → LosesNone b bytes → LosesNone a bytes
less_lost a b bytes has loses =
    none_lost a loses.content bytes (has_through a b loses.content has loses.has) loses.stands

pub moments_on : {D : Type 0} (told : D → Option Told) (base log new : LogState D) (r : Record) → IsOrdinary r
    → HasAllOf base.content log.content → Goes (told base.disk) (told log.disk) (λ calls. LosesNone base.content)
    → Goes (told log.disk) (told new.disk) (λ calls. IsBeforeOrAfter log.content r)
    → Goes (told base.disk) (told new.disk) (λ calls. LosesNone base.content)
moments_on told base log new r ordinary has first next =
    goes_on (told base.disk) (told log.disk) (told new.disk) (λ calls. LosesNone base.content)
    (λ calls. IsBeforeOrAfter log.content r) (λ calls. LosesNone base.content) (λ calls image at is. is)
    (λ calls more image at there is. none_lost_by base.content log.content r image ordinary has is) first next

-- so it is with all entries of an append
pub entries_kept : (news : List Entry) (first c : OnLog) → HasAllOf first c → HasAllOf first (with_entries news c)
entries_kept news first c has = record {
  more_entries = has.more_entries ++ news;
  more_votes = has.more_votes;
  more_age_votes = has.more_age_votes;
  entries = ap (λ (l : List Entry). l ++ news) has.entries ∙ append_assoc first.entries has.more_entries news;
  votes = has.votes;
  age_votes = has.age_votes;
}

pub none_lost_all : (first c : OnLog) (news : List Entry) (bytes : List ℕ) → HasAllOf first c
    → IsNoneOrAll c news bytes → LosesNone first bytes
none_lost_all first c news bytes has (inl is) = none_lost first c bytes has is
none_lost_all first c news bytes has (inr is) =
    none_lost first (with_entries news c) bytes (entries_kept news first c has) is

pub moments_all : {D : Type 0} (told : D → Option Told) (base log new : LogState D) (news : List Entry)
    → HasAllOf base.content log.content → Goes (told base.disk) (told log.disk) (λ calls. LosesNone base.content)
    → Goes (told log.disk) (told new.disk) (λ calls. IsNoneOrAll log.content news)
    → Goes (told base.disk) (told new.disk) (λ calls. LosesNone base.content)
moments_all told base log new news has first next =
    goes_on (told base.disk) (told log.disk) (told new.disk) (λ calls. LosesNone base.content)
    (λ calls. IsNoneOrAll log.content news) (λ calls. LosesNone base.content) (λ calls image at is. is)
    (λ calls more image at there is. none_lost_all base.content log.content news image has is) first next

-- what has lost none of this has lost none of what this has
pub left_less : (o : Option Told) (first c : OnLog) → HasAllOf first c → IsLeft o (LosesNone c)
    → IsLeft o (LosesNone first)
left_less o first c has left =
    left_so o (LosesNone c) (LosesNone first) (λ image is. less_lost first c image has is) left
