-- What no crash loses at one moment of an append no crash loses later on.
use Rattle.std.specs.Prelude.{⊤}
use Rattle.std.proofs.Common.{◌≡◌, ℕ, ◌≤◌, Bool, List, [], ◌∷◌, length, inl, inr, refl, sym, subst, arith}
use Rattle.dr_entry.{specs.{declared.entry.Entry.Entry, declared.record.Record.Record}, proofs.ListFacts.IsWhole}
use Rattle.dr_disk.specs.{Calls.{Call, Write, State, at_rest, step}, Images.{IsImage, During, LastsDuring}}
use Rattle.dr_disk.proofs.{Images.unwritten_image, Moments.During-weaken}
use Rattle.dr_log.specs.Standing.{HasAllOf, LosesNone, as_records}
use Rattle.dr_log.proofs.{Growing.content-entries, Ordinary.entries_kept}
use Rattle.dr_log_bytes.specs.{Content.{OnLog, content_after, empty_of}, Grammar.{IsLog, StandFor}}
use Rattle.dr_log_bytes.proofs.{Grammars.HasNoneOrAll, Meaning.content_once, Reading.log_stands}

-- what was on the log is on it with the new records too
abbrev pub TakesNothing : OnLog → OnLog → List Record → Type 0
TakesNothing first c news = HasAllOf first c → HasAllOf first (content_after c news)

-- entries take nothing away
pub entries_keep : (first c : OnLog) (news : List Entry) → TakesNothing first c (as_records news)
entries_keep first c news has =
    subst (HasAllOf first) (sym (content-entries c news)) (entries_kept news first c has)

-- some image stands for this
pub record Witness (c : OnLog) (s : State) : Type 0 where
  pub image : List ℕ
  pub is : IsImage s image
  pub stands : StandFor image c

-- so it is at each moment of these calls but the last one
abbrev pub Witnessed : OnLog → State → List Call → Type 0
Witnessed c s [] = ⊤
Witnessed c s (call ∷ calls) = Witness c s × Witnessed c (step s call) calls

-- what one image has not lost none has that stands for the same, or for the new records besides, where these take
-- nothing away
kept_too : (c first : OnLog) (news : List Record) (witness bytes : List ℕ) → TakesNothing first c news
    → StandFor witness c → LosesNone first witness → HasNoneOrAll c news bytes → LosesNone first bytes
kept_too c first news witness bytes takes stands loses is = by is
  where
    has : HasAllOf first c
    has = subst (HasAllOf first) (content_once witness loses.content c loses.stands stands) loses.has

    by : HasNoneOrAll c news bytes → LosesNone first bytes
    by (inl before) = record { content = c; stands = before; has = has }
    by (inr after) = record { content = content_after c news; stands = after; has = takes has }

pub lasts_during : (c first : OnLog) (news : List Record) (s : State) (calls : List Call) → TakesNothing first c news
    → During s calls (HasNoneOrAll c news) → Witnessed c s calls → LastsDuring s calls (LosesNone first)
lasts_during c first news s [] takes each seen = tt
lasts_during c first news s (call ∷ calls) takes each seen = (
  λ all. During-weaken s (call ∷ calls) (HasNoneOrAll c news) (LosesNone first)
      (λ image. kept_too c first news seen.0.image image takes seen.0.stands (all seen.0.image seen.0.is)) each,
  lasts_during c first news (step s call) calls takes each.1 seen.1,
)

-- ---- such images

-- at rest
pub rest_witness : (bytes : List ℕ) (n : Bool) (rs : List Record) → IsLog bytes n rs → IsWhole n bytes
    → Witness (content_after (empty_of n) rs) (at_rest bytes)
rest_witness bytes n rs log whole = record {
  image = bytes;
  is = record { no_shorter = omega arith; no_longer = omega arith; stays = λ i l free. refl };
  stands = log_stands bytes n rs (content_after (empty_of n) rs) log whole refl;
}

-- while a write is not yet synced
pub unwritten_witness : (bytes : List ℕ) (n : Bool) (rs : List Record) (at : ℕ) (x : List ℕ)
    → IsLog bytes n rs → IsWhole n bytes → at ≤ length bytes
    → Witness (content_after (empty_of n) rs) (step (at_rest bytes) (Write at x))
unwritten_witness bytes n rs at x log whole inside = record {
  image = bytes;
  is = unwritten_image bytes at x inside;
  stands = log_stands bytes n rs (content_after (empty_of n) rs) log whole refl;
}
