-- The grammar of a log's bytes, where bytes are appended, and in ordinary logs.
use Rattle.std.specs.Prelude.{if◌then◌else◌, All, Option, None, Some, is_some}
use Rattle.std.proofs.Common.{◌≡◌, ℕ, ◌+◌, ◌-◌, List, [], ◌∷◌, ◌++◌, refl, sym, ap, ◌∙◌, append_assoc, ◌⊎◌, Bool, ◌≤◌, length, inl, inr, arith, true, false, subst}
use Rattle.std.proofs.lemmas.List.Elements.{All-append, All-cons, All-nil}
use Rattle.dr_entry.specs.{Spelling.{spelling, IsValid, IsValidVote}, declared.record.Record.Record}
use Rattle.dr_entry.proofs.Records.{IsOrdinary}
use Rattle.dr_entry.specs.declared.record.Record.TheVariants as records
use Rattle.dr_log_bytes.specs.Content.{OnLog, content_after, with_record, ArePlaced, IsPlaced, empty_of}
use Rattle.dr_log_bytes.specs.Grammar.{blocks, AreSpelled, StandFor, IsLog, magic_of, newer_magic}

pub blocks-append : (rs ss : List Record) → blocks (rs ++ ss) ≡ blocks rs ++ blocks ss
blocks-append [] ss = refl
blocks-append (r ∷ rs) ss = ap (λ (l : List ℕ). 1 ∷ l) (ap (λ (l : List ℕ). spelling r ++ l) (blocks-append rs ss)
    ∙ sym (append_assoc (spelling r) (blocks rs) (blocks ss)))

pub spelled-append : (rs ss : List Record) → AreSpelled rs → AreSpelled ss → AreSpelled (rs ++ ss)
spelled-append [] ss all more = more
spelled-append (r ∷ rs) ss all more = (all.0, spelled-append rs ss all.1 more)

pub content-append : (c : OnLog) (rs ss : List Record)
    → content_after c (rs ++ ss) ≡ content_after (content_after c rs) ss
content-append c [] ss = refl
content-append c (r ∷ rs) ss = content-append (with_record r c) rs ss

pub placed-append : (c : OnLog) (rs ss : List Record) → ArePlaced c rs → ArePlaced (content_after c rs) ss
    → ArePlaced c (rs ++ ss)
placed-append c [] ss all more = more
placed-append c (r ∷ rs) ss all more = (all.0, placed-append (with_record r c) rs ss all.1 more)

-- bytes stand for what was on the log, or for that with all of the new records
abbrev pub HasNoneOrAll : OnLog → List Record → List ℕ → Type 0
HasNoneOrAll c news bytes = StandFor bytes c ⊎ StandFor bytes (content_after c news)

pub parts_of : (bytes : List ℕ) (f : Bool) (rs : List Record) → (log : IsLog bytes f rs)
    → bytes ≡ (magic_of f ++ blocks rs) ++ (log.gate ∷ log.rest)
parts_of bytes f rs log = log.parts ∙ sym (append_assoc (magic_of f) (blocks rs) (log.gate ∷ log.rest))

-- bytes that are short stand for a new log
pub short_alike : (first second : List ℕ) → length first ≤ 9 → length second ≤ 9 → (c : OnLog)
    → StandFor first c → StandFor second c
short_alike first second a b c (inl here) = inl (b, here.1)
short_alike first second a b c (inr here) = absurd (omega (arith, a, here.0))

pub empty_log : IsLog (newer_magic ++ (0 ∷ [])) true []
empty_log = record {
  spelled = tt;
  placed = tt;
  gate = 0;
  closed = λ e. absurd (omega (arith, e));
  rest = [];
  parts = refl;
}

pub ordinary_placed : (r : Record) (c : OnLog) → IsOrdinary r → IsPlaced c r
ordinary_placed (records.Entry entry) c is = tt
ordinary_placed (records.Vote vote) c is = tt
ordinary_placed (records.AgeVote vote) c is = absurd is
ordinary_placed (records.Cut keep) c is = absurd is
ordinary_placed records.Upgrade c is = absurd is

pub ordinary_age_votes : (r : Record) (c : OnLog) → IsOrdinary r → (with_record r c).age_votes ≡ c.age_votes
ordinary_age_votes (records.Entry entry) c is = refl
ordinary_age_votes (records.Vote vote) c is = refl
ordinary_age_votes (records.AgeVote vote) c is = absurd is
ordinary_age_votes (records.Cut keep) c is = absurd is
ordinary_age_votes records.Upgrade c is = absurd is

pub ordinary_newer : (r : Record) (c : OnLog) → IsOrdinary r → (with_record r c).newer ≡ c.newer
ordinary_newer (records.Entry entry) c is = refl
ordinary_newer (records.Vote vote) c is = refl
ordinary_newer (records.AgeVote vote) c is = absurd is
ordinary_newer (records.Cut keep) c is = absurd is
ordinary_newer records.Upgrade c is = absurd is

-- and the log is one of the newer format
pub newer_either : (c : OnLog) (b : Bool) → c.newer ≡ b
    → (if b then c else with_record records.Upgrade c).newer ≡ true
newer_either c true same = same
newer_either c false same = refl

pub stands_empty : (image : List ℕ) → image ≡ [] → StandFor image (empty_of true)
stands_empty image is = inl (omega (arith, ap length is), refl)

-- records that are valid bring valid votes
made_valid : (rs : List Record) (c : OnLog) → AreSpelled rs → All IsValidVote c.votes
    → All IsValidVote (content_after c rs).votes
made_valid [] c are so_far = so_far
made_valid (r ∷ rs) c are so_far = made_valid rs (with_record r c) are.1 (more r are.0.0)
  where
    more : (r : Record) → IsValid r → All IsValidVote (with_record r c).votes
    more (records.Entry entry) valid = so_far
    more (records.Vote vote) valid =
        All-append IsValidVote c.votes (vote ∷ []) so_far (All-cons IsValidVote vote [] valid (All-nil IsValidVote))
    more (records.AgeVote vote) valid = so_far
    more (records.Cut keep) valid = so_far
    more records.Upgrade valid = so_far

pub stands_valid : (bytes : List ℕ) (c : OnLog) → StandFor bytes c → All IsValidVote c.votes
stands_valid bytes c (inl few) = subst (λ (d : OnLog). All IsValidVote d.votes) (sym few.1) (All-nil IsValidVote)
stands_valid bytes c (inr more) = subst (λ (d : OnLog). All IsValidVote d.votes) more.1.content
    (made_valid more.1.records (empty_of more.1.newer) more.1.log.spelled (All-nil IsValidVote))

pub some_there : (o : Option OnLog) → is_some o ≡ true → (c : OnLog) × (o ≡ Some c)
some_there None e = absurd (cc)
some_there (Some c) e = (c, refl)
