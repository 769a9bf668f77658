-- How the reading of what bytes begin with ends.
use Rattle.std.proofs.Common.{◌≡◌, inr, sym, subst, ℕ, Bool, false, List, drop}
use Rattle.dr_entry.specs.declared.record.Record.{Record}
use Rattle.dr_log_bytes.specs.declared.block.Block.TheVariants as found
use Rattle.dr_log_bytes.specs.{Blocks.IsBlockAt, Content.{IsPlaced, OnLog}, Grammar.IsBroken, Parsed.IsParsed}
use Rattle.dr_log_bytes.proofs.Reading.{closed_read, misplaced_breaks, no_record}
use Rattle.dr_folder.specs.Surveys.{HasClosedLog, HasLog}

-- at a closed gate
pub closed_front : (bytes : List ℕ) (c : OnLog) (at : ℕ) → IsParsed bytes c at → IsBlockAt bytes at found.Closed
    → HasClosedLog bytes c at
closed_front bytes c at is block = record {
  log = record {
    newer = is.newer;
    records = is.records;
    log = closed_read bytes is.newer is.records at is.read block;
    content = is.content;
  };
  place = is.read.place;
}

-- where blocks break off
broken_front : (bytes : List ℕ) (c : OnLog) (at : ℕ) → IsParsed bytes c at → IsBroken c (drop at bytes)
    → HasLog bytes c at false
broken_front bytes c at is broken = inr (record {
  breaks = record {
    newer = is.newer;
    records = is.records;
    spelled = is.read.spelled;
    placed = is.read.placed;
    rest = drop at bytes;
    broken = subst (λ (d : OnLog). IsBroken d (drop at bytes)) (sym is.content) broken;
    parts = is.read.parts;
    place = is.read.place;
  };
  content = is.content;
})

-- the same of what is told of it
told_front : (bytes : List ℕ) (c told : OnLog) (at place : ℕ) (closed : Bool) → IsParsed bytes c at
    → IsBroken c (drop at bytes) → told ≡ c → place ≡ at → closed ≡ false → HasLog bytes told place closed
told_front bytes c told at place closed is broken all here shut = subst (λ (b : Bool). HasLog bytes told place b)
    (sym shut) (subst (λ (k : ℕ). HasLog bytes told k false)
    (sym here) (subst (λ (d : OnLog). HasLog bytes d at false) (sym all) (broken_front bytes c at is broken)))

-- so at what is no gate, and at a misplaced record
pub gateless_front : (bytes : List ℕ) (c told : OnLog) (at place : ℕ) (closed : Bool) → IsParsed bytes c at
    → IsBlockAt bytes at found.Broken → told ≡ c → place ≡ at → closed ≡ false → HasLog bytes told place closed
gateless_front bytes c told at place closed is block =
    told_front bytes c told at place closed is (no_record c (drop at bytes) block)

pub misplaced_front : (bytes : List ℕ) (c told : OnLog) (at place n : ℕ) (closed : Bool) (r : Record)
    → IsParsed bytes c at → IsBlockAt bytes at (found.Record r n) → ¬ IsPlaced c r → told ≡ c → place ≡ at
    → closed ≡ false → HasLog bytes told place closed
misplaced_front bytes c told at place n closed r is block misplaced =
    told_front bytes c told at place closed is (misplaced_breaks bytes c at n r block misplaced)
