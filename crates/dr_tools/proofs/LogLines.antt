-- How the printing of a log's records goes on, and how it ends.
use Rattle.std.{specs.Fmt.decimal, proofs.lemmas.List.length-take-le}
use Rattle.std.proofs.Common.{◌≡◌, inr, Result, Ok, Err, IfOk, string_bytes, refl, sym, ap, subst, ◌∙◌, ℕ, ◌+◌, ◌-◌, ◌<◌, ◌≤◌, Bool, List, [], ◌∷◌, ◌++◌, length, take, drop, append_assoc, append-nil, arith, length-append}
use Rattle.dr_entry.specs.{Spelling.spelling, declared.record.Record.Record}
use Rattle.dr_entry.specs.declared.record.Record.TheVariants as records
use Rattle.dr_log_bytes.specs.declared.block.Block.TheVariants as found
use Rattle.dr_log_bytes.specs.{Blocks.IsBlockAt, Grammar.{BreaksAt, IsBroken, blocks, magic_of}, Parsed.IsReadTo}
use Rattle.dr_log_bytes.specs.Content.{IsPlaced, MayFollow, OnLog, block_length, content_after, empty_of, with_record}
use Rattle.dr_log_bytes.proofs.Reading.{begun_read, closed_read, content-added, misplaced_breaks, next_read, no_record}
use Rattle.dr_intake.specs.declared.answer.Answer.{Answer}
use Rattle.dr_tools.specs.LogText.{IsSaid, IsTold, broken, whole, closed_line, damaged_line, most_bytes, format_behind, number_behind, record_line, record_text, records_text}

-- how many entries stand before what is behind records
abbrev pub number_after : ℕ → List Record → ℕ
number_after number [] = number
number_after number (r ∷ rs) = number_after (number_behind number r) rs

after-added : (number : ℕ) (rs : List Record) (r : Record)
    → number_after number (rs ++ r ∷ []) ≡ number_behind (number_after number rs) r
after-added number [] r = refl
after-added number (s ∷ rs) r = after-added (number_behind number s) rs r

-- a record that may stand there leaves one entry more at most
one-at-most : (newer : Bool) (number : ℕ) (r : Record) → MayFollow newer number r
    → number_behind number r ≤ number + 1
one-at-most newer number (records.Entry entry) may = omega arith
one-at-most newer number (records.Vote vote) may = omega arith
one-at-most newer number (records.AgeVote vote) may = omega arith
one-at-most newer number (records.Cut keep) may = omega (arith, may.1)
one-at-most newer number records.Upgrade may = omega arith

-- how many entries records make, and of which format, by each of them
entries-behind : (c : OnLog) (r : Record) → IsPlaced c r
    → length (with_record r c).entries ≡ number_behind (length c.entries) r
entries-behind c (records.Entry entry) may = length-append c.entries (entry ∷ [])
entries-behind c (records.Vote vote) may = refl
entries-behind c (records.AgeVote vote) may = refl
entries-behind c (records.Cut keep) may = length-take-le keep c.entries may.1
entries-behind c records.Upgrade may = refl

newer-behind : (c : OnLog) (r : Record) → (with_record r c).newer ≡ format_behind c.newer r
newer-behind c (records.Entry entry) = refl
newer-behind c (records.Vote vote) = refl
newer-behind c (records.AgeVote vote) = refl
newer-behind c (records.Cut keep) = refl
newer-behind c records.Upgrade = refl

-- the lines of these records are printed, and their blocks end at this place, behind this many entries, in this format
pub record IsPrinted (bytes text : List ℕ) (at number : ℕ) (newer : Bool) : Type 0 where
  pub format : Bool
  pub records : List Record
  pub read : IsReadTo bytes format records at
  pub made : OnLog
  pub makes : content_after (empty_of format) records ≡ made
  pub many : length made.entries ≡ number
  pub now : made.newer ≡ newer
  pub numbered : number ≡ number_after 0 records
  pub few : number ≤ at
  pub printed : text ≡ records_text 9 0 records

-- the line of one record more
line-added : (n k : ℕ) (rs : List Record) (r : Record) → records_text n k (rs ++ r ∷ [])
    ≡ records_text n k rs ++ record_line (n + length (blocks rs)) (number_after k rs) r
line-added n k [] r =
    let none : n ≡ n + 0 = omega arith in append-nil (record_line n k r) ∙ ap (λ (i : ℕ). record_line i k r) none
line-added n k (s ∷ rs) r =
    let first = record_line n k s in
    let behind = n + block_length s in
    let next = number_behind k s in
    let same : behind + length (blocks rs) ≡ n + length (blocks (s ∷ rs)) =
    omega (arith, length-append (spelling s) (blocks rs)) in
    ap (λ (l : List ℕ). first ++ l) (line-added behind next rs r) ∙ sym (append_assoc first
    (records_text behind next rs) (record_line (behind + length (blocks rs)) (number_after next rs) r))
    ∙ ap (λ (i : ℕ). (first ++ records_text behind next rs) ++ record_line i (number_after next rs) r) same

-- a log begins with nothing printed
pub begun_printed : (bytes text : List ℕ) (newer : Bool) → take 8 bytes ≡ magic_of newer → text ≡ []
    → IsPrinted bytes text 8 0 newer
begun_printed bytes text newer is none = record {
  format = newer;
  records = [];
  read = begun_read bytes newer is;
  made = empty_of newer;
  makes = refl;
  many = refl;
  now = refl;
  numbered = refl;
  few = omega arith;
  printed = none;
}

-- a record more is a line more
pub next_printed : (bytes text text' : List ℕ) (at n number number' : ℕ) (newer newer' : Bool) (r : Record)
    → IsPrinted bytes text at number newer → IsBlockAt bytes at (found.Record r n) → MayFollow newer number r
    → text' ≡ text ++ (decimal (at + 1) ++ record_text number r) → number' ≡ number_behind number r
    → newer' ≡ format_behind newer r → IsPrinted bytes text' (at + (1 + n)) number' newer'
next_printed bytes text text' at n number number' newer newer' r is block may line next format =
    let place : at + 1 ≡ 9 + length (blocks is.records) = omega (arith, is.read.place) in
    let here : MayFollow is.made.newer (length is.made.entries) r = subst (λ (k : ℕ). MayFollow is.made.newer k r)
    (sym is.many) (subst (λ (b : Bool). MayFollow b number r) (sym is.now) may) in
    record {
      format = is.format;
      records = is.records ++ r ∷ [];
      read = next_read bytes is.made at n r is.format is.records is.read is.makes block here;
      made = with_record r is.made;
      makes = content-added (empty_of is.format) is.records r ∙ ap (with_record r) is.makes;
      many = entries-behind is.made r here ∙ ap (λ (k : ℕ). number_behind k r) is.many ∙ sym next;
      now = newer-behind is.made r ∙ ap (λ (b : Bool). format_behind b r) is.now ∙ sym format;
      numbered = next ∙ ap (λ (k : ℕ). number_behind k r) is.numbered ∙ sym (after-added 0 is.records r);
      few = omega (arith, next, one-at-most newer number r may, is.few);
      printed = line ∙ ap (λ (l : List ℕ). l ++ record_line (at + 1) number r) is.printed
          ∙ ap (λ (k : ℕ). records_text 9 0 is.records ++ record_line k number r) place
          ∙ ap (λ (k : ℕ). records_text 9 0 is.records ++ record_line (9 + length (blocks is.records)) k r)
          is.numbered ∙ sym (line-added 9 0 is.records r);
    }

-- a closed gate is told behind the lines of all records
closed_told : (bytes text text' : List ℕ) (at number status : ℕ) (newer : Bool) → 9 < length bytes
    → IsPrinted bytes text at number newer → IsBlockAt bytes at found.Closed
    → text' ≡ text ++ closed_line at (length bytes - (at + 1)) → status ≡ 0 → IsTold bytes text' status
closed_told bytes text text' at number status newer long is block line due =
    let rs = is.records in
    let same : at + 1 ≡ 9 + length (blocks rs) = omega (arith, is.read.place) in
    whole long is.format rs (closed_read bytes is.format rs at is.read block)
    (line ∙ ap (λ (l : List ℕ). l ++ closed_line at (length bytes - (at + 1))) is.printed
    ∙ ap (λ (k : ℕ). records_text 9 0 rs ++ closed_line at (length bytes - k)) same
    ∙ ap (λ (k : ℕ). records_text 9 0 rs ++ closed_line k (length bytes - (9 + length (blocks rs))))
    is.read.place) due

-- and the place at which the records break off behind those before it
broken_told : (bytes text text' : List ℕ) (at number status : ℕ) (newer : Bool) → 9 < length bytes
    → IsPrinted bytes text at number newer → ((c : OnLog) → c.newer ≡ newer → length c.entries ≡ number
    → IsBroken c (drop at bytes)) → text' ≡ text ++ damaged_line at → status ≡ 7 → IsTold bytes text' status
broken_told bytes text text' at number status newer long is none line due =
    let front : BreaksAt bytes at = record {
      newer = is.format;
      records = is.records;
      spelled = is.read.spelled;
      placed = is.read.placed;
      rest = drop at bytes;
      broken = subst (λ (c : OnLog). IsBroken c (drop at bytes)) (sym is.makes) (none is.made is.now is.many);
      parts = is.read.parts;
      place = is.read.place;
    } in
    broken long at front (line ∙ ap (λ (l : List ℕ). l ++ damaged_line at) is.printed) due

-- the same, where the text of the end could be made
pub closed_if : {E : Type 0} (r : Result Answer E) (bytes text : List ℕ) (at number : ℕ) (newer : Bool) → 9 < length bytes
    → IsPrinted bytes text at number newer → IsBlockAt bytes at found.Closed
    → IfOk r (λ log. string_bytes log.text ≡ text ++ closed_line at (length bytes - (at + 1)))
    → IfOk r (λ log. log.status ≡ 0) → IfOk r (λ log. IsTold bytes (string_bytes log.text) log.status)
closed_if (Ok log) bytes text at number newer long is block line due =
    closed_told bytes text (string_bytes log.text) at number log.status newer long is block line due
closed_if (Err e) bytes text at number newer long is block line due = tt

pub broken_if : {E : Type 0} (r : Result Answer E) (bytes text : List ℕ) (at number : ℕ) (newer : Bool)
    → 9 < length bytes → IsPrinted bytes text at number newer → IsBlockAt bytes at found.Broken
    → IfOk r (λ log. string_bytes log.text ≡ text ++ damaged_line at)
    → IfOk r (λ log. log.status ≡ 7) → IfOk r (λ log. IsTold bytes (string_bytes log.text) log.status)
broken_if (Ok log) bytes text at number newer long is block line due =
    broken_told bytes text (string_bytes log.text) at number log.status newer long is
    (λ c format many. no_record c (drop at bytes) block) line due
broken_if (Err e) bytes text at number newer long is block line due = tt

-- so where a record is misplaced
pub misplaced_if : {E : Type 0} (r : Result Answer E) (bytes text : List ℕ) (at n number : ℕ) (newer : Bool)
    (found_there : Record) → 9 < length bytes → IsPrinted bytes text at number newer
    → IsBlockAt bytes at (found.Record found_there n) → ¬ MayFollow newer number found_there
    → IfOk r (λ log. string_bytes log.text ≡ text ++ damaged_line at)
    → IfOk r (λ log. log.status ≡ 7) → IfOk r (λ log. IsTold bytes (string_bytes log.text) log.status)
misplaced_if (Ok log) bytes text at n number newer found_there long is block misplaced line due =
    broken_told bytes text (string_bytes log.text) at number log.status newer long is
    (λ c format many. misplaced_breaks bytes c at n found_there block (λ placed. misplaced
    (subst (λ (k : ℕ). MayFollow newer k found_there) many
    (subst (λ (b : Bool). MayFollow b (length c.entries) found_there) format placed)))) line due
misplaced_if (Err e) bytes text at n number newer found_there long is block misplaced line due = tt

-- what is told of bytes that are not too many is said of them
pub few_enough : {E : Type 0} (r : Result Answer E) (bytes : List ℕ) → length bytes ≤ most_bytes
    → IfOk r (λ a. IsTold bytes (string_bytes a.text) a.status)
    → IfOk r (λ a. IsSaid bytes (string_bytes a.text) a.status)
few_enough (Ok a) bytes few told = inr (few, told)
few_enough (Err e) bytes few told = tt
