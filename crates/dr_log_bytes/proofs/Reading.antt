-- How the reading of a log's bytes goes on from record to record, and how it ends.
use Rattle.std.proofs.Common.{◌≡◌, ◌≢◌, ⊎_elim, ℕ, ◌+◌, ◌-◌, ◌<◌, ◌≤◌, Bool, true, false, List, [], ◌∷◌, ◌++◌, length, get_or, take, drop, refl, sym, ap, ◌∙◌, subst, append_assoc, append-nil, arith, length-append, length-drop, length-take, ◌⊎◌, inl, inr, take_at}
use Rattle.std.proofs.lemmas.Bool.{cases_lt}
use Rattle.std.proofs.lemmas.List.{drop-drop, take-append-drop, drop_more, get_or_at, take-take, get_or-take}
use Rattle.dr_entry.specs.{Spelling.{Fits, IsValid, Spells, spelling}, declared.record.Record.Record}
use Rattle.dr_entry.proofs.{ListFacts.{gate_first, IsWhole}, RoundTrip.{decoded_again, one_spelled}}
use Rattle.dr_entry.specs.declared.record.Record.TheVariants as records
use Rattle.dr_log_bytes.specs.declared.block.Block.TheVariants as found
use Rattle.dr_log_bytes.specs.{Blocks.{HasNoRecord, IsBlockAt}, Parsed.{IsParsed, IsReadTo}}
use Rattle.dr_log_bytes.specs.Content.{ArePlaced, IsPlaced, OnLog, block_length, content_after, empty_of, with_record}
use Rattle.dr_log_bytes.specs.Grammar.{AreSpelled, BreaksAt, IsBroken, IsLog, IsLogOf, blocks, magic_of, StandFor}
use Rattle.dr_log_bytes.proofs.{Grammars.{parts_of, content-append}, Moments.{made_by, Stands, Behind}}

-- ---- one record more

pub blocks-added : (rs : List Record) (r : Record) (rest : List ℕ)
    → blocks (rs ++ r ∷ []) ++ rest ≡ blocks rs ++ (1 ∷ (spelling r ++ rest))
blocks-added [] r rest = ap (λ (l : List ℕ). 1 ∷ l) (ap (λ (l : List ℕ). l ++ rest) (append-nil (spelling r)))
blocks-added (s ∷ rs) r rest = ap (λ (l : List ℕ). 1 ∷ l)
    (append_assoc (spelling s) (blocks (rs ++ r ∷ [])) rest ∙ ap (λ (l : List ℕ). spelling s ++ l)
    (blocks-added rs r rest) ∙ sym (append_assoc (spelling s) (blocks rs) (1 ∷ (spelling r ++ rest))))

pub length-blocks-added : (rs : List Record) (r : Record) → length (blocks (rs ++ r ∷ [])) ≡ length
    (blocks rs) + block_length r
length-blocks-added rs r =
    let e = ap length (blocks-added rs r []) in
    omega (
      arith,
      e,
      length-append (blocks (rs ++ r ∷ [])) [],
      length-append (blocks rs) (1 ∷ (spelling r ++ [])),
      length-append (spelling r) [],
    )

pub spelled-added : (rs : List Record) (r : Record) → AreSpelled rs → IsValid r → Fits r → AreSpelled (rs ++ r ∷ [])
spelled-added [] r all valid fits = ((valid, fits), tt)
spelled-added (s ∷ rs) r all valid fits = (all.0, spelled-added rs r all.1 valid fits)

pub content-added : (c : OnLog) (rs : List Record) (r : Record)
    → content_after c (rs ++ r ∷ []) ≡ with_record r (content_after c rs)
content-added c [] r = refl
content-added c (s ∷ rs) r = content-added (with_record s c) rs r

-- the length is that of the blocks
pub length-after : (c : OnLog) (rs : List Record) → (content_after c rs).length ≡ c.length + length (blocks rs)
length-after c [] = omega arith
length-after c (r ∷ rs) = omega (arith, length-after (with_record r c) rs, length-append (spelling r) (blocks rs))

pub placed-added : (c : OnLog) (rs : List Record) (r : Record) → ArePlaced c rs
    → IsPlaced (content_after c rs) r → ArePlaced c (rs ++ r ∷ [])
placed-added c [] r all placed = (placed, tt)
placed-added c (s ∷ rs) r all placed = (all.0, placed-added (with_record s c) rs r all.1 placed)

-- ---- reading

pub length-magic : (newer : Bool) → length (magic_of newer) ≡ 8
length-magic true = refl
length-magic false = refl

-- a log begins with no records
pub begun_read : (bytes : List ℕ) (newer : Bool) → take 8 bytes ≡ magic_of newer → IsReadTo bytes newer [] 8
begun_read bytes newer is = record {
  spelled = tt;
  placed = tt;
  parts = sym (take-append-drop 8 bytes) ∙ ap (λ (l : List ℕ). l ++ drop 8 bytes) is;
  place = refl;
  inside = omega (arith, length-take 8 bytes, ap length is, length-magic newer);
}

-- an open gate with a record behind it that may stand there is one record more
pub next_read : (bytes : List ℕ) (c : OnLog) (at n : ℕ) (r : Record) (newer : Bool) (rs : List Record)
    → IsReadTo bytes newer rs at → content_after (empty_of newer) rs ≡ c → IsBlockAt bytes at (found.Record r n)
    → IsPlaced c r → IsReadTo bytes newer (rs ++ r ∷ []) (at + (1 + n))
next_read bytes c at n r newer rs is makes (inside, gate, spells) placed =
    let behind : drop (at + 1) bytes ≡ spelling r
    ++ drop (at + 1 + n) bytes = sym (take-append-drop n (drop (at + 1) bytes)) ∙ ap (λ (l : List ℕ). l ++ drop n
    (drop (at + 1) bytes)) spells.front ∙ ap (λ (l : List ℕ). spelling r ++ l) (drop-drop n (at + 1) bytes) in
    let move : at + 1 + n ≡ at + (1 + n) = omega arith in
    record {
      spelled = spelled-added rs r is.spelled spells.valid spells.fits;
      placed = placed-added (empty_of newer) rs r is.placed (subst (λ x. IsPlaced x r) (sym makes) placed);
      parts = is.parts ∙ ap (λ (l : List ℕ). magic_of newer ++ (blocks rs ++ l)) (gate_first bytes at 1 inside gate
          ∙ ap (λ (l : List ℕ). 1 ∷ l) (behind ∙ ap (λ (k : ℕ). spelling r ++ drop k bytes) move))
          ∙ ap (λ (l : List ℕ). magic_of newer ++ l) (sym (blocks-added rs r (drop (at + (1 + n)) bytes)));
      place = omega (arith, is.place, length-blocks-added rs r, spells.count);
      inside = omega (
        arith,
        ap length spells.front,
        length-take n (drop (at + 1) bytes),
        length-drop (at + 1) bytes,
        spells.count,
        inside,
      );
    }

pub next_parsed : (bytes : List ℕ) (c d : OnLog) (at n : ℕ) (r : Record)
    → IsParsed bytes c at → IsBlockAt bytes at (found.Record r n) → IsPlaced c r → d ≡ with_record r c
    → IsParsed bytes d (at + (1 + n))
next_parsed bytes c d at n r is block placed same = record {
  newer = is.newer;
  records = is.records ++ r ∷ [];
  read = next_read bytes c at n r is.newer is.records is.read is.content block placed;
  content = content-added (empty_of is.newer) is.records r ∙ ap (with_record r) is.content ∙ sym same;
}

-- a closed gate ends the log
pub closed_read : (bytes : List ℕ) (newer : Bool) (rs : List Record) (at : ℕ) → IsReadTo bytes newer rs at
    → IsBlockAt bytes at found.Closed → IsLog bytes newer rs
closed_read bytes newer rs at is (inside, closed) = record {
  spelled = is.spelled;
  placed = is.placed;
  gate = get_or bytes at 0;
  closed = closed;
  rest = drop (at + 1) bytes;
  parts = is.parts ∙ ap (λ (l : List ℕ). magic_of newer ++ (blocks rs ++ l))
      (gate_first bytes at (get_or bytes at 0) inside refl);
}

-- where the next record stands the log that is read so far would end
pub length_parsed : (bytes : List ℕ) (c : OnLog) (at : ℕ) → IsParsed bytes c at → c.length ≡ at + 1
length_parsed bytes c at is = omega (
  arith,
  ap (λ (d : OnLog). d.length) is.content,
  length-after (empty_of is.newer) is.records,
  is.read.place,
)

-- a record inside the bytes is no longer than they are
pub record_inside : (bytes : List ℕ) (at n : ℕ) (r : Record) → IsBlockAt bytes at (found.Record r n)
    → at + 1 + n ≤ length bytes
record_inside bytes at n r (inside, gate, spells) = omega (
  arith,
  ap length spells.front,
  length-take n (drop (at + 1) bytes),
  length-drop (at + 1) bytes,
  spells.count,
  inside,
)

-- where there is neither a record nor a closed gate the blocks break off
pub no_record : (c : OnLog) (bytes : List ℕ) → HasNoRecord bytes → IsBroken c bytes
no_record c [] none = tt
no_record c (gate ∷ rest) none = (none.0, λ r n spells placed. none.1 r n spells)

broken_by : (bytes : List ℕ) (c : OnLog) (at : ℕ) → IsParsed bytes c at → IsBroken c (drop at bytes)
    → BreaksAt bytes at
broken_by bytes c at is broken = record {
  newer = is.newer;
  records = is.records;
  spelled = is.read.spelled;
  placed = is.read.placed;
  rest = drop at bytes;
  broken = subst (λ x. IsBroken x (drop at bytes)) (sym is.content) broken;
  parts = is.read.parts;
  place = is.read.place;
}

-- so they do before a misplaced record
pub misplaced_breaks : (bytes : List ℕ) (c : OnLog) (at n : ℕ) (r : Record)
    → IsBlockAt bytes at (found.Record r n) → ¬ IsPlaced c r → IsBroken c (drop at bytes)
misplaced_breaks bytes c at n r (inside, gate, spells) misplaced =
    subst (IsBroken c) (sym (gate_first bytes at 1 inside gate)) (
      refl,
      λ s m other placed. misplaced (subst (IsPlaced c)
          (one_spelled (drop (at + 1) bytes) s r m n other spells) placed),
    )

pub misplaced_read : (bytes : List ℕ) (c : OnLog) (at n : ℕ) (r : Record) → IsParsed bytes c at
    → IsBlockAt bytes at (found.Record r n) → ¬ IsPlaced c r → BreaksAt bytes at
misplaced_read bytes c at n r is block misplaced =
    broken_by bytes c at is (misplaced_breaks bytes c at n r block misplaced)

-- where a gate is open and no record stands behind it, there is neither
pub broken_behind : (bytes : List ℕ) (at : ℕ) → at < length bytes → get_or bytes at 0 ≡ 1
    → ((r : Record) (n : ℕ) → Spells (drop (at + 1) bytes) r n → ⊥) → HasNoRecord (drop at bytes)
broken_behind bytes at inside gate none = subst HasNoRecord (sym (gate_first bytes at 1 inside gate)) (refl, none)

short_log : (n : Bool) (rs : List Record) (bytes : List ℕ) → IsLog bytes n rs → length bytes ≤ 9 → rs ≡ []
short_log n [] bytes is short = refl
short_log n (r ∷ rs) bytes is short = absurd (omega (
  arith,
  short,
  ap length is.parts,
  length-append (magic_of n) (blocks (r ∷ rs) ++ (is.gate ∷ is.rest)),
  length-magic n,
  length-append (spelling r) (blocks rs),
  length-append (spelling r ++ blocks rs) (is.gate ∷ is.rest),
))

-- one with a record is no short one
pub long_log : (n : Bool) (rs : List Record) (bytes : List ℕ) → IsLog bytes n rs → 0 < length rs → IsWhole n bytes
long_log n rs bytes is some older = by (cases_lt 9 (length bytes))
  where
    by : (9 < length bytes) ⊎ (length bytes ≤ 9) → 9 < length bytes
    by (inl l) = l
    by (inr l) = absurd (omega (arith, ap length (short_log n rs bytes is l), some))

pub log_stands : (bytes : List ℕ) (n : Bool) (rs : List Record) (c : OnLog) → IsLog bytes n rs
    → IsWhole n bytes → content_after (empty_of n) rs ≡ c → StandFor bytes c
log_stands bytes n rs c is whole same = by (cases_lt 9 (length bytes))
  where
    newer : (b : Bool) → n ≡ b → length bytes ≤ 9 → n ≡ true
    newer true e l = e
    newer false e l = absurd (omega (arith, whole e, l))

    by : (9 < length bytes) ⊎ (length bytes ≤ 9) → StandFor bytes c
    by (inl l) = inr (l, record { newer = n; records = rs; log = is; content = same })
    by (inr l) = inl (
      l,
      sym same ∙ ap (content_after (empty_of n)) (short_log n rs bytes is l) ∙ ap empty_of (newer n refl l),
    )

front_length : (f : Bool) (rs : List Record) (q : ℕ) → q ≡ 8 + length (blocks rs)
    → length (magic_of f ++ blocks rs) ≡ q
front_length f rs q gate = omega (arith, gate, length-append (magic_of f) (blocks rs), length-magic f)

-- what stands before the closed gate of a log, which is at q
pub front_is : (bytes : List ℕ) (f : Bool) (rs : List Record) (q : ℕ) → IsLog bytes f rs
    → q ≡ 8 + length (blocks rs) → take q bytes ≡ magic_of f ++ blocks rs
front_is bytes f rs q log gate = ap (take q) (parts_of bytes f rs log) ∙ take_at (magic_of f ++ blocks rs)
    (log.gate ∷ log.rest) q (front_length f rs q gate)

-- the gate itself
gate_is : (bytes : List ℕ) (f : Bool) (rs : List Record) (q : ℕ) → IsLog bytes f rs
    → q ≡ 8 + length (blocks rs) → get_or bytes q 0 ≢ 1
gate_is bytes f rs q log gate e = log.closed (sym (ap (λ (l : List ℕ). get_or l q 0) (parts_of bytes f rs log)
    ∙ get_or_at (magic_of f ++ blocks rs) log.gate log.rest 0 q (front_length f rs q gate)) ∙ e)

-- the gate is inside
pub gate_inside : (bytes : List ℕ) (f : Bool) (rs : List Record) (q : ℕ) → IsLog bytes f rs
    → q ≡ 8 + length (blocks rs) → q < length bytes
gate_inside bytes f rs q log gate = omega (
  arith,
  front_length f rs q gate,
  ap length (parts_of bytes f rs log),
  length-append (magic_of f ++ blocks rs) (log.gate ∷ log.rest),
)

-- bytes that are the same up to the gate, with it, are a log of the same records
pub same_front : (old bytes : List ℕ) (f : Bool) (rs : List Record) (q : ℕ) → IsLog old f rs
    → q ≡ 8 + length (blocks rs) → q < length bytes → take (q + 1) bytes ≡ take (q + 1) old → IsLog bytes f rs
same_front old bytes f rs q log gate inside same = record {
  spelled = log.spelled;
  placed = log.placed;
  gate = get_or bytes q 0;
  closed = λ e. gate_is old f rs q log gate (sym (get_or-take (q + 1) old q 0 (omega arith))
      ∙ sym (ap (λ (l : List ℕ). get_or l q 0) same) ∙ get_or-take (q + 1) bytes q 0 (omega arith) ∙ e);
  rest = drop (q + 1) bytes;
  parts = sym (take-append-drop q bytes) ∙ ap (λ (l : List ℕ). l ++ drop q bytes)
      (sym (take-take q (q + 1) bytes (omega arith)) ∙ ap (take q) same ∙ take-take q (q + 1) old (omega arith)
      ∙ front_is old f rs q log gate) ∙ ap (λ (l : List ℕ). (magic_of f ++ blocks rs) ++ l)
      (drop_more bytes q 0 inside) ∙ append_assoc (magic_of f) (blocks rs) (get_or bytes q 0 ∷ drop (q + 1) bytes);
}

pub before_stands : (bytes : List ℕ) (f : Bool) (rs news : List Record) → IsLog bytes f rs → IsWhole f bytes
    → Stands f rs news bytes
before_stands bytes f rs news log whole = inl (log_stands bytes f rs (made_by f rs) log whole refl)

pub after_stands : (bytes : List ℕ) (f : Bool) (rs news : List Record) → 0 < length news
    → IsLog bytes f (rs ++ news) → Stands f rs news bytes
after_stands bytes f rs news some log = inr (log_stands bytes f (rs ++ news) (content_after (made_by f rs) news) log
    (long_log f (rs ++ news) bytes log (omega (arith, length-append rs news, some)))
    (content-append (empty_of f) rs news))

pub begins : (old : List ℕ) (f : Bool) (rs : List Record) (q p : ℕ) (news : List Record) → Behind old f rs q p news
    → p ≤ length old
begins old f rs q p news b = omega (arith, gate_inside old f rs q b.log b.gate, b.place)
