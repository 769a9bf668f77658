-- Bytes stand for one thing, or are damaged at one place.
use Rattle.std.proofs.Common.{◌≡◌, ◌≢◌, ℕ, ◌+◌, Bool, true, false, get_or, subst, List, [], ◌∷◌, ◌++◌, length, take, drop, inl, inr, refl, sym, ap, ◌∙◌, append_assoc, arith, take_at, drop_at}
use Rattle.dr_entry.specs.{Spelling.{IsValid, Fits, spelling}, declared.record.Record.Record}
use Rattle.dr_entry.proofs.RoundTrip.{one_record}
use Rattle.dr_log_bytes.specs.Content.{ArePlaced, IsPlaced, OnLog, content_after, empty_of, with_record}
use Rattle.dr_log_bytes.specs.Grammar.{blocks, AreSpelled, IsLog, IsLogOf, StandFor, IsBroken, BreaksAt, IsNoLog, IsDamaged, magic_of}

-- no block begins these bytes whose record may stand there
abbrev pub IsEnd : OnLog → List ℕ → Type 0
IsEnd c bytes = (r : Record) (rest : List ℕ) → IsValid r → Fits r → IsPlaced c r → bytes ≡ 1
    ∷ (spelling r ++ rest) → ⊥

-- a closed gate ends the blocks
pub closed_ends : (c : OnLog) (gate : ℕ) (rest : List ℕ) → gate ≢ 1 → IsEnd c (gate ∷ rest)
closed_ends c gate rest closed r more valid fits placed is = closed cc

-- so does an open one with no record behind it, and the end of the bytes
pub broken_ends : (c : OnLog) (bytes : List ℕ) → IsBroken c bytes → IsEnd c bytes
broken_ends c [] broken r more valid fits placed is = cc
broken_ends c (gate ∷ rest) broken r more valid fits placed is =
    let behind : rest ≡ spelling r ++ more = cc in
    broken.1 r (length (spelling r)) (record {
      valid = valid;
      fits = fits;
      count = refl;
      front = ap (take (length (spelling r))) behind ∙ take_at (spelling r) more (length (spelling r)) refl;
    }) placed

-- Blocks are told apart: what they end with is one and the same too.
pub one_log : (c : OnLog) (rs ss : List Record) (x y : List ℕ) → AreSpelled rs → AreSpelled ss
    → ArePlaced c rs → ArePlaced c ss → IsEnd (content_after c rs) x → IsEnd (content_after c ss) y
    → blocks rs ++ x ≡ blocks ss ++ y → (rs ≡ ss) × (x ≡ y)
one_log c [] [] x y ar ass pr ps ex ey same = (refl, same)
one_log c [] (s ∷ ss) x y ar ass pr ps ex ey same = absurd (ex s (blocks ss ++ y) ass.0.0 ass.0.1 ps.0
    (same ∙ ap (λ (l : List ℕ). 1 ∷ l) (append_assoc (spelling s) (blocks ss) y)))
one_log c (r ∷ rs) [] x y ar ass pr ps ex ey same = absurd (ey r (blocks rs ++ x) ar.0.0 ar.0.1 pr.0
    (sym same ∙ ap (λ (l : List ℕ). 1 ∷ l) (append_assoc (spelling r) (blocks rs) x)))
one_log c (r ∷ rs) (s ∷ ss) x y ar ass pr ps ex ey same =
    let behind : spelling r ++ (blocks rs ++ x) ≡ spelling s ++ (blocks ss ++ y) =
    sym (append_assoc (spelling r) (blocks rs) x) ∙ ap (drop 1) same ∙ append_assoc (spelling s) (blocks ss) y in
    let one = one_record r s (blocks rs ++ x) (blocks ss ++ y) ar.0.0 ar.0.1 ass.0.0 ass.0.1 behind in
    let rests : blocks rs ++ x ≡ blocks ss ++ y = sym (drop_at (spelling r)
    (blocks rs ++ x) (length (spelling r)) refl) ∙ ap (drop (length (spelling r))) behind ∙ drop_at (spelling s)
    (blocks ss ++ y) (length (spelling r)) (ap (λ (t : Record). length (spelling t)) (sym one)) in
    let others = one_log (with_record r c) rs ss x y ar.1 ass.1 pr.1 (subst (λ t. ArePlaced (with_record t c) ss)
    (sym one) ps.1) ex (subst (λ t. IsEnd (content_after (with_record t c) ss) y) (sym one) ey) rests in
    (ap (λ (t : Record). t ∷ rs) one ∙ ap (λ (l : List Record). s ∷ l) others.0, others.1)

-- and so are the formats
one_format : (a b : Bool) (x y : List ℕ) → magic_of a ++ x ≡ magic_of b ++ y → a ≡ b
one_format true true x y e = refl
one_format false false x y e = refl
one_format true false x y e = absurd (omega (arith, ap (λ (l : List ℕ). get_or l 7 0) e))
one_format false true x y e = absurd (omega (arith, ap (λ (l : List ℕ). get_or l 7 0) e))

behind_magic : (a : Bool) (x y : List ℕ) → magic_of a ++ x ≡ magic_of a ++ y → x ≡ y
behind_magic true x y e = ap (drop 8) e
behind_magic false x y e = ap (drop 8) e

front_magic : (a : Bool) (x : List ℕ) → take 8 (magic_of a ++ x) ≡ magic_of a
front_magic true x = refl
front_magic false x = refl

-- bytes are a log of one list of records
pub log_once : (bytes : List ℕ) (n m : Bool) (rs ss : List Record) → IsLog bytes n rs → IsLog bytes m ss
    → (n ≡ m) × (rs ≡ ss)
log_once bytes n m rs ss a b = (
  same,
  (one_log (empty_of n) rs ss (a.gate ∷ a.rest) (b.gate ∷ b.rest) a.spelled
      b.spelled a.placed (subst (λ f. ArePlaced (empty_of f) ss) (sym same) b.placed)
      (closed_ends (content_after (empty_of n) rs) a.gate a.rest a.closed)
      (closed_ends (content_after (empty_of n) ss) b.gate b.rest b.closed)
      (behind_magic n (blocks rs ++ a.gate ∷ a.rest) (blocks ss ++ b.gate ∷ b.rest)
      (sym a.parts ∙ b.parts ∙ ap (λ f. magic_of f ++ (blocks ss ++ b.gate ∷ b.rest)) (sym same)))).0,
)
  where
    same : n ≡ m
    same = one_format n m (blocks rs ++ a.gate ∷ a.rest) (blocks ss ++ b.gate ∷ b.rest) (sym a.parts ∙ b.parts)

pub content_once : (bytes : List ℕ) (c d : OnLog) → StandFor bytes c → StandFor bytes d → c ≡ d
content_once bytes c d (inl a) (inl b) = a.1 ∙ sym b.1
content_once bytes c d (inl a) (inr b) = absurd (omega (arith, a.0, b.0))
content_once bytes c d (inr a) (inl b) = absurd (omega (arith, a.0, b.0))
content_once bytes c d (inr a) (inr b) =
    let t = log_once bytes a.1.newer b.1.newer a.1.records b.1.records a.1.log b.1.log in
    sym a.1.content ∙ ap (λ n. content_after (empty_of n) a.1.records) t.0
    ∙ ap (content_after (empty_of b.1.newer)) t.1 ∙ b.1.content

-- blocks break off at one place
breaks_once : (bytes : List ℕ) (at to : ℕ) → BreaksAt bytes at → BreaksAt bytes to → at ≡ to
breaks_once bytes at to a b =
    let same = one_format a.newer b.newer (blocks a.records ++ a.rest) (blocks b.records ++ b.rest)
    (sym a.parts ∙ b.parts) in
    let one = one_log (empty_of a.newer) a.records b.records a.rest b.rest a.spelled b.spelled a.placed
    (subst (λ f. ArePlaced (empty_of f) b.records) (sym same) b.placed)
    (broken_ends (content_after (empty_of a.newer) a.records) a.rest a.broken)
    (subst (λ f. IsEnd (content_after (empty_of f) b.records) b.rest) (sym same)
    (broken_ends (content_after (empty_of b.newer) b.records) b.rest b.broken))
    (behind_magic a.newer (blocks a.records ++ a.rest) (blocks b.records ++ b.rest)
    (sym a.parts ∙ b.parts ∙ ap (λ f. magic_of f ++ (blocks b.records ++ b.rest)) (sym same))) in
    a.place ∙ ap (λ (rs : List Record). 8 + length (blocks rs)) one.0 ∙ sym b.place

no_log_once : (bytes : List ℕ) (at to : ℕ) → IsNoLog bytes at → IsNoLog bytes to → at ≡ to
no_log_once bytes at to (inl a) (inl b) = a.1 ∙ sym b.1
no_log_once bytes at to (inl a) (inr b) =
    absurd (a.0 b.newer (ap (take 8) b.parts ∙ front_magic b.newer (blocks b.records ++ b.rest)))
no_log_once bytes at to (inr a) (inl b) =
    absurd (b.0 a.newer (ap (take 8) a.parts ∙ front_magic a.newer (blocks a.records ++ a.rest)))
no_log_once bytes at to (inr a) (inr b) = breaks_once bytes at to a b

pub damaged_once : (bytes : List ℕ) (at to : ℕ) → IsDamaged bytes at → IsDamaged bytes to → at ≡ to
damaged_once bytes at to a b = no_log_once bytes at to a.1 b.1

gate_of_broken : (c : OnLog) (gate : ℕ) (rest bytes : List ℕ) → gate ∷ rest ≡ bytes → IsBroken c bytes → gate ≡ 1
gate_of_broken c gate rest [] same broken = absurd cc
gate_of_broken c gate rest (other ∷ bytes) same broken = let head : gate ≡ other = cc in head ∙ broken.0

-- a log isn't broken
log_or_none : (bytes : List ℕ) (n : Bool) (rs : List Record) (at : ℕ) → IsLog bytes n rs → IsNoLog bytes at → ⊥
log_or_none bytes n rs at a (inl b) = b.0 n (ap (take 8) a.parts ∙ front_magic n (blocks rs ++ a.gate ∷ a.rest))
log_or_none bytes n rs at a (inr b) =
    let same = one_format n b.newer (blocks rs ++ a.gate ∷ a.rest) (blocks b.records ++ b.rest)
    (sym a.parts ∙ b.parts) in
    let one = one_log (empty_of n) rs b.records (a.gate ∷ a.rest) b.rest a.spelled b.spelled a.placed
    (subst (λ f. ArePlaced (empty_of f) b.records) (sym same) b.placed)
    (closed_ends (content_after (empty_of n) rs) a.gate a.rest a.closed)
    (subst (λ f. IsEnd (content_after (empty_of f) b.records) b.rest) (sym same)
    (broken_ends (content_after (empty_of b.newer) b.records) b.rest b.broken))
    (behind_magic n (blocks rs ++ a.gate ∷ a.rest) (blocks b.records ++ b.rest)
    (sym a.parts ∙ b.parts ∙ ap (λ f. magic_of f ++ (blocks b.records ++ b.rest)) (sym same))) in
    a.closed (gate_of_broken (content_after (empty_of b.newer) b.records) a.gate a.rest b.rest one.1 b.broken)

pub stands_or_damaged : (bytes : List ℕ) (c : OnLog) (at : ℕ) → StandFor bytes c → IsDamaged bytes at → ⊥
stands_or_damaged bytes c at (inl a) b = omega (arith, a.0, b.0)
stands_or_damaged bytes c at (inr a) b = log_or_none bytes a.1.newer a.1.records at a.1.log b.1
