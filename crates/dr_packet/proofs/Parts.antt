-- The parts of a packet: what stands at which place of its bytes, and that nothing else is one.
use Rattle.std.specs.Int.{to_be_bytes, w32}
use Rattle.std.proofs.Common.{◌≡◌, ℕ, ◌+◌, ◌-◌, ◌≤◌, List, ◌∷◌, ◌++◌, length, take, drop, refl, sym, ap, subst, ◌∙◌, append_assoc, arith, length-append, length-drop, length-take, slice_index}
use Rattle.std.proofs.lemmas.{List.{drop_at, take_at, take-append-drop}, Nat.from_be_bytes-to_be_bytes_4}
use Rattle.sha2.{specs.Sha256.sha256, proofs.Facts256.length-sha256}
use Rattle.dr_entry.specs.Grammar.{number_at}
use Rattle.dr_entry.proofs.Fields.{IsBytes, drop-byte, drop-bytes, drop-number_4, number_below_4}
use Rattle.dr_packet.specs.Packets.{FitsWay, HasForm, IsPacket, IsSummed, SaysSame, body, group_in, head, kind_of, magic, plan_in, spelling, summed}
use Rattle.dr_packet.specs.{Reading.{IsBody, way_in}, declared.{Says.Says, Seal.Seal, Way.Way}}
use Rattle.dr_packet.proofs.Bodies.{same-says}

-- its fields are as long as in a packet
abbrev pub IsWhole : Seal → Type 0
IsWhole seal = (length seal.group ≡ 16) × (length seal.plan ≡ 32)

head-length : (seal : Seal) (way : Way) (kind : ℕ) → IsWhole seal → length (head seal way kind) ≡ 60
head-length seal way kind s = omega (arith, length-append seal.group seal.plan, s.0, s.1)

summed-length : (bytes : List ℕ) → length (summed bytes) ≡ length bytes + 8
summed-length bytes = omega (
  arith,
  length-append bytes (take 8 (sha256 bytes)),
  length-take 8 (sha256 bytes),
  length-sha256 bytes,
)

-- what has its digest at its end
summed-is : (bytes : List ℕ) → IsSummed (summed bytes)
summed-is bytes =
    let there : length bytes ≡ length (summed bytes) - 8 = omega (arith, summed-length bytes) in
    ap (λ (l : List ℕ). take 8 (sha256 l)) (take_at bytes (take 8 (sha256 bytes)) (length (summed bytes) - 8) there)
    ∙ sym (drop_at bytes (take 8 (sha256 bytes)) (length (summed bytes) - 8) there)

spelling-length : (seal : Seal) (way : Way) (says : Says) → IsWhole seal
    → length (spelling seal way says) ≡ length (body says) + 68
spelling-length seal way says s = omega (
  arith,
  summed-length (head seal way (kind_of says) ++ body says),
  length-append (head seal way (kind_of says)) (body says),
  head-length seal way (kind_of says) s,
)

-- the digest at the end of a packet
abbrev end_of : Seal → Way → Says → List ℕ
end_of seal way says = take 8 (sha256 (head seal way (kind_of says) ++ body says))

-- what stands behind the numbers of its head
tail-is : (seal : Seal) (way : Way) (says : Says) → drop 12 (spelling seal way says)
    ≡ seal.group ++ (seal.plan ++ (body says ++ end_of seal way says))
tail-is seal way says = append_assoc (seal.group ++ seal.plan) (body says) (end_of seal way says)
    ∙ append_assoc seal.group seal.plan (body says ++ end_of seal way says)

group-is : (seal : Seal) (way : Way) (says : Says) → IsWhole seal → group_in (spelling seal way says) ≡ seal.group
group-is seal way says s = ap (take 16) (tail-is seal way says)
    ∙ take_at seal.group (seal.plan ++ (body says ++ end_of seal way says)) 16 s.0

plan-is : (seal : Seal) (way : Way) (says : Says) → IsWhole seal → plan_in (spelling seal way says) ≡ seal.plan
plan-is seal way says s = ap (λ (l : List ℕ). take 32 (drop 16 l)) (tail-is seal way says)
    ∙ ap (take 32) (drop_at seal.group (seal.plan ++ (body says ++ end_of seal way says)) 16 s.0)
    ∙ take_at seal.plan (body says ++ end_of seal way says) 32 s.1

-- what bytes say behind a head
abbrev body_in : List ℕ → List ℕ
body_in bytes = take (length bytes - 68) (drop 60 bytes)

body-is : (seal : Seal) (way : Way) (says : Says) → IsWhole seal → body_in (spelling seal way says) ≡ body says
body-is seal way says s =
    let n = length (spelling seal way says) - 68 in
    let long : length (seal.group ++ seal.plan) ≡ 48 = omega (arith, length-append seal.group seal.plan, s.0, s.1) in
    ap (λ (l : List ℕ). take n (drop 48 l)) (append_assoc (seal.group ++ seal.plan) (body says) (end_of seal way says))
    ∙ ap (take n) (drop_at (seal.group ++ seal.plan) (body says ++ end_of seal way says) 48 long)
    ∙ take_at (body says) (end_of seal way says) n (omega (arith, spelling-length seal way says s))

abbrev way_with : ℕ → ℕ → ℕ → Way
way_with from to ages = record { from = from; to = to; ages = ages }

way-is : (seal : Seal) (way : Way) (says : Says) → FitsWay way → way_in (spelling seal way says) ≡ way
way-is seal way says fits = ap (way_with way.from way.to) (from_be_bytes-to_be_bytes_4 way.ages fits.2)

-- ---- a packet is read

pub form-of : (seal : Seal) (bytes : List ℕ) (way : Way) (says : Says) → IsWhole seal → IsPacket seal bytes way says
    → HasForm bytes
form-of seal bytes way says s p = subst HasForm (sym p.is) (omega (arith, spelling-length seal way says s), refl)

-- what it says is behind its head
pub body-of : (seal : Seal) (bytes : List ℕ) (way : Way) (says : Says) → IsWhole seal → IsPacket seal bytes way says
    → IsBody (slice_index bytes 4) (body_in bytes) says
body-of seal bytes way says s p = record {
  named = ap (λ (l : List ℕ). slice_index l 4) p.is;
  fits = p.fits;
  short = p.short;
  is = ap body_in p.is ∙ body-is seal way says s;
}

pub zero-of : (seal : Seal) (bytes : List ℕ) (way : Way) (says : Says) → IsPacket seal bytes way says
    → slice_index bytes 7 ≡ 0
zero-of seal bytes way says p = ap (λ (l : List ℕ). slice_index l 7) p.is

-- and its digest, its group and its plan are right
pub sum-of : (seal : Seal) (bytes : List ℕ) (way : Way) (says : Says) → IsPacket seal bytes way says → IsSummed bytes
sum-of seal bytes way says p = subst IsSummed (sym p.is) (summed-is (head seal way (kind_of says) ++ body says))

pub group-of : (seal : Seal) (bytes : List ℕ) (way : Way) (says : Says) → IsWhole seal → IsPacket seal bytes way says
    → group_in bytes ≡ seal.group
group-of seal bytes way says s p = ap group_in p.is ∙ group-is seal way says s

pub plan-of : (seal : Seal) (bytes : List ℕ) (way : Way) (says : Says) → IsWhole seal → IsPacket seal bytes way says
    → plan_in bytes ≡ seal.plan
plan-of seal bytes way says s p = ap plan_in p.is ∙ plan-is seal way says s

-- it goes one way, and says one thing
pub one-packet : (seal : Seal) (bytes : List ℕ) (way other : Way) (says said : Says) → IsWhole seal
    → IsPacket seal bytes way says → IsPacket seal bytes other said → (way ≡ other) × SaysSame says said
one-packet seal bytes way other says said s p q =
    let a = body-of seal bytes way says s p in
    let b = body-of seal bytes other said s q in (
      sym (ap way_in p.is ∙ way-is seal way says p.goes) ∙ ap way_in q.is ∙ way-is seal other said q.goes,
      same-says says said (sym a.named ∙ b.named) p.fits q.fits (sym a.is ∙ b.is),
    )

-- ---- what is read is a packet

-- bytes that have their digest at their end
ends-summed : (bytes front : List ℕ) → IsSummed bytes → 8 ≤ length bytes
    → bytes ≡ front ++ drop (length bytes - 8) bytes → bytes ≡ summed front
ends-summed bytes front sum long e = e ∙ ap (λ (l : List ℕ). front ++ l) (sym sum ∙ ap (λ (l : List ℕ). take 8 (sha256 l)) taken)
  where
    there : length front ≡ length bytes - 8
    there = omega (
      arith,
      long,
      ap length e,
      length-append front (drop (length bytes - 8) bytes),
      length-drop (length bytes - 8) bytes,
    )

    taken : take (length bytes - 8) bytes ≡ front
    taken = ap (take (length bytes - 8)) e ∙ take_at front (drop (length bytes - 8) bytes) (length bytes - 8) there

-- the numbers of a head, and what stands behind them
numbers-are : (bytes : List ℕ) (kind : ℕ) → IsBytes bytes → HasForm bytes → slice_index bytes 4 ≡ kind
    → slice_index bytes 7 ≡ 0 → bytes ≡ magic ++ (kind ∷ slice_index bytes 5 ∷ slice_index bytes 6 ∷ 0
    ∷ (to_be_bytes w32 (number_at w32 8 bytes) ++ drop 12 bytes))
numbers-are bytes kind fits form is none =
    sym (take-append-drop 4 bytes) ∙ ap (λ (l : List ℕ). l ++ drop 4 bytes) form.1
    ∙ ap (λ (l : List ℕ). magic ++ l) (drop-byte 4 bytes (omega (arith, form.0)) ∙ ap (λ (n : ℕ). n ∷ drop 5 bytes) is
    ∙ ap (λ (l : List ℕ). kind ∷ l) (drop-byte 5 bytes (omega (arith, form.0))
    ∙ ap (λ (l : List ℕ). slice_index bytes 5 ∷ l) (drop-byte 6 bytes (omega (arith, form.0))
    ∙ ap (λ (l : List ℕ). slice_index bytes 6 ∷ l) (drop-byte 7 bytes (omega (arith, form.0))
    ∙ ap (λ (n : ℕ). n ∷ drop 8 bytes) none
    ∙ ap (λ (l : List ℕ). 0 ∷ l) (drop-number_4 8 bytes fits (omega (arith, form.0)))))))

-- what stands behind them
seal-is : (seal : Seal) (bytes : List ℕ) (says : Says) → 68 ≤ length bytes → group_in bytes ≡ seal.group
    → plan_in bytes ≡ seal.plan → body_in bytes ≡ body says
    → drop 12 bytes ≡ ((seal.group ++ seal.plan) ++ body says) ++ drop (length bytes - 8) bytes
seal-is seal bytes says long group plan is =
    let n = length bytes - 8 in
    let there : 60 + (length bytes - 68) ≡ n = omega (arith, long) in
    drop-bytes 12 16 bytes ∙ ap (λ (l : List ℕ). l ++ drop 28 bytes) group
    ∙ ap (λ (l : List ℕ). seal.group ++ l) (drop-bytes 28 32 bytes ∙ ap (λ (l : List ℕ). l ++ drop 60 bytes) plan
    ∙ ap (λ (l : List ℕ). seal.plan ++ l) (drop-bytes 60 (length bytes - 68) bytes
    ∙ ap (λ (at : ℕ). body_in bytes ++ drop at bytes) there ∙ ap (λ (l : List ℕ). l ++ drop n bytes) is))
    ∙ sym (append_assoc seal.group seal.plan (body says ++ drop n bytes))
    ∙ sym (append_assoc (seal.group ++ seal.plan) (body says) (drop n bytes))

pub packet-of : (seal : Seal) (bytes : List ℕ) (says : Says) → IsBytes bytes → HasForm bytes → IsSummed bytes
    → group_in bytes ≡ seal.group → plan_in bytes ≡ seal.plan → slice_index bytes 7 ≡ 0
    → IsBody (slice_index bytes 4) (body_in bytes) says → IsPacket seal bytes (way_in bytes) says
packet-of seal bytes says fits form sum group plan none b = record {
  goes = (omega (arith, fits 5), omega (arith, fits 6), number_below_4 8 bytes fits);
  fits = b.fits;
  short = b.short;
  is = ends-summed bytes (head seal (way_in bytes) (kind_of says) ++ body says) sum (omega (arith, form.0))
      (numbers-are bytes (kind_of says) fits form b.named none ∙ ap (λ (l : List ℕ). magic ++ (kind_of says
      ∷ slice_index bytes 5 ∷ slice_index bytes 6 ∷ 0 ∷ (to_be_bytes w32 (number_at w32 8 bytes) ++ l)))
      (seal-is seal bytes says form.0 group plan b.is));
}
