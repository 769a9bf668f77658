-- What the bytes behind a head say, by its kind.
use Rattle.std.{specs.Int.{to_be_bytes, w16, w64}, proofs.lemmas.List.{append-nil, get_or_past, nil_from_length}}
use Rattle.std.proofs.Common.{◌≡◌, ℕ, ◌+◌, ◌*◌, ◌^◌, ◌<◌, ◌≤◌, List, ◌∷◌, ◌++◌, length, drop, refl, sym, ap, subst, ◌∙◌, inl, inr, arith, length-drop, slice_index, Bor}
use Rattle.std.proofs.lemmas.{Bool.cases_lt, Nat.{from_be_bytes-to_be_bytes_2, from_be_bytes-to_be_bytes_8}}
use Rattle.dr_entry.{specs.Grammar.number_at, proofs.Fields.{IsBytes, drop-byte, drop-number_2, number_below_2}}
use Rattle.dr_packet.specs.{Packets.{Fits, SaysSame, body, far_byte, kind_of, long_at}, Reading.IsBody}
use Rattle.dr_packet.specs.declared.{Call.Call, Far.Far, Says.Says}
use Rattle.dr_packet.proofs.Longs.{drop-long, long-below, longs-are, longs-length, same-longs}
use Rattle.dr_packet.specs.declared.Far.TheVariants as fars
use Rattle.dr_packet.specs.declared.Says.TheVariants as say

-- ---- what is read of them

pub ask-is : (bytes : List ℕ) (whole at : ℕ) → IsBytes bytes → length bytes ≡ 16 → whole ≡ long_at 0 bytes
    → at ≡ long_at 8 bytes → IsBody 1 bytes (say.Ask whole at)
ask-is bytes whole at fits long e f =
    subst (λ n. IsBody 1 bytes (say.Ask n at)) (sym e) (subst (λ n. IsBody 1 bytes (say.Ask (long_at 0 bytes) n)) (sym f)
    (record {
      named = refl;
      fits = (long-below 0 bytes fits, long-below 8 bytes fits);
      short = tt;
      is = drop-long 0 bytes fits (omega (arith, long))
          ∙ ap (λ (rest : List ℕ). to_be_bytes w64 (long_at 0 bytes) ++ rest) (drop-long 8 bytes fits (omega (arith, long))
          ∙ ap (λ (rest : List ℕ). to_be_bytes w64 (long_at 8 bytes) ++ rest)
          (nil_from_length (drop 16 bytes) (omega (arith, long, length-drop 16 bytes)))
          ∙ append-nil (to_be_bytes w64 (long_at 8 bytes)));
    }))

pub hand-is : (bytes : List ℕ) (whole at : ℕ) (part : Bor (List ℕ)) → IsBytes bytes → 16 ≤ length bytes
    → length bytes ≤ 1296 → whole ≡ long_at 0 bytes → at ≡ long_at 8 bytes → part.now ≡ drop 16 bytes
    → IsBody 2 bytes (say.Hand whole at part)
hand-is bytes whole at part fits least most e f now = subst (λ n. IsBody 2 bytes (say.Hand n at part)) (sym e)
    (subst (λ n. IsBody 2 bytes (say.Hand (long_at 0 bytes) n part)) (sym f) (record {
      named = refl;
      fits = (long-below 0 bytes fits, long-below 8 bytes fits);
      short = omega (arith, most, ap length now, length-drop 16 bytes);
      is = drop-long 0 bytes fits (omega (arith, least))
          ∙ ap (λ (rest : List ℕ). to_be_bytes w64 (long_at 0 bytes) ++ rest) (drop-long 8 bytes fits (omega (arith, least))
          ∙ ap (λ (rest : List ℕ). to_be_bytes w64 (long_at 8 bytes) ++ rest) (sym now));
    }))

pub try-is : (bytes : List ℕ) (far : Far) (call : Call) → IsBytes bytes → length bytes ≡ 133
    → slice_index bytes 0 ≡ far_byte far → call.age ≡ number_at w16 1 bytes → call.set ≡ number_at w16 3 bytes
    → length call.lengths ≡ 16 → ((m : ℕ) → m < 16 → slice_index call.lengths m ≡ long_at (5 + 8 * m) bytes)
    → IsBody 3 bytes (say.Try call far)
try-is bytes far call fits long first age set members each = record {
  named = refl;
  fits = record {
    set = subst (λ n. n < 2 ^ 16) (sym set) (number_below_2 3 bytes fits);
    age = subst (λ n. n < 2 ^ 16) (sym age) (number_below_2 1 bytes fits);
    members = members;
    lengths = below;
  };
  short = tt;
  is = drop-byte 0 bytes (omega (arith, long)) ∙ ap (λ (n : ℕ). n ∷ drop 1 bytes) first
      ∙ ap (λ (rest : List ℕ). far_byte far ∷ rest) (drop-number_2 1 bytes fits (omega (arith, long))
      ∙ ap (λ (n : ℕ). to_be_bytes w16 n ++ drop 3 bytes) (sym age)
      ∙ ap (λ (rest : List ℕ). to_be_bytes w16 call.age ++ rest) (drop-number_2 3 bytes fits (omega (arith, long))
      ∙ ap (λ (n : ℕ). to_be_bytes w16 n ++ drop 5 bytes) (sym set)
      ∙ ap (λ (rest : List ℕ). to_be_bytes w16 call.set ++ rest)
      (longs-are call.lengths 5 bytes fits (omega (arith, long, members)) (λ m l. each m (omega (arith, l, members))))));
}
  where
    below : (m : ℕ) → slice_index call.lengths m < 2 ^ 64
    below m = elim (cases_lt m 16) [
      | inl lt ↦ subst (λ n. n < 2 ^ 64) (sym (each m lt)) (long-below (5 + 8 * m) bytes fits)
      | inr past ↦ subst (λ n. n < 2 ^ 64) (sym (get_or_past call.lengths m 0 (omega (arith, past, members)))) (omega arith)
    ]

-- ---- how long they are where they say something

far-below : (far : Far) → far_byte far < 3
far-below fars.Chosen = omega arith
far-below fars.Voted = omega arith
far-below fars.Up = omega arith

pub try-long : (bytes : List ℕ) (says : Says) → IsBody 3 bytes says → (length bytes ≡ 133) × (slice_index bytes 0 < 3)
try-long bytes (say.Ask whole at) b = absurd (omega (arith, b.named))
try-long bytes (say.Hand whole at part) b = absurd (omega (arith, b.named))
try-long bytes (say.Try call far) b = (
  omega (arith, ap length b.is, longs-length call.lengths, b.fits.members),
  subst (λ n. n < 3) (sym (ap (λ (l : List ℕ). slice_index l 0) b.is)) (far-below far),
)
try-long bytes (say.Words age words) b = absurd (omega (arith, b.named))

-- ---- one meaning

same-far : (far other : Far) → far_byte far ≡ far_byte other → far ≡ other
same-far fars.Chosen fars.Chosen e = refl
same-far fars.Chosen fars.Voted e = absurd (omega (arith, e))
same-far fars.Chosen fars.Up e = absurd (omega (arith, e))
same-far fars.Voted fars.Chosen e = absurd (omega (arith, e))
same-far fars.Voted fars.Voted e = refl
same-far fars.Voted fars.Up e = absurd (omega (arith, e))
same-far fars.Up fars.Chosen e = absurd (omega (arith, e))
same-far fars.Up fars.Voted e = absurd (omega (arith, e))
same-far fars.Up fars.Up e = refl

abbrev call_with : ℕ → List ℕ → ℕ → Call
call_with set lengths age = record { set = set; lengths = lengths; age = age }

same-call : (a b : Call) → a.set ≡ b.set → a.lengths ≡ b.lengths → a.age ≡ b.age → a ≡ b
same-call a b set lengths age = ap (λ (n : ℕ). call_with n a.lengths a.age) set
    ∙ ap (λ (l : List ℕ). call_with b.set l a.age) lengths ∙ ap (call_with b.set b.lengths) age

-- numbers of eight bytes, by these
eight-bytes : (x y : ℕ) (xs ys : List ℕ) → x < 2 ^ 64 → y < 2 ^ 64 → long_at 0 (to_be_bytes w64 x ++ xs)
    ≡ long_at 0 (to_be_bytes w64 y ++ ys) → x ≡ y
eight-bytes x y xs ys l k e = sym (from_be_bytes-to_be_bytes_8 x l) ∙ e ∙ from_be_bytes-to_be_bytes_8 y k

-- what has the same body says the same
pub same-says : (says said : Says) → kind_of says ≡ kind_of said → Fits says → Fits said → body says ≡ body said
    → SaysSame says said
same-says (say.Ask whole at) (say.Ask long from) k f g e = (
  eight-bytes whole long (to_be_bytes w64 at) (to_be_bytes w64 from) f.0 g.0 (ap (long_at 0) e),
  sym (from_be_bytes-to_be_bytes_8 at f.1) ∙ ap (long_at 8) e ∙ from_be_bytes-to_be_bytes_8 from g.1,
)
same-says (say.Ask whole at) (say.Hand long from others) k f g e = absurd (omega (arith, k))
same-says (say.Ask whole at) (say.Try other step) k f g e = absurd (omega (arith, k))
same-says (say.Ask whole at) (say.Words year others) k f g e = absurd (omega (arith, k))
same-says (say.Hand whole at part) (say.Ask long from) k f g e = absurd (omega (arith, k))
same-says (say.Hand whole at part) (say.Hand long from others) k f g e = (
  eight-bytes whole long (to_be_bytes w64 at ++ part.now) (to_be_bytes w64 from ++ others.now) f.0 g.0 (ap (long_at 0) e),
  eight-bytes at from part.now others.now f.1 g.1 (ap (long_at 8) e),
  ap (drop 16) e,
)
same-says (say.Hand whole at part) (say.Try other step) k f g e = absurd (omega (arith, k))
same-says (say.Hand whole at part) (say.Words year others) k f g e = absurd (omega (arith, k))
same-says (say.Try call far) (say.Ask long from) k f g e = absurd (omega (arith, k))
same-says (say.Try call far) (say.Hand long from others) k f g e = absurd (omega (arith, k))
same-says (say.Try call far) (say.Try other step) k f g e = (
  same-call call other
      (sym (from_be_bytes-to_be_bytes_2 call.set f.set) ∙ ap (number_at w16 3) e
      ∙ from_be_bytes-to_be_bytes_2 other.set g.set)
      (same-longs call.lengths other.lengths (f.members ∙ sym g.members) f.lengths g.lengths (ap (drop 5) e))
      (sym (from_be_bytes-to_be_bytes_2 call.age f.age) ∙ ap (number_at w16 1) e
      ∙ from_be_bytes-to_be_bytes_2 other.age g.age),
  same-far far step (ap (λ (l : List ℕ). slice_index l 0) e),
)
same-says (say.Try call far) (say.Words year others) k f g e = absurd (omega (arith, k))
same-says (say.Words age words) (say.Ask long from) k f g e = absurd (omega (arith, k))
same-says (say.Words age words) (say.Hand long from others) k f g e = absurd (omega (arith, k))
same-says (say.Words age words) (say.Try other step) k f g e = absurd (omega (arith, k))
same-says (say.Words age words) (say.Words year others) k f g e =
    (sym (from_be_bytes-to_be_bytes_2 age f) ∙ ap (number_at w16 0) e ∙ from_be_bytes-to_be_bytes_2 year g, ap (drop 2) e)
