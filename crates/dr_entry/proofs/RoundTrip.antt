-- What is decoded is spelled so, and what is spelled so is decoded again.
use Rattle.std.specs.{Int.{w8, w16, w32, from_be_bytes, to_be_bytes}, List.{flat_map, range_with_len, AllByRecursion}}
use Rattle.std.proofs.Common.{◌≡◌, ℕ, zero, suc, add-zero, inl, inr, ◌+◌, ◌*◌, ◌-◌, ◌^◌, ◌<◌, ◌≤◌, Bool, true, false, nat_lt, ◌==◌, not, List, [], ◌∷◌, ◌++◌, length, get_or, take, drop, map, replicate, Option, Some, None, Result, Ok, refl, sym, ap, subst, ◌∙◌, ◌↔◌, append_assoc, arith, length-append, length-drop, length-take, slice_index}
use Rattle.std.proofs.{Math.Nat.pow-le-pow_right, lemmas.Bool.{cases_lt, lt-ltb, eqb-true, Decides.nat_tests}}
use Rattle.std.proofs.lemmas.List.{drop-drop, take_at, ext_get_or, get_or_append_left, get_or-append_right, get_or-take, get_or-drop, length-replicate, append-nil, nil_from_length, take-append-drop}
use Rattle.std.proofs.lemmas.List.FromFn.{length-map-range_with_len, get_or-map-range_with_len}
use Rattle.std.proofs.lemmas.Nat.{from_be_bytes-to_be_bytes_2, from_be_bytes-to_be_bytes_4}
use Rattle.dr_entry.specs.Grammar.{number_at, free, first_fault, view_fields, message_fields, vote_fields, view_at, message_at, vote_at, trims_at, unless, vote_of, decoded, age_vote_at, age_vote_fields, cut_at, cut_fields, upgrade_at}
use Rattle.dr_entry.specs.Spelling.{IsValid, IsValidVote, Fits, FitsEntry, FitsVote, entry_spelling, vote_spelling, spelling, Spells}
use Rattle.dr_entry.specs.declared.{entry.Entry.TheVariants.{View, Msg}, reading.DecodeFault.TheVariants.BadKind}
use Rattle.dr_entry.specs.{declared.limits.TheConstants.{MAX_MEMBERS, MAX_MESSAGE_LENGTH}, declared.record.Vote.Vote}
use Rattle.dr_entry.specs.{declared.reading.DecodeFault.DecodeFault, declared.record.{AgeVote.AgeVote, Record.Record}}
use Rattle.dr_entry.proofs.Fields.{IsBytes, drop-byte, drop-number_2, drop-number_4, drop-bytes, Passes, all_pass, no_fault, number_below_2, number_below_4}
use Rattle.dr_entry.proofs.Trims.{vote_length}
use Rattle.dr_entry.specs.declared.record.Record.TheVariants as records

abbrev ok : Record × ℕ → Result (Record × ℕ) DecodeFault
ok x = Ok x

-- ---- what is spelled so is decoded again

-- a field with no rule passes where it is whole
free_passes : (at width : ℕ) (bytes : List ℕ) → at + width ≤ length bytes → Passes bytes (free at width)
free_passes at width bytes whole = record { whole = whole; kept = refl }

view_again : (age number members : ℕ) (rest : List ℕ) → FitsEntry (View age number members) → 0 < members
    → decoded (entry_spelling (View age number members) ++ rest) ≡ Ok (records.Entry (View age number members), 6)
view_again age number members rest fits some =
    let bytes = entry_spelling (View age number members) ++ rest in
    let age-is : number_at w16 1 bytes ≡ age = from_be_bytes-to_be_bytes_2 age fits.0 in
    let members-is : number_at w16 4 bytes ≡ members = from_be_bytes-to_be_bytes_2 members fits.2 in
    let kept : not (number_at w16 4 bytes == 0) ≡ true = grind (arith, nat_tests) in
    let none : first_fault view_fields bytes ≡ None = no_fault view_fields bytes (
      free_passes 1 2 bytes (omega arith),
      (free_passes 3 1 bytes (omega arith), (record { whole = omega arith; kept = kept }, tt)),
    ) in
    rw none (ap (λ (n : ℕ). ok (records.Entry (View n number (number_at w16 4 bytes)), 6)) age-is
    ∙ ap (λ (n : ℕ). ok (records.Entry (View age number n), 6)) members-is)

message_again : (sender index : ℕ) (text rest : List ℕ) → FitsEntry (Msg sender index text) → sender
    < MAX_MEMBERS → length text ≤ MAX_MESSAGE_LENGTH → decoded (entry_spelling (Msg sender index text) ++ rest)
    ≡ Ok (records.Entry (Msg sender index text), 7 + length text)
message_again sender index text rest fits known short =
    let bytes = entry_spelling (Msg sender index text) ++ rest in
    let index-is : number_at w32 2 bytes ≡ index = from_be_bytes-to_be_bytes_4 index fits in
    let text-is : take (length text) (text ++ rest) ≡ text = take_at text rest (length text) refl in
    let none : first_fault (message_fields (length text)) bytes
    ≡ None = no_fault (message_fields (length text)) bytes (
      record { whole = omega arith; kept = grind (arith, nat_tests) },
      (
        free_passes 2 4 bytes (omega arith),
        (
          record { whole = omega arith; kept = grind (arith, nat_tests) },
          (free_passes 7 (length text) bytes (omega (arith, length-append text rest)), tt),
        ),
      ),
    ) in
    rw (none, text-is) (ap (λ (n : ℕ). ok (records.Entry (Msg sender n text), 7 + length text)) index-is)

age_vote_again : (vote : AgeVote) (rest : List ℕ) → Fits (records.AgeVote vote) → 0 < vote.members
    → decoded (spelling (records.AgeVote vote) ++ rest) ≡ Ok (records.AgeVote vote, 5)
age_vote_again vote rest fits some =
    let bytes = spelling (records.AgeVote vote) ++ rest in
    let age-is : number_at w16 1 bytes ≡ vote.age = from_be_bytes-to_be_bytes_2 vote.age fits.0 in
    let members-is : number_at w16 3 bytes ≡ vote.members = from_be_bytes-to_be_bytes_2 vote.members fits.1 in
    let kept : not (number_at w16 3 bytes == 0) ≡ true = grind (arith, nat_tests) in
    let none : first_fault age_vote_fields bytes ≡ None = no_fault age_vote_fields bytes (
      free_passes 1 2 bytes (omega arith),
      (record { whole = omega arith; kept = kept }, tt),
    ) in
    rw none (ap (λ (n : ℕ). ok (records.AgeVote (record { age = n; members = number_at w16 3 bytes }), 5)) age-is
    ∙ ap (λ (n : ℕ). ok (records.AgeVote (record { age = vote.age; members = n }), 5)) members-is)

cut_again : (keep : ℕ) (rest : List ℕ) → keep < 2 ^ 32
    → decoded (spelling (records.Cut keep) ++ rest) ≡ Ok (records.Cut keep, 5)
cut_again keep rest fits =
    let bytes = spelling (records.Cut keep) ++ rest in
    let keep-is : number_at w32 1 bytes ≡ keep = from_be_bytes-to_be_bytes_4 keep fits in
    let none : first_fault cut_fields bytes
    ≡ None = no_fault cut_fields bytes (free_passes 1 4 bytes (omega arith), tt) in
    rw none (ap (λ (n : ℕ). ok (records.Cut n, 5)) keep-is)

-- ---- the trims

zeros_read : (k i : ℕ) → get_or (replicate k 0) i 0 ≡ zero
zeros_read zero i = refl
zeros_read (suc k) zero = refl
zeros_read (suc k) (suc i) = zeros_read k i

read_len : (n : ℕ) (bytes : List ℕ) → length (map (λ s. number_at w32 (8 + 4 * s) bytes) (range_with_len 0 n)) ≡ n
read_len n bytes = length-map-range_with_len (λ s. number_at w32 (8 + 4 * s) bytes) 0 n

trims_at-past : (n s : ℕ) (bytes : List ℕ) → n ≤ s → get_or (trims_at n bytes) s 0 ≡ 0
trims_at-past n s bytes past = get_or-append_right (map (λ s. number_at w32 (8 + 4 * s) bytes) (range_with_len 0 n))
    (replicate (16 - n) 0) n s 0 (read_len n bytes) past ∙ zeros_read (16 - n) (s - n)

trims_at-member : (n s : ℕ) (bytes : List ℕ) → s < n → get_or (trims_at n bytes) s 0 ≡ number_at w32 (8 + 4 * s) bytes
trims_at-member n s bytes below = get_or_append_left (map (λ s. number_at w32 (8 + 4 * s) bytes) (range_with_len 0 n))
    (replicate (16 - n) 0) 0 s (omega (arith, read_len n bytes))
    ∙ get_or-map-range_with_len (λ s. number_at w32 (8 + 4 * s) bytes) 0 n s s 0 below (omega arith)

trims_at-fits : (n s : ℕ) (bytes : List ℕ) → IsBytes bytes → get_or (trims_at n bytes) s 0 < 2 ^ 32
trims_at-fits n s bytes fits = elim (cases_lt s n) [
  | inl below ↦ rw (trims_at-member n s bytes below) (number_below_4 (8 + 4 * s) bytes fits)
  | inr past ↦ rw (trims_at-past n s bytes past) (omega arith)
]

length-trims_at : (n : ℕ) (bytes : List ℕ) → n ≤ 16 → length (trims_at n bytes) ≡ 16
length-trims_at n bytes few = omega (
  arith,
  length-append (map (λ s. number_at w32 (8 + 4 * s) bytes) (range_with_len 0 n)) (replicate (16 - n) 0),
  read_len n bytes,
  length-replicate {A = ℕ} (16 - n) 0,
)

-- each count of a list that is spelled is read again
count_again : (counts rest : List ℕ) (s : ℕ) → s < length counts → get_or counts s 0 < 2 ^ 32
    → from_be_bytes w32 (drop (4 * s) (flat_map (to_be_bytes w32) counts ++ rest)) ≡ get_or counts s 0
count_again [] rest s lt fits = absurd (omega arith)
count_again (count ∷ counts) rest zero lt fits = from_be_bytes-to_be_bytes_4 count fits
count_again (count ∷ counts) rest (suc s) lt fits =
    let more : 4 * suc s ≡ 4 + 4 * s = omega arith in
    let bytes = to_be_bytes w32 count ++ (flat_map (to_be_bytes w32) counts ++ rest) in
    let there : drop (4 * s) (flat_map (to_be_bytes w32) counts ++ rest)
    ≡ drop (4 * suc s) bytes = drop-drop (4 * s) 4 bytes ∙ ap (λ (n : ℕ). drop n bytes) (sym more) in
    ap (from_be_bytes w32) (sym there) ∙ count_again counts rest s (omega arith) fits

-- counts of which the first n are spelled, and the others are 0
trims_again : (n : ℕ) (trim bytes rest : List ℕ) → n ≤ 16 → length trim ≡ 16
    → ((s : ℕ) → get_or trim s 0 < 2 ^ 32) → ((s : ℕ) → n ≤ s → get_or trim s 0 ≡ 0)
    → drop 8 bytes ≡ flat_map (to_be_bytes w32) (take n trim) ++ rest → trims_at n bytes ≡ trim
trims_again n trim bytes rest few places fits none there =
    ext_get_or 0 (trims_at n bytes) trim (length-trims_at n bytes few ∙ sym places) (λ i lt. elim (cases_lt i n) [
      | inl below ↦ member i below
      | inr past ↦ trims_at-past n i bytes past ∙ sym (none i past)
    ])
  where
    member : (i : ℕ) → i < n → get_or (trims_at n bytes) i 0 ≡ get_or trim i 0
    member i below =
        let taken : get_or (take n trim) i 0 ≡ get_or trim i 0 = get_or-take n trim i 0 below in
        trims_at-member n i bytes below
        ∙ ap (from_be_bytes w32) (sym (drop-drop (4 * i) 8 bytes) ∙ ap (drop (4 * i)) there)
        ∙ count_again (take n trim) rest i (omega (arith, length-take n trim)) (omega (arith, fits i)) ∙ taken

trims_pass : (k i : ℕ) (bytes : List ℕ) → 8 + 4 * (i + k) ≤ length bytes
    → AllByRecursion (Passes bytes) (map (λ s. free (8 + 4 * s) 4) (range_with_len i k))
trims_pass zero i bytes whole = tt
trims_pass (suc k) i bytes whole =
    (free_passes (8 + 4 * i) 4 bytes (omega arith), trims_pass k (i + 1) bytes (omega arith))

-- the fields of a vote's spelling are whole and keep their rules
vote_none : (v : Vote) (rest : List ℕ) → FitsVote v → IsValidVote v
    → first_fault (vote_fields v.members) (vote_spelling v ++ rest) ≡ None
vote_none v rest fits valid =
    let bytes = vote_spelling v ++ rest in
    let long : 8 + 4 * v.members ≤ length bytes =
    omega (arith, length-append (vote_spelling v) rest, vote_length v fits.places valid.members) in
    let below : 2 ^ v.members ≤ 2 ^ 16 = pow-le-pow_right (omega arith) valid.members in
    let leavers-is : number_at w16 5 bytes
    ≡ v.value.leavers = from_be_bytes-to_be_bytes_2 v.value.leavers (omega (arith, valid.leavers)) in
    let leavers-kept : nat_lt (number_at w16 5 bytes) (2 ^ v.members)
    ≡ true = lt-ltb _ _ (rw leavers-is valid.leavers) in
    no_fault (vote_fields v.members) bytes (
      free_passes 1 2 bytes (omega arith),
      (
        free_passes 3 1 bytes (omega arith),
        (
          free_passes 4 1 bytes (omega arith),
          (
            free_passes 5 2 bytes (omega arith),
            (
              record { whole = omega arith; kept = grind (arith, nat_tests, valid.members, valid.ballot) },
              (
                record { whole = omega arith; kept = lt-ltb _ _ valid.ballot },
                (record { whole = omega arith; kept = leavers-kept }, trims_pass v.members 0 bytes (omega arith)),
              ),
            ),
          ),
        ),
      ),
    )

-- what a vote is spelled as decodes to it
vote_again : (v : Vote) (rest : List ℕ) → FitsVote v → IsValidVote v
    → decoded (vote_spelling v ++ rest) ≡ Ok (records.Vote v, 8 + 4 * v.members)
vote_again v rest fits valid =
    let bytes = vote_spelling v ++ rest in
    let below : 2 ^ v.members ≤ 2 ^ 16 = pow-le-pow_right (omega arith) valid.members in
    let age-is : number_at w16 1 bytes ≡ v.age = from_be_bytes-to_be_bytes_2 v.age fits.age in
    let leavers-is : number_at w16 5 bytes
    ≡ v.value.leavers = from_be_bytes-to_be_bytes_2 v.value.leavers (omega (arith, valid.leavers)) in
    let trim-is : trims_at v.members bytes
    ≡ v.value.trim = trims_again v.members v.value.trim bytes rest valid.members fits.places fits.trim
    valid.trim refl in
    rw (vote_none v rest fits valid) (
    ap (λ (n : ℕ). ok (
      records.Vote (record {
        age = n;
        view = v.view;
        ballot = v.ballot;
        members = v.members;
        value = record { leavers = number_at w16 5 bytes; trim = trims_at v.members bytes };
      }),
      8 + 4 * v.members,
    )) age-is ∙ ap (λ (n : ℕ). ok (
      records.Vote (record {
        age = v.age;
        view = v.view;
        ballot = v.ballot;
        members = v.members;
        value = record { leavers = n; trim = trims_at v.members bytes };
      }),
      8 + 4 * v.members,
    )) leavers-is ∙ ap (λ (trim : List ℕ). ok (
      records.Vote (record {
        age = v.age;
        view = v.view;
        ballot = v.ballot;
        members = v.members;
        value = record { leavers = v.value.leavers; trim = trim };
      }),
      8 + 4 * v.members,
    )) trim-is)

-- ---- what is decoded is spelled so

abbrev Found : List ℕ → Record × ℕ → Type 0
Found bytes x = Spells bytes x.0 x.1

byte_is : (at : ℕ) (bytes : List ℕ) → number_at w8 at bytes ≡ slice_index bytes at
byte_is at bytes = get_or-drop at bytes 0 0 ∙ ap (λ (n : ℕ). get_or bytes n 0) (add-zero at)

view_spelled : (bytes : List ℕ) → IsBytes bytes → slice_index bytes 0 ≡ 1
    → first_fault view_fields bytes ≡ None → Spells bytes (view_at bytes).0 6
view_spelled bytes fits kind none =
    let p = all_pass view_fields bytes none in
    let long : 6 ≤ length bytes = p.1.1.0.whole in
    let age = number_at w16 1 bytes in
    let members = number_at w16 4 bytes in
    let e0 : bytes ≡ slice_index bytes 0 ∷ drop 1 bytes = drop-byte 0 bytes (omega arith) in
    let e1 : drop 1 bytes ≡ to_be_bytes w16 age ++ drop 3 bytes = drop-number_2 1 bytes fits (omega arith) in
    let e3 : drop 3 bytes ≡ slice_index bytes 3 ∷ drop 4 bytes = drop-byte 3 bytes (omega arith) in
    let e4 : drop 4 bytes ≡ to_be_bytes w16 members ++ drop 6 bytes = drop-number_2 4 bytes fits (omega arith) in
    let parts : bytes ≡ spelling (view_at bytes).0 ++ drop 6 bytes = e0 ∙ ap (λ (k : ℕ). k ∷ drop 1 bytes) kind
    ∙ ap (λ (rest : List ℕ). 1 ∷ rest) (e1 ∙ ap (λ (rest : List ℕ). to_be_bytes w16 age ++ rest)
    (e3 ∙ ap (λ (rest : List ℕ). slice_index bytes 3 ∷ rest) e4)) in
    record {
      valid = grind (arith, nat_tests, p.1.1.0.kept);
      fits = (number_below_2 1 bytes fits, omega (arith, fits 3), number_below_2 4 bytes fits);
      front = ap (take 6) parts ∙ take_at (spelling (view_at bytes).0) (drop 6 bytes) 6 refl;
      count = refl;
    }

age_vote_spelled : (bytes : List ℕ) → IsBytes bytes → slice_index bytes 0 ≡ 4
    → first_fault age_vote_fields bytes ≡ None → Spells bytes (age_vote_at bytes).0 5
age_vote_spelled bytes fits kind none =
    let p = all_pass age_vote_fields bytes none in
    let long : 5 ≤ length bytes = p.1.0.whole in
    let age = number_at w16 1 bytes in
    let members = number_at w16 3 bytes in
    let e0 : bytes ≡ slice_index bytes 0 ∷ drop 1 bytes = drop-byte 0 bytes (omega arith) in
    let e1 : drop 1 bytes ≡ to_be_bytes w16 age ++ drop 3 bytes = drop-number_2 1 bytes fits (omega arith) in
    let e3 : drop 3 bytes ≡ to_be_bytes w16 members ++ drop 5 bytes = drop-number_2 3 bytes fits (omega arith) in
    let parts : bytes ≡ spelling (age_vote_at bytes).0 ++ drop 5 bytes = e0 ∙ ap (λ (k : ℕ). k ∷ drop 1 bytes) kind
    ∙ ap (λ (rest : List ℕ). 4 ∷ rest) (e1 ∙ ap (λ (rest : List ℕ). to_be_bytes w16 age ++ rest) e3) in
    record {
      valid = grind (arith, nat_tests, p.1.0.kept);
      fits = (number_below_2 1 bytes fits, number_below_2 3 bytes fits);
      front = ap (take 5) parts ∙ take_at (spelling (age_vote_at bytes).0) (drop 5 bytes) 5 refl;
      count = refl;
    }

cut_spelled : (bytes : List ℕ) → IsBytes bytes → slice_index bytes 0 ≡ 5
    → first_fault cut_fields bytes ≡ None → Spells bytes (cut_at bytes).0 5
cut_spelled bytes fits kind none =
    let p = all_pass cut_fields bytes none in
    let long : 5 ≤ length bytes = p.0.whole in
    let keep = number_at w32 1 bytes in
    let e0 : bytes ≡ slice_index bytes 0 ∷ drop 1 bytes = drop-byte 0 bytes (omega arith) in
    let e1 : drop 1 bytes ≡ to_be_bytes w32 keep ++ drop 5 bytes = drop-number_4 1 bytes fits (omega arith) in
    let parts : bytes ≡ spelling (cut_at bytes).0 ++ drop 5 bytes =
    e0 ∙ ap (λ (k : ℕ). k ∷ drop 1 bytes) kind ∙ ap (λ (rest : List ℕ). 5 ∷ rest) e1 in
    record {
      valid = tt;
      fits = number_below_4 1 bytes fits;
      front = ap (take 5) parts ∙ take_at (spelling (cut_at bytes).0) (drop 5 bytes) 5 refl;
      count = refl;
    }

message_spelled : (bytes : List ℕ) → IsBytes bytes → slice_index bytes 0 ≡ 2
    → first_fault (message_fields (slice_index bytes 6)) bytes ≡ None
    → Spells bytes (message_at bytes).0 (7 + slice_index bytes 6)
message_spelled bytes fits kind none =
    let p = all_pass (message_fields (slice_index bytes 6)) bytes none in
    let len = slice_index bytes 6 in
    let long : 7 + len ≤ length bytes = p.1.1.1.0.whole in
    let index = number_at w32 2 bytes in
    let text = take len (drop 7 bytes) in
    let e0 : bytes ≡ slice_index bytes 0 ∷ drop 1 bytes = drop-byte 0 bytes (omega arith) in
    let e1 : drop 1 bytes ≡ slice_index bytes 1 ∷ drop 2 bytes = drop-byte 1 bytes (omega arith) in
    let e2 : drop 2 bytes ≡ to_be_bytes w32 index ++ drop 6 bytes = drop-number_4 2 bytes fits (omega arith) in
    let e6 : drop 6 bytes ≡ len ∷ drop 7 bytes = drop-byte 6 bytes (omega arith) in
    let e7 : drop 7 bytes ≡ text ++ drop (7 + len) bytes = drop-bytes 7 len bytes in
    let text_len : length text ≡ len = omega (arith, length-take len (drop 7 bytes), length-drop 7 bytes) in
    let parts : bytes ≡ spelling (message_at bytes).0
    ++ drop (7 + len) bytes = e0 ∙ ap (λ (k : ℕ). k ∷ drop 1 bytes) kind ∙ ap (λ (rest : List ℕ). 2 ∷ rest) (e1
    ∙ ap (λ (rest : List ℕ). slice_index bytes 1 ∷ rest) (e2 ∙ ap (λ (rest : List ℕ). to_be_bytes w32 index ++ rest)
    (e6 ∙ ap (λ (k : ℕ). k ∷ drop 7 bytes) (sym text_len) ∙ ap (λ (rest : List ℕ). length text ∷ rest) e7))) in
    let count : 7 + len ≡ length (spelling (message_at bytes).0) = omega (arith, text_len) in
    record {
      valid = (
        grind (arith, nat_tests, p.0.kept, byte_is 1 bytes),
        grind (arith, nat_tests, p.1.1.0.kept, byte_is 6 bytes),
      );
      fits = number_below_4 2 bytes fits;
      front = ap (take (7 + len)) parts
          ∙ take_at (spelling (message_at bytes).0) (drop (7 + len) bytes) (7 + len) (sym count);
      count = count;
    }

trims_front : (k i : ℕ) (bytes : List ℕ) → IsBytes bytes → 8 + 4 * (i + k) ≤ length bytes
    → drop (8 + 4 * i) bytes ≡ flat_map (to_be_bytes w32)
    (map (λ s. number_at w32 (8 + 4 * s) bytes) (range_with_len i k)) ++ drop (8 + 4 * (i + k)) bytes
trims_front zero i bytes fits whole = let same : 8 + 4 * i ≡ 8 + 4 * (i + 0) = omega arith in
    ap (λ (at : ℕ). drop at bytes) same
trims_front (suc k) i bytes fits whole =
    let first : List ℕ = to_be_bytes w32 (number_at w32 (8 + 4 * i) bytes) in
    let others : List ℕ = flat_map (to_be_bytes w32)
    (map (λ s. number_at w32 (8 + 4 * s) bytes) (range_with_len (i + 1) k)) in
    let next : 8 + 4 * i + 4 ≡ 8 + 4 * (i + 1) = omega arith in
    let end : 8 + 4 * (i + 1 + k) ≡ 8 + 4 * (i + suc k) = omega arith in
    drop-number_4 (8 + 4 * i) bytes fits (omega arith) ∙ ap (λ (at : ℕ). first ++ drop at bytes) next
    ∙ ap (λ (rest : List ℕ). first ++ rest) (trims_front k (i + 1) bytes fits (omega arith)) ∙ ap (λ (at : ℕ). first
    ++ (others ++ drop at bytes)) end ∙ sym (append_assoc first others (drop (8 + 4 * (i + suc k)) bytes))

-- what follows the trims' fields
trims_whole : (k i : ℕ) (bytes : List ℕ) → AllByRecursion (Passes bytes) (map (λ s. free (8 + 4 * s) 4)
    (range_with_len i k)) → 8 + 4 * i ≤ length bytes → 8 + 4 * (i + k) ≤ length bytes
trims_whole zero i bytes pass whole = omega arith
trims_whole (suc k) i bytes pass whole = let next : 8 + 4 * (i + 1)
    ≤ length bytes = omega (arith, pass.0.whole) in omega (arith, trims_whole k (i + 1) bytes pass.1 next)

vote_spelled : (bytes : List ℕ) → IsBytes bytes → slice_index bytes 0 ≡ 3
    → first_fault (vote_fields (slice_index bytes 7)) bytes ≡ None
    → Spells bytes (records.Vote (vote_of bytes)) (8 + 4 * slice_index bytes 7)
vote_spelled bytes fits kind none =
    let n = slice_index bytes 7 in
    let p = all_pass (vote_fields n) bytes none in
    let long : 8 ≤ length bytes = p.1.1.1.1.0.whole in
    let few : n ≤ 16 = grind (arith, nat_tests, p.1.1.1.1.0.kept, byte_is 7 bytes) in
    let end : 8 + 4 * (0 + n) ≡ 8 + 4 * n = omega arith in
    let whole : 8 + 4 * (0 + n) ≤ length bytes = trims_whole n 0 bytes p.1.1.1.1.1.1.1 long in
    let age = number_at w16 1 bytes in
    let leavers = number_at w16 5 bytes in
    let read : List ℕ = map (λ s. number_at w32 (8 + 4 * s) bytes) (range_with_len 0 n) in
    let counts : List ℕ = flat_map (to_be_bytes w32) (take n (trims_at n bytes)) in
    let written : take n (trims_at n bytes) ≡ read = take_at read (replicate (16 - n) 0) n (read_len n bytes) in
    let e0 : bytes ≡ slice_index bytes 0 ∷ drop 1 bytes = drop-byte 0 bytes (omega arith) in
    let e1 : drop 1 bytes ≡ to_be_bytes w16 age ++ drop 3 bytes = drop-number_2 1 bytes fits (omega arith) in
    let e3 : drop 3 bytes ≡ slice_index bytes 3 ∷ drop 4 bytes = drop-byte 3 bytes (omega arith) in
    let e4 : drop 4 bytes ≡ slice_index bytes 4 ∷ drop 5 bytes = drop-byte 4 bytes (omega arith) in
    let e5 : drop 5 bytes ≡ to_be_bytes w16 leavers ++ drop 7 bytes = drop-number_2 5 bytes fits (omega arith) in
    let e7 : drop 7 bytes ≡ n ∷ drop 8 bytes = drop-byte 7 bytes (omega arith) in
    let e8 : drop 8 bytes ≡ counts ++ drop (8 + 4 * n) bytes = trims_front n 0 bytes fits whole
    ∙ ap (λ (at : ℕ). flat_map (to_be_bytes w32) read ++ drop at bytes) end
    ∙ ap (λ (xs : List ℕ). flat_map (to_be_bytes w32) xs ++ drop (8 + 4 * n) bytes) (sym written) in
    let parts : bytes ≡ vote_spelling (vote_of bytes) ++ drop (8 + 4 * n) bytes = e0 ∙ ap (λ (k : ℕ). k
    ∷ drop 1 bytes) kind ∙ ap (λ (rest : List ℕ). 3 ∷ rest) (e1 ∙ ap (λ (rest : List ℕ). to_be_bytes w16 age ++ rest)
    (e3 ∙ ap (λ (rest : List ℕ). slice_index bytes 3 ∷ rest) (e4 ∙ ap (λ (rest : List ℕ). slice_index bytes 4 ∷ rest)
    (e5 ∙ ap (λ (rest : List ℕ). to_be_bytes w16 leavers ++ rest) (e7 ∙ ap (λ (rest : List ℕ). n ∷ rest) e8))))) in
    let count : 8 + 4 * n ≡ length (vote_spelling (vote_of bytes)) =
    sym (vote_length (vote_of bytes) (length-trims_at n bytes few) few) in
    record {
      valid = record {
        members = few;
        ballot = grind (arith, nat_tests, p.1.1.1.1.1.0.kept, byte_is 4 bytes);
        leavers = grind (arith, nat_tests, p.1.1.1.1.1.1.0.kept);
        trim = λ s past. trims_at-past n s bytes past;
      };
      fits = record {
        age = number_below_2 1 bytes fits;
        view = fits 3;
        places = length-trims_at n bytes few;
        trim = λ s. trims_at-fits n s bytes fits;
      };
      front = ap (take (8 + 4 * n)) parts
          ∙ take_at (vote_spelling (vote_of bytes)) (drop (8 + 4 * n) bytes) (8 + 4 * n) (sym count);
      count = count;
    }

-- ---- both for all kinds

-- the spelling of a record decodes to that record, whatever bytes follow it
pub decoded_again : (r : Record) (rest : List ℕ) → IsValid r → Fits r → decoded (spelling r ++ rest)
    ≡ Ok (r, length (spelling r))
decoded_again (records.Entry (View age number members)) rest valid fits =
    view_again age number members rest fits valid
decoded_again (records.Entry (Msg sender index text)) rest valid fits =
    let count : 7 + length text ≡ length (entry_spelling (Msg sender index text)) = omega arith in
    message_again sender index text rest fits valid.0 valid.1
    ∙ ap (λ (n : ℕ). ok (records.Entry (Msg sender index text), n)) count
decoded_again (records.Vote vote) rest valid fits = vote_again vote rest fits valid
    ∙ ap (λ (n : ℕ). ok (records.Vote vote, n)) (sym (vote_length vote fits.places valid.members))
decoded_again (records.AgeVote vote) rest valid fits = age_vote_again vote rest fits valid
decoded_again (records.Cut keep) rest valid fits = cut_again keep rest fits
decoded_again records.Upgrade rest valid fits = refl

unless_ok : (fault : Option DecodeFault) (y x : Record × ℕ) → unless fault y ≡ Ok x → (fault ≡ None) × (y ≡ x)
unless_ok None y x e = (refl, cc)
unless_ok (Some fault) y x e = absurd (cc)

decoded_spells : (bytes : List ℕ) (x : Record × ℕ) → IsBytes bytes → decoded bytes ≡ Ok x → Spells bytes x.0 x.1
decoded_spells [] x fits e = absurd (cc)
decoded_spells (kind ∷ rest) x fits e =
    by (kind == 1) (kind == 2) (kind == 3) (kind == 4) (kind == 5) (kind == 6) refl refl refl refl refl refl
  where
    bytes : List ℕ
    bytes = kind ∷ rest

    is : (y : Record × ℕ) → Found bytes y → y ≡ x → Found bytes x
    is y found same = subst (λ (z : Record × ℕ). Found bytes z) same found

    by : (k1 k2 k3 k4 k5 k6 : Bool) → (kind == 1) ≡ k1 → (kind == 2) ≡ k2 → (kind == 3) ≡ k3
        → (kind == 4) ≡ k4 → (kind == 5) ≡ k5 → (kind == 6) ≡ k6 → Found bytes x
    by true k2 k3 k4 k5 k6 p q r s t v = let u =
        unless_ok (first_fault view_fields bytes) (view_at bytes) x (rw p at e) in
        is _ (view_spelled bytes fits (eqb-true kind 1 p) u.0) u.1
    by false true k3 k4 k5 k6 p q r s t v = let u =
        unless_ok (first_fault (message_fields (slice_index bytes 6)) bytes) (message_at bytes) x
        (rw (p, q) at e) in is _ (message_spelled bytes fits (eqb-true kind 2 q) u.0) u.1
    by false false true k4 k5 k6 p q r s t v = let u =
        unless_ok (first_fault (vote_fields (slice_index bytes 7)) bytes) (vote_at bytes) x
        (rw (p, q, r) at e) in is _ (vote_spelled bytes fits (eqb-true kind 3 r) u.0) u.1
    by false false false true k5 k6 p q r s t v = let u =
        unless_ok (first_fault age_vote_fields bytes) (age_vote_at bytes) x (rw (p, q, r, s) at e) in
        is _ (age_vote_spelled bytes fits (eqb-true kind 4 s) u.0) u.1
    by false false false false true k6 p q r s t v = let u =
        unless_ok (first_fault cut_fields bytes) (cut_at bytes) x (rw (p, q, r, s, t) at e) in
        is _ (cut_spelled bytes fits (eqb-true kind 5 t) u.0) u.1
    by false false false false false true p q r s t v = let u =
        unless_ok None upgrade_at x (rw (p, q, r, s, t, v) at e) in
        is _ (record { valid = tt; fits = tt; count = refl; front = ap (λ (k : ℕ). k ∷ []) (eqb-true kind 6 v) }) u.1
    by false false false false false false p q r s t v = let u =
        unless_ok (Some (BadKind 0 kind)) upgrade_at x (rw (p, q, r, s, t, v) at e) in absurd (cc (u.0))

-- ---- one spelling

ok_is : (x y : Record × ℕ) → ok x ≡ ok y → x ≡ y
ok_is x y e = cc

-- bytes that begin with the spelling of a record, and are that of another, are of one record and
-- nothing more
pub begins_one : (a b : Record) (rest : List ℕ) → IsValid a → Fits a → IsValid b → Fits b
    → spelling a ≡ spelling b ++ rest → (a ≡ b) × (rest ≡ [])
begins_one a b rest valid_a fits_a valid_b fits_b e =
    let one : decoded (spelling a) ≡ Ok (a, length (spelling a)) = ap decoded (sym (append-nil (spelling a)))
    ∙ decoded_again a [] valid_a fits_a in
    let both : ok (a, length (spelling a)) ≡ ok (b, length (spelling b)) = sym one ∙ ap decoded e
    ∙ decoded_again b rest valid_b fits_b in
    let same : ◌≡◌ {A = Record × ℕ} (a, length (spelling a)) (b, length (spelling b)) =
    ok_is (a, length (spelling a)) (b, length (spelling b)) both in
    let lengths : length (spelling a) ≡ length (spelling b) = ap (λ (x : Record × ℕ). x.1) same in (
      ap (λ (x : Record × ℕ). x.0) same,
      nil_from_length rest (omega (arith, ap length e, length-append (spelling b) rest)),
    )

-- ---- what decode answers

-- a record of n bytes is decoded exactly where the first n bytes spell it
pub accepted : (bytes : List ℕ) (result : Result (Record × ℕ) DecodeFault) → IsBytes bytes → result
    ≡ decoded bytes → (r : Record) (n : ℕ) → (result ≡ Ok (r, n)) ↔ Spells bytes r n
accepted bytes result fits is r n = (
  λ e. decoded_spells bytes (r, n) fits (sym is ∙ e),
  λ s.
      let parts : bytes ≡ spelling r ++ drop n bytes = sym (take-append-drop n bytes)
      ∙ ap (λ (front : List ℕ). front ++ drop n bytes) s.front in
      is ∙ ap decoded parts ∙ decoded_again r (drop n bytes) s.valid s.fits ∙ ap (λ (m : ℕ). ok (r, m)) (sym s.count),
)

-- spellings with whatever behind them are those of one record
pub one_record : (r s : Record) (x y : List ℕ) → IsValid r → Fits r → IsValid s → Fits s
    → spelling r ++ x ≡ spelling s ++ y → r ≡ s
one_record r s x y vr fr vs fs same =
    let first = decoded_again r x vr fr in
    let second = decoded_again s y vs fs in
    let alike : ◌≡◌ {A = Result (Record × ℕ) DecodeFault} (Ok (r, length (spelling r)))
    (Ok (s, length (spelling s))) = sym first ∙ ap decoded same ∙ second in
    let pairs : ◌≡◌ {A = Record × ℕ} (r, length (spelling r)) (s, length (spelling s)) = cc in
    ap (λ (x : Record × ℕ). x.0) pairs

-- bytes begin with the spelling of one record
pub one_spelled : (bytes : List ℕ) (r s : Record) (n m : ℕ) → Spells bytes r n → Spells bytes s m → r ≡ s
one_spelled bytes r s n m a b = one_record r s (drop n bytes) (drop m bytes) a.valid a.fits b.valid b.fits
    (ap (λ (l : List ℕ). l ++ drop n bytes) (sym a.front) ∙ take-append-drop n bytes
    ∙ sym (ap (λ (l : List ℕ). l ++ drop m bytes) (sym b.front) ∙ take-append-drop m bytes))
