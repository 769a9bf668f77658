-- A drill keeps the rules of a script.
use Rattle.std.{specs.Prelude.All, proofs.Common.{◌≡◌, ℕ, ◌*◌, ◌<◌, ◌≤◌, List, [], ◌∷◌, length, arith, inr}}
use Rattle.std.proofs.lemmas.List.{Elements.All-cons, FromFn.length-map-range_with_len}
use Rattle.dr_entry.{specs.declared.limits.TheConstants.{MAX_MESSAGE_LENGTH, MAX_MESSAGES}, proofs.ListParts.all_map}
use Rattle.dr_script.specs.Ranges.{HasFaultRanges, HasRanges}
use Rattle.dr_drill.specs.Drill.{early_crash, drill, letter, message, messages_of_member}
use Rattle.dr_drill.proofs.Letters.{letter-most}

letters : (seed k : ℕ) → All (λ byte. byte < 256) (message seed k)
unfolding message
letters seed k = all_map (letter seed) (λ byte. byte < 256) (λ n. omega (arith, letter-most seed n)) (32 * k) 32

long : (seed k : ℕ) → length (message seed k) ≡ 32
unfolding message
long seed k = length-map-range_with_len (letter seed) (32 * k) 32

many : (seed m : ℕ) → length (messages_of_member seed m) ≡ 400
unfolding messages_of_member
many seed m = length-map-range_with_len (message seed) (400 * m) 400

each : (seed m : ℕ) (P : List ℕ → Type 0) → ((k : ℕ) → P (message seed k)) → All P (messages_of_member seed m)
unfolding messages_of_member
each seed m P holds = all_map (message seed) P holds (400 * m) 400

crashes : (seed member : ℕ) → member < 5 → HasFaultRanges (drill seed) (early_crash member)
crashes seed member below = record {
  age = omega arith;
  member = below;
  what = (omega arith, omega arith, omega arith);
}

pub drill_ranges : (seed : ℕ) → HasRanges (drill seed)
drill_ranges seed = record {
  group = record {
    some_member = omega arith;
    most_members = omega arith;
    some_slot = omega arith;
    most_slots = omega arith;
    lists = length-map-range_with_len (messages_of_member seed) 0 5;
    few = all_map (messages_of_member seed) (λ ms. length ms ≤ MAX_MESSAGES) (λ m. omega (arith, many seed m)) 0 5;
    short = all_map (messages_of_member seed) (All (λ bytes. length bytes ≤ MAX_MESSAGE_LENGTH))
        (λ m. each seed m (λ bytes. length bytes ≤ MAX_MESSAGE_LENGTH) (λ k. omega (arith, long seed k))) 0 5;
    bytes = all_map (messages_of_member seed) (All (All (λ byte. byte < 256)))
        (λ m. each seed m (All (λ byte. byte < 256)) (letters seed)) 0 5;
  };
  some_turn = omega arith;
  most_turns = omega arith;
  patience = inr (omega arith, omega arith);
  some_age = omega arith;
  most_ages = omega arith;
  few_faults = omega arith;
  faults = All-cons (HasFaultRanges (drill seed)) (early_crash 3) (early_crash 4 ∷ [])
      (crashes seed 3 (omega arith)) (All-cons (HasFaultRanges (drill seed)) (early_crash 4) []
      (crashes seed 4 (omega arith)) (λ k d within. absurd (omega (arith, within))));
}
