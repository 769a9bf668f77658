-- The script of a shard keeps the rules of a script.
use Rattle.std.{specs.List.{cons_option, position_or_len}, proofs.lemmas.List.{length-map, map-append}}
use Rattle.std.specs.{Option.option_map, Prelude.{All, None, Some, filter_map, map, slice_index_or, position}}
use Rattle.std.proofs.Common.{◌≡◌, ℕ, suc, ◌+◌, ◌/◌, ◌%◌, ◌<◌, ◌≤◌, Bool, true, false, cond, not, eqb, ltb, ◌++◌, List, [], ◌∷◌, length, refl, ap, sym, subst, ◌∙◌, arith}
use Rattle.std.proofs.{Math.Nat.mod-eq_of_lt, lemmas.{Bool.{eqb-true, ltb-false}, Option.same_Some}}
use Rattle.std.proofs.lemmas.List.{Elements.All-cons, FromFn.{get_or-map-range_with_len, length-map-range_with_len}}
use Rattle.dr_entry.{specs.declared.limits.TheConstants.{MAX_MESSAGE_LENGTH, MAX_MESSAGES}, proofs.Bits.all_map}
use Rattle.dr_entry.proofs.{ListParts.none_passes, ListPlaces.any_or, OptionFacts.same_number}
use Rattle.dr_script.specs.{Ranges.{HasFaultRanges, HasRanges, HasWhatRanges}, declared.script.Fault.Fault}
use Rattle.dr_script.specs.declared.script.{Script.Script, What.{What, TheVariants.{Crash, Suspect}}}
use Rattle.dr_shards.specs.Layout.{crosses, crosses_by, shard_fault, is_of_shard, layout, shard_members, shard_messages, lay_refusal, renumbered, shard_of}
use Rattle.dr_shards.specs.declared.fault.LayFault.TheVariants.{Crosses, ManyAges, NoShard}
use Rattle.dr_shards.proofs.Counting.{count_above, count_most, members_more}

-- no suspicion crosses shards
abbrev pub NoneCross : ℕ → List Fault → Type 0
NoneCross shards faults = All (λ f. crosses shards f ≡ false) faults

all_found : (shards k : ℕ) (P Q : Fault → Type 0) → ((f g : Fault) → P f → crosses shards f ≡ false
    → shard_fault shards k f ≡ Some g → Q g) → (faults : List Fault) → All P faults → NoneCross shards faults
    → All Q (filter_map (shard_fault shards k) faults)
all_found shards k P Q each [] all none = λ n d within. absurd (omega (arith, within))
all_found shards k P Q each (f ∷ faults) all none =
    let rest = all_found shards k P Q each faults (λ n d within. all (suc n) d (omega arith))
    (λ n d within. none (suc n) d (omega arith)) in
    elim (shard_fault shards k f) as (λ x. shard_fault shards k f ≡ x
    → All Q (cons_option x (filter_map (shard_fault shards k) faults))) [
      | None ↦ λ _. rest
      | Some g ↦ λ is. All-cons Q g (filter_map (shard_fault shards k) faults)
          (each f g (all 0 f (omega arith)) (none 0 f (omega arith)) is) rest
    ] refl

few_found : (shards k : ℕ) (faults : List Fault) → length (filter_map (shard_fault shards k) faults) ≤ length faults
few_found shards k [] = omega arith
few_found shards k (f ∷ faults) =
    let rest = few_found shards k faults in
    elim (shard_fault shards k f) as (λ x. length (cons_option x (filter_map (shard_fault shards k) faults)) ≤
    suc (length faults)) [ None ↦ omega (arith, rest) | Some g ↦ omega (arith, rest) ]

module _ (script : Script) (ranges : HasRanges script) (shards k : ℕ) (some : 0 < shards) (below : k < shards)
    (enough : shards ≤ script.members) where
  -- what happens to a member of the shard
  what_in : (m : ℕ) (w : What) → HasWhatRanges script m w → m % shards ≡ k → crosses_by shards m w ≡ false
      → HasWhatRanges (shard_of script shards k) (m / shards) (renumbered shards w)
  what_in m (Crash turn push) has here apart = has
  what_in m (Suspect turn other) has here apart =
      let there : other % shards ≡ m % shards = eqb-true (other % shards) (m % shards) (not_false _ apart) in (
        has.0,
        has.1,
        count_above shards k script.members other some has.2 (there ∙ here),
        λ same. has.3 (same_number shards other m there same),
      )
    where
      not_false : (b : Bool) → not b ≡ false → b ≡ true
      not_false true e = refl
      not_false false e = absurd (cc e)

  fault_ranges : (f g : Fault) → HasFaultRanges script f → crosses shards f ≡ false
      → shard_fault shards k f ≡ Some g → HasFaultRanges (shard_of script shards k) g
  fault_ranges f g has apart is =
      elim (is_of_shard shards k f.member) as (λ b. is_of_shard shards k f.member ≡ b → cond b (Some (record {
        age = f.age;
        member = f.member / shards;
        what = renumbered shards f.what;
      })) None ≡ Some g → HasFaultRanges (shard_of script shards k) g) [
        | false ↦ λ _ no. absurd (cc no)
        | true ↦ λ at found.
            let here : f.member % shards ≡ k = eqb-true (f.member % shards) k at in
            subst (HasFaultRanges (shard_of script shards k)) (same_Some _ _ found) (record {
              age = has.age;
              member = count_above shards k script.members f.member some has.member here;
              what = what_in f.member f.what has.what here apart;
            })
      ] refl is

  pub shard_ranges : NoneCross shards script.faults → HasRanges (shard_of script shards k)
  shard_ranges apart = record {
    group = record {
      some_member = omega (
        arith,
        count_above shards k script.members k some (omega (arith, below, enough)) (mod-eq_of_lt below),
      );
      most_members = omega (arith, count_most shards k script.members, ranges.group.most_members);
      some_slot = ranges.group.some_slot;
      most_slots = ranges.group.most_slots;
      lists = length-map (shard_members shards k script.members) (λ m. slice_index_or script.messages m []);
      few = all_map (λ m. slice_index_or script.messages m []) (λ ms. length ms ≤ MAX_MESSAGES)
          (λ m. any_or (λ ms. length ms ≤ MAX_MESSAGES) script.messages m ranges.group.few (omega arith))
          (shard_members shards k script.members);
      short = all_map (λ m. slice_index_or script.messages m []) (All (λ bytes. length bytes ≤ MAX_MESSAGE_LENGTH))
          (λ m. any_or (All (λ (bytes : List ℕ). length bytes ≤ MAX_MESSAGE_LENGTH)) script.messages m
          ranges.group.short (λ n d within. absurd (omega (arith, within)))) (shard_members shards k script.members);
      bytes = all_map (λ m. slice_index_or script.messages m []) (All (All (λ byte. byte < 256)))
          (λ m. any_or (All (All (λ (byte : ℕ). byte < 256))) script.messages m ranges.group.bytes
          (λ n d within. absurd (omega (arith, within)))) (shard_members shards k script.members);
    };
    some_turn = ranges.some_turn;
    most_turns = ranges.most_turns;
    patience = ranges.patience;
    some_age = ranges.some_age;
    most_ages = ranges.most_ages;
    few_faults = omega (arith, few_found shards k script.faults, ranges.few_faults);
    faults = all_found shards k (HasFaultRanges script) (HasFaultRanges (shard_of script shards k))
        fault_ranges script.faults ranges.faults apart;
  }

-- a script that is laid out has enough members, one age, and no suspicion that crosses shards
pub record LaysOut (script : Script) (shards : ℕ) : Type 0 where
  pub enough : shards ≤ script.members
  pub one_age : script.ages ≡ 1
  pub apart : NoneCross shards script.faults

pub lays_out : (script : Script) (shards : ℕ) → lay_refusal script shards ≡ None → LaysOut script shards
lays_out script shards unrefused = elim (ltb script.members shards) as (λ b. ltb script.members shards ≡ b
    → cond b (Some (NoShard shards script.members))
    (cond (eqb script.ages 1) (option_map (λ fault. Crosses fault) (position (crosses shards) script.faults))
    (Some (ManyAges script.ages))) ≡ None → LaysOut script shards) [
      | true ↦ λ _ no. absurd (cc no)
      | false ↦ λ enough. elim (eqb script.ages 1) as (λ b. eqb script.ages 1 ≡ b
          → cond b (option_map (λ fault. Crosses fault) (position (crosses shards) script.faults))
          (Some (ManyAges script.ages)) ≡ None → LaysOut script shards) [
            | false ↦ λ _ no. absurd (cc no)
            | true ↦ λ one. elim (ltb (position_or_len (crosses shards) script.faults) (length script.faults)) as
                (λ b. ltb (position_or_len (crosses shards) script.faults) (length script.faults) ≡ b
                → option_map (λ fault. Crosses fault)
                (cond b (Some (position_or_len (crosses shards) script.faults)) None) ≡ None
                → LaysOut script shards) [
                  | true ↦ λ _ no. absurd (cc no)
                  | false ↦ λ none _. record {
                    enough = ltb-false script.members shards enough;
                    one_age = eqb-true script.ages 1 one;
                    apart = none_passes (crosses shards) script.faults
                        (ltb-false (position_or_len (crosses shards) script.faults) (length script.faults) none);
                  }
                ] refl
          ] refl
    ] refl unrefused

-- the scripts of its shards keep the rules, and each has one age
pub layout_ranges : (script : Script) (shards : ℕ) → HasRanges script → 0 < shards → LaysOut script shards
    → All (λ (s : Script). HasRanges s × (s.ages ≡ 1)) (layout script shards)
layout_ranges script shards ranges some lays k d within =
    let below : k < shards = omega (arith, within, length-map-range_with_len (shard_of script shards) 0 shards) in
    subst (λ (s : Script). HasRanges s × (s.ages ≡ 1))
    (sym (get_or-map-range_with_len (shard_of script shards) 0 shards k k d below (omega arith)))
    (shard_ranges script ranges shards k some below lays.enough lays.apart, lays.one_age)

-- the messages of one more member, where it is of the shard
pub messages_more : (script : Script) (shards k n : ℕ) (b : Bool) → is_of_shard shards k n ≡ b
    → map (λ m. slice_index_or script.messages m []) (shard_members shards k (n + 1)) ≡ map
    (λ m. slice_index_or script.messages m []) (shard_members shards k n) ++ cond b
    (slice_index_or script.messages n [] ∷ []) []
messages_more script shards k n b is = ap (map (λ m. slice_index_or script.messages m [])) (members_more shards k n)
    ∙ map-append (λ m. slice_index_or script.messages m []) (shard_members shards k n) (cond (is_of_shard shards k n)
    (n ∷ []) []) ∙ ap (λ xs. map (λ m. slice_index_or script.messages m []) (shard_members shards k n) ++ xs)
    (alone (is_of_shard shards k n) ∙ ap (λ x. cond x (slice_index_or script.messages n [] ∷ []) []) is)
  where
    alone : (x : Bool) → map (λ m. slice_index_or script.messages m []) (cond x (n ∷ []) []) ≡ cond x
        (slice_index_or script.messages n [] ∷ []) []
    alone true = refl
    alone false = refl

-- a shard has as many members as it has lists of messages, which are few
pub lists_few : (script : Script) (shards k : ℕ) → length (shard_messages script shards k) ≤ script.members
lists_few script shards k = omega (
  arith,
  length-map (shard_members shards k script.members) (λ m. slice_index_or script.messages m []),
  count_most shards k script.members,
)
