-- How many members a shard has.
use Rattle.std.specs.{Fmt.decimal, List.range_with_len, Prelude.{filter, codes}}
use Rattle.std.proofs.Common.{◌≡◌, ℕ, zero, suc, ◌+◌, ◌-◌, ◌/◌, ◌%◌, ◌<◌, ◌≤◌, Bool, true, false, cond, ltb, [], ◌∷◌, ◌++◌, length, refl, ap, sym, ◌∙◌, arith, List, All, if◌then◌else◌, append_assoc, ap₂}
use Rattle.std.proofs.Math.Nat.{add-div_right, add-mod_right, div-eq_of_lt}
use Rattle.std.proofs.lemmas.{Bool.{eq-eqb, ltb-true, ltb-false}, List.{length-append, append-nil}}
use Rattle.std.proofs.lemmas.List.Elements.{filter-append, All-cons, All-nil, All-head, All-tail}
use Rattle.dr_entry.specs.declared.{end.AgeEnd.AgeEnd, limits.TheConstants.MAX_MEMBERS}
use Rattle.dr_entry.proofs.{ListFacts.{commas, has_none, one_more, longer, commas_more}, ListPlaces.range_more}
use Rattle.dr_entry.proofs.NumberFacts.{moved, one_more_most, wider}
use Rattle.dr_script.specs.{Ranges.HasRanges, declared.script.Script.Script}
use Rattle.dr_shards.specs.{Layout.{is_of_shard, shard_members}, Shards.AreShardAges}
use Rattle.dr_shards.specs.declared.run.ShardMode.{ShardMode}

-- one more member of the roster, of the shard or not
pub members_more : (shards k n : ℕ)
    → shard_members shards k (n + 1) ≡ shard_members shards k n ++ cond (is_of_shard shards k n) (n ∷ []) []
members_more shards k n = ap (filter (is_of_shard shards k)) (range_more 0 n)
    ∙ filter-append (is_of_shard shards k) (range_with_len 0 n) ((0 + n) ∷ [])
    ∙ moved (λ m. shard_members shards k n ++ cond (is_of_shard shards k m) (m ∷ []) []) (0 + n) n (omega arith)

count_more : (shards k n : ℕ) → length (shard_members shards k (n + 1)) ≡ length (shard_members shards k n) + cond
    (is_of_shard shards k n) 1 0
count_more shards k n = ap length (members_more shards k n)
    ∙ length-append (shard_members shards k n) (cond (is_of_shard shards k n) (n ∷ []) [])
    ∙ ap (λ c. length (shard_members shards k n) + c) (alone (is_of_shard shards k n))
  where
    alone : (b : Bool) → length (cond b (n ∷ []) []) ≡ cond b 1 0
    alone true = refl
    alone false = refl

pub counted : (shards k n : ℕ) → length (shard_members shards k (suc n)) ≡ length (shard_members shards k n) + cond
    (is_of_shard shards k n) 1 0
counted shards k n = moved (λ m. length (shard_members shards k m)) (suc n) (n + 1) (omega arith)
    ∙ count_more shards k n

-- a shard has no more members than there are
pub count_most : (shards k n : ℕ) → length (shard_members shards k n) ≤ n
count_most shards k zero = omega arith
count_most shards k (suc n) = one_more_most (is_of_shard shards k n) _ (length (shard_members shards k n)) n
    (counted shards k n) (count_most shards k n)

-- each of its members has a number below their count
pub count_above : (shards k n i : ℕ) → 0 < shards → i < n → i % shards ≡ k
    → i / shards < length (shard_members shards k n)
count_above shards k zero i some below is = absurd (omega (arith, below))
count_above shards k (suc n) i some below is =
    elim (ltb i n) as (λ b. ltb i n ≡ b → i / shards < length (shard_members shards k (suc n))) [
      | true ↦ λ earlier. wider (is_of_shard shards k n) _ (length (shard_members shards k n)) (i / shards)
          (counted shards k n) (count_above shards k n i some (ltb-true i n earlier) is)
      | false ↦ λ last.
          let same : i ≡ n = omega (arith, ltb-false i n last, below) in
          let here : is_of_shard shards k n ≡ true =
          eq-eqb (n % shards) k (moved (λ m. m % shards) n i (sym same) ∙ is) in
          let e : length (shard_members shards k (suc n)) ≡ length (shard_members shards k n) + 1 =
          counted shards k n ∙ ap (λ b. length (shard_members shards k n) + cond b 1 0) here in
          elim (ltb n shards) as (λ b. ltb n shards ≡ b → i / shards < length (shard_members shards k (suc n))) [
            | true ↦ λ early. omega (
              arith,
              e,
              moved (λ m. m / shards) i n same,
              div-eq_of_lt (ltb-true n shards early),
            )
            | false ↦ λ later.
                let m = n - shards in
                let long = ltb-false n shards later in
                let sum : i ≡ m + shards = omega (arith, same, long) in
                let rest : m % shards ≡ k = sym (add-mod_right m shards)
                ∙ moved (λ x. x % shards) (m + shards) i (sym sum) ∙ is in
                let quotient : i / shards ≡ m / shards + 1 = moved (λ x. x / shards) i (m + shards) sum
                ∙ add-div_right m some in
                omega (arith, e, quotient, count_above shards k n m some (omega (arith, some, long)) rest)
          ] refl
    ] refl

-- each age has as many members as the script of its shard
pub few_members : (mode : ShardMode) (scripts : List Script) (ages : List AgeEnd)
    → All (λ (s : Script). HasRanges s × (s.ages ≡ 1)) scripts → AreShardAges mode scripts ages
    → All (λ (age : AgeEnd). length age.members ≤ MAX_MEMBERS) ages
few_members mode [] ages ranges are = rw are (All-nil (λ (age : AgeEnd). length age.members ≤ MAX_MEMBERS))
few_members mode (s ∷ scripts) [] ranges are = absurd are
few_members mode (s ∷ scripts) (age ∷ ages) ranges (is, rest) =
    let first = All-head (λ (s : Script). HasRanges s × (s.ages ≡ 1)) s scripts ranges in
    All-cons (λ (a : AgeEnd). length a.members ≤ MAX_MEMBERS) age ages
    (omega (arith, is.played.roster, first.0.group.most_members))
    (few_members mode scripts ages (All-tail (λ (s : Script). HasRanges s × (s.ages ≡ 1)) s scripts ranges) rest)

-- the members of shard k below n
abbrev pub listed : ℕ → ℕ → ℕ → List ℕ
listed shards k n = commas (shard_members shards k n)

-- a member of the shard comes behind the others
pub taken : (shards k n : ℕ) (first : Bool) (old now new : List ℕ) → is_of_shard shards k n ≡ true
    → (first ≡ has_none (shard_members shards k n)) × (now ≡ old ++ listed shards k n)
    → new ≡ now ++ (if first then [] else codes ",") ++ decimal n
    → (false ≡ has_none (shard_members shards k (n + 1))) × (new ≡ old ++ listed shards k (n + 1))
taken shards k n first old now new is before after =
    let ns = shard_members shards k n in
    let more : shard_members shards k (n + 1) ≡ ns ++ n ∷ [] =
    members_more shards k n ∙ ap (λ b. ns ++ cond b (n ∷ []) []) is in (
      sym (ap has_none more ∙ longer ns n),
      after ∙ append_assoc now (if first then [] else codes ",") (decimal n)
          ∙ ap₂ (λ a b. a ++ one_more b n) before.1 before.0 ∙ append_assoc old (commas ns) (one_more (has_none ns) n)
          ∙ ap (λ l. old ++ l) (sym (ap commas more ∙ commas_more ns n)),
    )

-- another one doesn't
pub passed_over : (shards k n : ℕ) (first : Bool) (old now : List ℕ) → is_of_shard shards k n ≡ false
    → (first ≡ has_none (shard_members shards k n)) × (now ≡ old ++ listed shards k n)
    → (first ≡ has_none (shard_members shards k (n + 1))) × (now ≡ old ++ listed shards k (n + 1))
passed_over shards k n first old now other before =
    let ns = shard_members shards k n in
    let same : ns ≡ shard_members shards k (n + 1) =
    sym (members_more shards k n ∙ ap (λ b. ns ++ cond b (n ∷ []) []) other ∙ append-nil ns) in
    (before.0 ∙ ap has_none same, before.1 ∙ ap (λ l. old ++ commas l) same)
