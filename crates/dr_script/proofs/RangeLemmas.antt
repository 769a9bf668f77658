-- The ranges of a script that keeps all rules.
use Rattle.std.specs.List.{All, filter_map}
use Rattle.std.specs.Prelude.{◌==◌, ◌&&◌, ◌||◌, if◌then◌else◌, codes, nat_le, nat_lt, is_some, unwrap_or}
use Rattle.std.proofs.Common.{◌≡◌, ◌≢◌, ◌⊎◌, inl, inr, ℕ, ◌+◌, ◌<◌, ◌≤◌, Bool, true, false, not, List, [], ◌∷◌, length, Option, Some, None, refl, sym, ◌∙◌, subst, arith}
use Rattle.std.proofs.lemmas.{Bool.{leb-true, ltb-true, eqb-true}, List.{length-map, Elements.All-cons}}
use Rattle.dr_script.specs.Json.{◌>>=◌, only_if, list_at, elements_of, within, below, whole_of, number_at, number_below, pair_at}
use Rattle.dr_script.specs.{Places.{unless, each_from, broken_at}, Ranges.{HasRanges, HasFaultRanges, HasWhatRanges}}
use Rattle.dr_script.{specs.Reading.{messages_in, script_of}, proofs.EachLemmas.{broken_at_append, neither}}
use Rattle.dr_script.specs.Rules.{object_breaks, keys_breaks, members_of, members_breaks, window_of, window_breaks, turns_of, turns_breaks, patience_of, patience_breaks, ages_of, ages_breaks, sizes_of, are_lists, lists_of, messages_breaks, lists_in, is_short, texts_breaks, text_of, few_faults_of, faults_in, age_of, member_of, crash_of, suspect_of, what_of, fault_of, rules, first_broken}
use Rattle.dr_script.specs.declared.{passage.Passage.Passage, script.{Fault.Fault, What.TheVariants.{Crash, Suspect}}}
use Rattle.dr_script.specs.declared.{script.{Script.Script, What.What}, sizes.Sizes.Sizes}
use Rattle.dr_script.specs.declared.passage.Passage.TheVariants as places
use Rattle.serde_json.specs.{Data.Data, Find.{get, as_str}}
use Rattle.dr_entry.proofs.{BoolFacts.{both, either}, ListFacts.length_filter_map}
use Rattle.dr_entry.proofs.{ListParts.{nothing, all_filter_map}, NumberFacts.not_same, OptionFacts.{then_some, there}}

kept : (rule : ℕ) (test : Bool) (place : Passage) → broken_at rule (unless test place) ≡ None → test ≡ true
kept rule true place is = refl
kept rule false place is = absurd cc

-- what holds of a number that passes a test
only_if_some : {A : Type 0} (P : A → Type 0) (test : Bool) (x y : A) → (test ≡ true → P x)
    → only_if test x ≡ Some y → P y
only_if_some P true x y holds is = let same : x ≡ y = cc in subst P same (holds refl)
only_if_some P false x y holds is = absurd cc

within_some : (low high n m : ℕ) → within low high n ≡ Some m → (low ≤ m) × (m ≤ high)
within_some low high n m is = only_if_some (λ k. (low ≤ k) × (k ≤ high)) (nat_le low n && nat_le n high) n m
    (λ passed. let parts = both (nat_le low n) (nat_le n high) passed in
    (leb-true low n parts.0, leb-true n high parts.1)) is

below_some : (limit n m : ℕ) → below limit n ≡ Some m → m < limit
below_some limit n m is = only_if_some (λ k. k < limit) (nat_lt n limit) n m (λ passed. ltb-true n limit passed) is

number_at_some : (key : List ℕ) (low high : ℕ) (d : Data) (m : ℕ) → number_at key low high d
    ≡ Some m → (low ≤ m) × (m ≤ high)
number_at_some key low high d m is = then_some (λ k. (low ≤ k) × (k ≤ high))
    (within low high) (get key d >>= whole_of) m (λ n _ here. within_some low high n m here) is

number_below_some : (key : List ℕ) (limit : ℕ) (d : Data) (m : ℕ) → number_below key limit d ≡ Some m → m < limit
number_below_some key limit d m is = then_some (λ k. k < limit) (below limit) (get key d >>= whole_of) m
    (λ n _ here. below_some limit n m here) is

abbrev HasPatience : ℕ → Type 0
HasPatience n = (n ≡ 0) ⊎ ((3 ≤ n) × (n ≤ 1000000))

patience_some : (d : Data) (m : ℕ) → patience_of d ≡ Some m → HasPatience m
patience_some d m is = then_some HasPatience (λ n. only_if (n == 0 || nat_le 3 n) n)
    (number_at (codes "patience") 0 1000000 d) m
    (λ n read here. only_if_some HasPatience (n == 0 || nat_le 3 n) n m
    (λ passed. let most = number_at_some (codes "patience") 0 1000000 d n read in
    elim (either (n == 0) (nat_le 3 n) passed)
    [ inl zero ↦ inl (eqb-true n 0 zero) | inr more ↦ inr (leb-true 3 n more, most.1) ]) here) is

lists_some : (members : ℕ) (d : Data) (lists : List Data) → lists_of members d ≡ Some lists → length lists ≡ members
lists_some members d lists is = then_some (λ ls. length ls ≡ members) (λ ls. only_if (are_lists members ls) ls)
    (list_at (codes "messages") d) lists
    (λ ls _ here. only_if_some (λ es. length es ≡ members) (are_lists members ls) ls lists
    (λ passed. eqb-true (length ls) members (both (length ls == members) _ passed).0) here) is

few_some : (d : Data) (faults : List Data) → few_faults_of d ≡ Some faults → length faults ≤ 256
few_some d faults is = then_some (λ fs. length fs ≤ 256) (λ fs. only_if (nat_le (length fs) 256) fs)
    (list_at (codes "faults") d) faults
    (λ fs _ here. only_if_some (λ es. length es ≤ 256) (nat_le (length fs) 256) fs faults
    (λ passed. leb-true (length fs) 256 passed) here) is

text_some : (d : Data) (bytes : List ℕ) → text_of d ≡ Some bytes → length bytes ≤ 64
text_some d bytes is = then_some (λ bs. length bs ≤ 64) (λ bs. only_if (nat_le (length bs) 64) bs) (as_str d) bytes
    (λ bs _ here. only_if_some (λ es. length es ≤ 64) (nat_le (length bs) 64) bs bytes
    (λ passed. leb-true (length bs) 64 passed) here) is

-- what a fault of a script of these sizes has
abbrev HasWhat : Sizes → ℕ → What → Type 0
HasWhat sizes member (Crash turn push) = (1 ≤ turn) × (turn ≤ sizes.turns) × (push ≤ 65535)
HasWhat sizes member (Suspect turn other) = (1 ≤ turn) × (turn ≤ sizes.turns)
    × (other < sizes.members) × (other ≢ member)

crash_some : (sizes : Sizes) (member : ℕ) (d : Data) (what : What) → crash_of sizes d ≡ Some what
    → HasWhat sizes member what
crash_some sizes member d what is = then_some (HasWhat sizes member)
    (λ pair. within 1 sizes.turns pair.0 >>= (λ turn. within 0 65535 pair.1 >>= (λ push. Some (Crash turn push))))
    (pair_at (codes "crash") d) what
    (λ pair _ more. then_some (HasWhat sizes member)
    (λ turn. within 0 65535 pair.1 >>= (λ push. Some (Crash turn push))) (within 1 sizes.turns pair.0) what
    (λ turn turns last. then_some (HasWhat sizes member) (λ push. Some (Crash turn push)) (within 0 65535 pair.1) what
    (λ push pushes same. let e : Crash turn push ≡ what = cc in
    let t = within_some 1 sizes.turns pair.0 turn turns in
    subst (HasWhat sizes member) e (t.0, t.1, (within_some 0 65535 pair.1 push pushes).1)) last) more) is

suspect_some : (sizes : Sizes) (member : ℕ) (d : Data) (what : What) → suspect_of sizes member d
    ≡ Some what → HasWhat sizes member what
suspect_some sizes member d what is = then_some (HasWhat sizes member)
    (λ pair. within 1 sizes.turns pair.0 >>=
    (λ turn. below sizes.members pair.1 >>=
    (λ other. only_if (not (other == member)) (Suspect turn other)))) (pair_at (codes "suspect") d) what
    (λ pair _ more. then_some (HasWhat sizes member)
    (λ turn. below sizes.members pair.1 >>= (λ other. only_if (not (other == member)) (Suspect turn other)))
    (within 1 sizes.turns pair.0) what (λ turn turns last. then_some (HasWhat sizes member)
    (λ other. only_if (not (other == member)) (Suspect turn other)) (below sizes.members pair.1) what
    (λ other others only. only_if_some (HasWhat sizes member) (not (other == member)) (Suspect turn other) what
    (λ passed. let t = within_some 1 sizes.turns pair.0 turn turns in
    (t.0, t.1, below_some sizes.members pair.1 other others, not_same other member passed)) only) last) more) is

what_some : (crashes : Bool) (sizes : Sizes) (member : ℕ) (d : Data) (what : What)
    → (if crashes then crash_of sizes d else suspect_of sizes member d) ≡ Some what → HasWhat sizes member what
what_some true sizes member d what is = crash_some sizes member d what is
what_some false sizes member d what is = suspect_some sizes member d what is

abbrev fault_with : ℕ → ℕ → What → Fault
fault_with age member what = record { age = age; member = member; what = what }

record HasFault (sizes : Sizes) (fault : Fault) : Type 0 where
  age : fault.age < sizes.ages
  member : fault.member < sizes.members
  what : HasWhat sizes fault.member fault.what

fault_some : (sizes : Sizes) (d : Data) (fault : Fault) → fault_of sizes d ≡ Some fault → HasFault sizes fault
fault_some sizes d fault is = then_some (HasFault sizes)
    (λ age. member_of sizes d >>= (λ member. what_of sizes member d >>= (λ what. Some (fault_with age member what))))
    (age_of sizes d) fault (λ age ages more. then_some (HasFault sizes)
    (λ member. what_of sizes member d >>= (λ what. Some (fault_with age member what))) (member_of sizes d) fault
    (λ member members last. then_some (HasFault sizes) (λ what. Some (fault_with age member what))
    (what_of sizes member d) fault (λ what whats same. let e : fault_with age member what ≡ fault = cc in
    subst (HasFault sizes) e (record {
      age = number_below_some (codes "age") sizes.ages d age ages;
      member = number_below_some (codes "member") sizes.members d member members;
      what = what_some (is_some (get (codes "crash") d)) sizes member d what whats;
    })) last) more) is

short_lists : (n : ℕ) (lists : List Data)
    → broken_at 9 (each_from n (λ member list. unless (is_short list) (places.Texts member)) lists)
    ≡ None → All (λ messages. length messages ≤ 4096) (messages_in lists)
short_lists n [] none = nothing (λ messages. length messages ≤ 4096)
short_lists n (list ∷ lists) none =
    let here = unless (is_short list) (places.Texts n) in
    let more = each_from (n + 1) (λ member es. unless (is_short es) (places.Texts member)) lists in
    let parts = neither (broken_at 9 here) (broken_at 9 more) (sym (broken_at_append 9 here more) ∙ none) in
    let few = leb-true (length (elements_of list)) 4096 (kept 9 (is_short list) (places.Texts n) parts.0) in
    let fewer = length_filter_map text_of (elements_of list) in
    All-cons (λ messages. length messages ≤ 4096) (filter_map text_of (elements_of list))
    (messages_in lists) (omega arith) (short_lists (n + 1) lists parts.1)

short_texts : (lists : List Data) → All (All (λ bytes. length bytes ≤ 64)) (messages_in lists)
short_texts [] = nothing (All (λ bytes. length bytes ≤ 64))
short_texts (list ∷ lists) = All-cons (All (λ bytes. length bytes ≤ 64)) (filter_map text_of (elements_of list))
    (messages_in lists) (all_filter_map (λ bytes. length bytes ≤ 64) text_of text_some
    (elements_of list)) (short_texts lists)

what_in : (script : Script) (sizes : Sizes) → script.turns ≡ sizes.turns → script.members
    ≡ sizes.members → (member : ℕ) (what : What) → HasWhat sizes member what → HasWhatRanges script member what
what_in script sizes turns members member (Crash turn push) has = (has.0, rw turns has.1, has.2)
what_in script sizes turns members member (Suspect turn other) has = (has.0, rw turns has.1, rw members has.2, has.3)

fault_in : (d : Data) (fault : Fault) → HasFault (sizes_of d) fault → HasFaultRanges (script_of d) fault
fault_in d fault has = record {
  age = has.age;
  member = has.member;
  what = what_in (script_of d) (sizes_of d) refl refl fault.member fault.what has.what;
}

-- the tests of the rules that give a script its ranges
record Kept (d : Data) : Type 0 where
  members : is_some (members_of d) ≡ true
  window : is_some (window_of d) ≡ true
  turns : is_some (turns_of d) ≡ true
  patience : is_some (patience_of d) ≡ true
  ages : is_some (ages_of d) ≡ true
  lists : is_some (lists_of (sizes_of d).members d) ≡ true
  short : broken_at 9 (texts_breaks d) ≡ None

kept_of : (d : Data) → first_broken rules d ≡ None → Kept d
kept_of d none =
    let behind_1 = neither (broken_at 1 (object_breaks d)) _ none in
    let behind_2 = neither (broken_at 2 (keys_breaks d)) _ behind_1.1 in
    let behind_3 = neither (broken_at 3 (members_breaks d)) _ behind_2.1 in
    let behind_4 = neither (broken_at 4 (window_breaks d)) _ behind_3.1 in
    let behind_5 = neither (broken_at 5 (turns_breaks d)) _ behind_4.1 in
    let behind_6 = neither (broken_at 6 (patience_breaks d)) _ behind_5.1 in
    let behind_7 = neither (broken_at 7 (ages_breaks d)) _ behind_6.1 in
    let behind_8 = neither (broken_at 8 (messages_breaks d)) _ behind_7.1 in
    let behind_9 = neither (broken_at 9 (texts_breaks d)) _ behind_8.1 in
    record {
      members = kept 3 (is_some (members_of d)) places.Members behind_3.0;
      window = kept 4 (is_some (window_of d)) places.Window behind_4.0;
      turns = kept 5 (is_some (turns_of d)) places.Turns behind_5.0;
      patience = kept 6 (is_some (patience_of d)) places.Patience behind_6.0;
      ages = kept 7 (is_some (ages_of d)) places.Ages behind_7.0;
      lists = kept 8 (is_some (lists_of (sizes_of d).members d)) places.Messages behind_8.0;
      short = behind_9.0;
    }

few_faults : (o : Option (List Data))
    → ((faults : List Data) → o ≡ Some faults → length faults ≤ 256) → length (unwrap_or o []) ≤ 256
few_faults None few = omega arith
few_faults (Some faults) few = few faults refl

-- a value that keeps all rules, and whose texts are bytes, is a script with all ranges
pub ranges_of_kept : (d : Data) → first_broken rules d ≡ None
    → All (All (All (λ byte. byte < 256))) (messages_in (lists_in d)) → HasRanges (script_of d)
ranges_of_kept d none bytes =
    let holds = kept_of d none in
    let members = there (λ n. (1 ≤ n) × (n ≤ 16)) (members_of d) 0
    (number_at_some (codes "members") 1 16 d) holds.members in
    let window = there (λ n. (1 ≤ n) × (n ≤ 8)) (window_of d) 0
    (number_at_some (codes "window") 1 8 d) holds.window in
    let turns = there (λ n. (1 ≤ n) × (n ≤ 1000000)) (turns_of d) 0
    (number_at_some (codes "turns") 1 1000000 d) holds.turns in
    let ages = there (λ n. (1 ≤ n) × (n ≤ 16)) (ages_of d) 0 (number_at_some (codes "ages") 1 16 d) holds.ages in
    let faults = length_filter_map (fault_of (sizes_of d)) (faults_in d) in
    let few = few_faults (few_faults_of d) (few_some d) in
    record {
      group = record {
        some_member = members.0;
        most_members = members.1;
        some_slot = window.0;
        most_slots = window.1;
        lists = rw length-map (there (λ lists. length lists ≡ (sizes_of d).members)
            (lists_of (sizes_of d).members d) [] (lists_some (sizes_of d).members d) holds.lists);
        few = short_lists 0 (lists_in d) holds.short;
        short = short_texts (lists_in d);
        bytes = bytes;
      };
      some_turn = turns.0;
      most_turns = turns.1;
      patience = there HasPatience (patience_of d) 0 (patience_some d) holds.patience;
      some_age = ages.0;
      most_ages = ages.1;
      few_faults = omega arith;
      faults = all_filter_map (HasFaultRanges (script_of d)) (fault_of (sizes_of d))
          (λ element fault is. fault_in d fault (fault_some (sizes_of d) element fault is)) (faults_in d);
    }
