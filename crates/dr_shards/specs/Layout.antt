-- How a roster is laid out in shards.
use Rattle.std.specs.List.{range_with_len}
use Rattle.std.specs.Prelude.{◌≡◌, ℕ, All, ◌/◌, ◌%◌, ◌==◌, Bool, false, not, nat_lt, if◌then◌else◌, List, [], length, map, filter, filter_map, position, slice_index_or, Option, None, Some, option_map}
use Rattle.dr_script.specs.declared.script.{Fault.Fault, Script.Script, What.{What, TheVariants.{Crash, Suspect}}}
use Rattle.dr_shards.specs.declared.fault.LayFault.{LayFault, TheVariants.{Crosses, ManyAges, NoShard}}

-- whether member m is in shard k of so many
abbrev pub is_of_shard : ℕ → ℕ → ℕ → Bool
is_of_shard shards k m = m % shards == k

-- the members of shard k, ascending, where there are n members in all: in the shard each has the number of
-- its position here, which is `m / shards`
abbrev pub shard_members : ℕ → ℕ → ℕ → List ℕ
shard_members shards k n = filter (is_of_shard shards k) (range_with_len 0 n)

-- what happens to a member, by its shard's numbers
abbrev pub renumbered : ℕ → What → What
renumbered shards (Crash turn push) = Crash turn push
renumbered shards (Suspect turn other) = Suspect turn (other / shards)

-- the fault of a member of shard k, by that shard's numbers
abbrev pub shard_fault : ℕ → ℕ → Fault → Option Fault
shard_fault shards k f =
    if is_of_shard shards k f.member
    then Some (record f { member = f.member / shards; what = renumbered shards f.what })
    else None

-- the messages of each of its members
abbrev pub shard_messages : Script → ℕ → ℕ → List (List (List ℕ))
shard_messages script shards k =
    map (λ m. slice_index_or script.messages m []) (shard_members shards k script.members)

-- the script of shard k: its members with their messages and faults
abbrev pub shard_of : Script → ℕ → ℕ → Script
shard_of script shards k = record script {
  members = length (shard_members shards k script.members);
  messages = shard_messages script shards k;
  faults = filter_map (shard_fault shards k) script.faults;
}

-- the scripts of all shards, ascending
abbrev pub layout : Script → ℕ → List Script
layout script shards = map (shard_of script shards) (range_with_len 0 shards)

-- whether a fault is a suspicion that names a member of another shard
abbrev pub crosses_by : ℕ → ℕ → What → Bool
crosses_by shards member (Crash turn push) = false
crosses_by shards member (Suspect turn other) = not (is_of_shard shards (member % shards) other)

abbrev pub crosses : ℕ → Fault → Bool
crosses shards f = crosses_by shards f.member f.what

-- why a script is not laid out: there are too few members, several ages, or a suspicion that crosses shards,
-- the first one
abbrev pub lay_refusal : Script → ℕ → Option LayFault
lay_refusal script shards =
    if nat_lt script.members shards then Some (NoShard shards script.members)
    else (if script.ages == 1
    then option_map (λ fault. Crosses fault) (position (crosses shards) script.faults)
    else Some (ManyAges script.ages))

-- Scripts agree on shard k: they give it the same members, with the same messages and faults, and run alike.
pub record AgreeOn (shards k : ℕ) (one other : Script) : Type 0 where
  pub members : shard_members shards k one.members ≡ shard_members shards k other.members
  pub messages : All (λ m. slice_index_or one.messages m [] ≡ slice_index_or other.messages m [])
      (shard_members shards k one.members)
  pub faults : filter (λ (f : Fault). is_of_shard shards k f.member) one.faults
      ≡ filter (λ (f : Fault). is_of_shard shards k f.member) other.faults
  pub window : one.window ≡ other.window
  pub turns : one.turns ≡ other.turns
  pub patience : one.patience ≡ other.patience
  pub schedule : one.schedule ≡ other.schedule
