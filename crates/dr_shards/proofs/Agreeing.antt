-- Scripts that agree on a shard give it one script, and so one age.
use Rattle.std.specs.{List.cons_option, Prelude.{None, Some, filter, filter_map, map, slice_index_or}}
use Rattle.std.proofs.Common.{◌≡◌, ℕ, ◌/◌, ◌<◌, Bool, true, false, cond, List, [], ◌∷◌, length, refl, ap, sym, subst, ◌∙◌, arith}
use Rattle.dr_entry.{specs.declared.end.AgeEnd.AgeEnd, proofs.ListParts.map_alike}
use Rattle.dr_restart.specs.{Groups.{first_start_of, group_of}, declared.start.Start.Start}
use Rattle.dr_restart.proofs.Groups.{first_group}
use Rattle.dr_script.specs.{Ranges.HasRanges, declared.script.{Fault.Fault, Script.Script}}
use Rattle.dr_machine.specs.Group.{IsGroup}
use Rattle.dr_sim.specs.Repeated.{IsRepeated}
use Rattle.dr_shards.specs.Layout.{AgreeOn, is_of_shard, lay_refusal, renumbered, shard_fault, shard_members, shard_messages, shard_of}
use Rattle.dr_shards.specs.{Shards.IsShardAge, declared.run.ShardMode.TheVariants.Sim}
use Rattle.dr_shards.proofs.Laying.{lays_out, shard_ranges}

-- the faults of a shard are made of those of its members alone
module _ (shards k : ℕ) where
  abbrev of_members : List Fault → List Fault
  of_members = filter (λ (f : Fault). is_of_shard shards k f.member)

  one_fault : (f there : Fault) (rest faults : List Fault)
      → filter_map (shard_fault shards k) rest ≡ filter_map (shard_fault shards k) faults
      → (b : Bool) → is_of_shard shards k f.member ≡ b → shard_fault shards k f ≡ cond b (Some there) None
      → filter_map (shard_fault shards k) (cond b (f ∷ rest) rest)
      ≡ cons_option (shard_fault shards k f) (filter_map (shard_fault shards k) faults)
  one_fault f there rest faults same true is made = ap (cons_option (shard_fault shards k f)) same
  one_fault f there rest faults same false is made =
      same ∙ sym (ap (λ o. cons_option o (filter_map (shard_fault shards k) faults)) made)

  own_faults : (faults : List Fault)
      → filter_map (shard_fault shards k) (of_members faults) ≡ filter_map (shard_fault shards k) faults
  own_faults [] = refl
  own_faults (f ∷ faults) = one_fault f (record f { member = f.member / shards; what = renumbered shards f.what })
      (of_members faults) faults (own_faults faults) (is_of_shard shards k f.member) refl refl

pub same_shard : (one other : Script) (shards k : ℕ) → lay_refusal one shards ≡ None
    → lay_refusal other shards ≡ None → AgreeOn shards k one other → shard_of one shards k ≡ shard_of other shards k
same_shard one other shards k laid laid' agree = λ z. record {
  members = length (agree.members z);
  window = agree.window z;
  turns = agree.turns z;
  patience = agree.patience z;
  ages = ages z;
  messages = messages z;
  faults = faults z;
  schedule = agree.schedule z;
}
  where
    ages : one.ages ≡ other.ages
    ages = (lays_out one shards laid).one_age ∙ sym (lays_out other shards laid').one_age

    messages : shard_messages one shards k ≡ shard_messages other shards k
    messages = map_alike (λ m. slice_index_or one.messages m []) (λ m. slice_index_or other.messages m [])
        (shard_members shards k one.members) agree.messages
        ∙ ap (map (λ m. slice_index_or other.messages m [])) agree.members

    faults : filter_map (shard_fault shards k) one.faults ≡ filter_map (shard_fault shards k) other.faults
    faults = sym (own_faults shards k one.faults) ∙ ap (filter_map (shard_fault shards k)) agree.faults
        ∙ own_faults shards k other.faults

-- simulations repeat
abbrev pub DoRepeat : Type 0
DoRepeat = (script : Script) (start : Start) (nth : ℕ) → HasRanges script → IsGroup (group_of script start)
    → IsRepeated script start nth

pub one_age : DoRepeat → (one other : Script) (shards k : ℕ) → HasRanges one → k < shards
    → lay_refusal one shards ≡ None → lay_refusal other shards ≡ None → AgreeOn shards k one other
    → (age again : AgeEnd) → IsShardAge Sim (shard_of one shards k) age
    → IsShardAge Sim (shard_of other shards k) again → age ≡ again
one_age repeat one other shards k ranges below laid laid' agree age again is is' =
    let lays = lays_out one shards laid in
    let shard = shard_of one shards k in
    let kept : HasRanges shard
    = shard_ranges one ranges shards k (omega (arith, below)) below lays.enough lays.apart in
    let too : IsShardAge Sim shard again
    = subst (λ s. IsShardAge Sim s again) (sym (same_shard one other shards k laid laid' agree)) is' in
    repeat shard (first_start_of shard) 0 kept (first_group shard kept.group) age again is.played.over
    too.played.over is.played.run too.played.run is.stored too.stored
