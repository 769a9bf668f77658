-- What the members of a shard deliver is what the script gives them.
use Rattle.std.{specs.{Option.option_map_or, Prelude.Option}, proofs.lemmas.Option.slice_get-get_or}
use Rattle.std.proofs.Common.{◌≡◌, ℕ, ◌-◌, ◌^◌, List, [], length, get_or, Some, slice_get, ap, sym, subst, ◌∙◌, arith, refl, ◌∷◌, ◌++◌}
use Rattle.dr_play.{specs.{Age.{IsAge, IsAgeOn}, Logged.{AreAmple, AreOpened}}, proofs.Lasting.none_stopped}
use Rattle.dr_disk.specs.Disk.{Told}
use Rattle.dr_entry.specs.declared.{end.{AgeEnd.AgeEnd, MemberEnd.MemberEnd}, entry.Entry.TheVariants.Msg}
use Rattle.dr_history.specs.{Agreement.{EndsAgreed, accounts_of, sent_by}, Restarting.AllStand}
use Rattle.dr_history.proofs.Standing.{history-stands}
use Rattle.dr_log.specs.State.{LogState}
use Rattle.dr_machine.{specs.Group.{AllPresent, IsGroup}, proofs.Presence.is_present}
use Rattle.dr_program.specs.Program.{Program, age_of}
use Rattle.dr_restart.specs.{Groups.{first_group_of, first_start_of, group_of}, declared.start.Start.Start}
use Rattle.dr_script.specs.declared.script.Script.{Script}
use Rattle.dr_shards.specs.{Shards.{AreShardAges, DeliversOwn, IsRunIn, IsShardAge}, declared.run.ShardMode.ShardMode}
use Rattle.dr_shards.specs.declared.run.ShardMode.TheVariants.{Sim, Run}

own : (script : Script) (ends : List MemberEnd) → IsGroup (first_group_of script) → AllPresent (first_group_of script)
    → length ends ≡ length script.messages → EndsAgreed (first_group_of script).opening ends → DeliversOwn script ends
own script ends is present all agreed m d within s i bytes has =
    let g = first_group_of script in let e = get_or ends m d in
    let there = is_present g m present (omega (arith, all)) in
    let at : slice_get ends m ≡ Some e = slice_get-get_or ends m d within in
    let same : (accounts_of ends m).history ≡ e.history =
    ap (λ x. option_map_or (λ (y : MemberEnd). y.history) x []) at in
    let stands : AllStand g.opening e.history = subst (AllStand g.opening) same (history-stands g.opening
    (sent_by (accounts_of ends)) (accounts_of ends m).history is.sound (agreed.agreed.ordered m there)) in
    (stands has.0 (Msg s i bytes) (slice_get-get_or e.history has.0 (Msg s i bytes) has.1 ∙ ap Some has.2)).2

-- how its members ended is told by its program
told_in : (mode : ShardMode) (script : Script) (start : Start) (nth : ℕ) (age : AgeEnd) (over : Program)
    → IsRunIn mode script start nth age over → age ≡ age_of (group_of script start).opening over
told_in Sim script start nth age over is = is.told
told_in Run script start nth age over is = is.told

-- the age of a shard, over the logs of all members, which have room, and are on disks that count no fault
pub shard_age : {D : Type 0} (told : D → Option Told) (faults : D → ℕ) → ((disk : D) → faults disk ≡ 0)
    → (mode : ShardMode) (script : Script) (start : Start) → start ≡ first_start_of script
    → IsGroup (first_group_of script) → length script.messages ≡ script.members
    → (bases logs : List (Option (LogState D))) → AreOpened (group_of script start) bases
    → AreAmple (group_of script start) bases → (age : AgeEnd)
    → IsAgeOn (IsRunIn mode) told faults script start 0 bases logs age → IsShardAge mode script age
shard_age told faults never mode script start first is lists bases logs opened ample age on = record {
  number = ap (λ (a : AgeEnd). a.age) as_told;
  start = ap (λ (a : AgeEnd). a.start) as_told;
  played = played;
  own = own script age.members is present (played.roster ∙ sym lists) played.agreed;
  stored = none_stopped told faults never (IsRunIn mode) script start 0 bases logs age on
      (told_in mode script start 0 age on.played.over on.played.run) lists
      (subst (λ (s : Start). AllPresent (group_of script s)) (sym first) present) opened ample;
}
  where
    present : AllPresent (first_group_of script)
    present = ap (λ (n : ℕ). 2 ^ n - 1) (sym lists)

    played : IsAge (IsRunIn mode) script (first_start_of script) 0 age
    played = subst (λ (s : Start). IsAge (IsRunIn mode) script s 0 age) first on.played

    as_told : age ≡ age_of (first_group_of script).opening played.over
    as_told = told_in mode script (first_start_of script) 0 age played.over played.run

-- one more age of the shards
pub ages_more : (mode : ShardMode) (scripts : List Script) (ages : List AgeEnd) (script : Script)
    (age : AgeEnd) → AreShardAges mode scripts ages → IsShardAge mode script age
    → AreShardAges mode (scripts ++ script ∷ []) (ages ++ age ∷ [])
ages_more mode [] ages script age are is = subst (λ xs. AreShardAges mode (script ∷ []) (xs ++ age ∷ []))
    (sym are) (is, refl)
ages_more mode (s ∷ scripts) [] script age are is = absurd are
ages_more mode (s ∷ scripts) (a ∷ ages) script age are is = (are.0, ages_more mode scripts ages script age are.1 is)
