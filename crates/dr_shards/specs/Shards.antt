-- What comes of the run of a shard.
use Rattle.std.specs.Prelude.{◌≡◌, ℕ, List, [], ◌∷◌, All, Contains, slice_get, Some}
use Rattle.dr_play.specs.{Age.IsAge, Logged.NoneStopped, Run.IsRun}
use Rattle.dr_entry.specs.declared.{end.{AgeEnd.AgeEnd, MemberEnd.MemberEnd}, entry.Entry.TheVariants.Msg}
use Rattle.dr_history.specs.History.{messages_of}
use Rattle.dr_program.specs.Program.{Program}
use Rattle.dr_restart.specs.{Groups.{first_group_of, first_start_of}, declared.start.Start.Start}
use Rattle.dr_script.specs.declared.script.Script.{Script}
use Rattle.dr_shards.specs.declared.run.ShardMode.{ShardMode, TheVariants.{Sim, Run}}
use Rattle.dr_sim.specs.Simulated.{IsSimulated}

-- an age is played by the script's schedule, or by some list of deeds
abbrev pub IsRunIn : ShardMode → Script → Start → ℕ → AgeEnd → Program → Type 0
IsRunIn Sim = IsSimulated
IsRunIn Run = IsRun

-- each message that a member delivered is one that the script gives its sender
abbrev pub DeliversOwn : Script → List MemberEnd → Type 0
DeliversOwn script ends =
    All (λ (e : MemberEnd). (s i : ℕ) (bytes : List ℕ) → Contains e.history (Msg s i bytes)
    → slice_get (messages_of (first_group_of script).opening s) i ≡ Some bytes) ends

-- this is the age of a shard: a first age of its script, whose members agree and have ended as they should
pub record IsShardAge (mode : ShardMode) (script : Script) (age : AgeEnd) : Type 0 where
  pub number : age.age ≡ 0
  pub start : age.start ≡ []
  pub played : IsAge (IsRunIn mode) script (first_start_of script) 0 age
  pub own : DeliversOwn script age.members
  -- a shard's logs stop none of its members
  pub stored : NoneStopped age.members

-- each of these is the age of the shard in its place
abbrev pub AreShardAges : ShardMode → List Script → List AgeEnd → Type 0
AreShardAges mode [] ages = ages ≡ []
AreShardAges mode (script ∷ scripts) [] = ⊥
AreShardAges mode (script ∷ scripts) (age ∷ ages) =
    IsShardAge mode script age × AreShardAges mode scripts ages
