-- What comes of the shards of a script.
use Rattle.std.specs.Prelude.{◌≡◌, ℕ, List, ◌∷◌, Option, None, Some}
use Rattle.dr_outcome.specs.declared.outcome.Body.TheVariants as bodies
use Rattle.dr_outcome.specs.{Last.last_of, Outcome.{OfScript, SaysOnly}, Playing.ends_over}
use Rattle.dr_outcome.specs.declared.outcome.Outcome.{Outcome}
use Rattle.dr_script.specs.{Reading.reading_of, declared.script.Script.Script}
use Rattle.dr_shards.specs.{Layout.{lay_refusal, layout}, Shards.AreShardAges, declared.fault.LayFault.LayFault}
use Rattle.dr_shards.specs.declared.fault.LayFault.TheVariants.{Crosses, ManyAges, NoShard, OutOfMemory}
use Rattle.dr_text.specs.declared.last.Last.{Last}
use Rattle.dr_text.specs.declared.last.Last.TheVariants as lasts
use Rattle.dr_yard.specs.Yards.{YardState}
use Rattle.dr_commands.specs.{ShardsLines.shards_text, declared.shards.sharding.Sharding.Sharding}

-- the last line by which a layout is refused: none where memory was wanting
abbrev pub refused_layout : LayFault → Option Last
refused_layout OutOfMemory = None
refused_layout (NoShard shards members) = Some (lasts.NoShard shards members)
refused_layout (ManyAges ages) = Some (lasts.ManyAges ages)
refused_layout (Crosses fault) = Some (lasts.Crosses fault)

-- each shard of the script ran as a group of its own, this is said of them, and the last line tells how the
-- members of all of them ended
pub record HasRunShards (s : Sharding) (script : Script) (before after : YardState) (o : Outcome) : Type 0 where
  pub ages : AreShardAges s.mode (layout script s.count) o.ages
  pub unstopped : o.stop ≡ None
  pub untouched : after ≡ before
  pub body : o.body ≡ bodies.Text (shards_text s.count script.members o.ages)
  pub line : o.last ≡ last_of o.ages None

-- what comes of a script, by why it is not laid out, if it is not: of one that isn't the line by which it is
-- refused
abbrev pub OfLayout : Option LayFault → Sharding → Script → YardState → YardState → Outcome → Type 0
OfLayout None s script before after o = HasRunShards s script before after o
OfLayout (Some fault) s script before after o = SaysOnly (refused_layout fault) before after o

-- the text is a script, whose shards ran, or its layout is refused; or the text is
abbrev pub RunsShards : Sharding → List ℕ → YardState → YardState → Outcome → Type 0
RunsShards s bytes before after o =
    OfScript (λ script result. OfLayout (lay_refusal script s.count) s script before after result)
    (reading_of bytes) before after o

-- the statuses of its last lines
abbrev pub shards_ends : List ℕ
shards_ends = 3 ∷ 12 ∷ ends_over None
