-- What is certain of the last line behind the ages of shards.
use Rattle.std.{specs.List.list_any, proofs.lemmas.{Bool.or_from, List.Folds.list_any_none}}
use Rattle.std.proofs.Common.{◌≡◌, refl, ap, ◌∙◌, false, List, [], ◌∷◌, get_or, Contains, None, Some}
use Rattle.dr_play.specs.Logged.{why_ended}
use Rattle.dr_entry.specs.declared.end.{AgeEnd.AgeEnd, End.End, MemberEnd.MemberEnd}
use Rattle.dr_intake.specs.Status.{status_of}
use Rattle.dr_outcome.{specs.Last.{first_end, first_told, is_of, last_of, refusal_of, some_end}, proofs.Lasts.told_so}
use Rattle.dr_outcome.specs.declared.last.Kind.{Kind, TheVariants.{DiskFault, LogFull, NoMajority, Spent}}
use Rattle.dr_outcome.proofs.{Due.line_behind, KindsFurther.{by_no_disk, by_no_full_log}, Runs.by_parts}
use Rattle.dr_script.specs.declared.script.Script.{Script}
use Rattle.dr_shards.specs.{Shards.AreShardAges, declared.run.ShardMode.ShardMode}
use Rattle.dr_text.specs.declared.last.Last.{Last}

-- so no member of a shard ended so
none_so : (kind : Kind) → ((e : End) → why_ended e ≡ None → is_of kind e ≡ false) → (mode : ShardMode)
    (scripts : List Script) (ages : List AgeEnd) → AreShardAges mode scripts ages → some_end kind ages ≡ false
none_so kind each mode [] ages are = ap (some_end kind) are
none_so kind each mode (s ∷ scripts) [] are = absurd are
none_so kind each mode (s ∷ scripts) (age ∷ ages) (is, rest) =
    or_from (list_any (λ (m : MemberEnd). is_of kind m.end) age.members) (some_end kind ages)
    (list_any_none (λ (m : MemberEnd). is_of kind m.end) age.members
    (λ k d within. each (get_or age.members k d).end (is.stored k d within)))
    (none_so kind each mode scripts ages rest)

-- the last line tells of nothing but turns and majorities
pub shard_lasts : (mode : ShardMode) (scripts : List Script) (ages : List AgeEnd) (line : Last)
    → AreShardAges mode scripts ages → last_of ages None ≡ Some line → Contains (0 ∷ 8 ∷ 9 ∷ []) (status_of line)
shard_lasts mode scripts ages line are is = by_parts (first_told DiskFault ages None)
    (refusal_of None) (first_told LogFull ages None)
    (first_end Spent ages) (first_end NoMajority ages) line (told_so DiskFault ages None
    ∙ or_from (some_end DiskFault ages) false (none_so DiskFault by_no_disk mode scripts ages are) refl) refl
    (told_so LogFull ages None ∙ or_from (some_end LogFull ages) false
    (none_so LogFull by_no_full_log mode scripts ages are) refl) (line_behind ages None line is).1
