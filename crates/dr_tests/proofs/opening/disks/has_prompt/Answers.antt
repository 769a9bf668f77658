use Rattle.std.{specs.Prelude.is_some, proofs.lemmas.List.get_or_read_under}
use Rattle.std.proofs.Common.{◌≡◌, ◌∙◌, refl, sym, rules, ℕ, ◌<◌, true, length, Option, None, Some}
use Rattle.dr_disk.specs.declared.memory_disk.MemoryDisk.{MemoryDisk}
use Rattle.dr_log.specs.State.{LogState}
use Rattle.dr_tests.proofs.opening.disks.has_prompt.Goals as goal

there : (place : Option (LogState MemoryDisk)) → is_some place ≡ true
    → (log : LogState MemoryDisk) × (place ≡ Some log)
there None some = absurd (cc)
there (Some log) some = (log, refl)

pub returns-then-not-has : goal.returns-then-not-has
returns-then-not-has c =
    let one = there c.index-logs-m.result (sym c.is_some.ensures ∙ c.if-is_some.true) in
    let within : c.loop-m.m < length c.args.logs.now = search rules in
    λ yes. (
      c.loop-m.m,
      one.0,
      sym (get_or_read_under c.args.logs.now c.loop-m.m (length c.args.logs.now) c.index-logs-m.result None
          c.index-logs-m.is within refl) ∙ one.1,
      sym c.has.ensures ∙ c.if-not-has.true,
    )
