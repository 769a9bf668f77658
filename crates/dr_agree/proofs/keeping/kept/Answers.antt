use Rattle.std.proofs.Common.{◌≡◌, List, ap, sym, subst, ◌∙◌}
use Rattle.dr_entry.specs.declared.entry.Entry.{Entry}
use Rattle.dr_history.specs.History.{IsPrefixOf}
use Rattle.dr_restart.specs.declared.start.Start.{Start}
use Rattle.dr_world.specs.Held.{its_world}
use Rattle.dr_agree.proofs.keeping.kept.Goals as goal

pub returns-else-is_delivered : goal.returns-else-is_delivered
returns-else-is_delivered c =
    let same : c.as_slice-entries.result.now ≡ c.args.after.now.start.entries =
    c.as_slice-entries.ensures ∙ ap (λ (start : Start). start.entries) c.start-start.ensures in (
      λ t. absurd (cc (t, c.if-is_delivered.false)),
      λ kept. c.is_delivered.ensures.1 (
        kept.delivered.0,
        kept.delivered.1,
        subst (λ (es : List Entry).
            IsPrefixOf es ((its_world c.args.before.now).past.history kept.delivered.0)) (sym same) kept.delivered.2,
      ),
    )
