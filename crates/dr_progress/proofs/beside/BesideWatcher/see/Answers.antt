use Rattle.std.proofs.Common.{ℕ, subst, sym}
use Rattle.dr_progress.specs.Progress.{MaySay}
use Rattle.dr_progress.proofs.beside.BesideWatcher.see.Goals as goal

pub returns-then-at_beat : goal.returns-then-at_beat
returns-then-at_beat g c =
    let old = c.args.self.now in
    let new = c.look.new.self in (
      subst (g.W.Watcher.sees old.watcher.now c.args.member.now c.args.table.now) (sym c.look.ensures.watcher)
          c.see.ensures,
      subst (λ (turn : ℕ). MaySay turn old.progress.now new.progress.now) c.turns.ensures c.look.ensures.progress,
      c.look.ensures.same_watcher,
      c.look.ensures.same_progress,
    )
