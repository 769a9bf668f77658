use Rattle.std.proofs.Common.{◌≡◌, ◌∙◌, ap, subst, ℕ, List, slice_index_or, slice_set}
use Rattle.dr_program.specs.Replica.{me}
use Rattle.dr_seeing.{specs.{Lines.line_of, Output.Tells}, proofs.Outputs.tells_both}
use Rattle.dr_tools.specs.Following.{Followed, came_text}
use Rattle.dr_tools.proofs.tracing.lines.LinesWatcher.see.Goals as goal

pub returns : goal.returns
returns g c =
    let who = me c.args.member.now.replica in
    let old = c.args.self.now in
    let told : c.self.inside.told ≡ old.told =
    ap (λ (f : Followed). f.told) c.self.view_is ∙ c.tell_came.ensures.same in
    let at : c.from.result ≡ who = c.from.ensures ∙ c.me.ensures in
    let line = line_of c.args.member.now c.args.table.now in (
      ap (λ (l : List ℕ). slice_set l c.from.result c.told_past_deed.result) told
          ∙ ap (λ (s : ℕ). slice_set old.told s c.told_past_deed.result) at
          ∙ ap (λ (n : ℕ). slice_set old.told who n) c.told_past_deed.ensures,
      tells_both (came_text who (slice_index_or old.told who 0) c.args.member.now.replica.history) line old.output
          c.tell_came.new.self.output c.tell_line.new.self c.tell_came.ensures.tells
          (subst (λ (f : Followed). Tells line f.output c.tell_line.new.self) c.self.view_is c.tell_line.ensures),
    )
