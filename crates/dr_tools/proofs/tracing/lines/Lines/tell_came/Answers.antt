use Rattle.std.specs.List.{enumerate_from, flat_map}
use Rattle.std.proofs.Common.{◌≡◌, ◌∙◌, ap, subst, ℕ, ◌+◌, ◌-◌, List, ◌++◌, drop, length, slice_index_or, take}
use Rattle.dr_program.specs.Replica.{me}
use Rattle.dr_seeing.specs.Output.{Tells}
use Rattle.dr_tools.{specs.Following.{Followed, came_line, came_text}, proofs.Followings.came_rest}
use Rattle.dr_tools.proofs.tracing.lines.Lines.tell_came.Goals as goal

pub returns-in-Ok-clause-tells : goal.returns-in-Ok-clause-tells
returns-in-Ok-clause-tells g c =
    let who = me c.args.member.now.replica in
    let old = c.args.self.now in
    let told : c.self.inside.told ≡ old.told = ap (λ (f : Followed). f.told) c.self.view_is in
    let at : c.from.result ≡ who = c.from.ensures ∙ c.me.ensures in
    let history = c.history-history.result.now in
    let first = slice_index_or c.self.inside.told c.from.result 0 in
    let made = flat_map (λ t. came_line c.me-2.result (first + t.0) t.1)
    (enumerate_from 0 (take (length history - first) (drop first history))) in
    let text : c.as_str.result.now ≡ came_text who (slice_index_or old.told who 0) c.args.member.now.replica.history =
    c.as_str.ensures.value
    ∙ (c.in-Ok.ensures ∙ (ap (λ (l : List ℕ). l ++ made) c.new-text.ensures.bytes
    ∙ came_rest who c.me-2.result c.from.result c.self.inside.told old.told history
    c.args.member.now.replica.history c.me-2.ensures at told c.history-history.ensures)) in
    subst (λ (l : List ℕ). Tells l old.output c.tell.new.self) text
    (subst (λ (f : Followed). Tells c.as_str.result.now f.output c.tell.new.self) c.self.view_is c.tell.ensures)
