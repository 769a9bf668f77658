use Rattle.std.proofs.Common.{◌≡◌, ◌≤◌, ℕ, eqb, ap, ◌∙◌, subst, rules}
use Rattle.dr_log.{specs.{Standing.least_length, State.LogState}, proofs.Growing.nothing_on}
use Rattle.dr_log_bytes.specs.Content.{OnLog}
use Rattle.dr_log.proofs.log.Log.is_empty.Goals as goal

pub returns : goal.returns
returns g c =
    let content : OnLog = c.args.self.now.content in
    let same = ap (λ (s : LogState g.row.D.Denot). s.content) c.self.view_is in
    let len : c.len.result ≡ content.length = c.len.ensures ∙ ap (λ (d : OnLog). d.length) same in
    let least : least_length content ≤ content.length =
    subst (λ (d : OnLog). least_length d ≤ d.length) same c.self.invariant.long in (
      λ is. nothing_on content least (search rules),
      λ is. ap (λ (n : ℕ). eqb n 9) (len ∙ ap (λ (d : OnLog). d.length) is),
    )
