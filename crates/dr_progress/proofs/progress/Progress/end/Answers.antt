use Rattle.std.proofs.Common.{◌≡◌, ap, inr, rules, subst, true, List, ℕ, Option}
use Rattle.dr_progress.specs.{Progress.Standing, declared.line.TheConstants.BLANK}
use Rattle.dr_text.{specs.Writing.WroteFront, proofs.Reports.wrote_some}
use Rattle.dr_progress.proofs.progress.Progress.end.Goals as goal

pub returns-then-self : goal.returns-then-self
returns-then-self g c =
    let held = g.K.Sink.held c.self.inside.sink in
    let holds = g.K.Sink.held c.write_all.new.sink in
    let same : held ≡ c.args.self.now.held = ap (λ (s : Standing). s.held) c.self.view_is in
    let stood : c.args.self.now.stands ≡ true = search rules in
    let text = c.as_bytes.ensures.value in
    record {
      now = ap (λ (s : Standing). s.now) c.self.view_is;
      blanks = inr (
        stood,
        subst (λ (h : Option (List ℕ)). WroteFront h holds BLANK.now) same (subst (WroteFront held holds) text
            (wrote_some c.write_all.result held holds c.as_bytes.result.now c.write_all.ensures.ok
            c.write_all.ensures.err)),
      );
    }
