use Rattle.std.proofs.Common.{◌+◌, subst, ℕ, List, Option, Some, None}
use Rattle.dr_restart.specs.declared.start.Start.{Start}
use Rattle.dr_folder.{specs.{Advice.IsNextAway, declared.file.LogFile.LogFile}, proofs.Advising.away_if}
use Rattle.dr_folder.proofs.advice.advice_on.Goals as goal

pub returns-in-None-clause-advice : goal.returns-in-None-clause-advice
returns-in-None-clause-advice c =
    let script = c.args.script.now in
    let files = c.args.files.now in
    let surveys = c.args.surveys.now in
    let member : ℕ = c.in-Some.member in
    let first : IsNextAway script files surveys 0 (Some (member, c.in-Some.start)) =
    subst (λ (o : Option (ℕ × Start)). IsNextAway script files surveys 0 o) c.in-Some.is
    c.in_ok-member.ensures.next in
    let behind : IsNextAway script c.next_away.new.files surveys (member + 1) None =
    subst (λ (o : Option (ℕ × Start)). IsNextAway script c.next_away.new.files surveys (member + 1) o)
    c.in-None.is c.in_ok-other.ensures.next in
    away_if script files surveys member c.in-Some.start c.away_if_shared.result first
    (subst (λ (f : List LogFile). IsNextAway script f surveys (member + 1) None) c.in_ok-member.ensures.kept
    behind) c.away_if_shared.ensures
