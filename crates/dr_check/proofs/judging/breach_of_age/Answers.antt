use Rattle.std.{specs.Prelude.{IfNone, IfSome}, proofs.{Common.{◌≡◌, sym, ◌∙◌, subst}, lemmas.Option.same_Some}}
use Rattle.dr_entry.proofs.{ListPlaces.read_at, OptionFacts.{none_keeps, some_breaks}}
use Rattle.dr_check.specs.{Clauses.AgeItself, Firsts.{AllKeep, FirstBreaks}, Flaws.{MemberKeeps, MemberBreaks}}
use Rattle.dr_check.specs.declared.report.ReportAge.{ReportAge}
use Rattle.dr_check.proofs.judging.breach_of_age.Goals as goal

pub returns-clause-none : goal.returns-clause-none
returns-clause-none c a at =
    let same : c.index-ages-i-2.result ≡ a = same_Some c.index-ages-i-2.result a
    (sym (read_at c.args.ages.now c.args.i c.index-ages-i-2.result c.requires c.index-ages-i-2.is) ∙ at) in
    none_keeps (AgeItself c.args.clause c.args.script.now c.args.ages.now c.args.i a)
    (AllKeep (MemberKeeps c.args.clause c.args.script.now a) a.members) c.breach_of_members.result
    ((c.age_keeps.ensures a at).0 c.if-not-age_keeps.false)
    (subst (λ (b : ReportAge). IfNone c.breach_of_members.result
    (AllKeep (MemberKeeps c.args.clause c.args.script.now b) b.members)) same c.breach_of_members.ensures.none)

pub returns-clause-some : goal.returns-clause-some
returns-clause-some c a at =
    let same : c.index-ages-i-2.result ≡ a = same_Some c.index-ages-i-2.result a
    (sym (read_at c.args.ages.now c.args.i c.index-ages-i-2.result c.requires c.index-ages-i-2.is) ∙ at) in
    some_breaks (AgeItself c.args.clause c.args.script.now c.args.ages.now c.args.i a)
    (λ line. (AgeItself c.args.clause c.args.script.now c.args.ages.now c.args.i a → ⊥) × (line ≡ a.line))
    (FirstBreaks (MemberKeeps c.args.clause c.args.script.now a)
    (MemberBreaks c.args.clause c.args.script.now a) a.members)
    c.breach_of_members.result ((c.age_keeps.ensures a at).0 c.if-not-age_keeps.false)
    (subst (λ (b : ReportAge). IfSome c.breach_of_members.result
    (FirstBreaks (MemberKeeps c.args.clause c.args.script.now b) (MemberBreaks c.args.clause c.args.script.now b)
    b.members)) same c.breach_of_members.ensures.some)
