use Rattle.std.proofs.Common.{◌≡◌, ◌<◌, ◌==◌, ◌&&◌, sym, ap, subst, ◌∙◌, true, nat_lt, bit_and, arith}
use Rattle.std.proofs.{Math.Bool.and-true, lemmas.Bool.Decides.nat_tests}
use Rattle.dr_machine.specs.declared.event.Act.TheVariants as acts
use Rattle.dr_machine.specs.declared.step.Step.TheVariants.{Do}
use Rattle.dr_program.specs.{Replica.may_receive, Running.{crashes_in_turn, judged}, Turn.{part_of, rows_in}}
use Rattle.dr_program.{specs.declared.place.Part.Part, proofs.{Replicas.all_allowed, Search.applies_at}}
use Rattle.dr_program.specs.declared.place.Part.TheVariants as parts
use Rattle.dr_member.{specs.Search.standing, proofs.Ready.receives_by}
use Rattle.dr_member.proofs.search.applies_inside.Goals as goal

pub returns-in-Crash : goal.returns-in-Crash
returns-in-Crash c =
    let r = standing c.args.replica.now c.args.fate.now c.args.place in
    c.crashes_in_turn.ensures c.args.replica.now c.args.place c.requires.fate ∙ sym (and-true (crashes_in_turn r))
    ∙ ap (λ x. applies_at r x c.args.place.row c.args.place.column) (sym c.in-Crash.is ∙ c.part_of.ensures)

pub returns-then-takes_from : goal.returns-then-takes_from
returns-then-takes_from c =
    let r = standing c.args.replica.now c.args.fate.now c.args.place in
    let p = c.args.place in
    let at : part_of p ≡ parts.Receive = sym c.part_of.ensures ∙ c.in-Receive.is in
    let row : p.row < r.replica.roster =
    subst (λ (x : Part). p.row < rows_in r.replica.roster x) at c.requires.underway.place.row in
    let inside : nat_lt p.row r.replica.roster ≡ true = grind (arith, nat_tests, row) in
    ap (λ b. b && (bit_and c.args.ready 1 == 1)) (sym c.if-takes_from.true ∙ c.takes_from.ensures)
    ∙ receives_by r.replica p c.args.ready c.requires.underway.replica at c.requires.ready
    ∙ ap (λ b. b && may_receive r.replica p.row) (sym inside) ∙ sym (all_allowed r.replica
    (Do (acts.Receive p.row)) c.requires.inside) ∙ ap (λ x. applies_at r x p.row p.column) (sym at)

pub returns-in-Judge : goal.returns-in-Judge
returns-in-Judge c =
    let r = standing c.args.replica.now c.args.fate.now c.args.place in
    c.may_judge.ensures c.args.place ∙ sym (all_allowed r.replica (Do (judged r)) c.requires.inside)
    ∙ ap (λ x. applies_at r x c.args.place.row c.args.place.column) (sym c.in-Judge.is ∙ c.part_of.ensures)

pub returns-in-Do : goal.returns-in-Do
returns-in-Do c =
    let r = standing c.args.replica.now c.args.fate.now c.args.place in
    c.may.ensures ∙ sym (all_allowed r.replica (Do c.in-Do.act) c.requires.inside)
    ∙ ap (λ x. applies_at r x c.args.place.row c.args.place.column) (sym c.in-Do.is ∙ c.part_of.ensures)
