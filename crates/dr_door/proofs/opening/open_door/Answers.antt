use Rattle.std.{specs.Prelude.{Err, IfErr}, proofs.{Common.{◌≡◌, ap, ◌∙◌, subst, sym, rules}, lemmas.Bool.lt-ltb}}
use Rattle.dr_history.{specs.Members.has, proofs.Bits.has_ones}
use Rattle.dr_restart.specs.declared.start.Start.{Start}
use Rattle.dr_door.specs.{Begun.{HasBegun, IsOpenFault}, declared.opening.OpenFault.TheVariants.OutOfMemory}
use Rattle.dr_door.proofs.opening.open_door.Goals as goal

pub begun_door-requires-clause-present : goal.begun_door-requires-clause-present
begun_door-requires-clause-present c = ap (λ (s : Start). has s.present c.args.me) c.first_start-start.ensures.start
    ∙ has_ones c.in-Ok.script.members c.args.me ∙ lt-ltb c.args.me c.in-Ok.script.members c.if-script-me.false

pub returns-in_err-begun_door-clause-fault : goal.returns-in_err-begun_door-clause-fault
returns-in_err-begun_door-clause-fault c =
    let answer : c.from_residual.result ≡ Err OutOfMemory = search rules in
    subst (λ r. IfErr r (IsOpenFault c.args.bytes.now c.args.me)) (sym answer)
    (c.in-Ok.script, c.in-Ok.ensures.ok, c.if-script-me.false)

pub returns-clause-opened : goal.returns-clause-opened
returns-clause-opened c = record {
  script = c.in-Ok.script;
  reads = c.in-Ok.ensures.ok;
  ranges = c.in-Ok.ensures.ranges;
  begun = subst (λ (s : Start). HasBegun c.in-Ok.script s 0 c.args.me c.in_ok-begun_door.field-0)
      c.first_start-start.ensures.start c.in_ok-begun_door.ensures;
}
