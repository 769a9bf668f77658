use Rattle.std.{specs.Prelude.is_some, proofs.Common.{sym, ap, ◌∙◌}}
use Rattle.dr_entry.proofs.Ends.{stops_end}
use Rattle.dr_program.{specs.Running.applies, proofs.RunningPrograms.settled_here}
use Rattle.dr_member.specs.Search.{standing}
use Rattle.dr_member.proofs.search.settle.Goals as goal

pub returns-then-is_some-clause-ready : goal.returns-then-is_some-clause-ready
returns-then-is_some-clause-ready c = c.requires.ready

pub returns-then-is_some-clause-place : goal.returns-then-is_some-clause-place
returns-then-is_some-clause-place c =
    let r = standing c.args.replica.now c.args.fate.now c.args.place.now in
    sym (settled_here r
    (stops_end r.replica.end (applies r r.place) (sym (c.is_some.ensures ∙ ap is_some c.end.ensures)
    ∙ c.if-is_some.true)))

pub settle_inside-requires-clause-inside : goal.settle_inside-requires-clause-inside
settle_inside-requires-clause-inside c = sym c.requires.inside ∙ c.if-inside.true

pub settle_outside-requires-clause-outside : goal.settle_outside-requires-clause-outside
settle_outside-requires-clause-outside c = sym c.requires.inside ∙ c.if-inside.false
