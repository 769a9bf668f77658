use Rattle.dr_entry.specs.declared.entry.Entry.TheVariants.{View}
use Rattle.dr_entry.proofs.Entries.{first_there, no_first, no_first_more, none_first}
use Rattle.dr_quorum.proofs.path.first_members.Goals as goal

pub loop-entry-init : goal.loop-entry-init
loop-entry-init c = none_first c.args.age

pub loop-entry-preserved : goal.loop-entry-preserved
loop-entry-preserved c =
    no_first_more c.args.age c.args.entries.now c.loop-entry.entry-index c.entry-item.result c.loop-entry-test.true
    c.entry-item.is c.loop-entry.invariant c.in_default.ensures.none

pub returns-in-Some-clause-some : goal.returns-in-Some-clause-some
returns-in-Some-clause-some c = first_there c.args.entries.now c.loop-entry.entry-index c.entry-item.result
    (View c.args.age 0 c.in-Some.members) c.loop-entry-test.true c.entry-item.is c.in-Some.ensures.some

pub returns-clause-none : goal.returns-clause-none
returns-clause-none c =
    no_first c.args.age c.args.entries.now c.loop-entry.entry-index c.loop-entry-test.false c.loop-entry.invariant
