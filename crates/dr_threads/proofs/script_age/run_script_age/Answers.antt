use Rattle.std.proofs.Common.{sym, ap, ◌∙◌, subst, [], length, arith}
use Rattle.dr_served.specs.Served.{HaveServed}
use Rattle.dr_program.{specs.Program.Program, proofs.Present.all_ended}
use Rattle.dr_play.proofs.Beginning.{as_many_begun}
use Rattle.dr_table.{specs.Cards.{AreAtEnd, opened}, proofs.Cards.as_many}
use Rattle.dr_threads.{specs.Logs.AreFor, proofs.{Halves.same_longer, Opening.{age_over, are_for, is_dealt}}}
use Rattle.dr_threads.proofs.script_age.run_script_age.Goals as goal

pub returns-in_default-clause-logs : goal.returns-in_default-clause-logs
returns-in_default-clause-logs g c = same_longer g.D.Disk.told g.D.Disk.faults c.args.logs.items

pub returns-in_default-with_capacity-clause-logs : goal.returns-in_default-with_capacity-clause-logs
returns-in_default-with_capacity-clause-logs g c = same_longer g.D.Disk.told g.D.Disk.faults c.args.logs.items

pub returns-in_default-begun_members-clause-logs : goal.returns-in_default-begun_members-clause-logs
returns-in_default-begun_members-clause-logs g c = same_longer g.D.Disk.told g.D.Disk.faults c.args.logs.items

pub returns-in_default-deal-clause-logs : goal.returns-in_default-deal-clause-logs
returns-in_default-deal-clause-logs g c = same_longer g.D.Disk.told g.D.Disk.faults c.args.logs.items

pub deal-requires : goal.deal-requires
deal-requires g c = record {
  dealt = is_dealt c.args.script.now c.args.start.now c.args.nth c.in-Ok-begun_members.members.items c.requires.group
      c.requires.ranges.group.lists c.requires.ranges.some_turn c.in-Ok-begun_members.ensures;
}

pub run_age-requires-clause-logs : goal.run_age-requires-clause-logs
run_age-requires-clause-logs g c = λ ks within. subst (AreFor c.args.logs.items) (sym c.in-Ok-deal.ensures.hand.1)
    (are_for c.args.script.now c.args.start.now c.args.nth c.in-Ok-begun_members.members.items c.args.logs.items
    c.requires.ranges.group.lists c.in-Ok-begun_members.ensures c.requires.logs)

pub ends_of-requires-clause-ended : goal.ends_of-requires-clause-ended
ends_of-requires-clause-ended g c =
    all_ended (record { members = c.close-members.result.items; table = []; letters = [] })
    (subst AreAtEnd (sym c.close-members.ensures.members) c.in_ok-hand.ensures.run.over.ended)

pub ends_of-requires-clause-room : goal.ends_of-requires-clause-room
ends_of-requires-clause-room g c = omega (
  arith,
  ap length c.close-members.ensures.members,
  as_many c.in-Ok-deal.hand.members c.in_ok-hand.hand.members c.in_ok-hand.ensures.run.over.same,
  ap length c.in-Ok-deal.ensures.hand.1,
  as_many_begun c.args.script.now c.args.start.now c.args.nth c.in-Ok-begun_members.members.items
      c.in-Ok-begun_members.ensures,
  c.in-Ok-with_capacity.ensures.capacity,
  c.from.ensures,
)

pub returns-clause-age : goal.returns-clause-age
returns-clause-age g c =
    let members = sym c.close-members.ensures.members in
    let over : Program = record {
      members = c.close-members.result.items;
      table = c.close-members.ensures.ran.0;
      letters = c.close-members.ensures.ran.1;
    } in
    age_over g.D.Disk.told g.D.Disk.faults c.args.script.now c.args.start.now c.args.nth
    c.in-Ok-begun_members.members.items c.args.logs.items c.in_ok-hand.logs.items (opened c.in-Ok-deal.board) over
    (record { age = c.args.start.now.age; start = c.in-Ok.entries; members = c.of.result }) c.requires.ranges
    c.requires.group c.in-Ok-begun_members.ensures c.in-Ok-deal.ensures.opened c.close-members.ensures.ran.2
    (subst AreAtEnd members c.in_ok-hand.ensures.run.over.ended) c.requires.logs c.in_ok-hand.ensures.run.places
    (subst (HaveServed g.D.Disk.told g.D.Disk.faults c.args.logs.items c.in_ok-hand.logs.items) members
    c.in_ok-hand.ensures.run.served) (λ z. record {
      age = c.args.start.now.age;
      start = c.in-Ok.ensures z;
      members = (c.of.ensures ∙ c.ends_of.ensures) z;
    })
