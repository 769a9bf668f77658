use Rattle.std.proofs.Common.{ap, ◌∙◌}
use Rattle.dr_program.specs.Replica.{delivered}
use Rattle.dr_history.proofs.Fronts.{front_held}
use Rattle.dr_replica.{specs.Items.counts_of, proofs.Insides.{next_before, next_is_spot, delivered_after}}
use Rattle.dr_replica.proofs.replica.Replica.deliver.Goals as goal

pub item_at-requires : goal.item_at-requires
item_at-requires c = record {
  spot = next_is_spot c.self.inside c.self.invariant;
  held = front_held (counts_of c.self.inside.items) c.self.inside.next.place
      (next_before c.self.inside c.args.self.now (c.self.view_is ∙ c.ask_received.ensures)
      c.self.invariant c.requires.may c.requires.inside).0;
}

pub step-requires-clause-small : goal.step-requires-clause-small
step-requires-clause-small c = (next_before c.self.inside c.args.self.now
    (c.self.view_is ∙ c.ask_received.ensures) c.self.invariant c.requires.may c.requires.inside).1

pub returns : goal.returns
returns c = delivered_after c.self.inside c.step.new.self c.deliver.new.self c.sender_at-sender.result
    c.item_at.result.now c.self.invariant c.sender_at-sender.ensures.sender c.item_at.ensures
    c.deliver.ensures c.step.ensures.place ∙ ap delivered (c.self.view_is ∙ c.ask_received.ensures)
