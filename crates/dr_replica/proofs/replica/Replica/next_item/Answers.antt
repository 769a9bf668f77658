use Rattle.dr_history.proofs.Fronts.{front_held}
use Rattle.dr_replica.{specs.Items.counts_of, proofs.Insides.next_before}
use Rattle.dr_replica.proofs.replica.Replica.next_item.Goals as goal

pub item_at-requires-clause-held : goal.item_at-requires-clause-held
item_at-requires-clause-held c = front_held (counts_of c.self.inside.items) c.self.inside.next.place
    (next_before c.self.inside c.args.self.now c.self.view_is c.self.invariant c.requires.may c.requires.inside).0
