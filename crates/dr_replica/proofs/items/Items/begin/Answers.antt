use Rattle.std.proofs.Common.{rules, refl}
use Rattle.dr_replica.proofs.Places.{begun_items}
use Rattle.dr_replica.proofs.items.Items.begin.Goals as goal

pub invariant_of-result : goal.invariant_of-result
invariant_of-result c = begun_items _ c.args.view c.args.roster c.args.most record {
  members = search rules;
  roster = refl;
  most = refl;
  counts = search rules;
  items = search rules;
} c.first.ensures c.requires.roster c.requires.members c.requires.some c.requires.most
