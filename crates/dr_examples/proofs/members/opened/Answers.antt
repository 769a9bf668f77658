use Rattle.std.proofs.Common.{None, refl, replicate, rules}
use Rattle.dr_play.proofs.Beginning.{begun_is_sound, is_begun}
use Rattle.dr_examples.proofs.members.opened.Goals as goal

pub returns : goal.returns
returns c = begun_is_sound c.args.script.now c.args.start.now 0 _ c.requires.group
    c.requires.ranges.some_turn c.requires.ranges.group.lists
    (is_begun c.args.script.now c.args.start.now 0 c.in_ok-begun_members.field-0.items
    c.in_ok-vec.field-0.items (replicate c.args.script.now.members None) c.in_ok-begun_members.ensures
    c.requires.ranges.group.lists (search rules) refl)
