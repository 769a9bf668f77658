use Rattle.std.proofs.Common.{◌≡◌, ◌∙◌, sym, ap, arith, length, ◌+◌}
use Rattle.dr_history.specs.{Members.members_of, Order.first_entries}
use Rattle.dr_machine.specs.{Group.{banks, late_members}, World.opening_world}
use Rattle.dr_words.specs.Layout.{words_of}
use Rattle.dr_program.specs.Presence.{present_at}
use Rattle.dr_restart.specs.Groups.{group_of}
use Rattle.dr_world.{specs.{Held.{IsHeld, its_world}, Inside.held_of}, proofs.Beginning.opened}
use Rattle.dr_world.proofs.world.World.opening.Goals as goal

all_banks : (c : goal.In_ok-vec) → c.shape_of.result.banks ≡ banks (group_of c.args.script.now c.args.start.now)
all_banks c = c.shape_of.ensures.banks
    ∙ ap (λ n. n + length (members_of (late_members (group_of c.args.script.now c.args.start.now))))
    (sym c.requires.ranges.lists)

both : (c : goal.In_ok-vec) → let w = held_of (record {
  script = c.in_ok-copy_script.field-0;
  start = c.in_ok-copy.field-0;
  first = c.in_ok-first_entries.field-0;
  replicas = c.in_ok-replicas.replicas;
  table = c.in_ok-vec.field-0;
  posts = c.in_ok-posts.posts;
}) in IsHeld w × (its_world w ≡ opening_world (group_of c.args.script.now c.args.start.now))
both c = opened c.args.script.now c.args.start.now _ c.words.result
    c.in_ok-copy_script.ensures c.in_ok-copy.ensures c.requires.group
    (sym c.requires.ranges.lists) c.in_ok-replicas.ensures
    (c.words.ensures ∙ (λ z. words_of (c.shape_of.ensures.members z) (c.shape_of.ensures.window z) (all_banks c z)))
    (c.in_ok-vec.ensures.items_if_clones_equal (λ y e. e)) c.in_ok-posts.ensures.letters

late : (c : goal.In_ok-vec) → length (members_of (late_members (group_of c.in_ok-copy_script.field-0
    c.in_ok-copy.field-0))) ≡ length (members_of (late_members (group_of c.args.script.now c.args.start.now)))
late c = λ z. length (members_of (late_members (group_of (c.in_ok-copy_script.ensures z) (c.in_ok-copy.ensures z))))

pub invariant_of-result : goal.invariant_of-result
invariant_of-result c = record {
  held = (both c).0;
  lists = record {
    enough = omega (arith, c.in_ok-posts.ensures.left, late c);
    room = λ m r there. c.in_ok-posts.ensures.room m r (ap (λ rs. present_at rs m) c.as_slice.ensures.value ∙ there);
  };
  first = c.in_ok-first_entries.ensures
      ∙ (λ z. first_entries (group_of (sym c.in_ok-copy_script.ensures z) (sym c.in_ok-copy.ensures z)).opening);
}

pub returns-clause-opening : goal.returns-clause-opening
returns-clause-opening c = (both c).1
