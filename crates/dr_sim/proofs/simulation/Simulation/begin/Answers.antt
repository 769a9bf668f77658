use Rattle.std.proofs.Common.{rules, sym, ap, ◌∙◌}
use Rattle.dr_play.{specs.Sound.IsSound, proofs.Beginning.{is_begun, begun_is_sound, begun_forms}}
use Rattle.dr_program.specs.Presence.{present_at}
use Rattle.dr_restart.specs.Groups.{group_of}
use Rattle.dr_sim.{specs.Sound.program_over, proofs.Begun.begun_lists}
use Rattle.dr_sim.proofs.simulation.Simulation.begin.Goals as goal

pub no_posts-requires : goal.no_posts-requires
no_posts-requires c = λ m r there.
    begun_forms c.args.script.now c.args.start.now c.args.nth c.in_ok-members.members.items c.requires.group
    c.requires.ranges.some_turn c.requires.ranges.group.lists c.in_ok-members.ensures m r
    (ap (λ rs. present_at rs m) (sym c.as_slice.ensures.value) ∙ there)

sound : (c : goal.In_ok-vec) → IsSound (group_of c.args.script.now c.args.start.now)
    (program_over c.in_ok-members.members.items c.in_ok-vec.field-0.items c.in_ok-posts.posts.letters)
sound c = begun_is_sound c.args.script.now c.args.start.now c.args.nth _ c.requires.group
    c.requires.ranges.some_turn c.requires.ranges.group.lists
    (is_begun c.args.script.now c.args.start.now c.args.nth c.in_ok-members.members.items
    c.in_ok-vec.field-0.items c.in_ok-posts.posts.letters c.in_ok-members.ensures
    c.requires.ranges.group.lists (search rules) c.in_ok-posts.ensures.letters)

pub returns-clause-sound : goal.returns-clause-sound
returns-clause-sound c = sound c

pub invariant_of-result : goal.invariant_of-result
invariant_of-result c = begun_lists (group_of c.args.script.now c.args.start.now) c.in_ok-members.members.items
    c.in_ok-vec.field-0.items c.in_ok-posts.posts.letters c.in_ok-posts.posts (sound c) c.in_ok-posts.ensures.left
    (λ m r there. c.in_ok-posts.ensures.room m r (ap (λ rs. present_at rs m) c.as_slice.ensures.value ∙ there))
