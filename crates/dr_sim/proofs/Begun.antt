-- The lists for letters, as an age opens.
use Rattle.std.{specs.Prelude.{Option, Some}, proofs.Common.{◌≡◌, ap, ℕ, ◌≤◌, List, length, arith}}
use Rattle.dr_entry.specs.declared.entry.Entry.{Entry}
use Rattle.dr_play.specs.Sound.{IsSound}
use Rattle.dr_history.specs.Members.{members_of}
use Rattle.dr_machine.specs.Group.{Group, late_members}
use Rattle.dr_program.specs.{Presence.present_at, Running.Running}
use Rattle.dr_world.specs.Posts.{PostsOf}
use Rattle.dr_sim.specs.{Lists.{HasSpare, HaveSpares}, Sound.program_over}

-- no letter is there yet, and a list for each late member
pub begun_lists : (g : Group) (members : List (Option Running)) (words : List ℕ)
    (letters : List (Option (List Entry))) (posts : PostsOf) → IsSound g (program_over members words letters)
    → posts.left ≡ length (members_of (late_members g))
    → ((m : ℕ) (r : Running) → present_at members m ≡ Some r → r.replica.room ≤ posts.room) → HaveSpares posts members
begun_lists g members words letters posts is left room = λ m r there. record {
  enough = omega (arith, left, ap (λ n. length (members_of n)) (is.form.of m r there).late);
  room = room m r there;
}
