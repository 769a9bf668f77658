use Rattle.std.{specs.Prelude.None, proofs.Common.{◌≡◌, replicate}}
use Rattle.dr_world.specs.InsidePosts.{letters_in}
use Rattle.dr_world.proofs.posts.Posts.none.Given as goal

abbrev pub invariant-loop : goal.invariant-loop
invariant-loop l = letters_in l.letters.items ≡ replicate l.counter None
