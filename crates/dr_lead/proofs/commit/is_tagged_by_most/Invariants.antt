use Rattle.std.proofs.Common.{◌≡◌, ◌<◌, ℕ, get_or, length}
use Rattle.dr_words.specs.Packing.{accept_tag}
use Rattle.dr_lead.proofs.commit.is_tagged_by_most.Given as goal

abbrev pub invariant-loop-i : goal.invariant-loop-i
invariant-loop-i l = record {
  long : length l.tags ≡ 16;
  tags : (j : ℕ) → j < l.i → get_or l.tags j 0 ≡ accept_tag (get_or l.words j 0);
}
