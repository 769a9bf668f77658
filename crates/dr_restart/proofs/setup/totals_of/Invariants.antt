use Rattle.std.{specs.Prelude.slice_index_or, proofs.Common.{◌≡◌, ℕ, ◌<◌, ◌≤◌, [], length, get_or}}
use Rattle.dr_restart.proofs.setup.totals_of.Given as goal

abbrev pub invariant-loop-i : goal.invariant-loop-i
invariant-loop-i l = record {
  size : length l.totals ≡ 16;
  counted : (k : ℕ) → k < l.i → get_or l.totals k 0 ≡ length (slice_index_or l.lists k []);
  rest : (k : ℕ) → l.i ≤ k → get_or l.totals k 0 ≡ 0;
}
