-- Each value that somebody has voted for is a cut: whoever proposed it has taken it over from an earlier
-- ballot, or was the first.
use Rattle.std.proofs.Common.{arith, inl, inr, subst, suc, zero, ℕ, ◌<◌, ◌≡◌, ◌≤◌, ◌⊎◌, ap, sym, true, Some, ◌∙◌, ◌≢◌}
use Rattle.std.proofs.lemmas.Bool.{cases_lt}
use Rattle.dr_entry.{specs.declared.record.{Value.Value, Vote.Vote}, proofs.BoolFacts.{kept_in, stays_out}}
use Rattle.dr_history.specs.Members.{has}
use Rattle.dr_machine.specs.{Group.Group, Votes.{HasLogged, HasVoted, Votes, vote_in}, World.World}
use Rattle.dr_faithful.{specs.{Faithful.{Numbers, Faithful}, Tells.Views}, proofs.Ending.IsSafe}
use Rattle.dr_vote_laws.specs.Voting.{AreOriginal, AreVotes, IsCut, IsFirst, IsLater, IsOriginal, Voting}
use Rattle.dr_vote_laws.proofs.Values.{vote_is, commits, somebody}

-- all votes of ballots below a bound are for cuts
abbrev AreCuts : Group → Views → Numbers → Votes → ℕ → ℕ → Type 0
AreCuts g V own votes v top = (i b : ℕ) (x : Value) → b < top → HasVoted g votes i v b x → IsCut g.opening V own v x

original_cut : (g : Group) (V : Views) (own : Numbers) (votes : Votes) (v b : ℕ) (x : Value)
    → AreCuts g V own votes v b → IsOriginal g V own votes v b x → IsCut g.opening V own v x
original_cut g V own votes v b x below t = by t.source
  where
    by : IsFirst g V own votes v b t.mask x ⊎ IsLater g votes v b t.mask x → IsCut g.opening V own v x
    by (inl first) = record {
      mask = t.mask;
      part = t.part;
      majority = t.majority;
      final = t.final;
      leavers = first.leavers;
      newcomers = first.newcomers;
      named = first.named;
      trims = first.trims;
    }
    by (inr later) = below later.somebody.0 later.ballot x later.earlier later.somebody.2

all_cuts : (g : Group) (V : Views) (own : Numbers) (votes : Votes) (v top : ℕ) → AreVotes g V votes
    → AreOriginal g V own votes → AreCuts g V own votes v top
all_cuts g V own votes v zero f o i b x l h = absurd (omega (arith, l))
all_cuts g V own votes v (suc top) f o i b x l h = by (cases_lt b top) (all_cuts g V own votes v top f o)
  where
    by : (b < top) ⊎ (top ≤ b) → AreCuts g V own votes v top → IsCut g.opening V own v x
    by (inl less) below = below i b x less h
    by (inr last) below =
        let same : top ≡ b = omega (arith, l, last) in
        original_cut g V own votes v b x (subst (λ t. AreCuts g V own votes v t) same below)
        (o v b x (f.led i v b x h))

-- so is each value of a vote
pub vote_cut : (g : Group) (V : Views) (w : World) (i : ℕ) (x : Vote) → Voting g V w
    → HasLogged w.past.votes i x → IsCut g.opening V w.past.own x.view x.value
vote_cut g V w i x f h = all_cuts g V w.past.own w.past.votes x.view
    (suc x.ballot) f.valid f.original i x.ballot x.value (omega arith) (vote_is g V w i x f h)

pub safe-value : (g : Group) (V : Views) (w : World) (m : ℕ) (x : Value) → Faithful g V w → Voting g V w
    → w.suspects m ≢ 0 → w.committed m ≡ Some x → IsSafe g V w m x
safe-value g V w m x f voting wedged e = record {
  wedged = wedged;
  mask = cut.mask;
  part = cut.part;
  majority = cut.majority;
  stay = λ i h. stays_out _ _ (cut.leavers i (cut.part i h)) h;
  newcomers = cut.newcomers;
  named = cut.named;
  least = λ s h.
      let there = sym (member s) ∙ h in
      let t = (cut.trims s there).found in (
        t.0,
        member t.0 ∙ cut.part t.0 t.1,
        cut.final t.0 s t.1 there,
        omega (arith, t.2, f.counts.recv t.0 v s (f.views.within v s there)),
      );
  covered = λ i s h stays k.
      let there = sym (member s) ∙ k in
      let inside : has cut.mask i ≡ true = kept_in _ _ (cut.leavers i (sym (member i) ∙ h)) stays in
      omega (arith, (cut.trims s there).least i inside, f.counts.recv i v s (f.views.within v s there));
}
  where
    v : ℕ
    v = w.past.view m

    member : (i : ℕ) → has (w.members m) i ≡ has (V (w.past.view m)) i
    member i = ap (λ k. has k i) (f.views.own m)

    cut : IsCut g.opening V w.past.own (w.past.view m) x
    cut =
        let t = commits g V w m x voting e in
        let one = somebody g V w (w.past.view m) t.0 x voting t.1 in
        vote_cut g V w one.0 (vote_in g (w.past.view m) t.0 x) voting one.1
