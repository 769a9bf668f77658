-- The views that are left ended with values for which more than half of them have voted.
use Rattle.std.proofs.{Common.{inl, inr, subst, sym, ℕ, ◌≡◌, ◌⊎◌, ◌<◌, ap, arith, Some, ◌≤◌}, lemmas.Bool.cases_lt}
use Rattle.dr_entry.{specs.declared.record.Value.Value, proofs.BoolFacts.stays_out}
use Rattle.dr_words.specs.{Columns.leavers_column, Packing.accept_tag}
use Rattle.dr_machine.specs.{Group.{Group, roster}, Guards.CanFinish, Run.PastGrew, Votes.{vote_in, HasVoted}}
use Rattle.dr_machine.{specs.World.World, proofs.Groups.HasLeft}
use Rattle.dr_faithful.specs.{Chosen.{AreChosen, Values, views_by}, Faithful.{Numbers, Faithful}, Tells.Views}
use Rattle.dr_faithful.proofs.ChosenViews.{Changes}
use Rattle.dr_vote_laws.{specs.Voting.{IsChosen, Voting, IsCut}, proofs.Cuts.vote_cut}
use Rattle.dr_vote_laws.proofs.Values.{commits, chosen_since, somebody}

-- more than half of each view that somebody has left has voted for its value by one ballot
abbrev pub AreVotedFor : Group → Values → World → Type 0
AreVotedFor g values w =
    (m v : ℕ) → v < w.past.view m → (b : ℕ) × IsChosen (views_by g values) w.past.votes v b (values v)

-- a member ends its view with the value that it has committed
pub voted-for : (g : Group) (values : Values) (w : World) (k v : ℕ)
    → AreChosen values w → Voting g (views_by g values) w → AreVotedFor g values w → HasLeft g w v k
    ⊎ (CanFinish g w k × (v ≡ w.past.view k)) → (b : ℕ) × IsChosen (views_by g values) w.past.votes v b (values v)
voted-for g values w k v chosen voting old (inl (inl before)) = old k v before
voted-for g values w k v chosen voting old (inl (inr t)) = old t.0 v t.2
voted-for g values w k v chosen voting old (inr (can, same)) =
    let t = commits g (views_by g values) w k can.value voting can.committed in (
      t.0,
      subst (λ u. IsChosen (views_by g values) w.past.votes u t.0 (values u)) (sym same)
          (subst (λ x. IsChosen (views_by g values) w.past.votes (w.past.view k) t.0 x)
          (chosen k can.value can.committed) t.1),
    )

pub ballots-stay : (g : Group) (values : Values) (w u : World) (v : ℕ) → PastGrew w.past u.past
    → (b : ℕ) × IsChosen (views_by g values) w.past.votes v b (values v)
    → (b : ℕ) × IsChosen (views_by g values) u.past.votes v b (values v)
ballots-stay g values w u v grew t = (t.0, chosen_since (views_by g values) w u v t.0 (values v) grew t.1)

-- a cut changes its view as it should
pub cut-changes : (g : Group) (values : Values) (own : Numbers) (v : ℕ)
    → IsCut g.opening (views_by g values) own v (values v) → Changes g values v
cut-changes g values own v cut = record {
  mask = cut.mask;
  part = cut.part;
  majority = cut.majority;
  stay = λ i h. stays_out _ _ (cut.leavers i (cut.part i h)) h;
  newcomers = cut.newcomers;
  named = cut.named;
}

-- and so does a value for which more than half of the view have voted
pub voted-cut : (g : Group) (values : Values) (w : World) (v b : ℕ) → Voting g (views_by g values) w
    → IsChosen (views_by g values) w.past.votes v b (values v)
    → IsCut g.opening (views_by g values) w.past.own v (values v)
voted-cut g values w v b voting voted =
    let one = somebody g (views_by g values) w v b (values v) voting voted in
    vote_cut g (views_by g values) w one.0 (vote_in g v b (values v)) voting one.1

-- who has voted in a view has come to it
pub voted_come : (g : Group) (V : Views) (w : World) (i v b : ℕ) (x : Value) → Faithful g V w → Voting g V w
    → HasVoted g w.past.votes i v b x → v ≤ w.past.view i
voted_come g V w i v b x f voting h = by (cases_lt (w.past.view i) v)
  where
    never : w.past.view i < v → (b < accept_tag (w.past.own i v (leavers_column (roster g))))
        ⊎ (w.pending i ≡ Some (vote_in g v b x)) → v ≤ w.past.view i
    never less (inl tagged) =
        let none : accept_tag (w.past.own i v (leavers_column (roster g))) ≡ 0 =
        ap accept_tag (f.fresh.unwritten i v (leavers_column (roster g)) less) in
        absurd (omega (arith, tagged, none))
    never less (inr waits) =
        let same : v ≡ w.past.view i = (voting.acted.waiting i (vote_in g v b x) waits).1 in omega (arith, same)

    by : (w.past.view i < v) ⊎ (v ≤ w.past.view i) → v ≤ w.past.view i
    by (inl less) = never less (voting.acted.below i v b x h)
    by (inr come) = come
