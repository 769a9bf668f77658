-- Whoever has committed a value by which it stays may end its view with it: a bank is left for the next
-- view, and all items that the value takes are there.
use Rattle.std.proofs.Common.{◌≡◌, ap, arith, subst, true, false, ℕ, ◌+◌, ◌-◌, ◌<◌, ◌∙◌, Some}
use Rattle.dr_entry.specs.declared.record.Value.{Value}
use Rattle.dr_history.{specs.Members.has, proofs.Ranks.some_member}
use Rattle.dr_machine.specs.{Group.{Group, IsGroup, banks, roster}, Guards.{CanFinish, MayChoose}, World.World}
use Rattle.dr_faithful.{specs.Chosen.{AreChosen, Values, views_by}, proofs.Beside.in_view}
use Rattle.dr_faithful.proofs.{ChosenViews.{Changes, views-stays}, Ending.{changes, worth-falls, views-few, IsSafe}}
use Rattle.dr_vote_laws.proofs.Ballots.{cut-changes, voted-cut}
use Rattle.dr_world_laws.proofs.Reached.{Known}
use Rattle.dr_world_laws.proofs.Reached as worlds

-- ---- how many views there may be

-- each view that was left changed as it should
pub left-changes : (g : Group) (values : Values) (w : World) (m u : ℕ) → Known g values w → u < w.past.view m → Changes g values u
left-changes g values w m u y less =
    let t = y.ballots m u less in cut-changes g values w.past.own u (voted-cut g values w u t.0 y.voting t.1)

-- a member that stays finds a bank for the next view
bank-left : (g : Group) (values : Values) (w : World) (m : ℕ) → IsGroup g → Known g values w → m < roster g
    → has (views_by g values (w.past.view m)) m ≡ true → has (values (w.past.view m)).leavers m ≡ false
    → Changes g values (w.past.view m) → w.past.view m + 1 < banks g
bank-left g values w m is y l there stays c =
    let v : ℕ = w.past.view m in
    omega (
      arith,
      views-few g values v is (λ u less. left-changes g values w m u y less),
      worth-falls g values v is c,
      some_member (views_by g values (v + 1)) m (omega (arith, l, is.most_members))
          (views-stays g values v m is there stays),
    )

-- so it may end its view
pub may-finish : (g : Group) (values : Values) (w : World) (m : ℕ) (x : Value) → IsGroup g → Known g values w
    → AreChosen values w → MayChoose g w m → w.committed m ≡ Some x → has x.leavers m ≡ false → CanFinish g w m
may-finish g values w m x is y chosen may e stays = record {
  may = may;
  value = x;
  committed = e;
  stays = stays;
  bank = bank-left g values w m is y within there
      (subst (λ (z : Value). has z.leavers m ≡ false) same stays) (changes g values w m x same safe);
  items = λ s here. safe.covered m s (member m ∙ there) stays here;
}
  where
    safe : IsSafe g (views_by g values) w m x
    safe = worlds.safe g values w m x y e

    same : x ≡ values (w.past.view m)
    same = chosen m x e

    there : has (views_by g values (w.past.view m)) m ≡ true
    there = in_view g (views_by g values) w m y.faithful may.inside

    within : m < roster g
    within = y.faithful.views.within (w.past.view m) m there

    member : (i : ℕ) → has (w.members m) i ≡ has (views_by g values (w.past.view m)) i
    member i = ap (λ k. has k i) (y.faithful.views.own m)
