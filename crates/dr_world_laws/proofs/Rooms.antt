-- Histories are short: there is a bank for each view that a member comes to, and room for its whole history.
use Rattle.std.proofs.Common.{Bool, ◌≡◌, true, false, refl, ap, arith, length, ℕ, ◌*◌, ◌+◌, ◌<◌, ◌∙◌, ◌≤◌, Contains, Some}
use Rattle.std.proofs.{Math.Nat.mul_comm, lemmas.Option.slice_get-get_or}
use Rattle.dr_history.specs.{History.messages_of, Members.{has, members_of}, Order.first_entries}
use Rattle.dr_history.proofs.{MemberLemmas.member-has, Ranks.some_member}
use Rattle.dr_history_laws.proofs.Sizes.{short-course}
use Rattle.dr_machine.specs.{Group.{Group, IsGroup, banks, roster}, Run.IsReached, World.World}
use Rattle.dr_machine.proofs.Groups.{first_length}
use Rattle.dr_faithful.{specs.Chosen.{Values, endings_by, views_by}, proofs.ChosenViews.views-within}
use Rattle.dr_faithful.proofs.Ending.{views-few}
use Rattle.dr_world_laws.proofs.{Agreeing.may-reach, Ending.left-changes, Reached.Known, Worlds.known}

-- no member comes to a view for which there is no bank
pub view-below : (g : Group) (values : Values) (w : World) (m : ℕ) → IsGroup g → Known g values w
    → m < roster g → w.past.view m < banks g
view-below g values w m is y l = by (has (views_by g values (w.past.view m)) m) refl
  where
    by : (b : Bool) → has (views_by g values (w.past.view m)) m ≡ b → w.past.view m < banks g
    by true here = omega (
      arith,
      views-few g values (w.past.view m) is (λ u less. left-changes g values w m u y less),
      some_member (views_by g values (w.past.view m)) m (omega (arith, l, is.most_members)) here,
    )
    by false out = omega (arith, y.faithful.views.outside m out, is.some_member)

-- a history has the first entries, a View for each view that was left, and no more messages than the script
pub history-short : (g : Group) (values : Values) (w : World) (m most : ℕ) → IsGroup g → Known g values w
    → m < roster g → ((s : ℕ) → length (messages_of g.opening s) ≤ most)
    → length (w.past.history m) ≤ length (first_entries g.opening) + w.past.view m + roster g * most
history-short g values w m most is y l few = omega (
  arith,
  ap length (y.laid.historic.history m l),
  short-course g.opening w.past.sent (endings_by g.opening values) (w.past.view m) (w.next m) (roster g) most
      is.sound (may-reach g values w m is y l) members few,
)
  where
    members : (u s : ℕ) → u ≤ w.past.view m → Contains (members_of (views_by g values u)) s → s < roster g
    members u s come at = views-within g values u s is (member-has (views_by g values u) at.0 s
        (slice_get-get_or (members_of (views_by g values u)) at.0 s at.1 ∙ ap Some at.2))

-- a history has no more than the start, a View for each bank, and the messages that the script can give the
-- roster
pub history_below : (g : Group) (w : World) (m most : ℕ) → IsGroup g → IsReached g w → m < roster g
    → ((s : ℕ) → length (messages_of g.opening s) ≤ most)
    → length (w.past.history m) ≤ length g.opening.start + banks g + most * roster g
history_below g w m most is r l few =
    let y = known g w is r in
    omega (
      arith,
      history-short g y.values w m most is y.chosen l few,
      view-below g y.values w m is y.chosen l,
      first_length g,
      mul_comm (roster g) most,
    )
