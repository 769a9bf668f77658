-- A late member that joins comes to the head of its first view, and goes on well; and whom a member may wish for
-- is in no view so far.
use Rattle.std.proofs.Common.{List, ◌≡◌, ap, ap₂, arith, false, length, refl, subst, sym, true, ℕ, ◌<◌, ◌∙◌}
use Rattle.dr_entry.specs.declared.entry.Entry.{Entry}
use Rattle.dr_history.specs.{History.{IsPrefixOf, last_view, up_to_view}, Members.has, Order.{IsNewIn, MayJoin}}
use Rattle.dr_history_laws.{specs.Courses.course, proofs.Courses.course-head}
use Rattle.dr_machine.specs.{Group.{Group, IsGroup, IsPresent, roster}, Guards.CanJoin, World.World}
use Rattle.dr_machine.proofs.Presence.{in_roster}
use Rattle.dr_faithful.specs.{Chosen.{Values, endings_by, views_by}, Faithful.{Faithful, JoinsWell}}
use Rattle.dr_faithful.proofs.ChosenViews.{IsLetter, views-first, letter-view}
use Rattle.dr_world_laws.{specs.Historic.{AreLaid, Historic, head_by}, proofs.Finishing.head-few}
use Rattle.dr_world_laws.proofs.{Holding.{head-later, view-there}, Letters.letter-behind}

-- ---- a wish

-- a late member that no View of a history names is in none of the views that its member has come to
pub wishes-new : (g : Group) (values : Values) (w : World) (m j : ℕ) → IsGroup g → Historic g values w
    → IsPresent g m → MayJoin g.opening (w.past.history m) j → IsNewIn g.opening (views_by g values) (w.past.view m) j
wishes-new g values w m j is h there may = record {
  late = may.0;
  absent = λ u come. may.1 u (views_by g values u) (view-there g values w m u h (in_roster g m is there) come);
}

-- ---- a join

-- whoever is none of its view has the history of the opening
pub outside-history : (g : Group) (values : Values) (w : World) (m : ℕ) → Faithful g (views_by g values) w
    → AreLaid g values w → m < roster g → has (w.members m) m ≡ false → w.past.history m ≡ head_by g values w 0
outside-history g values w m f laid l outside =
    let out = ap (λ k. has k m) (sym (f.views.own m)) ∙ outside in
    laid.historic.history m l ∙ ap₂ (course g.opening w.past.sent (endings_by g.opening values))
    (f.views.outside m out) (f.delivered.none m out)
    ∙ course-head g.opening w.past.sent (endings_by g.opening values) 0

-- the letter goes on from what its member has, which is none of its view yet
pub letter-begins : (g : Group) (values : Values) (w : World) (m : ℕ) (letter : List Entry) → IsGroup g
    → Faithful g (views_by g values) w → AreLaid g values w → m < roster g
    → has (w.members m) m ≡ false → IsLetter g values w.past m letter → IsPrefixOf (w.past.history m) letter
letter-begins g values w m letter is f laid l outside t =
    subst (λ es. IsPrefixOf es letter) (sym (outside-history g values w m f laid l outside))
    (subst (IsPrefixOf (head_by g values w 0)) (sym t.is) (head-later g values w 0 t.view (omega (arith, t.next))))

pub joins-well : (g : Group) (values : Values) (w : World) (m : ℕ) → IsGroup g → Faithful g (views_by g values) w
    → AreLaid g values w → (can : CanJoin g w m) → IsLetter g values w.past m can.letter
    → JoinsWell g (views_by g values) w m (last_view (0, 0) can.letter).0 (last_view (0, 0) can.letter).1 can.letter
joins-well g values w m is f laid can t = subst (λ x. JoinsWell g (views_by g values) w m x.0 x.1 can.letter)
    (sym (letter-view g values w m can.letter t)) (record {
      later = omega (arith, zero, later);
      next = refl;
      inside = t.member;
      first = t.new;
      stayed = λ i h early. subst (λ v. has (views_by g values v) i ≡ true) (sym zero)
          (ap (λ k. has k i) (views-first g values) ∙ early);
      begins = letter-begins g values w m can.letter is f laid l can.outside t;
      behind = subst (λ es. length es < length (up_to_view can.letter))
          (sym (outside-history g values w m f laid l can.outside)) (letter-behind g values w m can.letter t);
      few = head-few g values w m t.view can.letter is f laid
          (λ u less. (laid.left t.giver u t.within (omega (arith, less, t.come))).ended) t.is;
    })
  where
    l : m < roster g
    l = in_roster g m is can.may.alive.present

    zero : w.past.view m ≡ 0
    zero = f.views.outside m (ap (λ k. has k m) (sym (f.views.own m)) ∙ can.outside)

    later : 0 < t.view
    later = omega (arith, t.next)

-- its history is that head
pub joins-head : (g : Group) (values : Values) (w : World) (m : ℕ) (l : List Entry) → IsLetter g values w.past m l
    → l ≡ head_by g values w (last_view (0, 0) l).0
joins-head g values w m l t = t.is ∙ ap (λ x. head_by g values w x.0) (sym (letter-view g values w m l t))
