-- Worlds in which everybody is in the first view.
use Rattle.std.proofs.Common.{ℕ, ◌≡◌, ap, ◌∙◌, subst, true, ◌<◌, sym, length, ◌+◌, arith, ◌≤◌}
use Rattle.dr_history.specs.{History.{messages_in, messages_of}, Members.has, Order.messages_from}
use Rattle.dr_history.{specs.Soundness.IsNobodyLate, proofs.NumberedLemmas.start_messages}
use Rattle.dr_history_laws.{specs.Remaining.messages_left, proofs.Courses.head-first}
use Rattle.dr_machine.specs.{Group.{AllPresent, Group, IsGroup, roster}, Guards.next_index}
use Rattle.dr_machine.{specs.World.{World, own_word, items_received}, proofs.{Presence.is_present, Sending.all_put}}
use Rattle.dr_faithful.{specs.{Chosen.{views_by, endings_by}, Faithful.Faithful}, proofs.ChosenViews.views-first}
use Rattle.dr_world_laws.{specs.Historic.head_by, proofs.Worlds.{Known, put_first}}

-- a world that is reached, in which everybody of the roster is there, nobody is late, and everybody is in the first
-- view
pub record IsFirst (g : Group) (w : World) : Type 0 where
  pub group : IsGroup g
  pub known : Known g w
  pub whole : AllPresent g
  pub nobody : IsNobodyLate g.opening
  pub view : (m : ℕ) → w.past.view m ≡ 0

pub told : {g : Group} {w : World} (y : IsFirst g w) → Faithful g (views_by g y.known.values) w
told y = y.known.chosen.faithful

-- each view that anybody is in has the members of the roster
pub members_are : {g : Group} {w : World} → IsFirst g w → (m : ℕ) → w.members m ≡ g.opening.members
members_are {g = g} y m = (told y).views.own m ∙ ap (views_by g y.known.values) (y.view m)
    ∙ views-first g y.known.values

pub of_members : {g : Group} {w : World} → IsFirst g w → (i : ℕ) → i < roster g → has g.opening.members i ≡ true
of_members {g = g} y i l = subst (λ mask. has mask i ≡ true) (views-first g y.known.values)
    (subst (λ v. has (views_by g y.known.values v) i ≡ true) (y.view i)
    ((told y).views.present i (ap (λ mask. has mask i) y.nobody ∙ is_present g i y.whole l)))

-- the members of its view are those of the roster
pub is_in_view : {g : Group} {w : World} → IsFirst g w → (m i : ℕ) → i < roster g → has (w.members m) i ≡ true
is_in_view y m i l = ap (λ mask. has mask i) (members_are y m) ∙ of_members y i l

pub of_roster : {g : Group} {w : World} → IsFirst g w → (i : ℕ) → has g.opening.members i ≡ true → i < roster g
of_roster {g = g} y i member = (told y).views.within 0 i
    (ap (λ mask. has mask i) (views-first g y.known.values) ∙ member)

pub in_view_is : {g : Group} {w : World} → IsFirst g w → (m i : ℕ) → has (w.members m) i ≡ true → i < roster g
in_view_is y m i member = of_roster y i (ap (λ mask. has mask i) (sym (members_are y m)) ∙ member)

pub own_first : {g : Group} {w : World} → IsFirst g w → (m c : ℕ) → own_word w m c ≡ w.past.own m 0 c
own_first {w = w} y m c = ap (λ v. w.past.own m v c) (y.view m)

-- what a member has in its view it has in the first one
pub count_first : {g : Group} {w : World} → IsFirst g w → (m s : ℕ) → items_received w m s ≡ w.past.count m 0 s
count_first {w = w} y m s = ap (λ v. w.past.count m v s) (y.view m)

-- and it sends on from the messages of the start
pub start_first : {g : Group} {w : World} → IsFirst g w → (m : ℕ) → m < roster g
    → w.base m ≡ length (messages_from m g.opening.start)
start_first {g = g} {w = w} y m l = y.known.chosen.laid.historic.based m l ∙ ap (λ v. length
    (messages_from m (head_by g y.known.values w v))) (y.view m) ∙ ap (λ es. length (messages_from m es))
    (head-first g.opening w.past.sent (endings_by g.opening y.known.values)) ∙ start_messages g.opening m

-- the number of the next message behind those of the start is that of the messages that m has put
pub next_is : (g : Group) (w : World) (m : ℕ) → IsFirst g w → m < roster g
    → next_index w m ≡ length (messages_from m g.opening.start) + messages_in (w.past.sent m 0)
next_is g w m y l = ap (λ b. b + messages_in (w.past.sent m (w.past.view m))) (start_first y m l)
    ∙ ap (λ v. length (messages_from m g.opening.start) + messages_in (w.past.sent m v)) (y.view m)

pub none_left : (g : Group) (w : World) (m : ℕ) → IsFirst g w → m < roster g
    → messages_left g.opening m ≤ w.past.count m 0 m → length (messages_of g.opening m) ≤ next_index w m
none_left g w m y l enough =
    let put = put_first g w m y.group y.known l in
    let all = all_put _ _ (w.past.sent m 0) put (omega (arith, (told y).sent.all m 0, enough)) in
    omega (arith, next_is g w m y l, all, put.left)
