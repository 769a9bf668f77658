-- What is known of the members of an age that has ended, or goes on: their histories, the views of these, and
-- what is durable.
use Rattle.std.proofs.Common.{ℕ, ◌≤◌, length, ◌≡◌, ◌⊎◌, inl, inr, subst, arith, List, [], ◌∷◌, All, Contains, sym, true, ◌∙◌, suc, ◌+◌, ◌<◌}
use Rattle.std.proofs.lemmas.List.Elements.{All-contains, Contains-append_cases}
use Rattle.dr_entry.{specs.declared.entry.Entry.{Entry, TheVariants.View}, proofs.ListParts.{in-cases, in-nothing}}
use Rattle.dr_history.specs.{Agreement.sent_by, History.IsPrefixOf, Members.has, Order.first_entries}
use Rattle.dr_history.{specs.Restarting.AllStand, proofs.{Keeping.prefix_shorter, LastViews.start-earlier}}
use Rattle.dr_history.proofs.Standing.{history-stands}
use Rattle.dr_machine.specs.{Group.{Group, IsGroup, IsPresent}, Run.accounts_in, World.{World, opening_world}}
use Rattle.dr_machine.proofs.{Presence.{in_roster, late_few}, Runs.opening-in}
use Rattle.dr_faithful.{specs.Chosen.views_by, proofs.ChosenViews.{views-there, views-first}}
use Rattle.dr_world_laws.{specs.{Historic.{HoldsMessages, IsOfAge}, Views.HasView}, proofs.HeldViews.view-is}
use Rattle.dr_world_laws.proofs.{Holding.view-held, Rooms.view-below, Telling.has-view}
use Rattle.dr_world_laws.proofs.Worlds.{Known, past_since, agreed, holds_messages}

-- all first entries are durable
pub first-durable : (g : Group) (w : World) (m : ℕ) → IsGroup g → Known g w
    → length (first_entries g.opening) ≤ w.past.durable m
first-durable g w m is y =
    ((past_since g y.run.0 (opening_world g) w is y.run.1 (opening-in g y.run.0 w y.run.1)).0).durable m

pub first-begins : (g : Group) (w : World) (m : ℕ) → IsGroup g → Known g w → IsPresent g m
    → IsPrefixOf (first_entries g.opening) (w.past.history m)
first-begins g w m is y there = ((agreed g w is y).ordered m there).begins

pub stands : (g : Group) (w : World) (m : ℕ) → IsGroup g → Known g w → IsPresent g m
    → AllStand g.opening (w.past.history m)
stands g w m is y there = history-stands g.opening (sent_by (accounts_in w)) (w.past.history m) is.sound
    ((agreed g w is y).ordered m there)

-- no View of a history is of a later age
pub no-later : (g : Group) (w : World) (m a n k : ℕ) → IsGroup g → Known g w → IsPresent g m
    → Contains (w.past.history m) (View a n k) → a ≤ g.opening.age
no-later g w m a n k is y there c = by (holds_messages g w m is y (in_roster g m is there))
  where
    last : Contains (View g.opening.age 0 g.opening.members ∷ []) (View a n k) → a ≤ g.opening.age
    last c = one (in-cases (View g.opening.age 0 g.opening.members) (View a n k) [] c)
      where
        one : (View g.opening.age 0 g.opening.members ≡ View a n k) ⊎ Contains [] (View a n k) → a ≤ g.opening.age
        one (inl e) = let same : g.opening.age ≡ a = cc in omega (arith, same)
        one (inr h) = absurd (in-nothing (View a n k) h)

    first : Contains g.opening.start (View a n k)
        ⊎ Contains (View g.opening.age 0 g.opening.members ∷ []) (View a n k) → a ≤ g.opening.age
    first (inl h) = omega (arith, start-earlier g.opening a n k is.sound h)
    first (inr h) = last h

    rest : (more : List Entry) → All (IsOfAge g) more
        → Contains (first_entries g.opening) (View a n k) ⊎ Contains more (View a n k) → a ≤ g.opening.age
    rest more all (inl h) = first (Contains-append_cases g.opening.start
        (View g.opening.age 0 g.opening.members ∷ []) (View a n k) h)
    rest more all (inr h) =
        let t : IsOfAge g (View a n k) = All-contains (IsOfAge g) more (View a n k) all h in omega (arith, t.0)

    by : HoldsMessages g (w.past.history m) → a ≤ g.opening.age
    by (more, e, all) = rest more all (Contains-append_cases (first_entries g.opening) more (View a n k)
        (subst (λ es. Contains es (View a n k)) e c))

-- the members of a view are there
pub view-present : (g : Group) (w : World) (v members i : ℕ) → IsGroup g → Known g w → HasView g w v members
    → has members i ≡ true → IsPresent g i
view-present g w v members i is y h there = views-there g y.values v i is
    (subst (λ mask. has mask i ≡ true) (sym (view-is g y.values w v members is y.chosen h)) there)

pub first-view : (g : Group) (w : World) (members : ℕ) → IsGroup g → Known g w → HasView g w 0 members
    → members ≡ g.opening.members
first-view g w members is y h = sym (view-is g y.values w 0 members is y.chosen h) ∙ views-first g y.values

-- a view that is no first one has one before it, and there are few
pub view-before : (g : Group) (w : World) (v next : ℕ) → IsGroup g → Known g w → HasView g w (suc v) next
    → (v + 1 < 32) × (members : ℕ) × HasView g w v members
view-before g w v next is y h =
    let t = view-held g y.values w h.0 (suc v) next is y.chosen.laid.historic h.1 h.2 in (
      omega (arith, t.0, view-below g y.values w h.0 is y.chosen h.1, late_few g, is.most_members),
      views_by g y.values v,
      has-view g w h.0 v is y (omega (arith, t.0)),
    )

-- what a member knows to be durable stands on the logs of all members of some view that has come
pub durable-since : (g : Group) (w : World) (m : ℕ) → IsGroup g → Known g w → IsPresent g m → (v : ℕ) × (members : ℕ)
    × HasView g w v members × ((i : ℕ) → has members i ≡ true → w.past.durable m ≤ length (w.past.log i))
durable-since g w m is y there =
    let safe = y.chosen.faithful.logs.safe m there in (
      safe.since,
      views_by g y.values safe.since,
      has-view g w m safe.since is y safe.come,
      safe.logged,
    )

-- and on its own
pub own-durable : (g : Group) (w : World) (m : ℕ) → IsGroup g → Known g w → IsPresent g m
    → w.past.durable m ≤ length (w.past.log m)
own-durable g w m is y there = (y.chosen.faithful.logs.safe m there).own

pub durable-delivered : (g : Group) (w : World) (m : ℕ) → IsGroup g → Known g w → IsPresent g m
    → w.past.durable m ≤ length (w.past.history m)
durable-delivered g w m is y there = omega (
  arith,
  own-durable g w m is y there,
  prefix_shorter (w.past.log m) (w.past.history m) ((agreed g w is y).logged m there),
)
