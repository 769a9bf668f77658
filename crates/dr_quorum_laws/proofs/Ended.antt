-- What is known of the members of an age that has ended, or goes on: their histories, the views of these, and
-- what is durable.
use Rattle.std.proofs.Common.{◌≡◌, refl, ◌⊎◌, inl, inr, ℕ, ◌<◌, ◌≤◌, List, length, take}
use Rattle.dr_entry.specs.declared.entry.Entry.{Entry}
use Rattle.dr_history.{specs.History.IsPrefixOf, proofs.Lists.take-prefix}
use Rattle.dr_machine.{specs.{Group.{Group, IsGroup, IsPresent, roster}, World.World}, proofs.Ends.longest-below}
use Rattle.dr_machine.proofs.Presence.{in_roster}
use Rattle.dr_world_laws.proofs.Worlds.{Known, agreed}
use Rattle.dr_quorum_laws.specs.Holding.{IsLongestHistory}

-- ---- the longest history

pub longest-history : (g : Group) (w : World) (i : ℕ) → IsGroup g → Known g w → IsPresent g i
    → (history : List Entry) × IsLongestHistory g w history
longest-history g w i is y here = by (longest-below g w (agreed g w is y) (roster g))
  where
    by : ((m : ℕ) → m < roster g → IsPresent g m → ⊥) ⊎ ((k : ℕ)
        × IsPresent g k × ((m : ℕ) → m < roster g → IsPresent g m → IsPrefixOf (w.past.history m) (w.past.history k)))
        → (history : List Entry) × IsLongestHistory g w history
    by (inl none) = absurd (none i (in_roster g i is here) here)
    by (inr t) = (
      w.past.history t.0,
      record { one = (t.0, t.1, refl); longest = λ m there. t.2 m (in_roster g m is there) there },
    )

-- so much of it as a member knows to be durable is so much of that member's history
pub durable-front : (g : Group) (w : World) (history : List Entry) (m : ℕ) → IsGroup g → Known g w
    → IsLongestHistory g w history → IsPresent g m → w.past.durable m ≤ length (w.past.history m)
    → take (w.past.durable m) history ≡ take (w.past.durable m) (w.past.history m)
durable-front g w history m is y longest there l =
    take-prefix (w.past.history m) history (w.past.durable m) (longest.longest m there) l
