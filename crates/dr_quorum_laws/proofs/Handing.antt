-- Logs that are handed in: two majorities share one, and what stands on that of a member that was there.
use Rattle.std.proofs.Common.{◌≡◌, ◌∙◌, subst, ℕ, ◌≤◌, arith, List, length, take, Some, slice_get}
use Rattle.std.proofs.lemmas.List.{take_all}
use Rattle.dr_history.specs.{History.IsPrefixOf, Order.first_entries, Soundness.whole_roster}
use Rattle.dr_history.proofs.Lists.{take-prefix, prefix-trans}
use Rattle.dr_machine.specs.{Group.{Group, IsGroup, IsPresent}, World.World}
use Rattle.dr_restart.specs.{Left.{AreLeft, votes_of_age}, declared.lists.{Attempt.Attempt, LogLists.LogLists}}
use Rattle.dr_restart.proofs.Handing.{left-entries, was-left}
use Rattle.dr_words.specs.Masks.{IsMajorityOf, IsPartOf}
use Rattle.dr_world_laws.proofs.{Ended.{first-begins, first-durable, own-durable}, Worlds.{Known, agreed}}
use Rattle.dr_quorum_laws.specs.Holding.{HoldSince}

-- ---- logs that are held

-- an age that has ended, with more than half of the roster there, the logs that were left, and what tries have
-- made of them
pub record Since (g : Group) (w : World) (choice : List LogLists) (tries : List Attempt)
    (logs : List LogLists) : Type 0 where
  pub group : IsGroup g
  pub known : Known g w
  pub part : IsPartOf g.opening.present (whole_roster g.opening)
  pub majority : IsMajorityOf g.opening.present (whole_roster g.opening)
  pub left : AreLeft g w choice
  pub held : HoldSince g w choice tries logs

-- the log of a member begins with as much of the longest history as stood there and somebody knew to be durable
pub durable-there : (g : Group) (w : World) (choice logs : List LogLists) (tries : List Attempt)
    (s : Since g w choice tries logs) (m k d : ℕ) (log : LogLists) → IsPresent g m
    → slice_get logs m ≡ Some log → IsPresent g k → d ≤ length (w.past.log m) → d ≤ w.past.durable k
    → IsPrefixOf (take d s.held.history) log.entries
durable-there g w choice logs tries s m k d log present at knows logged durable =
    let t = was-left g w choice m s.group s.left present in
    let e = left-entries g w m t.0.entries (votes_of_age g.opening.age t.0.votes)
    ((agreed g w s.group s.known).logged m present) t.2.left in
    s.held.begins m d k t.0 log present t.1 at (omega (arith, logged, e.0)) knows durable

-- so with all first entries
pub first-there : (g : Group) (w : World) (choice logs : List LogLists) (tries : List Attempt)
    → Since g w choice tries logs → (m : ℕ) (log : LogLists) → IsPresent g m → slice_get logs m ≡ Some log
    → IsPrefixOf (first_entries g.opening) log.entries
first-there g w choice logs tries s m log present at = subst (λ es. IsPrefixOf es log.entries) front
    (durable-there g w choice logs tries s m m n log present at present
    (omega (arith, durable, own-durable g w m s.group s.known present)) durable)
  where
    n : ℕ
    n = length (first_entries g.opening)

    durable : length (first_entries g.opening) ≤ w.past.durable m
    durable = first-durable g w m s.group s.known

    begins : IsPrefixOf (first_entries g.opening) s.held.history
    begins = prefix-trans (first_entries g.opening) (w.past.history m) s.held.history
        (first-begins g w m s.group s.known present) (s.held.longest.longest m present)

    front : take (length (first_entries g.opening)) s.held.history ≡ first_entries g.opening
    front = take-prefix (first_entries g.opening) s.held.history n begins (omega arith)
        ∙ take_all n (first_entries g.opening) (omega arith)
