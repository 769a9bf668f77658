-- The test of an event at the replica of its member is the guard of that event, in every world that is
-- reached.
use Rattle.std.{specs.Prelude.{None, Option, Some}, proofs.lemmas.Bool.{and_from, and_parts}}
use Rattle.std.proofs.Common.{◌≡◌, ◌⊎◌, inl, inr, ◌↔◌, refl, ℕ, true, false, not, Bool, List}
use Rattle.dr_entry.specs.declared.entry.Entry.{Entry}
use Rattle.dr_machine.specs.{Acts.Guard, Events.{member_of, step_of}, declared.{event.Event.Event, step.Step.Step}}
use Rattle.dr_machine.{specs.declared.step.Step.TheVariants.Join, proofs.Runs.events_reached}
use Rattle.dr_program.specs.{Presence.present_at, Reading.letters_of, Replica.{Replica, is_inside}}
use Rattle.dr_program.specs.Steps.{HasLetter, IsNoJoin, allows, may_take, stepped_over}
use Rattle.dr_refine.{specs.Programs.IsMember, proofs.Tests.step_test}
use Rattle.dr_program_laws.proofs.Bounds.{has_room}
use Rattle.dr_world.specs.Held.{Held, its_group, its_world, shared_of, IsHeld}
use Rattle.dr_world.specs.Steps.{finds_letter, may_come, stepped_with}

-- ---- a member of what is held

-- a replica that is held is a member's
pub is_member : (h : Held) (m : ℕ) (r : Replica) → IsHeld h → present_at h.replicas m ≡ Some r
    → IsMember (its_group h) h.replicas (shared_of h) m r
is_member h m r is there = record {
  group = is.group;
  cells = is.table;
  posts = is.posts;
  there = there;
  form = is.members.form m r there;
  of = is.members.of m r there;
}

-- a step other than a join goes by no letter
pub join_or_not : (s : Step) → (s ≡ Join) ⊎ (IsNoJoin s
    × ((letter : Option (List Entry)) (table : List ℕ) (r : Replica)
    → stepped_with letter table r s ≡ stepped_over table r s))
join_or_not Join = inl refl
join_or_not s = inr (tt, λ letter table r. refl)

-- ---- the guard

-- a letter is there where one is needed
pub letter_test : (letter : Option (List Entry)) (s : Step) → (finds_letter letter s ≡ true) ↔ HasLetter letter s
letter_test None Join = (λ e. absurd (cc e), λ found. absurd (cc found.1))
letter_test (Some es) Join = (λ e. (es, refl), λ found. refl)
letter_test letter s = (λ e. tt, λ found. refl)

-- the test of an event is its guard
pub take_test : (h : Held) (e : Event) (r : Replica) → IsHeld h → present_at h.replicas (member_of e) ≡ Some r
    → (may_come (Some r) (letters_of h.letters (member_of e)) (step_of e) ≡ true)
    ↔ Guard (its_group h) (its_world h) e
take_test h e r is there =
    let law = step_test (its_group h) h.replicas (shared_of h) (member_of e) r (step_of e)
    (is_member h (member_of e) r is there) in
    let letter = letter_test (letters_of h.letters (member_of e)) (step_of e) in (
      λ may. let two = and_parts (may_take r (step_of e)) _ may in (law.0 (two.0, letter.0 two.1)).0,
      λ can. let test = law.1 (
        can,
        has_room (its_group h) h.replicas (shared_of h) (member_of e) r (step_of e)
            (is_member h (member_of e) r is there) (is.members.of (member_of e) r there).room
            (events_reached (its_group h) (its_world h) is.events) can,
      ) in and_from (may_take r (step_of e)) _ test.0 (letter.1 test.1),
    )
