-- At a place that the search passes nothing is left to do.
use Rattle.std.{specs.Prelude.{Option, None, Some}, proofs.lemmas.Bool.{and_parts, Decides.nat_tests}}
use Rattle.std.proofs.Common.{◌≡◌, ◌≢◌, refl, sym, ap, ◌∙◌, subst, inl, inr, ℕ, ◌<◌, ◌==◌, not, Bool, true, false, arith}
use Rattle.dr_entry.proofs.BoolFacts.{passed_push}
use Rattle.dr_faithful.specs.Chosen.{views_by}
use Rattle.dr_history.specs.Members.{has}
use Rattle.dr_machine.specs.{Group.{Group, columns, roster}, World.own_word, declared.step.Step.Step}
use Rattle.dr_machine.proofs.Presence.{is_present}
use Rattle.dr_program.specs.{Presence.present_at, Program.Program, Reading.{table_of, world}, Replica.is_other}
use Rattle.dr_program.specs.Running.{Running, append_or_end, applies, crashes_now, members, push_or_crash, step_at}
use Rattle.dr_program.specs.{Steps.{allows, is_free}, Turn.{after, columns_in, part_of, rows_in}}
use Rattle.dr_program.{specs.declared.{outcome.LogWhy.LogWhy, place.{Part.Part, Place.Place}}, proofs.Deeds.replicas}
use Rattle.dr_program.proofs.{Holdings.{held_of, own_shown}, Search.applies_at, StepsAt.may_end}
use Rattle.dr_program.specs.declared.place.Part.TheVariants as parts
use Rattle.dr_program.specs.Running as running
use Rattle.dr_refine.{specs.Programs.IsMember, proofs.{Deeds.program_member, Tests.step_guard}}
use Rattle.dr_refine.proofs.Guards as guards
use Rattle.dr_program_laws.{specs.Trusting.AreAtEase, proofs.Bounds.has_room}
use Rattle.dr_program_laws.proofs.Trusting.{IsAmong, nobody_suspects, stay_first, votes_nothing}
use Rattle.dr_rows.specs.Words.{changed, last_pushed, own}
use Rattle.dr_turn.specs.Search.{Passed, here, on}
use Rattle.dr_words.specs.Columns.{columns_of}
use Rattle.dr_world_laws.proofs.Worlds.{faithful, known}
use Rattle.dr_turn_laws.specs.{Steady.IsSteady, Swept.{IsBefore, IsIdle, Swept}, Wants.Wants}
use Rattle.dr_turn_laws.proofs.{Acts.{asked, uncrashed, asks_no_join}, Before.before_after, Steadying.is_in}

-- member m of a steady program in which nobody suspects anybody, which has not ended
pub record IsGoing (g : Group) (p : Program) (m : ℕ) (r : Running) : Type 0 where
  pub steady : IsSteady g p
  pub ease : AreAtEase p
  pub there : present_at p.members m ≡ Some r
  pub unended : r.replica.end ≡ None

pub member : (g : Group) (p : Program) (m : ℕ) (r : Running) → IsGoing g p m r
    → IsMember g (replicas p.members) (table_of p) m r.replica
member g p m r is = program_member g p m r is.steady.group is.steady.program is.there

-- it is among members that suspect nobody
pub among : (g : Group) (p : Program) (m : ℕ) (r : Running) → IsGoing g p m r → IsAmong g p m r
among g p m r is = record {
  group = is.steady.group;
  program = is.steady.program;
  reached = is.steady.reached;
  ease = is.ease;
  there = is.there;
}

-- the others of the roster are in its view
pub in_view : (g : Group) (p : Program) (m : ℕ) (r : Running) (i : ℕ) → IsGoing g p m r → i < roster g
    → has ((world g p).members m) i ≡ true
in_view g p m r i is within =
    let y = known g (world g p) is.steady.group is.steady.reached in
    let told = faithful g (world g p) y in
    ap (λ x. has x i) (told.views.own m) ∙ ap (λ v. has (views_by g y.values v) i)
    (stay_first g p m is.ease ∙ sym (stay_first g p i is.ease))
    ∙ told.views.present i (ap (λ k. has k i) is.steady.nobody ∙ is_present g i is.steady.whole within)

-- ---- tests

-- what is asked for passes its test
allowed : (g : Group) (p : Program) (m : ℕ) (r : Running) (s : Step) → IsGoing g p m r
    → Wants g (world g p) m s → allows r.replica s ≡ true
allowed g p m r s is wants =
    let can = asked g (world g p) m s (guards.may_choose g (replicas p.members) (table_of p) m r.replica
    (member g p m r is) (is.unended, (votes_nothing g p m r (among g p m r is)).0, is_in g p m r is.steady is.there))
    (nobody_suspects g p m is.ease) wants in
    (and_parts (is_free r.replica s) (allows r.replica s)
    ((step_guard g (replicas p.members) (table_of p) m r.replica s (member g p m r is) is.unended
    (asks_no_join g (world g p) m s wants)).1 (
      can,
      has_room g (replicas p.members) (table_of p) m r.replica s (member g p m r is)
          (is.steady.rooms m r is.there) is.steady.reached can,
    ))).1

-- so what fails its test isn't asked for
pub unasked : (g : Group) (p : Program) (m : ℕ) (r : Running) (s : Step) → IsGoing g p m r
    → allows r.replica s ≡ false → Wants g (world g p) m s → ⊥
unasked g p m r s is fails wants = absurd (cc (allowed g p m r s is wants, fails))

-- ---- pushes

-- a word that has not changed since it was pushed stands in the table
unchanged_stands : (g : Group) (p : Program) (m : ℕ) (r : Running) (j c : ℕ) → IsGoing g p m r
    → j < roster g → j ≢ m → c < columns g → changed r.replica.rows j c ≡ false
    → (world g p).table ((world g p).past.view m) j m c ≡ own_word (world g p) m c
unchanged_stands g p m r j c is within other low same = ap (λ v. (world g p).table v j m c)
    (ap (λ h. h.view) (held_of g (replicas p.members) (table_of p) m r.replica (member g p m r is).there))
    ∙ sym (is.steady.pushes m r is.there j c within other low)
    ∙ sym (equal (own r.replica.rows c) (last_pushed r.replica.rows j c) same)
    ∙ sym (own_shown g (replicas p.members) (table_of p) m r.replica c (member g p m r is).there)
  where
    equal : (a b : ℕ) → not (a == b) ≡ false → a ≡ b
    equal a b e = grind (arith, nat_tests, e)

unpushed : (g : Group) (p : Program) (m : ℕ) (r : Running) (j c : ℕ) → IsGoing g p m r
    → j < roster g → j ≢ m → c < columns g → applies_at r parts.Push j c ≡ false → changed r.replica.rows j c ≡ false
unpushed g p m r j c is within other low fails =
    passed_push (is_other r.replica j) (changed r.replica.rows j c) _ fails
    ((guards.other_member g (replicas p.members) (table_of p) m r.replica j (member g p m r is)).1
    (record { member = in_view g p m r j is within; other = other })) (may (crashes_now r))
  where
    may : (b : Bool) → allows r.replica (push_or_crash b j c) ≡ true
    may true = refl
    may false = allowed g p m r (uncrashed r parts.Push j c) is
        (record { member = in_view g p m r j is within; other = other }, low)

-- ---- places

-- at a place with nothing to do nothing is left
idle_at : (g : Group) (p : Program) (m : ℕ) (r : Running) (part : Part) (i c : ℕ) → IsGoing g p m r
    → i < rows_in (roster g) part → c < columns_in (columns g) part → applies_at r part i c ≡ false
    → IsIdle g (world g p) m part i c
idle_at g p m r parts.Look i c is within low fails = λ other. absurd (unasked g p m r
    (uncrashed r parts.Look i c) is fails (record { member = in_view g p m r i is within; other = other }, low))
idle_at g p m r parts.Receive i c is within low fails = unasked g p m r (step_at r parts.Receive i c) is fails
idle_at g p m r (parts.Do a) i c is within low fails = unasked g p m r (step_at r (parts.Do a) i c) is fails
idle_at g p m r parts.Append i c is within low fails = by r.failed fails
  where
    by : (o : Option LogWhy) → allows r.replica (append_or_end o) ≡ false → IsIdle g (world g p) m parts.Append i c
    by None fails = λ wants. absurd (unasked g p m r (uncrashed r parts.Append i c) is fails wants)
    by (Some why) fails = absurd (cc (may_end why, fails))
idle_at g p m r parts.Push i c is within low fails = λ other unended.
    unchanged_stands g p m r i c is within other low (unpushed g p m r i c is within other low fails)
idle_at g p m r parts.Done i c is within low fails = λ all. unasked g p m r (step_at r parts.Done i c) is fails all
idle_at g p m r part i c is within low fails = tt

-- the place after is the one of the group's shape
next_place : (g : Group) (p : Program) (m : ℕ) (r : Running) (q : Place) → IsGoing g p m r
    → after (members r) (running.columns r) q ≡ after (roster g) (columns g) q
next_place g p m r q is = let of = (member g p m r is).of in
    λ z. after (of.members z) (columns_of (of.members z) (of.window z)) q

-- on to the next place
pass : (g : Group) (p : Program) (m : ℕ) (r : Running) (q : Place) → IsGoing g p m r
    → applies r q ≡ false → Swept g (world g p) m q → Swept g (world g p) m (after (members r) (running.columns r) q)
pass g p m r q is fails old x inside before =
    let next = subst (IsBefore x) (next_place g p m r q is) before in
    elim (before_after (roster g) (columns g) x q inside next) [
      | inl earlier ↦ old x inside earlier
      | inr same ↦ idle_at g p m r (part_of x) x.row x.column is inside.row inside.column
          (ap (applies r) same ∙ fails)
    ]

-- and on to the place that the search comes to
pub passes : (g : Group) (p : Program) (m : ℕ) (r : Running) (q x : Place) → IsGoing g p m r
    → Passed r q x → Swept g (world g p) m q → Swept g (world g p) m x
passes g p m r _ _ is (here q) old = old
passes g p m r _ _ is (on q x fails rest) old =
    passes g p m r (after (members r) (running.columns r) q) x is rest (pass g p m r q is fails old)
