-- The letters and the lists for them: what a sound program's member finds, and what its deed leaves.
use Rattle.std.specs.Prelude.{IfSome, Option, None, Some, slice_set}
use Rattle.std.proofs.Common.{◌≡◌, refl, sym, ap, ◌∙◌, subst, ℕ, ◌<◌, List, length, inl, inr, arith}
use Rattle.std.proofs.lemmas.{Bool.cases_eq, Option.same_Some}
use Rattle.dr_entry.specs.declared.entry.Entry.{Entry}
use Rattle.dr_form.specs.Letters.{IsFitting}
use Rattle.dr_history.specs.{History.up_to_view, Members.members_of}
use Rattle.dr_served.specs.{Appended.is_append, Served.LetterGoesOn}
use Rattle.dr_machine.specs.{Acts.CanTake, Group.{Group, roster}, Guards.CanWelcome}
use Rattle.dr_program.specs.declared.deed.Deed.TheVariants as deeds
use Rattle.dr_program.specs.{Presence.{present_at, with_present}, Program.{Program, next_sight, step_of, letter_for}}
use Rattle.dr_program.specs.Reading.{letters_of, world}
use Rattle.dr_program.specs.Running.{AsksForLetter, Running, deed, deed_of, next_deed, next_step}
use Rattle.dr_program.specs.{Steps.{IsNoJoin, stored_letters}, declared.outcome.Outcome.TheVariants.Ok}
use Rattle.dr_program.proofs.{Deeds.step_is, Fixed.{told, deed_told, Told}, Joins.given_welcome}
use Rattle.dr_program.proofs.{Present.{present_kept, present_set, present_within, MayGet}, StepsAt.taking}
use Rattle.dr_refine.proofs.Deeds.{deed_step}
use Rattle.dr_program_laws.proofs.Letters.{letters_are, letters_have_room, may_get}
use Rattle.dr_world.{specs.{Posts.PostsOf, Steps.posts_after}, proofs.Letters.{enough_after, list_left}}
use Rattle.dr_play.{specs.Sound.IsSound, proofs.{Deeds.{any_outcome, at_give, at_take}, Sound.move_sound}}
use Rattle.dr_sim.specs.{Deeds.{IsTaken, outcome_by, own_letter, went_so}, Lists.{FindsLists, HasSpare, HaveSpares}}
use Rattle.dr_sim.{specs.Sound.{IsAmong, move, with_member}, proofs.Steps.own_there}

-- ---- what a member finds

-- where one may be given a letter there is none yet, and a list is left for it
record IsFree (p : PostsOf) (j : ℕ) : Type 0 where
  pub within : j < length p.letters
  pub none : present_at p.letters j ≡ None
  pub left : 0 < p.left

is_free : (g : Group) (p : Program) (m : ℕ) (r : Running) (posts : PostsOf) (j : ℕ)
    → IsAmong g p m r p.table posts.letters → r.replica.end ≡ None → HasSpare posts r
    → next_deed r ≡ deeds.Give j → IsFree posts j
is_free g p m r posts j is none lists gives = record {
  within = get.within;
  none = get.none;
  left = list_left g (world g (step_of p (move m Ok))) posts.letters j posts.left (up_to_view r.replica.history)
      is.sound.group (move_sound g p (move m Ok) is.sound).reached whole (ap (λ (q : Program). letters_of q.letters)
      (step_is p (move m Ok) r is.there none) ∙ ap (λ s. letters_of (stored_letters p.letters r.replica s))
      (at_give r j gives) ∙ ap (λ ls. letters_of (slice_set ls j (Some (up_to_view r.replica.history)))) is.letters)
      get (omega (arith, lists.enough, ap (λ k. length (members_of k)) (is.sound.form.of m r is.there).late));
}
  where
    whole : length posts.letters ≡ roster g
    whole = ap length (sym is.letters) ∙ is.sound.form.posts

    plain : IsNoJoin (next_step r)
    plain = subst IsNoJoin (sym (at_give r j gives)) tt

    can : CanWelcome g (world g p) m j
    can = subst (CanTake g (world g p) m) (at_give r j gives)
        (deed_step g p m Ok r is.sound.group is.sound.form is.there none plain
        (any_outcome (next_sight p.table r) (letter_for p m) Ok r (next_step r) (ap is_append (at_give r j gives)) plain)).0

    get : MayGet g posts.letters j
    get = may_get g (world g p) posts.letters m j is.sound.group is.sound.reached whole (ap letters_of is.letters) can

-- a letter that is there for a member that takes it fits it, and goes on from what it has
record IsGood (r : Running) (letter : Option (List Entry)) : Type 0 where
  pub fitting : IfSome letter (IsFitting r.replica)
  pub goes_on : LetterGoesOn r.replica.history letter

is_good : (g : Group) (p : Program) (m : ℕ) (r : Running) (letter : Option (List Entry)) → IsSound g p
    → present_at p.members m ≡ Some r → AsksForLetter r → letter_for p m ≡ letter → IsGood r letter
is_good g p m r None is there asks found = record { fitting = tt; goes_on = tt }
is_good g p m r (Some letter) is there asks found =
    let outside = (taking r (is.form.form m r there) asks).outside in
    let on = letters_are g p is.group is.form is.reached m r letter there outside found in record {
      fitting = letters_have_room g p m r letter is.group is.form is.reached there outside found;
      goes_on = (on.rest, on.begins);
    }

-- a member of a sound program finds all that its deeds ask for
pub finds_lists : (g : Group) (p : Program) (m : ℕ) (r : Running) (cells : List ℕ) (posts : PostsOf)
    → IsAmong g p m r cells posts.letters → r.replica.end ≡ None → HasSpare posts r → FindsLists posts r
finds_lists g p m r cells posts is none lists = record {
  list = λ j gives. let free = is_free g p m r posts j
      (record { sound = is.sound; there = is.there; table = refl; letters = is.letters }) none lists gives in
      (free.within, free.none, free.left, lists.room);
  fitting = λ takes. (good takes).fitting;
  goes_on = λ takes. (good takes).goes_on;
}
  where
    good : next_deed r ≡ deeds.Take → IsGood r (own_letter posts.letters r)
    good takes = is_good g p m r (own_letter posts.letters r) is.sound is.there
        (record { unended = none; due = at_take r takes })
        (sym (own_there g p m r is.sound is.there) ∙ ap (λ ls. own_letter ls r) is.letters)

-- ---- what its deed leaves

pub taken_told : (words : List ℕ) (posts : List (Option (List Entry))) (r : Running) (cells : List ℕ)
    (mails : List (Option (List Entry))) (x : Running) → r.replica.end ≡ None
    → IsTaken words posts r cells mails x → told x.replica ≡ told r.replica
taken_told words posts r cells mails x none taken = ap (λ (y : Running). told y.replica)
    (taken.member ∙ ap (went_so words (own_letter posts r) (outcome_by x.failed) r) none)
    ∙ deed_told words (own_letter posts r) (outcome_by x.failed) r

-- so lists are left for it as before
pub lists_after : (posts after : PostsOf) (r x : Running) → r.replica.end ≡ None → told x.replica ≡ told r.replica
    → after ≡ posts_after posts r.replica (next_step r) → FindsLists posts r → HasSpare posts r → HasSpare after x
lists_after posts after r x none same is finds lists = subst (λ p. HasSpare p x) (sym is) (record {
  enough = omega (
    arith,
    ap (λ (t : Told). length (members_of t.late)) same,
    enough_after posts.letters posts.left (length (members_of r.replica.late)) r.replica (next_step r) lists.enough
        (λ j given. let free = finds.list j (ap (deed r) none
        ∙ ap (deed_of r) (given_welcome (next_step r) j given)) in (free.2, free.1, free.0)),
  );
  room = omega (arith, ap (λ (t : Told). t.room) same, lists.room);
})

pub lists_still : (posts : PostsOf) (r x : Running) → told x.replica ≡ told r.replica → HasSpare posts r
    → HasSpare posts x
lists_still posts r x same lists = record {
  enough = omega (arith, ap (λ (t : Told). length (members_of t.late)) same, lists.enough);
  room = omega (arith, ap (λ (t : Told). t.room) same, lists.room);
}

-- where one member goes on, they are left for all
pub lists_on : (g : Group) (p : Program) (posts after : PostsOf) (m : ℕ) (r x : Running) → IsSound g p
    → present_at p.members m ≡ Some r → x.replica.late ≡ r.replica.late → HasSpare after x
    → after.room ≡ posts.room → HaveSpares posts p.members → HaveSpares after (with_present p.members m x)
lists_on g p posts after m r x is there same lists room have = λ k q at. elim (cases_eq k m) [
  | inl here ↦ subst (HasSpare after)
      (same_Some x q (sym (present_set p.members m x (present_within p.members m r there))
      ∙ ap (present_at (with_present p.members m x)) (sym here) ∙ at)) lists
  | inr other ↦
      let was = sym (present_kept p.members m k x other) ∙ at in record {
        enough = omega (
          arith,
          lists.enough,
          ap (λ n. length (members_of n)) same,
          ap (λ n. length (members_of n)) (is.form.of m r there).late,
          ap (λ n. length (members_of n)) (is.form.of k q was).late,
        );
        room = omega (arith, room, (have k q was).room);
      }
]

-- who is late stays the same for a member over its turn
pub turn_told : (g : Group) (p : Program) (m : ℕ) (r x : Running) (cells : List ℕ)
    (mails : List (Option (List Entry))) → IsSound g p → present_at p.members m ≡ Some r
    → IsSound g (with_member p m x cells mails) → x.replica.late ≡ r.replica.late
turn_told g p m r x cells mails is there after = (after.form.of m x
    (present_set p.members m x (present_within p.members m r there))).late ∙ sym (is.form.of m r there).late
