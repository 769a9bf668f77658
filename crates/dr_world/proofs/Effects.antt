-- What an event makes of the replica of its member and of the table is its effect on the world.
use Rattle.std.{specs.Prelude.{None, Option, Some, is_some, slice_index}, proofs.lemmas.Bool.and_parts}
use Rattle.std.proofs.Common.{◌≡◌, ◌≢◌, refl, sym, ap, ◌∙◌, subst, inl, inr, ℕ, ◌<◌, ◌&&◌, true, false, not, List, arith}
use Rattle.dr_entry.specs.declared.entry.Entry.{Entry}
use Rattle.dr_history.specs.Members.{has}
use Rattle.dr_rows.specs.Words.{seen}
use Rattle.dr_words.specs.{Form.IsInForm, Grown.HasGrown, Layout.word_index_of}
use Rattle.dr_machine.specs.{Acts.{effect, effect_of}, Events.{member_of, step_of}, declared.event.Event.Event}
use Rattle.dr_machine.{specs.{Effects.joins, Run.IsReached, World.World}, proofs.Runs.events_reached}
use Rattle.dr_machine.specs.{Group.{Group, banks, roster, columns}, declared.step.Step.{Step, TheVariants.Look}}
use Rattle.dr_program.{specs.Presence.{present_at, with_present}, proofs.{Replicas.word_inside, Runs.joins_outside}}
use Rattle.dr_program.specs.{Reading.{Shared, letters_of, world_of}, Replica.{Replica, is_inside, is_other}}
use Rattle.dr_program.{specs.Steps.{has_cell, allows, found, stored, stored_letters}, proofs.Present.present_within}
use Rattle.dr_faithful.specs.{Chosen.views_by, Faithful.Faithful}
use Rattle.dr_world_laws.proofs.Worlds.{Known, faithful, known}
use Rattle.dr_refine.{specs.Programs.{IsMember, stored_in}, proofs.Guards.{other_member, other_within, seen_is}}
use Rattle.dr_refine.proofs.{Joins.join_effect, Tests.{step_effect, cell_test, word_is}}
use Rattle.dr_program_laws.proofs.Letters.{letter_goes_on}
use Rattle.dr_world.specs.Held.{Held, its_group, its_world, shared_of, IsHeld}
use Rattle.dr_world.specs.Steps.{IsSight, finds_letter, joined_by, stepped_with}
use Rattle.dr_world.proofs.Guarding.{is_member, join_or_not}

-- ---- effects

-- what is held after an event of this replica
abbrev pub after : Held → Event → Replica → Held
after h e r = record h {
  replicas = with_present h.replicas (member_of e)
      (stepped_with (letters_of h.letters (member_of e)) h.table r (step_of e));
  table = stored h.table r (step_of e);
  letters = stored_letters h.letters r (step_of e);
}

-- a join with the letter that it finds is its effect
with_letter : (g : Group) (rs : List (Option Replica)) (table : Shared) (m : ℕ) (r : Replica)
    → IsMember g rs table m r → IsReached g (world_of g rs table) → is_inside r ≡ false
    → is_some (letters_of table.letters m) ≡ true
    → world_of g (with_present rs m (joined_by (letters_of table.letters m) r)) table ≡ joins (world_of g rs table) m
with_letter g rs table m r is reached outside found = by (letters_of table.letters m) refl found
  where
    by : (o : Option (List Entry)) → letters_of table.letters m ≡ o → is_some o ≡ true → world_of g (with_present rs m
        (joined_by (letters_of table.letters m) r)) table ≡ joins (world_of g rs table) m
    by None e found = absurd (cc found)
    by (Some letter) e found = ap (λ o. world_of g (with_present rs m (joined_by o r)) table) e
        ∙ join_effect g rs table m r letter is outside e (letter_goes_on g rs table m r letter is reached outside e)

-- a step with the letter that it finds is its effect
with_effect : (g : Group) (rs : List (Option Replica)) (table : Shared) (m : ℕ) (r : Replica) (s : Step)
    → IsMember g rs table m r → IsReached g (world_of g rs table) → allows r s ≡ true
    → finds_letter (letters_of table.letters m) s ≡ true
    → world_of g (with_present rs m (stepped_with (letters_of table.letters m) table.words r s))
    (stored_in table r s) ≡ effect_of g (world_of g rs table) m s
with_effect g rs table m r s is reached may finds = elim (join_or_not s) [
  | inl join ↦ subst (λ s. finds_letter (letters_of table.letters m) s ≡ true
      → world_of g (with_present rs m (stepped_with (letters_of table.letters m) table.words r s))
      (stored_in table r s) ≡ effect_of g (world_of g rs table) m s)
      (sym join) (with_letter g rs table m r is reached (joins_outside r s join may)) finds
  | inr (other, over) ↦ ap (λ q. world_of g (with_present rs m q) (stored_in table r s))
      (over (letters_of table.letters m) table.words r) ∙ step_effect g rs table m r s is may other
]

-- what an event makes of what is held is its effect
pub take_effect : (h : Held) (e : Event) (r : Replica) → IsHeld h → present_at h.replicas (member_of e)
    ≡ Some r → allows r (step_of e) ≡ true → finds_letter (letters_of h.letters (member_of e)) (step_of e) ≡ true
    → its_world (after h e r) ≡ effect (its_group h) (its_world h) e
take_effect h e r is there may finds = with_effect (its_group h) h.replicas (shared_of h) (member_of e) r (step_of e)
    (is_member h (member_of e) r is there) (events_reached (its_group h) (its_world h) is.events) may finds

-- ---- looks

-- the word that stands at the index of a cell, in the bank of the view of its member
pub word_there : (h : Held) (m v i c : ℕ) → v ≡ (its_world h).past.view m → v < banks (its_group h)
    → m < roster (its_group h) → i < roster (its_group h) → c < columns (its_group h)
    → slice_index h.table (word_index_of (roster (its_group h)) (its_group h).window v m i c)
    ≡ (its_world h).table ((its_world h).past.view m) m i c
word_there h m v i c view bank copy row column = sym (word_inside (its_group h) h.table v m i c bank copy row column)
    ∙ ap (λ b. (its_world h).table b m i c) view

-- what a look finds is in form, and has grown from the word last seen
sight : (h : Held) (m : ℕ) (r : Replica) (i c : ℕ) → IsHeld h → present_at h.replicas m ≡ Some r
    → has_cell r i c ≡ true → IsSight h.table r i c
sight h m r i c is there cell = record {
  in_form = subst (λ n. IsInForm n c (found h.table r i c)) (sym member.of.members)
      (subst (IsInForm (roster g) c) word (told.form.in_table (w.past.view m) m i c));
  grown = subst (λ n. HasGrown n c (seen r.rows i c) (found h.table r i c)) (sym member.of.members)
      (subst (λ x. HasGrown (roster g) c x (found h.table r i c))
      (seen_is g h.replicas (shared_of h) m r i c member apart)
      (subst (HasGrown (roster g) c (w.seen m i c)) word (told.old.in_seen m i c apart)));
}
  where
    g : Group
    g = its_group h

    w : World
    w = its_world h

    member : IsMember (its_group h) h.replicas (shared_of h) m r
    member = is_member h m r is there

    tests : (is_other r i ≡ true) × (c < columns (its_group h))
    tests = (cell_test g h.replicas (shared_of h) m r i c member).0 cell

    apart : i ≢ m
    apart = ((other_member g h.replicas (shared_of h) m r i member).0 tests.0).other

    so : Known (its_group h) (its_world h)
    so = known g w is.group (events_reached g w is.events)

    told : Faithful (its_group h) (views_by (its_group h) so.values) (its_world h)
    told = faithful g w so

    word : (its_world h).table ((its_world h).past.view m) m i c ≡ found h.table r i c
    word = word_is g h.replicas (shared_of h) m r i c member
        (omega (arith, present_within h.replicas m r there, is.members.all))
        (other_within g h.replicas (shared_of h) m r i member tests.0) tests.1

-- so it is where its event is a look that is allowed
pub in_sight : (h : Held) (e : Event) (r : Replica) (i c : ℕ) → IsHeld h
    → present_at h.replicas (member_of e) ≡ Some r → allows r (Look i c) ≡ true → IsSight h.table r i c
in_sight h e r i c is there may =
    let look = and_parts (is_inside r) (not (has r.suspects i) && has_cell r i c) may in
    sight h (member_of e) r i c is there (and_parts (not (has r.suspects i)) (has_cell r i c) look.1).1
