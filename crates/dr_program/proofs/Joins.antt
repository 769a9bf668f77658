-- Letters: when a replica gives one, and what a replica makes of its own.
use Rattle.std.specs.Prelude.{nat_lt, Option, None, slice_set, Some}
use Rattle.std.proofs.Common.{ℕ, ◌&&◌, Bool, ◌≡◌, sym, ◌∙◌, ◌↔◌, ◌<◌, ◌≤◌, true, arith, ◌-◌, inl, inr, List, [], length, refl, ◌≢◌, zero, suc, ◌∷◌, replicate, slice_index_or, ap}
use Rattle.std.proofs.{Math.Path.fun_ext, lemmas.Bool.{and_parts, cases_eq, Decides.nat_tests}}
use Rattle.std.proofs.lemmas.{List.{get_or-set_other, get_or-set_same}, Option.same_Some}
use Rattle.dr_entry.{specs.declared.entry.{Entry.Entry, Item.TheVariants.Null}, proofs.ListPlaces.copy_at}
use Rattle.dr_entry.proofs.NumberFacts.{same_number, other_number}
use Rattle.dr_history.specs.{History.last_view, Members.has, Order.messages_from}
use Rattle.dr_rows.specs.Words.{own}
use Rattle.dr_words.specs.Masks.{IsLeastOf, least_of, mask_of, with_member}
use Rattle.dr_words.specs.declared.column.TheConstants.{LOGGED_COLUMN}
use Rattle.dr_words.proofs.Masks.{has_mask_of, least_of_is, mask_of_small}
use Rattle.dr_machine.specs.{Effects.{welcomes, enters}, World.{World, no_value}, Writes.{at, at₂}}
use Rattle.dr_machine.specs.declared.step.Step.{Step}
use Rattle.dr_machine.specs.declared.step.Step.TheVariants as steps
use Rattle.dr_program.specs.{Reading.letters_of, Replica.{Replica, me, LeftView, nothing_left}}
use Rattle.dr_program.{specs.Steps.{found, HasLetter, given_to}, proofs.Holdings.{Holding, held, Changes}}

-- those of its view that were in the one that it came from
abbrev pub stayed : Replica → ℕ → Bool
stayed r i = has r.came_from i && has r.members i

-- it is the least of them exactly where none of them is less
pub welcomer_test : (r : Replica) → me r < 16 → has r.members (me r) ≡ true → has r.came_from (me r) ≡ true
    → (least_of (mask_of (stayed r)) ≡ me r)
    ↔ ((i : ℕ) → i < 16 → has r.came_from i ≡ true → has r.members i ≡ true → me r ≤ i)
welcomer_test r few inside before = (
  λ e i within there member. rw e at (least.least i (there_is i within there member)),
  λ each. omega (
    arith,
    least.least (me r) mine,
    each (least_of (mask_of (stayed r))) least.number
        (and_parts (has r.came_from _) (has r.members _) found).0 (and_parts (has r.came_from _) (has r.members _) found).1,
  ),
)
  where
    there_is : (i : ℕ) → i < 16 → has r.came_from i ≡ true → has r.members i ≡ true
        → has (mask_of (stayed r)) i ≡ true
    there_is i within there member = has_mask_of (stayed r) i ∙ grind (arith, nat_tests, within, there, member)

    mine : has (mask_of (stayed r)) (me r) ≡ true
    mine = there_is (me r) few before inside

    least : IsLeastOf (mask_of (stayed r)) (least_of (mask_of (stayed r)))
    least = least_of_is (mask_of (stayed r)) (me r) (mask_of_small (stayed r)) mine

    found : (has r.came_from (least_of (mask_of (stayed r))) && has r.members (least_of (mask_of (stayed r)))) ≡ true
    found = (and_parts (nat_lt (least_of (mask_of (stayed r))) 16) _
        (sym (has_mask_of (stayed r) (least_of (mask_of (stayed r)))) ∙ least.member)).1

-- a letter that is given stands there, and the others stay
pub letters_written : (letters : List (Option (List Entry))) (j : ℕ) (x : Option (List Entry)) → j < length letters
    → letters_of (slice_set letters j x) ≡ at (letters_of letters) j x
letters_written letters j x within = fun_ext λ k. elim (cases_eq k j) [
  | inl same ↦ rw (same, same_number j) (get_or-set_same letters j x None within)
  | inr other ↦ rw (other_number k j other) (get_or-set_other letters j k x None other)
]

-- what a member has once it has given j the letter
abbrev pub give_after : ℕ → Holding → Holding
give_after j h = record h { given = with_member h.given j }

pub give_changes : (w : World) (m j : ℕ) → Changes w (welcomes w m j) m (give_after j (held w m))
give_changes w m j = record { others = λ k other. rw (other_number k m other) refl; here = rw (same_number m) refl }

-- what a member has once it has joined
abbrev pub join_after : ℕ → List Entry → Holding → Holding
join_after m letter h =
    let view = last_view (0, 0) letter in record h {
      view = view.0;
      own = at₂ h.own view.0 LOGGED_COLUMN (length h.log);
      history = letter;
      members = view.1;
      came_from = h.members;
      given = 0;
      suspects = 0;
      promise = 0;
      tag = 0;
      value = no_value;
      committed = None;
      item = λ s k. Null;
      next = 0;
      base = length (messages_from m letter);
      seen = λ i c. 0;
    }

pub join_changes : (w : World) (m : ℕ) (letter : List Entry) → Changes w (enters w m
    (last_view (0, 0) letter).0 (last_view (0, 0) letter).1 letter) m (join_after m letter (held w m))
join_changes w m letter = record {
  others = λ k other. rw (other_number k m other) refl;
  here = rw (same_number m) refl;
}

-- what a member keeps that comes from its first view into a later one
pub kept_rest : (now : LeftView) (k v : ℕ) → v ≢ 0
    → slice_index_or (now ∷ replicate k nothing_left) v nothing_left ≡ nothing_left
kept_rest now k zero other = absurd (other refl)
kept_rest now k (suc v) other = copy_at k nothing_left v

-- a letter that is there is one for any step
pub has_letter : (letter : Option (List Entry)) (es : List Entry) (s : Step) → letter ≡ Some es → HasLetter letter s
has_letter letter es steps.Join found = (es, found)
has_letter letter es (steps.Do a) found = tt
has_letter letter es s found = tt

pub given_welcome : (s : Step) (j : ℕ) → given_to s ≡ Some j → s ≡ steps.Welcome j
given_welcome (steps.Welcome k) j e = ap steps.Welcome (same_Some k j e)
given_welcome s j e = absurd (cc e)
