-- A member in a process of its own, with its own copy of the table.
use Rattle.std.specs.Prelude.{◌≡◌, ℕ, zero, suc, ◌&&◌, not, Bool, true, false, if◌then◌else◌, List, slice_index, slice_set, Option, None, Some}
use Rattle.dr_entry.specs.declared.entry.Entry.{Entry}
use Rattle.dr_member.specs.Deeds.{is_before_turn}
use Rattle.dr_program.specs.Running.{Running, after_step, broken_off, next_deed, settled, took_letter}
use Rattle.dr_program.specs.declared.{deed.Deed.Deed, outcome.LogWhy.LogWhy}
use Rattle.dr_program.specs.declared.deed.Deed.TheVariants as deeds

-- the member, and the words of the table by index; it sees those of its own copy
pub record Lone : Type 0 where
  pub member : Running
  pub words : List ℕ

-- the deed concerns nobody else: it is a look or an act
abbrev pub is_alone : Deed → Bool
is_alone (deeds.Look index) = true
is_alone (deeds.Act index word) = true
is_alone d = false

-- after such a deed
abbrev pub after_alone : Lone → Deed → Lone
after_alone d (deeds.Look index) = record {
  member = after_step (slice_index d.words index) d.member;
  words = d.words;
}
after_alone d (deeds.Act index word) = record {
  member = after_step 0 d.member;
  words = slice_set d.words index word;
}
after_alone d due = d

abbrev pub done_alone : Lone → Lone
done_alone d = after_alone d (next_deed d.member)

-- after a push that is on its way: its word stands in the room for the other's copy, which the member doesn't see
abbrev pub after_push : Lone → Deed → Lone
after_push d (deeds.Push index word) = record {
  member = after_step 0 d.member;
  words = slice_set d.words index word;
}
after_push d due = d

abbrev pub pushed_on : Lone → Lone
pushed_on d = after_push d (next_deed d.member)

-- after an append that its log has, or a letter that it gave
abbrev pub went_on : Lone → Lone
went_on d = record { member = after_step 0 d.member; words = d.words }

-- after it asked for its letter: it has joined by this one, or none has come
abbrev pub after_asking : Option (List Entry) → Lone → Lone
after_asking letter d = record { member = settled (took_letter letter d.member); words = d.words }

-- after an append that failed
abbrev pub failed : LogWhy → Lone → Lone
failed why d = record { member = broken_off why d.member; words = d.words }

-- its next deed concerns nobody else, and begins no turn
abbrev pub goes_on : Lone → Bool
goes_on d = not (is_before_turn d.member) && is_alone (next_deed d.member)

-- so many such deeds lead from d to e
abbrev pub LeadsBy : ℕ → Lone → Lone → Type 0
LeadsBy zero d e = d ≡ e
LeadsBy (suc n) d e = (goes_on d ≡ true) × LeadsBy n (done_alone d) e

-- all of them lead from d to e, where no more is due
abbrev pub Leads : Lone → Lone → Type 0
Leads d e = (n : ℕ) × LeadsBy n d e × (goes_on e ≡ false)

-- its next deed, unless it stands before a turn
abbrev pub due_of : Lone → Option Deed
due_of d = if is_before_turn d.member then None else Some (next_deed d.member)
