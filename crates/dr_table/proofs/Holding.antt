-- What a seat holds while it is about a letter, and what is known of the member that gives or takes it.
use Rattle.std.specs.{Prelude.{IfSome, Option, None, Some, Vec, option_map, ◌^◌, ◌==◌}, declared.alloc.Global.Global}
use Rattle.std.proofs.Common.{◌≡◌, inl, inr, sym, ap, ◌∙◌, ℕ, ◌+◌, ◌<◌, ◌≤◌, Bool, true, ne_eqb, List, [], ◌∷◌, arith}
use Rattle.std.proofs.lemmas.Option.{same_Some}
use Rattle.atomic_table.specs.Table.{Me, rest}
use Rattle.dr_play.proofs.Deeds.{deed_tells}
use Rattle.dr_entry.specs.declared.entry.Entry.{Entry}
use Rattle.dr_history.{specs.Members.has, proofs.MemberLemmas.few_members}
use Rattle.dr_machine.specs.Group.{Group, late_members, roster}
use Rattle.dr_member.specs.Deeds.{table_size}
use Rattle.dr_program.specs.declared.deed.Deed.TheVariants as deeds
use Rattle.dr_program.specs.{Form.IsOf, Program.Program, Replica.me, Running.{Running, next_deed}}
use Rattle.dr_program.proofs.StepsAt.{taking}
use Rattle.dr_form.specs.Letters.{IsFitting}
use Rattle.dr_program_laws.proofs.Letters.{letters_have_room}
use Rattle.dr_words.proofs.Layouts.{words_small}
use Rattle.dr_table.specs.{Cards.board_size, Rule.number, Slots.{Slot, slot_number}}
use Rattle.dr_table.specs.Steps.{IsLetterAt, IsOfProgram, IsReachedMember, MayTake, Peeked, busy}
use Rattle.dr_table.{specs.declared.rule.{Errand.Errand, View.View}, proofs.Welcoming.newcomer}

-- ---- what a seat holds

-- a list of one slot
pub held : (l : List (ℕ × Slot)) (x : ℕ × Slot) → l ≡ x ∷ [] → l ≡ x ∷ rest l
held l x is = is ∙ ap (λ r. x ∷ r) (sym (ap rest is))

first_or : (ℕ × Slot) → List (ℕ × Slot) → ℕ × Slot
first_or d [] = d
first_or d (x ∷ xs) = x

-- what is in it
pub first_is : (l : List (ℕ × Slot)) (k j : ℕ) (x y : Slot) → l ≡ (k, x) ∷ rest l → l ≡ (j, y) ∷ [] → x ≡ y
unfolding first_or
first_is l k j x y a b =
    let same : (k, x) ≡ (j, y) = ap (first_or (k, x)) (sym a ∙ b) in ap (λ (z : ℕ × Slot). z.1) same

-- a seat that is about a letter, once this was put into its slot
pub exchanged : (old new : Me Slot View) (r : Running) (e : Errand) (was : ℕ × Slot) (slot : ℕ)
    (x : Slot) → old ≡ busy r e (was ∷ []) → new ≡ (old.0, (slot, x) ∷ rest old.1) → new ≡ busy r e ((slot, x) ∷ [])
exchanged old new r e was slot x is to = to ∙ (λ z. ((is z).0, (slot, x) ∷ rest (is z).1))

-- the list that was in a slot
pub same_list : (o : Slot) (list other : Vec Entry Global) → o ≡ Some list → o ≡ Some other → list ≡ other
same_list o list other here there = same_Some list other (sym here ∙ there)

-- what a peek has told, by whether it found 2
pub saw_letter : (e : Errand) (r : Running) (new : Me Slot View) (found : ℕ) (b : Bool) → b ≡ (found == 2)
    → b ≡ true → Peeked e r found new → new ≡ busy r e []
saw_letter e r new found b is hit (inl (two, to)) = to
saw_letter e r new found b is hit (inr (other, none, to)) = absurd (cc (is, hit, ne_eqb found 2 other))

-- ---- what is known of its member

-- this late member is one of the member's roster, and its table has few words
pub record KnowsLate (r : Running) (j : ℕ) : Type 0 where
  pub late : has r.replica.late j ≡ true
  pub within : j < r.replica.roster
  pub few : r.replica.roster ≤ 16
  pub small : table_size r < 2 ^ 32

knows : (g : Group) (p : Program) (r : Running) (j : ℕ) → IsOfProgram g p r → has (late_members g) j ≡ true
    → j < roster g → KnowsLate r j
knows g p r j is late within = record {
  late = ap (λ mask. has mask j) of.late ∙ late;
  within = omega (arith, of.members, within);
  few = omega (arith, of.members, is.sound.group.most_members);
  small = words_small r.replica.roster r.replica.window r.replica.banks
      (omega (arith, of.members, is.sound.group.most_members)) (omega (arith, of.window, is.sound.group.most_slots))
      (omega (arith, of.banks, is.sound.group.most_members, few_members (late_members g)));
}
  where
    of : IsOf g (number r) r.replica
    of = is.sound.form.of (number r) r is.there

pub giver_knows : (r : Running) (j : ℕ) → IsReachedMember r → next_deed r ≡ deeds.Give j → KnowsLate r j
giver_knows r j (g, p, is) next =
    let new = newcomer g p (number r) j r is.sound is.there next in knows g p r j is new.late new.within

pub taker_knows : (r : Running) → IsReachedMember r → next_deed r ≡ deeds.Take → KnowsLate r (me r.replica)
taker_knows r (g, p, is) next =
    let form = is.sound.form.form (number r) r is.there in
    let of = is.sound.form.of (number r) r is.there in
    let t = deed_tells p.table r deeds.Take next in
    let waits = form.replica.outside (taking r form (record { unended = t.none; due = t.says })).outside in
    knows g p r (me r.replica) is (ap (λ mask. has mask (me r.replica)) (sym of.late) ∙ waits.late)
    (omega (arith, form.replica.number, of.members))

-- so the word and the slot of that one are these
pub letter_at : (words : ℕ) (e : Errand) (r q : Running) (late index slot : ℕ) → KnowsLate r e.late
    → board_size r ≡ words → e.late ≡ late → r ≡ q → index ≡ table_size q + late
    → slot ≡ slot_number q.replica.late late → IsLetterAt words e r index slot
letter_at words e r q late index slot k size named now at home = record {
  word = at ∙ sym (λ z. table_size (now z) + named z);
  within = omega (arith, k.within, size, at, named, ap table_size now);
  home = home ∙ sym (λ z. slot_number (now z).replica.late (named z));
}

-- a letter that it may take fits it
pub taken_fits : (r : Running) (letter : Option (List Entry)) → next_deed r ≡ deeds.Take → MayTake r letter
    → IfSome letter (IsFitting r.replica)
taken_fits r None next may = tt
taken_fits r (Some letter) next (g, p, is, found) =
    let form = is.sound.form.form (number r) r is.there in
    let t = deed_tells p.table r deeds.Take next in
    letters_have_room g p (number r) r letter is.sound.group is.sound.form is.sound.reached is.there
    (taking r form (record { unended = t.none; due = t.says })).outside found

pub fits_list : (P : List Entry → Type 0) (o : Slot) → IfSome (option_map (λ (l : Vec Entry Global). l.items) o) P
    → IfSome o (λ (l : Vec Entry Global). P l.items)
fits_list P None fits = tt
fits_list P (Some l) fits = fits
