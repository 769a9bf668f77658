-- In a reached world each letter is one that its member can go on from, and has room for.
use Rattle.std.specs.Prelude.{Option}
use Rattle.std.proofs.Common.{◌≡◌, List, Some, ap, arith, false, length, length-append, subst, sym, ℕ, ◌++◌, ◌<◌, ◌∙◌, ◌-◌}
use Rattle.dr_entry.specs.declared.entry.Entry.{Entry}
use Rattle.dr_form.specs.Letters.{IsFitting}
use Rattle.dr_history.specs.{History.{IsPrefixOf, last_view}, Members.has, Order.messages_from}
use Rattle.dr_machine.specs.{Group.{Group, IsGroup, roster}, Guards.CanWelcome, Run.IsReached, World.World}
use Rattle.dr_program.specs.{Form.IsOf, Presence.present_at, Program.{Program, letter_for}}
use Rattle.dr_program.specs.Reading.{Shared, letters_of, table_of, world, world_of}
use Rattle.dr_program.{specs.{Replica.{Replica, greatest, is_inside, me}, Running.Running}, proofs.Deeds.replicas}
use Rattle.dr_program.proofs.{Holdings.held_of, Present.MayGet, Replicas.greatest_at}
use Rattle.dr_refine.{specs.Programs.{AreLetters, IsLetterFor, IsMember, IsProgram}, proofs.Deeds.program_member}
use Rattle.dr_refine.proofs.{Guards.members_are, Members.fits}
use Rattle.dr_faithful.{specs.Chosen.views_by, proofs.ChosenViews.{letter-number, letter-view, IsLetter}}
use Rattle.dr_faithful.proofs.Copies.{inside}
use Rattle.dr_world_laws.proofs.{Finishing.head-few, Holding.reaches, Joining.letter-begins, Letters.gives-once}
use Rattle.dr_world_laws.proofs.{Rooms.{view-below, history_below}, Worlds.{Known, known}}

-- what is known of a letter for a member that hasn't joined
record IsFor (g : Group) (rs : List (Option Replica)) (table : Shared) (m : ℕ) (r : Replica)
    (letter : List Entry) : Type 0 where
  pub known : Known g (world_of g rs table)
  pub is : IsLetter g known.values (world_of g rs table).past m letter
  pub within : m < roster g
  pub held : (world_of g rs table).past.history m ≡ r.history
  pub begins : IsPrefixOf ((world_of g rs table).past.history m) letter

is_for : (g : Group) (rs : List (Option Replica)) (table : Shared) (m : ℕ) (r : Replica) (letter : List Entry)
    → IsMember g rs table m r → IsReached g (world_of g rs table) → is_inside r ≡ false
    → letters_of table.letters m ≡ Some letter → IsFor g rs table m r letter
is_for g rs table m r letter member reached outside found = record {
  known = y;
  is = t;
  within = within;
  held = ap (λ h. h.history) (held_of g rs table m r member.there);
  begins = letter-begins g y.values w m letter member.group y.chosen.faithful y.chosen.laid within
      (ap (λ k. has k m) (members_are g rs table m r member) ∙ ap (has r.members) (sym member.of.number) ∙ outside) t;
}
  where
    w : World
    w = world_of g rs table

    y : Known g (world_of g rs table)
    y = known g (world_of g rs table) member.group reached

    t : IsLetter g y.values (world_of g rs table).past m letter
    t = (y.chosen.letters.letters m letter found).0

    within : m < roster g
    within = inside g m r.rows r.view (fits g rs table m r member)

-- it goes on from what the member has
pub letter_goes_on : (g : Group) (rs : List (Option Replica)) (table : Shared) (m : ℕ) (r : Replica)
    (letter : List Entry) → IsMember g rs table m r → IsReached g (world_of g rs table) → is_inside r ≡ false
    → letters_of table.letters m ≡ Some letter → IsLetterFor r letter
letter_goes_on g rs table m r letter member reached outside found =
    let x = is_for g rs table m r letter member reached outside found in
    let number = letter-number g x.known.values (world_of g rs table) m letter x.is in record {
      rest = x.begins.0;
      begins = sym x.begins.1 ∙ ap (λ es. es ++ x.begins.0) x.held;
      later = omega (arith, number, x.is.next);
    }

-- and fits it
pub letter_fits : (g : Group) (rs : List (Option Replica)) (table : Shared) (m : ℕ) (r : Replica)
    (letter : List Entry) → IsMember g rs table m r → IsReached g (world_of g rs table) → is_inside r ≡ false
    → letters_of table.letters m ≡ Some letter → IsFitting r letter
letter_fits g rs table m r letter member reached outside found = record {
  more = omega (arith, ap length x.begins.1, length-append (w.past.history m) x.begins.0, ap length x.held);
  room = omega (
    arith,
    of.room,
    ap length whole.1,
    length-append letter whole.0,
    history_below g w t.giver (greatest r.totals) member.group reached t.within
        (λ i. omega (arith, of.totals i, greatest_at r.totals i)),
  );
  base = omega (
    arith,
    ap (λ k. length (messages_from k letter)) of.number,
    ap length of.messages,
    head-few g y.values w m t.view letter member.group y.chosen.faithful y.chosen.laid
        (λ u less. (y.chosen.laid.left t.giver u t.within (omega (arith, less, t.come))).ended) t.is,
  );
  later = omega (arith, number, t.next);
  bank = omega (arith, number, t.come, view-below g y.values w t.giver member.group y.chosen t.within, of.banks);
  roster = λ i there. omega (
    arith,
    of.members,
    y.chosen.faithful.views.within t.view i (ap (λ k. has k i) (sym members) ∙ there),
  );
  inside = ap (λ k. has k (me r)) members ∙ ap (has (views_by g y.values t.view)) of.number ∙ t.member;
}
  where
    w : World
    w = world_of g rs table

    x : IsFor g rs table m r letter
    x = is_for g rs table m r letter member reached outside found

    y : Known g (world_of g rs table)
    y = x.known

    t : IsLetter g y.values (world_of g rs table).past m letter
    t = x.is

    of : IsOf g m r
    of = member.of

    number : (last_view (0, 0) letter).0 ≡ t.view
    number = letter-number g y.values w m letter t

    members : (last_view (0, 0) letter).1 ≡ views_by g y.values t.view
    members = ap (λ v. v.1) (letter-view g y.values w m letter t)

    -- its giver has delivered it
    whole : IsPrefixOf letter (w.past.history t.giver)
    whole = subst (λ es. IsPrefixOf es (w.past.history t.giver)) (sym t.is)
        (reaches g y.values w t.giver t.view y.chosen.laid.historic t.within t.come)

-- so it is in a program
pub letters_are : (g : Group) (p : Program) → IsGroup g → IsProgram g p → IsReached g (world g p) → AreLetters p
letters_are g p group is reached m r letter there outside found = letter_goes_on g
    (replicas p.members) (table_of p) m r.replica letter (program_member g p m r group is there) reached outside found

pub letters_have_room : (g : Group) (p : Program) (m : ℕ) (r : Running) (letter : List Entry) → IsGroup g
    → IsProgram g p → IsReached g (world g p) → present_at p.members m ≡ Some r
    → is_inside r.replica ≡ false → letter_for p m ≡ Some letter → IsFitting r.replica letter
letters_have_room g p m r letter group is reached there outside found = letter_fits g
    (replicas p.members) (table_of p) m r.replica letter (program_member g p m r group is there) reached outside found

pub may_get : (g : Group) (w : World) (letters : List (Option (List Entry))) (m j : ℕ) → IsGroup g → IsReached g w
    → length letters ≡ roster g → w.letter ≡ letters_of letters → CanWelcome g w m j → MayGet g letters j
may_get g w letters m j is reached long are can =
    let y : Known g w = known g w is reached in record {
      none = ap (λ f. f j) (sym are)
          ∙ gives-once g y.values w m j is y.chosen.faithful y.chosen.laid y.chosen.letters can;
      within = omega (
        arith,
        long,
        y.chosen.faithful.views.within (w.past.view m) j
            (ap (λ k. has k j) (sym (y.chosen.faithful.views.own m)) ∙ can.newcomer),
      );
    }
