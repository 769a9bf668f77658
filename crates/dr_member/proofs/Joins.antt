-- A letter that a member gives, and the take of a late member, in the terms of the code's fields.
use Rattle.std.specs.Prelude.{IfSome, List, None, Option, Some, option_map}
use Rattle.std.proofs.Common.{◌≡◌, refl, sym, ap, ◌∙◌, subst, ℕ, true, inl}
use Rattle.dr_entry.specs.declared.entry.Entry.{Entry}
use Rattle.dr_words.specs.Columns.{columns_of}
use Rattle.dr_form.specs.Letters.{IsFitting}
use Rattle.dr_program.specs.{Form.{HasForm, IsRunningMember}, Replica.{Replica, gave}}
use Rattle.dr_program.specs.{Running.{Running, goes, next_deed, next_step, settled, took_letter}, Steps.NoWordFell}
use Rattle.dr_program.{specs.{Turn.{part_of, turn_ends}, declared.place.Place.Place}, proofs.Order.ends_in}
use Rattle.dr_turn.specs.{Search.IsUnderway, Work.{IsAfterDeed, LeadsOn}}
use Rattle.dr_turn.proofs.Takes.{takes_done, takes_keep_form}
use Rattle.dr_member.specs.{Deeds.{is_give, is_take}, Inside.{IsInsideMember, member_inside}, Search.standing}
use Rattle.dr_member.specs.declared.{fate.Fate.Fate, member.Member.TheInside.Inside}
use Rattle.dr_member.proofs.{Answers.{IsTaken, fate_stays}, Dues.{IsGiveDue, IsTakeDue, give_due, take_due}}

-- ---- letters that are given

pub give_due_at : (now : Running) (a : Inside) → member_inside a ≡ now → IsInsideMember a
    → is_give (next_deed now) ≡ true → IsGiveDue (member_inside a)
give_due_at now a view is gives = give_due (member_inside a) is.form
    (subst (λ (x : Running). is_give (next_deed x) ≡ true) (sym view) gives)

pub give_taken : (word : ℕ) (now : Running) (a : Inside) (q : Replica) (from : Place)
    → member_inside a ≡ now → IsInsideMember a → is_give (next_deed now) ≡ true
    → q ≡ gave a.replica a.place.row → HasForm q → NoWordFell a.replica q
    → from ≡ goes a.replica.roster (columns_of a.replica.roster a.replica.window) (part_of a.place) a.place
    → IsTaken word (member_inside a) q a.fate from
give_taken word now a q from view is gives after form grown place =
    let due = give_due_at now a view is gives in
    record {
      running = is.form;
      fits = is.limit;
      none = due.none;
      replica = after ∙ sym (due.step word);
      form = form;
      grown = λ same. grown;
      place = place;
      told = fate_stays word a.replica a.fate a.place (next_step (member_inside a)) due.pushes (due.waits word);
    }

-- ---- takes

-- a letter that fits leads to a later view
pub leads_on : {A : Type 0} (entries : A → List Entry) (r : Replica) (letter : Option A)
    → IfSome letter (λ list. IsFitting r (entries list)) → LeadsOn (option_map entries letter)
leads_on entries r None fitting = tt
leads_on entries r (Some list) fitting = fitting.later

pub take_due_at : (now : Running) (a : Inside) → member_inside a ≡ now → IsInsideMember a
    → is_take (next_deed now) ≡ true → IsTakeDue (member_inside a)
take_due_at now a view is takes = take_due (member_inside a) is.form
    (subst (λ (x : Running). is_take (next_deed x) ≡ true) (sym view) takes)

-- what the code has done at a member to which its take was due, once it went on to the end of its turn
pub record HasTakenLetter (letter : Option (List Entry)) (a : Inside) (q : Replica) (fate : Fate) (from : Place) :
    Type 0 where
  pub inside : IsInsideMember a
  pub due : IsTakeDue (member_inside a)
  pub after : standing q fate turn_ends ≡ took_letter letter (member_inside a)
  pub form : HasForm q
  pub leads : LeadsOn letter
  pub place : from ≡ goes a.replica.roster (columns_of a.replica.roster a.replica.window) (part_of a.place) a.place

module _ (letter : Option (List Entry)) (a : Inside) (q : Replica) (fate : Fate) (from : Place)
    (t : HasTakenLetter letter a q fate from) where
  -- it stands where a turn ends
  pub stands_there : from ≡ turn_ends
  stands_there = t.place
      ∙ ap (λ x. goes a.replica.roster (columns_of a.replica.roster a.replica.window) x a.place) t.due.at

  pub took_there : standing q fate from ≡ took_letter letter (member_inside a)
  took_there = ap (standing q fate) stands_there ∙ t.after

  -- with the form of its replica
  took_form : HasForm (took_letter letter (member_inside a)).replica
  took_form = subst HasForm (ap (λ (x : Running). x.replica) t.after) t.form

  -- it is underway, and once it has settled it is a running member with fewer deeds to do
  pub took_underway : IsUnderway (standing q fate from)
  took_underway = subst IsUnderway (sym took_there) (by letter took_form)
    where
      by : (letter : Option (List Entry)) → HasForm (took_letter letter (member_inside a)).replica
          → IsUnderway (took_letter letter (member_inside a))
      by None form = record {
        replica = form;
        place = ends_in a.replica.roster (columns_of a.replica.roster a.replica.window);
        turns = t.inside.form.turns;
        waits = t.inside.form.waits;
        free = inl t.due.free;
        left = λ none begins. absurd (cc begins);
      }
      by (Some list) form = record {
        replica = form;
        place = ends_in a.replica.roster (columns_of a.replica.roster a.replica.window);
        turns = t.inside.form.turns;
        waits = record { counts = refl; beats = refl };
        free = inl t.due.free;
        left = λ none begins. absurd (cc begins);
      }

  pub took_running : IsRunningMember (settled (standing q fate from))
  took_running = subst (λ (x : Running). IsRunningMember (settled x)) (sym took_there)
      (takes_keep_form letter (member_inside a) t.inside.form t.due.asking took_form)

  pub took_done : IsAfterDeed (member_inside a) (settled (standing q fate from))
  took_done = subst (λ (x : Running). IsAfterDeed (member_inside a) (settled x)) (sym took_there)
      (takes_done letter (member_inside a) t.inside.form t.due.asking took_form t.leads)

  pub took_limit : fate.limit ≡ a.fate.limit
  took_limit = ap (λ (x : Running). x.limit) t.after ∙ by letter
    where
      by : (letter : Option (List Entry)) → (took_letter letter (member_inside a)).limit ≡ a.fate.limit
      by None = refl
      by (Some list) = refl

-- what the contracts say, of the member as it was seen before
pub record IsTakeAnswer (letter : Option (List Entry)) (r x : Running) : Type 0 where
  pub after : x ≡ settled (took_letter letter r)
  pub form : IsRunningMember x
  pub done : IsAfterDeed r x

pub take_answer : (letter : Option (List Entry)) (now : Running) (a : Inside) (q : Replica) (fate : Fate)
    (from place : Place) → member_inside a ≡ now → HasTakenLetter letter a q fate from
    → standing q fate place ≡ settled (standing q fate from) → IsTakeAnswer letter now (standing q fate place)
take_answer letter now a q fate from place view t e =
    subst (λ (r : Running). IsTakeAnswer letter r (standing q fate place)) view (record {
      after = e ∙ ap settled (took_there letter a q fate from t);
      form = subst IsRunningMember (sym e) (took_running letter a q fate from t);
      done = subst (IsAfterDeed (member_inside a)) (sym e) (took_done letter a q fate from t);
    })
