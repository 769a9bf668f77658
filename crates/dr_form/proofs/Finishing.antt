-- A replica that ends its view has its form in the next one.
use Rattle.std.proofs.Common.{◌≡◌, ◌-◌, false, List, ◌∷◌, replicate, None, length, ap, arith}
use Rattle.std.proofs.lemmas.List.{length-replicate}
use Rattle.dr_entry.specs.declared.entry.Entry.{Entry}
use Rattle.dr_history.specs.History.{last_view}
use Rattle.dr_form.specs.Letters.{IsFitting}
use Rattle.dr_program.specs.{Form.HasForm, Replica.{Replica, is_inside, joined, left_now, nothing_left}}
use Rattle.dr_program.proofs.Finishing.{entered_form}

-- joining by it keeps a replica in form, where no vote waits
pub joined_form : (r : Replica) (letter : List Entry) → HasForm r → is_inside r ≡ false → r.pending ≡ None
    → IsFitting r letter → HasForm (joined r letter)
joined_form r letter f outside none fits =
    let view = last_view (0, 0) letter in
    let no_votes : length r.votes ≡ 0 = ap length (f.outside outside).none in
    entered_form r view.0 view.1 letter (left_now r ∷ replicate (view.0 - 1) nothing_left) f (record {
      none = none;
      bank = fits.bank;
      kept = omega (arith, length-replicate (view.0 - 1) nothing_left, fits.later);
      roster = fits.roster;
      inside = fits.inside;
      room = fits.room;
      base = fits.base;
      grows = omega (arith, f.logged, fits.more);
      votes = omega (arith, no_votes);
    })
