-- What every member of the view is seen to have received only rises; and what the watches tell of it.
use Rattle.std.proofs.Common.{◌≡◌, ◌↔◌, sym, ap, ◌∙◌, ◌+◌, ◌-◌, ◌^◌, ◌<◌, Bool, true, nat_lt, arith}
use Rattle.std.proofs.lemmas.Bool.{ltb-true, Decides.nat_tests}
use Rattle.dr_entry.proofs.BoolFacts.{same_test}
use Rattle.dr_pred.specs.{Group.IsOfGroup, Watches.{AllLogged, AllReceivedAbove}}
use Rattle.dr_program.specs.{Form.HasForm, Replica.{Replica, least_seen, me}}
use Rattle.dr_program.proofs.{Least.{below_least_seen, least_of}, Received.few_members}
use Rattle.dr_words.specs.{Columns.columns_of, declared.column.TheConstants.{LOGGED_COLUMN, RECEIVED_COLUMN}}

-- ---- what the watches tell

-- whether all have received the next place, by the watch and by the least word
pub received_test : (r : Replica) (b : Bool) → HasForm r → r.next < 2 ^ 64 - 1
    → (b ≡ true) ↔ AllReceivedAbove r.members r.next r.rows → b ≡ nat_lt r.next (least_seen r RECEIVED_COLUMN)
received_test r b form small told = same_test b (nat_lt r.next (least_seen r RECEIVED_COLUMN))
    (λ e. let below = below_least_seen r RECEIVED_COLUMN r.next small (told.0 e) in grind (arith, nat_tests, below))
    (λ e. told.1 (λ i member.
    let below = ltb-true r.next (least_seen r RECEIVED_COLUMN) e in
    omega (arith, below, least_of r RECEIVED_COLUMN i (few_members r i form member) member)))

-- whether all have logged more than is durable, by the watch of one entry more
pub logged_test : (r : Replica) (b : Bool) → HasForm r → r.durable < 2 ^ 64 - 1
    → (b ≡ true) ↔ AllLogged r.members (r.durable + 1) r.rows → b ≡ nat_lt r.durable (least_seen r LOGGED_COLUMN)
logged_test r b form small told = same_test b (nat_lt r.durable (least_seen r LOGGED_COLUMN))
    (λ e. let below = below_least_seen r LOGGED_COLUMN r.durable small
    (λ i member. let at = told.0 e i member in omega (arith, at)) in
    grind (arith, nat_tests, below)) (λ e. told.1 (λ i member.
    let below = ltb-true r.durable (least_seen r LOGGED_COLUMN) e in
    omega (arith, below, least_of r LOGGED_COLUMN i (few_members r i form member) member)))

-- the rows of a replica are those of a group
pub is_of_group : (r : Replica) → HasForm r → IsOfGroup r.rows
is_of_group r form = record {
  window = r.window;
  some_member = omega (arith, form.rows.present);
  most_members = form.rows.few;
  some_slot = form.some_slot;
  most_slots = form.most_slots;
  columns = form.columns ∙ ap (λ n. columns_of n r.window) (sym form.members);
  form = form.words;
}
