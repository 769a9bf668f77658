-- Each step that a replica allows keeps its form, and lets no word fall.
use Rattle.std.proofs.{Common.{◌≡◌, ℕ, ◌&&◌, not, true, refl}, lemmas.Bool.{and_parts, not-true}}
use Rattle.dr_entry.proofs.Records.{none_waits}
use Rattle.dr_history.specs.Members.{has}
use Rattle.dr_rows.specs.Words.{seen}
use Rattle.dr_words.{specs.{Form.IsInForm, Grown.HasGrown}, proofs.Order.Grown_refl}
use Rattle.dr_machine.specs.declared.step.Step.{Step, TheVariants.{Append, Do, LogVote, Look, Push, Welcome}}
use Rattle.dr_program.specs.{Form.HasForm, Replica.{Replica, is_inside, may_append, may_vote}}
use Rattle.dr_program.specs.Steps.{AtLook, NoWordFell, allows, has_cell, is_free, stepped}
use Rattle.dr_program.proofs.{Accepting.voted_form, Finishing.gave_form}
use Rattle.dr_program.proofs.{Keeps.{appended_keeps, looked_keeps, looked_rises, pushed_keeps}, Replicas.cell}
use Rattle.dr_form.proofs.Keeps.{taken_grown, taken_keeps}

-- a replica keeps its form over a step that it allows, where a word that it sees is in form
pub stepped_form : (word : ℕ) (r : Replica) (s : Step) → HasForm r → allows r s ≡ true
    → is_free r s ≡ true → AtLook s (λ i c. IsInForm r.roster c word) → HasForm (stepped word r s)
stepped_form word r (Do a) form may free sees = taken_keeps r a form may free
stepped_form word r (Look i c) form may free sees =
    let test = and_parts (is_inside r) (not (has r.suspects i) && has_cell r i c) may in
    let at = cell r i c (and_parts (not (has r.suspects i)) (has_cell r i c) test.1).1 in
    looked_keeps r i c word form at.other at.column (sees i c refl)
stepped_form word r (Push j c) form may free sees = pushed_keeps r j c form
    (cell r j c (and_parts (is_inside r) (has_cell r j c) may).1).row
stepped_form word r Append form may free sees = appended_keeps r form (and_parts (is_inside r) (may_append r) may).1
stepped_form word r (LogVote v) form may free sees = voted_form r v form (none_waits r.pending free)
    (and_parts (is_inside r) (may_vote r v) may).1
stepped_form word r (Welcome j) form may free sees = gave_form r j form
stepped_form word r s form may free sees = form

-- no word falls by one by which it stays in its view, where a word that it sees has grown
pub stepped_grown : (word : ℕ) (r : Replica) (s : Step) → HasForm r → allows r s ≡ true
    → AtLook s (λ i c. HasGrown r.roster c (seen r.rows i c) word)
    → (stepped word r s).view ≡ r.view → NoWordFell r (stepped word r s)
stepped_grown word r (Do a) form may sees same = taken_grown r a form may same
stepped_grown word r (Look i c) form may sees same =
    let test = and_parts (is_inside r) (not (has r.suspects i) && has_cell r i c) may in
    let both = and_parts (not (has r.suspects i)) (has_cell r i c) test.1 in
    let at = cell r i c both.1 in
    looked_rises r i c word form at.other (not-true (has r.suspects i) both.0) at.column (sees i c refl)
stepped_grown word r s form may sees same = Grown_refl r.roster r.rows.words r.rows.frozen
