-- Members of sound programs.
use Rattle.std.specs.Prelude.{All, Some, Option}
use Rattle.std.proofs.Common.{◌≡◌, sym, ap, subst, ℕ, arith, ◌∙◌, length, List, ◌≤◌}
use Rattle.dr_program.specs.{Form.IsRunningMember, Presence.present_at, Program.{Program, Move, step_of}}
use Rattle.dr_program.{specs.{Reading.{table_of, world}, Running.{Running, next_step}}, proofs.Deeds.replicas}
use Rattle.dr_program.proofs.{Holdings.held_of, Present.present_within}
use Rattle.dr_entry.specs.Spelling.{IsValid, IsValidEntry}
use Rattle.dr_words.specs.Layout.{words_of}
use Rattle.dr_served.{specs.Served.AppendsWell, proofs.Appends.valid_due}
use Rattle.dr_machine.specs.Group.{Group}
use Rattle.dr_refine.proofs.Deeds.{program_member}
use Rattle.dr_world_laws.proofs.{Messages.valid_history, Worlds.{holds_messages, known}}
use Rattle.dr_member.specs.Deeds.{table_size}
use Rattle.dr_program_laws.proofs.Keeping.{move_kept}
use Rattle.dr_play.{specs.Sound.IsSound, proofs.Deeds.at_append}

-- the history of a member in the program's world
pub history_there : (g : Group) (p : Program) (m : ℕ) (r : Running) → IsSound g p
    → present_at p.members m ≡ Some r → (world g p).past.history m ≡ r.replica.history
history_there g p m r is there = ap (λ h. h.history)
    (held_of g (replicas p.members) (table_of p) m r.replica (program_member g p m r is.group is.form there).there)

-- and it is of valid entries
pub entries_valid : (g : Group) (p : Program) (m : ℕ) (r : Running) → IsSound g p
    → present_at p.members m ≡ Some r → All IsValidEntry r.replica.history
entries_valid g p m r is there = subst (All IsValidEntry) (history_there g p m r is there)
    (valid_history g ((world g p).past.history m) is.group
    (holds_messages g (world g p) m is.group (known g (world g p) is.group is.reached)
    (omega (arith, present_within p.members m r there, is.form.all))))

-- what a member of a sound program appends is a valid record
pub appends_well : (g : Group) (p : Program) (m : ℕ) (r : Running) → IsSound g p
    → present_at p.members m ≡ Some r → AppendsWell r
appends_well g p m r is there = λ due next.
    let at = at_append r due (is.form.form m r there) next in
    subst IsValid (sym at.1) (valid_due r (next_step r) (entries_valid g p m r is there) at.0.due)

-- sound programs of one group have as many members
pub as_many : (g : Group) (p q : Program) → IsSound g p → IsSound g q → length q.members ≡ length p.members
as_many g p q is sound = sound.form.all ∙ sym is.form.all

-- a sound program stays one over each move
pub move_sound : (g : Group) (p : Program) (e : Move) → IsSound g p → IsSound g (step_of p e)
move_sound g p e is = let kept = move_kept g p e is.group is.form is.reached in
    record { group = is.group; form = kept.0; reached = kept.1 }

-- the table has all words that the member may name
pub whole_table : (g : Group) (p : Program) (m : ℕ) (r : Running) → IsSound g p
    → present_at p.members m ≡ Some r → table_size r ≡ length p.table
whole_table g p m r is there =
    let of = is.form.of m r there in (λ z. words_of (of.members z) (of.window z) (of.banks z)) ∙ sym is.form.table

-- all members of a sound program are in form
pub all_in_form : (g : Group) (p : Program) (rs : List (Option Running)) → IsSound g p → rs ≡ p.members
    → (m : ℕ) (r : Running) → present_at rs m ≡ Some r → IsRunningMember r
all_in_form g p rs is same m r there = is.form.form m r (ap (λ xs. present_at xs m) (sym same) ∙ there)

-- and the table has all words that they may name
pub all_within : (g : Group) (p : Program) (rs : List (Option Running)) (cells : List ℕ) → IsSound g p
    → rs ≡ p.members → cells ≡ p.table
    → (m : ℕ) (r : Running) → present_at rs m ≡ Some r → table_size r ≤ length cells
all_within g p rs cells is same words m r there = omega (
  arith,
  whole_table g p m r is (ap (λ xs. present_at xs m) (sym same) ∙ there),
  ap length words,
)
