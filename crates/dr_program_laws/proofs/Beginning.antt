-- What an age begins with.
use Rattle.std.{specs.Prelude.All, proofs.Common.{sym, subst, ℕ, [], ◌∷◌, ◌++◌, append-nil}}
use Rattle.std.proofs.lemmas.List.Elements.{All-nil}
use Rattle.dr_entry.specs.{Spelling.IsValidEntry, declared.entry.Entry.TheVariants.View}
use Rattle.dr_history.specs.Order.{first_entries}
use Rattle.dr_machine.specs.Group.{Group, IsGroup}
use Rattle.dr_program.specs.{Program.IsSetup, Replica.first_entries_of, declared.setup.Setup.Setup}
use Rattle.dr_world_laws.{specs.Historic.IsOfAge, proofs.Messages.valid_history}

-- what an age begins with is valid
pub begun_valid : (g : Group) (limit m : ℕ) (s : Setup) → IsGroup g → IsSetup g limit m s
    → All IsValidEntry (first_entries_of s)
begun_valid g limit m s group is = subst (All IsValidEntry)
    (λ z. sym is.start z ++ View (sym is.age z) 0 (sym is.view z) ∷ [])
    (valid_history g (first_entries g.opening) group
    ([], sym (append-nil (first_entries g.opening)), All-nil (IsOfAge g)))
