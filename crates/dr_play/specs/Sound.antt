-- Sound programs.
use Rattle.std.specs.Prelude.{⊤}
use Rattle.dr_machine.specs.{Group.{Group, IsGroup}, Run.IsReached}
use Rattle.dr_program.specs.{Program.Program, Reading.world, declared.deed.Deed.Deed}
use Rattle.dr_program.specs.declared.deed.Deed.TheVariants as deeds
use Rattle.dr_refine.specs.Programs.{IsProgram}

-- a program of the group, in a world that is reached
pub record IsSound (g : Group) (p : Program) : Type 0 where
  pub group : IsGroup g
  pub form : IsProgram g p
  pub reached : IsReached g (world g p)

-- the deed gives no letter and takes none
abbrev pub IsOfNoLetter : Deed → Type 0
IsOfNoLetter (deeds.Give j) = ⊥
IsOfNoLetter deeds.Take = ⊥
IsOfNoLetter d = ⊤
