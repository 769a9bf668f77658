use Rattle.dr_opening.specs.Lists.{contents_of}
use Rattle.dr_folder.specs.Foretold.{AreTakenFor}
use Rattle.dr_folder.proofs.mounting.mount_files.Given as goal

abbrev pub invariant-loop-member : goal.invariant-loop-member
invariant-loop-member l = AreTakenFor l.member l.files (contents_of l.logs.items)
