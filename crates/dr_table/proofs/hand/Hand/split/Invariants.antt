use Rattle.dr_table.proofs.hand.Hand.split.Given as goal

abbrev pub ghosts-cut_at : goal.ghosts-cut_at
ghosts-cut_at a = record { at = a.at }
