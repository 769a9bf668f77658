use Rattle.dr_table.proofs.access.SeatSlotViewAccessBoard.look.Given as goal

abbrev pub ghosts-look_at : goal.ghosts-look_at
ghosts-look_at a = record { now = a.member.now }
