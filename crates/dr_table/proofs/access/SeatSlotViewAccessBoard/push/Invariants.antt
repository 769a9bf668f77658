use Rattle.dr_table.proofs.access.SeatSlotViewAccessBoard.push.Given as goal

abbrev pub ghosts-store_at : goal.ghosts-store_at
ghosts-store_at a = record { now = a.member.now }
