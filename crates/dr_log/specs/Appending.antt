-- The calls of a disk by which a log is mounted.
use Rattle.std.specs.Prelude.{◌≡◌, ℕ, ◌<◌, ◌≤◌, List, [], ◌∷◌, length, Option, IfSome, ◌⊎◌}
use Rattle.dr_disk.specs.{Calls.{Write, FailedWrite, Cut, FailedCut, Sync}, Disk.{Told, added, content_of}}
use Rattle.dr_log_bytes.specs.Grammar.{newer_magic}

-- these bytes were written at this place, and synced
abbrev pub staged : ℕ → List ℕ → Option Told → Option Told
staged at bytes told = added Sync (added (Write at bytes) told)

-- an empty log was made
abbrev pub made : Option Told → Option Told
made told = staged 8 (0 ∷ []) (staged 0 newer_magic (added (Cut 0) told))

-- A mount made these calls: a sync, and then an empty log of at most nine bytes.
abbrev pub IsMounted : Option Told → Option Told → Type 0
IsMounted old new = IfSome old (λ t.
    ((length (content_of t) ≤ 9) × (new ≡ made (added Sync old)))
    ⊎ ((9 < length (content_of t)) × (new ≡ added Sync old)))

-- some of the calls of `made`, and then one that failed
abbrev pub StopsMaking : Option Told → Option Told → Type 0
StopsMaking old new =
    (new ≡ added (FailedCut 0) old)
    ⊎ ((new ≡ added (FailedWrite 0 8) (added (Cut 0) old))
    ⊎ (new ≡ added (Write 0 newer_magic) (added (Cut 0) old)))
    ⊎ ((new ≡ added (FailedWrite 8 1) (staged 0 newer_magic (added (Cut 0) old)))
    ⊎ (new ≡ added (Write 8 (0 ∷ [])) (staged 0 newer_magic (added (Cut 0) old))))
