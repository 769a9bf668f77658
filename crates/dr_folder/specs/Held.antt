-- Disks that have the bytes of files.
use Rattle.std.specs.Prelude.{◌≡◌, ⊤, ℕ, List, [], Option, IsSomeAnd}
use Rattle.dr_disk.specs.Disk.{Told, content_of}
use Rattle.dr_folder.specs.{Foretold.file_in, declared.file.LogFile.{LogFile, TheVariants.{Missing, Unread, Bytes}}}
use Rattle.dr_yard.specs.Yards.{YardState}

-- a read of the disk gives the bytes of the file; none, where there is no file
abbrev pub IsDiskOf : LogFile → Option Told → Type 0
IsDiskOf Missing told = IsSomeAnd told (λ t. content_of t ≡ [])
IsDiskOf (Unread why) told = ⊤
IsDiskOf (Bytes bytes) told = IsSomeAnd told (λ t. content_of t ≡ bytes)

-- the disks of a yard have the bytes of these files, by member
abbrev pub HoldFiles : YardState → List LogFile → Type 0
HoldFiles yard files = (m : ℕ) → IsDiskOf (file_in files m) (yard.told m)
