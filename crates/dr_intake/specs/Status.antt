-- With which status a program ends.
use Rattle.std.specs.Prelude.{◌≡◌, ◌⊎◌, ℕ, List, Option}
use Rattle.dr_io.specs.{Faults.Rose, Sink.Gains}
use Rattle.dr_text.specs.{Writing.WroteFront, declared.last.Last.Last}
use Rattle.dr_text.specs.declared.last.Last.TheVariants as lasts

-- the status of a last line
abbrev pub status_of : Last → ℕ
status_of lasts.Done = 0
status_of lasts.Usage = 2
status_of lasts.TooLong = 3
status_of lasts.NotJson = 3
status_of (lasts.Rule rule path) = 3
status_of lasts.SourceFault = 4
status_of (lasts.DiskFault member) = 6
status_of (lasts.Damaged member at) = 7
status_of (lasts.Foreign member place) = 7
status_of (lasts.Disagree a b place) = 7
status_of (lasts.NoQuorum view have need) = 7
status_of lasts.AgesUsedUp = 7
status_of lasts.Unfinished = 8
status_of lasts.NoMajority = 9
status_of (lasts.LogFull member) = 11
status_of (lasts.NoShard shards members) = 12
status_of (lasts.ManyAges ages) = 12
status_of (lasts.Crosses fault) = 12
status_of lasts.NotCheck = 3
status_of (lasts.NoReport line) = 3
status_of lasts.Right = 0
status_of (lasts.Wrong clause line) = 13

-- the whole text was written, with the status that is due, or a front part of it, where the sink failed
abbrev pub WroteText : Option (List ℕ) → Option (List ℕ) → ℕ → ℕ → ℕ → ℕ → List ℕ → Type 0
WroteText old new failed fails status due text =
    ((status ≡ due) × Gains old new text) ⊎ ((status ≡ 5) × Rose failed fails × WroteFront old new text)
