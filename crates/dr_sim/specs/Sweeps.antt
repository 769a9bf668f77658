-- Deeds that a member takes one after the other, over the words of a table.
use Rattle.std.specs.Prelude.{◌≡◌, ◌<◌, ◌⊎◌, ℕ, List, Option}
use Rattle.dr_entry.specs.declared.entry.Entry.{Entry}
use Rattle.dr_member.specs.Alone.{IsAtSweep, LeadsTo}
use Rattle.dr_play.specs.Persisted.{HasPersisted, words_persisted}
use Rattle.dr_program.specs.Running.{Running}
use Rattle.dr_sim.specs.{Deeds.IsTaken, Watched.TakesNoNote}

-- a member r over these words has become x over those by appends of entries, each with the act that publishes it
abbrev pub PersistsTo : List ℕ → Running → List ℕ → Running → Type 0
PersistsTo words r cells x = (n : ℕ) × (0 < n) × HasPersisted n r x × (cells ≡ words_persisted n words r)

-- by looks or pushes, or by such appends
abbrev pub ComesTo : List ℕ → Running → List ℕ → Running → Type 0
ComesTo words r cells x = (IsAtSweep r × ((n : ℕ) × LeadsTo n words r cells x)) ⊎ PersistsTo words r cells x

-- a member r over these words and letters has become x over those: by its next deed, of which the watcher was told, or by
-- several of it, of which the watcher takes no note
abbrev pub HasGoneOn : {W : Type 0} → (W → Running → List ℕ → W → Type 0) → W → W → List ℕ
    → List (Option (List Entry)) → Running → List ℕ → List (Option (List Entry)) → Running → Type 0
HasGoneOn sees old new words posts r cells mails x =
    (IsTaken words posts r cells mails x × sees old r words new)
    ⊎ (ComesTo words r cells x × (mails ≡ posts) × (old ≡ new) × TakesNoNote sees old)
