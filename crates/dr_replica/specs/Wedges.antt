-- What the own words of a wedged member say, and those of one that has accepted a value.
use Rattle.std.specs.Prelude.{ℕ}
use Rattle.dr_words.specs.Rewrites.{accepted_word, wedged_word}
use Rattle.dr_replica.specs.declared.{acceptance.Acceptance.Acceptance, wedge.Wedge.Wedge}

-- the own word of a column, by the one before
abbrev pub wedged : Wedge → ℕ → ℕ → ℕ
wedged w = wedged_word w.shape.members w.members w.suspects w.promise

abbrev pub accepted : Acceptance → ℕ → ℕ → ℕ
accepted a = accepted_word a.shape.members a.members a.tag a.value
