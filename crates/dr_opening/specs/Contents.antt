-- What stands on a log while an age opens on it: first with a vote for the age, then cut back to what it and the
-- start have in common, then with all that the age begins with.
use Rattle.std.specs.Prelude.{◌≡◌, ◌⊎◌, ℕ, false, List, length, drop}
use Rattle.dr_entry.specs.declared.record.Record.TheVariants as records
use Rattle.dr_history.specs.History.{IsPrefixOf}
use Rattle.dr_log.specs.Standing.{in_newer_format, with_age_vote, with_entries}
use Rattle.dr_log_bytes.specs.{Content.{OnLog, with_record}, Grammar.StandFor}
use Rattle.dr_restart.specs.{Trying.age_vote_of, declared.start.Start.Start}
use Rattle.dr_opening.specs.{CatchingUp.opened_with, CuttingBack.IsCutDue}

-- with the age vote of a start, and an upgrade before it where the log was of the older format
abbrev pub voted_for : Start → OnLog → OnLog
voted_for start old = with_age_vote (age_vote_of start) old

-- The first phase: as before, in the newer format, or with the vote.
abbrev pub IsVoting : Start → OnLog → OnLog → Type 0
IsVoting start old c = (c ≡ old) ⊎ (c ≡ in_newer_format old) ⊎ (c ≡ voted_for start old)

-- A log with the vote is cut back: where its entries are no prefix of the start's it gets the cut that is due.
abbrev pub IsCutFor : Start → OnLog → OnLog → Type 0
IsCutFor start voted c =
    (IsPrefixOf voted.entries start.entries × (c ≡ voted))
    ⊎ ((keep : ℕ) × IsCutDue start.entries voted keep × (c ≡ with_record (records.Cut keep) voted))

-- with all that it lacks of what the age begins with
abbrev pub raised_to : Start → OnLog → OnLog
raised_to start c = with_entries (drop (length c.entries) (opened_with start start.members)) c

-- cut back and with all of this, a log with the vote is open for the age
abbrev pub IsOpenFor : Start → OnLog → OnLog → Type 0
IsOpenFor start voted c = (cut : OnLog) × IsCutFor start voted cut × (c ≡ raised_to start cut)

-- The second phase: with the vote, cut back, or open.
abbrev pub IsRising : Start → OnLog → OnLog → Type 0
IsRising start voted c = (c ≡ voted) ⊎ IsCutFor start voted c ⊎ IsOpenFor start voted c

-- bytes stand for what is so
abbrev pub StandSo : (OnLog → Type 0) → List ℕ → Type 0
StandSo P bytes = (c : OnLog) × P c × StandFor bytes c

-- the appends of the first phase, each by what it finds on the log and what it makes of it
abbrev pub IsVoteStep : Start → OnLog → OnLog → OnLog → Type 0
IsVoteStep start old now next =
    ((old.newer ≡ false) × (now ≡ old) × (next ≡ in_newer_format old))
    ⊎ ((now ≡ in_newer_format old) × (next ≡ voted_for start old))

-- and those of the second
abbrev pub IsRisingStep : Start → OnLog → OnLog → OnLog → Type 0
IsRisingStep start voted now next =
    ((keep : ℕ) × IsCutDue start.entries voted keep × (now ≡ voted)
    × (next ≡ with_record (records.Cut keep) voted))
    ⊎ (IsCutFor start voted now × (next ≡ raised_to start now))
