-- Which bytes are a line of a report's text. Each line ends with its line feed.
use Rattle.std.specs.{Fmt.decimal, List.concat}
use Rattle.std.specs.Prelude.{◌≡◌, ◌≢◌, ⊤, ℕ, IfSome, ◌<◌, ◌^◌, ◌==◌, List, [], ◌∷◌, codes, if◌then◌else◌, slice_index}
use Rattle.dr_entry.specs.{Messages.IsMessage, declared.{end.End.End, entry.Entry.{Entry, TheVariants.{View, Msg}}}}
use Rattle.dr_entry.specs.declared.limits.TheConstants.{MAX_MEMBERS}
use Rattle.dr_entry.specs.declared.end.End.TheVariants as ends
use Rattle.dr_text.specs.{Report.{end_text, entry_text, last_text}, declared.last.Last.Last}
use Rattle.dr_text.specs.declared.last.Last.TheVariants as lasts
use Rattle.dr_check.specs.declared.line.Line.{Line}
use Rattle.dr_check.specs.declared.line.Line.TheVariants as lines

-- the lines of a text, each with its line feed; what stands behind the last one is a line without
abbrev pub begin_with : ℕ → List (List ℕ) → List (List ℕ)
begin_with byte [] = (byte ∷ []) ∷ []
begin_with byte (line ∷ rest) = (byte ∷ line) ∷ rest

unfoldable pub lines_of : List ℕ → List (List ℕ)
lines_of [] = []
lines_of (byte ∷ bytes) =
    if byte == 10 then (byte ∷ []) ∷ lines_of bytes else begin_with byte (lines_of bytes)

-- the bytes begin with the first one of this text
abbrev pub BeginsAs : List ℕ → List ℕ → Type 0
BeginsAs bytes text = slice_index bytes 0 ≡ slice_index text 0

-- what a number of a member, of an age, of a view, and others may be
abbrev pub IsMemberNumber : ℕ → Type 0
IsMemberNumber n = n < MAX_MEMBERS

abbrev pub IsMask : ℕ → Type 0
IsMask mask = (mask < 2 ^ MAX_MEMBERS) × (mask ≢ 0)

abbrev pub IsLong : ℕ → Type 0
IsLong n = n < 2 ^ 64

-- the numbers of an entry are in their ranges
abbrev pub EntryFits : Entry → Type 0
EntryFits (View age number members) = (age < 2 ^ 16) × (number < 2 ^ 8) × IsMask members
EntryFits (Msg sender index bytes) = IsMemberNumber sender × (index < 2 ^ 32) × IsMessage bytes

-- and those of an end of a member that took part
abbrev pub EndFits : End → Type 0
EndFits (ends.Suspected by) = IsMemberNumber by
EndFits (ends.Excluded view) = view < 2 ^ 8
EndFits (ends.NoMajority mask) = IsMask mask
EndFits (ends.LogFull len) = IsLong len
EndFits (ends.Spent turns) = turns < 2 ^ 32
EndFits ends.Absent = ⊥
EndFits _ = ⊤

-- a last line behind ages: not one of those that stand alone
abbrev pub LastFits : Last → Type 0
LastFits lasts.Done = ⊤
LastFits (lasts.DiskFault member) = IsMemberNumber member
LastFits (lasts.Damaged member at) = IsMemberNumber member × IsLong at
LastFits (lasts.Foreign member place) = IsMemberNumber member × IsLong place
LastFits (lasts.Disagree a b place) = IsMemberNumber a × IsMemberNumber b × IsLong place
LastFits (lasts.NoQuorum view have need) = IfSome view (λ v. v < 2 ^ 8) × IsLong have × IsLong need
LastFits lasts.AgesUsedUp = ⊤
LastFits lasts.Unfinished = ⊤
LastFits lasts.NoMajority = ⊤
LastFits (lasts.LogFull member) = IsMemberNumber member
LastFits _ = ⊥

-- the line of an age
abbrev pub age_start_text : ℕ → ℕ → List ℕ
age_start_text age start =
    concat (codes "age " ∷ decimal age ∷ codes " start " ∷ decimal start ∷ codes "\n" ∷ [])

-- the line of a member that took part
abbrev pub present_text : ℕ → End → ℕ → ℕ → ℕ → List ℕ
present_text member end history logged durable =
    concat
    (codes "member " ∷ decimal member ∷ codes " " ∷ end_text end
    ∷ codes " history " ∷ decimal history
    ∷ codes " logged " ∷ decimal logged ∷ codes " durable " ∷ decimal durable ∷ codes "\n" ∷ [])

-- and of one that was absent
abbrev pub absent_text : ℕ → List ℕ
absent_text member = concat (codes "member " ∷ decimal member ∷ codes " absent\n" ∷ [])

-- bytes are this line; how a member ended and why a run did is not kept
abbrev pub IsLineText : Line → List ℕ → Type 0
IsLineText (lines.Age age start) bytes = (age < 2 ^ 16) × IsLong start × (bytes ≡ age_start_text age start)
IsLineText (lines.Present member history logged durable) bytes =
    IsMemberNumber member × IsLong history × IsLong logged × IsLong durable
    × ((end : End) × EndFits end × (bytes ≡ present_text member end history logged durable))
IsLineText (lines.Absent member) bytes = IsMemberNumber member × (bytes ≡ absent_text member)
IsLineText (lines.Entry entry) bytes = EntryFits entry × (bytes ≡ entry_text entry)
IsLineText lines.Last bytes = (last : Last) × LastFits last × (bytes ≡ last_text last)
