-- The fields of a line: what stands between blanks, up to the line feed.
use Rattle.std.specs.{Fmt.decimal, List.slice_split}
use Rattle.std.specs.Prelude.{◌≡◌, ⊤, ℕ, ◌<◌, ◌^◌, ◌==◌, ◌||◌, Bool, List, [], ◌∷◌, length, codes, if◌then◌else◌, slice_index, slice_index_or}
use Rattle.dr_entry.specs.declared.end.End.{End}
use Rattle.dr_entry.specs.declared.end.End.TheVariants as ends
use Rattle.dr_text.specs.Report.{mask_text}
use Rattle.dr_check.specs.{Lines.IsMask, declared.ends.EndKind.EndKind}
use Rattle.dr_check.specs.declared.ends.EndKind.TheVariants.{Done, Crashed, Suspected, Excluded, NoMajority, DiskFault, LogFull, Spent, Absent}

abbrev pub is_end : ℕ → Bool
is_end byte = (byte == 32) || (byte == 10)

abbrev pub fields : List ℕ → List (List ℕ)
fields bytes = slice_split is_end bytes

abbrev pub field : List ℕ → ℕ → List ℕ
field bytes k = slice_index_or (fields bytes) k []

-- which end a word may tell, by its length and its first letter
abbrev pub kind_of : List ℕ → EndKind
kind_of word =
    if length word == 4 then Done
    else (if length word == 7 then (if slice_index word 0 == 99 then Crashed else LogFull)
    else (if length word == 9 then (if slice_index word 0 == 115 then Suspected else DiskFault)
    else (if length word == 8 then Excluded
    else (if length word == 10 then NoMajority
    else (if length word == 6 then Absent else Spent)))))

-- how many fields an end of a kind has
abbrev pub width_of : EndKind → ℕ
width_of Done = 1
width_of Crashed = 1
width_of DiskFault = 1
width_of Absent = 1
width_of _ = 2

-- the kind of an end
abbrev pub kind_of_end : End → EndKind
kind_of_end ends.Done = Done
kind_of_end ends.Crashed = Crashed
kind_of_end (ends.Suspected by) = Suspected
kind_of_end (ends.Excluded view) = Excluded
kind_of_end (ends.NoMajority mask) = NoMajority
kind_of_end ends.DiskFault = DiskFault
kind_of_end (ends.LogFull len) = LogFull
kind_of_end (ends.Spent turns) = Spent
kind_of_end ends.Absent = Absent

-- its number, or 0
abbrev pub number_of : End → ℕ
number_of (ends.Suspected by) = by
number_of (ends.Excluded view) = view
number_of (ends.NoMajority mask) = mask
number_of (ends.LogFull len) = len
number_of (ends.Spent turns) = turns
number_of _ = 0

-- the number of an end of a kind is what a field says, if that is a number
abbrev pub NumberIs : EndKind → ℕ → List ℕ → Type 0
NumberIs Suspected number word = (n : ℕ) → n < 2 ^ 8 → word ≡ decimal n → number ≡ n
NumberIs Excluded number word = (n : ℕ) → n < 2 ^ 8 → word ≡ decimal n → number ≡ n
NumberIs NoMajority number word = (n : ℕ) → IsMask n → word ≡ mask_text n → number ≡ n
NumberIs LogFull number word = (n : ℕ) → n < 2 ^ 64 → word ≡ decimal n → number ≡ n
NumberIs Spent number word = (n : ℕ) → n < 2 ^ 32 → word ≡ decimal n → number ≡ n
NumberIs _ number word = ⊤

-- the fields of an end
abbrev pub end_fields : End → List (List ℕ)
end_fields ends.Done = codes "done" ∷ []
end_fields ends.Crashed = codes "crashed" ∷ []
end_fields (ends.Suspected by) = codes "suspected" ∷ decimal by ∷ []
end_fields (ends.Excluded view) = codes "excluded" ∷ decimal view ∷ []
end_fields (ends.NoMajority mask) = codes "nomajority" ∷ mask_text mask ∷ []
end_fields ends.DiskFault = codes "diskfault" ∷ []
end_fields (ends.LogFull len) = codes "logfull" ∷ decimal len ∷ []
end_fields (ends.Spent turns) = codes "spent" ∷ decimal turns ∷ []
end_fields ends.Absent = codes "absent" ∷ []
