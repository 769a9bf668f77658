-- The fields of each line.
use Rattle.std.specs.{Fmt.decimal, Prelude.{Option, None, Some, IfSome}}
use Rattle.std.proofs.Common.{◌≡◌, ◌≢◌, ◌⊎◌, inl, inr, refl, sym, ap, ◌∙◌, subst, ℕ, suc, ◌+◌, ◌<◌, ◌^◌, arith, List, [], ◌∷◌, ◌++◌, codes, length, get_or}
use Rattle.dr_entry.specs.declared.end.End.{End}
use Rattle.dr_entry.specs.declared.end.End.TheVariants.{Done, Crashed, Suspected, Excluded, NoMajority, DiskFault, LogFull, Spent, Absent as AbsentEnd}
use Rattle.dr_entry.{specs.declared.entry.Entry.TheVariants.{View, Msg}, proofs.ListFacts.{get_or_behind, first_of}}
use Rattle.dr_text.specs.{Report.{end_text, entry_text, last_text, mask_text, message_text}, declared.last.Last.Last}
use Rattle.dr_check.specs.Fields.{NumberIs, end_fields, field, fields, kind_of, kind_of_end, number_of, width_of}
use Rattle.dr_check.specs.Lines.{EndFits, LastFits, IsLineText, absent_text, age_start_text, present_text}
use Rattle.dr_check.specs.declared.{ends.EndKind.EndKind, line.Line.Line}
use Rattle.dr_check.specs.declared.line.Line.TheVariants.{Age, Present, Absent, Entry as EntryLine, Last as LastLine}
use Rattle.dr_check.proofs.Splitting.{last_field, next_field, plain_decimal, plain_mask, plain_message}
use Rattle.dr_check.specs.declared.ends.EndKind.TheVariants as kinds
use Rattle.dr_text.specs.declared.last.Last.TheVariants as lasts

pub age_fields : (age start : ℕ) → age < 2 ^ 16 → start < 2 ^ 64
    → fields (age_start_text age start) ≡ codes "age" ∷ decimal age ∷ codes "start" ∷ decimal start ∷ [] ∷ []
age_fields age start a s =
    ap (λ fs. codes "age" ∷ fs) (next_field (decimal age) (codes "start " ++ (decimal start ++ 10 ∷ []))
    (plain_decimal age (omega (arith, a)))
    ∙ ap (λ fs. decimal age ∷ codes "start" ∷ fs) (last_field (decimal start) [] (plain_decimal start s)))

pub absent_fields : (member : ℕ) → member < 16
    → fields (absent_text member) ≡ codes "member" ∷ decimal member ∷ codes "absent" ∷ [] ∷ []
absent_fields member m =
    ap (λ fs. codes "member" ∷ fs) (next_field (decimal member) (codes "absent\n")
    (plain_decimal member (omega (arith, m))))

pub view_fields : (age number members : ℕ) → age < 2 ^ 16 → number < 2 ^ 8
    → fields (entry_text (View age number members))
    ≡ [] ∷ [] ∷ codes "view" ∷ decimal age ∷ decimal number ∷ mask_text members ∷ [] ∷ []
view_fields age number members a n = ap (λ fs. [] ∷ [] ∷ codes "view" ∷ fs)
    (next_field (decimal age) (decimal number ++ (32 ∷ (mask_text members ++ 10 ∷ [])))
    (plain_decimal age (omega (arith, a))) ∙ ap (λ fs. decimal age ∷ fs)
    (next_field (decimal number) (mask_text members ++ 10 ∷ []) (plain_decimal number (omega (arith, n)))
    ∙ ap (λ fs. decimal number ∷ fs) (last_field (mask_text members) [] (plain_mask members))))

pub message_fields : (sender index : ℕ) (bytes : List ℕ) → sender < 16 → index < 2 ^ 32
    → fields (entry_text (Msg sender index bytes))
    ≡ [] ∷ [] ∷ codes "msg" ∷ decimal sender ∷ decimal index ∷ message_text bytes ∷ [] ∷ []
message_fields sender index bytes s i = ap (λ fs. [] ∷ [] ∷ codes "msg" ∷ fs)
    (next_field (decimal sender) (decimal index ++ (32 ∷ (message_text bytes ++ 10 ∷ [])))
    (plain_decimal sender (omega (arith, s))) ∙ ap (λ fs. decimal sender ∷ fs)
    (next_field (decimal index) (message_text bytes ++ 10 ∷ []) (plain_decimal index (omega (arith, i)))
    ∙ ap (λ fs. decimal index ∷ fs) (last_field (message_text bytes) [] (plain_message bytes))))

-- ---- the line of a member

abbrev pub numbers_text : ℕ → ℕ → ℕ → List ℕ
numbers_text h l d = codes
    "history " ++ (decimal h ++ (codes " logged " ++ (decimal l ++ (codes " durable " ++ (decimal d ++ 10 ∷ [])))))

abbrev pub numbers_fields : ℕ → ℕ → ℕ → List (List ℕ)
numbers_fields h l d =
    codes "history" ∷ decimal h ∷ codes "logged" ∷ decimal l ∷ codes "durable" ∷ decimal d ∷ [] ∷ []

numbers_are : (h l d : ℕ) → h < 2 ^ 64 → l < 2 ^ 64 → d < 2 ^ 64 → fields (numbers_text h l d) ≡ numbers_fields h l d
numbers_are h l d hs ls ds = ap (λ fs. codes "history" ∷ fs)
    (next_field (decimal h) (codes "logged " ++ (decimal l ++ (codes " durable " ++ (decimal d ++ 10 ∷ []))))
    (plain_decimal h hs) ∙ ap (λ fs. decimal h ∷ codes "logged" ∷ fs)
    (next_field (decimal l) (codes "durable " ++ (decimal d ++ 10 ∷ [])) (plain_decimal l ls)
    ∙ ap (λ fs. decimal l ∷ codes "durable" ∷ fs) (last_field (decimal d) [] (plain_decimal d ds))))

end_are : (e : End) (rest : List ℕ) → EndFits e → fields (end_text e ++ 32 ∷ rest) ≡ end_fields e ++ fields rest
end_are Done rest fits = refl
end_are Crashed rest fits = refl
end_are (Suspected by) rest fits =
    ap (λ fs. codes "suspected" ∷ fs) (next_field (decimal by) rest (plain_decimal by (omega (arith, fits))))
end_are (Excluded view) rest fits =
    ap (λ fs. codes "excluded" ∷ fs) (next_field (decimal view) rest (plain_decimal view (omega (arith, fits))))
end_are (NoMajority mask) rest fits =
    ap (λ fs. codes "nomajority" ∷ fs) (next_field (mask_text mask) rest (plain_mask mask))
end_are DiskFault rest fits = refl
end_are (LogFull len) rest fits =
    ap (λ fs. codes "logfull" ∷ fs) (next_field (decimal len) rest (plain_decimal len fits))
end_are (Spent turns) rest fits =
    ap (λ fs. codes "spent" ∷ fs) (next_field (decimal turns) rest (plain_decimal turns (omega (arith, fits))))
end_are AbsentEnd rest fits = absurd fits

pub present_fields : (member : ℕ) (e : End) (h l d : ℕ) → member < 16 → EndFits e → h < 2 ^ 64 → l < 2 ^ 64
    → d < 2 ^ 64 → fields (present_text member e h l d)
    ≡ codes "member" ∷ decimal member ∷ (end_fields e ++ numbers_fields h l d)
present_fields member e h l d m fits hs ls ds = ap (λ fs. codes "member" ∷ fs)
    (next_field (decimal member) (end_text e ++ 32 ∷ numbers_text h l d) (plain_decimal member (omega (arith, m)))
    ∙ ap (λ fs. decimal member ∷ fs) (end_are e (numbers_text h l d) fits
    ∙ ap (λ fs. end_fields e ++ fs) (numbers_are h l d hs ls ds)))

-- the end of a kind with a number
abbrev rebuilt : EndKind → ℕ → End
rebuilt kinds.Done n = Done
rebuilt kinds.Crashed n = Crashed
rebuilt kinds.Suspected n = Suspected n
rebuilt kinds.Excluded n = Excluded n
rebuilt kinds.NoMajority n = NoMajority n
rebuilt kinds.DiskFault n = DiskFault
rebuilt kinds.LogFull n = LogFull n
rebuilt kinds.Spent n = Spent n
rebuilt kinds.Absent n = AbsentEnd

rebuilt_end : (e : End) → rebuilt (kind_of_end e) (number_of e) ≡ e
rebuilt_end Done = refl
rebuilt_end Crashed = refl
rebuilt_end (Suspected x) = refl
rebuilt_end (Excluded x) = refl
rebuilt_end (NoMajority x) = refl
rebuilt_end DiskFault = refl
rebuilt_end (LogFull x) = refl
rebuilt_end (Spent x) = refl
rebuilt_end AbsentEnd = refl

pub told_kind : (e : End) → kind_of (get_or (end_fields e) 0 []) ≡ kind_of_end e
told_kind Done = refl
told_kind Crashed = refl
told_kind (Suspected x) = refl
told_kind (Excluded x) = refl
told_kind (NoMajority x) = refl
told_kind DiskFault = refl
told_kind (LogFull x) = refl
told_kind (Spent x) = refl
told_kind AbsentEnd = refl

pub told_width : (e : End) → width_of (kind_of_end e) ≡ length (end_fields e)
told_width Done = refl
told_width Crashed = refl
told_width (Suspected x) = refl
told_width (Excluded x) = refl
told_width (NoMajority x) = refl
told_width DiskFault = refl
told_width (LogFull x) = refl
told_width (Spent x) = refl
told_width AbsentEnd = refl

told_number : (e : End) (rest : List (List ℕ)) (word : List ℕ) (n : ℕ) → EndFits e
    → word ≡ get_or (end_fields e ++ rest) 1 [] → NumberIs (kind_of_end e) n word → rebuilt (kind_of_end e) n ≡ e
told_number Done rest word n fits same is = refl
told_number Crashed rest word n fits same is = refl
told_number (Suspected x) rest word n fits same is = ap Suspected (is x (omega (arith, fits)) same)
told_number (Excluded x) rest word n fits same is = ap Excluded (is x fits same)
told_number (NoMajority x) rest word n fits same is = ap NoMajority (is x fits same)
told_number DiskFault rest word n fits same is = refl
told_number (LogFull x) rest word n fits same is = ap LogFull (is x fits same)
told_number (Spent x) rest word n fits same is = ap Spent (is x fits same)
told_number AbsentEnd rest word n fits same is = refl

-- an end that has the kind and the number that the fields of an end tell
pub told_end : (r e : End) (k : EndKind) (rest : List (List ℕ)) (word : List ℕ) → EndFits e → kind_of_end r ≡ k
    → k ≡ kind_of_end e → word ≡ get_or (end_fields e ++ rest) 1 [] → NumberIs k (number_of r) word → r ≡ e
told_end r e k rest word fits of_r of_e same is = sym (rebuilt_end r)
    ∙ (ap (λ (j : EndKind). rebuilt j (number_of r)) (of_r ∙ of_e) ∙ told_number e rest word
    (number_of r) fits same (subst (λ (j : EndKind). NumberIs j (number_of r) word) of_e is))

-- the numbers stand behind the end
pub number_behind : (a b : List ℕ) (e : End) (rest : List (List ℕ)) (k : ℕ)
    → get_or (a ∷ b ∷ (end_fields e ++ rest)) (2 + length (end_fields e) + k) [] ≡ get_or rest k []
number_behind a b e rest k =
    let next : 2 + length (end_fields e) + k ≡ suc (suc (length (end_fields e) + k)) = omega arith in
    ap (λ n. get_or (a ∷ b ∷ (end_fields e ++ rest)) n []) next ∙ behind (end_fields e)
  where
    behind : (xs : List (List ℕ)) → get_or (xs ++ rest) (length xs + k) [] ≡ get_or rest k []
    behind xs = get_or_behind xs rest k

-- ---- a line that was printed and compared

pub chosen_some : (l : Line) (text bytes : List ℕ) (r : Option Line) → IsLineText l text
    → IfSome r (λ m. (m ≡ l) × (text ≡ bytes)) → IfSome r (λ m. IsLineText m bytes)
chosen_some l text bytes None is found = found
chosen_some l text bytes (Some m) is found =
    subst (IsLineText m) found.1 (subst (λ (k : Line). IsLineText k text) (sym found.0) is)

-- a field of bytes that are a text
pub field_of : (bytes text : List ℕ) (fs : List (List ℕ)) (k : ℕ) → bytes ≡ text → fields text ≡ fs
    → field bytes k ≡ get_or fs k []
field_of bytes text fs k same are = ap (λ b. get_or (fields b) k []) same ∙ ap (λ gs. get_or gs k []) are

-- an end's word, and what stands behind it
pub word_first : (e : End) (rest : List (List ℕ)) → get_or (end_fields e ++ rest) 0 [] ≡ get_or (end_fields e) 0 []
word_first Done rest = refl
word_first Crashed rest = refl
word_first (Suspected x) rest = refl
word_first (Excluded x) rest = refl
word_first (NoMajority x) rest = refl
word_first DiskFault rest = refl
word_first (LogFull x) rest = refl
word_first (Spent x) rest = refl
word_first AbsentEnd rest = refl

-- no member that took part is told as an absent one is
pub not_absent : (e : End) → EndFits e → get_or (end_fields e) 0 [] ≡ codes "absent" → ⊥
not_absent Done fits is = absurd (omega (arith, ap length is))
not_absent Crashed fits is = absurd (omega (arith, ap length is))
not_absent (Suspected x) fits is = absurd (omega (arith, ap length is))
not_absent (Excluded x) fits is = absurd (omega (arith, ap length is))
not_absent (NoMajority x) fits is = absurd (omega (arith, ap length is))
not_absent DiskFault fits is = absurd (omega (arith, ap length is))
not_absent (LogFull x) fits is = absurd (omega (arith, ap length is))
not_absent (Spent x) fits is = absurd (omega (arith, ap length is))
not_absent AbsentEnd fits is = absurd fits

-- ---- the first letter of a line

abbrev pub Leads : Line → ℕ → Type 0
Leads (Age age start) byte = byte ≡ 97
Leads (Present member history logged durable) byte = byte ≡ 109
Leads (Absent member) byte = byte ≡ 109
Leads (EntryLine e) byte = byte ≡ 32
Leads LastLine byte = (byte ≢ 97) × (byte ≢ 109) × (byte ≢ 32)

last_leads : (bytes : List ℕ) (last : Last) → LastFits last → bytes ≡ last_text last
    → Leads LastLine (get_or bytes 0 0)
last_leads bytes last fits is = by last fits (first_of bytes (last_text last) is)
  where
    other : (n k : ℕ) → n ≡ k → k ≢ 97 → k ≢ 109 → k ≢ 32 → (n ≢ 97) × (n ≢ 109) × (n ≢ 32)
    other n k same a m b = (λ e. a (sym same ∙ e), λ e. m (sym same ∙ e), λ e. b (sym same ∙ e))

    far : (k j : ℕ) → k < j → k ≢ j
    far k j less e = absurd (omega (arith, less, e))

    near : (k j : ℕ) → j < k → k ≢ j
    near k j less e = absurd (omega (arith, less, e))

    by : (last : Last) → LastFits last → get_or bytes 0 0 ≡ get_or (last_text last) 0 0
        → (get_or bytes 0 0 ≢ 97) × (get_or bytes 0 0 ≢ 109) × (get_or bytes 0 0 ≢ 32)
    by lasts.Done fits e = other _ 111 e (near 111 97 (omega arith)) (near 111 109 (omega arith))
        (near 111 32 (omega arith))
    by (lasts.DiskFault m) fits e = other _ 102 e (near 102 97 (omega arith)) (far 102 109 (omega arith))
        (near 102 32 (omega arith))
    by (lasts.LogFull m) fits e = other _ 102 e (near 102 97 (omega arith)) (far 102 109 (omega arith))
        (near 102 32 (omega arith))
    by (lasts.Damaged m at) fits e = other _ 114 e (near 114 97 (omega arith)) (near 114 109 (omega arith))
        (near 114 32 (omega arith))
    by (lasts.Foreign m at) fits e = other _ 114 e (near 114 97 (omega arith)) (near 114 109 (omega arith))
        (near 114 32 (omega arith))
    by (lasts.Disagree a b at) fits e = other _ 114 e (near 114 97 (omega arith))
        (near 114 109 (omega arith)) (near 114 32 (omega arith))
    by lasts.AgesUsedUp fits e = other _ 114 e (near 114 97 (omega arith)) (near 114 109 (omega arith))
        (near 114 32 (omega arith))
    by lasts.Unfinished fits e = other _ 117 e (near 117 97 (omega arith)) (near 117 109 (omega arith))
        (near 117 32 (omega arith))
    by lasts.NoMajority fits e = other _ 110 e (near 110 97 (omega arith)) (near 110 109 (omega arith))
        (near 110 32 (omega arith))
    by (lasts.NoQuorum v h n) fits e = other _ 114 e (near 114 97 (omega arith))
        (near 114 109 (omega arith)) (near 114 32 (omega arith))
    by lasts.Usage fits e = absurd fits
    by lasts.TooLong fits e = absurd fits
    by lasts.NotJson fits e = absurd fits
    by (lasts.Rule rule path) fits e = absurd fits
    by lasts.SourceFault fits e = absurd fits
    by (lasts.NoShard n m) fits e = absurd fits
    by (lasts.ManyAges n) fits e = absurd fits
    by (lasts.Crosses n) fits e = absurd fits
    by lasts.NotCheck fits e = absurd fits
    by (lasts.NoReport n) fits e = absurd fits
    by lasts.Right fits e = absurd fits
    by (lasts.Wrong k n) fits e = absurd fits

pub leads : (l : Line) (bytes : List ℕ) → IsLineText l bytes → Leads l (get_or bytes 0 0)
leads (Age age start) bytes is = first_of bytes (age_start_text age start) is.2
leads (Present member history logged durable) bytes is =
    first_of bytes (present_text member is.4.0 history logged durable) is.4.2
leads (Absent member) bytes is = first_of bytes (absent_text member) is.1
leads (EntryLine (View age number members)) bytes is = first_of bytes (entry_text (View age number members)) is.1
leads (EntryLine (Msg sender index body)) bytes is = first_of bytes (entry_text (Msg sender index body)) is.1
leads LastLine bytes is = last_leads bytes is.0 is.1 is.2

-- ---- what tells lines of one first letter apart

pub absent_word : (bytes : List ℕ) (member : ℕ) → IsLineText (Absent member) bytes → field bytes 2 ≡ codes "absent"
absent_word bytes member is =
    field_of bytes (absent_text member) (codes "member" ∷ decimal member ∷ codes "absent" ∷ [] ∷ []) 2 is.1
    (absent_fields member is.0)

pub present_word : (bytes : List ℕ) (member h l d : ℕ) → IsLineText (Present member h l d) bytes
    → field bytes 2 ≡ codes "absent" → ⊥
present_word bytes member h l d is absent =
    let e = is.4.0 in
    let rest = numbers_fields h l d in
    let at = field_of bytes (present_text member e h l d) (codes "member" ∷ decimal member ∷ (end_fields e ++ rest)) 2
    is.4.2 (present_fields member e h l d is.0 is.4.1 is.1 is.2 is.3) in
    not_absent e is.4.1 (sym (word_first e rest) ∙ (sym at ∙ absent))

-- a line whose first letter is that of a member
pub of_member : (l : Line) (bytes : List ℕ) → get_or bytes 0 0 ≡ 109 → IsLineText l bytes
    → ((m : ℕ) × (l ≡ Absent m)) ⊎ ((m : ℕ) × (h : ℕ) × (lo : ℕ) × (d : ℕ) × (l ≡ Present m h lo d))
of_member (Absent m) bytes lead is = inl (m, refl)
of_member (Present m h lo d) bytes lead is = inr (m, h, lo, d, refl)
of_member (Age age start) bytes lead is = absurd (omega (arith, lead, leads (Age age start) bytes is))
of_member (EntryLine e) bytes lead is = absurd (omega (arith, lead, leads (EntryLine e) bytes is))
of_member LastLine bytes lead is = absurd ((leads LastLine bytes is).1 lead)

-- and one of an entry
pub of_entry : (l : Line) (bytes : List ℕ) → get_or bytes 0 0 ≡ 32 → IsLineText l bytes
    → ((a : ℕ) × (n : ℕ) × (m : ℕ) × (l ≡ EntryLine (View a n m)) × (get_or bytes 2 0 ≡ 118))
    ⊎ ((s : ℕ) × (i : ℕ) × (b : List ℕ) × (l ≡ EntryLine (Msg s i b)) × (get_or bytes 2 0 ≡ 109))
of_entry (EntryLine (View a n m)) bytes lead is = inl (a, n, m, refl, ap (λ t. get_or t 2 0) is.1)
of_entry (EntryLine (Msg s i b)) bytes lead is = inr (s, i, b, refl, ap (λ t. get_or t 2 0) is.1)
of_entry (Absent m) bytes lead is = absurd (omega (arith, lead, leads (Absent m) bytes is))
of_entry (Present m h lo d) bytes lead is = absurd (omega (arith, lead, leads (Present m h lo d) bytes is))
of_entry (Age age start) bytes lead is = absurd (omega (arith, lead, leads (Age age start) bytes is))
of_entry LastLine bytes lead is = absurd ((leads LastLine bytes is).2 lead)

-- one of an age, and one that is none of these
pub of_age : (l : Line) (bytes : List ℕ) → get_or bytes 0 0 ≡ 97 → IsLineText l bytes
    → (a : ℕ) × (s : ℕ) × (l ≡ Age a s)
of_age (Age a s) bytes lead is = (a, s, refl)
of_age (Absent m) bytes lead is = absurd (omega (arith, lead, leads (Absent m) bytes is))
of_age (Present m h lo d) bytes lead is = absurd (omega (arith, lead, leads (Present m h lo d) bytes is))
of_age (EntryLine e) bytes lead is = absurd (omega (arith, lead, leads (EntryLine e) bytes is))
of_age LastLine bytes lead is = absurd ((leads LastLine bytes is).0 lead)

pub of_other : (l : Line) (bytes : List ℕ) → (get_or bytes 0 0 ≡ 97 → ⊥) → (get_or bytes 0 0 ≡ 109 → ⊥)
    → (get_or bytes 0 0 ≡ 32 → ⊥) → IsLineText l bytes → l ≡ LastLine
of_other LastLine bytes a m b is = refl
of_other (Age age start) bytes a m b is = absurd (a (leads (Age age start) bytes is))
of_other (Absent n) bytes a m b is = absurd (m (leads (Absent n) bytes is))
of_other (Present n h lo d) bytes a m b is = absurd (m (leads (Present n h lo d) bytes is))
of_other (EntryLine e) bytes a m b is = absurd (b (leads (EntryLine e) bytes is))
