-- Bytes are one line at most.
use Rattle.std.specs.Fmt.{decimal}
use Rattle.std.proofs.Common.{◌≡◌, refl, sym, ap, ◌∙◌, ℕ, ◌+◌, arith, List, codes, length, get_or}
use Rattle.dr_entry.{specs.declared.entry.Entry.{Entry, TheVariants.{View, Msg}}, proofs.ListFacts.same_number}
use Rattle.dr_history.{specs.Members.members_of, proofs.MemberLemmas.{same_joined, low}}
use Rattle.dr_text.{specs.Report.{entry_text, mask_text}, proofs.Hex.same_message}
use Rattle.dr_words.proofs.Masks.{with_all, with_all_members}
use Rattle.dr_check.specs.Fields.{end_fields, field, kind_of, kind_of_end, width_of}
use Rattle.dr_check.specs.Lines.{EntryFits, IsLineText, IsMask, absent_text, age_start_text, present_text}
use Rattle.dr_check.specs.declared.line.Line.{Line, TheVariants.{Age, Present, Absent, Entry as EntryLine, Last}}
use Rattle.dr_check.proofs.LineFields.{absent_fields, absent_word, age_fields, field_of, leads, message_fields, number_behind, numbers_fields, present_fields, present_word, told_kind, told_width, view_fields, word_first}

same_mask : (m n : ℕ) → IsMask m → IsMask n → mask_text m ≡ mask_text n → m ≡ n
same_mask m n is also same = sym (with_all_members m is.0 (low m)) ∙ (ap (with_all 0)
    (same_joined (members_of m) (members_of n) (low m) (low n) same) ∙ with_all_members n also.0 (low n))

same_entry : (d e : Entry) → EntryFits d → EntryFits e → entry_text d ≡ entry_text e → d ≡ e
same_entry (View a n m) (View b o k) fits also same =
    let at = λ (i : ℕ). field_of (entry_text (View b o k)) (entry_text (View a n m)) _ i (sym same)
    (view_fields a n m fits.0 fits.1) in
    let to = λ (i : ℕ). field_of (entry_text (View b o k)) (entry_text (View b o k)) _ i refl
    (view_fields b o k also.0 also.1) in
    let age : a ≡ b = same_number a b (omega (arith, fits.0)) (omega (arith, also.0)) _ (at 3) (to 3) in
    let number : n ≡ o = same_number n o (omega (arith, fits.1)) (omega (arith, also.1)) _ (at 4) (to 4) in
    let members : m ≡ k = same_mask m k fits.2 also.2 (sym (at 5) ∙ to 5) in
    ap (λ (i : ℕ). View i n m) age ∙ (ap (λ (i : ℕ). View b i m) number ∙ ap (λ (i : ℕ). View b o i) members)
same_entry (Msg s i b) (Msg t j c) fits also same =
    let at = λ (k : ℕ). field_of (entry_text (Msg t j c)) (entry_text (Msg s i b)) _ k (sym same)
    (message_fields s i b fits.0 fits.1) in
    let to = λ (k : ℕ). field_of (entry_text (Msg t j c)) (entry_text (Msg t j c)) _ k refl
    (message_fields t j c also.0 also.1) in
    let sender : s ≡ t = same_number s t (omega (arith, fits.0)) (omega (arith, also.0)) _ (at 3) (to 3) in
    let index : i ≡ j = same_number i j (omega (arith, fits.1)) (omega (arith, also.1)) _ (at 4) (to 4) in
    let bytes : b ≡ c = same_message b c fits.2 also.2 (sym (at 5) ∙ to 5) in
    ap (λ (k : ℕ). Msg k i b) sender ∙ (ap (λ (k : ℕ). Msg t k b) index ∙ ap (λ xs. Msg t j xs) bytes)
same_entry (View a n m) (Msg t j c) fits also same =
    let letter : 118 ≡ 109 = ap (λ bs. get_or bs 2 0) same in absurd (omega (arith, letter))
same_entry (Msg s i b) (View a n m) fits also same =
    let letter : 109 ≡ 118 = ap (λ bs. get_or bs 2 0) same in absurd (omega (arith, letter))

same_present : (bytes : List ℕ) (m h l d n g k c : ℕ) → IsLineText (Present m h l d) bytes
    → IsLineText (Present n g k c) bytes → Present m h l d ≡ Present n g k c
same_present bytes m h l d n g k c is also =
    let e = is.4.0 in
    let f = also.4.0 in
    let rest = numbers_fields h l d in
    let other = numbers_fields g k c in
    let at = λ (i : ℕ). field_of bytes (present_text m e h l d) _ i is.4.2
    (present_fields m e h l d is.0 is.4.1 is.1 is.2 is.3) in
    let to = λ (i : ℕ). field_of bytes (present_text n f g k c) _ i also.4.2
    (present_fields n f g k c also.0 also.4.1 also.1 also.2 also.3) in
    let member : m ≡ n = same_number m n (omega (arith, is.0)) (omega (arith, also.0)) _ (at 1) (to 1) in
    let kind : kind_of_end e ≡ kind_of_end f = sym (told_kind e)
    ∙ (ap kind_of (sym (word_first e rest) ∙ (sym (at 2) ∙ (to 2 ∙ word_first f other))) ∙ told_kind f) in
    let wide : length (end_fields e) ≡ length (end_fields f) =
    sym (told_width e) ∙ (ap width_of kind ∙ told_width f) in
    let mine = λ (i : ℕ). at (2 + length (end_fields e) + i) ∙ number_behind (codes "member") (decimal m) e rest i in
    let yours = λ (i : ℕ). ap (λ (w : ℕ). field bytes (2 + w + i)) wide
    ∙ (to (2 + length (end_fields f) + i) ∙ number_behind (codes "member") (decimal n) f other i) in
    let history : h ≡ g = same_number h g is.1 also.1 _ (mine 1) (yours 1) in
    let logged : l ≡ k = same_number l k is.2 also.2 _ (mine 3) (yours 3) in
    let durable : d ≡ c = same_number d c is.3 also.3 _ (mine 5) (yours 5) in
    ap (λ (i : ℕ). Present i h l d) member ∙ (ap (λ (i : ℕ). Present n i l d) history
    ∙ (ap (λ (i : ℕ). Present n g i d) logged ∙ ap (λ (i : ℕ). Present n g k i) durable))

pub same_line : (l k : Line) (bytes : List ℕ) → IsLineText l bytes → IsLineText k bytes → l ≡ k
same_line (Age a s) (Age b t) bytes is also =
    let at = λ (i : ℕ). field_of bytes (age_start_text a s) _ i is.2 (age_fields a s is.0 is.1) in
    let to = λ (i : ℕ). field_of bytes (age_start_text b t) _ i also.2 (age_fields b t also.0 also.1) in
    let age : a ≡ b = same_number a b (omega (arith, is.0)) (omega (arith, also.0)) _ (at 1) (to 1) in
    let start : s ≡ t = same_number s t is.1 also.1 _ (at 3) (to 3) in
    ap (λ (i : ℕ). Age i s) age ∙ ap (λ (i : ℕ). Age b i) start
same_line (Present m h l d) (Present n g k c) bytes is also = same_present bytes m h l d n g k c is also
same_line (Absent m) (Absent n) bytes is also =
    let at = λ (i : ℕ). field_of bytes (absent_text m) _ i is.1 (absent_fields m is.0) in
    let to = λ (i : ℕ). field_of bytes (absent_text n) _ i also.1 (absent_fields n also.0) in
    ap Absent (same_number m n (omega (arith, is.0)) (omega (arith, also.0)) _ (at 1) (to 1))
same_line (EntryLine d) (EntryLine e) bytes is also = ap EntryLine (same_entry d e is.0 also.0 (sym is.1 ∙ also.1))
same_line Last Last bytes is also = refl
same_line (Present m h l d) (Absent n) bytes is also =
    absurd (present_word bytes m h l d is (absent_word bytes n also))
same_line (Absent m) (Present n g k c) bytes is also =
    absurd (present_word bytes n g k c also (absent_word bytes m is))
same_line (Age a s) (Present n g k c) bytes is also = apart (leads (Age a s) bytes is)
    (leads (Present n g k c) bytes also)
  where
    apart : get_or bytes 0 0 ≡ 97 → get_or bytes 0 0 ≡ 109 → Age a s ≡ Present n g k c
    apart one other = absurd (omega (arith, one, other))
same_line (Age a s) (Absent n) bytes is also = apart (leads (Age a s) bytes is) (leads (Absent n) bytes also)
  where
    apart : get_or bytes 0 0 ≡ 97 → get_or bytes 0 0 ≡ 109 → Age a s ≡ Absent n
    apart one other = absurd (omega (arith, one, other))
same_line (Age a s) (EntryLine e) bytes is also = apart (leads (Age a s) bytes is) (leads (EntryLine e) bytes also)
  where
    apart : get_or bytes 0 0 ≡ 97 → get_or bytes 0 0 ≡ 32 → Age a s ≡ EntryLine e
    apart one other = absurd (omega (arith, one, other))
same_line (Age a s) Last bytes is also = absurd ((leads Last bytes also).0 (leads (Age a s) bytes is))
same_line (Present m h l d) (Age b t) bytes is also = apart (leads (Present m h l d) bytes is)
    (leads (Age b t) bytes also)
  where
    apart : get_or bytes 0 0 ≡ 109 → get_or bytes 0 0 ≡ 97 → Present m h l d ≡ Age b t
    apart one other = absurd (omega (arith, one, other))
same_line (Present m h l d) (EntryLine e) bytes is also =
    apart (leads (Present m h l d) bytes is) (leads (EntryLine e) bytes also)
  where
    apart : get_or bytes 0 0 ≡ 109 → get_or bytes 0 0 ≡ 32 → Present m h l d ≡ EntryLine e
    apart one other = absurd (omega (arith, one, other))
same_line (Present m h l d) Last bytes is also = absurd ((leads Last bytes also).1 (leads (Present m h l d) bytes is))
same_line (Absent m) (Age b t) bytes is also = apart (leads (Absent m) bytes is) (leads (Age b t) bytes also)
  where
    apart : get_or bytes 0 0 ≡ 109 → get_or bytes 0 0 ≡ 97 → Absent m ≡ Age b t
    apart one other = absurd (omega (arith, one, other))
same_line (Absent m) (EntryLine e) bytes is also = apart (leads (Absent m) bytes is) (leads (EntryLine e) bytes also)
  where
    apart : get_or bytes 0 0 ≡ 109 → get_or bytes 0 0 ≡ 32 → Absent m ≡ EntryLine e
    apart one other = absurd (omega (arith, one, other))
same_line (Absent m) Last bytes is also = absurd ((leads Last bytes also).1 (leads (Absent m) bytes is))
same_line (EntryLine d) (Age b t) bytes is also = apart (leads (EntryLine d) bytes is) (leads (Age b t) bytes also)
  where
    apart : get_or bytes 0 0 ≡ 32 → get_or bytes 0 0 ≡ 97 → EntryLine d ≡ Age b t
    apart one other = absurd (omega (arith, one, other))
same_line (EntryLine d) (Present n g k c) bytes is also =
    apart (leads (EntryLine d) bytes is) (leads (Present n g k c) bytes also)
  where
    apart : get_or bytes 0 0 ≡ 32 → get_or bytes 0 0 ≡ 109 → EntryLine d ≡ Present n g k c
    apart one other = absurd (omega (arith, one, other))
same_line (EntryLine d) (Absent n) bytes is also = apart (leads (EntryLine d) bytes is) (leads (Absent n) bytes also)
  where
    apart : get_or bytes 0 0 ≡ 32 → get_or bytes 0 0 ≡ 109 → EntryLine d ≡ Absent n
    apart one other = absurd (omega (arith, one, other))
same_line (EntryLine d) Last bytes is also = absurd ((leads Last bytes also).2 (leads (EntryLine d) bytes is))
same_line Last (Age b t) bytes is also = absurd ((leads Last bytes is).0 (leads (Age b t) bytes also))
same_line Last (Present n g k c) bytes is also = absurd ((leads Last bytes is).1 (leads (Present n g k c) bytes also))
same_line Last (Absent n) bytes is also = absurd ((leads Last bytes is).1 (leads (Absent n) bytes also))
same_line Last (EntryLine e) bytes is also = absurd ((leads Last bytes is).2 (leads (EntryLine e) bytes also))
