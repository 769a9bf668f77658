-- Lines of a report, and whether one was written.
use Rattle.std.specs.{Fmt.{decimal, digits}, List.{concat, flat_map}}
use Rattle.std.proofs.Common.{[], ◌∷◌, codes, refl, ◌≡◌, ap, ◌+◌, List, ◌++◌, map, Option, None, Some, IfSome, ◌≢◌, sym, true, true≢false, ◌↔◌, inl, inr, Bool, false, ℕ, length, Result, Ok, Err, OnOk, OnErr, subst, arith}
use Rattle.std.proofs.lemmas.{Bool.cases_Bool, List.take_all}
use Rattle.dr_entry.specs.declared.{end.End.End, entry.Entry.{Entry, TheVariants.{View, Msg}}}
use Rattle.dr_entry.proofs.{Entries.filler, ListFacts.{ends_concat, EndsFed, IsFed}, PlainFacts.feed}
use Rattle.dr_entry.specs.declared.end.End.TheVariants as ends
use Rattle.dr_io.specs.Sink.{Gains}
use Rattle.dr_text.specs.{Report.{entry_text, mask_text, message_text, is_absent}, Writing.WroteFront}
use Rattle.dr_text.specs.declared.last.Last.{Last}

pub entry_ends : (e : Entry) → EndsFed (entry_text e)
entry_ends (View age number members) = ends_concat (codes "  view ")
    (decimal age ∷ codes " " ∷ decimal number ∷ codes " " ∷ mask_text members ∷ codes "\n" ∷ []) feed
entry_ends (Msg sender index bytes) = ends_concat (codes "  msg ")
    (decimal sender ∷ codes " " ∷ decimal index ∷ codes " " ∷ message_text bytes ∷ codes "\n" ∷ []) feed

pub filler_fed : IsFed (entry_text filler)
unfolding digits
filler_fed = (codes "  msg 0 0 -", refl, refl)

pub entries_text : (es : List Entry) → concat (map entry_text es) ≡ flat_map entry_text es
entries_text [] = refl
entries_text (e ∷ es) = ap (λ z. entry_text e ++ z) (entries_text es)

-- what holds anyway holds of each last line
pub whenever : {P : Type 0} (last : Option Last) → P → IfSome last (λ line. P)
whenever None is = tt
whenever (Some line) is = is

is_end : (end : End) → is_absent end ≡ true → end ≡ ends.Absent
is_end ends.Absent is = refl
is_end ends.Done is = absurd (true≢false (sym is))
is_end ends.Crashed is = absurd (true≢false (sym is))
is_end ends.DiskFault is = absurd (true≢false (sym is))
is_end (ends.Suspected by) is = absurd (true≢false (sym is))
is_end (ends.Excluded view) is = absurd (true≢false (sym is))
is_end (ends.NoMajority mask) is = absurd (true≢false (sym is))
is_end (ends.LogFull len) is = absurd (true≢false (sym is))
is_end (ends.Spent turns) is = absurd (true≢false (sym is))

-- who is absent exactly where something else is so
pub as_absent : (end : End) (b : Bool) → (end ≡ ends.Absent) ↔ (b ≡ true) → is_absent end ≡ b
as_absent end true same = ap is_absent (same.1 refl)
as_absent end false same = elim (cases_Bool (is_absent end)) [
  | inl away ↦ absurd (true≢false (sym (same.0 (is_end end away))))
  | inr there ↦ there
]

-- a text that was to be written was written, or a front part of it
pub wrote_some : {T E : Type 0} (r : Result T E) (old new : Option (List ℕ)) (text : List ℕ)
    → OnOk r (Gains old new text) → OnErr r (WroteFront old new text) → WroteFront old new text
wrote_some (Ok x) old new text gained front = record {
  count = length text;
  part = omega arith;
  gained = subst (Gains old new) (sym (take_all (length text) text (omega arith))) gained;
}
wrote_some (Err e) old new text gained front = front
