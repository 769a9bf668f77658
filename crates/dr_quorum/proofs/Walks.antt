-- What is known of the entries that were read, one entry later.
use Rattle.std.specs.Prelude.{Option}
use Rattle.std.proofs.Common.{◌≡◌, ◌≢◌, ap, sym, ◌∙◌, subst, ℕ, ◌+◌, ◌<◌, ⊎_elim, arith, List, [], ◌∷◌, ◌++◌, length, Some, set, get_or, length-append}
use Rattle.std.proofs.lemmas.{Bool.{cases_eq, ne_eqb}, List.{get_or-set_same, get_or-set_other, length-set}}
use Rattle.dr_entry.specs.declared.entry.Entry.{Entry, TheVariants.{View, Msg}}
use Rattle.dr_history.specs.{History.GroupView, Members.members_of, Order.messages_from}
use Rattle.dr_history.proofs.NumberedLemmas.{messages_from-View, messages_from-Msg, messages_from-other}
use Rattle.dr_history.proofs.ViewLemmas.{view_of-View, view_of-Msg}
use Rattle.dr_quorum.specs.Reading.{IsRead}

-- a View
pub read-View : (read : List Entry) (view : Option GroupView) (counts : List ℕ) (a n m : ℕ) → IsRead read view counts
    → IsRead (read ++ View a n m ∷ []) (Some (record { age = a; number = n; members = members_of m })) counts
read-View read view counts a n m is = record {
  in_view = sym (view_of-View read a n m);
  places = is.places;
  counted = λ s l. is.counted s l ∙ sym (ap length (messages_from-View s read a n m));
}

-- a message
pub read-Msg : (read : List Entry) (view : Option GroupView) (counts : List ℕ) (s i : ℕ) (b : List ℕ)
    → IsRead read view counts → s < 16 → IsRead (read ++ Msg s i b ∷ []) view (set counts s (get_or counts s 0 + 1))
read-Msg read view counts s i b is small = record {
  in_view = is.in_view ∙ sym (view_of-Msg read s i b);
  places = length-set counts s (get_or counts s 0 + 1) ∙ is.places;
  counted = λ t l. ⊎_elim (λ (e : t ≡ s). same t l e) (λ (apart : t ≢ s). other t l apart) (cases_eq t s);
}
  where
    counted : get_or counts s 0 ≡ length (messages_from s read)
    counted = is.counted s small

    here : get_or (set counts s (get_or counts s 0 + 1)) s 0 ≡ length (messages_from s (read ++ Msg s i b ∷ []))
    here = get_or-set_same counts s (get_or counts s 0 + 1) 0 (omega (arith, is.places, small)) ∙ omega (
      arith,
      counted,
      ap length (messages_from-Msg s read i b),
      length-append (messages_from s read) (Msg s i b ∷ []),
    )

    same : (t : ℕ) → t < 16 → t ≡ s → get_or (set counts s (get_or counts s 0 + 1)) t 0
        ≡ length (messages_from t (read ++ Msg s i b ∷ []))
    same t l e = subst (λ (k : ℕ). get_or (set counts s (get_or counts s 0 + 1)) k 0
        ≡ length (messages_from k (read ++ Msg s i b ∷ []))) (sym e) here

    other : (t : ℕ) → t < 16 → t ≢ s → get_or (set counts s (get_or counts s 0 + 1)) t 0
        ≡ length (messages_from t (read ++ Msg s i b ∷ []))
    other t l apart = get_or-set_other counts s t (get_or counts s 0 + 1) 0 apart
        ∙ (is.counted t l ∙ sym (ap length (messages_from-other t read s i b (ne_eqb s t (λ e. apart (sym e))))))
