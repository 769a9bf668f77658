-- What is known of the entries that were read, one entry later.
use Rattle.std.specs.Prelude.{Option}
use Rattle.std.proofs.Common.{◌≡◌, ◌≢◌, ap, sym, ◌∙◌, subst, ℕ, ◌+◌, ◌-◌, ◌^◌, ◌%◌, ◌<◌, ◌≤◌, ⊎_elim, arith, List, [], ◌∷◌, ◌++◌, length, Some, set, get_or, length-append}
use Rattle.std.proofs.lemmas.{Bool.{cases_eq, ne_eqb}, List.{get_or-set_same, get_or-set_other, length-set}}
use Rattle.dr_entry.{specs.declared.entry.Entry.{Entry, TheVariants.{View, Msg}}, proofs.ListParts.filter_few}
use Rattle.dr_history.specs.{History.GroupView, Members.members_of, Order.messages_from}
use Rattle.dr_history.proofs.NumberedLemmas.{messages_from-View, messages_from-Msg, messages_from-other}
use Rattle.dr_history.proofs.ViewLemmas.{view_of-View, view_of-Msg}
use Rattle.dr_check.specs.{Past.IsPast, declared.past.Past.Past}

-- a View
pub past_View : (read : List Entry) (past : Past) (a n m : ℕ) → IsPast read past
    → IsPast (read ++ View a n m ∷ []) (record past {
      view = Some (record { age = a; number = n; members = members_of m });
    })
past_View read past a n m is = record {
  in_view = sym (view_of-View read a n m);
  places = is.places;
  counted = λ s l. is.counted s l ∙ sym (ap length (messages_from-View s read a n m));
}

-- a message
pub past_Msg : (read : List Entry) (past : Past) (s i : ℕ) (b : List ℕ) → length read < 2 ^ 64 - 1 → s < 256
    → IsPast read past → IsPast (read ++ Msg s i b ∷ [])
    (record past { counts = set past.counts s ((get_or past.counts s 0 + 1) % 2 ^ 64) })
past_Msg read past s i b few small is = record {
  in_view = is.in_view ∙ sym (view_of-Msg read s i b);
  places = length-set past.counts s more ∙ is.places;
  counted = λ t l. ⊎_elim (λ (e : t ≡ s). same t l e) (λ (apart : t ≢ s). other t l apart) (cases_eq t s);
}
  where
    more : ℕ
    more = (get_or past.counts s 0 + 1) % 2 ^ 64

    counted : get_or past.counts s 0 ≡ length (messages_from s read)
    counted = is.counted s small

    here : get_or (set past.counts s more) s 0 ≡ length (messages_from s (read ++ Msg s i b ∷ []))
    here =
        let few_messages : length (messages_from s read) ≤ length read = filter_few _ read in
        get_or-set_same past.counts s more 0 (omega (arith, is.places, small)) ∙ omega (
          arith,
          counted,
          few,
          few_messages,
          ap length (messages_from-Msg s read i b),
          length-append (messages_from s read) (Msg s i b ∷ []),
        )

    same : (t : ℕ) → t < 256 → t ≡ s → get_or (set past.counts s more) t 0
        ≡ length (messages_from t (read ++ Msg s i b ∷ []))
    same t l e = subst (λ (k : ℕ). get_or (set past.counts s more) k 0
        ≡ length (messages_from k (read ++ Msg s i b ∷ []))) (sym e) here

    other : (t : ℕ) → t < 256 → t ≢ s → get_or (set past.counts s more) t 0
        ≡ length (messages_from t (read ++ Msg s i b ∷ []))
    other t l apart = get_or-set_other past.counts s t more 0 apart
        ∙ (is.counted t l ∙ sym (ap length (messages_from-other t read s i b (ne_eqb s t (λ e. apart (sym e))))))

-- what is known is the same where its parts are
pub same_past : (p q : Past) → p.view ≡ q.view → p.counts ≡ q.counts → p ≡ q
same_past p q view counts = ap (λ (v : Option GroupView). record p { view = v }) view
    ∙ ap (λ (ns : List ℕ). record q { counts = ns }) counts
