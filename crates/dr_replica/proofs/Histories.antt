-- The numbers of messages beside the entries.
use Rattle.std.{specs.Prelude.vec_capacity, proofs.lemmas.List.{get_or_read, length-set}}
use Rattle.std.proofs.Common.{◌≡◌, ℕ, ◌+◌, ◌^◌, ◌<◌, ◌≤◌, List, [], ◌∷◌, ◌++◌, length, get_or, set, slice_index_or, sym, ap, subst, ◌∙◌, arith, length-append}
use Rattle.dr_entry.specs.declared.entry.Entry.TheVariants.{Msg}
use Rattle.dr_history.proofs.{NumberedLemmas.counts_message, Orders.few_messages}
use Rattle.dr_replica.specs.{History.Kept, Inside.{IsHistory, kept_of}, declared.history.History.TheInside.Inside}

-- ---- the entries that are counted

-- ---- the history of a member

-- the number of a sender's next message is its count, and there is room for one more
pub message_count : (a : Inside) (now : Kept) (s f x : ℕ) → kept_of a ≡ now → IsHistory a → s
    < now.roster → length now.entries < now.room → f ≡ s → x ≡ slice_index_or a.messages.items f x
    → (x ≡ get_or a.messages.items s 0) × (x + 1 < 2 ^ 32)
message_count a now s f x same is within left at read =
    let free : length a.entries.items < a.room = subst (λ (h : Kept). length h.entries < h.room) (sym same) left in
    let mine : s < length a.messages.items = subst (λ (h : Kept). s < h.roster) (sym same) within in
    let here : x ≡ get_or a.messages.items s 0 = subst (λ (i : ℕ). x ≡ slice_index_or a.messages.items i x → x
    ≡ get_or a.messages.items s 0) (sym at) (λ r. get_or_read a.messages.items s x mine r 0) read in
    (here, omega (arith, here, is.messages s mine, few_messages s a.entries.items, free, is.form.small))

-- a delivered message behind its history leaves the history in good order inside
pub delivered_history : (a b : Inside) (now : Kept) (s f x : ℕ) (bytes : List ℕ) → kept_of a ≡ now
    → IsHistory a → s < now.roster → length now.entries < now.room → f ≡ s → x ≡ slice_index_or a.messages.items f x
    → b.room ≡ a.room → vec_capacity a.entries ≤ vec_capacity b.entries → b.entries.items ≡ a.entries.items
    ++ Msg s x bytes ∷ [] → b.messages.items ≡ set a.messages.items f (x + 1) → IsHistory b
delivered_history a b now s f x bytes same is within left at read room capacity entries messages =
    let mine : s < length a.messages.items = subst (λ (h : Kept). s < h.roster) (sym same) within in
    let free : length a.entries.items < a.room = subst (λ (h : Kept). length h.entries < h.room) (sym same) left in
    let count = (message_count a now s f x same is within left at read).0 in
    let long = ap length messages ∙ length-set a.messages.items f (x + 1) in
    let more = ap length entries ∙ length-append a.entries.items (Msg s x bytes ∷ []) in
    record {
      form = record {
        roster = omega (arith, long, is.form.roster);
        within = omega (arith, more, free, room);
        small = omega (arith, room, is.form.small);
      };
      room = omega (arith, room, is.room, capacity);
      messages = rw (messages, entries, at) (counts_message a.messages.items a.entries.items s
          (x + 1) x bytes is.messages mine (ap (λ (n : ℕ). n + 1) count));
    }
