-- Which Views the head of a view holds: one of each view up to it, its own one last, and no other of the age.
use Rattle.std.proofs.Common.{List, ◌≡◌, Some, Option, None, subst, ℕ, ◌-◌, slice_get, option_map, option_and_then, All, Contains, ap, arith, inl, inr, length, sym, take, ◌+◌, ◌<◌, ◌∙◌}
use Rattle.std.proofs.lemmas.{List.take_all, Option.{none-some, same_Some, slice_get-get_or}}
use Rattle.dr_entry.specs.declared.{end.SentItem.{SentItem, TheVariants.{Index, Null}}, entry.Entry.Entry}
use Rattle.dr_entry.{specs.declared.entry.Entry.TheVariants.{Msg, View}, proofs.Entries.IsMessage}
use Rattle.dr_entry.proofs.{ListParts.all-filter_map, ListPlaces.take-next}
use Rattle.dr_history.specs.History.{entry_of, messages_of, GroupView, Sent, item_at, merge, view_of}
use Rattle.dr_history.specs.{Members.members_of, Places.held_places, Soundness.Sound}
use Rattle.dr_history.specs.declared.opening.Opening.{Opening}
use Rattle.dr_history.proofs.ViewLemmas.{view_of-View, HasCome, ViewsRise-standing, view-after}

item_message : (o : Opening) (s : ℕ) (item : SentItem) (e : Entry) → entry_of o s item ≡ Some e → IsMessage e
item_message o s Null e is = absurd (none-some e is)
item_message o s (Index i) e is = by (slice_get (messages_of o s) i) is
  where
    by : (r : Option (List ℕ)) → option_map (λ b. Msg s i b) r ≡ Some e → IsMessage e
    by None none = absurd (none-some e none)
    by (Some b) some = subst IsMessage (same_Some (Msg s i b) e some) _

pub place_message : (o : Opening) (r : Option (ℕ × SentItem)) (e : Entry)
    → option_and_then (λ (t : ℕ × SentItem). entry_of o t.0 t.1) r ≡ Some e → IsMessage e
place_message o None e is = absurd (none-some e is)
place_message o (Some t) e is = item_message o t.0 t.1 e is

pub merged_messages : (o : Opening) (sent : Sent) (v : GroupView) (counts : List ℕ)
    → All IsMessage (merge o sent v counts)
merged_messages o sent v counts = all-filter_map IsMessage (λ p. option_and_then (λ t. entry_of o t.0 t.1)
    (item_at sent v p)) (held_places counts) (λ p e is. place_message o (item_at sent v p) e is)

-- the start has none of the age
pub start_none : (o : Opening) (u members : ℕ) → Sound o → Contains o.start (View o.age u members) → ⊥
start_none o u members sound c = by (last.2)
  where
    at : slice_get o.start c.0 ≡ Some (View o.age u members)
    at = slice_get-get_or o.start c.0 (View o.age u members) c.1 ∙ ap Some c.2

    last : (w : GroupView) × (view_of (take (c.0 + 1 + (length o.start - (c.0 + 1))) o.start) ≡ Some w)
        × HasCome o.age u w
    last = view-after o.start 0
        (c.0 + 1) (length o.start - (c.0 + 1)) (record { age = o.age; number = u; members = members_of members })
        (ViewsRise-standing o o.start sound.entries) (omega arith) (omega (arith, c.1)) (ap view_of
        (take-next o.start c.0 (View o.age u members) at) ∙ view_of-View (take c.0 o.start) o.age u members)

    earlier : last.0.age < o.age
    earlier = sound.later last.0 (sym (ap view_of
        (take_all (c.0 + 1 + (length o.start - (c.0 + 1))) o.start (omega (arith, c.1)))) ∙ last.1)

    by : HasCome o.age u last.0 → ⊥
    by (inl l) = absurd (omega (arith, l, earlier))
    by (inr same) = absurd (omega (arith, same.0, earlier))
