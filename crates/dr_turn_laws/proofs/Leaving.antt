-- What the writes of a step leave of what other steps ask.
use Rattle.std.{specs.Prelude.Some, proofs.lemmas.Bool.cases_eq}
use Rattle.std.proofs.Common.{◌≡◌, ◌≢◌, refl, sym, ◌∙◌, subst, inl, inr, ℕ, ◌<◌, ◌==◌, if◌then◌else◌, List, [], ◌∷◌, ◌++◌, length, ap, ◌+◌, arith}
use Rattle.dr_entry.specs.declared.end.{End.End, SentItem.{SentItem, TheVariants.Null}}
use Rattle.dr_history.{specs.{History.{messages_in, messages_of}, Members.has}, proofs.Indices.messages_null}
use Rattle.dr_machine.specs.{Effects.{ends, nulls, one_more, receives, stamped, stamped_in, with_own}, Group.Group}
use Rattle.dr_machine.specs.{Guards.{HasRoom, IsOther, seen_slot}, World.{World, items_received}, Writes.at₂}
use Rattle.dr_machine.proofs.Groups.{still_room}
use Rattle.dr_machine.proofs.Writes.{count_written, own_other, count_other, sent_here, copy_other, end_here}
use Rattle.dr_program.specs.declared.place.Part.{Part}
use Rattle.dr_program.specs.declared.place.Part.TheVariants as parts
use Rattle.dr_ring.specs.Slots.{IsReady}
use Rattle.dr_words.specs.declared.column.TheConstants.{BEAT_COLUMN, DONE_COLUMN}
use Rattle.dr_turn_laws.specs.{Swept.IsIdle, Wants.{IsLeft, IsToTake, SeesAllDone, ShowsMore}}

-- ---- an own word

pub shows_own : (w : World) (m c x d y : ℕ) → d ≢ c → ShowsMore (with_own w m c x) m d y → ShowsMore w m d y
shows_own w m c x d y apart all i member = subst (λ z. y < (if i == m then z else w.seen m i d))
    (own_other w.past.own m (w.past.view m) c x d apart) (all i member)

pub done_own : (w : World) (m c x : ℕ) → DONE_COLUMN ≢ c → SeesAllDone (with_own w m c x) m → SeesAllDone w m
done_own w m c x apart all i member = subst (λ z. (if i == m then z else w.seen m i DONE_COLUMN) ≡ 1)
    (own_other w.past.own m (w.past.view m) c x DONE_COLUMN apart) (all i member)

-- ---- items and ends

-- nothing is left to do of the part in another world, where that is so in the first
abbrev pub Stays : Group → World → World → ℕ → Part → ℕ → ℕ → Type 0
Stays g w v m part i c = IsIdle g w m part i c → IsIdle g v m part i c

-- what m is to take, where it has the same view and has taken as much
pub to_take : (g : Group) (w v : World) (m i n : ℕ) → v.members m ≡ w.members m → n ≡ items_received w m i
    → IsOther v m i → IsReady n (seen_slot g w m i n) → IsToTake g w m i
to_take g w v m i n view same other ready = (
  record { member = ap (λ x. has x i) (sym view) ∙ other.member; other = other.other },
  subst (λ k. IsReady k (seen_slot g w m i k)) same ready,
)

-- an item more of s leaves the items of another sender
pub gained_other : (g : Group) (w v : World) (m s i : ℕ) → i ≢ s → v.members m ≡ w.members m → IsOther v m i
    → IsReady (items_received (receives g w m s) m i) (seen_slot g w m i (items_received (receives g w m s) m i))
    → IsToTake g w m i
gained_other g w v m s i apart view other ready = to_take g w v m i (items_received (receives g w m s) m i) view
    (count_other w.past.count m (w.past.view m) s (w.past.count m (w.past.view m) s + 1) i apart) other ready

-- a null is no message, and where there is a slot behind it there was one before
pub nulled_left : (g : Group) (w : World) (m : ℕ) → let v = stamped_in (nulls g w m) m (w.past.view m) in
    IsLeft g v m × HasRoom g v m (items_received v m m) → IsLeft g w m × HasRoom g w m (items_received w m m)
nulled_left g w m wants = (
  subst (λ n. w.base m + n < length (messages_of g.opening m)) same wants.0,
  still_room g w (stamped_in (nulls g w m) m (w.past.view m)) m (items_received w m m)
      (items_received (nulls g w m) m m) refl (omega (arith, more)) wants.1,
)
  where
    sent : List SentItem
    sent = w.past.sent m (w.past.view m)

    same : messages_in (at₂ w.past.sent m (w.past.view m) (sent ++ Null ∷ []) m (w.past.view m)) ≡ messages_in sent
    same = ap messages_in (sent_here w.past.sent m (w.past.view m) (sent ++ Null ∷ [])) ∙ messages_null sent

    more : items_received (nulls g w m) m m ≡ items_received w m m + 1
    more = count_written w.past.count m (w.past.view m) m (items_received w m m + 1)

-- what was pushed before an end, but for the beat word
pub end_kept : (g : Group) (w : World) (m : ℕ) (end : End) (i c : ℕ)
    → Stays g w (stamped (ends w m end) m) m parts.Push i c
end_kept g w m end i c old other open_end = elim (cases_eq c BEAT_COLUMN) [
  | inl same ↦ absurd (cc (sym (end_here w.end m (Some end)) ∙ open_end same))
  | inr apart ↦ copy_other w.table (w.past.view m) m m BEAT_COLUMN (one_more 64 (w.past.acts m)) i m c other
      ∙ old other (λ same. absurd (apart same))
      ∙ sym (own_other w.past.own m (w.past.view m) BEAT_COLUMN (one_more 64 (w.past.acts m)) c apart)
]

-- a member that sees that all are done still sees it at its end
pub end_sees : (w : World) (m : ℕ) (end : End) → SeesAllDone w m → SeesAllDone (stamped (ends w m end) m) m
end_sees w m end all i member = subst (λ z. (if i == m then z else w.seen m i DONE_COLUMN) ≡ 1)
    (sym (own_other w.past.own m (w.past.view m) BEAT_COLUMN (one_more 64 (w.past.acts m)) DONE_COLUMN
    (omega arith))) (all i member)
