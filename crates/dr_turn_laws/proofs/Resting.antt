-- A member that has come to the end of its turn has nothing left to do.
use Rattle.std.specs.Prelude.{⊤, Option, None, Some, is_some}
use Rattle.std.proofs.Common.{◌≡◌, ◌↔◌, refl, subst, inl, inr, ◌⊎◌, ℕ, ◌-◌, ◌<◌, ◌||◌, true, false, length, arith, ◌≢◌, ◌≤◌, ap, sym, ◌∙◌, le_trans}
use Rattle.std.proofs.lemmas.Bool.{cases_eq, cases_lt, Decides.nat_tests}
use Rattle.dr_entry.{specs.declared.end.End.End, proofs.Rounds.Room}
use Rattle.dr_entry.specs.declared.end.End.TheVariants as ends
use Rattle.dr_history.{specs.Members.has, proofs.Indices.messages_within}
use Rattle.dr_history_laws.specs.Remaining.{messages_left}
use Rattle.dr_words.specs.{Columns.recv_column, Packing.recv_count}
use Rattle.dr_words.specs.declared.column.TheConstants.{BEAT_COLUMN, LOGGED_COLUMN}
use Rattle.dr_machine.{specs.{Group.{Group, roster, columns}, Guards.HasRoom}, proofs.Groups.SeesOwn}
use Rattle.dr_machine.{specs.World.{World, shown, items_received, own_word}, proofs.Worlds.{shown_mine, shown_other}}
use Rattle.dr_program.specs.{Turn.{is_beat, part_of}, declared.place.{Place.Place, TheConstants.TURN}}
use Rattle.dr_program.proofs.{Holdings.{IsAlong, held}, Order.beat_last, Parts.stands_at}
use Rattle.dr_program.specs.declared.place.Part.TheVariants as parts
use Rattle.dr_world_laws.proofs.Firsts.{IsFirst, own_first, in_view_is, count_first, told, next_is, none_left}
use Rattle.dr_program_laws.specs.Failing.{has_log_end}
use Rattle.dr_turn_laws.specs.{Rested.IsRested, Swept.Swept, Wants.{SeesAllDone, IsLeft}}
use Rattle.dr_turn_laws.proofs.Acts.{IsPastPushes, idle_part, idle_work, nothing_left}

-- ---- what is known of a member within its turn

-- by its end: where it hasn't crashed, nothing is left to do before its place
abbrev pub Knows : Group → World → ℕ → Place → Option End → Type 0
Knows g w m p None = Swept g w m p
Knows g w m p (Some ends.Done) = Swept g w m p × (part_of p ≡ parts.Done) × SeesAllDone w m
Knows g w m p (Some (ends.Spent n)) = Swept g w m p × (part_of p ≡ parts.Spent)
Knows g w m p (Some ends.Crashed) = ⊤
Knows g w m p (Some end) = ⊥

-- it hasn't ended by its log
pub knows_logs : (g : Group) (w : World) (m : ℕ) (p : Place) (o : Option End) → Knows g w m p o
    → has_log_end o ≡ false
knows_logs g w m p None known = refl
knows_logs g w m p (Some ends.Done) known = refl
knows_logs g w m p (Some (ends.Spent n)) known = refl
knows_logs g w m p (Some ends.Crashed) known = refl
knows_logs g w m p (Some end) known = absurd known

-- ---- what is idle

rested_behind : (g : Group) (w : World) (m : ℕ) (p : Place) → IsPastPushes g w m p
    → (w.end m ≡ Some ends.Done) ↔ SeesAllDone w m → IsRested g w m
rested_behind g w m p behind done = record {
  idle = idle_work g w m p behind;
  seen = λ i c within other low. idle_part g w m p 1 i c behind (omega arith) within low other;
  pushed = λ j c within other low. idle_part g w m p (length TURN - 7) j c behind (omega arith) within low other;
  done = done;
}

-- where the end as done was asked for and not taken, not all are done
undone : (g : Group) (w : World) (m : ℕ) (p : Place) → Swept g w m p → length TURN - 5 < p.part → SeesAllDone w m → ⊥
undone g w m p swept late all = swept (record { part = length TURN - 5; row = 0; column = 0 })
    (record { part = omega arith; row = omega arith; column = omega arith }) (inl late) all

-- ---- the end of a turn

-- a member that has ended or stands before its next turn has crashed, or has nothing left to do
pub rests : (g : Group) (w : World) (m : ℕ) (p : Place) (o : Option End) → w.end m ≡ o → p.part < length TURN
    → (is_some o || is_beat (part_of p)) ≡ true → ((i : ℕ) → has (w.members m) i ≡ true → i < roster g)
    → Knows g w m p o → (w.end m ≡ Some ends.Crashed) ⊎ IsRested g w m
rests g w m p None e inside between view swept =
    let last = beat_last p.part inside between in
    inr (rested_behind g w m p (record { swept = swept; late = omega (arith, last); view = view })
    (λ done. absurd (cc (e, done)), λ all. absurd (undone g w m p swept (omega (arith, last)) all)))
rests g w m p (Some ends.Done) e inside between view known =
    let at = stands_at p.part parts.Done inside known.1 in
    let late : length TURN - 6 < p.part = grind (arith, nat_tests, at) in
    inr (rested_behind g w m p (record { swept = known.0; late = late; view = view }) (λ done. known.2, λ all. e))
rests g w m p (Some (ends.Spent n)) e inside between view known =
    let at = stands_at p.part parts.Spent inside known.1 in
    let late : length TURN - 5 < p.part = grind (arith, nat_tests, at) in
    inr (rested_behind g w m p (record { swept = known.0; late = omega (arith, late); view = view })
    (λ done. absurd (cc (e, done)), λ all. absurd (undone g w m p known.0 late all)))
rests g w m p (Some ends.Crashed) e inside between view known = inl e
rests g w m p (Some end) e inside between view known = absurd known

-- m has had its turn, and the others have come at least as far as r rounds bring them
pub record HasHadTurn (g : Group) (w : World) (most r m : ℕ) : Type 0 where
  pub known : IsFirst g w
  pub member : m < roster g
  pub few : (s : ℕ) → messages_left g.opening s ≤ most
  pub rested : IsRested g w m
  pub sees : SeesOwn g w r m
  pub others : (i : ℕ) → i < roster g → i ≢ m → IsAlong g most r i (held w i)

-- each row that it sees shows the own words of its member
pub shows_own : {g : Group} {w : World} {most r m : ℕ} → HasHadTurn g w most r m → (i c : ℕ) → i < roster g
    → c < columns g → c ≢ BEAT_COLUMN → (c ≡ LOGGED_COLUMN → 1 ≤ r) → shown w m i c ≡ w.past.own i 0 c
shows_own {g = g} {w = w} {m = m} h i c l inside apart begun = by (cases_eq i m)
  where
    by : (i ≡ m) ⊎ (i ≢ m) → shown w m i c ≡ w.past.own i 0 c
    by (inl same) = shown_mine w m i c (w.past.own i 0 c) same
        (own_first h.known m c ∙ ap (λ k. w.past.own k 0 c) (sym same))
    by (inr other) = shown_other w m i c (w.past.own i 0 c) other (h.sees i c l other inside apart begun)

-- room by the counts of the others is a free slot
pub slot_is_free : {g : Group} {w : World} {most r m : ℕ} → HasHadTurn g w most r m
    → Room (roster g) g.window (λ i. w.past.count i 0) m → HasRoom g w m (items_received w m m)
slot_is_free {g = g} {w = w} {m = m} h (inl early) = inl (omega (arith, count_first h.known m m, early))
slot_is_free {g = g} {w = w} {m = m} h (inr all) = inr (λ i other.
    let l = in_view_is h.known m i other.member in
    let word = h.sees i (recv_column m) l other.other (omega (arith, h.member)) (λ e. omega (arith, e))
    (λ e. absurd (omega (arith, e))) in
    omega (
      arith,
      all i l other.other,
      count_first h.known m m,
      ap recv_count word,
      (told h.known).counts.recv i 0 m h.member,
    ))

-- a message is left where m has put fewer items than it had messages left, and only there
pub is_left : (g : Group) (w : World) (m : ℕ) → IsFirst g w → m < roster g
    → w.past.count m 0 m < messages_left g.opening m → IsLeft g w m
is_left g w m y l fewer =
    omega (arith, next_is g w m y l, messages_within (w.past.sent m 0), (told y).sent.all m 0, fewer)

-- where no message is left and the slot is free, nobody is ahead of m: it would have put a null
pub fills : {g : Group} {w : World} {most r m : ℕ} → HasHadTurn g w most r m
    → messages_left g.opening m ≤ w.past.count m 0 m → Room (roster g) g.window (λ i. w.past.count i 0) m → (s : ℕ)
    → w.past.count m 0 s ≤ w.past.count m 0 m
fills {g = g} {w = w} {m = m} h enough room s = by (cases_lt (w.past.count m 0 m) (w.past.count m 0 s))
  where
    by : (w.past.count m 0 m < w.past.count m 0 s) ⊎ (w.past.count m 0 s ≤ w.past.count m 0 m)
        → w.past.count m 0 s ≤ w.past.count m 0 m
    by (inl ahead) = absurd ((nothing_left h.rested).nulls (
      none_left g w m h.known h.member enough,
      slot_is_free h room,
      (s, omega (arith, ahead, count_first h.known m s, count_first h.known m m)),
    ))
    by (inr level) = level

-- its logged word says how many entries its history has
pub has_logged : (g : Group) (w : World) (m : ℕ) → IsRested g w m → IsFirst g w
    → length (w.past.history m) ≤ w.past.own m 0 LOGGED_COLUMN
has_logged g w m rested y = subst (λ (z : ℕ). length (w.past.history m) ≤ z) (own_first y m LOGGED_COLUMN)
    (by (cases_lt (length (w.past.log m)) (length (w.past.history m)))
    (cases_lt (own_word w m LOGGED_COLUMN) (length (w.past.log m))))
  where
    by : (length (w.past.log m) < length (w.past.history m)) ⊎ (length (w.past.history m) ≤ length (w.past.log m))
        → (own_word w m LOGGED_COLUMN < length (w.past.log m)) ⊎ (length (w.past.log m) ≤ own_word w m LOGGED_COLUMN)
        → length (w.past.history m) ≤ own_word w m LOGGED_COLUMN
    by (inl behind) b = absurd ((nothing_left rested).entries behind)
    by (inr appended) (inl behind) = absurd ((nothing_left rested).logged behind)
    by (inr appended) (inr published) = le_trans appended published
