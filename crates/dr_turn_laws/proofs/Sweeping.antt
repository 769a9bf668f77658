-- After a deed of a turn nothing is left to do at the places before the one where the member goes on.
use Rattle.std.proofs.Common.{◌≡◌, ◌≢◌, refl, sym, ap, ◌∙◌, subst, inl, inr, ℕ, ◌+◌, ◌-◌, ◌<◌, ◌≤◌, true, false, length, take, drop, ◌++◌, arith}
use Rattle.dr_entry.proofs.{Entries.longer, NumberFacts.{IsLess, one_place, one_column, not_back}}
use Rattle.dr_machine.specs.{Acts.{CanTake, effect_of}, Group.{Group, columns, roster}, World.{World, own_word}}
use Rattle.dr_machine.{specs.declared.event.Act.Act, proofs.Writes.{seen_less, pushed_less, log_here}}
use Rattle.dr_program.specs.{Running.{Running, goes}, Turn.{IsIn, after, columns_in, is_beat, part_of, rows_in}}
use Rattle.dr_program.{specs.declared.place.{Part.Part, Place.Place}, proofs.Going.{goes_back_or_stays, once_not}}
use Rattle.dr_program.proofs.{Parts.{is_passed, is_once, is_publish}, Search.part_before}
use Rattle.dr_program.specs.declared.place.Part.TheVariants as parts
use Rattle.dr_words.specs.declared.column.TheConstants.{LOGGED_COLUMN}
use Rattle.dr_turn_laws.{specs.Swept.{IsBefore, IsIdle, Swept}, proofs.Acts.{earlier_kept, uncrashed}}
use Rattle.dr_turn_laws.proofs.{Before.before_after, Leaving.{Stays, gained_other}}

-- ---- what a deed leaves of its own part

-- in earlier rows and columns it leaves what is known
less_kept : (g : Group) (w : World) (m : ℕ) (r : Running) (part : Part) (i c j d : ℕ) → i < rows_in (roster g) part
    → c < columns_in (columns g) part → IsLess j d i c → Stays g w (effect_of g w m (uncrashed r part i c)) m part j d
less_kept g w m r parts.Look i c j d row column less = λ old other.
    seen_less w.seen m i c (w.table (w.past.view m) m i c) j d less ∙ old other
less_kept g w m r parts.Receive i c j d row column less = λ old wants.
    old (gained_other g w (effect_of g w m (uncrashed r parts.Receive i c)) m i j
    (apart (one_column j d i c column less)) refl wants.0 wants.1)
  where
    apart : j < i → j ≢ i
    apart l same = absurd (omega (arith, l, same))
less_kept g w m r parts.Push i c j d row column less = λ old other unended.
    pushed_less w.table (w.past.view m) m i c (own_word w m c) j d less ∙ old other unended
less_kept g w m r parts.Give i c j d row column less = λ old. tt
less_kept g w m r part i c j d row column less = absurd (one_place j d i c row column less)

-- ---- what it does at its own place

done_there : (g : Group) (w : World) (m : ℕ) (r : Running) (part : Part) (i c : ℕ)
    → is_once part ≡ true → own_word w m LOGGED_COLUMN ≤ length (w.past.log m) → CanTake g w m (uncrashed r part i c)
    → IsIdle g (effect_of g w m (uncrashed r part i c)) m part i c
done_there g w m r parts.Look i c once published can = λ other. grind arith
done_there g w m r parts.Push i c once published can = λ other unended. grind arith
done_there g w m r parts.Append i c once published can = λ wants. omega (
  arith,
  published,
  ap length (log_here w.past.log m (w.past.log m ++ take 1 (drop (length (w.past.log m)) (w.past.history m)))),
  longer (w.past.log m) (w.past.history m) can.behind,
)
done_there g w m r part i c once published can = absurd (cc)

-- ---- a deed

-- what is known before a deed in a turn
pub record IsAmid (g : Group) (w : World) (m : ℕ) (r : Running) : Type 0 where
  pub place : IsIn (roster g) (columns g) r.place
  pub begun : is_beat (part_of r.place) ≡ false
  pub unpassed : is_passed (part_of r.place) ≡ false
  pub published : own_word w m LOGGED_COLUMN ≤ length (w.past.log m)
  pub can : CanTake g w m (uncrashed r (part_of r.place) r.place.row r.place.column)
  pub swept : Swept g w m r.place

-- and behind it
abbrev pub world_behind : Group → World → ℕ → Running → World
world_behind g w m r = effect_of g w m (uncrashed r (part_of r.place) r.place.row r.place.column)

-- at an earlier place, but for the one to which publishing goes back
earlier_idle : (g : Group) (w : World) (m : ℕ) (r : Running) (q : Place) → IsAmid g w m r
    → IsIn (roster g) (columns g) q → IsBefore q r.place
    → (is_publish (part_of r.place) ≡ true → q.part < r.place.part - 1)
    → IsIdle g (world_behind g w m r) m (part_of q) q.row q.column
earlier_idle g w m r q amid is (inl earlier) forth =
    earlier_kept g w m r r.place q (part_before (roster g) (columns g) r.place amid.place amid.begun) earlier
    amid.unpassed (not_back q.part r.place.part (is_publish (part_of r.place)) forth) (amid.swept q is (inl earlier))
earlier_idle g w m r q amid is (inr here) forth = subst (λ part. IsIdle g w m part q.row q.column
    → IsIdle g (world_behind g w m r) m part q.row q.column)
    (sym same) (less_kept g w m r (part_of r.place) r.place.row r.place.column q.row q.column amid.place.row
    amid.place.column here.1) (amid.swept q is (inr here))
  where
    same : part_of q ≡ part_of r.place
    same = ap (λ a. part_of (record q { part = a })) here.0

-- nothing is left to do before the place where the member goes on
pub swept_behind : (g : Group) (w : World) (m : ℕ) (r : Running) → IsAmid g w m r
    → Swept g (world_behind g w m r) m (goes (roster g) (columns g) (part_of r.place) r.place)
swept_behind g w m r amid q is = by (part_of r.place) refl
  where
    there : q ≡ r.place → is_once (part_of r.place) ≡ true
        → IsIdle g (world_behind g w m r) m (part_of q) q.row q.column
    there same once = subst (λ (x : Place). IsIdle g (world_behind g w m r) m (part_of x) x.row x.column) (sym same)
        (done_there g w m r (part_of r.place) r.place.row r.place.column once amid.published amid.can)

    onward : is_once (part_of r.place) ≡ true → IsBefore q (after (roster g) (columns g) r.place)
        → IsIdle g (world_behind g w m r) m (part_of q) q.row q.column
    onward once before = elim (before_after (roster g) (columns g) q r.place is before) [
      | inl earlier ↦ earlier_idle g w m r q amid is earlier (λ back. absurd (once_not (part_of r.place) once back))
      | inr same ↦ there same once
    ]

    back : (a : Act) → part_of r.place ≡ parts.Do a → IsBefore q (record r.place { part = r.place.part - 1 })
        → IsIdle g (world_behind g w m r) m (part_of q) q.row q.column
    back a e (inl earlier) = earlier_idle g w m r q amid is (inl (omega (arith, earlier))) (λ back. earlier)
    back a e (inr here) = absurd (one_place q.row q.column r.place.row r.place.column
        (subst (λ part. r.place.row < rows_in (roster g) part) e amid.place.row)
        (subst (λ part. r.place.column < columns_in (columns g) part) e amid.place.column) here.1)

    stays : (part : Part) → part_of r.place ≡ part → is_publish part ≡ false → IsBefore q r.place
        → IsIdle g (world_behind g w m r) m (part_of q) q.row q.column
    stays part e other before =
        earlier_idle g w m r q amid is before (λ back. absurd (cc (ap is_publish e, back, other)))

    act : (a : Act) → part_of r.place ≡ parts.Do a → IsBefore q (goes (roster g) (columns g) (parts.Do a) r.place)
        → IsIdle g (world_behind g w m r) m (part_of q) q.row q.column
    act a e before = elim (goes_back_or_stays (roster g) (columns g) a r.place (sym (ap is_beat e) ∙ amid.begun)) [
      | inl goes ↦ back a e (subst (IsBefore q) goes.1 before)
      | inr goes ↦ stays (parts.Do a) e goes.0 (subst (IsBefore q) goes.1 before)
    ]

    by : (part : Part) → part_of r.place ≡ part → IsBefore q (goes (roster g) (columns g) part r.place)
        → IsIdle g (world_behind g w m r) m (part_of q) q.row q.column
    by parts.Look e before = onward (ap is_once e) before
    by parts.Append e before = onward (ap is_once e) before
    by parts.Push e before = onward (ap is_once e) before
    by parts.Take e before = absurd (cc (ap is_passed e, amid.unpassed))
    by parts.Vote e before = absurd (cc (ap is_passed e, amid.unpassed))
    by (parts.Do a) e before = act a e before
    by part e before = stays part e refl before
