-- A member whose next place is behind all that the start leaves holds all messages.
use Rattle.std.proofs.Common.{ap, arith, length, length-append, take, ℕ, ◌+◌, ◌<◌, ◌≡◌, Some, refl, slice_get, subst, suc, zero, ◌*◌, ◌≤◌, List, sym, ◌++◌, ◌∙◌}
use Rattle.dr_entry.{specs.declared.{end.SentItem.TheVariants.Index, entry.Entry.Entry}, proofs.NumberFacts.round_lt}
use Rattle.dr_history.specs.{History.{GroupView, messages_in, messages_of}, Members.has}
use Rattle.dr_history.specs.Order.{first_entries, messages_from, numbered_messages}
use Rattle.dr_history.proofs.Indices.{messages_in-le, first_messages}
use Rattle.dr_history.proofs.NumberedLemmas.{messages_from-append, start_messages, length-numbered_messages}
use Rattle.dr_history_laws.specs.{Laid.{first_view, laid}, Remaining.messages_left}
use Rattle.dr_history_laws.proofs.{Counting.{Counted, counted}, Ordered.{view-distinct, first-ends}}
use Rattle.dr_machine.{specs.{Group.{Group, roster}, Guards.HoldsAll, World.World}, proofs.Groups.{at_rank, ranks}}
use Rattle.dr_machine.proofs.Sending.{all_put}
use Rattle.dr_faithful.proofs.ChosenViews.{IsPastAll, PutAll}
use Rattle.dr_world_laws.proofs.Firsts.{IsFirst, members_are, of_roster}
use Rattle.dr_world_laws.proofs.Worlds.{goes_first, history-first, put_first, in-order}

-- the messages of a member in a history: those of the start, and those among its first items
messages_laid : (g : Group) (w : World) (m s : ℕ) → IsFirst g w → m < roster g → s < roster g
    → (c : Counted g.opening w.past.sent (first_view g.opening) s s (w.next m))
    × (length (messages_from s (w.past.history m))
    ≡ length (messages_from s g.opening.start) + messages_in (take c.0 (w.past.sent s 0)))
messages_laid g w m s y l within = (
  c,
  omega (
    arith,
    ap (λ es. length (messages_from s es)) (history-first g w m y.known l (y.view m)),
    ap length (messages_from-append s (first_entries g.opening) (laid g.opening w.past.sent v (w.next m))),
    length-append (messages_from s (first_entries g.opening))
        (messages_from s (laid g.opening w.past.sent v (w.next m))),
    start_messages g.opening s,
    c.2,
  ),
)
  where
    v : GroupView
    v = first_view g.opening

    c : Counted g.opening w.past.sent (first_view g.opening) s s (w.next m)
    c = counted g.opening w.past.sent (first_entries g.opening) v s s (w.next m) (goes_first g w y.group y.known)
        (view-distinct (first_entries g.opening) v (first-ends g.opening)) (at_rank g s y.group y.nobody y.whole within)

-- the member has all messages that are left to s
has_left : (g : Group) (w : World) (m s : ℕ) → IsFirst g w → m < roster g → s < roster g
    → IsPastAll g w m → PutAll g w → length (messages_of g.opening s) ≤ length (messages_from s (w.past.history m))
has_left g w m s y l within past put = omega (
  arith,
  laid_so.1,
  first_messages (w.past.sent s 0) left told,
  messages_in-le (w.past.sent s 0) left laid_so.0.0 (many left refl),
)
  where
    left : ℕ
    left = messages_left g.opening s

    laid_so : (c : Counted g.opening w.past.sent (first_view g.opening) s s (w.next m))
        × (length (messages_from s (w.past.history m))
        ≡ length (messages_from s g.opening.start) + messages_in (take c.0 (w.past.sent s 0)))
    laid_so = messages_laid g w m s y l within

    told : (k : ℕ) → k < left → (i : ℕ) × (slice_get (w.past.sent s 0) k ≡ Some (Index i))
    told k h =
        let first = put_first g w s y.group y.known within in
        let all = all_put _ _ (w.past.sent s 0) first (put s within) in
        (length (messages_from s g.opening.start) + k, first.index k (omega (arith, h, all)))

    many : (n : ℕ) → messages_left g.opening s ≡ n → n ≤ laid_so.0.0
    many zero e = omega arith
    many (suc k) e = round_lt (roster g) k laid_so.0.0 s (w.next m) (past s k within (omega (arith, e)))
        (subst (λ (z : ℕ). w.next m ≤ laid_so.0.0 * z + s) (ranks g y.group y.nobody y.whole) laid_so.0.1.low)

-- a member whose next place is behind all messages holds them all
pub holds_all : (g : Group) (w : World) (m : ℕ) → IsFirst g w → m < roster g
    → IsPastAll g w m → PutAll g w → HoldsAll g w m
holds_all g w m y l past put s member = omega (
  arith,
  has_left g w m s y l within past put,
  ap length numbered.1,
  length-append (messages_from s (w.past.history m)) numbered.0,
  length-numbered_messages g.opening s,
)
  where
    within : s < roster g
    within = of_roster y s (ap (λ mask. has mask s) (sym (members_are y m)) ∙ member)

    numbered : (rest : List Entry) × (messages_from s (w.past.history m) ++ rest ≡ numbered_messages g.opening s)
    numbered = (in-order g w m y.group y.known l).numbered s
