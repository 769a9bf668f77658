-- A member that shows done knows its whole history to be durable, and has nothing left to deliver. Where one
-- has ended as done, all members of its view show it.
use Rattle.std.proofs.Common.{◌≡◌, refl, ap, ℕ, arith, length, length-append, sym, ◌∙◌, ◌+◌, ◌<◌, [], ◌++◌, append-nil, ◌≢◌, ◌⊎◌, inl, inr, subst, true, ◌≤◌, Some}
use Rattle.std.proofs.lemmas.Bool.{cases_eq}
use Rattle.dr_entry.specs.declared.end.End.TheVariants.{Done}
use Rattle.dr_history.specs.{History.last_view, Members.has}
use Rattle.dr_words.specs.declared.column.TheConstants.{LOGGED_COLUMN, DONE_COLUMN, BEAT_COLUMN}
use Rattle.dr_machine.specs.{Acts.{CanTake, effect_of, Guard, effect}, Guards.{CanReport, CanDeliver, CanMark}}
use Rattle.dr_machine.specs.Effects.{committed_value, finished_history, least_shown, marks, one_more, stamped}
use Rattle.dr_machine.specs.{Events.{member_of, step_of}, World.{World, own_word, shown}, declared.step.Step.Step}
use Rattle.dr_machine.{specs.Group.{Group, roster}, proofs.Worlds.{shows_own, JoinsLater, Complete, joined_is, added}}
use Rattle.dr_machine.specs.Run.{WordsGrew}
use Rattle.dr_machine.{specs.declared.event.Event.Event, proofs.Events.{progress_after, AreDoneAs, marks_or_leaves}}
use Rattle.dr_machine.proofs.{Ends.{EndsSo, ended_so, step_inside}, Writes.{at_both, at_case, at₃_member}}
use Rattle.dr_faithful.{specs.{Faithful.Faithful, Tells.Views}, proofs.Shown.{done_is_one, shown_le}}

-- a member that knows more to be durable knew less than it has logged, so it didn't show done
reported : (g : Group) (V : Views) (w : World) (m : ℕ) → Faithful g V w → CanReport g w m
    → w.past.durable m ≡ length (w.past.history m) → ⊥
reported g V w m f can e = omega (
  arith,
  shows_own w m LOGGED_COLUMN (w.past.durable m) (can.logged m can.may.inside),
  (f.words.own m (w.past.view m) LOGGED_COLUMN).logged refl,
  e,
  length-append (w.past.log m) (f.logs.front m).0,
  ap length (f.logs.front m).1,
)

-- who showed done before a step knows the history that it has then to be durable
still_durable : (g : Group) (V : Views) (w : World) (m : ℕ) (s : Step) → Faithful g V w
    → ((m : ℕ) → CanDeliver g w m → m < roster g → own_word w m DONE_COLUMN ≡ 1 → added w m ≡ [])
    → JoinsLater g w → CanTake g w m s → Complete g w → (k : ℕ) → k < roster g
    → w.past.own k ((effect_of g w m s).past.view k) DONE_COLUMN ≡ 1
    → (effect_of g w m s).past.durable k ≡ length ((effect_of g w m s).past.history k)
still_durable g V w m s f nothing later can c = progress_after g w m s (λ x. (k : ℕ) → k < roster g
    → w.past.own k (x.view k) DONE_COLUMN ≡ 1 → x.durable k ≡ length (x.history k)) can (record {
      puts_item = λ name may. c.durable;
      delivers_place = λ can. at_case
          (λ k h. k < roster g → own_word w k DONE_COLUMN ≡ 1 → w.past.durable k ≡ length h) w.past.history m
          (w.past.history m ++ added w m) (λ k d. c.durable k) (λ l e. c.durable m l e
          ∙ ap length (sym (ap (λ es. w.past.history m ++ es) (nothing m can l e) ∙ append-nil (w.past.history m))));
      knows_more = λ can. at_case (λ k d. k < roster g → own_word w k DONE_COLUMN ≡ 1 → d ≡ length (w.past.history k))
          w.past.durable m (least_shown w m LOGGED_COLUMN) (λ k d. c.durable k)
          (λ l e. absurd (reported g V w m f can (c.durable m l e)));
      goes_on = λ can. at_both (λ k v h. k < roster g → w.past.own k v DONE_COLUMN ≡ 1
          → w.past.durable k ≡ length h) w.past.view w.past.history m (w.past.view m + 1)
          (finished_history g w m (committed_value w m)) c.durable
          (λ l e. absurd (omega (arith, e, f.fresh.unwritten m (w.past.view m + 1) DONE_COLUMN (omega arith))));
      joins = λ can. joined_is w m can.letter (λ u. (k : ℕ) → k < roster g → w.past.own k
          (u.past.view k) DONE_COLUMN ≡ 1 → u.past.durable k ≡ length (u.past.history k)) can.given
          (at_both (λ k v h. k < roster g → w.past.own k v DONE_COLUMN ≡ 1 → w.past.durable k ≡ length h)
          w.past.view w.past.history m (last_view (0, 0) can.letter).0 can.letter c.durable (λ l e. absurd (omega (
            arith,
            e,
            f.fresh.unwritten m (last_view (0, 0) can.letter).0 DONE_COLUMN (later m can),
          ))));
      stays = c.durable;
    })

step_durable : (g : Group) (V : Views) (w : World) (m : ℕ) (s : Step) → Faithful g V w
    → ((m : ℕ) → CanDeliver g w m → m < roster g → own_word w m DONE_COLUMN ≡ 1 → added w m ≡ []) → JoinsLater g w
    → CanTake g w m s → Complete g w → (k : ℕ) → k < roster g → own_word (effect_of g w m s) k DONE_COLUMN ≡ 1
    → (effect_of g w m s).past.durable k ≡ length ((effect_of g w m s).past.history k)
step_durable g V w m s f nothing later can c k l e = by (marks_or_leaves g w m s can)
  where
    marked : CanMark g w m → (k ≡ m) ⊎ (k ≢ m) → own_word (stamped (marks w m) m) k DONE_COLUMN ≡ 1
        → w.past.durable k ≡ length (w.past.history k)
    marked can (inl same) e = subst (λ i. w.past.durable i ≡ length (w.past.history i)) (sym same) can.durable
    marked can (inr d) e = c.durable k l (sym (at₃_member w.past.own m (w.past.view m) DONE_COLUMN 1 k
        (w.past.view k) DONE_COLUMN d) ∙ sym (at₃_member (marks w m).past.own m (w.past.view m) BEAT_COLUMN
        (one_more 64 (w.past.acts m)) k (w.past.view k) DONE_COLUMN d) ∙ e)

    by : (CanMark g w m × (effect_of g w m s ≡ stamped (marks w m) m)) ⊎ AreDoneAs w (effect_of g w m s)
        → (effect_of g w m s).past.durable k ≡ length ((effect_of g w m s).past.history k)
    by (inl (can, is)) = subst (λ u. u.past.durable k ≡ length (u.past.history k)) (sym is)
        (marked can (cases_eq k m) (subst (λ u. own_word u k DONE_COLUMN ≡ 1) is e))
    by (inr same) = still_durable g V w m s f nothing later can c k l
        (sym (same k ((effect_of g w m s).past.view k)) ∙ e)

-- a member that ends as done has seen that all do
ends_shown : (g : Group) (V : Views) (w : World) (k : ℕ) → Faithful g V w → Complete g w
    → EndsSo w k Done → (i : ℕ) → has (w.members k) i ≡ true → w.past.own i (w.past.view k) DONE_COLUMN ≡ 1
ends_shown g V w k f c (inl before) = c.shown k before
ends_shown g V w k f c (inr (inl due)) = λ i member. done_is_one g V w i (w.past.view k) f
    (omega (arith, due.1.all i member, shown_le g V w k i DONE_COLUMN f))
ends_shown g V w k f c (inr (inr fault)) = absurd fault

-- and who shows done in a view goes on to do so
step_shown : (g : Group) (V U : Views) (w : World) (m : ℕ) (s : Step) → Faithful g V w
    → Faithful g U (effect_of g w m s) → WordsGrew g w (effect_of g w m s) → CanTake g w m s → Complete g w
    → (k : ℕ) → (effect_of g w m s).end k ≡ Some Done → (i : ℕ) → has ((effect_of g w m s).members k) i ≡ true
    → (effect_of g w m s).past.own i ((effect_of g w m s).past.view k) DONE_COLUMN ≡ 1
step_shown g V U w m s f after grew can c k e i member =
    let t = ended_so g w m s k Done can e in
    let shows = ends_shown g V w k f c t.1 i (ap (λ mask. has mask i) (sym t.0.members) ∙ member) in
    done_is_one g U (effect_of g w m s) i ((effect_of g w m s).past.view k) after
    (subst (λ v. 1 ≤ (effect_of g w m s).past.own i v DONE_COLUMN) (sym t.0.view)
    (omega (arith, shows, (grew.own i (w.past.view k) DONE_COLUMN).number)))

-- so one that has ended as done shows it itself
pub done_shown : (g : Group) (V : Views) (w : World) (m : ℕ) → Faithful g V w → Complete g w → m < roster g
    → w.end m ≡ Some Done → own_word w m DONE_COLUMN ≡ 1
done_shown g V w m f c l e = c.shown m e m (c.inside m e)

-- after an event too, who shows done has completed its history
pub event_completes : (g : Group) (V : Views) (w : World) (e : Event) → Faithful g V w
    → Faithful g V (effect g w e) → WordsGrew g w (effect g w e)
    → ((m : ℕ) → CanDeliver g w m → m < roster g → own_word w m DONE_COLUMN ≡ 1 → added w m ≡ [])
    → JoinsLater g w → Guard g w e → Complete g w → Complete g (effect g w e)
event_completes g V w e f after grew nothing later can c = record {
  durable = step_durable g V w (member_of e) (step_of e) f nothing later can c;
  inside = step_inside g w (member_of e) (step_of e) can c;
  shown = step_shown g V V w (member_of e) (step_of e) f after grew can c;
}
