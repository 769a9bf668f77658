-- While nobody suspects anybody, nobody commits a value, and everybody stays in the first view.
use Rattle.std.proofs.Common.{◌++◌, List, None, arith, length, length-append, refl, sym, ℕ, ◌+◌, ◌∙◌, ◌≡◌, ◌≤◌}
use Rattle.std.proofs.lemmas.{List.Elements.All-head, Option.none-some}
use Rattle.dr_entry.specs.declared.entry.Entry.{Entry}
use Rattle.dr_history.specs.Order.{first_entries, messages_from}
use Rattle.dr_machine.specs.{Acts.{CanTake, effect_of}, Effects.{entries_of, sender_at}, Events.{member_of, step_of}}
use Rattle.dr_machine.specs.{Group.{Group, IsGroup}, Guards.{CanFinish, CanJoin}, Run.IsReachedWhere}
use Rattle.dr_machine.specs.{World.{World, item_at_place}, Writes.at, declared.step.Step.Step}
use Rattle.dr_machine.proofs.{Events.{letters_after, progress_after, standing_after}, Groups.AreUncommitted}
use Rattle.dr_machine.proofs.{Runs.by_way, Worlds.one_entry, Writes.at_both}
use Rattle.dr_faithful.{specs.{Faithful.Faithful, Late.AreBacked}, proofs.Begin.{begun, whole, whole_within}}
use Rattle.dr_faithful.proofs.Faithfulness.{faithful_keeps, none_go_on}
use Rattle.dr_faithful.proofs.Late.{arrived_keeps, backed_arrived, backed_begins, backed_event}
use Rattle.dr_world_laws.specs.Ends.{NobodySuspects}

step_keeps : (g : Group) (w : World) (m : ℕ) (s : Step) → CanTake g w m s → NobodySuspects w
    → Faithful g (whole g) w → AreUncommitted g w → AreUncommitted g (effect_of g w m s)
step_keeps g w m s can calm f u = record {
  none = stand.0;
  first = stand.1;
  start = went.0;
  short = went.1;
  unsent = letters_after g w m s (λ letter. (k : ℕ) → letter k ≡ None) can
      (λ j can. absurd (omega (arith, (f.views.came m can.welcomer).1, u.first m))) u.unsent;
}
  where
    stays : CanFinish g w m → ⊥
    stays can = none-some can.value (sym (u.none m) ∙ can.committed)

    never : CanJoin g w m → ⊥
    never can = none-some can.letter (sym (u.unsent m) ∙ can.given)

    stand : ((k : ℕ) → (effect_of g w m s).committed k ≡ None) × ((k : ℕ) → (effect_of g w m s).past.view k ≡ 0)
    stand = standing_after g w m s (λ x. ((k : ℕ) → x.committed k ≡ None) × ((k : ℕ) → x.view k ≡ 0)) can (record {
      goes_on = λ can. absurd (stays can);
      joins = λ can. absurd (never can);
      chooses = λ can. absurd (can.wedged (calm m));
      wedges = λ j can. (u.none, u.first);
      stops = λ end alive why. (u.none, u.first);
      stays = (u.none, u.first);
    })

    new : List Entry
    new = entries_of (w.past.history m) (sender_at w m (w.next m)) (item_at_place w m (w.next m))

    delivered : (k : ℕ) → length (at w.past.history m (w.past.history m
        ++ entries_of (w.past.history m) (sender_at w m (w.next m)) (item_at_place w m (w.next m))) k)
        ≤ length (first_entries g.opening) + at w.next m (w.next m + 1) k
    delivered = at_both (λ k h n. length h ≤ length (first_entries g.opening) + n) w.past.history w.next m
        (w.past.history m ++ new) (w.next m + 1) u.short (omega (
          arith,
          u.short m,
          length-append (w.past.history m) new,
          one_entry (w.past.history m) (sender_at w m (w.next m)) (item_at_place w m (w.next m)),
        ))

    went : ((k : ℕ) → (effect_of g w m s).base k ≡ length (messages_from k g.opening.start))
        × ((k : ℕ) → length ((effect_of g w m s).past.history k)
        ≤ length (first_entries g.opening) + (effect_of g w m s).next k)
    went = progress_after g w m s (λ x. ((k : ℕ) → x.base k ≡ length (messages_from k g.opening.start))
        × ((k : ℕ) → length (x.history k) ≤ length (first_entries g.opening) + x.next k)) can (record {
          puts_item = λ name may. (u.start, u.short);
          delivers_place = λ can. (u.start, delivered);
          knows_more = λ can. (u.start, u.short);
          goes_on = λ can. absurd (stays can);
          joins = λ can. absurd (never can);
          stays = (u.start, u.short);
        })

-- so nothing is committed in a world that is reached by worlds in which nobody suspects anybody, and the
-- members are faithful in the one view
pub trusting : (g : Group) (w : World) → IsGroup g → IsReachedWhere g NobodySuspects w
    → AreUncommitted g w × Faithful g (whole g) w
trusting g w is r = let y = by_way g NobodySuspects
    (λ us u. AreUncommitted g u × Faithful g (whole g) u × AreBacked g (whole g) us u) (λ us u e run calm can f. (
      step_keeps g u (member_of e) (step_of e) can (All-head NobodySuspects u us calm) f.1 f.0,
      faithful_keeps g (whole g) u e is (none_go_on g u f.0) can f.1,
      backed_event g (whole g) us u e is (none_go_on g u f.0) can f.1 f.2,
    )) (λ us u table run calm come f. (
      record { none = f.0.none; first = f.0.first; start = f.0.start; short = f.0.short; unsent = f.0.unsent },
      arrived_keeps g (whole g) us u table come f.2 f.1,
      backed_arrived g (whole g) us u table f.1 come f.2,
    )) (
      record { none = λ m. refl; first = λ m. refl; start = λ m. refl; short = λ m. omega arith; unsent = λ m. refl },
      begun g (whole g) is refl (whole_within g is),
      backed_begins g (whole g),
    ) r.0 w r.1 r.2 in (y.0, y.1)

pub stays_first : (g : Group) (w : World) (m : ℕ) → IsGroup g → IsReachedWhere g NobodySuspects w
    → (w.past.view m ≡ 0) × (w.committed m ≡ None)
stays_first g w m is r = let y = trusting g w is r in (y.0.first m, y.0.none m)
