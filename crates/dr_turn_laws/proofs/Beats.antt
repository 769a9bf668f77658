-- In the first view acts are few, so the beat of a member rises with each turn.
use Rattle.std.proofs.Common.{◌≡◌, refl, ap, ◌∙◌, subst, ℕ, ◌+◌, ◌-◌, ◌*◌, ◌^◌, ◌<◌, ◌≤◌, length, true, arith}
use Rattle.std.proofs.{Math.Nat.mul-le-mul, lemmas.List.length-take}
use Rattle.dr_history.specs.Members.{has}
use Rattle.dr_machine.specs.{Acts.effect_of, Effects.one_more, Group.{Group, IsPresent}, World.World}
use Rattle.dr_machine.proofs.{Worlds.one_stamp, Writes.stamp_here}
use Rattle.dr_program.specs.{Form.HasForm, Program.{Program, ok, step_of}, Reading.{table_of, world}}
use Rattle.dr_program.specs.{Replica.{Replica, greatest}, Running.{Running, step_at}, Turn.{part_of, turn_begins}}
use Rattle.dr_program.proofs.{Deeds.replicas, Holdings.{held_of, own_shown}, Replicas.places_few}
use Rattle.dr_turn.specs.Work.{ballots_left, commit_left, items_left, letters_left, log_left, mark_left, places_left, refill, reports_left, sum_of, trust_left, views_left, work}
use Rattle.dr_words.specs.declared.column.TheConstants.{BEAT_COLUMN, RECEIVED_COLUMN}
use Rattle.dr_world_laws.proofs.Worlds.{Known, known, few}
use Rattle.dr_turn_laws.proofs.{Passing.{IsGoing, member}, Steadying.world_on}
use Rattle.dr_program_laws.proofs.Trusting.{stay_first}

-- ---- acts

pub acts_few : (g : Group) (p : Program) (m : ℕ) (r : Running) → IsGoing g p m r → r.replica.acts + 1 < 2 ^ 64
unfolding work views_left sum_of places_left reports_left
acts_few g p m r is = few (refill q * q.banks) q.acts (items_left q) q.next
    (log_left q) q.durable (mark_left q + (trust_left q + (ballots_left q + (commit_left q + (letters_left q + 0)))))
    (greatest q.totals * q.roster) q.room
    q.turns (omega (arith, is.steady.works m r is.there is.unended, ap (λ b. refill q * b) first)) next durable
    form.small (mul-le-mul {n₁ = greatest q.totals}
    {m₁ = q.roster} {n₂ = 4096} {m₂ = 16} form.few (omega (arith, form.rows.few, form.members)))
    (omega (arith, (is.steady.program.form m r is.there).turns, is.steady.limits m r is.there))
  where
    q : Replica
    q = r.replica

    w : World
    w = world g p

    form : HasForm r.replica
    form = (is.steady.program.form m r is.there).replica

    y : Known g (world g p)
    y = known g (world g p) is.steady.group is.steady.reached

    first : r.replica.banks - r.replica.view ≡ r.replica.banks
    first = omega (arith, (is.ease m r is.there).first)

    here : IsPresent g m
    here = (is.steady.program.of m r is.there).present

    first_members : has g.opening.members m ≡ true
    first_members = ap (λ k. has k m) is.steady.nobody ∙ here

    next : r.replica.next ≤ 16 * 4096
    next = omega (
      arith,
      y.chosen.faithful.delivered.held m m (y.chosen.faithful.views.present m first_members),
      ap (λ h. h.next) (held_of g (replicas p.members) (table_of p) m q (member g p m r is).there),
      own_shown g (replicas p.members) (table_of p) m q RECEIVED_COLUMN (member g p m r is).there,
      form.received,
      places_few q form,
    )

    durable : r.replica.durable ≤ r.replica.room
    durable = omega (
      arith,
      (y.chosen.faithful.logs.safe m here).own,
      ap (λ h. h.durable) (held_of g (replicas p.members) (table_of p) m q (member g p m r is).there),
      ap (λ h. length h.log) (held_of g (replicas p.members) (table_of p) m q (member g p m r is).there),
      length-take q.logged q.history,
      form.room,
    )

-- ---- the beat

-- with the deed that begins a turn it rises
pub beat_rises : (g : Group) (p : Program) (m : ℕ) (r : Running) → IsGoing g p m r → part_of r.place ≡ turn_begins
    → (world g p).past.own m 0 BEAT_COLUMN < (world g (step_of p (ok m))).past.own m 0 BEAT_COLUMN
beat_rises g p m r is begins = subst (λ v. w.past.own m v BEAT_COLUMN < u.past.own m v BEAT_COLUMN)
    (stay_first g p m is.ease) (omega (
      arith,
      (y.chosen.faithful.words.own m (w.past.view m) BEAT_COLUMN).beat refl,
      ap (λ (x : World). x.past.own m (w.past.view m) BEAT_COLUMN) moved,
      stamp_here w.past.own m (w.past.view m) BEAT_COLUMN (one_more 64 (w.past.acts m)),
      one_stamp (w.past.acts m) (omega (
        arith,
        acts_few g p m r is,
        ap (λ h. h.acts) (held_of g (replicas p.members) (table_of p) m r.replica (member g p m r is).there),
      )),
    ))
  where
    w : World
    w = world g p

    u : World
    u = world g (step_of p (ok m))

    y : Known g (world g p)
    y = known g (world g p) is.steady.group is.steady.reached

    moved : world g (step_of p (ok m)) ≡ effect_of g (world g p) m (step_at r turn_begins r.place.row r.place.column)
    moved = (world_on g p m r is.steady is.there is.unended).1
        ∙ ap (λ part. effect_of g (world g p) m (step_at r part r.place.row r.place.column)) begins
