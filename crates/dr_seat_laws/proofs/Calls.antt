-- Votes for one call, and what stood on a log before a vote.
use Rattle.std.proofs.Common.{◌≡◌, refl, ap, sym, ◌∙◌, inl, inr, subst, ℕ, ◌<◌, Bool, true, false, Contains, None, Some, slice_get, slice_index, if◌then◌else◌}
use Rattle.std.proofs.Math.Path.{fun_ext}
use Rattle.dr_calls.specs.Wire.{Voted, Wire}
use Rattle.dr_calls.proofs.Between.{Keeps, WasCast}
use Rattle.dr_entry.specs.declared.record.Vote.{Vote}
use Rattle.dr_history.specs.{Members.has, Soundness.whole_roster, declared.opening.Opening.Opening}
use Rattle.dr_restart.specs.{Choosing.{IsChosenStart, of_set}, declared.lists.LogLists.LogLists}
use Rattle.dr_restart.proofs.{Handing.{handed-has, set-log}, Refusals.one-start}

-- a log of a call, by number
record IsLogOfCall (w : Wire) (v : Voted) (m : ℕ) (log : LogLists) : Type 0 where
  pub there : of_set v.logs v.call.set m ≡ Some log
  pub given : Contains w.given (record { member = m; long = slice_index v.call.lengths m; lists = log })

log-there : (o : Opening) (w : Wire) (v : Voted) → WasCast o w v → (m : ℕ) → has v.call.set m ≡ true
    → (log : LogLists) × IsLogOfCall w v m log
log-there o w v c m inside =
    let t = handed-has (of_set v.logs v.call.set) (whole_roster o) m
    (subst (λ set. has set m ≡ true) (sym c.present ∙ c.chosen.present) inside) in
    let s = set-log v.logs v.call.set m t.1 t.2 in (t.1, record { there = t.2; given = c.given m t.1 inside s.1 })

same-logs : (o : Opening) (begun w : Wire) → Keeps o begun w → (u v : Voted) → Contains w.votes u
    → Contains w.votes v → u.call ≡ v.call → of_set u.logs u.call.set ≡ of_set v.logs v.call.set
same-logs o begun w k u v cu cv e = fun_ext λ m. by m (has u.call.set m) refl
  where
    by : (m : ℕ) (b : Bool) → has u.call.set m ≡ b → of_set u.logs u.call.set m ≡ of_set v.logs v.call.set m
    by m true f =
        let g = subst (λ c. has c.set m ≡ true) e f in
        let one = log-there o w u (k.cast u cu) m f in
        let other = log-there o w v (k.cast v cv) m g in
        one.1.there ∙ ap Some (k.one _ _ one.1.given other.1.given refl (ap (λ c. slice_index c.lengths m) e))
        ∙ sym other.1.there
    by m false f = ap (λ b. if b then slice_get u.logs m else None) f
        ∙ sym (ap (λ b. if b then slice_get v.logs m else None) (subst (λ c. has c.set m ≡ false) e f))

-- two votes for one call are for one start
pub same-start : (o : Opening) (begun w : Wire) → Keeps o begun w → (u v : Voted) → Contains w.votes u
    → Contains w.votes v → u.call ≡ v.call → u.start ≡ v.start
same-start o begun w k u v cu cv e = one-start o (of_set v.logs v.call.set) u.start v.start
    (subst (λ h. IsChosenStart o h u.start) (same-logs o begun w k u v cu cv e) (k.cast u cu).chosen)
    (k.cast v cv).chosen
    ∙ ap (λ n. record { age = v.start.age; members = n; present = v.start.present; entries = v.start.entries })
    ((k.cast u cu).members ∙ (k.cast u cu).present ∙ ap (λ c. c.set) e ∙ sym (k.cast v cv).present
    ∙ sym (k.cast v cv).members)

-- the votes that stood on a log before a vote are of earlier ages
pub earlier-votes : (o : Opening) (begun w : Wire) → Keeps o begun w → (v : Voted) → Contains w.votes v → (x : Vote)
    → Contains v.before.votes x → x.age < v.start.age
earlier-votes o begun w k v c x d =
    let cast = k.cast v c in
    let own = log-there o w v cast v.member cast.inside in
    cast.chosen.age.above v.member x.age own.0 own.1.there (inr (inl (
      x,
      subst (λ l. Contains l.votes x)
          (sym (k.one _ _ own.1.given cast.own refl refl)) d,
      refl,
    )))
