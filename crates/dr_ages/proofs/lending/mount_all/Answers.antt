use Rattle.std.{specs.Prelude.{Err, IfSome, Option, None}, proofs.lemmas.Bool.{cases_eq, cases_lt}}
use Rattle.std.proofs.Common.{◌≡◌, ◌∙◌, sym, ap, subst, inl, inr, ⊎_elim, arith, rules, ℕ, ◌<◌, ◌≤◌, List, [], ◌∷◌, ◌++◌, length, length-append}
use Rattle.dr_disk.specs.Disk.{Told}
use Rattle.dr_history.specs.Members.{has}
use Rattle.dr_log.specs.State.{LogState}
use Rattle.dr_opening.specs.Lists.{log_of}
use Rattle.dr_yard.specs.Yards.{YardState, state_by}
use Rattle.dr_ages.specs.{Lent.{AreAllBut, AreLent, AreMounted, IsAlike, IsMounted}, Passing.AreUntouched}
use Rattle.dr_ages.proofs.{Backs.missing_at, Loans.{all_but_more, lent_more, mounted_more, were_refused}}
use Rattle.dr_ages.proofs.Staying.{alike_same}
use Rattle.dr_ages.proofs.lending.mount_all.Goals as goal

-- where no log stands a disk is as it was
still : {D : Type 0} (missing k : ℕ) (before mid : YardState) (logs : List (Option (LogState D))) (m : ℕ)
    → AreAllBut missing logs → AreUntouched missing before mid → length logs ≡ k
    → ((j : ℕ) → k ≤ j → (mid.told j ≡ before.told j) × (mid.faults j ≡ before.faults j))
    → log_of logs m ≡ None → (mid.told m ≡ before.told m) × (mid.faults m ≡ before.faults m)
still missing k before mid logs m but untouched at rest none = ⊎_elim
    (λ (l : m < length logs). untouched m (missing_at missing logs m but l none))
    (λ (past : length logs ≤ m). rest m (omega (arith, past, at))) (cases_lt m (length logs))

-- what is known of a place is known of it where its disk was as at first
placed : {D : Type 0} (tells : D → Option Told) (faults : D → ℕ) (told told_then : Option Told)
    (count count_then : ℕ) (place : Option (LogState D)) → told ≡ told_then → count ≡ count_then
    → IfSome place (IsMounted tells faults told count) → IfSome place (IsMounted tells faults told_then count_then)
placed {D} tells faults told told_then count count_then place same same_count is =
    subst (λ (o : Option Told). IfSome place (IsMounted tells faults o count_then)) same
    (subst (λ (n : ℕ). IfSome place (IsMounted tells faults told n)) same_count is)

pub loop-member-preserved : goal.loop-member-preserved
loop-member-preserved g c =
    let D = g.row.Y-Store.Denot in
    let place : Option (LogState D) = c.in_ok-place.place in
    let logs : List (Option (LogState D)) = c.loop-member.logs.items in
    let items : c.push.new.self.items ≡ logs ++ place ∷ [] = search rules in
    let k : ℕ = c.loop-member.member in
    let i = c.loop-member.invariant in
    let is = c.in_ok-place.ensures in
    let told = g.Y.Store.Disk.told in
    let faults = g.Y.Store.Disk.faults in
    let before : YardState = state_by g.Y.Yard.told g.Y.Yard.faults c.args.yard.now in
    let same = i.4 k (omega arith) in
    let are = lent_more g.Y.Yard.is_lent g.Y.Yard.faults faults c.loop-member.yard c.mount_at.new.yard
    logs place k i.2 i.0 (omega (arith, c.loop-member-test.true, c.requires.few)) is.lent is.counted
    (λ m apart. let o = is.others m apart in (o.1, o.2)) in (
      ap length items ∙ (length-append logs (place ∷ []) ∙ omega (arith, i.0)),
      search rules,
      subst (λ (l : List (Option (LogState D))). AreLent g.Y.Yard.is_lent g.Y.Yard.faults
          faults c.mount_at.new.yard l) (sym items) are,
      subst (λ (l : List (Option (LogState D))). AreMounted told faults before l) (sym items)
          (mounted_more told faults before logs place k i.3 i.0
          (placed told faults (g.Y.Yard.told c.loop-member.yard k) (before.told k)
          (g.Y.Yard.faults c.loop-member.yard k) (before.faults k) place same.0 same.1 is.mounted)),
      λ m past.
          let o = is.others m (λ e. absurd (omega (arith, past, e))) in
          let s = i.4 m (omega (arith, past)) in (o.0 ∙ s.0, o.2 ∙ s.1),
      subst (λ (l : List (Option (LogState D))). AreAllBut c.args.part.now.missing l) (sym items)
          (all_but_more c.args.part.now.missing logs place k i.5 i.0 is.there),
      λ m gone. elim (cases_eq m k) [
        | inl at ↦
            let o = is.untouched (ap (has c.args.part.now.missing) (sym at) ∙ gone) in
            let s = i.6 m gone in (
              ap (g.Y.Yard.told c.mount_at.new.yard) at ∙ (o.0 ∙ (ap (g.Y.Yard.told c.loop-member.yard) (sym at) ∙ s.0)),
              ap (g.Y.Yard.faults c.mount_at.new.yard) at
                  ∙ (o.1 ∙ (ap (g.Y.Yard.faults c.loop-member.yard) (sym at) ∙ s.1)),
            )
        | inr apart ↦
            let o = is.others m apart in
            let s = i.6 m gone in (o.0 ∙ s.0, o.2 ∙ s.1)
      ],
    )

pub returns-in_err-place-clause-stopped : goal.returns-in_err-place-clause-stopped
returns-in_err-place-clause-stopped g c =
    let k : ℕ = c.loop-member.member in
    let i = c.loop-member.invariant in
    let same = i.4 k (omega arith) in
    let before = state_by g.Y.Yard.told g.Y.Yard.faults c.args.yard.now in
    let after = state_by g.Y.Yard.told g.Y.Yard.faults c.mount_at.new.yard in
    let answer : c.from_residual.result ≡ Err c.in_err-place.field-0.0 = search rules in
    rw answer (were_refused g.Y.Store.Disk.told g.Y.Store.Disk.faults c.args.part.now.missing c.args.members k before
    (state_by g.Y.Yard.told g.Y.Yard.faults c.loop-member.yard) after c.loop-member.logs.items
    c.in_err-place.field-0.0
    (omega (arith, c.loop-member-test.true)) c.in_err-place.ensures.refused i.3 i.5 i.0 same.0 same.1 (λ j l.
    let o = c.in_err-place.ensures.others j (λ e. absurd (omega (arith, l, e))) in
    let s = i.4 j (omega (arith, l)) in (o.0 ∙ s.0, o.2 ∙ s.1)) c.in_err-place.ensures.stopped)

pub returns-clause-on : goal.returns-clause-on
returns-clause-on g c m none =
    let i = c.loop-member.invariant in
    let s = still c.args.part.now.missing c.loop-member.member
    (state_by g.Y.Yard.told g.Y.Yard.faults c.args.yard.now)
    (state_by g.Y.Yard.told g.Y.Yard.faults c.loop-member.yard) c.loop-member.logs.items m i.5 i.6 i.0 i.4 none in
    alike_same (g.Y.Yard.told c.args.yard.now m) (g.Y.Yard.told c.loop-member.yard m)
    (g.Y.Yard.faults c.args.yard.now m) (g.Y.Yard.faults c.loop-member.yard m) s.0 (omega (arith, s.1))

pub returns-in_err-place-clause-on : goal.returns-in_err-place-clause-on
returns-in_err-place-clause-on g c m none =
    let k : ℕ = c.loop-member.member in
    let i = c.loop-member.invariant in
    let told = g.Y.Yard.told in
    let faults = g.Y.Yard.faults in
    let old = c.args.yard.now in
    let mid = c.loop-member.yard in
    let new = c.mount_at.new.yard in
    let same = still c.args.part.now.missing k (state_by told faults old) (state_by told faults mid)
    c.loop-member.logs.items m i.5 i.6 i.0 i.4 none in
    elim (cases_eq m k) [
      | inl at ↦ subst (λ (o : Option Told). IsAlike o (faults old m) (told new m) (faults new m)) same.0
          (subst (λ (n : ℕ). IsAlike (told mid m) n (told new m) (faults new m)) same.1
          (subst (λ (j : ℕ). IsAlike (told mid j) (faults mid j) (told new j) (faults new j)) (sym at)
          c.in_err-place.ensures.on))
      | inr apart ↦
          let o = c.in_err-place.ensures.others m apart in
          alike_same (told old m) (told new m) (faults old m) (faults new m) (o.0 ∙ same.0)
          (omega (arith, o.2, same.1))
    ]
