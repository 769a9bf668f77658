use Rattle.std.proofs.Common.{◌≡◌, refl, sym, ap, ◌∙◌, subst, suc, ◌+◌, [], length, arith}
use Rattle.dr_member.specs.Deeds.{is_append}
use Rattle.dr_served.{specs.Served.entries_due, proofs.Grouped.some_due}
use Rattle.dr_play.specs.Persisted.{HasPersisted, persisted}
use Rattle.dr_play.proofs.Persisting.{are_persisting, goes_on, persisted_more, to_go_on}
use Rattle.dr_program.specs.Running.{Running, after_step, next_deed, next_step}
use Rattle.dr_table.specs.{Deeds.IsStore, Steps.IsReachedMember}
use Rattle.dr_table.proofs.{Cards.reached_form, Keeping.store_reached}
use Rattle.dr_threads.proofs.member.persist.Goals as goal

pub appended-requires : goal.appended-requires
appended-requires c =
    let is = to_go_on c.loop.counter c.args.seated.now.member c.loop.seated.member c.loop.invariant.persisted
    (reached_form c.loop.seated.member c.loop.invariant.reached) c.requires.going
    (c.loop.invariant.next (omega (
      arith,
      c.loop-test.true,
      ap length c.entries_due-end.ensures,
      ap (λ (r : Running). length (entries_due r.replica)) c.member.ensures.member,
    ))) in
    record { deed = ap is_append (are_persisting [] c.loop.seated.member is).append }

pub unreachable-requires : goal.unreachable-requires
unreachable-requires c =
    let is = to_go_on c.loop.counter c.args.seated.now.member c.loop.seated.member c.loop.invariant.persisted
    (reached_form c.loop.seated.member c.loop.invariant.reached) c.requires.going
    (c.loop.invariant.next (omega (
      arith,
      c.loop-test.true,
      ap length c.entries_due-end.ensures,
      ap (λ (r : Running). length (entries_due r.replica)) c.member.ensures.member,
    ))) in
    c.in_default.not-Act _ _ (c.next.ensures.deed
    ∙ ap next_deed (c.member-in-loop.ensures.member ∙ c.appended.ensures.member)
    ∙ (are_persisting [] c.loop.seated.member is).publish)

pub act-requires-clause-deed : goal.act-requires-clause-deed
act-requires-clause-deed c = sym (c.in-Act.ensures.deed ∙ ap next_deed c.member-in-loop.ensures.member)

pub loop-preserved : goal.loop-preserved
loop-preserved c =
    let n = c.loop.counter in
    let r = c.args.seated.now.member in
    let q = c.loop.seated.member in
    let x = c.appended.new.self.member in
    let y = c.act.new.self.member in
    let has = c.loop.invariant.persisted in
    let form = reached_form q c.loop.invariant.reached in
    let is = to_go_on n r q has form c.requires.going
    (c.loop.invariant.next (omega (
      arith,
      c.loop-test.true,
      ap length c.entries_due-end.ensures,
      ap (λ (r : Running). length (entries_due r.replica)) c.member.ensures.member,
    ))) in
    let next : y ≡ persisted q = c.act.ensures.member ∙ ap (after_step 0) c.appended.ensures.member in
    let one : suc n ≡ n + 1 = omega arith in
    record {
      few = omega (
        arith,
        c.loop-test.true,
        ap length c.entries_due-end.ensures,
        ap (λ (r : Running). length (entries_due r.replica)) c.member.ensures.member,
      );
      table = c.act.ensures.table ∙ c.appended.ensures.table ∙ c.loop.invariant.table;
      persisted = subst (λ k. HasPersisted k r y) one
          (subst (HasPersisted (suc n) r) (sym next) (persisted_more n r q has is));
      next = λ more. ap next_step next ∙ goes_on n r q has form is (omega (arith, more));
      reached = subst IsReachedMember (sym c.act.ensures.member) (store_reached x c.in-Act.word c.in-Act.new
          (subst (IsStore c.in-Act.word c.in-Act.new)
          (c.in-Act.ensures.deed ∙ ap next_deed c.member-in-loop.ensures.member) (refl, refl)) c.member-in-loop.ensures.reached);
      falls = omega (arith, c.act.ensures.falls, c.appended.ensures.falls, c.loop.invariant.falls);
    }

pub returns-clause-falls : goal.returns-clause-falls
returns-clause-falls c = omega (
  arith,
  c.loop.invariant.falls,
  c.loop-test.false,
  ap length c.entries_due-end.ensures,
  ap (λ (r : Running). length (entries_due r.replica)) c.member.ensures.member,
  some_due c.args.seated.now.member (reached_form c.args.seated.now.member c.member.ensures.reached)
      c.requires.going c.requires.due,
)
