use Rattle.std.specs.Prelude.{slice_set}
use Rattle.std.proofs.Common.{◌≡◌, rules, sym, ap, ◌∙◌, subst, ℕ, suc, ◌+◌, ◌<◌, [], length, arith}
use Rattle.std.proofs.lemmas.List.{length-set}
use Rattle.dr_member.{specs.Deeds.{is_append, table_size}, proofs.Deeds.size_after}
use Rattle.dr_served.proofs.Grouped.{some_due}
use Rattle.dr_play.specs.Persisted.{HasPersisted, persisted, words_persisted}
use Rattle.dr_play.proofs.Persisting.{are_persisting, goes_on, persisted_more, stored_more, to_go_on}
use Rattle.dr_program.specs.Running.{Running, after_step, next_deed, next_step}
use Rattle.dr_sim.proofs.deed.persist.Goals as goal

pub appended-requires : goal.appended-requires
appended-requires c =
    let is = to_go_on c.loop.counter c.args.member.now c.loop.member c.loop.invariant.persisted
    c.loop.invariant.form c.requires.going
    (c.loop.invariant.next (omega (arith, c.loop-test.true, ap length c.entries_due-end.ensures))) in
    ap is_append (are_persisting [] c.loop.member is).append

pub due_deed-requires : goal.due_deed-requires
due_deed-requires c =
    let is = to_go_on c.loop.counter c.args.member.now c.loop.member c.loop.invariant.persisted
    c.loop.invariant.form c.requires.going
    (c.loop.invariant.next (omega (arith, c.loop-test.true, ap length c.entries_due-end.ensures))) in
    record {
      going = ap (λ (x : Running). x.replica.end) (c.appended.ensures.after 0) ∙ (are_persisting [] c.loop.member is).none;
    }

pub unreachable-requires : goal.unreachable-requires
unreachable-requires c =
    let is = to_go_on c.loop.counter c.args.member.now c.loop.member c.loop.invariant.persisted
    c.loop.invariant.form c.requires.going
    (c.loop.invariant.next (omega (arith, c.loop-test.true, ap length c.entries_due-end.ensures))) in
    c.in_default.not-Act _ _ (c.due_deed.ensures.deed ∙ ap next_deed (c.appended.ensures.after 0)
    ∙ (are_persisting [] c.loop.member is).publish)

pub offset_bounds-table-index : goal.offset_bounds-table-index
offset_bounds-table-index c =
    let below : c.in-Act.index < length c.loop.table = omega (
      arith,
      c.in-Act.ensures.within,
      size_after 0 c.loop.member,
      ap table_size (c.appended.ensures.after 0),
      c.loop.invariant.size,
    ) in
    search rules

pub bounds-table-index : goal.bounds-table-index
bounds-table-index c = omega (
  arith,
  c.in-Act.ensures.within,
  size_after 0 c.loop.member,
  ap table_size (c.appended.ensures.after 0),
  c.loop.invariant.size,
)

pub loop-preserved : goal.loop-preserved
loop-preserved c =
    let n = c.loop.counter in
    let r = c.args.member.now in
    let q = c.loop.member in
    let x = c.appended.new.self in
    let y = c.acted.new.self in
    let has = c.loop.invariant.persisted in
    let is = to_go_on n r q has c.loop.invariant.form c.requires.going
    (c.loop.invariant.next (omega (arith, c.loop-test.true, ap length c.entries_due-end.ensures))) in
    let next : y ≡ persisted q = c.acted.ensures.after 0 ∙ ap (after_step 0) (c.appended.ensures.after 0) in
    let one : suc n ≡ n + 1 = omega arith in
    record {
      few = omega (arith, c.loop-test.true, ap length c.entries_due-end.ensures);
      persisted = subst (λ k. HasPersisted k r y) one
          (subst (HasPersisted (suc n) r) (sym next) (persisted_more n r q has is));
      words = subst (λ k. slice_set c.loop.table c.in-Act.index c.in-Act.word ≡ words_persisted k c.args.table.now r) one
          (stored_more n c.args.table.now c.loop.table r q x c.in-Act.index c.in-Act.word has c.loop.invariant.words
          (c.appended.ensures.after 0) c.in-Act.ensures.deed);
      form = c.acted.ensures.form;
      next = λ more. ap next_step next ∙ goes_on n r q has c.loop.invariant.form is (omega (arith, more));
      size = omega (
        arith,
        size_after 0 x,
        ap table_size (c.acted.ensures.after 0),
        size_after 0 q,
        ap table_size (c.appended.ensures.after 0),
        length-set c.loop.table c.in-Act.index c.in-Act.word,
        c.loop.invariant.size,
      );
      falls = omega (arith, c.acted.ensures.falls, c.appended.ensures.falls, c.loop.invariant.falls);
    }

pub returns-clause-falls : goal.returns-clause-falls
returns-clause-falls c = omega (
  arith,
  c.loop.invariant.falls,
  c.loop-test.false,
  ap length c.entries_due-end.ensures,
  some_due c.args.member.now c.requires.form c.requires.going c.requires.due,
)
