use Rattle.std.proofs.Common.{◌≡◌, ◌∙◌, ℕ, ◌+◌, ◌<◌, ◌≤◌, ap, arith, length, slice_index, subst, sym, inl, inr, ◌⊎◌}
use Rattle.std.proofs.lemmas.Bool.{cases_lt}
use Rattle.dr_entry.proofs.ListPlaces.{found}
use Rattle.dr_program.{specs.Replica.{Replica, me}, proofs.Replicas.{bank_before, bank_of, bank_within, row_ends}}
use Rattle.dr_words.specs.{Columns.columns_of, Layout.word_index_of}
use Rattle.dr_door.specs.{Inside.IsKept, Lone.Lone, Sending.IsLastSent}
use Rattle.dr_door.proofs.{Again.{IsAtBank, found_there, only_there}, door.Door.again.Goals.After-columns}
use Rattle.dr_door.proofs.door.Door.again.Goals as goal

at_bank : (c : After-columns)
    → IsAtBank c.args.self.now c.loop-bank.bank c.args.to c.word_index-first.result c.columns.result
at_bank c =
    let shape = c.shape-shape.ensures in
    let number = c.me-me.ensures ∙ ap (λ (d : Lone). me d.member.replica) c.self.view_is in
    record {
      kept = subst (λ (d : Lone). IsKept d.member.replica d.words) c.self.view_is c.self.invariant.kept;
      number = subst (λ (d : Lone). me d.member.replica < d.member.replica.roster) c.self.view_is
          c.self.invariant.form.replica.number;
      within = omega (arith, c.loop-bank-test.true, shape.banks);
      copy = omega (arith, c.if-shape-to.false, shape.members);
      begins = c.word_index-first.ensures.value
          ∙ (λ z. word_index_of (shape.members z) (shape.window z) c.loop-bank.bank c.args.to (number z) 0);
      wide = c.columns.ensures ∙ (λ z. columns_of (shape.members z) (shape.window z));
    }

pub next_some-requires : goal.next_some-requires
next_some-requires c =
    let at = at_bank (goal.at.next_some-requires c).After-columns in
    omega (
      arith,
      row_ends c.args.self.now.member.replica c.loop-bank.bank c.args.to at.within at.copy at.number,
      at.begins,
      at.wide,
      at.kept.whole,
    )

pub returns-in-Some-clause-some : goal.returns-in-Some-clause-some
returns-in-Some-clause-some c =
    let at = at_bank (goal.at.returns-in-Some-clause-some c).After-columns in
    let r = c.args.self.now.member.replica in
    let some = c.in-Some.ensures.some in
    let here = found_there r c.loop-bank.bank c.args.to c.in-Some.index at.copy at.number
    (omega (arith, some.0, c.max.ensures, at.begins)) (omega (arith, some.1, at.begins, at.wide)) in
    let within : c.in-Some.index < length c.args.self.now.words =
    omega (arith, some.1, at.begins, at.wide, at.kept.whole, row_ends r c.loop-bank.bank c.args.to at.within at.copy at.number) in (
      record {
        within = within;
        copy = here.0;
        other = λ e. c.if-to-me.false
            (e ∙ sym (c.me-me.ensures ∙ ap (λ (d : Lone). me d.member.replica) c.self.view_is));
        some = some.2;
      },
      omega (arith, some.0, c.max.ensures),
      found c.self.inside.words.items c.in-Some.index c.index.result.now
          (omega (arith, within, ap (λ (d : Lone). length d.words) c.self.view_is)) c.index.ensures
          ∙ ap (λ (d : Lone). slice_index d.words c.in-Some.index) c.self.view_is,
    )

pub returns-in-Some-clause-first : goal.returns-in-Some-clause-first
returns-in-Some-clause-first c = λ k low less sent. by k low less sent (cases_lt (bank_of r k) c.loop-bank.bank)
  where
    r : Replica
    r = c.args.self.now.member.replica

    at : IsAtBank c.args.self.now c.loop-bank.bank c.args.to c.word_index-first.result c.columns.result
    at = at_bank (goal.at.returns-in-Some-clause-first c).After-columns

    by : (k : ℕ) → c.args.from ≤ k → k < c.in-Some.index → IsLastSent c.args.self.now c.args.to k
        → (bank_of r k < c.loop-bank.bank) ⊎ (c.loop-bank.bank ≤ bank_of r k) → ⊥
    by k low less sent (inl before) = c.loop-bank.invariant k low before sent
    by k low less sent (inr later) =
        let some = c.in-Some.ensures.some in
        let here = found_there r c.loop-bank.bank c.args.to c.in-Some.index at.copy at.number
        (omega (arith, some.0, c.max.ensures, at.begins)) (omega (arith, some.1, at.begins, at.wide)) in
        let same : bank_of r k ≡ c.loop-bank.bank = omega (
          arith,
          later,
          here.1,
          bank_before r k c.in-Some.index (omega (arith, at.number)) (omega (arith, less)),
        ) in
        let there = only_there c.args.self.now c.loop-bank.bank c.args.to k at.kept sent same in
        sent.some (c.in-Some.ensures.first k (omega (arith, low, c.max.ensures, there.0, at.begins)) less)

pub loop-bank-preserved : goal.loop-bank-preserved
loop-bank-preserved c = λ k low less sent. by k low less sent (cases_lt (bank_of r k) c.loop-bank.bank)
  where
    r : Replica
    r = c.args.self.now.member.replica

    at : IsAtBank c.args.self.now c.loop-bank.bank c.args.to c.word_index-first.result c.columns.result
    at = at_bank (goal.at.loop-bank-preserved c).After-columns

    by : (k : ℕ) → c.args.from ≤ k → bank_of r k < c.loop-bank.bank + 1 → IsLastSent c.args.self.now c.args.to k
        → (bank_of r k < c.loop-bank.bank) ⊎ (c.loop-bank.bank ≤ bank_of r k) → ⊥
    by k low less sent (inl before) = c.loop-bank.invariant k low before sent
    by k low less sent (inr later) =
        let there = only_there c.args.self.now c.loop-bank.bank c.args.to k at.kept sent (omega (arith, less, later)) in
        sent.some (c.next_some.ensures.none c.in_default.is k (omega (arith, low, c.max.ensures, there.0, at.begins))
        (omega (arith, there.1, at.begins, at.wide)))

pub returns-clause-none : goal.returns-clause-none
returns-clause-none c = λ e k low sent.
    let kept = subst (λ (d : Lone). IsKept d.member.replica d.words) c.self.view_is c.self.invariant.kept in
    let number : me c.args.self.now.member.replica < c.args.self.now.member.replica.roster =
    subst (λ (d : Lone). me d.member.replica < d.member.replica.roster) c.self.view_is
    c.self.invariant.form.replica.number in
    c.loop-bank.invariant k low (omega (
      arith,
      bank_within c.args.self.now.member.replica k (omega (arith, number)) (omega (arith, sent.within, kept.whole)),
      c.loop-bank-test.false,
      c.shape-shape.ensures.banks,
    )) sent
