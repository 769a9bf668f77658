use Rattle.std.proofs.{Common.{◌<◌, arith, length, rules, sym, ap, ◌∙◌, Some}, lemmas.Option.slice_get-get_or}
use Rattle.dr_entry.proofs.Entries.{same_more}
use Rattle.dr_history.proofs.Restarts.{along_if_same}
use Rattle.dr_quorum.proofs.comparing.first_difference.Goals as goal

pub returns-then-not-is_same-clause-some : goal.returns-then-not-is_same-clause-some
returns-then-not-is_same-clause-some c =
    let in_one : c.loop-at.at < length c.args.one.now = omega (arith, c.loop-at-test.true, c.min-shorter.ensures) in
    let in_other : c.loop-at.at < length c.args.other.now = omega (arith, c.loop-at-test.true, c.min-shorter.ensures) in
    record {
      same = c.loop-at.invariant;
      one = c.index-one-at.result;
      other = c.index-other-at.result;
      in_one = slice_get-get_or c.args.one.now c.loop-at.at c.index-one-at.result in_one
          ∙ ap Some (sym c.index-one-at.is);
      in_other = slice_get-get_or c.args.other.now c.loop-at.at c.index-other-at.result in_other
          ∙ ap Some (sym c.index-other-at.is);
      apart = λ e. search rules;
    }

pub loop-at-preserved : goal.loop-at-preserved
loop-at-preserved c =
    same_more c.args.one.now c.args.other.now c.loop-at.at c.index-one-at.result c.index-other-at.result
    (omega (arith, c.loop-at-test.true, c.min-shorter.ensures))
    (omega (arith, c.loop-at-test.true, c.min-shorter.ensures))
    c.index-one-at.is c.index-other-at.is (search rules) c.loop-at.invariant

pub returns-clause-none : goal.returns-clause-none
returns-clause-none c = along_if_same c.args.one.now c.args.other.now c.loop-at.at
    (omega (arith, c.loop-at-test.false, c.min-shorter.ensures)) c.loop-at.invariant
