use Rattle.std.proofs.{Common.{◌≡◌, arith, false, inl, inr, rules, string_bytes, subst, true}, lemmas.Bool.cases_lt}
use Rattle.dr_json.specs.Json.{script_json}
use Rattle.dr_progress.proofs.Besides.{counted_waits, waits_at_rest, waits_both}
use Rattle.dr_script.specs.declared.script.Script.{Script}
use Rattle.dr_tools.specs.{Outcomes.TextEndsSo, Shrinking.IsLess, Variants.{variant, variants_in}}
use Rattle.dr_tools.proofs.sweeps.shrinking.shrunk.Goals as goal

pub loop-number-init : goal.loop-number-init
loop-number-init g c = (λ n below. absurd (omega (arith, below)), waits_at_rest c.count-2.new.self)

pub loop-number-preserved : goal.loop-number-preserved
loop-number-preserved g c =
    let scripts = variant c.args.variants.now c.args.script.now in
    let n = c.loop-number.number in
    let not_so : TextEndsSo (script_json (scripts n)) c.args.late c.args.wanted.now false =
    subst (λ (s : Script). TextEndsSo (script_json s) c.args.late c.args.wanted.now false) c.in_ok-varied.ensures.script
    (subst (TextEndsSo (script_json c.in_ok-varied.varied) c.args.late c.args.wanted.now) (search rules)
    c.in_ok-ends_so.ensures.ends) in (
      λ m below. elim (cases_lt m n) [
        | inl old ↦ c.loop-number.invariant.0 m old
        | inr last ↦
            let same : n ≡ m = omega (arith, last, below) in
            subst (λ k. TextEndsSo (script_json (scripts k)) c.args.late c.args.wanted.now false) same not_so
      ],
      waits_both c.count-2.new.self c.loop-number.progress c.whole_ends_so.new.progress c.loop-number.invariant.1
          c.whole_ends_so.ensures.waits,
    )

pub returns-then-ends_so-clause-ends : goal.returns-then-ends_so-clause-ends
returns-then-ends_so-clause-ends g c =
    let so : TextEndsSo (script_json c.in_ok-varied.varied) c.args.late c.args.wanted.now true =
    subst (TextEndsSo (script_json c.in_ok-varied.varied) c.args.late c.args.wanted.now) c.if-ends_so.true
    c.in_ok-ends_so.ensures.ends in
    record {
      number = c.loop-number.number;
      below = omega (arith, c.loop-number-test.true, c.count-number-end.ensures);
      whole = subst (λ (s : Script). TextEndsSo (script_json s) c.args.late c.args.wanted.now true)
          c.in_ok-varied.ensures.script so;
      less = subst (λ (s : Script). IsLess c.args.least s c.args.late c.args.wanted.now (string_bytes c.in_ok-text.text))
          c.in_ok-varied.ensures.script c.in_ok-text.ensures.ends;
      first = c.loop-number.invariant.0;
    }

pub returns-clause-ends : goal.returns-clause-ends
returns-clause-ends g c n below = c.loop-number.invariant.0 n
    (omega (arith, below, c.loop-number-test.false, c.loop-number.auto.number-end, c.count-number-end.ensures))

pub returns-then-ends_so-clause-waits : goal.returns-then-ends_so-clause-waits
returns-then-ends_so-clause-waits g c = waits_both c.args.progress.now c.count-2.new.self c.less.new.progress
    (counted_waits c.args.progress.now c.count-2.new.self (variants_in c.args.variants.now) (search rules))
    (waits_both c.count-2.new.self c.loop-number.progress c.less.new.progress c.loop-number.invariant.1
    (waits_both c.loop-number.progress c.whole_ends_so.new.progress c.less.new.progress c.whole_ends_so.ensures.waits
    c.less.ensures.waits))

pub returns-clause-waits : goal.returns-clause-waits
returns-clause-waits g c = waits_both c.args.progress.now c.count-2.new.self c.loop-number.progress
    (counted_waits c.args.progress.now c.count-2.new.self (variants_in c.args.variants.now) (search rules))
    c.loop-number.invariant.1
