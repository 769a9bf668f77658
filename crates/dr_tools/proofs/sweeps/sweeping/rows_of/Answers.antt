use Rattle.std.proofs.{Common.{◌≡◌, ◌+◌, ◌≤◌, ◌∙◌, All, ap, arith, rules, sym, subst}, lemmas.List.Elements.All-nil}
use Rattle.dr_ages.specs.Ages.{HaveSomebodyPrompt, all_with}
use Rattle.dr_progress.proofs.Besides.{counted_waits, waits_at_rest, waits_both}
use Rattle.dr_script.specs.declared.script.Script.{Script}
use Rattle.dr_tools.specs.{Outcomes.ComesTo, Rows.{IsTally, with_run}, Variants.{first_variant, variant, variants_in}}
use Rattle.dr_tools.{specs.declared.sweeps.rows.Row.Row, proofs.Counting.{counts_within, no_rows, tally_more}}
use Rattle.dr_tools.proofs.Variants.{variant_prompt}
use Rattle.dr_tools.proofs.sweeps.sweeping.rows_of.Goals as goal

pub loop-number-init : goal.loop-number-init
loop-number-init g c =
    let scripts = variant c.args.variants.now c.args.script.now in
    let from = first_variant c.args.variants.now in (
      subst (IsTally scripts c.args.late from 0) (sym c.new-rows.ensures.items) (no_rows scripts c.args.late from),
      subst (All (λ (r : Row). r.count ≤ 0)) (sym c.new-rows.ensures.items) (All-nil (λ (r : Row). r.count ≤ 0)),
      waits_at_rest c.count-2.new.self,
    )

pub outcome_of-requires-clause-some : goal.outcome_of-requires-clause-some
outcome_of-requires-clause-some g c κs h =
    subst (λ (s : Script). HaveSomebodyPrompt s (all_with c.args.late)) (sym c.in_ok-varied.ensures.script)
    (variant_prompt c.args.variants.now c.args.script.now c.loop-number.number (all_with c.args.late) c.requires.some)

pub loop-number-preserved : goal.loop-number-preserved
loop-number-preserved g c =
    let scripts = variant c.args.variants.now c.args.script.now in
    let from = first_variant c.args.variants.now in
    let late = c.args.late in
    let n = c.loop-number.number in
    let line = c.in_ok-line.line in
    let rows = c.loop-number.rows.items in
    let counted : c.count_run.new.rows.items ≡ with_run (from + n) line rows =
    c.in_ok-count_run.ensures ∙ ap (λ k. with_run k line rows) c.row_number.ensures in
    let comes : ComesTo (scripts n) late line =
    subst (λ (s : Script). ComesTo s late line) c.in_ok-varied.ensures.script c.in_ok-line.ensures.outcome in (
      subst (IsTally scripts late from (n + 1)) (sym counted)
          (tally_more scripts late from n line rows c.loop-number.invariant.0 comes),
      subst (All (λ (r : Row). r.count ≤ n + 1)) (sym counted)
          (counts_within (from + n) n line rows c.loop-number.invariant.1),
      waits_both c.count-2.new.self c.loop-number.progress c.outcome_of.new.progress c.loop-number.invariant.2
          c.outcome_of.ensures.waits,
    )

pub returns-clause-rows : goal.returns-clause-rows
returns-clause-rows g c =
    let all : c.loop-number.number ≡ variants_in c.args.variants.now =
    omega (arith, c.loop-number-test.false, c.loop-number.auto.number-end, c.count-number-end.ensures) in
    subst (λ n. IsTally (variant c.args.variants.now c.args.script.now) c.args.late
    (first_variant c.args.variants.now) n c.loop-number.rows.items) all c.loop-number.invariant.0

pub returns-clause-waits : goal.returns-clause-waits
returns-clause-waits g c = waits_both c.args.progress.now c.count-2.new.self c.loop-number.progress
    (counted_waits c.args.progress.now c.count-2.new.self (variants_in c.args.variants.now) (search rules))
    c.loop-number.invariant.2
