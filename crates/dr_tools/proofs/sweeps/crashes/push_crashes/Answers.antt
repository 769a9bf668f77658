use Rattle.std.{specs.List.range_with_len, proofs.lemmas.List.{Elements.All-push, FromFn.map-range_with_len_more}}
use Rattle.std.proofs.Common.{◌∙◌, ◌++◌, ◌∷◌, [], All, ap, append_assoc, arith, map, sym, subst}
use Rattle.dr_script.specs.Ranges.{HasFaultRanges}
use Rattle.dr_tools.specs.Crashes.{crash_at}
use Rattle.dr_tools.proofs.sweeps.crashes.push_crashes.Goals as goal

pub loop-push-preserved : goal.loop-push-preserved
loop-push-preserved c =
    let crash = crash_at c.args.member c.args.script.now.turns c.args.behind in
    let old = c.args.crashes.now.items in
    let done = map crash (range_with_len 0 c.loop-push.push) in
    let one = c.crash_at.result in (
      c.in_ok-push.ensures.items ∙ ap (λ xs. xs ++ one ∷ []) c.loop-push.invariant.0
          ∙ append_assoc old done (one ∷ []) ∙ ap (λ x. old ++ (done ++ x ∷ [])) c.crash_at.ensures.crash
          ∙ ap (λ xs. old ++ xs) (sym (map-range_with_len_more crash 0 c.loop-push.push c.loop-push.push (omega arith))),
      subst (All (HasFaultRanges c.args.script.now)) (sym c.in_ok-push.ensures.items)
          (All-push (HasFaultRanges c.args.script.now) c.loop-push.crashes.items one c.loop-push.invariant.1
          c.crash_at.ensures.ranges),
    )
