use Rattle.std.proofs.Common.{◌≡◌, ◌+◌, ◌-◌, ◌≤◌, ◌∙◌, sym, ap, subst, arith, [], ℕ, List, length, take, drop, get_or, length-take}
use Rattle.std.proofs.lemmas.List.{take_all, take_more}
use Rattle.dr_disk.specs.Calls as calls
use Rattle.dr_disk.specs.{Crashed.{IsFilled, IsReplayed}, Memory.KeptState, Ranges.{pend, pend_all, settled}}
use Rattle.dr_disk.specs.{Steps.{call_of, calls_of, text_length}, declared.kept.Step.{Step, TheVariants.Write}}
use Rattle.dr_disk.proofs.Filling.{IsReplayedTo, bytes_within, none_replayed, one_more_replayed}
use Rattle.dr_disk.proofs.kept.Kept.crashed.Goals as goal

pub loop-step-init : goal.loop-step-init
loop-step-init c =
    let steps : List Step = c.deref-step-items.result.now in
    let text = c.self.inside.text.items in
    subst (λ (l : List ℕ). IsReplayedTo c.args.fill steps text 0 0 l c.new-image.result.items)
    (sym c.new-now.ensures.items) (subst (λ (l : List ℕ). IsReplayedTo c.args.fill steps text 0 0 [] l)
    (sym c.new-image.ensures.items) (none_replayed c.args.fill steps text))

-- the bytes of the next step are there
within : (c : goal.After-deref) → c.loop-step.from + c.count_of-count.result ≤ length c.deref.result.now
within c =
    let steps : List Step = c.deref-step-items.result.now in
    let text = c.self.inside.text.items in
    let k : ℕ = c.loop-step.step-index in
    let s : Step = get_or steps k (Write 0 0) in
    let fits = bytes_within steps text c.loop-step.from k s
    (c.self.invariant.whole ∙ ap text_length (sym c.deref-step-items.ensures.value)) c.loop-step.invariant.ends
    (take_more steps k (Write 0 0) c.loop-step-test.true) in
    omega (arith, fits, c.count_of-count.ensures, ap length c.deref.ensures.value)

pub overflow_add-from : goal.overflow_add-from
overflow_add-from c = omega (arith, within c, c.deref.type_inv.0)

pub slice_bounds-replay-end : goal.slice_bounds-replay-end
slice_bounds-replay-end c =
    omega (arith, within c, length-take (c.loop-step.from + c.count_of-count.result) c.deref.result.now)

pub loop-step-preserved : goal.loop-step-preserved
loop-step-preserved c =
    let steps : List Step = c.deref-step-items.result.now in
    let text = c.self.inside.text.items in
    let k : ℕ = c.loop-step.step-index in
    let s : Step = get_or steps k (Write 0 0) in
    subst (λ (n : ℕ). IsReplayedTo c.args.fill steps text (c.loop-step.from + n) (k + 1) c.replay.new.now.items
    c.replay.new.image.items) (sym c.count_of-count.ensures)
    (one_more_replayed c.args.fill steps text c.loop-step.from k s c.loop-step.now.items c.loop-step.image.items
    c.replay.new.now.items c.replay.new.image.items c.loop-step.invariant
    (take_more steps k (Write 0 0) c.loop-step-test.true) (λ p is.
    subst (λ (n : ℕ). IsReplayed c.args.fill (pend p (call_of s (take n (drop c.loop-step.from text))))
    c.replay.new.now.items c.replay.new.image.items) (omega (arith, c.count_of-count.ensures))
    (subst (λ (l : List ℕ). IsReplayed c.args.fill
    (pend p (call_of s (take (c.loop-step.from + c.count_of-count.result - c.loop-step.from)
    (drop c.loop-step.from l)))) c.replay.new.now.items c.replay.new.image.items) c.deref.ensures.value
    (c.in_ok-replay.ensures p is))))

pub returns : goal.returns
returns c =
    let steps : List Step = c.deref-step-items.result.now in
    let text = c.self.inside.text.items in
    let all : take c.loop-step.step-index steps ≡ steps =
    take_all c.loop-step.step-index steps (omega (arith, c.loop-step-test.false)) in
    let made : calls_of (take c.loop-step.step-index steps) text ≡ c.args.self.now.calls =
    ap (λ (l : List Step). calls_of l text) (all ∙ c.deref-step-items.ensures.value)
    ∙ ap (λ (v : KeptState). v.calls) c.self.view_is in
    subst (λ (l : List calls.Call). IsFilled c.args.fill (pend_all (settled []) l) c.loop-step.image.items) made
    c.loop-step.invariant.done.filled
