use Rattle.std.proofs.Common.{◌≡◌, ◌+◌, sym, subst, rules, ℕ, List, length, min}
use Rattle.dr_disk.specs.Calls as calls
use Rattle.dr_disk.specs.{Calls.written, Crashed.IsReplayed, Ranges.pend, Steps.call_of}
use Rattle.dr_disk.{specs.declared.kept.Step.TheVariants.Write, proofs.Filling.{replayed_write, write_of}}
use Rattle.dr_disk.proofs.crashed.replay.Goals as goal

pub returns-in_ok-reserve-in-Write : goal.returns-in_ok-reserve-in-Write
returns-in_ok-reserve-in-Write c p is =
    let bytes = c.args.bytes.now in
    let now = c.args.now.now.items in
    let image = c.args.image.now.items in
    let inside : ℕ = c.min-inside.result in
    let end : ℕ = c.in_ok-end-in-Write.end in
    let mid = c.lengthen.new.image.items in
    let new = c.cover.new.image.items in
    let step : c.args.step ≡ Write c.in-Write.at c.in-Write.count = search rules in
    let far : end ≡ c.in-Write.at + length bytes = search rules in
    let here : inside ≡ min (length now) c.in-Write.at = search rules in
    let text : c.put.new.bytes.items ≡ written now inside bytes = search rules in
    subst (λ (l : List ℕ). IsReplayed c.args.fill (pend p (call_of c.args.step bytes)) l new) (sym text)
    (subst (λ (k : calls.Call). IsReplayed c.args.fill (pend p k) (written now inside bytes) new)
    (sym (write_of c.args.step c.in-Write.at c.in-Write.count bytes step c.requires))
    (replayed_write c.args.fill p c.in-Write.at inside end bytes now image mid new is here far
    c.in_ok-lengthen-in-Write.ensures.long c.in_ok-lengthen-in-Write.ensures.kept
    c.in_ok-lengthen-in-Write.ensures.filled c.cover.ensures.long c.cover.ensures.kept c.cover.ensures.filled))
