use Rattle.std.proofs.{Common.{◌≤◌, arith, sym, ℕ, List, All, length, refl, subst}, lemmas.Grind.common_steps}
use Rattle.std.proofs.lemmas.{List.{take_all, Elements.All-more}, Option.{get_or_from_slice_get, slice_get_read}}
use Rattle.dr_entry.specs.declared.end.MemberEnd.{MemberEnd}
use Rattle.dr_oracle.proofs.agreement.all_told.Goals as goal

pub loop-end-preserved : goal.loop-end-preserved
loop-end-preserved c =
    let ends = c.args.ends.now in
    let i : ℕ = c.loop-end.end-index in
    let read = slice_get_read ends _ i c.end-item.result refl c.loop-end-test.true c.end-item.is in
    let at = get_or_from_slice_get ends i c.end-item.result c.end-item.result read in
    All-more (λ (e : MemberEnd). e.logged ≤ length e.history) ends i c.end-item.result
    c.loop-end-test.true c.loop-end.invariant
    (subst (λ (e : MemberEnd). e.logged ≤ length e.history) (sym at) (grind (arith, common_steps)))

pub returns : goal.returns
returns c = (
  λ _. subst (λ (ends : List MemberEnd). All (λ (e : MemberEnd). e.logged ≤ length e.history) ends)
      (take_all c.loop-end.end-index c.args.ends.now c.loop-end-test.false) c.loop-end.invariant,
  λ _. refl,
)
