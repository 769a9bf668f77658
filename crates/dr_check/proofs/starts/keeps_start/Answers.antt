use Rattle.std.proofs.Common.{◌≡◌, ◌+◌, ◌≤◌, Some, take, slice_get, sym, ap, ◌∙◌, subst, arith, refl, List, length}
use Rattle.std.proofs.lemmas.List.{take_all}
use Rattle.dr_entry.{specs.declared.entry.Entry.Entry, proofs.ListPlaces.{below_more, read_at}}
use Rattle.dr_history.specs.History.{view_of}
use Rattle.dr_check.{specs.{Clauses.MayStart, Past.IsPast}, proofs.Loops.below_all}
use Rattle.dr_check.proofs.starts.keeps_start.Goals as goal

pub loop-at-preserved : goal.loop-at-preserved
loop-at-preserved c =
    let start = c.args.age.now.start in
    let entries = c.as_slice-entries.result.now in
    let here : slice_get start c.loop-at.at ≡ Some c.index-entries-at.result =
    subst (λ (es : List Entry). slice_get es c.loop-at.at ≡ Some c.index-entries-at.result) c.as_slice-entries.ensures
    (read_at entries c.loop-at.at c.index-entries-at.result c.loop-at-test.true c.index-entries-at.is) in (
      subst (λ (es : List Entry). IsPast (take (c.loop-at.at + 1) es) c.note.new.self) c.as_slice-entries.ensures
          c.note.ensures,
      below_more (λ i e. MayStart c.args.script.now (take i start) e) start c.loop-at.at (c.loop-at.at + 1)
          c.index-entries-at.result refl here
          ((c.may_start.ensures (take c.loop-at.at start) c.loop-at.invariant.0).0 c.if-not-may_start.false)
          c.loop-at.invariant.1,
    )

pub returns : goal.returns
returns c =
    let start = c.args.age.now.start in
    let past : length start ≤ c.loop-at.at =
    omega (arith, c.loop-at-test.false, ap length c.as_slice-entries.ensures) in
    let whole = take_all c.loop-at.at start past in
    let view = c.loop-at.invariant.0.in_view ∙ ap view_of whole in (
      λ t. record {
        entries = below_all (λ i e. MayStart c.args.script.now (take i start) e) start c.loop-at.at past
            c.loop-at.invariant.1;
        later = λ v is. c.is_later.ensures.0 t v (view ∙ is);
      },
      λ keeps. c.is_later.ensures.1 (λ v is. keeps.later v (sym view ∙ is)),
    )
