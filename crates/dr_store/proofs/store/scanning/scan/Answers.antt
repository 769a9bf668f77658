use Rattle.std.specs.{List.starts_with, Prelude.{filter_map, nat_eq}}
use Rattle.std.proofs.Common.{◌++◌, ◌∷◌, [], ap, sym, subst, ◌∙◌}
use Rattle.dr_store.specs.{Stock.found_at, Tables.{KeyTable, listed}}
use Rattle.dr_store.proofs.Prefixes.{IsFrom, IsFrom-from_prefix, found_from, from_prefix, ranged, scan_ends, scan_skips, scan_takes}
use Rattle.dr_store.proofs.store.scanning.scan.Goals as goal

pub loop-key-init : goal.loop-key-init
loop-key-init c =
    let p = c.args.prefix.now in let v = c.args.version in let es = c.args.table.now.entries in
    let is = c.into_iter-key-iterator.ensures.into_iter_gives ∙ c.range-key-items.ensures.between tt
    ∙ ranged c.in_ok-first.first.items es ∙ ap (λ k. from_prefix k es) c.in_ok-first.ensures.items in (
      ap (λ xs. xs ++ filter_map (found_at p v) (listed c.into_iter-key-iterator.result)) c.new-found.ensures.items
          ∙ ap (λ (left : KeyTable). filter_map (found_at p v) (listed left)) is ∙ found_from p v es,
      subst (IsFrom p) (sym is) (IsFrom-from_prefix p es c.range-key-items.ensures.ordered),
    )

pub returns-then-not-starts_with : goal.returns-then-not-starts_with
returns-then-not-starts_with c =
    let p = c.args.prefix.now in
    scan_ends p c.args.version c.loop-key.found.items _ c.loop-key.key-iterator
    (c.in-Some.key.now, c.in-Some.changes.now) c.next.new.self c.in-Some.ensures.steps
    c.loop-key.invariant.0 c.loop-key.invariant.1 (ap (λ k. starts_with nat_eq k p) (sym c.as_slice.ensures.value)
    ∙ sym c.starts_with.ensures.value ∙ c.if-not-starts_with.true)

pub loop-key-preserved : goal.loop-key-preserved
loop-key-preserved c = scan_skips c.args.prefix.now c.args.version c.loop-key.found.items _ c.loop-key.key-iterator
    (c.in-Some.key.now, c.in-Some.changes.now) c.next.new.self c.in-Some.ensures.steps
    c.loop-key.invariant.0 c.loop-key.invariant.1 (sym c.in_default.ensures.value)

pub loop-key-preserved-in_ok-push : goal.loop-key-preserved-in_ok-push
loop-key-preserved-in_ok-push c =
    let p = c.args.prefix.now in let v = c.args.version in let k = c.in-Some.key.now.items in let value =
    c.in-Some-at.value.now in
    let took = scan_takes p v c.loop-key.found.items _ c.loop-key.key-iterator
    (c.in-Some.key.now, c.in-Some.changes.now) c.next.new.self c.in-Some.ensures.steps
    c.loop-key.invariant.0 c.loop-key.invariant.1
    value (ap (λ k. starts_with nat_eq k p) (sym c.as_slice.ensures.value) ∙ sym c.starts_with.ensures.value
    ∙ c.if-not-starts_with.false) (sym c.in-Some-at.ensures.value) in
    let pair = c.in_ok-owned.ensures ∙ ap (λ k. (k, value)) c.as_slice-in-Some-at.ensures.value in (
      ap (λ xs. xs ++ filter_map (found_at p v) (listed c.next.new.self)) (c.in_ok-push.ensures.items
          ∙ ap (λ x. c.loop-key.found.items ++ x ∷ []) pair) ∙ took.0,
      took.1,
    )
