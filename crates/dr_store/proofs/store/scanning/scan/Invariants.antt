use Rattle.std.{specs.Prelude.filter_map, proofs.Common.{◌≡◌, ◌++◌}}
use Rattle.dr_store.{specs.{Stock.found_at, Tables.listed}, proofs.Prefixes.IsFrom}
use Rattle.dr_store.proofs.store.scanning.scan.Given as goal

abbrev pub invariant-loop-key : goal.invariant-loop-key
invariant-loop-key l = (l.found.items ++ filter_map (found_at l.prefix l.version) (listed l.key-iterator)
    ≡ filter_map (found_at l.prefix l.version) (listed l.table.entries)) × IsFrom l.prefix l.key-iterator
