use Rattle.std.proofs.Common.{◌≡◌, take, filter_map, option_and_then}
use Rattle.dr_history.specs.History.{sent_of, entry_of, item_at}
use Rattle.dr_oracle.proofs.delivery.merge.Given as goal

abbrev pub invariant-loop-place : goal.invariant-loop-place
invariant-loop-place l = l.entries.items ≡ filter_map (λ p. option_and_then
    (λ t. entry_of l.opening t.0 t.1) (item_at (sent_of l.ends) l.view p)) (take l.place-index l.place-items)
