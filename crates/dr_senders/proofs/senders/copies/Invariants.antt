use Rattle.std.proofs.Common.{◌≡◌, ◌≤◌, All, List, ℕ, length, take}
use Rattle.dr_entry.specs.{Messages.IsMessage, declared.limits.TheConstants.MAX_MESSAGES}
use Rattle.dr_senders.specs.Senders.{taken_in}
use Rattle.dr_senders.proofs.senders.copies.Given as goal

abbrev pub invariant-loop-sender : goal.invariant-loop-sender
invariant-loop-sender g l = record {
  same : l.lists.items ≡ taken_in (take l.sender-index l.senders);
  few : All (λ (list : List (List ℕ)). length list ≤ MAX_MESSAGES) l.lists.items;
  fit : All (λ (list : List (List ℕ)). All IsMessage list) l.lists.items;
}
