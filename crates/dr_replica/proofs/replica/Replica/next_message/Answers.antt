use Rattle.std.proofs.Common.{◌≡◌, ◌∙◌, ap, ℕ, ◌<◌, List, [], length, get_or, not, nat_lt, arith}
use Rattle.std.proofs.lemmas.{Bool.{and_parts, ltb-true}, List.get_or_read}
use Rattle.dr_program.specs.Replica.{Replica, is_wedged, next_index}
use Rattle.dr_replica.proofs.replica.Replica.next_message.Goals as goal

pub returns : goal.returns
returns c =
    let now = c.args.self.now in
    let left : next_index now < length now.messages = ltb-true (next_index now) (length now.messages)
    (and_parts (nat_lt (next_index now) (length now.messages)) _
    (and_parts (not (is_wedged now)) _ c.requires).1).0 in
    let list : c.self.inside.messages.items ≡ now.messages = ap (λ (r : Replica). r.messages) c.self.view_is in
    get_or_read c.self.inside.messages.items c.next_index.result c.index.result.now
    (omega (arith, c.next_index.ensures, left, ap length list)) c.index.ensures []
    ∙ ap (λ (xs : List (List ℕ)). get_or xs c.next_index.result []) list
    ∙ ap (λ (j : ℕ). get_or now.messages j []) c.next_index.ensures
