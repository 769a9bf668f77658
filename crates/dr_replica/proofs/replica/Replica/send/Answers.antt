use Rattle.std.proofs.Common.{◌≡◌, sym, subst, ◌∙◌, ap, ℕ, length, ◌<◌, not, nat_lt, arith}
use Rattle.std.proofs.lemmas.Bool.{and_parts, ltb-true}
use Rattle.dr_entry.specs.declared.{end.SentItem.TheVariants.Index, entry.Item.{Item, TheVariants.Text}}
use Rattle.dr_program.{specs.{Form.HasForm, Replica.{is_wedged, next_index, put}}, proofs.Keeps.index_small}
use Rattle.dr_form.{specs.Puts.MayPut, proofs.Keeps.{message_to_send, sending}}
use Rattle.dr_replica.proofs.Exchanges.{message_read}
use Rattle.dr_replica.proofs.replica.Replica.send.Goals as goal

pub overflow_cast-index : goal.overflow_cast-index
overflow_cast-index c = omega (
  arith,
  c.next_index-index.ensures,
  index_small c.args.self.now (subst HasForm c.self.view_is c.self.invariant.form) c.requires.may,
)

pub put-requires-clause-may : goal.put-requires-clause-may
put-requires-clause-may c = λ form.
    let now = c.args.self.now in
    let left : next_index now < length now.messages = ltb-true (next_index now) (length now.messages)
    (and_parts (nat_lt (next_index now) (length now.messages)) _
    (and_parts (not (is_wedged now)) _ c.requires.may).1).0 in
    let read : Text c.copy-message.result ≡ message_to_send now =
    message_read c.self.inside now c.next_index-index.result c.index.result.now c.copy-message.result
    c.self.view_is left c.next_index-index.ensures c.index.ensures c.copy-message.ensures in
    subst (λ (item : Item). MayPut now (Index c.next_index-index.result) item) (sym read)
    (subst (λ (i : ℕ). MayPut now (Index i) (message_to_send now)) (sym c.next_index-index.ensures)
    (sending now form c.requires.may))

pub returns : goal.returns
returns c =
    let now = c.args.self.now in
    let left : next_index now < length now.messages = ltb-true (next_index now) (length now.messages)
    (and_parts (nat_lt (next_index now) (length now.messages)) _
    (and_parts (not (is_wedged now)) _ c.requires.may).1).0 in
    let read : Text c.copy-message.result ≡ message_to_send now =
    message_read c.self.inside now c.next_index-index.result c.index.result.now c.copy-message.result
    c.self.view_is left c.next_index-index.ensures c.index.ensures c.copy-message.ensures in
    c.put.ensures ∙ ap (λ (item : Item). put now (Index c.next_index-index.result) item) read
    ∙ ap (λ (i : ℕ). put now (Index i) (message_to_send now)) c.next_index-index.ensures
