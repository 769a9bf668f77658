use Rattle.std.proofs.Common.{◌≡◌, ℕ, ◌+◌, ◌<◌, ◌≤◌, true, not, slice_index, sym, ap, subst, ◌∙◌, arith}
use Rattle.std.proofs.lemmas.{Bool.{and_parts, not-true}, List.get_or-set_same}
use Rattle.dr_replica.specs.{Inside.replica_inside, Items.Held}
use Rattle.dr_replica.proofs.Exchanges.{front_after, received_after, items_kept}
use Rattle.dr_program.specs.Form.{HasForm}
use Rattle.dr_program.specs.Replica.{Replica, count, is_inside, is_wedged, least_seen, may_receive, received}
use Rattle.dr_program.proofs.{Keeps.{open_recv, received_form, received_received}, Replicas.{may_of, item_waits}}
use Rattle.dr_words.specs.declared.column.TheConstants.{RECEIVED_COLUMN}
use Rattle.dr_ring.specs.Slots.{IsReady, slot_of}
use Rattle.dr_replica.proofs.replica.Replica.receive.Goals as goal

pub show_items-requires-clause-recv : goal.show_items-requires-clause-recv
show_items-requires-clause-recv c =
    let r : Replica = replica_inside c.self.inside in
    let s : ℕ = c.args.sender in
    let within : s < r.roster = subst (λ (q : Replica). s < q.roster) (sym c.self.view_is) c.requires.sender in
    let may : may_receive r s ≡ true = may_of (λ (q : Replica). may_receive q s) r c.args.self.now
    c.self.view_is c.requires.may in
    let before = open_recv r s c.self.invariant.form
    (not-true (is_wedged r) (and_parts (not (is_wedged r)) _ may).0) within in
    let more : slice_index c.take.new.self.counts s ≡ count r s + 1 =
    ap (λ (h : Held). slice_index h.counts s) c.take.ensures
    ∙ get_or-set_same r.counts s (count r s + 1) 0 (omega (arith, within, c.self.invariant.form.counts)) in
    omega (arith, before, more)

pub show_items-requires-clause-received : goal.show_items-requires-clause-received
show_items-requires-clause-received c =
    front_after c.self.inside c.take.new.self c.args.sender c.taken-item.result c.self.invariant
    (subst (λ (r : Replica). c.args.sender < r.roster) (sym c.self.view_is) c.requires.sender) c.take.ensures

pub taken-item-requires-clause-ready : goal.taken-item-requires-clause-ready
taken-item-requires-clause-ready c =
    let r : Replica = replica_inside c.self.inside in
    let may : may_receive r c.args.sender ≡ true = may_of (λ (q : Replica). may_receive q c.args.sender) r
    c.args.self.now c.self.view_is c.requires.may in
    subst (λ (k : ℕ). IsReady k (slot_of r.window r.rows c.args.sender k)) (sym c.count-count.ensures.count)
    (item_waits r c.args.sender may)

there : (c : goal.After-show_items)
    → replica_inside (record c.self.inside { rows = c.show_items.new.rows; items = c.take.new.self })
    ≡ received (replica_inside c.self.inside) c.args.sender
there c = received_after c.self.inside c.show_items.new.rows c.take.new.self c.args.sender c.count-count.result
    c.taken-item.result c.self.invariant
    (subst (λ (r : Replica). c.args.sender < r.roster) (sym c.self.view_is) c.requires.sender)
    c.count-count.ensures.count c.taken-item.ensures.item c.take.ensures c.show_items.ensures

may : (c : goal.After-show_items) → may_receive (replica_inside c.self.inside) c.args.sender ≡ true
may c = may_of (λ (r : Replica). may_receive r c.args.sender)
    (replica_inside c.self.inside) c.args.self.now c.self.view_is c.requires.may

pub invariant_of-self : goal.invariant_of-self
invariant_of-self c = items_kept c.self.inside c.show_items.new.rows c.take.new.self c.args.sender c.taken-item.result
    c.self.inside.sent c.self.invariant c.take.ensures c.self.invariant.sent
    (ap (λ (r : Replica). r.rows.me) (there c)) (subst HasForm
    (sym (there c)) (received_form (replica_inside c.self.inside) c.args.sender c.self.invariant.form (may c)))
    (subst (λ (r : Replica). least_seen (replica_inside c.self.inside) RECEIVED_COLUMN ≤ least_seen r RECEIVED_COLUMN)
    (sym (there c)) (received_received (replica_inside c.self.inside) c.args.sender c.self.invariant.form
    (ap is_inside c.self.view_is ∙ c.requires.inside) (may c)))

pub returns : goal.returns
returns c = there c ∙ ap (λ (r : Replica). received r c.args.sender) c.self.view_is
