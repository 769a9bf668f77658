use Rattle.std.proofs.Common.{◌≡◌, ◌≤◌, rules, sym, ap, subst, ◌∙◌, le_trans, ℕ, slice_index}
use Rattle.dr_program.specs.{Form.HasForm, Replica.{Replica, is_inside, least_seen, put}}
use Rattle.dr_ring.specs.Slots.{IsFree}
use Rattle.dr_replica.{specs.Inside.replica_inside, proofs.replica.Replica.put.Goals.After-take}
use Rattle.dr_replica.proofs.Exchanges.{WasPut, items_kept, put_after, put_shows, room_left}
use Rattle.dr_form.{specs.Puts.MayPut, proofs.Keeps.{put_form, put_received}}
use Rattle.dr_words.specs.declared.column.TheConstants.{RECEIVED_COLUMN}
use Rattle.dr_replica.proofs.replica.Replica.put.Goals as goal

pub put-requires-clause-free : goal.put-requires-clause-free
put-requires-clause-free c =
    let may = subst (λ (r : Replica). HasForm r → MayPut r c.args.name c.args.item) (sym c.self.view_is)
    c.requires.may c.self.invariant.form in
    subst (λ (n : ℕ). IsFree c.self.inside.shape.window c.self.inside.rows c.self.inside.members n)
    (sym (c.count.ensures.count ∙ ap (λ (i : ℕ). slice_index c.self.inside.items.counts i) c.me-me.ensures.me))
    may.free

pub take-requires-clause-room : goal.take-requires-clause-room
take-requires-clause-room c =
    let may = subst (λ (r : Replica). HasForm r → MayPut r c.args.name c.args.item) (sym c.self.view_is)
    c.requires.may c.self.invariant.form in
    room_left c.self.inside c.me-me.result c.args.name c.args.item c.self.invariant may c.me-me.ensures.me

-- the item was put, and taken
was : (c : After-take) → WasPut c.self.inside c.me-me.result c.count.result c.args.item c.put.new.rows c.take.new.self
was c = record {
  me = c.me-me.ensures.me;
  count = c.count.ensures.count;
  rows = c.put.ensures.after;
  took = c.take.ensures;
}

pub show_items-requires-clause-recv : goal.show_items-requires-clause-recv
show_items-requires-clause-recv c =
    let may = subst (λ (r : Replica). HasForm r → MayPut r c.args.name c.args.item) (sym c.self.view_is)
    c.requires.may c.self.invariant.form in
    (put_shows c.self.inside c.me-me.result c.count.result c.args.name c.args.item c.put.new.rows
    c.take.new.self c.self.invariant may (was (goal.at.show_items-requires-clause-recv c).After-take)).0

pub show_items-requires-clause-received : goal.show_items-requires-clause-received
show_items-requires-clause-received c =
    let may = subst (λ (r : Replica). HasForm r → MayPut r c.args.name c.args.item) (sym c.self.view_is)
    c.requires.may c.self.invariant.form in
    (put_shows c.self.inside c.me-me.result c.count.result c.args.name c.args.item c.put.new.rows
    c.take.new.self c.self.invariant may (was (goal.at.show_items-requires-clause-received c).After-take)).1

pub invariant_of-self : goal.invariant_of-self
invariant_of-self c =
    let may = subst (λ (r : Replica). HasForm r → MayPut r c.args.name c.args.item) (sym c.self.view_is)
    c.requires.may c.self.invariant.form in
    let there : replica_inside (record c.self.inside
    { rows = c.show_items.new.rows; items = c.take.new.self; sent = c.push.new.self })
    ≡ put (replica_inside c.self.inside) c.args.name c.args.item =
    put_after c.self.inside c.show_items.new.rows c.me-me.result c.count.result c.args.name c.args.item
    c.put.new.rows c.take.new.self c.push.new.self.items c.self.invariant may
    (was (goal.at.invariant_of-self c).After-take) (search rules) c.show_items.ensures in
    items_kept c.self.inside c.show_items.new.rows c.take.new.self c.me-me.result c.args.item
    c.push.new.self c.self.invariant c.take.ensures
    (le_trans c.self.invariant.sent c.push.ensures.capacity) (ap (λ (r : Replica). r.rows.me) there) (subst HasForm
    (sym there) (put_form (replica_inside c.self.inside) c.args.name c.args.item c.self.invariant.form may))
    (subst (λ (r : Replica). least_seen (replica_inside c.self.inside) RECEIVED_COLUMN ≤ least_seen r RECEIVED_COLUMN)
    (sym there) (put_received (replica_inside c.self.inside) c.args.name c.args.item c.self.invariant.form
    (ap is_inside c.self.view_is ∙ c.requires.inside) may))
