use Rattle.std.specs.{Int.div_ceil, List.range_with_len}
use Rattle.std.proofs.Common.{◌≡◌, ◌+◌, ◌∷◌, ℕ, List, length, map, ap, sym, subst, ◌∙◌, rules, arith}
use Rattle.dr_entry.{specs.declared.entry.Item.{Item, TheVariants.Text}, proofs.Fields.IsItem}
use Rattle.dr_ring.specs.{Pieces.{null_mark, body_piece}, Slots.{with_item, with_pieces}}
use Rattle.dr_ring.proofs.Puts.{HasRoom, room_before, head_set, body_set, body_rises, put_arrives, put_grows, put_in_form}
use Rattle.dr_ring.proofs.ring.put.Goals as goal

-- ---- a null

null_room : (c : goal.After-set_own) → HasRoom c.args.shape.now.window c.args.rows.now c.args.k
null_room c = room_before c.args.shape.now.window c.args.rows.now c.set_own.new.self c.args.k
    c.head_column.result c.pack_ring.result (search rules)
    (search rules) c.set_own.ensures.after c.set_own.ensures.form

null_item : (c : goal.After-set_own) → IsItem c.args.item.now
null_item c = subst IsItem (sym c.in-Null.is) tt

pub returns-in-Null-clause-after : goal.returns-in-Null-clause-after
returns-in-Null-clause-after c =
    head_set c.args.shape.now.window c.args.rows.now c.set_own.new.self c.args.k c.args.shape.now.members
    c.slot_at-slot.result c.head_column.result c.pack_ring.result null_mark
    (null_room c) c.set_own.ensures.after c.requires.shape.members c.slot_at-slot.ensures.value
    c.head_column.ensures.value c.pack_ring.ensures.value
    ∙ ap (λ (x : Item). with_item c.args.shape.now.window c.args.rows.now c.args.k x) (sym c.in-Null.is)

pub returns-in-Null-clause-arrives : goal.returns-in-Null-clause-arrives
returns-in-Null-clause-arrives c =
    put_arrives c.args.shape.now.window c.args.rows.now c.set_own.new.self c.args.k c.args.item.now
    (null_room c) (null_item c) (returns-in-Null-clause-after c)

pub returns-in-Null-clause-in_form : goal.returns-in-Null-clause-in_form
returns-in-Null-clause-in_form c =
    put_in_form c.args.shape.now.window c.args.rows.now c.set_own.new.self c.args.k c.args.item.now
    (null_room c) (null_item c) (returns-in-Null-clause-after c) c.requires.form

-- ---- a message

pub loop-part-init : goal.loop-part-init
loop-part-init c =
    let room = room_before c.args.shape.now.window c.args.rows.now c.set_own-in-Text.new.self c.args.k
    c.head_column-in-Text.result c.pack_ring-in-Text.result (search rules)
    (search rules) c.set_own-in-Text.ensures.after c.set_own-in-Text.ensures.form in
    record {
      after = head_set c.args.shape.now.window c.args.rows.now c.set_own-in-Text.new.self c.args.k
          c.args.shape.now.members c.slot_at-slot.result c.head_column-in-Text.result
          c.pack_ring-in-Text.result (length c.bytes-bytes.result.now)
          room c.set_own-in-Text.ensures.after c.requires.shape.members c.slot_at-slot.ensures.value
          c.head_column-in-Text.ensures.value c.pack_ring-in-Text.ensures.value;
      form = c.set_own-in-Text.ensures.form;
      bytes = λ i. omega (arith, c.type_inv.bytes i);
    }

pub set_own-requires-in-loop-part-clause-grown : goal.set_own-requires-in-loop-part-clause-grown
set_own-requires-in-loop-part-clause-grown c =
    let room = room_before c.args.shape.now.window c.args.rows.now c.set_own-in-Text.new.self c.args.k
    c.head_column-in-Text.result c.pack_ring-in-Text.result (search rules)
    (search rules) c.set_own-in-Text.ensures.after c.set_own-in-Text.ensures.form in
    body_rises c.args.shape.now.window c.args.rows.now c.loop-part.rows c.args.k c.args.shape.now.members
    c.slot_at-slot.result (c.body_column-body.result + c.loop-part.part) c.pack_ring-in-loop-part.result c.loop-part.part
    c.bytes-bytes.result.now room (omega (arith, ap length c.bytes-bytes.ensures.same)) c.requires.earlier
    c.loop-part.invariant.after c.requires.shape.members c.slot_at-slot.ensures.value
    (omega (arith, c.body_column-body.ensures.value)) (search rules)

pub loop-part-preserved : goal.loop-part-preserved
loop-part-preserved c =
    let room = room_before c.args.shape.now.window c.args.rows.now c.set_own-in-Text.new.self c.args.k
    c.head_column-in-Text.result c.pack_ring-in-Text.result (search rules)
    (search rules) c.set_own-in-Text.ensures.after c.set_own-in-Text.ensures.form in
    record {
      after = body_set c.args.shape.now.window c.args.rows.now c.loop-part.rows
          c.set_own-in-loop-part.new.self c.args.k c.args.shape.now.members c.slot_at-slot.result
          (c.body_column-body.result + c.loop-part.part) c.pack_ring-in-loop-part.result c.loop-part.part c.bytes-bytes.result.now
          room (omega (arith, ap length c.bytes-bytes.ensures.same)) c.loop-part.invariant.after
          c.set_own-in-loop-part.ensures.after c.requires.shape.members c.slot_at-slot.ensures.value
          (omega (arith, c.body_column-body.ensures.value)) (search rules);
      form = c.set_own-in-loop-part.ensures.form;
      bytes = c.loop-part.invariant.bytes;
    }

text_room : (c : goal.After-loop-part) → HasRoom c.args.shape.now.window c.args.rows.now c.args.k
text_room c = room_before c.args.shape.now.window c.args.rows.now c.set_own-in-Text.new.self c.args.k
    c.head_column-in-Text.result c.pack_ring-in-Text.result (search rules)
    (search rules) c.set_own-in-Text.ensures.after c.set_own-in-Text.ensures.form

text_is : (c : goal.After-loop-part) → c.args.item.now ≡ Text c.bytes-bytes.result.now
text_is c = c.in-Text.is ∙ ap (λ (xs : List ℕ). Text xs) (sym c.bytes-bytes.ensures.same)

text_item : (c : goal.After-loop-part) → IsItem c.args.item.now
text_item c = subst IsItem (sym (text_is c))
    (omega (arith, ap length c.bytes-bytes.ensures.same), c.loop-part.invariant.bytes)

text_after : (c : goal.After-loop-part)
    → c.loop-part.rows ≡ with_item c.args.shape.now.window c.args.rows.now c.args.k c.args.item.now
text_after c =
    let all : c.loop-part.part ≡ div_ceil (length c.bytes-bytes.result.now) 4 =
    omega (arith, c.div_ceil-part-end.ensures) in
    c.loop-part.invariant.after ∙ ap (λ (n : ℕ). with_pieces c.args.shape.now.window c.args.rows.now c.args.k
    (length c.bytes-bytes.result.now ∷ map (body_piece c.bytes-bytes.result.now) (range_with_len 0 n))) all
    ∙ ap (λ (x : Item). with_item c.args.shape.now.window c.args.rows.now c.args.k x) (sym (text_is c))

pub returns-after-loop-part-clause-arrives : goal.returns-after-loop-part-clause-arrives
returns-after-loop-part-clause-arrives c =
    put_arrives c.args.shape.now.window c.args.rows.now c.loop-part.rows c.args.k c.args.item.now
    (text_room c) (text_item c) (text_after c)

pub returns-after-loop-part-clause-grown : goal.returns-after-loop-part-clause-grown
returns-after-loop-part-clause-grown c =
    put_grows c.args.shape.now.window c.args.rows.now c.loop-part.rows c.args.k c.args.item.now
    (text_room c) (text_item c) (text_after c) c.requires.earlier

pub returns-after-loop-part-clause-in_form : goal.returns-after-loop-part-clause-in_form
returns-after-loop-part-clause-in_form c =
    put_in_form c.args.shape.now.window c.args.rows.now c.loop-part.rows c.args.k c.args.item.now
    (text_room c) (text_item c) (text_after c) c.requires.form
