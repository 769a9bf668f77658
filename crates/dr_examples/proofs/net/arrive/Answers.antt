use Rattle.std.proofs.Common.{rules, subst, sym, ◌<◌, length, slice_index_or, slice_set}
use Rattle.dr_program.specs.declared.packet.Packet.{Packet}
use Rattle.dr_program_laws.{specs.Carried.IsCarried, proofs.Carried.carried_comes}
use Rattle.dr_examples.{specs.Led.over, proofs.Carrying.packet_place}
use Rattle.dr_examples.proofs.net.arrive.Goals.{then-not-lossy, else-not-lossy+else-nth-ne1}
use Rattle.dr_examples.proofs.net.arrive.Goals as goal

pub offset_bounds-words-packet : goal.offset_bounds-words-packet
offset_bounds-words-packet c =
    let within : c.loop-nth.nth < length c.args.packets.now = search rules in
    let below : (slice_index_or c.args.packets.now c.loop-nth.nth record { index = 0; word = 0 }).index
    < length c.loop-nth.words = packet_place c.args.words.now c.loop-nth.words c.args.packets.now c.loop-nth.nth
    (record { index = 0; word = 0 }) within c.requires.carried c.loop-nth.invariant in
    search rules

pub bounds-words-packet : goal.bounds-words-packet
bounds-words-packet c =
    let within : c.loop-nth.nth < length c.args.packets.now = search rules in
    packet_place c.args.words.now c.loop-nth.words c.args.packets.now c.loop-nth.nth
    (record { index = 0; word = 0 }) within c.requires.carried c.loop-nth.invariant

pub offset_bounds-words-packet-then-not-lossy : goal.offset_bounds-words-packet-then-not-lossy
offset_bounds-words-packet-then-not-lossy c =
    let within : c.loop-nth.nth < length c.args.packets.now = search rules in
    let below : (slice_index_or c.args.packets.now c.loop-nth.nth record { index = 0; word = 0 }).index
    < length c.loop-nth.words = packet_place c.args.words.now c.loop-nth.words c.args.packets.now c.loop-nth.nth
    (record { index = 0; word = 0 }) within c.requires.carried c.loop-nth.invariant in
    search rules

pub bounds-words-packet-then-not-lossy : goal.bounds-words-packet-then-not-lossy
bounds-words-packet-then-not-lossy c =
    let within : c.loop-nth.nth < length c.args.packets.now = search rules in
    packet_place c.args.words.now c.loop-nth.words c.args.packets.now c.loop-nth.nth
    (record { index = 0; word = 0 }) within c.requires.carried c.loop-nth.invariant

pub loop-nth-preserved : goal.loop-nth-preserved
loop-nth-preserved c g members letters net among is =
    let within : c.loop-nth.nth < length c.args.packets.now = search rules in
    let d : Packet = record { index = 0; word = 0 } in
    let old = c.loop-nth.invariant g members letters net among is in
    elim c.if-not-lossy.branch [
      | then-not-lossy w ↦ subst (λ words. IsCarried g (over members words letters) net) (sym w.words-is)
          (subst (λ z. IsCarried g (over members (slice_set c.loop-nth.words
          (slice_index_or c.args.packets.now c.loop-nth.nth d).index z) letters) net) (sym w.max.ensures)
          (carried_comes g (over members c.loop-nth.words letters) net (slice_index_or c.args.packets.now c.loop-nth.nth d)
          old (among c.loop-nth.nth d within)))
      | else-not-lossy+else-nth-ne1 w ↦
          subst (λ words. IsCarried g (over members words letters) net) (sym w.words-is) old
    ]
