use Rattle.std.specs.{Prelude.{Option, Some, Vec}, declared.alloc.Global.Global}
use Rattle.std.proofs.Common.{◌≡◌, ◌+◌, ◌-◌, sym, ap, ◌∙◌, subst, List, [], ◌∷◌, ℕ, length, map, replicate, arith}
use Rattle.std.proofs.lemmas.List.{length-replicate}
use Rattle.dr_history.specs.Members.{members_of}
use Rattle.dr_machine.specs.Group.{banks, roster}
use Rattle.dr_member.specs.Deeds.{table_size}
use Rattle.dr_words.specs.Layout.{words_of}
use Rattle.dr_program.specs.{Presence.present_at, Running.Running}
use Rattle.atomic_table.specs.Seated.{TableId}
use Rattle.dr_table.{specs.{Cards.opened, Rule.{HasSuchProgram, IsDealt}}, proofs.Posting.free}
use Rattle.dr_table.proofs.Hands.{dealt_few, dealt_form, dealt_kept, dealt_late, dealt_of, dealt_opened, dealt_reached, dealt_size, dealt_small, dealt_some, dealt_words}
use Rattle.dr_table.proofs.board.deal.Goals as goal
use mathlib.Core.Option.{some}

pub first_present-first-requires : goal.first_present-first-requires
first_present-first-requires c =
    let (k, r, there) = dealt_some c.args.members.items c.requires.dealt in
    (k, r, ap (λ l. present_at l k) c.deref.ensures.value ∙ there)

pub most_room-requires : goal.most_room-requires
most_room-requires c = λ m r there. dealt_form c.args.members.items c.requires.dealt m r
    (ap (λ l. present_at l m) (sym c.deref-2.ensures.value) ∙ there)

pub overflow_add-table_words : goal.overflow_add-table_words
overflow_add-table_words c =
    let items = c.args.members.items in
    let d = c.requires.dealt in
    omega (
      arith,
      dealt_size items c.deref.result.now d c.first_present-first.result.now c.table_words.result
          c.deref.ensures.value c.first_present-first.ensures c.table_words.ensures,
      dealt_small items d,
      dealt_few items d,
      d.is.most_members,
      c.len-places.ensures,
      c.args.members.ok,
    )

pub new-requires : goal.new-requires
new-requires c =
    let items = c.args.members.items in
    let d = c.requires.dealt in
    subst (λ (ws : List ℕ). HasSuchProgram items ws (map some c.in_ok-slots.slots.items) (free items ∷ []))
    (sym (c.as_slice.ensures.value ∙ c.in_ok-words.ensures.items_if_clones_equal (λ y e. e)
    ∙ ap (λ n. replicate (c.table_words.result + n) 0) (c.len-places.ensures ∙ c.args.members.ok.0)))
    (dealt_kept items d c.table_words.result c.most_room.result c.in_ok-slots.slots.items
    (dealt_size items c.deref.result.now d c.first_present-first.result.now c.table_words.result
    c.deref.ensures.value c.first_present-first.ensures c.table_words.ensures) (record {
      count = c.in_ok-slots.ensures.count ∙ c.count.ensures.value ∙ ap (λ mask. length (members_of mask))
          (dealt_late items c.deref.result.now d c.first_present-first.result.now c.late.result c.deref.ensures.value
          c.first_present-first.ensures c.late.ensures);
      blank = c.in_ok-slots.ensures.blank;
      room = λ m r there. c.most_room.ensures m r (ap (λ l. present_at l m) c.deref-2.ensures.value ∙ there);
    }))

-- the board has the words of the table, and one for each place
sized : (items list : List (Option Running))
    (d : IsDealt items) (first : Running) (ws : List ℕ) (count places words : ℕ) → ws ≡ replicate (count + places) 0
    → list ≡ items → (k : ℕ) × (present_at list k ≡ Some first) → count ≡ table_size first → places ≡ length items
    → words ≡ length ws → words ≡ words_of (roster d.group) d.group.window (banks d.group) + roster d.group
sized items list d first ws count places words is same there counts many long = omega (
  arith,
  dealt_size items list d first count same there counts,
  dealt_few items d,
  many,
  long,
  ap length is,
  length-replicate {A = ℕ} (count + places) 0,
)

pub invariant_of-result : goal.invariant_of-result
invariant_of-result c =
    let items = c.args.members.items in
    let d = c.requires.dealt in
    let size = sized items c.deref.result.now d c.first_present-first.result.now c.as_slice.result.now
    c.table_words.result c.len-places.result c.in-Ok.table.shared.table_id.words
    (c.as_slice.ensures.value ∙ c.in_ok-words.ensures.items_if_clones_equal (λ y e. e)) c.deref.ensures.value
    c.first_present-first.ensures c.table_words.ensures (c.len-places.ensures ∙ c.args.members.ok.0)
    c.in-Ok.ensures.ok.0 in
    λ k r there. dealt_of items d k r
    (ap (λ (v : Vec (Option Running) Global). present_at v.items k) (sym c.in-Ok.ensures.ok.5) ∙ there) ∙ sym size

pub invariant_of-result-2 : goal.invariant_of-result-2
invariant_of-result-2 c =
    let items = c.args.members.items in
    let d = c.requires.dealt in
    let size = sized items c.deref.result.now d c.first_present-first.result.now c.as_slice.result.now
    c.table_words.result c.len-places.result c.in-Ok.table.shared.table_id.words
    (c.as_slice.ensures.value ∙ c.in_ok-words.ensures.items_if_clones_equal (λ y e. e)) c.deref.ensures.value
    c.first_present-first.ensures c.table_words.ensures (c.len-places.ensures ∙ c.args.members.ok.0)
    c.in-Ok.ensures.ok.0 in
    let words = ap (λ (t : TableId). t.words) c.in-Ok.ensures.ok.2 ∙ size in record {
      known = c.in-Ok.ensures.ok.4;
      reached = dealt_reached items d;
      of = λ k r there. dealt_of items d k r there ∙ sym words;
      words = omega (arith, words, dealt_words items d);
      room = omega (arith, c.args.members.ok, c.len-places.ensures);
    }

pub returns-clause-opened : goal.returns-clause-opened
returns-clause-opened c = λ d.
    let items = c.args.members.items in
    let size = sized items c.deref.result.now d c.first_present-first.result.now c.as_slice.result.now
    c.table_words.result c.len-places.result c.in-Ok.table.shared.table_id.words
    (c.as_slice.ensures.value ∙ c.in_ok-words.ensures.items_if_clones_equal (λ y e. e)) c.deref.ensures.value
    c.first_present-first.ensures c.table_words.ensures (c.len-places.ensures ∙ c.args.members.ok.0)
    c.in-Ok.ensures.ok.0 in
    ap (λ (v : Vec (Option Running) Global). opened (record {
      table = record { id = c.in-Ok.table.shared.table_id; places = length v.items };
      members = v.items;
    })) c.in-Ok.ensures.ok.5 ∙ dealt_opened items d (c.in-Ok.table.shared.table_id.words - length items)
    (omega (arith, size, dealt_few items d))
