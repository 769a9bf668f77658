use Rattle.std.proofs.Common.{◌≡◌, sym, ap, ◌∙◌, subst, arith, ℕ, ◌+◌, List, [], ◌∷◌, ◌++◌, Some, take, slice_get, get_or, set}
use Rattle.std.proofs.lemmas.{List.take_more, Option.slice_get-get_or}
use Rattle.dr_entry.specs.declared.entry.Entry.{Entry, TheVariants.{View, Msg}}
use Rattle.dr_history.specs.History.{GroupView}
use Rattle.dr_script.proofs.Ranges.{sender_small, index_small}
use Rattle.dr_quorum.{specs.Reading.IsRead, proofs.Walks.{read-View, read-Msg}}
use Rattle.dr_quorum.proofs.reading.note.Goals as goal

pub bounds-counts-from : goal.bounds-counts-from
bounds-counts-from c =
    let here : slice_get c.args.entries.now c.args.at ≡ Some (Msg c.in-Msg.sender c.in-Msg.index c.in-Msg.bytes) =
    slice_get-get_or c.args.entries.now c.args.at c.index-entries-at.result c.requires.at
    ∙ ap Some (sym c.index-entries-at.is ∙ c.in-Msg.is) in
    let stands = c.requires.stands _ here in
    omega (
      arith,
      c.from.ensures,
      sender_small c.args.script.now c.in-Msg.sender c.in-Msg.index c.in-Msg.bytes c.requires.ranges stands.2,
    )

pub overflow_add-counts : goal.overflow_add-counts
overflow_add-counts c =
    let here : slice_get c.args.entries.now c.args.at ≡ Some (Msg c.in-Msg.sender c.in-Msg.index c.in-Msg.bytes) =
    slice_get-get_or c.args.entries.now c.args.at c.index-entries-at.result c.requires.at
    ∙ ap Some (sym c.index-entries-at.is ∙ c.in-Msg.is) in
    let stands = c.requires.stands _ here in
    let small = sender_small c.args.script.now c.in-Msg.sender c.in-Msg.index c.in-Msg.bytes c.requires.ranges
    stands.2 in
    let counted = c.requires.read.counted c.in-Msg.sender small in
    omega (
      arith,
      index_small c.args.script.now c.in-Msg.sender c.in-Msg.index c.in-Msg.bytes c.requires.ranges stands.2,
      stands.1,
      counted,
      ap (λ (s : ℕ). get_or c.args.counts.now s 0) c.from.ensures,
    )

pub bounds-counts-from-in-Msg : goal.bounds-counts-from-in-Msg
bounds-counts-from-in-Msg c =
    let here : slice_get c.args.entries.now c.args.at ≡ Some (Msg c.in-Msg.sender c.in-Msg.index c.in-Msg.bytes) =
    slice_get-get_or c.args.entries.now c.args.at c.index-entries-at.result c.requires.at
    ∙ ap Some (sym c.index-entries-at.is ∙ c.in-Msg.is) in
    let stands = c.requires.stands _ here in
    omega (
      arith,
      c.from.ensures,
      sender_small c.args.script.now c.in-Msg.sender c.in-Msg.index c.in-Msg.bytes c.requires.ranges stands.2,
    )

pub returns-in-View : goal.returns-in-View
returns-in-View c =
    let more : take (c.args.at + 1) c.args.entries.now
    ≡ take c.args.at c.args.entries.now ++ View c.in-View.age c.in-View.number c.in-View.members ∷ [] =
    take_more c.args.entries.now c.args.at c.index-entries-at.result c.requires.at
    ∙ ap (λ (e : Entry). take c.args.at c.args.entries.now ++ e ∷ []) (sym c.index-entries-at.is ∙ c.in-View.is) in
    subst (λ (es : List Entry). IsRead es (Some c.new.result) c.args.counts.now) (sym more)
    (subst (λ (v : GroupView). IsRead (take c.args.at c.args.entries.now
    ++ View c.in-View.age c.in-View.number c.in-View.members ∷ []) (Some v) c.args.counts.now) (sym c.new.ensures)
    (read-View (take c.args.at c.args.entries.now) c.args.view.now c.args.counts.now c.in-View.age
    c.in-View.number c.in-View.members c.requires.read))

pub returns-in-Msg : goal.returns-in-Msg
returns-in-Msg c =
    let here : slice_get c.args.entries.now c.args.at ≡ Some (Msg c.in-Msg.sender c.in-Msg.index c.in-Msg.bytes) =
    slice_get-get_or c.args.entries.now c.args.at c.index-entries-at.result c.requires.at
    ∙ ap Some (sym c.index-entries-at.is ∙ c.in-Msg.is) in
    let stands = c.requires.stands _ here in
    let small = sender_small c.args.script.now c.in-Msg.sender c.in-Msg.index c.in-Msg.bytes c.requires.ranges
    stands.2 in
    let more : take (c.args.at + 1) c.args.entries.now
    ≡ take c.args.at c.args.entries.now ++ Msg c.in-Msg.sender c.in-Msg.index c.in-Msg.bytes ∷ [] =
    take_more c.args.entries.now c.args.at c.index-entries-at.result c.requires.at
    ∙ ap (λ (e : Entry). take c.args.at c.args.entries.now ++ e ∷ []) (sym c.index-entries-at.is ∙ c.in-Msg.is) in
    subst (λ (es : List Entry). IsRead es c.args.view.now
    (set c.args.counts.now c.from.result (get_or c.args.counts.now c.from.result 0 + 1))) (sym more)
    (subst (λ (s : ℕ). IsRead (take c.args.at c.args.entries.now
    ++ Msg c.in-Msg.sender c.in-Msg.index c.in-Msg.bytes ∷ []) c.args.view.now
    (set c.args.counts.now s (get_or c.args.counts.now s 0 + 1))) (sym c.from.ensures)
    (read-Msg (take c.args.at c.args.entries.now) c.args.view.now c.args.counts.now c.in-Msg.sender
    c.in-Msg.index c.in-Msg.bytes c.requires.read small))
