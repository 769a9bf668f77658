use Rattle.std.{specs.Vec.with_items, proofs.Common.{◌≡◌, refl, sym, ap, ◌∙◌, subst, ℕ, inl, List, length, arith}}
use Rattle.std.proofs.lemmas.List.{with_items_is}
use Rattle.dr_machine.specs.{Acts.Guard, Events.step_of}
use Rattle.dr_program.specs.{Presence.with_present, Reading.letters_of, Replica.me, Steps.stored}
use Rattle.dr_program.proofs.Replicas.{place_at, stored_length}
use Rattle.dr_world.specs.{Held.{Held, its_group, its_world}, Inside.held_of, Posts.HasLists}
use Rattle.dr_world.specs.Steps.{IsReadyFor, may_come, stepped_with}
use Rattle.dr_world.proofs.Taking.{MayHappen, Took, happens_ready, holding, may_stand, may_still, nobody, refused, refused_event, took}
use Rattle.dr_world.proofs.world.World.step.Goals.{then-m-len-via-then-m-len, then-m-len-via-else-m-len+then-not-may_come}
use Rattle.dr_world.proofs.world.World.step.Goals as goal

-- an event that is refused can't come
cannot : (c : goal.Joined-then-m-len)
    → ¬ Guard (its_group (held_of c.self.inside)) (its_world (held_of c.self.inside)) c.args.event.now
cannot c = elim c.then-m-len.branch [
  | then-m-len-via-then-m-len w ↦
      nobody (held_of c.self.inside) c.args.event.now c.self.invariant.held (omega (arith, w.if-m-len.true))
  | then-m-len-via-else-m-len+then-not-may_come w ↦
      refused (held_of c.self.inside) c.args.event.now c.from-m.result w.index.result.now
      c.self.invariant.held (c.from-m.ensures ∙ c.member-number.ensures)
      (place_at c.self.inside.replicas.items c.from-m.result c.len.result w.index.result.now
      (omega arith) w.if-m-len.false w.index.ensures)
      (ap (λ o. may_come w.index.result.now o (step_of c.args.event.now)) (sym (c.letter-letter.ensures
      ∙ ap (letters_of c.self.inside.posts.letters) c.member-number.ensures))
      ∙ sym w.may_come.ensures ∙ w.if-not-may_come.true)
]

pub returns-then-m-len-clause-event : goal.returns-then-m-len-clause-event
returns-then-m-len-clause-event c =
    refused_event (held_of c.self.inside) c.args.self.now c.args.event.now c.self.view_is (cannot c)

pub returns-then-m-len-clause-done : goal.returns-then-m-len-clause-done
returns-then-m-len-clause-done c = (
  λ done. absurd (cc),
  λ can. absurd
      (subst (λ (v : Held). ¬ Guard (its_group v) (its_world v) c.args.event.now) c.self.view_is (cannot c) can),
)

pub unreachable-requires : goal.unreachable-requires
unreachable-requires c =
    may_stand (held_of c.self.inside) c.from-m.result c.len.result c.args.event.now c.index.result.now
    c.index_mut.result.now _ (omega arith) c.if-m-len.false c.index.ensures c.index_mut.ensures.value
    (sym c.may_come.ensures ∙ c.if-not-may_come.false) c.in_default.is

pub carry_out-requires : goal.carry_out-requires
carry_out-requires c =
    let comes = may_still (held_of c.self.inside) c.from-m.result c.len.result c.args.event.now c.index.result.now
    c.index_mut.result.now _ c.in-Some.replica c.self.invariant.held (c.from-m.ensures ∙ c.member-number.ensures)
    (omega arith) c.if-m-len.false c.index.ensures c.index_mut.ensures.value
    (c.letter-letter.ensures ∙ ap (letters_of c.self.inside.posts.letters) c.member-number.ensures)
    (sym c.may_come.ensures ∙ c.if-not-may_come.false) c.in-Some.is in
    subst (λ (t : List ℕ). IsReadyFor c.in-Some.replica t c.self.inside.posts (step_of c.args.event.now))
    (sym c.as_mut_slice.ensures.value)
    (happens_ready (held_of c.self.inside) c.args.event.now c.in-Some.replica c.self.inside.posts comes refl
    c.self.invariant.lists)

-- the event was taken
took_now : (c : goal.After-self-3-1) → Took c.args.self.now c.args.event.now (record {
  script = c.self.inside.script;
  start = c.self.inside.start;
  replicas = with_present c.self.inside.replicas.items c.from-m.result c.carry_out.new.replica;
  table = (with_items c.self.inside.table c.carry_out.new.table).items;
  letters = c.carry_out.new.posts.letters;
}) × HasLists (its_group (held_of c.self.inside))
    (with_present c.self.inside.replicas.items c.from-m.result c.carry_out.new.replica) c.carry_out.new.posts
took_now c =
    let h : Held = held_of c.self.inside in
    let comes : MayHappen h c.args.event.now c.in-Some.replica =
    may_still h c.from-m.result c.len.result c.args.event.now c.index.result.now
    c.index_mut.result.now _ c.in-Some.replica c.self.invariant.held (c.from-m.ensures ∙ c.member-number.ensures)
    (omega arith) c.if-m-len.false c.index.ensures c.index_mut.ensures.value
    (c.letter-letter.ensures ∙ ap (letters_of c.self.inside.posts.letters) c.member-number.ensures)
    (sym c.may_come.ensures ∙ c.if-not-may_come.false) c.in-Some.is in
    let stores : c.carry_out.new.table ≡ stored h.table c.in-Some.replica (step_of c.args.event.now) =
    c.carry_out.ensures.table ∙ ap (λ (t : List ℕ). stored t c.in-Some.replica (step_of c.args.event.now))
    c.as_mut_slice.ensures.value in
    let steps = c.carry_out.ensures.replica
    ∙ ap (λ (t : List ℕ). stepped_with (letters_of c.self.inside.posts.letters (me c.in-Some.replica)) t
    c.in-Some.replica (step_of c.args.event.now)) c.as_mut_slice.ensures.value in
    let cells = with_items_is c.self.inside.table c.carry_out.new.table
    (ap length c.carry_out.ensures.table ∙ stored_length c.as_mut_slice.result.now c.in-Some.replica
    (step_of c.args.event.now) ∙ c.as_mut_slice.ensures.len) in
    let both = took h c.args.event.now c.from-m.result c.in-Some.replica c.carry_out.new.replica
    c.carry_out.new.table c.self.inside.posts c.carry_out.new.posts comes
    (c.from-m.ensures ∙ c.member-number.ensures) refl c.self.invariant.lists steps stores
    c.carry_out.ensures.posts c.carry_out.ensures.form in (
      subst (λ (v : Held). Took v c.args.event.now (holding h c.from-m.result c.carry_out.new.replica
          (with_items c.self.inside.table c.carry_out.new.table).items c.carry_out.new.posts)) c.self.view_is
          (subst (λ (t : List ℕ). Took h c.args.event.now
          (holding h c.from-m.result c.carry_out.new.replica t c.carry_out.new.posts)) (sym cells) both.0),
      both.1,
    )

pub invariant_of-self : goal.invariant_of-self
invariant_of-self c = record { held = (took_now c).0.held; lists = (took_now c).1; first = c.self.invariant.first }

pub returns-clause-event : goal.returns-clause-event
returns-clause-event c = inl ((took_now c).0.guard, (took_now c).0.effect)

pub returns-clause-done : goal.returns-clause-done
returns-clause-done c = (λ done. (took_now c).0.guard, λ can. refl)

pub returns-clause-grown : goal.returns-clause-grown
returns-clause-grown c = (took_now c).0.grew
