use Rattle.std.{specs.Prelude.vec_capacity, proofs.lemmas.List.map-append}
use Rattle.std.proofs.Common.{rules, ◌≡◌, ◌+◌, ◌<◌, ℕ, List, ◌++◌, ◌∷◌, [], length, map, refl, sym, ap, subst, ◌∙◌, arith, None}
use Rattle.dr_entry.specs.{declared.entry.Entry.Entry, declared.record.Value.Value}
use Rattle.dr_history.specs.{Members.members_of, Order.messages_from}
use Rattle.dr_replica.specs.{History.Kept, Inside.replica_inside, Items.none_held, Lefts.left_of, Rests.merged_from}
use Rattle.dr_replica.proofs.Delivering.{taken_within}
use Rattle.dr_replica.proofs.Leaving.{AreLeft, AreTaken, ended_entries, ended_views, entered_inside, left_after, left_form, may_leave, spare_taken}
use Rattle.dr_trim.specs.Trims.{trims_by_rank}
use Rattle.dr_rows.specs.Words.{Words, with_own}
use Rattle.dr_suspect.specs.Suspicion.{trusting}
use Rattle.dr_words.specs.{Masks.{IsInRoster, next_members}, declared.column.TheConstants.LOGGED_COLUMN}
use Rattle.dr_program.{specs.Replica.LeftView, proofs.Replicas.entered_some}
use Rattle.dr_replica.proofs.replica.Replica.finish.Goals as goal

pub deliver_rest-requires-clause-room : goal.deliver_rest-requires-clause-room
deliver_rest-requires-clause-room c =
    let trims = c.from-rest.ensures.trims in let next = c.from-rest.ensures.next in
    rw (trims, next) (may_leave c.self.inside c.args.self.now c.unwrap-value.result c.self.view_is c.self.invariant
    c.unwrap-value.ensures c.requires.may).room

pub deliver_rest-requires-clause-taken : goal.deliver_rest-requires-clause-taken
deliver_rest-requires-clause-taken c =
    let may = may_leave c.self.inside c.args.self.now c.unwrap-value.result c.self.view_is c.self.invariant
    c.unwrap-value.ensures c.requires.may in
    let trims = c.from-rest.ensures.trims in
    rw trims (taken_within c.self.inside c.unwrap-value.result.trim c.self.invariant.members may.taken)

pub install-requires-clause-room : goal.install-requires-clause-room
install-requires-clause-room c =
    let may = may_leave c.self.inside c.args.self.now c.unwrap-value.result c.self.view_is c.self.invariant
    c.unwrap-value.ensures c.requires.may in
    let trims = c.from-rest.ensures.trims in let next = c.from-rest.ensures.next in
    subst (λ (h : Kept). length h.entries < h.room) (sym c.deliver_rest.ensures) (rw (trims, next) may.room)

pub keep-requires-clause-room : goal.keep-requires-clause-room
keep-requires-clause-room c =
    (spare_taken c.self.inside c.pop.new.self.items c.pop.result c.unwrap-left.result c.self.invariant
    c.pop.ensures.items c.unwrap-left.ensures).room

pub renew-requires-clause-members : goal.renew-requires-clause-members
renew-requires-clause-members c =
    let form = left_form c.self.inside c.args.self.now c.unwrap-value.result c.self.view_is c.self.invariant
    c.unwrap-value.ensures c.requires.may c.requires.inside c.requires.free in
    let there = (entered_some (replica_inside c.self.inside) (c.self.inside.view + 1)
    (next_members c.self.inside.members c.unwrap-value.result.leavers)
    (ended_entries c.self.inside c.unwrap-value.result) (ended_views c.self.inside) (omega arith) form).1 in
    rw c.self.invariant.roster (subst (IsInRoster c.self.inside.shape.members) (sym (c.next-next.ensures.value
    ∙ ap (next_members c.self.inside.members) c.of.ensures)) there)

pub renew-requires-clause-some : goal.renew-requires-clause-some
renew-requires-clause-some c =
    let form = left_form c.self.inside c.args.self.now c.unwrap-value.result c.self.view_is c.self.invariant
    c.unwrap-value.ensures c.requires.may c.requires.inside c.requires.free in
    let there = (entered_some (replica_inside c.self.inside) (c.self.inside.view + 1)
    (next_members c.self.inside.members c.unwrap-value.result.leavers)
    (ended_entries c.self.inside c.unwrap-value.result) (ended_views c.self.inside) (omega arith) form).0 in
    subst (λ (m : ℕ). 0 < length (members_of m)) (sym (c.next-next.ensures.value
    ∙ ap (next_members c.self.inside.members) c.of.ensures)) there

taken : (c : goal.After-self-11-1) → AreTaken c.self.inside c.pop.new.self.items c.unwrap-left.result
taken c = spare_taken c.self.inside c.pop.new.self.items c.pop.result c.unwrap-left.result c.self.invariant
    c.pop.ensures.items c.unwrap-left.ensures

made : (c : goal.After-self-11-1) → AreLeft c.self.inside (record c.self.inside {
  rows = c.set_own.new.self;
  view = c.self.inside.view + 1;
  members = c.next-next.result;
  suspects = c.new-self-inside.result;
  came_from = c.self.inside.members;
  given = c.empty-self-inside.result;
  items = c.renew.new.self;
  base = c.first_unsent-self-inside.result;
  sent = c.keep.new.sent;
  left = c.push.new.self;
  spares = c.pop.new.self;
  next = c.first-self-inside.result;
  received = 0;
  history = c.install.new.self;
  tag = 0;
  value = c.no_value-self-inside.result;
  committed = None;
}) c.unwrap-value.result
made c = record {
  shape = refl;
  messages = refl;
  totals = refl;
  late = refl;
  rows = c.set_own.ensures.after
      ∙ ap (λ (w : Words). with_own w LOGGED_COLUMN c.self.inside.logged) c.renew-2.ensures.after;
  view = refl;
  members = remaining;
  suspects = c.new-self-inside.ensures.value ∙ ap (λ (i : ℕ). trusting i c.next-next.result) c.me-me.ensures.me
      ∙ ap (trusting c.self.inside.rows.me) remaining;
  items = c.renew.ensures ∙ ap (λ (m : ℕ). none_held m c.self.inside.items.roster c.self.inside.items.most) remaining;
  came_from = refl;
  given = c.empty-self-inside.ensures.bits;
  base = c.first_unsent-self-inside.ensures ∙ ap (λ (m : ℕ). length
      (messages_from m c.entries.result.now)) c.me-me.ensures.me ∙ ap (λ (es : List Entry). length
      (messages_from c.self.inside.rows.me es)) (c.entries.ensures.entries ∙ ap (λ (h : Kept). h.entries) history);
  sent = ap (λ (v : _). v.items) c.keep.ensures.swapped ∙ (taken c).spare.empty;
  left =
      let pushed : c.push.new.self.items ≡ c.self.inside.left.items ++ c.keep.new.self ∷ [] = search rules in
      ap (map left_of) pushed ∙ map-append left_of c.self.inside.left.items (c.keep.new.self ∷ [])
      ∙ ap (λ (l : LeftView). map left_of c.self.inside.left.items ++ l ∷ []) c.keep.ensures.kept;
  next = c.first-self-inside.ensures;
  received = refl;
  history = history;
  logged = refl;
  durable = refl;
  turns = refl;
  acts = refl;
  end = refl;
  age = refl;
  tag = refl;
  value = c.no_value-self-inside.ensures;
  committed = refl;
  pending = refl;
  votes = refl;
}
  where
    x : Value
    x = c.unwrap-value.result

    rest : merged_from c.self.inside.items c.self.inside.history.entries c.from-rest.result.trims.items
        c.from-rest.result.next.place ≡ merged_from c.self.inside.items c.self.inside.history.entries
        (trims_by_rank c.self.inside.members c.unwrap-value.result.trim) c.self.inside.next.place
    rest = let trims = c.from-rest.ensures.trims in let next = c.from-rest.ensures.next in
        rw (trims, next) refl

    remaining : c.next-next.result ≡ next_members c.self.inside.members x.leavers
    remaining = c.next-next.ensures.value ∙ ap (next_members c.self.inside.members) c.of.ensures

    history : c.install.new.self ≡ record c.self.inside.history { entries = ended_entries c.self.inside x }
    history = c.install.ensures
        ∙ ap (λ (h : Kept). record h { entries = h.entries ++ c.next_view.result ∷ [] }) c.deliver_rest.ensures
        ∙ ap (λ (es : List Entry). record c.self.inside.history { entries = es ++ c.next_view.result ∷ [] }) rest
        ∙ ap (λ (e : Entry). record c.self.inside.history {
          entries = merged_from c.self.inside.items c.self.inside.history.entries
              (trims_by_rank c.self.inside.members x.trim) c.self.inside.next.place ++ e ∷ [];
        }) c.next_view.ensures

pub returns : goal.returns
returns c = left_after c.self.inside _ c.args.self.now c.unwrap-value.result c.self.view_is c.self.invariant
    c.unwrap-value.ensures (made c)

pub invariant_of-self : goal.invariant_of-self
invariant_of-self c = entered_inside c.self.inside _
    (c.self.inside.view + 1) (next_members c.self.inside.members c.unwrap-value.result.leavers)
    (ended_entries c.self.inside c.unwrap-value.result) (ended_views c.self.inside) c.self.invariant (made c)
    (omega arith) (left_form c.self.inside c.args.self.now c.unwrap-value.result c.self.view_is c.self.invariant
    c.unwrap-value.ensures c.requires.may c.requires.inside c.requires.free) record {
      left = omega (arith, c.self.invariant.left, c.push.ensures.capacity);
      spares = (taken c).others;
      enough = (taken c).enough;
      end = c.self.invariant.end;
      votes = c.self.invariant.votes;
    } (omega (arith, (taken c).spare.sent, ap vec_capacity c.keep.ensures.swapped)) refl
