use Rattle.std.specs.Prelude.{vec_capacity}
use Rattle.std.proofs.Common.{rules, ◌≡◌, ◌-◌, ◌<◌, ℕ, List, ◌++◌, ◌∷◌, [], length, map, replicate, refl, sym, ap, subst, ◌∙◌, arith, None}
use Rattle.dr_history.specs.{History.last_view, Members.{has, members_of}, Order.messages_from}
use Rattle.dr_rows.specs.Words.{Words, with_own}
use Rattle.dr_suspect.specs.Suspicion.{trusting}
use Rattle.dr_words.specs.{Columns.columns_of, declared.column.TheConstants.LOGGED_COLUMN}
use Rattle.dr_program.specs.{Form.HasForm, Replica.{LeftView, Replica, greatest, joined, nothing_left}}
use Rattle.dr_program.proofs.Replicas.{entered_some}
use Rattle.dr_replica.specs.{Inside.replica_inside, Items.none_held, Lefts.left_of, declared.left.Left.Left}
use Rattle.dr_replica.proofs.Joining.{AreJoined, MayJoin, join_form, may_join, skipped_views}
use Rattle.dr_replica.proofs.Leaving.{AreTaken, entered_inside, entered_view, spare_taken}
use Rattle.dr_replica.proofs.replica.Replica.join.Goals as goal

pub take_letter-requires : goal.take_letter-requires
take_letter-requires c = record {
  room = (may_join c.self.inside c.args.self.now c.args.letter.now c.self.view_is c.self.invariant
      c.requires.outside c.requires.fitting).fits.room;
}

pub unwrap-left-requires : goal.unwrap-left-requires
unwrap-left-requires c =
    let may = may_join c.self.inside c.args.self.now c.args.letter.now c.self.view_is c.self.invariant
    c.requires.outside c.requires.fitting in
    c.pop.ensures.variant.1 (omega (
      arith,
      c.self.invariant.enough,
      may.first,
      may.fits.later,
      may.fits.bank,
      c.self.inside.spares.ok.0,
    ))

pub keep-requires-clause-room : goal.keep-requires-clause-room
keep-requires-clause-room c =
    (spare_taken c.self.inside c.pop.new.self.items c.pop.result c.unwrap-left.result c.self.invariant
    c.pop.ensures.items c.unwrap-left.ensures).room

pub unwrap-requires : goal.unwrap-requires
unwrap-requires c =
    let may = may_join c.self.inside c.args.self.now c.args.letter.now c.self.view_is c.self.invariant
    c.requires.outside c.requires.fitting in
    c.push.ensures.succeeds (omega (
      arith,
      c.self.invariant.left,
      may.fits.bank,
      ap length may.none,
      c.self.inside.left.ok.0,
    ))

pub overflow_sub-view : goal.overflow_sub-view
overflow_sub-view c = omega (arith, ap (λ (v : ℕ × ℕ). v.0) c.last_view-view.ensures, c.requires.fitting.later)

pub skip_views-requires-clause-spares : goal.skip_views-requires-clause-spares
skip_views-requires-clause-spares c =
    let may = may_join c.self.inside c.args.self.now c.args.letter.now c.self.view_is c.self.invariant
    c.requires.outside c.requires.fitting in
    omega (
      arith,
      ap (λ (v : ℕ × ℕ). v.0) c.last_view-view.ensures,
      may.first,
      may.fits.bank,
      (spare_taken c.self.inside c.pop.new.self.items c.pop.result c.unwrap-left.result c.self.invariant
          c.pop.ensures.items c.unwrap-left.ensures).enough,
    )

pub skip_views-requires-clause-room : goal.skip_views-requires-clause-room
skip_views-requires-clause-room c =
    let may = may_join c.self.inside c.args.self.now c.args.letter.now c.self.view_is c.self.invariant
    c.requires.outside c.requires.fitting in
    let pushed : c.push.new.self.items ≡ c.self.inside.left.items ++ c.keep.new.self ∷ [] = search rules in
    let one : c.push.new.self.items ≡ c.keep.new.self ∷ [] = pushed
    ∙ ap (λ (ls : List Left). ls ++ c.keep.new.self ∷ []) may.none in
    omega (
      arith,
      ap (λ (v : ℕ × ℕ). v.0) c.last_view-view.ensures,
      ap length one,
      may.fits.bank,
      may.fits.later,
      c.self.invariant.left,
      c.push.ensures.capacity,
    )

pub renew-requires-clause-members : goal.renew-requires-clause-members
renew-requires-clause-members c = λ i there.
    let fits = (may_join c.self.inside c.args.self.now c.args.letter.now c.self.view_is c.self.invariant
    c.requires.outside c.requires.fitting).fits in
    omega (
      arith,
      c.self.invariant.roster,
      fits.roster i (sym (ap (λ (v : ℕ × ℕ). has v.1 i) c.last_view-view.ensures) ∙ there),
    )

pub renew-requires-clause-some : goal.renew-requires-clause-some
renew-requires-clause-some c =
    let a = c.self.inside in
    let view = last_view (0, 0) c.args.letter.now in
    let form = join_form a c.args.self.now c.args.letter.now c.self.view_is c.self.invariant c.requires.outside
    c.requires.fitting in
    subst (λ (m : ℕ). 0 < length (members_of m)) (sym (ap (λ (v : ℕ × ℕ). v.1) c.last_view-view.ensures))
    (entered_some (replica_inside a) view.0 view.1 c.args.letter.now (skipped_views a view.0)
    c.requires.fitting.later form).0

pub first_unsent-self-inside-requires : goal.first_unsent-self-inside-requires
first_unsent-self-inside-requires c = omega (
  arith,
  (may_join c.self.inside c.args.self.now c.args.letter.now c.self.view_is c.self.invariant
      c.requires.outside c.requires.fitting).fits.room,
  c.self.invariant.form.small,
)

taken : (c : goal.After-self-11-1) → AreTaken c.self.inside c.pop.new.self.items c.unwrap-left.result
taken c = spare_taken c.self.inside c.pop.new.self.items c.pop.result c.unwrap-left.result c.self.invariant
    c.pop.ensures.items c.unwrap-left.ensures

may : (c : goal.After-self-11-1) → MayJoin c.self.inside c.args.letter.now
may c = may_join c.self.inside c.args.self.now c.args.letter.now c.self.view_is c.self.invariant
    c.requires.outside c.requires.fitting

form : (c : goal.After-self-11-1) → HasForm (joined (replica_inside c.self.inside) c.args.letter.now)
form c = join_form c.self.inside c.args.self.now c.args.letter.now c.self.view_is c.self.invariant
    c.requires.outside c.requires.fitting

made : (c : goal.After-self-11-1) → AreJoined c.self.inside (record c.self.inside {
  rows = c.set_own.new.self;
  view = c.last_view-view.result.0;
  members = c.last_view-view.result.1;
  suspects = c.new-self-inside.result;
  came_from = c.self.inside.members;
  given = c.empty-self-inside.result;
  items = c.renew.new.self;
  base = c.first_unsent-self-inside.result;
  sent = c.keep.new.sent;
  left = c.skip_views.new.lefts;
  spares = c.skip_views.new.spares;
  next = c.first-self-inside.result;
  received = 0;
  history = c.take_letter.new.self;
  tag = 0;
  value = c.no_value-self-inside.result;
  committed = None;
}) c.args.letter.now
made c = record {
  shape = refl;
  messages = refl;
  totals = refl;
  late = refl;
  rows = c.set_own.ensures.after
      ∙ ap (λ (w : Words). with_own w LOGGED_COLUMN c.self.inside.logged) c.renew-2.ensures.after;
  view = number;
  members = those;
  suspects = c.new-self-inside.ensures.value ∙ ap (λ (i : ℕ). trusting i c.last_view-view.result.1) c.me-me.ensures.me
      ∙ ap (trusting c.self.inside.rows.me) those;
  came_from = refl;
  given = c.empty-self-inside.ensures.bits;
  items = c.renew.ensures ∙ ap (λ (m : ℕ). none_held m c.self.inside.items.roster c.self.inside.items.most) those;
  base = c.first_unsent-self-inside.ensures
      ∙ ap (λ (m : ℕ). length (messages_from m c.args.letter.now)) c.me-me.ensures.me;
  sent = ap (λ (v : _). v.items) c.keep.ensures.swapped ∙ (taken c).spare.empty;
  left =
      let pushed : c.push.new.self.items ≡ c.self.inside.left.items ++ c.keep.new.self ∷ [] = search rules in
      let one : c.push.new.self.items ≡ c.keep.new.self ∷ [] = pushed
      ∙ ap (λ (ls : List Left). ls ++ c.keep.new.self ∷ []) (may c).none in
      c.skip_views.ensures.lefts
      ∙ ap (λ (ls : List Left). map left_of ls ++ replicate (c.last_view-view.result.0 - 1) nothing_left) one
      ∙ ap (λ (l : LeftView). l ∷ replicate (c.last_view-view.result.0 - 1) nothing_left) c.keep.ensures.kept
      ∙ ap (skipped_views c.self.inside) number;
  next = c.first-self-inside.ensures;
  received = refl;
  history = c.take_letter.ensures;
  logged = refl;
  durable = refl;
  turns = refl;
  acts = refl;
  end = refl;
  age = refl;
  tag = refl;
  value = c.no_value-self-inside.ensures;
  committed = refl;
  pending = refl;
  votes = refl;
}
  where
    number : c.last_view-view.result.0 ≡ (last_view (0, 0) c.args.letter.now).0
    number = ap (λ (v : ℕ × ℕ). v.0) c.last_view-view.ensures

    those : c.last_view-view.result.1 ≡ (last_view (0, 0) c.args.letter.now).1
    those = ap (λ (v : ℕ × ℕ). v.1) c.last_view-view.ensures

pub invariant_of-self : goal.invariant_of-self
invariant_of-self c =
    let a = c.self.inside in
    let view = last_view (0, 0) c.args.letter.now in
    entered_inside a _ view.0 view.1 c.args.letter.now (skipped_views a view.0) c.self.invariant (made c)
    c.requires.fitting.later (form c) record {
      left = omega (arith, c.self.invariant.left, c.push.ensures.capacity, c.skip_views.ensures.room);
      spares = c.skip_views.ensures.spare (columns_of a.shape.members a.shape.window) a.shape.members
          (greatest a.totals) (taken c).others;
      enough = omega (
        arith,
        (taken c).enough,
        (may c).first,
        (may c).fits.later,
        ap (λ (v : ℕ × ℕ). v.0) c.last_view-view.ensures,
        c.skip_views.ensures.count,
      );
      end = c.self.invariant.end;
      votes = c.self.invariant.votes;
    } (omega (arith, (taken c).spare.sent, ap vec_capacity c.keep.ensures.swapped)) refl

pub returns-clause-after : goal.returns-clause-after
returns-clause-after c =
    let a = c.self.inside in
    let view = last_view (0, 0) c.args.letter.now in
    entered_view a _ view.0 view.1 c.args.letter.now (skipped_views a view.0) c.self.invariant (made c)
    ∙ ap (λ (r : Replica). joined r c.args.letter.now) c.self.view_is

pub returns-clause-form : goal.returns-clause-form
returns-clause-form c =
    let a = c.self.inside in
    let view = last_view (0, 0) c.args.letter.now in
    subst HasForm
    (sym (entered_view a _ view.0 view.1 c.args.letter.now (skipped_views a view.0) c.self.invariant (made c)))
    (form c)
