use Rattle.std.specs.Prelude.{All, if◌then◌else◌}
use Rattle.std.proofs.Common.{◌≡◌, ℕ, length, None, refl, rules, sym, ap, subst, ◌∙◌, arith}
use Rattle.dr_history.specs.Members.{has}
use Rattle.dr_words.specs.Columns.{columns_of}
use Rattle.dr_replica.specs.{Lefts.IsSpare, declared.replica.Replica.TheInside.Inside}
use Rattle.dr_replica.proofs.Openings.{AreBegun, AreReserved, begun_view, begun_inside}
use Rattle.dr_replica.proofs.replica.Replica.begin.Goals.{After-no_value, else-has, then-has}
use Rattle.dr_rows.specs.Words.{begun, with_own}
use Rattle.dr_program.{specs.Form.HasForm, proofs.OpeningForm.{begun_in_form, someone}}
use Rattle.dr_program.proofs.Replicas.{few_messages_each, small_room}
use Rattle.dr_replica.proofs.replica.Replica.begin.Goals as goal

pub begin-requires-clause-small : goal.begin-requires-clause-small
begin-requires-clause-small c =
    let small = small_room c.args.setup c.greatest-most.result c.requires c.greatest-most.ensures in
    rw (c.as_slice.ensures, c.from-2.ensures, c.from.ensures) small

pub begin-requires-2-clause-some : goal.begin-requires-2-clause-some
begin-requires-2-clause-some c = someone c.args.setup c.requires

pub begin-requires-2-clause-most : goal.begin-requires-2-clause-most
begin-requires-2-clause-most c = omega (arith, c.greatest-most.ensures, few_messages_each c.args.setup c.requires)

-- the fields, as they are made
abbrev fields : After-no_value → Inside
fields c = record {
  shape = c.args.setup.shape;
  messages = c.into_vec-messages.result;
  totals = c.args.setup.totals;
  rows = c.set_own.new.self;
  view = 0;
  members = c.args.setup.members;
  suspects = c.new-2.result;
  late = c.args.setup.late;
  came_from = c.empty.result;
  given = c.empty-2.result;
  items = c.in_ok-begin.field-0;
  base = c.messages_from.result;
  sent = c.in_ok-with_capacity.field-0;
  left = c.in_ok-with_capacity-2.field-0;
  spares = c.in_ok-spares.field-0;
  past = c.in_ok-with_capacity-3.field-0;
  next = c.first.result;
  received = 0;
  history = c.in_ok-history.history;
  logged = length c.entries-logged.result.now;
  durable = length c.entries-logged.result.now;
  turns = 0;
  acts = 0;
  end = None;
  age = c.args.setup.age;
  tag = 0;
  value = c.no_value.result;
  committed = None;
  pending = None;
  votes = c.in_ok-with_capacity-4.field-0;
}

-- what its own logged word says
shown : (c : After-no_value) → c.if-has.shown
    ≡ (if has c.args.setup.members c.args.setup.me then length c.in_ok-history.history.entries else 0)
shown c = elim c.if-has.branch [
  | then-has w ↦ w.shown-is ∙ ap length c.entries-logged.ensures.entries
      ∙ sym (ap (λ b. if b then length c.in_ok-history.history.entries else 0) (sym c.has.ensures ∙ w.if-has.true))
  | else-has w ↦ w.shown-is
      ∙ sym (ap (λ b. if b then length c.in_ok-history.history.entries else 0) (sym c.has.ensures ∙ w.if-has.false))
]

made : (c : After-no_value) → AreBegun (fields c) c.args.setup c.in_ok-rows.rows c.greatest-most.result
made c = record {
  shape = refl;
  messages = c.into_vec-messages.ensures;
  totals = refl;
  late = refl;
  most = c.greatest-most.ensures;
  first = c.in_ok-rows.ensures.begun
      ∙ ap (λ (k : ℕ). begun c.args.setup.shape.members k c.args.setup.me) c.columns.ensures;
  rows = c.set_own.ensures.after ∙ ap (with_own c.in_ok-rows.rows 3) (shown c);
  view = refl;
  members = refl;
  suspects = c.new-2.ensures.value;
  came_from = c.empty.ensures.bits;
  given = c.empty-2.ensures.bits;
  items = c.in_ok-begin.ensures.begun;
  base = c.messages_from.ensures;
  sent = c.in_ok-with_capacity.ensures.items;
  left = c.in_ok-with_capacity-2.ensures.items;
  next = c.first.ensures;
  received = refl;
  history = cc (c.in_ok-history.ensures.begun, c.as_slice.ensures, c.from.ensures, c.from-2.ensures, c.bits.ensures);
  logged = ap length c.entries-logged.ensures.entries;
  durable = ap length c.entries-logged.ensures.entries;
  turns = refl;
  acts = refl;
  end = refl;
  age = refl;
  tag = refl;
  value = c.no_value.ensures;
  committed = refl;
  pending = refl;
  votes = c.in_ok-with_capacity-4.ensures.items;
}

reserved : (c : After-no_value) → AreReserved (fields c)
reserved c = record {
  left = search rules;
  spares = subst (λ (n : ℕ). All (IsSpare (columns_of c.args.setup.shape.members c.args.setup.shape.window)
      c.args.setup.shape.members n) c.in_ok-spares.field-0.items) c.greatest-most.ensures
      (subst (λ (n : ℕ). All (IsSpare n c.args.setup.shape.members c.greatest-most.result)
      c.in_ok-spares.field-0.items) c.columns-2.ensures c.in_ok-spares.ensures.spare);
  enough = search rules;
  end = search rules;
  votes = search rules;
}

pub invariant_of-result : goal.invariant_of-result
invariant_of-result c = begun_inside (fields c) c.args.setup c.in_ok-rows.rows c.greatest-most.result c.requires
    (made c) (search rules) (reserved c) c.in_ok-with_capacity-3.ensures.items

pub returns-clause-begun : goal.returns-clause-begun
returns-clause-begun c = begun_view (fields at) c.args.setup c.in_ok-rows.rows c.greatest-most.result (made at)
  where
    at : After-no_value
    at = (goal.at.returns-clause-begun c).After-no_value

pub returns-clause-form : goal.returns-clause-form
returns-clause-form c =
    subst HasForm (sym (begun_view (fields at) c.args.setup c.in_ok-rows.rows c.greatest-most.result (made at)))
    (begun_in_form c.args.setup c.requires)
  where
    at : After-no_value
    at = (goal.at.returns-clause-form c).After-no_value
