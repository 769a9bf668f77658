-- How a member goes on in a later view, and what one that may end its view has room for.
use Rattle.std.specs.Prelude.{All, option_to_list, unwrap_or, vec_capacity}
use Rattle.std.proofs.Common.{◌≡◌, ℕ, ◌+◌, ◌<◌, ◌≤◌, true, not, nat_lt, List, [], ◌∷◌, ◌++◌, length, map, Option, None, Some, refl, sym, ap, subst, ◌∙◌, arith, length-append}
use Rattle.std.proofs.lemmas.{Bool.{and_parts, ltb-true}, List.Elements.All-pop}
use Rattle.dr_entry.specs.{declared.entry.Entry.{Entry, TheVariants.View}, declared.record.Value.Value}
use Rattle.dr_history.specs.{Members.{has, members_of}, Order.messages_from}
use Rattle.dr_machine.specs.World.{no_value}
use Rattle.dr_program.{specs.Form.HasForm, proofs.{Finishing.finished_form, Replicas.entered_some}}
use Rattle.dr_program.specs.Replica.{LeftView, Replica, entered, finished, finished_by, finished_history, greatest, is_inside, left_now, may_end, may_finish, me}
use Rattle.dr_rows.specs.Words.{Words, begun, with_own}
use Rattle.dr_suspect.specs.Suspicion.{Suspicion, trusting}
use Rattle.dr_words.specs.{Columns.columns_of, Masks.next_members, declared.column.TheConstants.LOGGED_COLUMN}
use Rattle.dr_trim.specs.Trims.{trims_by_rank}
use Rattle.dr_replica.specs.{History.Kept, Inside.{IsInsideReplica, replica_inside}, Items.{Held, none_held}}
use Rattle.dr_replica.specs.{Lefts.{HasRoom, IsSpare, left_of}, Rests.{has_taken, merged, merged_from}}
use Rattle.dr_replica.specs.{Spots.first_spot, declared.{left.Left.Left, replica.Replica.TheInside.Inside}}
use Rattle.dr_replica.{specs.declared.spot.Spot.Spot, proofs.{Delivering.merged_same, Openings.AreReserved}}
use Rattle.dr_replica.proofs.Spots.{first_is_spot}

-- what the fields say of a member that may end its view with a value
pub record MayLeave (a : Inside) (x : Value) : Type 0 where
  pub bank : a.view + 1 < a.shape.banks
  pub taken : has_taken (replica_inside a) x.trim ≡ true
  pub room : length (merged_from a.items a.history.entries (trims_by_rank a.members x.trim) a.next.place)
      < a.history.room

leaves : (a : Inside) (x : Value) → IsInsideReplica a → may_end (replica_inside a) x ≡ true → MayLeave a x
leaves a x inside may =
    let stays = and_parts (not (has x.leavers a.rows.me)) _ may in
    let bank = and_parts (nat_lt (a.view + 1) a.shape.banks) _ stays.1 in
    let there = and_parts (has_taken (replica_inside a) x.trim) _ bank.1 in
    let fits = and_parts (nat_lt (length (finished_history (replica_inside a) x)) (a.history.room + 1)) _ there.1 in
    let same = merged_same a x.trim inside in
    let view : List Entry = View a.age (a.view + 1) (next_members a.members x.leavers) ∷ [] in
    record {
      bank = ltb-true (a.view + 1) a.shape.banks bank.0;
      taken = there.0;
      room = omega (
        arith,
        ltb-true (length (finished_history (replica_inside a) x)) (a.history.room + 1) fits.0,
        length-append (merged (replica_inside a) x.trim) view,
        ap length same,
      );
    }

pub may_leave : (a : Inside) (now : Replica) (x : Value) → replica_inside a ≡ now → IsInsideReplica a
    → a.committed ≡ Some x → may_finish now now.committed ≡ true → MayLeave a x
may_leave a now x same inside committed may =
    leaves a x inside (subst (λ (o : Option Value). may_finish (replica_inside a) o ≡ true) committed
    (ap (λ (r : Replica). may_finish r r.committed) same ∙ may))

-- the fields of a member that goes on in a view of these members with these entries, beside those of before, where
-- this is kept of the views before
pub record AreEntered (a b : Inside) (v mask : ℕ) (entries : List Entry) (kept : List LeftView) : Type 0 where
  pub shape : b.shape ≡ a.shape
  pub messages : b.messages ≡ a.messages
  pub totals : b.totals ≡ a.totals
  pub late : b.late ≡ a.late
  pub rows : b.rows ≡ with_own (begun a.rows.members a.rows.columns a.rows.me) LOGGED_COLUMN a.logged
  pub view : b.view ≡ v
  pub members : b.members ≡ mask
  pub suspects : b.suspects ≡ trusting a.rows.me mask
  pub came_from : b.came_from ≡ a.members
  pub given : b.given ≡ 0
  pub items : b.items ≡ none_held mask a.items.roster a.items.most
  pub base : b.base ≡ length (messages_from a.rows.me entries)
  pub sent : b.sent.items ≡ []
  pub left : map left_of b.left.items ≡ kept
  pub next : b.next ≡ first_spot
  pub received : b.received ≡ 0
  pub history : b.history ≡ record a.history { entries = entries }
  pub logged : b.logged ≡ a.logged
  pub durable : b.durable ≡ a.durable
  pub turns : b.turns ≡ a.turns
  pub acts : b.acts ≡ a.acts
  pub end : b.end ≡ a.end
  pub age : b.age ≡ a.age
  pub tag : b.tag ≡ 0
  pub value : b.value ≡ no_value
  pub committed : b.committed ≡ None
  pub pending : b.pending ≡ a.pending
  pub votes : b.votes ≡ a.votes

-- contracts see them as the replica that goes on there
pub entered_view : (a b : Inside) (view members : ℕ) (entries : List Entry) (kept : List LeftView)
    → IsInsideReplica a → AreEntered a b view members entries kept
    → replica_inside b ≡ entered (replica_inside a) view members entries kept
entered_view a b view members entries kept inside l =
    let history : b.history.entries ≡ entries = ap (λ (h : Kept). h.entries) l.history in
    let room = ap (λ (h : Kept). h.room) l.history in
    let items : b.items ≡ none_held members a.shape.members (greatest a.totals) = l.items
    ∙ ap (λ (n : ℕ). none_held members n a.items.most) inside.roster
    ∙ ap (λ (k : ℕ). none_held members a.shape.members k) inside.most in
    let suspects : b.suspects.suspects ≡ 0 = ap (λ (s : Suspicion). s.suspects) l.suspects in
    let next : b.next.place ≡ 0 = ap (λ (n : Spot). n.place) l.next in
    let base = l.base in let shape = l.shape in let messages = l.messages in let totals = l.totals in
    let late = l.late in let rows = l.rows in let number = l.view in let those = l.members in
    let came_from = l.came_from in let given = l.given in let sent = l.sent in let left = l.left in
    let logged = l.logged in let durable = l.durable in let turns = l.turns in let acts = l.acts in
    let end = l.end in let age = l.age in let tag = l.tag in let value = l.value in
    let committed = l.committed in let pending = l.pending in let votes = l.votes in cc

-- the fields keep their invariant, where the replica keeps its form
pub entered_inside : (a b : Inside) (view members : ℕ) (entries : List Entry) (kept : List LeftView)
    → IsInsideReplica a → AreEntered a b view members entries kept → 0 < view
    → HasForm (entered (replica_inside a) view members entries kept) → AreReserved b
    → greatest a.totals ≤ vec_capacity b.sent → b.past ≡ a.past → IsInsideReplica b
entered_inside a b view members entries kept inside l later form held sent past = record {
  form = subst HasForm (sym (entered_view a b view members entries kept inside l)) form;
  suspicion =
      let me : b.rows.me ≡ a.rows.me = ap (λ (w : Words). w.me) l.rows in
      let suspects = l.suspects in let those = l.members in rw (suspects, me, those) refl;
  members = ap (λ (h : Held). h.members) l.items ∙ sym (ap members_of l.members);
  roster = ap (λ (h : Held). h.roster) l.items ∙ inside.roster ∙ ap (λ (s : _). s.members) (sym l.shape);
  most = ap (λ (h : Held). h.most) l.items ∙ inside.most ∙ ap greatest (sym l.totals);
  messages = ap (λ (h : Kept). h.roster) l.history ∙ inside.messages ∙ ap (λ (s : _). s.members) (sym l.shape);
  next = rw (l.next, l.members) (first_is_spot (length (members_of members))
      (entered_some (replica_inside a) view members entries kept later form).0);
  received = rw l.received (omega arith);
  sent = rw l.totals sent;
  left = held.left;
  spares = held.spares;
  enough = held.enough;
  past = ap (λ (v : _). v.items) past ∙ inside.past;
  end = held.end;
  votes = held.votes;
}

-- ---- the end of a view

-- the entries of a member that has ended its view with a value
abbrev pub ended_entries : Inside → Value → List Entry
ended_entries a x = merged_from a.items a.history.entries (trims_by_rank a.members x.trim) a.next.place
    ++ View a.age (a.view + 1) (next_members a.members x.leavers) ∷ []

-- and what it keeps of its views
abbrev pub ended_views : Inside → List LeftView
ended_views a = map left_of a.left.items ++ left_now (replica_inside a) ∷ []

-- so it goes on
abbrev pub AreLeft : Inside → Inside → Value → Type 0
AreLeft a b x = AreEntered a b (a.view + 1) (next_members a.members x.leavers) (ended_entries a x) (ended_views a)

ended_by : (a : Inside) (x : Value) → IsInsideReplica a
    → entered (replica_inside a) (a.view + 1) (next_members a.members x.leavers) (ended_entries a x) (ended_views a)
    ≡ finished_by (replica_inside a) x
ended_by a x inside = ap (λ (es : List Entry). entered (replica_inside a) (a.view + 1)
    (next_members a.members x.leavers) (es ++ View a.age (a.view + 1) (next_members a.members x.leavers) ∷ [])
    (ended_views a)) (merged_same a x.trim inside)

-- this is what ending the view makes of the replica
pub left_after : (a b : Inside) (now : Replica) (x : Value) → replica_inside a ≡ now → IsInsideReplica a
    → a.committed ≡ Some x → AreLeft a b x → replica_inside b ≡ finished now
left_after a b now x same inside committed l = entered_view a b (a.view + 1) (next_members a.members x.leavers)
    (ended_entries a x) (ended_views a) inside l ∙ ended_by a x inside ∙ ap (λ (o : Option Value). finished_by
    (replica_inside a) (unwrap_or o no_value)) (sym committed) ∙ ap finished same

-- its form stays
pub left_form : (a : Inside) (now : Replica) (x : Value) → replica_inside a ≡ now → IsInsideReplica a
    → a.committed ≡ Some x → may_finish now now.committed ≡ true → is_inside now ≡ true → now.pending ≡ None
    → HasForm (entered (replica_inside a) (a.view + 1) (next_members a.members x.leavers) (ended_entries a x)
    (ended_views a))
left_form a now x same inside committed may in_view none = subst HasForm (sym (ended_by a x inside))
    (subst (λ (o : Option Value). HasForm (finished_by (replica_inside a) (unwrap_or o no_value))) committed
    (finished_form (replica_inside a) inside.form (ap is_inside same ∙ in_view)
    (ap (λ (r : Replica). may_finish r r.committed) same ∙ may) (ap (λ (r : Replica). r.pending) same ∙ none)))

-- ---- the memory that was taken for it

-- it takes one of the spares, and there are enough left
pub record AreTaken (a : Inside) (spares : List Left) (left : Left) : Type 0 where
  pub spare : IsSpare (columns_of a.shape.members a.shape.window) a.shape.members (greatest a.totals) left
  pub others : All (IsSpare (columns_of a.shape.members a.shape.window) a.shape.members (greatest a.totals)) spares
  pub enough : a.shape.banks ≤ a.view + 1 + 1 + length spares
  pub room : HasRoom a.rows.columns a.items.roster left

pub spare_taken : (a : Inside) (spares : List Left) (r : Option Left) (left : Left) → IsInsideReplica a
    → a.spares.items ≡ spares ++ option_to_list r → r ≡ Some left → AreTaken a spares left
spare_taken a spares r left inside items is =
    let P : Left → Type 0 = IsSpare (columns_of a.shape.members a.shape.window) a.shape.members (greatest a.totals) in
    let old : a.spares.items ≡ spares ++ left ∷ [] =
    items ∙ ap (λ (o : Option Left). spares ++ option_to_list o) is in
    let parts = All-pop P a.spares.items spares (Some left) old inside.spares in
    let spare : P left = parts.1 in
    record {
      spare = spare;
      others = parts.0;
      enough = omega (arith, inside.enough, ap length old, length-append spares (left ∷ []));
      room = record {
        own = spare.room.own ∙ sym inside.form.columns;
        counts = spare.room.counts ∙ sym inside.roster;
      };
    }
