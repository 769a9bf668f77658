-- The fields of a replica as its age opens.
use Rattle.std.specs.Prelude.{All, if◌then◌else◌, map, vec_capacity}
use Rattle.std.proofs.Common.{◌≡◌, ℕ, ◌+◌, ◌*◌, ◌≤◌, [], List, length, None, refl, sym, ap, subst, ◌∙◌, arith}
use Rattle.dr_replica.specs.{History.Kept, Inside.{IsInsideReplica, replica_inside}, Items.{Held, none_held}}
use Rattle.dr_replica.specs.{Lefts.{IsSpare, left_of}, Spots.first_spot, declared.replica.Replica.TheInside.Inside}
use Rattle.dr_replica.{specs.declared.spot.Spot.Spot, proofs.Spots.first_is_spot}
use Rattle.dr_entry.specs.declared.entry.Entry.{Entry}
use Rattle.dr_history.specs.{Members.{has, members_of}, Order.messages_from}
use Rattle.dr_history.proofs.NumberedLemmas.{messages_from-View}
use Rattle.dr_rows.specs.Words.{Words, begun, with_own}
use Rattle.dr_words.specs.{Columns.columns_of, declared.column.TheConstants.LOGGED_COLUMN}
use Rattle.dr_suspect.specs.Suspicion.{Suspicion, trusting}
use Rattle.dr_machine.specs.World.{no_value}
use Rattle.dr_program.specs.{Form.{CanBegin, HasForm}, Replica.{begun_replica, first_entries_of, greatest}}
use Rattle.dr_program.{specs.declared.setup.Setup.Setup, proofs.OpeningForm.{begun_in_form, someone}}

-- the fields, as they were made
pub record AreBegun (a : Inside) (s : Setup) (fresh : Words) (top : ℕ) : Type 0 where
  pub shape : a.shape ≡ s.shape
  pub messages : a.messages.items ≡ s.messages
  pub totals : a.totals ≡ s.totals
  pub most : top ≡ greatest s.totals
  pub first : fresh ≡ begun s.shape.members (columns_of s.shape.members s.shape.window) s.me
  pub late : a.late ≡ s.late
  pub rows : a.rows ≡ with_own fresh LOGGED_COLUMN (if has s.members s.me then length a.history.entries else 0)
  pub view : a.view ≡ 0
  pub members : a.members ≡ s.members
  pub suspects : a.suspects ≡ trusting s.me s.members
  pub came_from : a.came_from ≡ 0
  pub given : a.given ≡ 0
  pub items : a.items ≡ none_held s.members s.shape.members top
  pub base : a.base ≡ length (messages_from s.me a.history.entries)
  pub sent : a.sent.items ≡ []
  pub left : a.left.items ≡ []
  pub next : a.next ≡ first_spot
  pub received : a.received ≡ 0
  pub history : a.history ≡ record {
    roster = s.shape.members;
    entries = first_entries_of s;
    room = length s.start + s.shape.banks + top * s.shape.members + 1;
  }
  pub logged : a.logged ≡ length a.history.entries
  pub durable : a.durable ≡ length a.history.entries
  pub turns : a.turns ≡ 0
  pub acts : a.acts ≡ 0
  pub end : a.end ≡ None
  pub age : a.age ≡ s.age
  pub tag : a.tag ≡ 0
  pub value : a.value ≡ no_value
  pub committed : a.committed ≡ None
  pub pending : a.pending ≡ None
  pub votes : a.votes.items ≡ []

-- the fields as they were made are those of the replica that begins
pub begun_view : (a : Inside) (s : Setup) (first : Words) (most : ℕ) → AreBegun a s first most
    → replica_inside a ≡ begun_replica s
begun_view a s first most b =
    let entries : a.history.entries ≡ first_entries_of s = ap (λ (h : Kept). h.entries) b.history in
    let room : a.history.room ≡ length s.start + s.shape.banks + greatest s.totals * s.shape.members + 1 =
    ap (λ (h : Kept). h.room) b.history
    ∙ ap (λ (n : ℕ). length s.start + s.shape.banks + n * s.shape.members + 1) b.most in
    let items : a.items ≡ none_held s.members s.shape.members (greatest s.totals) = b.items
    ∙ ap (λ (n : ℕ). none_held s.members s.shape.members n) b.most in
    let count : ℕ = length (first_entries_of s) in
    let rows : a.rows ≡ with_own (begun s.shape.members (columns_of s.shape.members s.shape.window) s.me)
    LOGGED_COLUMN (if has s.members s.me then count else 0) = b.rows ∙ ap (λ (w : Words). with_own w LOGGED_COLUMN
    (if has s.members s.me then length a.history.entries else 0)) b.first ∙ ap (λ (es : List Entry). with_own
    (begun s.shape.members (columns_of s.shape.members s.shape.window) s.me) LOGGED_COLUMN
    (if has s.members s.me then length es else 0)) entries in
    let base : a.base ≡ length (messages_from s.me s.start) = b.base ∙ ap (λ (es : List Entry). length
    (messages_from s.me es)) entries ∙ ap length (messages_from-View s.me s.start s.age 0 s.members) in
    let logged : a.logged ≡ count = b.logged ∙ ap length entries in
    let durable : a.durable ≡ count = b.durable ∙ ap length entries in
    let shape = b.shape in let messages = b.messages in let totals = b.totals in let late = b.late in
    let view = b.view in let came_from = b.came_from in let given = b.given in
    let members = b.members in
    let suspects : a.suspects.suspects ≡ 0 = ap (λ (x : Suspicion). x.suspects) b.suspects in
    let sent = b.sent in let left = ap (map left_of) b.left in
    let next : a.next.place ≡ 0 = ap (λ (n : Spot). n.place) b.next in let turns = b.turns in
    let acts = b.acts in let end = b.end in let age = b.age in let tag = b.tag in let value = b.value in
    let committed = b.committed in let pending = b.pending in let votes = b.votes in cc

-- the memory that was taken for what the member keeps of its views, for its end and for its votes
pub record AreReserved (a : Inside) : Type 0 where
  pub left : a.shape.banks ≤ vec_capacity a.left
  pub spares : All (IsSpare (columns_of a.shape.members a.shape.window) a.shape.members (greatest a.totals))
      a.spares.items
  pub enough : a.shape.banks ≤ a.view + 1 + length a.spares.items
  pub end : a.shape.banks ≤ vec_capacity a.past
  pub votes : a.shape.banks * a.shape.members ≤ vec_capacity a.votes

-- the fields as they were made are in good order inside
pub begun_inside : (a : Inside) (s : Setup) (first : Words) (most : ℕ) → CanBegin s
    → AreBegun a s first most → most ≤ vec_capacity a.sent → AreReserved a → a.past.items ≡ [] → IsInsideReplica a
begun_inside a s first most can b sent held past = record {
  form = subst HasForm (sym (begun_view a s first most b)) (begun_in_form s can);
  suspicion =
      let me : a.rows.me ≡ s.me = ap (λ (w : Words). w.me) b.rows ∙ ap (λ (w : Words). w.me) b.first in
      let suspects = b.suspects in let members = b.members in rw (suspects, me, members) refl;
  members = ap (λ (h : Held). h.members) b.items ∙ sym (ap members_of b.members);
  roster = ap (λ (h : Held). h.roster) b.items ∙ ap (λ (x : _). x.members) (sym b.shape);
  most = ap (λ (h : Held). h.most) b.items ∙ b.most ∙ ap greatest (sym b.totals);
  messages = ap (λ (h : Kept). h.roster) b.history ∙ ap (λ (x : _). x.members) (sym b.shape);
  next = rw (b.next, b.members) (first_is_spot (length (members_of s.members)) (someone s can));
  received = rw b.received (omega arith);
  sent = rw (b.totals, ← b.most) sent;
  left = held.left;
  spares = held.spares;
  enough = held.enough;
  past = past;
  end = held.end;
  votes = held.votes;
}
