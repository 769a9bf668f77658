-- What it makes of a replica that it votes, accepts a value or commits one: its words have grown, and it
-- keeps its form.
use Rattle.std.proofs.Common.{◌≡◌, ◌+◌, ◌*◌, ◌^◌, ◌<◌, ◌≤◌, false, List, [], length, Option, None, Some, arith, ℕ, refl, subst, true, ◌∷◌, ◌++◌, ap, unwrap_or, sym, ◌⊎◌, ◌∙◌, inl, inr, is_some}
use Rattle.std.proofs.lemmas.{Bool.and_parts, List.length_push, Option.same_Some}
use Rattle.dr_entry.specs.{declared.entry.Entry.Entry, declared.record.{Value.Value, Vote.Vote}}
use Rattle.dr_entry.proofs.{NumberFacts.same_number, Records.FitsWords}
use Rattle.dr_rows.{specs.Words.{own, rewritten}, proofs.Rewrites.{own_rewritten, IsWords-rewritten}}
use Rattle.dr_words.specs.{Columns.{leavers_column, head_column, recv_column}, Rewrites.{accepted_word, is_accept_of}}
use Rattle.dr_words.{specs.Form.AllInForm, proofs.Accepts.{leavers_accept, accept_within}}
use Rattle.dr_words.specs.{Grown.{HasGrown, Grown}, Packing.{accept_promise, accept_tag, accept_value}}
use Rattle.dr_words.specs.declared.column.TheConstants.{BEAT_COLUMN, LOGGED_COLUMN, RECEIVED_COLUMN, SUSPECTED_COLUMN}
use Rattle.dr_words.proofs.Rewrites.{accepted_rest, accepted_in_form, rewritten_in_form, accepted_grown as word_grown, accepted_promise, accepted_tag, accepted_value, rewritten_grown}
use Rattle.dr_ring.specs.Slots.{slot_column}
use Rattle.dr_machine.specs.World.{no_vote}
use Rattle.dr_program.specs.{Form.{HasForm, IsVoteDue, waiting}, Running.{Running, settled, took_letter}}
use Rattle.dr_program.specs.Replica.{Replica, decided, is_inside, promise, me, is_wedged, may_vote, vote_of, voted, accepted, is_own, is_others, least_seen}
use Rattle.dr_program.proofs.{Beside.beside_form, Deeds.settle_replica, Least.grown_received}
use Rattle.dr_program.proofs.{Fixed.{join_told, told}, Voting.{vote_due, wedged_inside, promise_within}}

noted_form : (r : Replica) (committed : Option Value) (pending : Option Vote) (votes : List Vote)
    → HasForm r → ((x : Vote) → pending ≡ Some x → IsVoteDue r.roster r.tag (promise r) x)
    → length votes ≤ r.view * r.roster + r.tag + waiting pending
    → ((x : Value) → committed ≡ Some x → x.leavers < 2 ^ r.roster) → (is_inside r ≡ false → (votes ≡ [])
    × (pending ≡ None)) → HasForm (record r { committed = committed; pending = pending; votes = votes })
noted_form r committed pending votes f waits few decided none = beside_form r r.next r.logged r.durable r.turns r.acts
    r.history r.end committed pending votes f (omega arith) f.logged f.room (omega arith) f.acts waits few decided
    (λ e. ((none e).0, (none e).1, (f.outside e).all))

-- what it has accepted names members of the roster
value_small : (r : Replica) → HasForm r → r.value.leavers < 2 ^ r.roster
value_small r f =
    let words = subst (λ (n : ℕ). AllInForm n r.rows.words) f.members f.words in
    let small = (words (me r) (leavers_column r.roster)).leavers refl in
    let shown = f.valued (leavers_column r.roster) (leavers_accept r.roster r.members) in
    rw (shown, same_number (leavers_column r.roster)) at small

-- a commit keeps a replica in form
pub decided_form : (r : Replica) → HasForm r → HasForm (decided r)
decided_form r f = noted_form r (Some r.value) r.pending r.votes f f.waits f.votes
    (λ x e. rw (← same_Some r.value x e) (value_small r f)) (λ e. ((f.outside e).none, (f.outside e).idle))

-- so does a vote, where none waits
pub voted_form : (r : Replica) (v : Value) → HasForm r → r.pending ≡ None → may_vote r v ≡ true → HasForm (voted r v)
voted_form r v f none may = noted_form r r.committed (Some (vote_of r v)) (r.votes ++ vote_of r v
    ∷ []) f waits few f.decided (λ e. absurd (cc (e, wedged_inside r f (and_parts (is_wedged r) _ may).0)))
  where
    waits : (x : Vote) → Some (vote_of r v) ≡ Some x → IsVoteDue r.roster r.tag (promise r) x
    waits x e =
        let same : vote_of r v ≡ x = cc e in subst (IsVoteDue r.roster r.tag (promise r)) same (vote_due r v f may)

    few : length (r.votes ++ vote_of r v ∷ []) ≤ r.view * r.roster + r.tag + waiting (Some (vote_of r v))
    few =
        let before : waiting r.pending ≡ 0 = ap waiting none in
        omega (arith, length_push r.votes (vote_of r v), before, f.votes)

-- the vote that waits
abbrev pub vote_waiting : Replica → Vote
vote_waiting r = unwrap_or r.pending no_vote

pub due_waiting : (r : Replica) (x : Vote) → HasForm r → r.pending ≡ Some x
    → IsVoteDue r.roster r.tag (promise r) (vote_waiting r)
due_waiting r x f e = subst (λ (o : Option Vote). IsVoteDue r.roster r.tag (promise r) (unwrap_or o no_vote)) (sym e)
    (f.waits x e)

-- the words that it then has
abbrev pub anew : Replica → ℕ → ℕ → ℕ
anew r = accepted_word r.roster r.members ((vote_waiting r).ballot + 1) (vote_waiting r).value

-- accept words can hold its tag and its value
fits : (r : Replica) (x : Vote) → HasForm r → r.pending ≡ Some x
    → FitsWords r.roster ((vote_waiting r).ballot + 1) (vote_waiting r).value
fits r x f e =
    let due = due_waiting r x f e in record {
      few = omega (arith, f.members, f.rows.few);
      ballot = omega (arith, due.ballot, promise_within r f);
      leavers = due.leavers;
      trims = due.trims;
    }

-- an accept word then
row_accept : (r : Replica) (c : ℕ) → HasForm r → is_accept_of r.roster r.members c ≡ true
    → own (accepted r).rows c ≡ anew r c (own r.rows c)
row_accept r c f is = own_rewritten r.rows (anew r) c f.rows
    (omega (arith, f.columns, accept_within r.roster r.members c is))

-- the other columns
row_rest : (r : Replica) (c : ℕ) → HasForm r → c < r.rows.columns
    → (c < recv_column r.roster) ⊎ (head_column r.roster 0 ≤ c) → own (accepted r).rows c ≡ own r.rows c
row_rest r c f low outside = own_rewritten r.rows (anew r) c f.rows low
    ∙ accepted_rest r.roster r.members ((vote_waiting r).ballot + 1) (vote_waiting r).value c (own r.rows c) outside

-- each word is in form, and has grown
anew_form : (r : Replica) (x : Vote) → HasForm r → r.pending ≡ Some x
    → AllInForm r.roster (rewritten r.rows (anew r)).words
anew_form r x f e = rewritten_in_form r.roster r.rows (anew r) f.rows (λ c. accepted_in_form r.roster r.members
    ((vote_waiting r).ballot + 1) (vote_waiting r).value c (own r.rows c) (fits r x f e) (words (me r) c)) words
  where
    words : AllInForm r.roster r.rows.words
    words = subst (λ (n : ℕ). AllInForm n r.rows.words) f.members f.words

anew_grown : (r : Replica) (x : Vote) (c : ℕ) → HasForm r → r.pending ≡ Some x
    → HasGrown r.roster c (own r.rows c) (anew r c (own r.rows c))
anew_grown r x c f e = word_grown r.roster r.members ((vote_waiting r).ballot + 1)
    (vote_waiting r).value c (own r.rows c) (λ is. omega (arith, f.tagged c is, (due_waiting r x f e).above))

-- accepting a value keeps a replica in form
pub accepted_form : (r : Replica) (x : Vote) → HasForm r → r.pending ≡ Some x → HasForm (accepted r)
accepted_form r x f e = record {
  rows = IsWords-rewritten r.rows (anew r) f.rows;
  members = f.members;
  columns = f.columns;
  words = subst (λ (n : ℕ). AllInForm n (rewritten r.rows (anew r)).words) (sym f.members) (anew_form r x f e);
  some_slot = f.some_slot;
  most_slots = f.most_slots;
  number = f.number;
  trusted = f.trusted;
  named = f.named;
  frozen = f.frozen;
  bank = f.bank;
  left = f.left;
  roster = f.roster;
  late = f.late;
  outside = λ e. let o = f.outside e in
      record { late = o.late; first = o.first; trusting = o.trusting; none = o.none; idle = refl; all = o.all };
  decided = f.decided;
  given = f.given;
  counts = f.counts;
  bounded = f.bounded;
  few = f.few;
  items = f.items;
  suspected = early SUSPECTED_COLUMN (omega arith) ∙ f.suspected;
  recv = λ s l. early (recv_column s) (omega (arith, l)) ∙ f.recv s l;
  accept = λ c is. ap accept_promise (row_accept r c f is) ∙ accepted_promise r.roster r.members
      (vote.ballot + 1) vote.value c (own r.rows c) (fits r x f e) is ∙ f.accept c is;
  tagged = λ c is. ap accept_tag (row_accept r c f is)
      ∙ accepted_tag r.roster r.members (vote.ballot + 1) vote.value c (own r.rows c) (fits r x f e) is;
  valued = λ c is. ap accept_value (row_accept r c f is)
      ∙ accepted_value r.roster r.members (vote.ballot + 1) vote.value c (own r.rows c) (fits r x f e) is;
  low = omega (arith, due.ballot);
  waits = λ y q. absurd (cc q);
  votes = let one : waiting r.pending ≡ 1 = ap waiting e in omega (arith, f.votes, one, due.above);
  received = early RECEIVED_COLUMN (omega arith) ∙ f.received;
  beat = omega (arith, early BEAT_COLUMN (omega arith), f.beat);
  acts = f.acts;
  published = omega (arith, early LOGGED_COLUMN (omega arith), f.published);
  ring = λ k part l. let kept = row_rest r (slot_column r.roster r.window k + part) f
      (omega (arith, f.columns, f.some_slot, l)) (inr (omega arith)) in rw kept (f.ring k part l);
  messages = f.messages;
  short = f.short;
  bytes = f.bytes;
  put = f.put;
  order = f.order;
  logged = f.logged;
  room = f.room;
  small = f.small;
}
  where
    vote : Vote
    vote = vote_waiting r

    due : IsVoteDue r.roster r.tag (promise r) vote
    due = due_waiting r x f e

    early : (c : ℕ) → c < recv_column r.roster → own (accepted r).rows c ≡ own r.rows c
    early c low = row_rest r c f (omega (arith, f.columns, low)) (inl low)

-- no word falls by it
pub accepted_rises : (r : Replica) (x : Vote) (c : ℕ) → HasForm r → r.pending ≡ Some x
    → own r.rows c ≤ anew r c (own r.rows c)
accepted_rises r x c f e = (anew_grown r x c f e).number

pub accepted_grown : (r : Replica) (x : Vote) → HasForm r → r.pending ≡ Some x
    → Grown r.roster r.rows.words (accepted r).rows.words r.rows.frozen r.rows.frozen
accepted_grown r x f e = rewritten_grown r.roster r.rows (anew r) f.rows (λ c. anew_grown r x c f e)

pub own_waits : (me : ℕ) (o : Option Vote) → is_own me o ≡ true → (x : Vote) × (o ≡ Some x)
own_waits me None e = absurd (cc e)
own_waits me (Some x) e = (x, refl)

pub others_wait : (me : ℕ) (o : Option Vote) → is_others me o ≡ true → (x : Vote) × (o ≡ Some x)
others_wait me None e = absurd (cc e)
others_wait me (Some x) e = (x, refl)

-- where one's own vote waits, or another's, one does
pub own_is_there : (me : ℕ) (o : Option Vote) → is_own me o ≡ true → is_some o ≡ true
own_is_there me o e = let x = own_waits me o e in ap is_some x.1

pub others_is_there : (me : ℕ) (o : Option Vote) → is_others me o ≡ true → is_some o ≡ true
others_is_there me o e = let x = others_wait me o e in ap is_some x.1

-- nor where a value is accepted
pub accepted_received : (r : Replica) (x : Vote) → HasForm r → r.pending ≡ Some x
    → least_seen r RECEIVED_COLUMN ≤ least_seen (accepted r) RECEIVED_COLUMN
accepted_received r x form e =
    grown_received r (accepted r) r.rows.frozen r.rows.frozen refl (accepted_grown r x form e)

-- nor does a take
pub took_told : (letter : Option (List Entry)) (r : Running)
    → told (settled (took_letter letter r)).replica ≡ told r.replica
took_told None r = ap told (settle_replica _ (took_letter None r))
took_told (Some letter) r = ap told (settle_replica _ (took_letter (Some letter) r)) ∙ join_told r.replica letter
