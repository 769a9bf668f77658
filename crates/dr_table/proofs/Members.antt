-- A seated member takes a step or appends, and goes back into a hand: what is known of it then.
use Rattle.std.specs.Prelude.{None, is_some}
use Rattle.std.proofs.Common.{◌≡◌, sym, ap, ◌∙◌, subst, ◌+◌, ◌<◌, List, [], ◌∷◌, ◌++◌, true}
use Rattle.atomic_table.specs.Seated.{TableId}
use Rattle.dr_member.specs.Deeds.{is_append}
use Rattle.dr_program.specs.{Program.appended_as, Running.{Running, next_deed}, declared.outcome.Outcome.Outcome}
use Rattle.dr_program.proofs.Fixed.{told, appended_told, Told}
use Rattle.dr_words.specs.Layout.{words_of}
use Rattle.dr_table.specs.{Cards.IsAtEnd, Inside.IsInsideSeated, Steps.{HasAppended, IsAhead, IsReachedMember, alone}}
use Rattle.dr_table.{specs.declared.seated.SeatedMember.TheInside.Inside, proofs.Keeping.append_reached}
use Rattle.dr_play.proofs.LoggedMembers.{append_stays}

-- ---- appends that no step has counted yet

-- one more
one_more : (os : List Outcome) (o : Outcome) (r q : Running) → HasAppended os r q → is_append (next_deed q) ≡ true
    → HasAppended (os ++ o ∷ []) r (appended_as o q)
one_more [] o r q same due = (ap (λ x. is_append (next_deed x)) same ∙ due, ap (appended_as o) same)
one_more (p ∷ os) o r q (was, rest) due = (was, one_more os o (appended_as p r) q rest due)

-- a member that has ended is as the seat knows it
ended_same : (os : List Outcome) (r q : Running) → HasAppended os r q → IsAtEnd q → r ≡ q
ended_same [] r q same ended = same
ended_same (o ∷ os) r q (due, rest) ended = absurd (stays os (appended_as o r) rest (append_stays o r due))
  where
    stays : (os : List Outcome) (x : Running) → HasAppended os x q → x.replica.end ≡ None → ⊥
    stays [] x same none = absurd (cc (
      ap (λ (y : Running). is_some y.replica.end) (sym same) ∙ ap is_some none,
      ended,
    ))
    stays (p ∷ os) x (due, rest) none = stays os (appended_as p x) rest (append_stays p x due)

-- ---- what is known of a seated member

-- it is as it was but for its seat and its member
pub record IsSameBut (s k : Inside) : Type 0 where
  pub places : k.places ≡ s.places
  pub rest : k.rest ≡ s.rest

-- the seat knows the member as it was at r, and what the member was told stays
pub inside_after : {s k : Inside} (r : Running) → IsInsideSeated s → IsSameBut s k → k.seat.me ≡ alone r
    → IsAhead r k.member → told k.member.replica ≡ told s.member.replica → IsReachedMember k.member
    → k.seat.table_id ≡ s.seat.table_id → IsInsideSeated k
inside_after {s} {k} r is but to ahead same reached table = record {
  known = (r, to, ahead);
  reached = reached;
  of = ap (λ (t : Told). words_of t.roster t.window t.banks + t.roster) same ∙ is.of
      ∙ ap (λ (t : TableId). t.words) (sym table);
  words = subst (λ (t : TableId). 0 < t.words) (sym table) is.words;
  rest = ap (λ v. v.items) but.rest ∙ is.rest;
  room = rw but.rest (rw but.places is.room);
  one = rw but.rest is.one;
}

-- the member has appended, however that went
pub inside_appended : {s k : Inside} (o : Outcome) → IsInsideSeated s → IsSameBut s k → k.seat ≡ s.seat
    → is_append (next_deed s.member) ≡ true → k.member ≡ appended_as o s.member → IsInsideSeated k
inside_appended {s} {k} o is but seat due to =
    let (r, known, (os, so)) = is.known in
    inside_after r is but (ap (λ y. y.me) seat ∙ known)
    (os ++ o ∷ [], subst (HasAppended (os ++ o ∷ []) r) (sym to) (one_more os o r s.member so due))
    (ap (λ (q : Running). told q.replica) to ∙ appended_told o s.member)
    (subst IsReachedMember (sym to) (append_reached s.member o due is.reached)) (ap (λ y. y.table_id) seat)

-- where it has ended the seat knows it as it is
pub known_at_end : (s : Inside) → IsInsideSeated s → IsAtEnd s.member → s.seat.me ≡ alone s.member
known_at_end s is ended = let (r, known, (os, so)) = is.known in known ∙ ap alone (ended_same os r s.member so ended)
