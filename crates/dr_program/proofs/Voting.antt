-- Votes of a replica: which value it votes for, that accept words hold it, and that its votes are few.
use Rattle.std.specs.{Cmp.Lexicographic.{other_text, same_text}, List.{list_all, range_with_len}}
use Rattle.std.specs.Prelude.{Option, Some, None, is_some, nat_eq}
use Rattle.std.proofs.Common.{◌≡◌, ◌↔◌, refl, sym, ap, ◌∙◌, subst, ℕ, suc, suc-mul, mul-le-mul_right, ◌+◌, ◌*◌, ◌^◌, ◌<◌, ◌≤◌, ◌==◌, ◌||◌, ◌⊎◌, inl, inr, not, Bool, true, false, List, [], ◌∷◌, length, slice_index, arith, ◌&&◌, nat_lt}
use Rattle.std.proofs.lemmas.Bool.{and_from, and_parts, cases_lt, eq-eqb, eqb-true, Decides.nat_tests}
use Rattle.std.proofs.lemmas.List.{get_or_past, Folds.list_all_at, FromFn.get_or-range_with_len}
use lib.Pointwise.{pointwise}
use Rattle.dr_entry.specs.{Spelling.IsValidVote, declared.record.{Value.Value, Vote.Vote}}
use Rattle.dr_entry.proofs.{BoolFacts.{same_test, untrue, no_letter}, Records.same_value}
use Rattle.dr_history.{specs.Members.has, proofs.Bits.has_zero}
use Rattle.dr_rows.specs.Words.{seen}
use Rattle.dr_words.specs.{Accepts.{Shows, promise_of, tag_of, trim_word}, Form.IsInForm, Packing.accept_value}
use Rattle.dr_words.specs.{Changes.{IsFirstValue, IsLeastReceived, IsProposal}, Choices.{proposal, shown_value}}
use Rattle.dr_words.{specs.Columns.{leavers_column, recv_column, trim_column}, proofs.Accepts.leavers_accept}
use Rattle.dr_words.{specs.Masks.without, proofs.Masks.{has_without_mask, in_roster_small}}
use Rattle.dr_words.proofs.Choices.{accept_test, proposal_is, proposal_long, propose_test, trims_long}
use Rattle.dr_words.proofs.Choices as choices
use Rattle.dr_program.specs.Form.{HasForm, IsVoteDue, waiting}
use Rattle.dr_program.specs.Replica.{Replica, is_value, is_wedged, may_accept, may_append, may_propose, may_vote, me, promise, value_due, vote_of, is_inside, is_welcomer, may_give}

-- ---- the value

-- a value that is due has a trim for each member that a roster can have
pub value_long : (r : Replica) → length (value_due r).trim ≡ 16
value_long r = by (may_propose r) refl
  where
    by : (b : Bool) → may_propose r ≡ b → length (value_due r).trim ≡ 16
    by true e =
        let same : value_due r ≡ proposal r.roster (seen r.rows) r.members r.suspects = rw e refl in
        ap (λ (v : Value). length v.trim) same ∙ proposal_long r.roster (seen r.rows) r.members r.suspects
    by false e =
        let same : value_due r
        ≡ shown_value r.roster (seen r.rows) r.members (promise_of r.roster (seen r.rows) (me r)) = rw e refl in
        ap (λ (v : Value). length v.trim) same ∙ trims_long r.members
        (λ s. accept_value (trim_word r.roster (seen r.rows) (promise_of r.roster (seen r.rows) (me r)) s))

-- equal values
pub value_test : (u v : Value) → length v.trim ≡ 16 → (is_value u v ≡ true) ↔ (u ≡ v)
value_test u v long = (
  λ e. let two = and_parts (u.leavers == v.leavers) _ e in
      let three = and_parts (length u.trim == 16) _ two.1 in
      let size : length u.trim ≡ 16 = eqb-true (length u.trim) 16 three.0 in
      same_value u v (size ∙ sym long) (eqb-true u.leavers v.leavers two.0)
      (λ s. each s three.1 size (cases_lt s 16)),
  λ same. subst (λ x. is_value x v ≡ true) (sym same) (and_from _ _ (eq-eqb v.leavers v.leavers refl)
      (and_from _ _ (eq-eqb (length v.trim) 16 long) (all_same (range_with_len 0 16)))),
)
  where
    test : ℕ → Bool
    test s = slice_index u.trim s == slice_index v.trim s

    all_same : (xs : List ℕ) → list_all (λ s. slice_index v.trim s == slice_index v.trim s) xs ≡ true
    all_same [] = refl
    all_same (x ∷ xs) = and_from _ _ (eq-eqb (slice_index v.trim x) (slice_index v.trim x) refl) (all_same xs)

    each : (s : ℕ) → list_all test (range_with_len 0 16) ≡ true → length u.trim ≡ 16
        → (s < 16) ⊎ (16 ≤ s) → slice_index u.trim s ≡ slice_index v.trim s
    each s e size (inl l) = by (test s) refl
      where
        start : 0 + s ≡ s
        start = omega arith

        here : test s ≡ false → list_all test (range_with_len 0 16) ≡ false
        here f = list_all_at test (range_with_len 0 16) s 0 (omega (arith, l))
            (ap test (get_or-range_with_len 0 16 s 0 l ∙ start) ∙ f)

        by : (b : Bool) → test s ≡ b → slice_index u.trim s ≡ slice_index v.trim s
        by true t = eqb-true _ _ t
        by false f = absurd (cc (here f, e))
    each s e size (inr h) = get_or_past u.trim s 0 (omega (arith, h, size))
        ∙ sym (get_or_past v.trim s 0 (omega (arith, h, long)))

-- what a vote for a value asks
record IsVoting (r : Replica) (v : Value) : Type 0 where
  wedged : is_wedged r ≡ true
  uncommitted : not (is_some r.committed) ≡ true
  logged : not (may_append r) ≡ true
  allowed : (may_propose r || may_accept r) ≡ true
  value : v ≡ value_due r

voting : (r : Replica) (v : Value) → may_vote r v ≡ true → IsVoting r v
voting r v e =
    let a = and_parts (is_wedged r) _ e in
    let b = and_parts (not (is_some r.committed)) _ a.1 in
    let c = and_parts (not (may_append r)) _ b.1 in
    let d = and_parts (may_propose r || may_accept r) (is_value v (value_due r)) c.1 in record {
      wedged = a.0;
      uncommitted = b.0;
      logged = c.0;
      allowed = d.0;
      value = (value_test v (value_due r) (value_long r)).0 d.1;
    }

-- it votes for the value that is due
pub votes_for : (r : Replica) (v : Value) → may_vote r v ≡ true → v ≡ value_due r
votes_for r v e = (voting r v e).value

-- ---- the own row

-- it shows the promise and the tag
pub own_promise : (r : Replica) → HasForm r → promise_of r.roster (seen r.rows) (me r) ≡ promise r
own_promise r f = f.accept (leavers_column r.roster) (leavers_accept r.roster r.members)

pub own_tag : (r : Replica) → HasForm r → tag_of r.roster (seen r.rows) (me r) ≡ r.tag
own_tag r f = f.tagged (leavers_column r.roster) (leavers_accept r.roster r.members)

-- each word is in form
seen_form : (r : Replica) (i c : ℕ) → HasForm r → IsInForm r.roster c (seen r.rows i c)
seen_form r i c f = subst (λ (n : ℕ). IsInForm n c (seen r.rows i c)) f.members (f.words i c)

-- the promise is to a member of the roster
pub promise_within : (r : Replica) → HasForm r → promise r < r.roster
promise_within r f =
    let low = (seen_form r (me r) (leavers_column r.roster) f).promise (inl refl) in
    omega (arith, low, own_promise r f)

-- the view is of 16 members at most, and it is itself one that it doesn't suspect
pub view_small : (r : Replica) → HasForm r → r.members < 2 ^ 16
view_small r f = in_roster_small 16 r.members (λ i there. omega (arith, f.roster i there, f.members, f.rows.few))

pub self_left : (r : Replica) → HasForm r → is_inside r ≡ true → has (without r.members r.suspects) (me r) ≡ true
self_left r f inside = has_without_mask r.members r.suspects (me r) (view_small r f)
    ∙ and_from _ _ inside (ap not f.trusted)

-- who is wedged is in its view
pub wedged_inside : (r : Replica) → HasForm r → is_wedged r ≡ true → is_inside r ≡ true
wedged_inside r f wedged = by (is_inside r) refl
  where
    by : (b : Bool) → is_inside r ≡ b → b ≡ true
    by true e = refl
    by false e = let none = (f.outside e).trusting in absurd (grind (arith, wedged, none))

-- ---- the ballot

-- it has not yet voted by the ballot of its promise
pub not_yet : (r : Replica) (v : Value) → HasForm r → may_vote r v ≡ true → r.tag ≤ promise r
not_yet r v f e = by (may_propose r) refl
  where
    by : (b : Bool) → may_propose r ≡ b → r.tag ≤ promise r
    by true p =
        let t = (propose_test r.roster (seen r.rows) r.members r.suspects (me r) (view_small r f)).0 p in
        omega (arith, t.unproposed, t.promised, own_promise r f, own_tag r f, f.low)
    by false p =
        let accepts : may_accept r ≡ true = sym (ap (λ b. b || may_accept r) p) ∙ (voting r v e).allowed in
        let t = (accept_test r.roster (seen r.rows) r.members r.suspects (me r) (view_small r f)).0 accepts in
        omega (arith, t.unaccepted, own_promise r f, own_tag r f, f.low)

-- by the end of its view it has voted once by each ballot of each view so far
ballots_within : (r : Replica) → HasForm r → r.view * r.roster + r.roster ≤ r.banks * r.roster
ballots_within r f =
    let next : suc r.view ≤ r.banks = omega (arith, f.bank) in
    omega (arith, suc-mul r.view r.roster, mul-le-mul_right r.roster next)

-- there is room for one vote more of those that the members of a roster can ask for in all views
pub vote_room : (r : Replica) (v : Value) → HasForm r → r.pending ≡ None → may_vote r v ≡ true
    → length r.votes < r.banks * r.roster
vote_room r v f none e =
    let waits : waiting r.pending ≡ 0 = ap waiting none in
    omega (arith, f.votes, waits, not_yet r v f e, promise_within r f, ballots_within r f)

-- so it has no more votes than there are members in the roster for each view
pub votes_within : (r : Replica) → HasForm r → length r.votes ≤ r.banks * r.roster
votes_within r f = by r.pending refl
  where
    by : (o : Option Vote) → r.pending ≡ o → length r.votes ≤ r.banks * r.roster
    by None e =
        let waits : waiting r.pending ≡ 0 = ap waiting e in
        omega (arith, f.votes, waits, f.low, promise_within r f, ballots_within r f)
    by (Some x) e =
        let waits : waiting r.pending ≡ 1 = ap waiting e in
        omega (
          arith,
          f.votes,
          waits,
          (f.waits x e).above,
          (f.waits x e).ballot,
          promise_within r f,
          ballots_within r f,
        )

-- ---- the value's parts

-- a value whose parts accept words hold, in a view of these members
record Fits (n members : ℕ) (v : Value) : Type 0 where
  leavers : v.leavers < 2 ^ n
  trims : (s : ℕ) → slice_index v.trim s < 2 ^ 32
  others : (s : ℕ) → has members s ≡ false → slice_index v.trim s ≡ 0

shown_fits : (r : Replica) (i : ℕ) (v : Value) → HasForm r
    → Shows r.roster (seen r.rows) r.members i v → Fits r.roster r.members v
shown_fits r i v f shows = record {
  leavers = rw shows.leavers ((seen_form r i (leavers_column r.roster) f).leavers refl);
  trims = λ s. by s (has r.members s) refl;
  others = shows.others;
}
  where
    by : (s : ℕ) (b : Bool) → has r.members s ≡ b → slice_index v.trim s < 2 ^ 32
    by s true h = rw (shows.trims s h) ((seen_form r i (trim_column r.roster s) f).trim s (f.roster s h) refl)
    by s false h = rw (shows.others s h) (omega arith)

first_fits : (r : Replica) (v : Value) → HasForm r
    → IsFirstValue (seen r.rows) r.members r.suspects v → Fits r.roster r.members v
first_fits r v f first = record {
  leavers = rw first.leavers (in_roster_small r.roster r.suspects f.named);
  trims = λ s. by s (has r.members s) refl;
  others = first.others;
}
  where
    least : (s : ℕ) → has r.members s ≡ true
        → IsLeastReceived (seen r.rows) (without r.members r.suspects) s (slice_index v.trim s)
        → slice_index v.trim s < 2 ^ 32
    least s h t = omega (arith, t.found.2, (seen_form r t.found.0 (recv_column s) f).recv s (f.roster s h) refl)

    by : (s : ℕ) (b : Bool) → has r.members s ≡ b → slice_index v.trim s < 2 ^ 32
    by s true h = least s h (first.trims s h)
    by s false h = rw (first.others s h) (omega arith)

due_fits : (r : Replica) → HasForm r → is_inside r ≡ true → Fits r.roster r.members (value_due r)
due_fits r f inside = by (may_propose r) refl
  where
    proposed : IsProposal r.roster (seen r.rows) r.members r.suspects
        (proposal r.roster (seen r.rows) r.members r.suspects)
        → Fits r.roster r.members (proposal r.roster (seen r.rows) r.members r.suspects)
    proposed (inl t) = shown_fits r t.0 _ f t.2
    proposed (inr t) = first_fits r _ f t.1

    by : (b : Bool) → may_propose r ≡ b → Fits r.roster r.members (value_due r)
    by true e =
        let same : value_due r ≡ proposal r.roster (seen r.rows) r.members r.suspects = rw e refl in
        subst (Fits r.roster r.members) (sym same)
        (proposed (proposal_is r.roster (seen r.rows) r.members r.suspects (me r) (view_small r f)
        (self_left r f inside)))
    by false e =
        let same : value_due r
        ≡ shown_value r.roster (seen r.rows) r.members (promise_of r.roster (seen r.rows) (me r)) = rw e refl in
        subst (Fits r.roster r.members) (sym same) (shown_fits r (promise_of r.roster (seen r.rows) (me r)) _ f
        (choices.shows_value r.roster (seen r.rows) r.members (promise_of r.roster (seen r.rows) (me r))
        (view_small r f)))

-- a vote that it may log is one that may wait
pub vote_due : (r : Replica) (v : Value) → HasForm r → may_vote r v ≡ true
    → IsVoteDue r.roster r.tag (promise r) (vote_of r v)
vote_due r v f e =
    let fits : Fits r.roster r.members v = subst (Fits r.roster r.members) (sym (votes_for r v e)) (due_fits r f (wedged_inside r f (voting r v e).wedged)) in record {
      ballot = omega arith;
      above = not_yet r v f e;
      leavers = fits.leavers;
      trims = fits.trims;
    }

-- and it is a valid record
pub vote_valid : (r : Replica) (v : Value) → HasForm r → may_vote r v ≡ true → IsValidVote (vote_of r v)
vote_valid r v f e =
    let fits : Fits r.roster r.members v = subst (Fits r.roster r.members) (sym (votes_for r v e)) (due_fits r f (wedged_inside r f (voting r v e).wedged)) in record {
      members = omega (arith, f.members, f.rows.few);
      ballot = promise_within r f;
      leavers = fits.leavers;
      trim = λ s past. by fits s past (has r.members s) refl;
    }
  where
    by : Fits r.roster r.members v → (s : ℕ) → r.roster ≤ s → (b : Bool) → has r.members s ≡ b
        → slice_index v.trim s ≡ 0
    by fits s past true h = absurd (omega (arith, f.roster s h, past))
    by fits s past false h = fits.others s h

-- a value that is compared with the one that is due
pub value_compared : (r : Replica) (u : Value) (b : Bool)
    → b ≡ ((u.leavers == (value_due r).leavers) && pointwise nat_eq u.trim (value_due r).trim)
    → b ≡ is_value u (value_due r)
value_compared r u b told = same_test b (is_value u due) to from
  where
    due : Value
    due = value_due r

    to : b ≡ true → is_value u due ≡ true
    to e =
        let two = and_parts (u.leavers == due.leavers) _ (sym told ∙ e) in
        let leavers : u.leavers ≡ due.leavers = eqb-true u.leavers due.leavers two.0 in
        let trim : u.trim ≡ due.trim = same_text u.trim due.trim (sym two.1) in
        (value_test u due (value_long r)).1 (λ z. record { leavers = leavers z; trim = trim z })

    trims : (t : Bool) → pointwise nat_eq u.trim due.trim ≡ t → u.trim ≡ due.trim
        → pointwise nat_eq u.trim due.trim ≡ true
    trims true e same = e
    trims false e same = absurd (other_text u.trim due.trim (sym e) same)

    from : is_value u due ≡ true → b ≡ true
    from e =
        let same : u ≡ due = (value_test u due (value_long r)).0 e in
        told ∙ and_from _ _ (eq-eqb u.leavers due.leavers (ap (λ (v : Value). v.leavers) same))
        (trims (pointwise nat_eq u.trim due.trim) refl (ap (λ (v : Value). v.trim) same))

pub no_vote_told : (r : Replica) (v : Value) → may_vote r (value_due r) ≡ false → may_vote r v ≡ false
no_vote_told r v none = untrue (may_vote r v) (λ e.
    let due : may_vote r (value_due r) ≡ true = subst (λ (x : Value). may_vote r x ≡ true) (votes_for r v e) e in
    absurd (cc (none, due)))

-- where all of its view were in the one before, it has no letter to give
pub no_letters : (q : Replica) → HasForm q → (without q.members q.came_from == 0) ≡ true
    → (j : ℕ) → may_give q j ≡ false
no_letters q form all j =
    let nobody : without q.members q.came_from ≡ 0 = grind (arith, nat_tests, all) in
    no_letter (nat_lt j q.roster) (is_welcomer q) (has q.members j) (has q.came_from j) (has q.given j)
    (sym (has_without_mask q.members q.came_from j (view_small q form)) ∙ ap (λ mask. has mask j) nobody ∙ has_zero j)
