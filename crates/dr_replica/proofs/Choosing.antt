-- What the tests and values of a change of the view tell of a replica, by where it stands.
use Rattle.std.specs.Prelude.{MatchOption, ◌↔◌}
use Rattle.std.proofs.Common.{◌≡◌, refl, sym, subst, ◌∙◌, ℕ, Bool, true, false, Option, None, Some, is_some, length}
use Rattle.dr_entry.{specs.declared.record.Value.Value, proofs.BoolFacts.untrue}
use Rattle.dr_lead.specs.Accepts as lead_accepts
use Rattle.dr_lead.specs.Changes as lead
use Rattle.dr_lead.specs.{Standings.IsStanding, declared.standing.Standing.Standing}
use Rattle.dr_rows.specs.Words.{seen}
use Rattle.dr_words.specs.{Accepts.{Shows, promise_of, trim_word}, Changes.{IsProposal, MayAccept, MayPropose}}
use Rattle.dr_words.specs.{Choices.{proposal, shown_value}, Packing.accept_value}
use Rattle.dr_words.proofs.Choices.{accept_test, proposal_is, proposal_long, propose_test, shows_value, trims_long}
use Rattle.dr_words.proofs.Values.{proposal_once, shows_once}
use Rattle.dr_program.specs.{Form.HasForm, Replica.{Replica, is_inside, may_accept, may_propose, me, value_due}}
use Rattle.dr_program.proofs.Voting.{self_left, view_small}

-- it stands as the replica says, its history logged
pub record StandsAs (r : Replica) (s : Standing) : Type 0 where
  pub form : IsStanding r.rows s
  pub members : s.members ≡ r.members
  pub suspects : s.suspects ≡ r.suspects
  pub logged : s.caught_up ≡ true

-- the standing of a replica that is the same
pub stands : (r now : Replica) (s : Standing) → r ≡ now → IsStanding now.rows s → s.members ≡ now.members
    → s.suspects ≡ now.suspects → s.caught_up ≡ true → StandsAs r s
stands r now s same form members suspects logged = subst (λ (x : Replica). StandsAs x s) (sym same)
    (record { form = form; members = members; suspects = suspects; logged = logged })

-- what holds by the standing holds by the replica, and the other way round
to_replica : (r : Replica) (s : Standing) (P : ℕ → ℕ → ℕ → ℕ → Type 0) → HasForm r → StandsAs r s
    → P r.rows.members s.members s.suspects s.me → P r.roster r.members r.suspects (me r)
to_replica r s P f is p = subst (λ (k : ℕ). P r.roster r.members r.suspects k) is.form.me
    (subst (λ (k : ℕ). P r.roster r.members k s.me) is.suspects
    (subst (λ (k : ℕ). P r.roster k s.suspects s.me) is.members
    (subst (λ (k : ℕ). P k s.members s.suspects s.me) f.members p)))

to_standing : (r : Replica) (s : Standing) (P : ℕ → ℕ → ℕ → ℕ → Type 0) → HasForm r → StandsAs r s
    → P r.roster r.members r.suspects (me r) → P r.rows.members s.members s.suspects s.me
to_standing r s P f is p = subst (λ (k : ℕ). P k s.members s.suspects s.me) (sym f.members)
    (subst (λ (k : ℕ). P r.roster k s.suspects s.me) (sym is.members)
    (subst (λ (k : ℕ). P r.roster r.members k s.me) (sym is.suspects)
    (subst (λ (k : ℕ). P r.roster r.members r.suspects k) (sym is.form.me) p)))

-- the relations at the replica's rows
abbrev ToPropose : Replica → ℕ → ℕ → ℕ → ℕ → Type 0
ToPropose r n members suspects k = MayPropose n (seen r.rows) members suspects k

abbrev ToAccept : Replica → ℕ → ℕ → ℕ → ℕ → Type 0
ToAccept r n members suspects k = MayAccept n (seen r.rows) members suspects k

-- an answer by such a relation at the standing tells the test that decides it at the replica
test_told : (r : Replica) (s : Standing) (o : Option Value) (P : ℕ → ℕ → ℕ → ℕ → Type 0) (Q : Value → Type 0)
    (test : Bool) → (test ≡ true) ↔ P r.roster r.members r.suspects (me r) → HasForm r → StandsAs r s
    → MatchOption o (¬ (P r.rows.members s.members s.suspects s.me × (s.caught_up ≡ true)))
    (λ v. (P r.rows.members s.members s.suspects s.me × (s.caught_up ≡ true)) × Q v) → is_some o ≡ test
test_told r s None P Q test law f is told =
    sym (untrue test (λ e. told (to_standing r s P f is (law.0 e), is.logged)))
test_told r s (Some v) P Q test law f is told = sym (law.1 (to_replica r s P f is told.0.0))

-- whether it may propose
pub propose_told : (r : Replica) (s : Standing) (o : Option Value) → HasForm r → StandsAs r s
    → MatchOption o (¬ lead.MayPropose r.rows s) (λ v. lead.MayPropose r.rows s × lead.IsProposal r.rows s v)
    → is_some o ≡ may_propose r
propose_told r s o f is told = test_told r s o (ToPropose r) (lead.IsProposal r.rows s) (may_propose r)
    (propose_test r.roster (seen r.rows) r.members r.suspects (me r) (view_small r f)) f is told

-- whether it may accept
pub accept_told : (r : Replica) (s : Standing) (o : Option Value)
    → HasForm r → StandsAs r s → MatchOption o (¬ lead.MayAccept r.rows s) (λ v. lead.MayAccept r.rows s
    × lead_accepts.RowShows r.rows s.members (lead_accepts.promise_of r.rows s.me) v) → is_some o ≡ may_accept r
accept_told r s o f is told = test_told r s o (ToAccept r)
    (lead_accepts.RowShows r.rows s.members (lead_accepts.promise_of r.rows s.me)) (may_accept r)
    (accept_test r.roster (seen r.rows) r.members r.suspects (me r) (view_small r f)) f is told

-- the value that it proposes
pub proposes : (r : Replica) (s : Standing) (o : Option Value) (v : Value) → HasForm r → is_inside r ≡ true
    → StandsAs r s → MatchOption o (¬ lead.MayPropose r.rows s)
    (λ v. lead.MayPropose r.rows s × lead.IsProposal r.rows s v) → o ≡ Some v → length v.trim ≡ 16 → v ≡ value_due r
proposes r s o v f inside is told there long = by o told there
  where
    due : may_propose r ≡ true → value_due r ≡ proposal r.roster (seen r.rows) r.members r.suspects
    due e = rw e refl

    value : lead.MayPropose r.rows s × lead.IsProposal r.rows s v → v ≡ value_due r
    value t =
        let may : may_propose r ≡ true = (propose_test r.roster
        (seen r.rows) r.members r.suspects (me r) (view_small r f)).1 (to_replica r s (ToPropose r) f is t.0.0) in
        proposal_once r.roster (seen r.rows) r.members r.suspects v (proposal r.roster
        (seen r.rows) r.members r.suspects) (long ∙ sym (proposal_long r.roster (seen r.rows) r.members r.suspects))
        (to_replica r s (λ n members suspects k. IsProposal n (seen r.rows) members suspects v) f is t.1)
        (proposal_is r.roster (seen r.rows) r.members r.suspects (me r) (view_small r f) (self_left r f inside))
        ∙ sym (due may)

    by : (o : Option Value) → MatchOption o (¬ lead.MayPropose r.rows s)
        (λ v. lead.MayPropose r.rows s × lead.IsProposal r.rows s v) → o ≡ Some v → v ≡ value_due r
    by None t e = absurd (cc e)
    by (Some u) t e =
        let same : u ≡ v = cc e in
        value (subst (λ (x : Value). lead.MayPropose r.rows s × lead.IsProposal r.rows s x) same t)

-- and the one that it accepts, where it may not propose
pub accepts : (r : Replica) (s : Standing) (v : Value) → HasForm r → StandsAs r s → may_propose r ≡ false
    → lead_accepts.RowShows r.rows s.members (lead_accepts.promise_of r.rows s.me) v
    → length v.trim ≡ 16 → v ≡ value_due r
accepts r s v f is none shows long = shows_once r.roster (seen r.rows) r.members (promise_of r.roster
    (seen r.rows) (me r)) v (shown_value r.roster (seen r.rows) r.members (promise_of r.roster (seen r.rows) (me r)))
    (long ∙ sym (trims_long r.members (λ k. accept_value (trim_word r.roster (seen r.rows)
    (promise_of r.roster (seen r.rows) (me r)) k)))) (to_replica r s
    (λ n members suspects k. Shows n (seen r.rows) members (promise_of n (seen r.rows) k) v) f is shows)
    (shows_value r.roster (seen r.rows) r.members (promise_of r.roster (seen r.rows) (me r)) (view_small r f))
    ∙ sym due
  where
    due : value_due r ≡ shown_value r.roster (seen r.rows) r.members (promise_of r.roster (seen r.rows) (me r))
    due = rw none refl

-- ---- votes

-- ---- the vote that waits
