-- What the accept words of one row tell together: words that were seen one by one are not torn.
use Rattle.std.proofs.Common.{Bool, Some, ap, arith, false, inl, inr, length, refl, slice_index, subst, suc, sym, true, zero, ℕ, ◌+◌, ◌<◌, ◌∙◌, ◌≡◌, ◌≤◌, ◌⊎◌}
use Rattle.dr_entry.specs.{declared.limits.TheConstants.MAX_MEMBERS, declared.record.Value.Value}
use Rattle.dr_entry.proofs.Records.{same_value}
use Rattle.dr_history.specs.Members.{has}
use Rattle.dr_machine.specs.{Group.{Group, roster}, Guards.CanLogVote, Votes.{HasVoted, Votes, vote_in}}
use Rattle.dr_machine.specs.World.{World, shown}
use Rattle.dr_faithful.{specs.{Faithful.{Faithful, Numbers}, Tells.Views}, proofs.Votes.not_yet}
use Rattle.dr_vote_laws.{specs.{Tells.{TellsVote, tag_in}, Voting.{IsValueOf, Voting}}, proofs.Accepting.shown_tells}
use Rattle.dr_words.specs.{Accepts.{Shows, part_of}, Columns.{leavers_column, trim_column}}
use Rattle.dr_words.specs.{Packing.{accept_promise, accept_tag, accept_value}, Rewrites.is_accept_of}
use Rattle.dr_words.proofs.Accepts.{leavers_accept, part_leavers, part_trim, trim_accept}

-- ---- torn rows

-- of two words of a row with one promise, the tag of one that is no higher than the promise is no higher than
-- that of the other
tag_le : (g : Group) (own : Numbers) (votes : Votes) (i v c d word other promise : ℕ)
    → TellsVote g own votes i v c word → TellsVote g own votes i v d other
    → accept_promise word ≡ promise → accept_tag other ≤ promise → accept_tag other ≤ accept_tag word
tag_le g own votes i v c d word other promise told tells e low = by (accept_tag other) refl
  where
    by : (t : ℕ) → accept_tag other ≡ t → accept_tag other ≤ accept_tag word
    by zero z = omega (arith, z)
    by (suc b) z =
        let x = tells.voted b (omega (arith, z)) in
        let passed = told.passed b x.0 x.1 (omega (arith, z, e, low)) in omega (arith, z, passed)

-- a row is not torn: its words have one tag
pub not_torn : (g : Group) (own : Numbers) (votes : Votes) (i v c d word other promise : ℕ)
    → TellsVote g own votes i v c word → TellsVote g own votes i v d other
    → accept_promise word ≡ promise → accept_promise other ≡ promise
    → accept_tag word ≤ promise → accept_tag other ≤ promise → accept_tag other ≡ accept_tag word
not_torn g own votes i v c d word other promise told tells e h l k = omega (
  arith,
  tag_le g own votes i v c d word other promise told tells e k,
  tag_le g own votes i v d c other word promise tells told h l,
)

-- ---- values

-- a row of which all accept words have the tag of a ballot shows the value of its vote by this ballot
pub shows_voted : (g : Group) (V : Views) (w : World) (m i b : ℕ) (v : Value) → Faithful g V w
    → Voting g V w → length v.trim ≡ MAX_MEMBERS
    → ((c : ℕ) → is_accept_of (roster g) (w.members m) c ≡ true → accept_tag (shown w m i c) ≡ b + 1)
    → Shows (roster g) (shown w m) (w.members m) i v → HasVoted g w.past.votes i (w.past.view m) b v
shows_voted g V w m i b v f old long tags shows =
    subst (λ y. HasVoted g w.past.votes i (w.past.view m) b y) (sym same) first.1
  where
    told : (c : ℕ) → is_accept_of (roster g) (V (w.past.view m)) c ≡ true → (x : Value)
        × HasVoted g w.past.votes i (w.past.view m) b x × (accept_value (shown w m i c) ≡ part_of (roster g) x c)
    told c a = (shown_tells g V w m i c old a).voted b (tags c (rw (f.views.own m) a))

    first : (x : Value) × HasVoted g w.past.votes i (w.past.view m) b x
        × (accept_value (shown w m i (leavers_column (roster g))) ≡ part_of (roster g) x (leavers_column (roster g)))
    first = told (leavers_column (roster g)) (leavers_accept (roster g) (V (w.past.view m)))

    valid : IsValueOf (V (w.past.view m)) first.0
    valid = old.valid.value i (w.past.view m) b first.0 first.1

    trim : (s : ℕ) → (k : Bool) → has (w.members m) s ≡ k → slice_index v.trim s ≡ slice_index first.0.trim s
    trim s true h =
        let there : has (V (w.past.view m)) s ≡ true = ap (λ k. has k s) (sym (f.views.own m)) ∙ h in
        let one = told (trim_column (roster g) s)
        (trim_accept (roster g) (V (w.past.view m)) s (f.views.within (w.past.view m) s there) there) in
        let is : one.0 ≡ first.0 = old.valid.one i (w.past.view m) b one.0 first.0 one.1 first.1 in
        shows.trims s h ∙ one.2 ∙ part_trim (roster g) one.0 s (trim_column (roster g) s) refl
        ∙ ap (λ (x : Value). slice_index x.trim s) is
    trim s false h = shows.others s h ∙ sym (valid.others s (ap (λ k. has k s) (sym (f.views.own m)) ∙ h))

    same : v ≡ first.0
    same = same_value v first.0 (long ∙ sym valid.whole) (shows.leavers ∙ first.2
        ∙ part_leavers (roster g) first.0 (leavers_column (roster g)) refl) (λ s. trim s (has (w.members m) s) refl)

-- ---- a member that may vote

-- it has no vote by the ballot of its promise yet
pub no_vote_yet : (g : Group) (V : Views) (w : World) (m : ℕ) (v : Value) → CanLogVote g w m v
    → Faithful g V w → Voting g V w → (x : Value) → HasVoted g w.past.votes m (w.past.view m) (w.promise m) x → ⊥
no_vote_yet g V w m v can f old x h = by (old.acted.below m (w.past.view m) (w.promise m) x h)
  where
    tag : tag_in g w.past.own m (w.past.view m) ≡ w.tag m
    tag = f.accepts.tagged m (leavers_column (roster g)) (leavers_accept (roster g) (V (w.past.view m)))

    by : (w.promise m < tag_in g w.past.own m (w.past.view m))
        ⊎ (w.pending m ≡ Some (vote_in g (w.past.view m) (w.promise m) x)) → ⊥
    by (inl l) = absurd (omega (arith, l, tag, not_yet g V w m v can f))
    by (inr p) = absurd (cc (can.may.idle, p))
