-- The functions that compute tests and values are the definitions of when rows allow a vote, and of which.
use Rattle.std.proofs.Common.{◌≡◌, ◌≢◌, ◌↔◌, ℕ, ◌+◌, ◌^◌, ◌<◌, ◌≤◌, ◌==◌, ◌&&◌, not, nat_lt, Bool, true, false, refl, sym, ap, ◌∙◌, ◌⊎◌, inl, inr, subst, arith, length, map, fold, min, max, slice_index, if◌then◌else◌}
use Rattle.std.proofs.lemmas.Bool.{and_from, and_parts, cases_eq, cases_lt, eqb-true, Decides.nat_tests}
use Rattle.std.proofs.lemmas.List.{get_or_past, FromFn.{get_or-map-range_with_len, length-map-range_with_len}}
use Rattle.dr_entry.{specs.declared.record.Value.Value, proofs.NumberFacts.{equal_test, other_test}}
use Rattle.dr_history.{specs.Members.{has, members_of}, proofs.{Masks.none_above, Tests.all_members}}
use Rattle.dr_history.proofs.Choices.{min_below, IsFound, min_found, small_member, max_above, max_found}
use Rattle.dr_words.specs.Accepts.{AllPromise, AllTag, Shown, Shows, promise_of, tag_of, trim_word}
use Rattle.dr_words.specs.Changes.{AllFinal, IsFirstValue, IsHighest, IsLeastReceived, IsProposal, MayAccept, MayCommit, MayPropose, received, tagged_members}
use Rattle.dr_words.specs.Choices.{all_final, all_of, all_promise, all_tag, first_value, highest_row, highest_tag, is_majority, least_received, may_accept, may_commit, may_propose, proposal, shown_value, trims_of}
use Rattle.dr_words.specs.{Columns.recv_column, Masks.{IsLeastOf, IsMajorityOf, least_of, mask_of, without}}
use Rattle.dr_words.specs.Packing.{accept_promise, accept_tag, accept_value, is_final, recv_count}
use Rattle.dr_words.proofs.{Columns.AreAlike, Masks.{has_mask_of, least_of_is, mask_of_small}, Tests.each_member}
use Rattle.dr_words.specs.Choices as choices

-- ---- the least and the greatest over the members of a mask

-- ---- values

trim_is : (members : ℕ) (trim : ℕ → ℕ) (s : ℕ) → members < 2 ^ 16
    → slice_index (trims_of members trim) s ≡ (if has members s then trim s else 0)
trim_is members trim s small = by (cases_lt s 16)
  where
    at : ℕ → ℕ
    at s = if has members s then trim s else 0

    by : (s < 16) ⊎ (16 ≤ s) → slice_index (trims_of members trim) s ≡ at s
    by (inl l) = get_or-map-range_with_len at 0 16 s s 0 l (omega arith)
    by (inr g) = get_or_past (trims_of members trim) s 0 (omega (arith, g, length-map-range_with_len at 0 16))
        ∙ sym (ap (λ (b : Bool). if b then trim s else 0) (none_above members s small g))

trim_member : (members : ℕ) (trim : ℕ → ℕ) (s : ℕ) → members < 2 ^ 16 → has members s ≡ true
    → slice_index (trims_of members trim) s ≡ trim s
trim_member members trim s small h = trim_is members trim s small ∙ ap (λ (b : Bool). if b then trim s else 0) h

trim_other : (members : ℕ) (trim : ℕ → ℕ) (s : ℕ) → members < 2 ^ 16 → has members s ≡ false
    → slice_index (trims_of members trim) s ≡ 0
trim_other members trim s small h = trim_is members trim s small ∙ ap (λ (b : Bool). if b then trim s else 0) h

-- the trims are as many as a roster can have members
pub trims_long : (members : ℕ) (trim : ℕ → ℕ) → length (trims_of members trim) ≡ 16
trims_long members trim = length-map-range_with_len (λ s. if has members s then trim s else 0) 0 16

-- the value that a row shows
pub shows_value : (n : ℕ) (rows : Shown) (members i : ℕ) → members < 2 ^ 16
    → Shows n rows members i (shown_value n rows members i)
shows_value n rows members i small = record {
  leavers = refl;
  trims = λ s h. trim_member members (λ s. accept_value (trim_word n rows i s)) s small h;
  others = λ s h. trim_other members (λ s. accept_value (trim_word n rows i s)) s small h;
}

-- the least count of members of whom there is one
least_is : (rows : Shown) (of sender j : ℕ) → of < 2 ^ 16 → has of j ≡ true
    → IsLeastReceived rows of sender (least_received rows of sender)
unfolding members_of
least_is rows of sender j small there = record {
  least = λ i h. min_below (λ i. received rows i sender) of (received rows (least_of of) sender) i 16
      (small_member of i small h) h;
  found = found (min_found (λ i. received rows i sender) of (received rows (least_of of) sender) 16);
}
  where
    found : IsFound (λ i. received rows i sender) of (received rows (least_of of) sender)
        (least_received rows of sender)
        → (i : ℕ) × (has of i ≡ true) × (least_received rows of sender ≡ received rows i sender)
    found (inl e) = (least_of of, (least_of_is of j small there).member, e)
    found (inr t) = t

-- the first value, where somebody is unsuspected
pub first_is : (rows : Shown) (members suspects j : ℕ) → members < 2 ^ 16 → has (without members suspects) j ≡ true
    → IsFirstValue rows members suspects (first_value rows members suspects)
first_is rows members suspects j small there = record {
  leavers = refl;
  trims = λ s h. subst (IsLeastReceived rows of s) (sym (trim_member members (least_received rows of) s small h))
      (least_is rows of s j (mask_of_small _) there);
  others = λ s h. trim_other members (least_received rows of) s small h;
}
  where
    of : ℕ
    of = without members suspects

-- the row with the highest tag
highest_is : (n : ℕ) (rows : Shown) (of : ℕ) → of < 2 ^ 16 → highest_tag n rows of ≢ 0
    → IsHighest n rows of (highest_row n rows of)
unfolding members_of
highest_is n rows of small some = by (max_found (tag_of n rows) of 0 16)
  where
    top : ℕ
    top = highest_tag n rows of

    test : ℕ → Bool
    test i = has of i && tag_of n rows i == highest_tag n rows of

    passes : (i : ℕ) → has of i ≡ true → highest_tag n rows of ≡ tag_of n rows i → has (mask_of test) i ≡ true
    passes i h e = has_mask_of test i ∙ grind (arith, nat_tests, small_member of i small h, h, e)

    passed : (i : ℕ) → has (mask_of test) i ≡ true → (has of i ≡ true) × (tag_of n rows i ≡ highest_tag n rows of)
    passed i h =
        let two = and_parts (nat_lt i 16) (test i) (sym (has_mask_of test i) ∙ h) in
        let parts = and_parts (has of i) _ two.1 in (parts.0, eqb-true _ _ parts.1)

    each : (j : ℕ) → has of j ≡ true → tag_of n rows j ≤ highest_tag n rows of
    each j h = max_above (tag_of n rows) of 0 j 16 (small_member of j small h) h

    from : IsLeastOf (mask_of test) (least_of (mask_of test)) → IsHighest n rows of (highest_row n rows of)
    from least =
        let mine = passed (highest_row n rows of) least.member in record {
          member = mine.0;
          tagged = omega (arith, mine.1, some);
          highest = λ j h. omega (arith, each j h, mine.1);
          least = λ j h e. least.least j (passes j h (sym mine.1 ∙ sym e));
        }

    by : IsFound (tag_of n rows) of 0 (highest_tag n rows of) → IsHighest n rows of (highest_row n rows of)
    by (inl e) = absurd (some e)
    by (inr t) = from (least_of_is (mask_of test) t.0 (mask_of_small test) (passes t.0 t.1 t.2))

-- the value to propose, where somebody is unsuspected
pub proposal_is : (n : ℕ) (rows : Shown) (members suspects j : ℕ) → members < 2 ^ 16
    → has (without members suspects) j ≡ true → IsProposal n rows members suspects (proposal n rows members suspects)
unfolding members_of
proposal_is n rows members suspects j small there = by (cases_eq (highest_tag n rows of) 0)
  where
    of : ℕ
    of = without members suspects

    by : (highest_tag n rows of ≡ 0) ⊎ (highest_tag n rows of ≢ 0)
        → IsProposal n rows members suspects (proposal n rows members suspects)
    by (inl e) =
        let same : proposal n rows members suspects ≡ first_value rows members suspects = rw e refl in
        subst (IsProposal n rows members suspects) (sym same) (inr (
          λ i h. omega (arith, e, max_above (tag_of n rows) of 0 i 16 (small_member of i (mask_of_small _) h) h),
          first_is rows members suspects j small there,
        ))
    by (inr d) =
        let other : (highest_tag n rows of == 0) ≡ false = grind (arith, nat_tests, d) in
        let same : proposal n rows members suspects ≡ shown_value n rows members (highest_row n rows of) =
        rw other refl in
        subst (IsProposal n rows members suspects) (sym same) (inl (
          highest_row n rows of,
          highest_is n rows of (mask_of_small _) d,
          shows_value n rows members (highest_row n rows of) small,
        ))

-- ---- tests

pub majority_test : (mask all : ℕ) → (is_majority mask all ≡ true) ↔ IsMajorityOf mask all
majority_test mask all = (λ e. grind (arith, nat_tests, e), λ l. grind (arith, nat_tests, l))

-- a test of all members
all_test : (mask : ℕ) (test : ℕ → Bool) → mask < 2 ^ 16
    → (all_of mask test ≡ true) ↔ ((i : ℕ) → has mask i ≡ true → test i ≡ true)
all_test mask test small = (
  λ e i h. each_member test 16 mask (omega arith) (λ i h. small_member mask i small h) e i h,
  λ each. all_members test mask each,
)

promise_test : (n : ℕ) (rows : Shown) (members i promise : ℕ) → members < 2 ^ 16
    → (all_promise n rows members i promise ≡ true) ↔ AllPromise n rows members i promise
promise_test n rows members i promise small = (
  λ e. let two = and_parts (promise_of n rows i == promise) _ e in record {
    leavers = (equal_test _ _).0 two.0;
    trims = λ s h. (equal_test _ _).0 ((all_test members _ small).0 two.1 s h);
  },
  λ all. and_from _ _ ((equal_test (promise_of n rows i) promise).1 all.leavers)
      ((all_test members (λ s. accept_promise (trim_word n rows i s) == promise) small).1
      (λ s h. (equal_test (accept_promise (trim_word n rows i s)) promise).1 (all.trims s h))),
)

tag_test : (n : ℕ) (rows : Shown) (members i tag : ℕ) → members < 2 ^ 16
    → (all_tag n rows members i tag ≡ true) ↔ AllTag n rows members i tag
tag_test n rows members i tag small = (
  λ e. let two = and_parts (tag_of n rows i == tag) _ e in record {
    leavers = (equal_test _ _).0 two.0;
    trims = λ s h. (equal_test _ _).0 ((all_test members _ small).0 two.1 s h);
  },
  λ all. and_from _ _ ((equal_test (tag_of n rows i) tag).1 all.leavers)
      ((all_test members (λ s. accept_tag (trim_word n rows i s) == tag) small).1
      (λ s h. (equal_test (accept_tag (trim_word n rows i s)) tag).1 (all.trims s h))),
)

final_test : (of members : ℕ) (rows : Shown) → of < 2 ^ 16 → members < 2 ^ 16
    → (all_final of members rows ≡ true) ↔ AllFinal of members rows
final_test of members rows small narrow = (
  λ e i s h k. (all_test members (λ s. is_final (rows i (recv_column s))) narrow).0
      ((all_test of (λ i. all_of members (λ s. is_final (rows i (recv_column s)))) small).0 e i h) s k,
  λ all. (all_test of (λ i. all_of members (λ s. is_final (rows i (recv_column s)))) small).1
      (λ i h. (all_test members (λ s. is_final (rows i (recv_column s))) narrow).1 (λ s k. all i s h k)),
)

-- whether the rows allow a proposal
pub propose_test : (n : ℕ) (rows : Shown) (members suspects me : ℕ) → members < 2 ^ 16
    → (may_propose n rows members suspects me ≡ true) ↔ MayPropose n rows members suspects me
propose_test n rows members suspects me small = (
  λ e. let a = and_parts (not (tag_of n rows me == me + 1)) _ e in
      let b = and_parts (promise_of n rows me == me) _ a.1 in
      let c = and_parts (is_majority of members) _ b.1 in
      let d = and_parts (all_final of members rows) _ c.1 in record {
        unproposed = (other_test (tag_of n rows me) (me + 1)).0 a.0;
        promised = (equal_test (promise_of n rows me) me).0 b.0;
        majority = (majority_test of members).0 c.0;
        final = (final_test of members rows (mask_of_small _) small).0 d.0;
        promises = λ i h. (promise_test n rows members i me small).0
            ((all_test of (λ i. all_promise n rows members i me) (mask_of_small _)).0 d.1 i h);
      },
  λ may. and_from _ _ ((other_test (tag_of n rows me) (me + 1)).1 may.unproposed)
      (and_from _ _ ((equal_test (promise_of n rows me) me).1 may.promised)
      (and_from _ _ ((majority_test of members).1 may.majority)
      (and_from _ _ ((final_test of members rows (mask_of_small _) small).1 may.final)
      ((all_test of (λ i. all_promise n rows members i me) (mask_of_small _)).1
      (λ i h. (promise_test n rows members i me small).1 (may.promises i h)))))),
)
  where
    of : ℕ
    of = without members suspects

-- an acceptance
pub accept_test : (n : ℕ) (rows : Shown) (members suspects me : ℕ) → members < 2 ^ 16
    → (may_accept n rows members suspects me ≡ true) ↔ MayAccept n rows members suspects me
accept_test n rows members suspects me small = (
  λ e. let a = and_parts (not (tag_of n rows me == promise_of n rows me + 1)) _ e in
      let b = and_parts (not (promise_of n rows me == me)) _ a.1 in
      let c = and_parts (has (without members suspects) (promise_of n rows me)) _ b.1 in record {
        unaccepted = (other_test (tag_of n rows me) (promise_of n rows me + 1)).0 a.0;
        other = (other_test (promise_of n rows me) me).0 b.0;
        unsuspected = c.0;
        whole = (tag_test n rows members (promise_of n rows me) (promise_of n rows me + 1) small).0 c.1;
      },
  λ may. and_from _ _ ((other_test (tag_of n rows me) (promise_of n rows me + 1)).1 may.unaccepted)
      (and_from _ _ ((other_test (promise_of n rows me) me).1 may.other) (and_from _ _ may.unsuspected
      ((tag_test n rows members (promise_of n rows me) (promise_of n rows me + 1) small).1 may.whole))),
)

-- and a commit
pub commit_test : (n : ℕ) (rows : Shown) (members me : ℕ)
    → (may_commit n rows members me ≡ true) ↔ MayCommit n rows members me
commit_test n rows members me = (
  λ e. let a = and_parts (not (tag_of n rows me == 0)) _ e in record {
    accepted = (other_test (tag_of n rows me) 0).0 a.0;
    majority = (majority_test (tagged_members n rows members (tag_of n rows me)) members).0 a.1;
  },
  λ may. and_from _ _ ((other_test (tag_of n rows me) 0).1 may.accepted)
      ((majority_test (tagged_members n rows members (tag_of n rows me)) members).1 may.majority),
)

-- a value to propose has a trim for each member that a roster can have
pub proposal_long : (n : ℕ) (rows : Shown) (members suspects : ℕ)
    → length (proposal n rows members suspects).trim ≡ 16
proposal_long n rows members suspects = by (highest_tag n rows of == 0) refl
  where
    of : ℕ
    of = without members suspects

    by : (b : Bool) → (highest_tag n rows of == 0) ≡ b → length (proposal n rows members suspects).trim ≡ 16
    by true e =
        let same : proposal n rows members suspects ≡ first_value rows members suspects = rw e refl in
        ap (λ (v : Value). length v.trim) same ∙ trims_long members (least_received rows (without members suspects))
    by false e =
        let same : proposal n rows members suspects ≡ shown_value n rows members (highest_row n rows of) =
        rw e refl in
        ap (λ (v : Value). length v.trim) same
        ∙ trims_long members (λ s. accept_value (trim_word n rows (highest_row n rows of) s))

pub propose_alike : (n : ℕ) (f g : Shown) (members suspects me : ℕ) → AreAlike n f g
    → choices.may_propose n f members suspects me ≡ choices.may_propose n g members suspects me
propose_alike n f g members suspects me a = λ z. not (accept_tag (a.leavers me z) == me + 1)
    && ((accept_promise (a.leavers me z) == me) && (is_majority (without members suspects) members
    && (all_of (without members suspects) (λ i. all_of members (λ s. is_final (a.counts i s z)))
    && all_of (without members suspects) (λ i. (accept_promise (a.leavers i z) == me)
    && all_of members (λ s. accept_promise (a.trims i s z) == me)))))

pub accept_alike : (n : ℕ) (f g : Shown) (members suspects me : ℕ) → AreAlike n f g
    → choices.may_accept n f members suspects me ≡ choices.may_accept n g members suspects me
accept_alike n f g members suspects me a = λ z.
    not (accept_tag (a.leavers me z) == accept_promise (a.leavers me z) + 1)
    && (not (accept_promise (a.leavers me z) == me)
    && (has (without members suspects) (accept_promise (a.leavers me z))
    && ((accept_tag (a.leavers (accept_promise (a.leavers me z)) z) == accept_promise (a.leavers me z) + 1)
    && all_of members (λ s. accept_tag (a.trims (accept_promise (a.leavers me z)) s z)
    == accept_promise (a.leavers me z) + 1))))

pub shown_alike : (n : ℕ) (f g : Shown) (members i : ℕ) → AreAlike n f g
    → choices.shown_value n f members i ≡ choices.shown_value n g members i
shown_alike n f g members i a = λ z. record {
  leavers = accept_value (a.leavers i z);
  trim = trims_of members (λ s. accept_value (a.trims i s z));
}

first_alike : (n : ℕ) (f g : Shown) (members suspects : ℕ) → AreAlike n f g
    → choices.first_value f members suspects ≡ choices.first_value g members suspects
first_alike n f g members suspects a = λ z. record {
  leavers = suspects;
  trim = trims_of members (λ s. fold min (recv_count (a.counts (least_of (without members suspects)) s z))
      (map (λ i. recv_count (a.counts i s z)) (members_of (without members suspects))));
}

highest_alike : (n : ℕ) (f g : Shown) (of : ℕ) → AreAlike n f g
    → choices.highest_tag n f of ≡ choices.highest_tag n g of
highest_alike n f g of a = λ z. fold max 0 (map (λ i. accept_tag (a.leavers i z)) (members_of of))

row_alike : (n : ℕ) (f g : Shown) (of : ℕ) → AreAlike n f g → choices.highest_row n f of ≡ choices.highest_row n g of
row_alike n f g of a = λ z.
    least_of (mask_of (λ i. has of i && (accept_tag (a.leavers i z) == highest_alike n f g of a z)))

pub proposal_alike : (n : ℕ) (f g : Shown) (members suspects : ℕ) → AreAlike n f g
    → choices.proposal n f members suspects ≡ choices.proposal n g members suspects
proposal_alike n f g members suspects a =
    (λ z. if highest_alike n f g (without members suspects) a z == 0 then first_alike n f g members suspects a z
    else choices.shown_value n f members (row_alike n f g (without members suspects) a z))
    ∙ ap (λ (x : Value). if choices.highest_tag n g (without members suspects) == 0
    then choices.first_value g members suspects else x)
    (shown_alike n f g members (choices.highest_row n g (without members suspects)) a)
