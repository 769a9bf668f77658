-- The tests and the values of Changes as functions that compute, for members that hold rows in code.
use Rattle.std.specs.List.{list_all, range_with_len}
use Rattle.std.specs.Prelude.{ℕ, ◌+◌, ◌*◌, ◌==◌, ◌&&◌, not, nat_lt, if◌then◌else◌, Bool, List, length, map, fold, min, max}
use Rattle.dr_entry.specs.{declared.limits.TheConstants.MAX_MEMBERS, declared.record.Value.Value}
use Rattle.dr_history.specs.Members.{has, members_of}
use Rattle.dr_words.specs.{Accepts.{Shown, leavers_word, promise_of, tag_of, trim_word}, Columns.recv_column}
use Rattle.dr_words.specs.{Changes.{received, tagged_members}, Masks.{least_of, mask_of, without}}
use Rattle.dr_words.specs.Packing.{accept_promise, accept_tag, accept_value, is_final}

-- all members of a mask pass a test
abbrev pub all_of : ℕ → (ℕ → Bool) → Bool
all_of mask test = list_all test (members_of mask)

-- the first mask has more than half as many members as the second
abbrev pub is_majority : ℕ → ℕ → Bool
is_majority mask all = nat_lt (length (members_of all)) (2 * length (members_of mask))

-- all accept words of a view have this promise in the row, or this tag
abbrev pub all_promise : ℕ → Shown → ℕ → ℕ → ℕ → Bool
all_promise n rows members i promise =
    (promise_of n rows i == promise)
    && all_of members (λ s. accept_promise (trim_word n rows i s) == promise)

abbrev pub all_tag : ℕ → Shown → ℕ → ℕ → ℕ → Bool
all_tag n rows members i tag =
    (tag_of n rows i == tag) && all_of members (λ s. accept_tag (trim_word n rows i s) == tag)

-- in the rows of these members every count of the senders is final
abbrev pub all_final : ℕ → ℕ → Shown → Bool
all_final of senders rows = all_of of (λ i. all_of senders (λ s. is_final (rows i (recv_column s))))

-- whether the rows allow the member to propose, to accept, and to commit
abbrev pub may_propose : ℕ → Shown → ℕ → ℕ → ℕ → Bool
may_propose n rows members suspects me =
    not (tag_of n rows me == me + 1)
    && ((promise_of n rows me == me)
    && (is_majority (without members suspects) members
    && (all_final (without members suspects) members rows
    && all_of (without members suspects) (λ i. all_promise n rows members i me))))

abbrev pub may_accept : ℕ → Shown → ℕ → ℕ → ℕ → Bool
may_accept n rows members suspects me =
    not (tag_of n rows me == promise_of n rows me + 1)
    && (not (promise_of n rows me == me)
    && (has (without members suspects) (promise_of n rows me)
    && all_tag n rows members (promise_of n rows me) (promise_of n rows me + 1)))

abbrev pub may_commit : ℕ → Shown → ℕ → ℕ → Bool
may_commit n rows members me =
    not (tag_of n rows me == 0)
    && is_majority (tagged_members n rows members (tag_of n rows me)) members

-- a trim for each member that a roster can have, and 0 for those that are not of the view
abbrev pub trims_of : ℕ → (ℕ → ℕ) → List ℕ
trims_of members trim = map (λ s. if has members s then trim s else 0) (range_with_len 0 MAX_MEMBERS)

-- the value that a row shows
abbrev pub shown_value : ℕ → Shown → ℕ → ℕ → Value
shown_value n rows members i = record {
  leavers = accept_value (leavers_word n rows i);
  trim = trims_of members (λ s. accept_value (trim_word n rows i s));
}

-- the least count of a sender in the rows of these members
abbrev pub least_received : Shown → ℕ → ℕ → ℕ
least_received rows of sender =
    fold min (received rows (least_of of) sender) (map (λ i. received rows i sender) (members_of of))

-- the value of a member that sees no proposal
abbrev pub first_value : Shown → ℕ → ℕ → Value
first_value rows members suspects = record {
  leavers = suspects;
  trim = trims_of members (least_received rows (without members suspects));
}

-- the highest tag in the rows of these members, and the least of them that has it
abbrev pub highest_tag : ℕ → Shown → ℕ → ℕ
highest_tag n rows of = fold max 0 (map (tag_of n rows) (members_of of))

abbrev pub highest_row : ℕ → Shown → ℕ → ℕ
highest_row n rows of = least_of (mask_of (λ i. has of i && tag_of n rows i == highest_tag n rows of))

-- the value to propose
abbrev pub proposal : ℕ → Shown → ℕ → ℕ → Value
proposal n rows members suspects =
    if highest_tag n rows (without members suspects) == 0 then first_value rows members suspects
    else shown_value n rows members (highest_row n rows (without members suspects))
