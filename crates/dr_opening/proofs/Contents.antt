-- How many bytes logs take that are found, and that are open for an age.
use Rattle.std.proofs.Common.{◌+◌, ◌≤◌, arith, inl, inr, ap, ◌≡◌, length, take, drop, take-append-drop, ◌⊎◌}
use Rattle.dr_entry.specs.declared.record.Record.TheVariants as records
use Rattle.dr_log_bytes.specs.Content.{OnLog, block_length}
use Rattle.dr_log.{specs.Standing.entries_length, proofs.{Growing.entries_length-append, Standing.newer_long}}
use Rattle.dr_restart.specs.{Trying.age_vote_of, declared.start.Start.Start}
use Rattle.dr_opening.specs.CatchingUp.{opened_with}
use Rattle.dr_opening.specs.Contents.{voted_for, IsVoteStep, IsVoting, IsRising, IsRisingStep, IsCutFor, IsOpenFor}

pub voted_long : (start : Start) (c : OnLog) → (voted_for start c).length ≤ c.length + 8
voted_long start c =
    let block : block_length (records.AgeVote (age_vote_of start)) ≤ 6 = omega arith in
    omega (arith, newer_long c, block)

-- what stands on a log as an append of the first phase is refused
pub step_voting : (start : Start) (c now next : OnLog) → IsVoteStep start c now next → IsVoting start c now
step_voting start c now next (inl (old, same, is)) = inl same
step_voting start c now next (inr (same, is)) = inr (inl same)

-- and of the second
pub step_rising : (start : Start) (voted now next : OnLog) → IsRisingStep start voted now next
    → IsRising start voted now
step_rising start voted now next (inl (keep, due, same, is)) = inl same
step_rising start voted now next (inr (cut, is)) = inr (inl cut)

pub cut_long : (start : Start) (voted cut : OnLog) → IsCutFor start voted cut → cut.length ≤ voted.length + 6
cut_long start voted cut (inl (part, same)) = omega (arith, ap (λ (c : OnLog). c.length) same)
cut_long start voted cut (inr (keep, due, same)) =
    let block : block_length (records.Cut keep) ≤ 6 = omega arith in
    omega (arith, ap (λ (c : OnLog). c.length) same, block)

-- a log that is open is longer by all that the age begins with, a vote, an upgrade and a cut at most
pub open_long : (start : Start) (c now : OnLog) → IsOpenFor start (voted_for start c) now
    → now.length ≤ c.length + 14 + entries_length (opened_with start start.members)
open_long start c now (cut, is, same) =
    let whole = opened_with start start.members in
    let both = entries_length-append (take (length cut.entries) whole) (drop (length cut.entries) whole) in
    let parts = ap entries_length (take-append-drop (length cut.entries) whole) in
    let raised : now.length ≡ cut.length + entries_length (drop (length cut.entries) whole) =
    ap (λ (x : OnLog). x.length) same in
    omega (arith, raised, both, parts, cut_long start (voted_for start c) cut is, voted_long start c)

-- and so is what each append of an opening makes of it
pub next_long : (start : Start) (c now next : OnLog)
    → IsVoteStep start c now next ⊎ IsRisingStep start (voted_for start c) now next
    → next.length ≤ c.length + 14 + entries_length (opened_with start start.members)
next_long start c now next (inl (inl (older, was, is))) = omega (arith, ap (λ (x : OnLog). x.length) is, newer_long c)
next_long start c now next (inl (inr (was, is))) = omega (arith, ap (λ (x : OnLog). x.length) is, voted_long start c)
next_long start c now next (inr (inl (keep, due, was, is))) =
    omega (arith, cut_long start (voted_for start c) next (inr (keep, due, is)), voted_long start c)
next_long start c now next (inr (inr (cut, is))) = open_long start c next (now, cut, is)
