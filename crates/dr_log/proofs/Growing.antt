-- What more records are to what is on a log and to its length, and that a log stands for what its records make.
use Rattle.std.proofs.Common.{◌≡◌, ℕ, ◌+◌, ◌*◌, ◌≤◌, Bool, List, All, [], ◌∷◌, ◌++◌, length, take, drop, refl, sym, ap, subst, ◌∙◌, append_assoc, append-nil, arith, length-append, length-take}
use Rattle.std.proofs.lemmas.List.{take-append-drop, Sums.{sum_by-append, sum_by-cons, sum_by-le, sum_by_push}}
use Rattle.dr_entry.specs.{Spelling.{IsValidEntry, entry_spelling, vote_spelling}, declared.entry.Entry.Entry}
use Rattle.dr_entry.{specs.declared.record.{Record.Record, Vote.Vote}, proofs.Records.{short_block, no_age_votes}}
use Rattle.dr_entry.specs.declared.record.Record.TheVariants as records
use Rattle.dr_log.specs.Standing.{as_records, entries_length, least_length, log_length, votes_length, with_entries}
use Rattle.dr_log.specs.State.{as_entry, as_other, as_vote}
use Rattle.dr_log_bytes.specs.Content.{ArePlaced, OnLog, block_length, content_after, empty_of, with_record}
use Rattle.dr_log_bytes.specs.Grammar.{IsLogOf}

-- ---- what more records make

-- entries stand behind the others, and may stand anywhere
pub content-entries : (c : OnLog) (es : List Entry) → content_after c (as_records es) ≡ with_entries es c
content-entries c [] =
    let same : c.entries ≡ c.entries ++ [] = sym (append-nil c.entries) in
    let long : c.length ≡ c.length + entries_length [] = omega arith in
    λ i. record c { entries = same i; length = long i }
content-entries c (e ∷ es) =
    let same : (c.entries ++ e ∷ []) ++ es ≡ c.entries ++ (e ∷ es) = append_assoc c.entries (e ∷ []) es in
    let long : c.length + block_length (records.Entry e) + entries_length es ≡ c.length + entries_length (e ∷ es) =
    omega (arith, sum_by-cons (λ (x : Entry). 1 + length (entry_spelling x)) e es) in
    content-entries (with_record (records.Entry e) c) es ∙ (λ i. record c { entries = same i; length = long i })

pub placed-entries : (c : OnLog) (es : List Entry) → ArePlaced c (as_records es)
placed-entries c [] = tt
placed-entries c (e ∷ es) = (tt, placed-entries (with_record (records.Entry e) c) es)

-- a record takes one place of its kind
pub length-entries : (r : Record) (c : OnLog) → length (with_record r c).entries ≤ length c.entries + as_entry r
length-entries (records.Entry entry) c = omega (arith, length-append c.entries (entry ∷ []))
length-entries (records.Vote vote) c = omega arith
length-entries (records.AgeVote vote) c = omega arith
length-entries (records.Cut keep) c = omega (arith, length-take keep c.entries)
length-entries records.Upgrade c = omega arith

pub length-votes : (r : Record) (c : OnLog) → length (with_record r c).votes ≡ length c.votes + as_vote r
length-votes (records.Entry entry) c = omega arith
length-votes (records.Vote vote) c = length-append c.votes (vote ∷ [])
length-votes (records.AgeVote vote) c = omega arith
length-votes (records.Cut keep) c = omega arith
length-votes records.Upgrade c = omega arith

pub length-age_votes : (r : Record) (c : OnLog) → length (with_record r c).age_votes ≤ length c.age_votes + as_other r
length-age_votes (records.Entry entry) c = omega arith
length-age_votes (records.Vote vote) c = omega arith
length-age_votes (records.AgeVote vote) c = omega (arith, length-append c.age_votes (vote ∷ []))
length-age_votes (records.Cut keep) c = omega arith
length-age_votes records.Upgrade c = omega arith

pub one_kind : (r : Record) → as_entry r + as_vote r + as_other r ≡ 1
one_kind (records.Entry entry) = refl
one_kind (records.Vote vote) = refl
one_kind (records.AgeVote vote) = refl
one_kind (records.Cut keep) = refl
one_kind records.Upgrade = refl

-- ---- how long a log is

-- so has each of a log of entries
pub short_log_length : (es : List Entry) → All IsValidEntry es → log_length es [] ≤ 9 + 72 * length es
short_log_length es valid =
    let few = sum_by-le (λ (e : Entry). 1 + length (entry_spelling e)) 72 es (λ k d l. short_block _ (valid k d l)) in
    omega (arith, few)

-- entries more
pub entries_length-append : (es fs : List Entry) → entries_length (es ++ fs) ≡ entries_length es + entries_length fs
entries_length-append es fs = sum_by-append (λ (e : Entry). 1 + length (entry_spelling e)) es fs

-- a log has bytes for all that is on it
pub least_more : (r : Record) (c : OnLog) → least_length c ≤ c.length
    → least_length (with_record r c) ≤ (with_record r c).length
least_more (records.Entry entry) c least =
    omega (arith, least, sum_by_push (λ (e : Entry). 1 + length (entry_spelling e)) c.entries entry)
least_more (records.Vote vote) c least =
    omega (arith, least, sum_by_push (λ (v : Vote). 1 + length (vote_spelling v)) c.votes vote)
least_more (records.AgeVote vote) c least = omega (arith, least, length-append c.age_votes (vote ∷ []))
least_more (records.Cut keep) c least =
    let both = entries_length-append (take keep c.entries) (drop keep c.entries) in
    let whole = ap entries_length (take-append-drop keep c.entries) in omega (arith, least, both, whole)
least_more records.Upgrade c least = omega (arith, least)

pub least_all : (news : List Entry) (c : OnLog) → least_length c ≤ c.length
    → least_length (with_entries news c) ≤ (with_entries news c).length
least_all news c least = omega (arith, least, entries_length-append c.entries news)

pub least_after : (c : OnLog) (rs : List Record) → least_length c ≤ c.length
    → least_length (content_after c rs) ≤ (content_after c rs).length
least_after c [] least = least
least_after c (r ∷ rs) least = least_after (with_record r c) rs (least_more r c least)

pub least_empty : (n : Bool) → least_length (empty_of n) ≤ (empty_of n).length
least_empty n = omega arith

pub least_of_log : (bytes : List ℕ) (c : OnLog) → IsLogOf bytes c → least_length c ≤ c.length
least_of_log bytes c is = subst (λ (d : OnLog). least_length d ≤ d.length) is.content
    (least_after (empty_of is.newer) is.records (least_empty is.newer))

-- so one with no bytes for records has none
no_entries : (es : List Entry) → entries_length es ≤ 0 → es ≡ []
no_entries [] none = refl
no_entries (e ∷ es) none = absurd (omega (arith, none, sum_by-cons (λ (x : Entry). 1 + length (entry_spelling x)) e es))

no_votes : (vs : List Vote) → votes_length vs ≤ 0 → vs ≡ []
no_votes [] none = refl
no_votes (v ∷ vs) none = absurd (omega (arith, none, sum_by-cons (λ (x : Vote). 1 + length (vote_spelling x)) v vs))

pub nothing_on : (c : OnLog) → least_length c ≤ c.length → c.length ≡ 9 → c ≡ empty_of c.newer
nothing_on c least short =
    let entries = no_entries c.entries (omega (arith, least, short)) in
    let votes = no_votes c.votes (omega (arith, least, short)) in
    let age_votes = no_age_votes c.age_votes (omega (arith, least, short)) in
    λ i. record { entries = entries i; votes = votes i; age_votes = age_votes i; newer = c.newer; length = short i }

-- ---- a log stands for its records
