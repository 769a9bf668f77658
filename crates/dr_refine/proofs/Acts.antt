-- What beats, deliveries, appends, publications, reports, marks and ends make of the world.
use Rattle.std.{specs.Prelude.Option, proofs.{Math.Path.fun_ext, lemmas.List.{take-append-le, length-take-le}}}
use Rattle.std.proofs.Common.{◌≡◌, refl, sym, ap, ◌∙◌, ℕ, ◌+◌, ◌-◌, ◌%◌, ◌^◌, ◌<◌, min, List, ◌++◌, length, map, fold, arith}
use Rattle.dr_entry.{specs.declared.end.End.End, proofs.{Entries.next_front, Items.item_shown}}
use Rattle.dr_history.specs.Members.{members_of}
use Rattle.dr_words.{specs.declared.column.TheConstants.{LOGGED_COLUMN, DONE_COLUMN}, proofs.Masks.member_below}
use Rattle.dr_machine.specs.Effects.{entries_of, stamped, beats, delivers, appends, publishes, reports, marks}
use Rattle.dr_machine.specs.Group.{Group, roster}
use Rattle.dr_machine.specs.Effects as effects
use Rattle.dr_faithful.proofs.Copies.{fits_own}
use Rattle.dr_program.specs.{Presence.with_present, Reading.{Shared, world_of}}
use Rattle.dr_program.specs.Replica.{Replica, item_of_place, sender_of_place, least_seen, acted, beaten, delivered, appended, published, reported, marked, ended}
use Rattle.dr_program.proofs.Holdings.{holding_of, held_of, replaced, beat_after, beat_changes, end_after, end_changes, deliver_after, deliver_changes, append_after, append_changes, report_after, report_changes}
use Rattle.dr_program.proofs.{Present.present_within, Replicas.shown_word}
use Rattle.dr_refine.{specs.Programs.{IsMember, acted_table}, proofs.Members.{fits, own_world, then_acted}}

-- ---- a turn begins

-- a turn begins
pub beat_effect : (g : Group) (rs : List (Option Replica)) (table : Shared) (m : ℕ) (r : Replica)
    → IsMember g rs table m r → world_of g (with_present rs m (acted (beaten r))) (acted_table g table m r)
    ≡ stamped (beats (world_of g rs table) m) m
beat_effect g rs table m r is = then_acted g rs table m (beaten r) (beats (world_of g rs table) m)
    (present_within rs m r is.there) (fits g rs table m r is) is.cells (replaced g rs table table m r (beaten r)
    (beats (world_of g rs table) m) beat_after is.there (beat_changes (world_of g rs table) m) refl refl refl)

-- ---- ends

-- a member ends
pub end_effect : (g : Group) (rs : List (Option Replica)) (table : Shared) (m : ℕ) (r : Replica) (end : End)
    → IsMember g rs table m r → world_of g (with_present rs m (acted (ended r end))) (acted_table g table m r)
    ≡ stamped (effects.ends (world_of g rs table) m end) m
end_effect g rs table m r end is = then_acted g rs table m (ended r end) (effects.ends (world_of g rs table) m end)
    (present_within rs m r is.there) (fits g rs table m r is) is.cells
    (replaced g rs table table m r (ended r end) (effects.ends (world_of g rs table) m end)
    (end_after end) is.there (end_changes (world_of g rs table) m end) refl refl refl)

-- ---- a delivery

-- a place is delivered
pub deliver_effect : (g : Group) (rs : List (Option Replica)) (table : Shared) (m : ℕ) (r : Replica)
    → IsMember g rs table m r → world_of g (with_present rs m (acted (delivered r))) (acted_table g table m r)
    ≡ stamped (delivers (world_of g rs table) m) m
deliver_effect g rs table m r is =
    let s : ℕ = sender_of_place r r.next in
    let within : s < roster g = rw is.of.members at (member_below r.roster r.members
    (r.next % length (members_of r.members)) (omega (arith, is.of.members, is.group.some_member)) is.form.roster) in
    let item = item_shown (roster g) s (item_of_place r r.next) within in
    let log = take-append-le r.logged r.history (entries_of r.history s (item_of_place r r.next)) is.form.logged in
    then_acted g rs table m (delivered r) (delivers (world_of g rs table) m)
    (present_within rs m r is.there) (fits g rs table m r is) is.cells
    (replaced g rs table table m r (delivered r) (delivers (world_of g rs table) m) deliver_after is.there
    (deliver_changes (world_of g rs table) m)
    (λ z. record (holding_of g r)
    { history = r.history ++ entries_of r.history s (item z); next = r.next + 1; log = sym log z }) refl refl)

-- ---- an append

-- an entry goes on the log
pub append_effect : (g : Group) (rs : List (Option Replica)) (table : Shared) (m : ℕ) (r : Replica)
    → IsMember g rs table m r → world_of g (with_present rs m (appended r)) table ≡ appends (world_of g rs table) m
append_effect g rs table m r is =
    let log = next_front r.history r.logged is.form.logged in
    replaced g rs table table m r (appended r) (appends (world_of g rs table) m) append_after is.there
    (append_changes (world_of g rs table) m) (λ z. record (holding_of g r) { log = log z }) refl refl

-- ---- the logged word, and the done word

-- the logged word follows the log
pub publish_effect : (g : Group) (rs : List (Option Replica)) (table : Shared) (m : ℕ) (r : Replica)
    → IsMember g rs table m r → world_of g (with_present rs m (acted (published r))) (acted_table g table m r)
    ≡ stamped (publishes (world_of g rs table) m) m
publish_effect g rs table m r is =
    let f = fits g rs table m r is in
    let logged : length ((world_of g rs table).past.log m) ≡ r.logged =
    ap (λ h. length h.log) (held_of g rs table m r is.there) ∙ length-take-le r.logged r.history is.form.logged in
    then_acted g rs table m (published r) (publishes (world_of g rs table) m)
    (present_within rs m r is.there) (fits_own g m r.rows r.view LOGGED_COLUMN r.logged f) is.cells
    (own_world g rs table m r LOGGED_COLUMN r.logged is.there f (omega arith)
    ∙ ap (effects.with_own (world_of g rs table) m LOGGED_COLUMN) (sym logged))

-- the done word is set
pub mark_effect : (g : Group) (rs : List (Option Replica)) (table : Shared) (m : ℕ) (r : Replica)
    → IsMember g rs table m r → world_of g (with_present rs m (acted (marked r))) (acted_table g table m r)
    ≡ stamped (marks (world_of g rs table) m) m
mark_effect g rs table m r is =
    let f = fits g rs table m r is in
    then_acted g rs table m (marked r) (marks (world_of g rs table) m) (present_within rs m r is.there)
    (fits_own g m r.rows r.view DONE_COLUMN 1 f) is.cells
    (own_world g rs table m r DONE_COLUMN 1 is.there f (omega arith))

-- ---- a report

-- more is known to be durable
pub report_effect : (g : Group) (rs : List (Option Replica)) (table : Shared) (m : ℕ) (r : Replica)
    → IsMember g rs table m r → world_of g (with_present rs m (acted (reported r))) (acted_table g table m r)
    ≡ stamped (reports (world_of g rs table) m) m
report_effect g rs table m r is =
    let least : (report_after m (holding_of g r)).durable ≡ least_seen r LOGGED_COLUMN = ap (λ (f : ℕ → ℕ). fold min
    (2 ^ 64 - 1) (map f (members_of r.members))) (fun_ext λ i. shown_word r m i LOGGED_COLUMN is.of.number) in
    then_acted g rs table m (reported r) (reports (world_of g rs table) m)
    (present_within rs m r is.there) (fits g rs table m r is) is.cells
    (replaced g rs table table m r (reported r) (reports (world_of g rs table) m) (report_after m) is.there
    (report_changes (world_of g rs table) m) (λ z. record (holding_of g r) { durable = least z }) refl refl)
