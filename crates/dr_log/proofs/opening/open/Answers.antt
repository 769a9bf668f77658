use Rattle.std.proofs.Common.{◌≡◌, ℕ, List, [], length, Option, IfSome, sym, ap, subst, ◌∙◌, rules}
use Rattle.std.proofs.lemmas.Result.{IfOk-weaker}
use Rattle.dr_disk.specs.{Calls.Sync, Disk.{Told, added, content_of}, Images.Goes}
use Rattle.dr_log.specs.{Appending.{made, StopsMaking}, Kept.IsSettled, Standing.KeepsRecords}
use Rattle.dr_log.proofs.Growing.{least_of_log}
use Rattle.dr_log.proofs.Mounting.{mounted_new, mounted_there, keeps_still, synced_keeps, found_settled, found_records, found_damaged, made_keeps, stops_keeps, made_records, made_settled}
use Rattle.dr_log_bytes.specs.{Content.{OnLog, empty_of}, Grammar.{IsLogOf, IsNoLog, StandFor}}
use Rattle.dr_log.proofs.opening.open.Goals as goal

pub returns-in_err-sync-clause-any_moment : goal.returns-in_err-sync-clause-any_moment
returns-in_err-sync-clause-any_moment g c =
    let told = g.D.Disk.told in
    let same : told c.sync.new.self ≡ told c.args.disk.now = search rules in
    subst (λ (o : Option Told). Goes (told c.args.disk.now) o KeepsRecords) (sym same)
    (keeps_still (told c.args.disk.now))

pub returns-in_err-len-clause-any_moment : goal.returns-in_err-len-clause-any_moment
returns-in_err-len-clause-any_moment g c =
    let told = g.D.Disk.told in
    let synced : told c.sync.new.self ≡ added Sync (told c.args.disk.now) = search rules in
    synced_keeps (told c.args.disk.now) (told c.len.new.self) (c.len.ensures.told ∙ synced) (search rules)

pub returns-in_err-make-clause-any_moment : goal.returns-in_err-make-clause-any_moment
returns-in_err-make-clause-any_moment g c =
    let told = g.D.Disk.told in
    let synced : told c.sync.new.self ≡ added Sync (told c.args.disk.now) = search rules in
    let long = subst (λ (o : Option Told).
    IfSome o (λ t. c.in_ok-len.len ≡ length (content_of t))) synced c.in_ok-len.ensures.value in
    stops_keeps (told c.args.disk.now) (told c.make.new.disk) c.in_ok-len.len long c.if-len-le-EMPTY.true (search rules)
    (subst (λ (o : Option Told). StopsMaking o (told c.make.new.disk)) (c.len.ensures.told
    ∙ synced) c.in_err-make.ensures.err)

pub returns-then-len-le-EMPTY-clause-records : goal.returns-then-len-le-EMPTY-clause-records
returns-then-len-le-EMPTY-clause-records g c =
    let told = g.D.Disk.told in
    let synced : told c.sync.new.self ≡ added Sync (told c.args.disk.now) = search rules in
    let long = subst (λ (o : Option Told).
    IfSome o (λ t. c.in_ok-len.len ≡ length (content_of t))) synced c.in_ok-len.ensures.value in
    subst (λ (x : OnLog). IfSome (told c.args.disk.now) (λ t. StandFor (content_of t) x)) (sym c.empty.ensures)
    (made_records (told c.args.disk.now) c.in_ok-len.len long c.if-len-le-EMPTY.true)

pub returns-then-len-le-EMPTY-clause-settled : goal.returns-then-len-le-EMPTY-clause-settled
returns-then-len-le-EMPTY-clause-settled g c =
    let told = g.D.Disk.told in
    subst (λ (x : OnLog). IfSome (told c.make.new.disk) (IsSettled x)) (sym c.empty.ensures)
    (made_settled (told c.len.new.self) (told c.make.new.disk) c.in_ok-make.ensures.ok)

pub returns-then-len-le-EMPTY-clause-any_moment : goal.returns-then-len-le-EMPTY-clause-any_moment
returns-then-len-le-EMPTY-clause-any_moment g c =
    let told = g.D.Disk.told in
    let synced : told c.sync.new.self ≡ added Sync (told c.args.disk.now) = search rules in
    let long = subst (λ (o : Option Told).
    IfSome o (λ t. c.in_ok-len.len ≡ length (content_of t))) synced c.in_ok-len.ensures.value in
    made_keeps (told c.args.disk.now) (told c.make.new.disk) c.in_ok-len.len long c.if-len-le-EMPTY.true (search rules)
    (c.in_ok-make.ensures.ok ∙ ap made (c.len.ensures.told ∙ synced))

pub returns-in_err-bytes-clause-any_moment : goal.returns-in_err-bytes-clause-any_moment
returns-in_err-bytes-clause-any_moment g c =
    let told = g.D.Disk.told in
    let synced : told c.sync.new.self ≡ added Sync (told c.args.disk.now) = search rules in
    synced_keeps (told c.args.disk.now) (told c.read_all.new.disk) (c.read_all.ensures.told
    ∙ (c.len.ensures.told ∙ synced)) (search rules)

pub returns-clause-any_moment : goal.returns-clause-any_moment
returns-clause-any_moment g c =
    let told = g.D.Disk.told in
    let synced : told c.sync.new.self ≡ added Sync (told c.args.disk.now) = search rules in
    synced_keeps (told c.args.disk.now) (told c.read_all.new.disk) (c.read_all.ensures.told
    ∙ (c.len.ensures.told ∙ synced)) (search rules)

pub returns-clause-records : goal.returns-clause-records
returns-clause-records g c =
    let told = g.D.Disk.told in
    let synced : told c.sync.new.self ≡ added Sync (told c.args.disk.now) = search rules in
    let long = subst (λ (o : Option Told). IfSome o (λ t. c.in_ok-len.len ≡ length (content_of t)))
    (sym c.len.ensures.told) c.in_ok-len.ensures.value in
    IfOk-weaker c.found_in.result _ _ (λ found h. found_records (told c.args.disk.now)
    (told c.len.new.self) c.in_ok-bytes.bytes.items found c.in_ok-len.len
    (c.len.ensures.told ∙ synced) long c.if-len-le-EMPTY.false c.in_ok-bytes.ensures.bytes
    (subst (λ (l : List ℕ). IsLogOf l found) c.as_slice.ensures.value h)) c.found_in.ensures.found

pub returns-clause-settled : goal.returns-clause-settled
returns-clause-settled g c =
    let told = g.D.Disk.told in
    let synced : told c.sync.new.self ≡ added Sync (told c.args.disk.now) = search rules in
    let reads = subst (λ (o : Option Told). IfSome o (λ t. c.in_ok-bytes.bytes.items ≡ content_of t))
    (sym c.read_all.ensures.told) c.in_ok-bytes.ensures.bytes in
    let long = subst (λ (o : Option Told). IfSome o (λ t. c.in_ok-len.len ≡ length (content_of t)))
    (sym c.read_all.ensures.told) (subst (λ (o : Option Told).
    IfSome o (λ t. c.in_ok-len.len ≡ length (content_of t))) (sym c.len.ensures.told) c.in_ok-len.ensures.value) in
    IfOk-weaker c.found_in.result _ _ (λ found h. found_settled (told c.args.disk.now)
    (told c.read_all.new.disk) c.in_ok-bytes.bytes.items found c.in_ok-len.len
    (c.read_all.ensures.told ∙ (c.len.ensures.told ∙ synced)) long c.if-len-le-EMPTY.false reads
    (subst (λ (l : List ℕ). IsLogOf l found) c.as_slice.ensures.value h)) c.found_in.ensures.found

pub returns-clause-damaged : goal.returns-clause-damaged
returns-clause-damaged g c at e =
    let told = g.D.Disk.told in
    let synced : told c.sync.new.self ≡ added Sync (told c.args.disk.now) = search rules in
    let long = subst (λ (o : Option Told). IfSome o (λ t. c.in_ok-len.len ≡ length (content_of t)))
    (sym c.len.ensures.told) c.in_ok-len.ensures.value in
    found_damaged (told c.args.disk.now) (told c.len.new.self) c.in_ok-bytes.bytes.items c.in_ok-len.len at
    (c.len.ensures.told ∙ synced) long c.if-len-le-EMPTY.false c.in_ok-bytes.ensures.bytes
    (subst (λ (l : List ℕ). IsNoLog l at) c.as_slice.ensures.value (c.found_in.ensures.damaged at e))

pub returns-then-len-le-EMPTY-clause-calls : goal.returns-then-len-le-EMPTY-clause-calls
returns-then-len-le-EMPTY-clause-calls g c =
    let told = g.D.Disk.told in
    let synced : told c.sync.new.self ≡ added Sync (told c.args.disk.now) = search rules in
    let long = subst (λ (o : Option Told).
    IfSome o (λ t. c.in_ok-len.len ≡ length (content_of t))) synced c.in_ok-len.ensures.value in
    mounted_new (told c.args.disk.now) (told c.make.new.disk) c.in_ok-len.len long c.if-len-le-EMPTY.true
    (c.in_ok-make.ensures.ok ∙ ap made (c.len.ensures.told ∙ synced))

pub returns-clause-calls : goal.returns-clause-calls
returns-clause-calls g c =
    let told = g.D.Disk.told in
    let synced : told c.sync.new.self ≡ added Sync (told c.args.disk.now) = search rules in
    let long = subst (λ (o : Option Told).
    IfSome o (λ t. c.in_ok-len.len ≡ length (content_of t))) synced c.in_ok-len.ensures.value in
    IfOk-weaker c.found_in.result _ _ (λ found h. mounted_there (told c.args.disk.now)
    (told c.read_all.new.disk) c.in_ok-len.len long c.if-len-le-EMPTY.false
    (c.read_all.ensures.told ∙ (c.len.ensures.told ∙ synced))) c.found_in.ensures.found

pub returns-clause-left_damaged : goal.returns-clause-left_damaged
returns-clause-left_damaged g c at e =
    let told = g.D.Disk.told in
    let synced : told c.sync.new.self ≡ added Sync (told c.args.disk.now) = search rules in
    c.read_all.ensures.told ∙ (c.len.ensures.told ∙ synced)

pub returns-clause-least : goal.returns-clause-least
returns-clause-least g c = IfOk-weaker c.found_in.result _ _
    (λ found h. least_of_log c.as_slice.result.now found h) c.found_in.ensures.found
