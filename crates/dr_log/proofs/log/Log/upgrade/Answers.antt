use Rattle.std.proofs.Common.{◌≡◌, true, false, inl, inr, ap, refl, subst, ◌∙◌, rules}
use Rattle.dr_entry.specs.declared.record.Record.TheVariants as records
use Rattle.dr_disk.{specs.Images.Goes, proofs.Moments.Goes-weaken}
use Rattle.dr_log.{specs.{Standing.{IsBeforeOrAfter, MayBeUpgraded}, State.LogState}, proofs.Told.still_goes}
use Rattle.dr_log.proofs.Voting.{format_stays, maybe_upgraded}
use Rattle.dr_log.proofs.log.Log.upgrade.Goals as goal

pub returns-then-is_newer-clause-appends : goal.returns-then-is_newer-clause-appends
returns-then-is_newer-clause-appends g c =
    let newer : c.args.self.now.content.newer ≡ true = search rules in inl (newer, refl, λ e. absurd (cc (e)))

pub returns-then-is_newer-clause-ok : goal.returns-then-is_newer-clause-ok
returns-then-is_newer-clause-ok g c =
    let newer : c.args.self.now.content.newer ≡ true = search rules in format_stays c.args.self.now.content newer

pub returns-then-is_newer-clause-any_moment : goal.returns-then-is_newer-clause-any_moment
returns-then-is_newer-clause-any_moment g c =
    let told = g.D.Disk.told in
    let old = c.self.inside in
    let whole : old.failed ≡ false = ap (λ (s : LogState g.row.D.Denot). s.failed) c.self.view_is
    ∙ c.requires.whole in
    let content = old.shelves.content in
    subst (λ (s : LogState g.row.D.Denot). Goes (told s.disk) (told s.disk) (λ _. MayBeUpgraded s.content))
    c.self.view_is
    (still_goes content (told old.disk) (MayBeUpgraded content) (c.self.invariant.settled whole) (λ image is. inl is))

pub returns-clause-appends : goal.returns-clause-appends
returns-clause-appends g c =
    let older : c.args.self.now.content.newer ≡ false = search rules in
    inr (
      older,
      record {
        ok = c.append.ensures.ok;
        fault = c.append.ensures.fault;
        full = c.append.ensures.full;
        limit = c.append.ensures.limit;
        any_moment = c.append.ensures.any_moment;
        lasting = c.append.ensures.lasting;
        durable = c.append.ensures.durable;
        calls = c.append.ensures.calls;
        calm = c.append.ensures.calm;
        cause = c.append.ensures.cause;
        later = c.append.ensures.faults;
      },
    )

pub returns-clause-any_moment : goal.returns-clause-any_moment
returns-clause-any_moment g c =
    let told = g.D.Disk.told in
    let older : c.args.self.now.content.newer ≡ false = search rules in
    Goes-weaken (told c.args.self.now.disk) (told c.append.new.self.disk)
    (λ _. IsBeforeOrAfter c.args.self.now.content records.Upgrade) (λ _. MayBeUpgraded c.args.self.now.content)
    (λ s image is. maybe_upgraded c.args.self.now.content image older is) c.append.ensures.any_moment
