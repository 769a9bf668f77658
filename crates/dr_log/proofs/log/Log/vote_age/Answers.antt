use Rattle.std.proofs.Common.{inl, inr, refl}
use Rattle.dr_entry.specs.declared.record.AgeVote.{AgeVote}
use Rattle.dr_entry.specs.declared.record.Record.TheVariants as records
use Rattle.dr_disk.proofs.Moments.{Goes-weaken, goes_on}
use Rattle.dr_log.{specs.Standing.{IsBeforeOrAfter, MayBeUpgraded, MayBeVoted}, proofs.Voting.maybe_voted}
use Rattle.dr_log.proofs.log.Log.vote_age.Goals as goal

pub returns-in-Err-clause-appends : goal.returns-in-Err-clause-appends
returns-in-Err-clause-appends g c = inr (refl, c.in-Err.ensures.appends)

pub returns-in-Err-clause-any_moment : goal.returns-in-Err-clause-any_moment
returns-in-Err-clause-any_moment g c =
    let told = g.D.Disk.told in
    Goes-weaken (told c.args.self.now.disk) (told c.upgrade.new.self.disk)
    (λ _. MayBeUpgraded c.args.self.now.content) (λ _. MayBeVoted c.args.self.now.content
    (record { age = c.args.age; members = c.args.members })) (λ s image here. inl here) c.in-Err.ensures.any_moment

pub returns-in-Ok-clause-appends : goal.returns-in-Ok-clause-appends
returns-in-Ok-clause-appends g c = inl (
  c.upgrade.new.self,
  _,
  refl,
  c.in-Ok.ensures.appends,
  record {
    ok = c.append.ensures.ok;
    fault = c.append.ensures.fault;
    full = c.append.ensures.full;
    limit = c.append.ensures.limit;
    any_moment = c.append.ensures.any_moment;
    lasting = c.append.ensures.lasting;
    durable = c.append.ensures.durable;
    calls = c.append.ensures.calls;
    calm = c.append.ensures.calm;
    cause = c.append.ensures.cause;
    later = c.append.ensures.faults;
  },
)

pub returns-in-Ok-clause-any_moment : goal.returns-in-Ok-clause-any_moment
returns-in-Ok-clause-any_moment g c =
    let told = g.D.Disk.told in
    let vote : AgeVote = record { age = c.args.age; members = c.args.members } in
    goes_on (told c.args.self.now.disk) (told c.upgrade.new.self.disk) (told c.append.new.self.disk)
    (λ _. MayBeUpgraded c.args.self.now.content) (λ _. IsBeforeOrAfter c.upgrade.new.self.content
    (records.AgeVote vote)) (λ _. MayBeVoted c.args.self.now.content vote) (λ first image e here. inl here)
    (λ first next image e d here. maybe_voted c.args.self.now.content c.upgrade.new.self.content vote image
    c.in-Ok.ensures.ok here) c.in-Ok.ensures.any_moment c.append.ensures.any_moment
