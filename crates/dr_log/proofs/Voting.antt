-- How a log becomes one of the newer format, and what an age vote leaves of it.
use Rattle.std.specs.Prelude.{if◌then◌else◌}
use Rattle.std.proofs.Common.{◌≡◌, ℕ, Bool, true, false, List, inl, inr, refl, sym, subst}
use Rattle.dr_entry.specs.declared.record.AgeVote.{AgeVote}
use Rattle.dr_entry.specs.declared.record.Record.TheVariants as records
use Rattle.dr_log.specs.Standing.{IsBeforeOrAfter, MayBeUpgraded, MayBeVoted, in_newer_format}
use Rattle.dr_log_bytes.specs.{Content.{OnLog, with_record}, Grammar.StandFor}

-- one of the newer format is as it is, and one of the older has an upgrade more
pub format_stays : (c : OnLog) → c.newer ≡ true → c ≡ in_newer_format c
format_stays c newer = subst (λ (b : Bool). c ≡ (if b then c else with_record records.Upgrade c)) (sym newer) refl

pub format_changes : (c : OnLog) → c.newer ≡ false → with_record records.Upgrade c ≡ in_newer_format c
format_changes c older =
    subst (λ (b : Bool). with_record records.Upgrade c ≡ (if b then c else with_record records.Upgrade c))
    (sym older) refl

pub maybe_upgraded : (c : OnLog) (image : List ℕ) → c.newer ≡ false → IsBeforeOrAfter c records.Upgrade image
    → MayBeUpgraded c image
maybe_upgraded c image older (inl is) = inl is
maybe_upgraded c image older (inr is) = inr (subst (StandFor image) (format_changes c older) is)

pub maybe_voted : (c mid : OnLog) (vote : AgeVote) (image : List ℕ) → mid ≡ in_newer_format c
    → IsBeforeOrAfter mid (records.AgeVote vote) image → MayBeVoted c vote image
maybe_voted c mid vote image same (inl here) = inl (inr (subst (StandFor image) same here))
maybe_voted c mid vote image same (inr here) =
    inr (subst (λ (x : OnLog). StandFor image (with_record (records.AgeVote vote) x)) same here)
