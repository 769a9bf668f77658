use Rattle.std.proofs.Common.{◌≡◌, ◌∙◌, ap, sym, subst, arith, rules, ℕ, ◌+◌, List, [], ◌∷◌, ◌++◌, get_or, Option, Some}
use Rattle.std.proofs.lemmas.List.{get_or_read}
use Rattle.dr_log.specs.State.{LogState}
use Rattle.dr_disk.specs.Memory.{CalmState}
use Rattle.dr_opening.specs.Lists.{contents_of}
use Rattle.dr_folder.specs.{Foretold.{AreTakenFor, IsTakenFor, file_in}, declared.file.LogFile.LogFile}
use Rattle.dr_folder.{specs.declared.file.LogFile.TheVariants.Missing, proofs.Taking.log_taken}
use Rattle.dr_folder.proofs.mounting.mount_files.Goals as goal

pub loop-member-preserved : goal.loop-member-preserved
loop-member-preserved c =
    let files = c.args.files.now in
    let n : ℕ = c.loop-member.member in
    let items : c.push.new.self.items ≡ c.loop-member.logs.items ++ Some c.in_ok-log.log ∷ [] = search rules in
    let read : c.index-files-m.result ≡ file_in files n =
    get_or_read files _ _ (omega (arith, c.from-m.ensures)) c.index-files-m.is Missing
    ∙ ap (λ (k : ℕ). get_or files k Missing) c.from-m.ensures in
    let is : IsTakenFor (file_in files n) c.in_ok-log.log.content =
    subst (λ (f : LogFile). IsTakenFor f c.in_ok-log.log.content) read c.in_ok-log.ensures.taken in
    subst (λ (l : List (Option (LogState CalmState))). AreTakenFor (n + 1) files (contents_of l)) (sym items)
    (log_taken n files c.loop-member.logs.items c.in_ok-log.log c.loop-member.invariant is)
