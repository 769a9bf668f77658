use Rattle.std.proofs.Common.{Err, List, ap, rules, subst}
use Rattle.dr_folder.specs.{Foretold.IsBarred, declared.file.LogFile.LogFile}
use Rattle.dr_folder.proofs.checking.check_folder.Goals.{in-AgesUsedUp, in_default+in_ok-advice-in_default}
use Rattle.dr_folder.proofs.checking.check_folder.Goals as goal

pub returns-in-Err-Some : goal.returns-in-Err-Some
returns-in-Err-Some c = record {
  surveyed = search rules;
  next = subst (λ (files : List LogFile). IsBarred c.args.script.now files c.in-Err-Some.last)
      c.as_slice-2.ensures.value (c.in-Err-Some.ensures.barred c.in-Err-Some.last (ap Err c.in-Err-Some.field-0-is));
  advised = elim c.match-last.branch [
    | in-AgesUsedUp w ↦ search rules
    | in_default+in_ok-advice-in_default w ↦ search rules
  ];
}
