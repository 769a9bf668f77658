use Rattle.std.proofs.Common.{refl, ◌∷◌, ◌++◌, []}
use Rattle.dr_ages.proofs.Crashes.{logged_begins, logged_goes_on, told_before}
use Rattle.dr_ages.proofs.{Lasting.{last_over_fit, readable_tell}, Outliving.{ended_so, run_lasting}}
use Rattle.dr_ages.proofs.laws.runs_outlive_crashes.Goals as goal

pub returns-clause-in_step : goal.returns-clause-in_step
returns-clause-in_step c script part apart mode other before mid after end earlier ages age next stop ends m e first at
    l there here step crashed second =
    let tell = told_before script part mode before mid (earlier ++ age ∷ []) stop first
    (readable_tell script.members mid step.readable) in
    logged_begins script part apart other 0 (earlier ++ age ∷ []) earlier age m e mid after second.course.0 next
    (first.logged tell) refl at l there here step crashed second.course.1

pub returns-clause-fit : goal.returns-clause-fit
returns-clause-fit c script part apart mode other before mid after end earlier ages age next stop ends m e ranges fit
    first unlike at there here crashed second =
    let tell = readable_tell script.members before fit.readable in
    logged_goes_on script part apart mid after age next m e (record {
      ranges = ranges;
      last = first.last;
      first = last_over_fit script part mode 0 before (earlier ++ age ∷ []) first.last earlier age ranges first.course
          fit refl;
      tried = ended_so script part mode before mid (earlier ++ age ∷ []) stop tell first unlike;
      logged = first.logged tell earlier age m e refl at there;
      readable = (run_lasting script part mode before mid (earlier ++ age ∷ []) stop [] ranges fit first
          unlike).readable;
      crashed = crashed;
      mode = other;
      nth = 0;
      end = second.course.0;
      opens = second.course.1;
      at = at;
      there = there;
      here = here;
    })
