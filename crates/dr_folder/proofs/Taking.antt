-- What is known of each file of a folder, by member, as one more is looked at, and of files of which one is put
-- back.
use Rattle.std.specs.Prelude.{option_map, slice_get, slice_set}
use Rattle.std.proofs.Common.{◌≡◌, ◌⊎◌, inl, inr, sym, ap, ◌∙◌, subst, arith, ℕ, ◌+◌, ◌<◌, true, List, [], ◌∷◌, ◌++◌, length, get_or, length-append, Option, Some, is_some}
use Rattle.std.proofs.lemmas.{List.{map-append, set-get_or, set-set}, Option.same_Some}
use Rattle.dr_entry.proofs.ListPlaces.{within_places, pushed_cases}
use Rattle.dr_log.specs.State.{LogState}
use Rattle.dr_log_bytes.specs.Content.{OnLog}
use Rattle.dr_opening.specs.{Lists.contents_of, Tries.content_at}
use Rattle.dr_folder.specs.{Foretold.{AreTakenFor, IsTakenFor, file_in}, Surveys.IsSurvey}
use Rattle.dr_folder.specs.declared.{file.LogFile.LogFile, survey.Survey.Survey}

-- the first n files have these
pub record AreFirstSurveys (n : ℕ) (files : List LogFile) (surveys : List Survey) : Type 0 where
  pub count : length surveys ≡ n
  pub each : (m : ℕ) (survey : Survey) → slice_get surveys m ≡ Some survey → IsSurvey (file_in files m) survey

-- one more file is taken for a log
pub taken_more : (n : ℕ) (files : List LogFile) (contents : List (Option OnLog)) (c : OnLog)
    → AreTakenFor n files contents → IsTakenFor (file_in files n) c
    → AreTakenFor (n + 1) files (contents ++ Some c ∷ [])
taken_more n files contents c are is = record {
  all = omega (arith, length-append contents (Some c ∷ []), are.all);
  there = λ m below. by_there m (pushed_cases contents (Some c) m n are.all below);
  each = λ m d at. by_each m d at (pushed_cases contents (Some c) m n are.all (inside m d at));
}
  where
    inside : (m : ℕ) (d : OnLog) → content_at (contents ++ Some c ∷ []) m ≡ Some d → m < n + 1
    inside m d at =
        omega (arith, within_places (contents ++ Some c ∷ []) m d at, length-append contents (Some c ∷ []), are.all)

    by_there : (m : ℕ) → ((m < n) × (content_at (contents ++ Some c ∷ []) m ≡ content_at contents m)) ⊎ ((m ≡ n)
        × (content_at (contents ++ Some c ∷ []) m ≡ Some c)) → is_some (content_at (contents ++ Some c ∷ []) m) ≡ true
    by_there m (inl old) = ap is_some old.1 ∙ are.there m old.0
    by_there m (inr new) = ap is_some new.1

    by_each : (m : ℕ) (d : OnLog) → content_at (contents ++ Some c ∷ []) m ≡ Some d
        → ((m < n) × (content_at (contents ++ Some c ∷ []) m ≡ content_at contents m))
        ⊎ ((m ≡ n) × (content_at (contents ++ Some c ∷ []) m ≡ Some c)) → IsTakenFor (file_in files m) d
    by_each m d at (inl old) = are.each m d (sym old.1 ∙ at)
    by_each m d at (inr new) = subst (λ (k : ℕ). IsTakenFor (file_in files k) d) (sym new.0)
        (subst (IsTakenFor (file_in files n)) (same_Some c d (sym new.1 ∙ at)) is)

pub log_taken : {D : Type 0} (n : ℕ) (files : List LogFile) (logs : List (Option (LogState D)))
    (log : LogState D) → AreTakenFor n files (contents_of logs) → IsTakenFor (file_in files n) log.content
    → AreTakenFor (n + 1) files (contents_of (logs ++ Some log ∷ []))
log_taken {D} n files logs log are is = subst (λ (contents : List (Option OnLog)). AreTakenFor (n + 1) files contents)
    (sym (map-append (option_map (λ (log : LogState D). log.content)) logs (Some log ∷ [])))
    (taken_more n files (contents_of logs) log.content are is)

-- a file that was moved away is put back
pub put_back : (files : List LogFile) (member : ℕ) (away file d : LogFile) → file ≡ get_or files member d
    → slice_set (slice_set files member away) member file ≡ files
put_back files member away file d is =
    set-set files member away file ∙ ap (λ (f : LogFile). slice_set files member f) is ∙ set-get_or files member d
