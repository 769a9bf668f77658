use Rattle.std.proofs.{Common.{◌∙◌, sym, []}, lemmas.List.append-nil}
use Rattle.dr_entry.{specs.Spelling.spelling, proofs.RoundTrip.begins_one}
use Rattle.dr_entry.proofs.laws.one_spelling.Goals as goal

pub returns-clause-same_record : goal.returns-clause-same_record
returns-clause-same_record c a b valid_a fits_a valid_b fits_b same =
    (begins_one a b [] valid_a fits_a valid_b fits_b (same ∙ sym (append-nil (spelling b)))).0

pub returns-clause-no_prefix : goal.returns-clause-no_prefix
returns-clause-no_prefix c a b rest valid_a fits_a valid_b fits_b begins =
    (begins_one a b rest valid_a fits_a valid_b fits_b begins).1
