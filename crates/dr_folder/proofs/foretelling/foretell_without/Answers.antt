use Rattle.dr_folder.proofs.Taking.{put_back}
use Rattle.dr_folder.proofs.foretelling.foretell_without.Goals as goal

pub returns-clause-kept : goal.returns-clause-kept
returns-clause-kept c = put_back c.args.files.now c.args.member c.replace-file.new.dest c.replace-file.result
    c.index-files-member.result c.replace-file.ensures.value
