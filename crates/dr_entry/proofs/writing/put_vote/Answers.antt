use Rattle.std.proofs.Common.{◌≡◌, length, ap, rules, arith}
use Rattle.dr_entry.{specs.Spelling.vote_spelling, proofs.Trims.vote_length}
use Rattle.dr_entry.proofs.writing.put_vote.Goals as goal

pub returns-clause-short : goal.returns-clause-short
returns-clause-short c =
    let spelled : c.put_counts.new.into.items ≡ vote_spelling c.args.vote.now = search rules in
    omega (arith, ap length spelled, vote_length c.args.vote.now (search rules) c.requires.valid.members)
