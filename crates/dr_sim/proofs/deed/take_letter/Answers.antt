use Rattle.std.proofs.Common.{sym, ap, ◌∙◌, subst}
use Rattle.dr_entry.proofs.OptionFacts.{some_read}
use Rattle.dr_form.specs.Letters.{IsFitting}
use Rattle.dr_member.specs.Deeds.{is_take}
use Rattle.dr_program.specs.{Reading.letters_of, Running.{settled, took_letter}}
use Rattle.dr_sim.proofs.deed.take_letter.Goals as goal

pub taken-requires-clause-due : goal.taken-requires-clause-due
taken-requires-clause-due c = ap is_take c.requires.due

pub taken-requires-clause-fitting : goal.taken-requires-clause-fitting
taken-requires-clause-fitting c = some_read _ (IsFitting c.args.member.now.replica) c.letter-letter.result _
    (c.letter-letter.ensures ∙ ap (letters_of c.args.posts.now.letters) c.me.ensures)
    (c.requires.lists.fitting c.requires.due)

pub returns-clause-after : goal.returns-clause-after
returns-clause-after c = c.taken.ensures.after ∙ ap (λ o. settled (took_letter o c.args.member.now))
    (c.letter-letter.ensures ∙ ap (letters_of c.args.posts.now.letters) c.me.ensures)
