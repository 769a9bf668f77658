use Rattle.std.{specs.Str.chars, proofs.Common.{ap, not, rules, tests, true, false, ◌≡◌}}
use Rattle.std.proofs.lemmas.Iterator.{YieldsList-from_chars, cases_from_any}
use Rattle.dr_entry.proofs.ListFacts.{found_any}
use Rattle.dr_quote.specs.Quote.{is_hidden}
use Rattle.dr_quote.proofs.quoting.is_clear.Goals as goal

pub returns : goal.returns
returns c = ap not (found_any is_hidden (chars c.args.text.now) c.any.result
    (cases_from_any _ _ _ (λ x. is_hidden x ≡ true) (λ x. is_hidden x ≡ false) c.any.ensures.ran
    (YieldsList-from_chars c.args.text.now c.utf8.text cc) (λ x q k. search (rules, tests))
    (λ x q k. search (rules, tests))))
