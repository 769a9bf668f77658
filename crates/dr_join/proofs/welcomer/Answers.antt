use Rattle.std.specs.Prelude.{MatchOption, None, Option}
use Rattle.std.proofs.Common.{◌≡◌, refl, sym, ap, ◌∙◌, subst, ℕ, ◌&&◌, not, Bool, true, false, Some}
use Rattle.dr_history.specs.Members.{has}
use Rattle.dr_words.specs.Masks.{IsLeastOf}
use Rattle.dr_join.proofs.welcomer.Goals as goal

-- who is in the later view and no newcomer is in both, and the other way round
in_both : (before after : Bool) → (after && not (after && not before)) ≡ true → (before ≡ true) × (after ≡ true)
in_both true true e = (refl, refl)
in_both false true e = absurd (cc e)
in_both before false e = absurd (cc e)

from_both : (before after : Bool) → before ≡ true → after ≡ true → (after && not (after && not before)) ≡ true
from_both true true b a = refl
from_both false after b a = absurd (cc b)
from_both true false b a = absurd (cc a)

left_it : (before after : Bool) → (after && not (after && not before)) ≡ false → before ≡ true → after ≡ false
left_it before false e b = refl
left_it true true e b = absurd (cc e)
left_it false true e b = absurd (cc b)

stayed : (c : goal.After-least) (i : ℕ) → has c.without.result i
    ≡ (has c.args.after i && not (has c.args.after i && not (has c.args.before i)))
stayed c i = c.without.ensures.members i ∙ ap (λ new. has c.args.after i && not new) (c.newcomers.ensures.members i)

-- what the least one is, by the answer
found : (c : goal.After-least) (o : Option ℕ) → c.least.result ≡ o
    → MatchOption o ((i : ℕ) → has c.without.result i ≡ false) (IsLeastOf c.without.result)
found c o e = subst (λ x. MatchOption x ((i : ℕ) → has c.without.result i ≡ false) (IsLeastOf c.without.result))
    e c.least.ensures.least

pub returns-clause-none : goal.returns-clause-none
returns-clause-none c = λ none i before.
    left_it (has c.args.before i) (has c.args.after i) (sym (stayed c i) ∙ found c None none i) before

pub returns-clause-both : goal.returns-clause-both
returns-clause-both c = λ m some. in_both (has c.args.before m) (has c.args.after m)
    (sym (stayed c m) ∙ (found c (Some m) some).member)

pub returns-clause-least : goal.returns-clause-least
returns-clause-least c = λ m i some before after. (found c (Some m) some).least i
    (stayed c i ∙ from_both (has c.args.before i) (has c.args.after i) before after)
