use Rattle.std.specs.{Prelude.{Vec, option_map}, declared.alloc.Global.Global}
use Rattle.std.proofs.Common.{[], sym, ap, ◌∙◌, refl, subst, arith}
use Rattle.dr_entry.specs.declared.entry.Entry.{Entry}
use Rattle.dr_form.specs.Letters.{IsFitting}
use Rattle.dr_member.{specs.Deeds.is_take, proofs.Deeds.a_take}
use Rattle.dr_program.{specs.Running.{Running, next_deed, settled, took_letter}, proofs.Accepting.took_told}
use Rattle.dr_program.proofs.Fixed.{told}
use Rattle.dr_table.specs.{Cards.{DealtTable, HasAskedForLetter, Seated}, Steps.IsReachedMember}
use Rattle.dr_table.proofs.{Holding.{fits_list, taken_fits}, Keeping.take_reached, Members.inside_after}
use Rattle.dr_table.proofs.seated.SeatedMember.take.Goals as goal

pub take_at-letter-requires-clause-alone : goal.take_at-letter-requires-clause-alone
take_at-letter-requires-clause-alone c = c.self.invariant.known

pub take_at-letter-requires-clause-reached : goal.take_at-letter-requires-clause-reached
take_at-letter-requires-clause-reached c = c.self.invariant.reached

pub take_at-letter-requires-clause-size : goal.take_at-letter-requires-clause-size
take_at-letter-requires-clause-size c = c.self.invariant.of ∙ ap (λ (w : Seated). w.table.id.words) c.self.view_is
    ∙ ap (λ (t : DealtTable). t.id.words) c.requires.board

pub take_at-letter-requires-clause-due : goal.take_at-letter-requires-clause-due
take_at-letter-requires-clause-due c = record {
  gives = λ one. absurd (omega (arith, one));
  takes = λ two. (
    a_take (next_deed c.self.inside.member)
        (ap (λ (w : Seated). is_take (next_deed w.member)) c.self.view_is ∙ c.requires.deed),
    refl,
  );
}

pub take_letter-requires-clause-fitting : goal.take_letter-requires-clause-fitting
take_letter-requires-clause-fitting c =
    let r = c.self.inside.member in
    fits_list (IsFitting r.replica) c.take_at-letter.result
    (taken_fits r (option_map (λ (l : Vec Entry Global). l.items) c.take_at-letter.result)
    (a_take (next_deed r) (ap (λ (w : Seated). is_take (next_deed w.member)) c.self.view_is ∙ c.requires.deed))
    c.take_at-letter.ensures.may)

pub invariant_of-self : goal.invariant_of-self
invariant_of-self c =
    let r = c.self.inside.member in
    let letter = option_map (λ (l : Vec Entry Global). l.items) c.take_at-letter.result in
    let after = c.take_letter.ensures.after in
    inside_after (settled (took_letter letter r)) c.self.invariant (record { places = refl; rest = refl })
    c.take_at-letter.ensures.taken ([], sym after) (ap (λ (q : Running). told q.replica) after ∙ took_told letter r)
    (subst IsReachedMember (sym after) (take_reached r letter
    (a_take (next_deed r) (ap (λ (w : Seated). is_take (next_deed w.member)) c.self.view_is ∙ c.requires.deed))
    c.take_at-letter.ensures.may)) c.take_at-letter.ensures.table

pub returns-clause-asked : goal.returns-clause-asked
returns-clause-asked c = subst (λ (w : Seated). HasAskedForLetter w.member c.take_letter.new.member) c.self.view_is (
  option_map (λ (l : Vec Entry Global). l.items) c.take_at-letter.result,
  c.take_at-letter.ensures.may,
  c.take_letter.ensures.after,
)
