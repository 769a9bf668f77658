use Rattle.std.proofs.Common.{◌≡◌, ◌<◌, [], refl, sym, ap, ◌∙◌, subst, arith}
use Rattle.atomic_table.specs.Seated.{TableId}
use Rattle.dr_member.specs.Deeds.{table_size}
use Rattle.dr_program.{specs.Running.{Running, after_step, next_deed}, proofs.Fixed.{told, after_told}}
use Rattle.dr_table.specs.{Cards.{DealtTable, Seated}, Deeds.IsStore, Steps.{IsAhead, IsReachedMember, alone}}
use Rattle.dr_table.proofs.{Deeds.act_within, Keeping.store_reached, Members.inside_after}
use Rattle.dr_table.proofs.seated.SeatedMember.act.Goals as goal

pub store_at-requires-clause-alone : goal.store_at-requires-clause-alone
store_at-requires-clause-alone c = subst (λ q. (r : Running) × (c.self.inside.seat.me ≡ alone r) × IsAhead r q)
    (sym c.standing.ensures) c.self.invariant.known

pub store_at-requires-clause-word : goal.store_at-requires-clause-word
store_at-requires-clause-word c =
    let next = ap (λ (w : Seated). next_deed w.member) c.self.view_is ∙ c.requires.deed in
    subst (λ (t : TableId). c.args.word < t.words)
    (ap (λ (w : Seated). w.table.id) c.self.view_is ∙ ap (λ (t : DealtTable). t.id) c.requires.board) (omega (
      arith,
      c.self.invariant.of,
      act_within c.self.inside.member c.args.word c.args.new c.self.invariant.reached next,
    ))

pub store_at-requires-clause-within : goal.store_at-requires-clause-within
store_at-requires-clause-within c =
    let next = ap (λ (w : Seated). next_deed w.member) c.self.view_is ∙ c.requires.deed in
    subst (λ q. c.args.word < table_size q) (sym c.standing.ensures)
    (act_within c.self.inside.member c.args.word c.args.new c.self.invariant.reached next)

pub store_at-requires-clause-deed : goal.store_at-requires-clause-deed
store_at-requires-clause-deed c =
    let next = ap (λ (w : Seated). next_deed w.member) c.self.view_is ∙ c.requires.deed in
    subst (λ q. IsStore c.args.word c.args.new (next_deed q)) (sym c.standing.ensures)
    (subst (IsStore c.args.word c.args.new) (sym next) (refl, refl))

pub invariant_of-self : goal.invariant_of-self
invariant_of-self c =
    let next = ap (λ (w : Seated). next_deed w.member) c.self.view_is ∙ c.requires.deed in
    let after = c.acted.ensures.after 0 in
    inside_after (after_step 0 c.self.inside.member) c.self.invariant (record { places = refl; rest = refl })
    (c.store_at.ensures.stored ∙ ap (λ q. alone (after_step 0 q)) c.standing.ensures) ([], sym after)
    (ap (λ (q : Running). told q.replica) after ∙ after_told 0 c.self.inside.member)
    (subst IsReachedMember (sym after) (store_reached c.self.inside.member c.args.word c.args.new
    (subst (IsStore c.args.word c.args.new) (sym next) (refl, refl)) c.self.invariant.reached))
    c.store_at.ensures.table
