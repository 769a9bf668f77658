-- What an act makes of what a member keeps beside its replica.
use Rattle.std.proofs.Common.{◌≡◌, ◌≢◌, refl, sym, subst, ℕ, arith}
use Rattle.dr_machine.specs.declared.{event.Act.Act, step.Step.TheVariants.Do}
use Rattle.dr_machine.specs.declared.event.Act.TheVariants as acts
use Rattle.dr_program.specs.{Acts.taken, Replica.Replica, declared.place.Place.Place}
use Rattle.dr_member.{specs.{Bases.AreBases, Search.standing}, proofs.{Answers.IsFateAfter, Indices.bases_stay}}
use Rattle.dr_member.specs.{Fate.{IsTimely, renewed, turned}, declared.{bases.Bases.Bases, fate.Fate.Fate}}

-- the fate that an act makes of one, with so many turns begun
pub record IsFateBy (a : Act) (turns : ℕ) (fate q : Fate) : Type 0 where
  pub turn : a ≡ acts.Beat → q ≡ turned fate turns
  pub view : a ≡ acts.Finish → q ≡ renewed fate
  pub other : a ≢ acts.Beat → a ≢ acts.Finish → q ≡ fate

-- it is that of the member after the act, and stays timely
abbrev pub IsFateOf : ℕ → Replica → Fate → Place → Act → Fate → Type 0
IsFateOf word r fate p a q = IsFateAfter word (standing r fate p) (Do a) q × IsTimely q (taken r a).turns

pub fate_told : (word : ℕ) (r : Replica) (fate q : Fate) (p : Place) (a : Act) → IsTimely fate r.turns
    → IsFateBy a (taken r a).turns fate q → IsFateOf word r fate p a q
fate_told word r fate q p acts.Beat t by = subst (IsFateOf word r fate p acts.Beat) (sym (by.turn refl)) (
  record { limit = refl; waits = refl; crashes = refl; suspicions = refl; pushes = refl; failed = refl },
  record { crash = refl; ahead = λ push e. omega arith },
)
fate_told word r fate q p acts.Finish t by = subst (IsFateOf word r fate p acts.Finish) (sym (by.view refl)) (
  record { limit = refl; waits = refl; crashes = refl; suspicions = refl; pushes = refl; failed = refl },
  record { crash = t.crash; ahead = t.ahead },
)
fate_told word r fate q p a t by = subst (IsFateOf word r fate p a) (sym (by.other (λ e. cc) (λ e. cc))) (
  record { limit = refl; waits = refl; crashes = refl; suspicions = refl; pushes = refl; failed = refl },
  record { crash = t.crash; ahead = t.ahead },
)

-- an act in its view leaves its bases
pub acts_keep_bases : (b : Bases) (a : Act) (r q : Replica) → a ≢ acts.Finish → AreBases b r
    → q ≡ taken r a → AreBases b q
acts_keep_bases b acts.Finish r q other f e = absurd (other refl)
acts_keep_bases b a r q other f e = bases_stay b r q (taken r a) e refl f
