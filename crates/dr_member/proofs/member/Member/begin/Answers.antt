use Rattle.std.proofs.Common.{◌≡◌, inl, refl, sym, ap, subst, arith}
use Rattle.dr_program.specs.Replica.{Replica}
use Rattle.dr_suspect.specs.Waits.{IsWaits}
use Rattle.dr_member.specs.{Fate.IsTimely, declared.fate.Fate.Fate}
use Rattle.dr_member.proofs.member.Member.begin.Goals as goal

pub invariant_of-result : goal.invariant_of-result
invariant_of-result c =
    let turns : c.in_ok-replica.replica.turns ≡ 0 = ap (λ (x : Replica). x.turns) c.in_ok-replica.ensures.begun in
    let limit : c.begin-fate.result.limit ≡ c.args.setup.turns =
    ap (λ (x : Fate). x.limit) c.begin-fate.ensures.begun in record {
      form = record {
        replica = c.in_ok-replica.ensures.form;
        place = record { part = omega arith; row = omega arith; column = omega arith };
        due = λ none. refl;
        free = inl (ap (λ (x : Replica). x.pending) c.in_ok-replica.ensures.begun);
        turns = omega (arith, turns);
        waits = subst IsWaits (sym (ap (λ (x : Fate). x.waits) c.begin-fate.ensures.begun)) c.new-waits.ensures.form;
        left = λ none at. omega (arith, turns, limit, c.requires.turns);
      };
      fate = subst (IsTimely c.begin-fate.result) (sym turns) (subst (λ (x : Fate). IsTimely x 0)
          (sym c.begin-fate.ensures.begun) (record { crash = refl; ahead = λ push e. omega arith }));
      limit = c.begin-fate.ensures.small;
      bases = c.of-bases.ensures;
      ready = λ at. absurd (cc at);
    }
