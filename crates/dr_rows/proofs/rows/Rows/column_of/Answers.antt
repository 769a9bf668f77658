use Rattle.std.proofs.Common.{◌≡◌, ◌<◌, ◌≤◌, ℕ, ◌*◌, ◌+◌, List, map, length, take, refl, sym, ap, ap₂, ◌∙◌, arith}
use Rattle.std.proofs.lemmas.List.{length-set}
use Rattle.dr_history.specs.Members.{members_below, members_of}
use Rattle.dr_history.proofs.MemberLemmas.{members_count, members_whole, members_without, word_more}
use Rattle.dr_rows.{specs.Words.{Words, seen}, proofs.Vectors.seen_read}
use Rattle.dr_rows.proofs.rows.Rows.column_of.Goals.{then-has, else-has}
use Rattle.dr_rows.proofs.rows.Rows.column_of.Goals as goal

pub loop-member-init : goal.loop-member-init
unfolding members_below
loop-member-init c = record { within = omega arith; count = refl; words = refl }

pub loop-member-preserved : goal.loop-member-preserved
loop-member-preserved c =
    let now = c.args.self.now in
    let members = c.args.members in
    let member = c.loop-member.member in
    let before = c.loop-member.invariant in
    let word_of : ℕ → ℕ = λ i. seen now i c.args.column in
    let count : c.self.inside.members ≡ now.members = ap (λ (w : Words). w.members) c.self.view_is in
    let low : member < now.members = omega (arith, c.loop-member-test.true, count) in
    let few : c.self.inside.members ≤ 16 = c.self.invariant.form.few in
    elim c.if-has.branch [
      | then-has w ↦
          let here = sym c.has.ensures ∙ w.if-has.true in
          let at : c.args.column * c.from.result + w.from-then-has.result ≡ c.args.column * now.members + member
          = ap₂ (λ (n m : ℕ). c.args.column * n + m) (c.from.ensures ∙ count) w.from-then-has.ensures in
          let word = seen_read c.self.inside now member c.args.column _ w.index.result.now c.self.view_is
          c.self.invariant low c.requires.column at w.index.ensures in
          let room : c.loop-member.count < length c.loop-member.into = omega (
            arith,
            before.within,
            c.loop-member-test.true,
            few,
            c.if-has.array_long,
            ap length w.into-is,
            length-set c.loop-member.into c.loop-member.count w.index.result.now,
          ) in
          record {
            within = omega (arith, w.count-is, before.within);
            count = w.count-is ∙ ap (λ (n : ℕ). n + 1) before.count ∙ sym (members_count members member here);
            words = ap₂ (λ (n : ℕ) (xs : List ℕ). take n xs) w.count-is w.into-is
                ∙ word_more word_of c.loop-member.into members c.loop-member.count member w.index.result.now
                here room before.words word;
          }
      | else-has w ↦
          let missing = sym c.has.ensures ∙ w.if-has.false in
          record {
            within = omega (arith, w.count-is, before.within);
            count = w.count-is ∙ before.count ∙ sym (ap length (members_without members member missing));
            words = ap₂ (λ (n : ℕ) (xs : List ℕ). take n xs) w.count-is w.into-is ∙ before.words
                ∙ sym (ap (map word_of) (members_without members member missing));
          }
    ]

whole : (c : goal.After-loop-member) → members_below c.args.members c.loop-member.member ≡ members_of c.args.members
whole c =
    let count : c.self.inside.members ≡ c.args.self.now.members = ap (λ (w : Words). w.members) c.self.view_is in
    let few : c.self.inside.members ≤ 16 = c.self.invariant.form.few in
    let end : c.loop-member.member ≡ c.args.self.now.members = omega (arith, c.loop-member-test.false, count) in
    ap (members_below c.args.members) end
    ∙ members_whole c.args.members c.args.self.now.members c.requires.members (omega (arith, few, count))

pub returns-clause-words : goal.returns-clause-words
returns-clause-words c = c.loop-member.invariant.words ∙ ap (map (λ i. seen c.args.self.now i c.args.column)) (whole c)

pub returns-clause-count : goal.returns-clause-count
returns-clause-count c = c.loop-member.invariant.count ∙ ap length (whole c)
