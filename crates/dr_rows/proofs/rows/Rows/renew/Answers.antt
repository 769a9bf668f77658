use Rattle.std.proofs.Common.{ap, ◌∙◌, replicate, false, arith}
use Rattle.dr_rows.specs.{Inside.rows_inside, Words.renewed, declared.rows.Rows.TheInside.Inside}
use Rattle.dr_rows.proofs.Vectors.{IsBlank, begun_blank, own_long, IsInside-begun, IsFresh-blank}
use Rattle.dr_rows.proofs.rows.Rows.renew.Goals as goal

inside : goal.After-fill-4 → Inside
inside c = record c.self.inside
    { own = c.fill.new.self; words = c.fill-2.new.self; sent = c.fill-3.new.self; frozen = c.fill-4.new.self }

blank : (c : goal.After-fill-4) → IsBlank (inside c)
unfolding inside
blank c = record {
  own = c.fill.ensures.items (λ y h. h) ∙ ap (λ n. replicate n 0) (let long =
      own_long c.self.inside (rows_inside c.self.inside) (λ i. rows_inside c.self.inside) c.self.invariant in omega (arith, long));
  words = c.fill-2.ensures.items (λ y h. h) ∙ ap (λ n. replicate n 0) (omega arith);
  sent = c.fill-3.ensures.items (λ y h. h) ∙ ap (λ n. replicate n 0) (omega arith);
  frozen = c.fill-4.ensures.items (λ y h. h) ∙ ap (λ n. replicate n false) (omega arith);
}

pub invariant_of-self : goal.invariant_of-self
unfolding inside
invariant_of-self c =
    let form = c.self.invariant.form in IsInside-begun (inside c) (blank c) form.few form.narrow form.present

pub returns-clause-after : goal.returns-clause-after
unfolding inside
returns-clause-after c = begun_blank (inside c) (blank c) ∙ ap renewed c.self.view_is

pub returns-clause-fresh : goal.returns-clause-fresh
unfolding inside
returns-clause-fresh c = IsFresh-blank (inside c) (blank c)

pub returns-clause-form : goal.returns-clause-form
returns-clause-form c = (invariant_of-self c).form
