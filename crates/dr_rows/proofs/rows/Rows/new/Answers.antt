use Rattle.std.proofs.Common.{◌*◌, ap, ◌∙◌, replicate, false}
use Rattle.dr_rows.specs.declared.rows.Rows.TheInside.{Inside}
use Rattle.dr_rows.proofs.Vectors.{IsBlank, begun_blank, IsInside-begun, IsFresh-blank}
use Rattle.dr_rows.proofs.rows.Rows.new.Goals as goal

inside : goal.In_ok-vec-4 → Inside
inside c = record {
  members = c.args.members;
  columns = c.args.columns;
  me = c.args.me;
  own = c.in_ok-vec.field-0;
  words = c.in_ok-vec-2.field-0;
  sent = c.in_ok-vec-3.field-0;
  frozen = c.in_ok-vec-4.field-0;
}

blank : (c : goal.In_ok-vec-4) → IsBlank (inside c)
unfolding inside
blank c = record {
  own = c.in_ok-vec.ensures.items_if_clones_equal (λ y h. h);
  words = c.in_ok-vec-2.ensures.items_if_clones_equal (λ y h. h)
      ∙ ap (λ n. replicate (n * c.args.columns) 0) c.from.ensures;
  sent = c.in_ok-vec-3.ensures.items_if_clones_equal (λ y h. h)
      ∙ ap (λ n. replicate (n * c.args.columns) 0) c.from.ensures;
  frozen = c.in_ok-vec-4.ensures.items_if_clones_equal (λ y h. h) ∙ ap (λ n. replicate n false) c.from-2.ensures;
}

pub invariant_of-result : goal.invariant_of-result
unfolding inside
invariant_of-result c = IsInside-begun (inside c) (blank c) c.requires.members c.requires.columns c.requires.me

pub returns-clause-begun : goal.returns-clause-begun
unfolding inside
returns-clause-begun c = begun_blank (inside c) (blank c)

pub returns-clause-fresh : goal.returns-clause-fresh
unfolding inside
returns-clause-fresh c = IsFresh-blank (inside c) (blank c)

pub returns-clause-form : goal.returns-clause-form
returns-clause-form c = (invariant_of-result c).form
