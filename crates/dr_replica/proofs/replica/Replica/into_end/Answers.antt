use Rattle.std.proofs.Common.{rules, ◌≡◌, List, ◌++◌, ◌∷◌, [], map, sym, ap, ◌∙◌, arith, append_assoc}
use Rattle.dr_entry.specs.declared.end.{SentItem.SentItem, ViewSent.ViewSent}
use Rattle.dr_program.{specs.{Program.{member_end, sent_before}, Replica.Replica}, proofs.Programs.end_told}
use Rattle.dr_replica.specs.{Inside.replica_inside, Lefts.left_of, declared.left.Left.Left}
use Rattle.dr_replica.proofs.Lefts.{put_all, put_before, put_few}
use Rattle.dr_replica.proofs.replica.Replica.into_end.Goals as goal

pub overflow_cast-len : goal.overflow_cast-len
overflow_cast-len c =
    let few = put_few c.loop-left.sent.items c.loop-left.yielded c.next.new.self.rest.items c.in-Some.left
    (replica_inside c.self.inside) c.loop-left.invariant.told
    (ap (λ (x : List Left). map left_of (c.loop-left.yielded ++ x)) (sym c.in-Some.ensures.steps.0)
    ∙ c.loop-left.invariant.all ∙ sym (ap (λ (r : Replica). r.left) c.self.view_is)) c.self.invariant.form in
    omega (arith, few, c.len.ensures)

pub unwrap-requires : goal.unwrap-requires
unwrap-requires c =
    let few = put_few c.loop-left.sent.items c.loop-left.yielded c.next.new.self.rest.items c.in-Some.left
    (replica_inside c.self.inside) c.loop-left.invariant.told
    (ap (λ (x : List Left). map left_of (c.loop-left.yielded ++ x)) (sym c.in-Some.ensures.steps.0)
    ∙ c.loop-left.invariant.all ∙ sym (ap (λ (r : Replica). r.left) c.self.view_is)) c.self.invariant.form in
    let banks = ap (λ (r : Replica). r.banks) c.self.view_is in
    c.push.ensures.succeeds (omega (arith, few.0, few.1, banks, c.loop-left.invariant.room))

pub loop-left-preserved : goal.loop-left-preserved
loop-left-preserved c = record {
  next = tt;
  finite = tt;
  told =
      let pushed : c.push.new.self.items
      ≡ c.loop-left.sent.items ++ record { number = c.len.result; items = c.of.result } ∷ [] = search rules in
      pushed ∙ put_before c.loop-left.sent.items c.loop-left.yielded c.in-Some.left c.len.result c.of.result
      c.loop-left.invariant.told (omega (arith, c.len.ensures)) c.of.ensures;
  all = ap (λ (x : List Left). map left_of x) (append_assoc c.loop-left.yielded
      (c.in-Some.left ∷ []) c.next.new.self.rest.items) ∙ ap (λ (x : List Left). map left_of
      (c.loop-left.yielded ++ x)) (sym c.in-Some.ensures.steps.0) ∙ c.loop-left.invariant.all;
  room = omega (arith, c.loop-left.invariant.room, c.push.ensures.capacity);
}

pub unwrap-requires-2 : goal.unwrap-requires-2
unwrap-requires-2 c =
    let all = put_all c.loop-left.sent.items c.loop-left.yielded c.loop-left.left-iterator.rest.items
    (replica_inside c.self.inside) c.loop-left.invariant.told (c.loop-left.invariant.all
    ∙ sym (ap (λ (r : Replica). r.left) c.self.view_is)) (search rules) c.self.invariant.form in
    let banks = ap (λ (r : Replica). r.banks) c.self.view_is in
    c.push-2.ensures.succeeds (omega (arith, all.1.0, all.1.1, banks, c.loop-left.invariant.room))

pub returns : goal.returns
returns c =
    let all = put_all c.loop-left.sent.items c.loop-left.yielded c.loop-left.left-iterator.rest.items
    (replica_inside c.self.inside) c.loop-left.invariant.told (c.loop-left.invariant.all
    ∙ sym (ap (λ (r : Replica). r.left) c.self.view_is)) (search rules) c.self.invariant.form in
    let pushed : c.push-2.new.self.items
    ≡ c.loop-left.sent.items ++ record { number = c.self.inside.view; items = c.of-2.result } ∷ [] = search rules in
    end_told (replica_inside c.self.inside) c.unwrap_or.result c.of-3.result c.into_entries.result c.unwrap_or.ensures
    (c.of-3.ensures ∙ pushed
    ∙ ap (λ (x : List ViewSent). x ++ record { number = c.self.inside.view; items = c.of-2.result } ∷ []) all.0
    ∙ ap (λ (x : List SentItem). sent_before 0 (replica_inside c.self.inside).left
    ++ record { number = c.self.inside.view; items = x } ∷ []) c.of-2.ensures)
    c.into_entries.ensures ∙ ap member_end c.self.view_is
