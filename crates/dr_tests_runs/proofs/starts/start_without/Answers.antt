use Rattle.std.proofs.Common.{◌≡◌, sym, ap, ◌∙◌, subst, ℕ, ◌<◌, arith, true, List, []}
use Rattle.std.proofs.lemmas.Bool.{and_parts, ltb-true}
use Rattle.dr_entry.specs.declared.entry.Entry.{Entry}
use Rattle.dr_history.specs.Members.{has}
use Rattle.dr_machine.specs.Group.{IsGroup}
use Rattle.dr_restart.specs.Groups.{group_of}
use Rattle.dr_tests_runs.proofs.Parts.{part_group}
use Rattle.dr_tests_runs.proofs.starts.start_without.Goals as goal

pub returns : goal.returns
returns c =
    let first = c.bits-first.result in
    let there = c.bits.result in
    let none : c.of.result ≡ [] = c.of.ensures ∙ c.new.ensures.items in
    let some : 0 < first = omega (arith, c.if-first-eq0.false) in
    let within : (m : ℕ) → has there m ≡ true → m < c.args.script.now.members = λ m here.
    let both = sym (ap (λ mask. has mask m) c.bits.ensures ∙ c.without-there.ensures.members m) ∙ here in
    ltb-true m c.args.script.now.members (sym (c.all.ensures.members m) ∙ (and_parts _ _ both).0) in
    let part : (m : ℕ) → has first m ≡ true → has there m ≡ true = λ m here.
    let both = sym (ap (λ mask. has mask m) c.bits-first.ensures ∙ c.without.ensures.members m) ∙ here in
    ap (λ mask. has mask m) c.bits.ensures ∙ (and_parts _ _ both).0 in
    subst (λ (es : List Entry). IsGroup (group_of c.args.script.now
    (record { age = 0; members = first; present = there; entries = es }))) (sym none)
    (part_group c.args.script.now first there c.requires some part within)
