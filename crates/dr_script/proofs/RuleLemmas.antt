-- Parts of the table of rules.
use Rattle.std.proofs.Common.{◌≡◌, List, [], ◌∷◌, ◌++◌, Option, Some, None, refl, ap, ◌∙◌}
use Rattle.serde_json.specs.Data.{Data}
use Rattle.dr_script.specs.Places.{broken_at, or_else}
use Rattle.dr_script.specs.Rules.{Rule, first_broken, shape_rules, size_rules, message_rules, fault_rules, schedule_rules, rules}
use Rattle.dr_script.{specs.declared.passage.Broken.Broken, proofs.EachLemmas.{behind_none, before_some}}

or_else_assoc : {A : Type 0} (o p q : Option A) → or_else o (or_else p q) ≡ or_else (or_else o p) q
or_else_assoc None p q = refl
or_else_assoc (Some x) p q = refl

first_broken_append : (firsts lasts : List Rule) (d : Data) → first_broken (firsts ++ lasts) d
    ≡ or_else (first_broken firsts d) (first_broken lasts d)
first_broken_append [] lasts d = refl
first_broken_append (rule ∷ firsts) lasts d =
    ap (or_else (broken_at rule.0 (rule.1 d))) (first_broken_append firsts lasts d)
    ∙ or_else_assoc (broken_at rule.0 (rule.1 d)) (first_broken firsts d) (first_broken lasts d)

behind_kept : (firsts lasts : List Rule) (d : Data) (broken : Broken) → first_broken firsts d ≡ None
    → first_broken lasts d ≡ Some broken → first_broken (firsts ++ lasts) d ≡ Some broken
behind_kept firsts lasts d broken kept is = first_broken_append firsts lasts d
    ∙ behind_none (first_broken firsts d) (first_broken lasts d) (Some broken) kept is

broken_first : (firsts lasts : List Rule) (d : Data) (broken : Broken) → first_broken firsts d
    ≡ Some broken → first_broken (firsts ++ lasts) d ≡ Some broken
broken_first firsts lasts d broken is = first_broken_append firsts lasts d
    ∙ before_some (first_broken firsts d) (first_broken lasts d) broken is

-- the first broken rule is one on sizes, on messages or on faults
pub broken_size : (d : Data) (broken : Broken) → first_broken shape_rules d ≡ None
    → first_broken size_rules d ≡ Some broken → first_broken rules d ≡ Some broken
broken_size d broken shape is =
    behind_kept shape_rules (size_rules ++ (message_rules ++ (fault_rules ++ schedule_rules))) d broken shape
    (broken_first size_rules (message_rules ++ (fault_rules ++ schedule_rules)) d broken is)

-- where shape and sizes are kept, the first broken rule is that on messages
pub broken_message : (d : Data) (broken : Broken) → first_broken shape_rules d ≡ None
    → first_broken size_rules d ≡ None → first_broken message_rules d ≡ Some broken
    → first_broken rules d ≡ Some broken
broken_message d broken shape sizes is =
    behind_kept shape_rules (size_rules ++ (message_rules ++ (fault_rules ++ schedule_rules))) d broken shape
    (behind_kept size_rules (message_rules ++ (fault_rules ++ schedule_rules)) d broken sizes
    (broken_first message_rules (fault_rules ++ schedule_rules) d broken is))

-- where shape, sizes and messages are kept, the first broken rule is that on faults
pub broken_fault : (d : Data) (broken : Broken) → first_broken shape_rules d ≡ None
    → first_broken size_rules d ≡ None → first_broken message_rules d ≡ None
    → first_broken fault_rules d ≡ Some broken → first_broken rules d ≡ Some broken
broken_fault d broken shape sizes messages is =
    behind_kept shape_rules (size_rules ++ (message_rules ++ (fault_rules ++ schedule_rules))) d broken shape
    (behind_kept size_rules (message_rules ++ (fault_rules ++ schedule_rules)) d broken sizes
    (behind_kept message_rules (fault_rules ++ schedule_rules) d broken messages
    (broken_first fault_rules schedule_rules d broken is)))
