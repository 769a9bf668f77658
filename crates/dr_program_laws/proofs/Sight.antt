-- What a look finds in the table of a program in a reached world, its member may see.
use Rattle.std.{specs.Prelude.{Some, None}, proofs.Common.{◌≡◌, ◌≢◌, sym, subst, ℕ, ◌<◌, true, not, arith}}
use Rattle.std.proofs.lemmas.Bool.{and_parts}
use Rattle.dr_history.specs.Members.{has}
use Rattle.dr_rows.specs.Words.{seen}
use Rattle.dr_words.specs.{Form.IsInForm, Grown.HasGrown}
use Rattle.dr_machine.specs.{Group.{Group, IsGroup, columns, roster}, Run.IsReached, World.World}
use Rattle.dr_machine.specs.declared.step.Step.TheVariants.{Look}
use Rattle.dr_program.specs.{Form.IsOf, Presence.present_at, Program.{Program, next_sight}, Reading.{table_of, world}}
use Rattle.dr_program.specs.{Replica.{is_inside, is_other}, Running.{Running, next_step}, Sight.IsSeenNext}
use Rattle.dr_program.specs.Steps.{allows, found, has_cell, NoWordFell, sight, stepped}
use Rattle.dr_program.proofs.{Deeds.{replicas, due_allowed}, Present.present_within}
use Rattle.dr_faithful.specs.{Chosen.views_by, Faithful.Faithful}
use Rattle.dr_form.proofs.Steps.{stepped_grown}
use Rattle.dr_refine.{specs.Programs.{IsMember, IsProgram}, proofs.Deeds.program_member}
use Rattle.dr_refine.proofs.{Guards.{other_member, seen_is}, Programs.word_found, Tests.cell_test}
use Rattle.dr_world_laws.proofs.Worlds.{Known, faithful, known}

-- it is in form, and has grown from the word that was seen before
pub found_seen : (g : Group) (p : Program) (m : ℕ) (r : Running) (i c : ℕ) → IsGroup g
    → IsProgram g p → IsReached g (world g p) → present_at p.members m ≡ Some r → allows r.replica (Look i c) ≡ true
    → IsSeenNext r i c (found p.table r.replica i c)
found_seen g p m r i c group is run there may = record {
  form = subst (λ n. IsInForm n c word) (sym of.members)
      (subst (IsInForm (roster g) c) same (told.form.in_table (w.past.view m) m i c));
  grown = subst (λ n. HasGrown n c (seen r.replica.rows i c) word) (sym of.members)
      (subst (λ x. HasGrown (roster g) c x word)
      (seen_is g (replicas p.members) (table_of p) m r.replica i c member apart)
      (subst (HasGrown (roster g) c (w.seen m i c)) same (told.old.in_seen m i c apart)));
}
  where
    w : World
    w = world g p

    word : ℕ
    word = found p.table r.replica i c

    of : IsOf g m r.replica
    of = is.of m r there

    member : IsMember g (replicas p.members) (table_of p) m r.replica
    member = program_member g p m r group is there

    cell : (is_other r.replica i ≡ true) × (c < columns g)
    cell = (cell_test g (replicas p.members) (table_of p) m r.replica i c member).0
        (and_parts (not (has r.replica.suspects i)) (has_cell r.replica i c)
        (and_parts (is_inside r.replica) _ may).1).1

    apart : i ≢ m
    apart = ((other_member g (replicas p.members) (table_of p) m r.replica i member).0 cell.0).other

    y : Known g (world g p)
    y = known g (world g p) group run

    told : Faithful g (views_by g y.values) (world g p)
    told = faithful g (world g p) y

    same : (world g p).table ((world g p).past.view m) m i c ≡ found p.table r.replica i c
    same = word_found g p m r i c member (omega (arith, present_within p.members m r there, is.all)) cell.0 cell.1

pub next_grown : (g : Group) (p : Program) (m : ℕ) (r : Running) → IsGroup g → IsProgram g p
    → IsReached g (world g p) → present_at p.members m ≡ Some r → r.replica.end ≡ None
    → (stepped (next_sight p.table r) r.replica (next_step r)).view ≡ r.replica.view
    → NoWordFell r.replica (stepped (next_sight p.table r) r.replica (next_step r))
next_grown g p m r group is run there unended =
    stepped_grown (next_sight p.table r) r.replica (next_step r) (is.form m r there).replica may (λ i c at.
    subst (λ s. HasGrown r.replica.roster c (seen r.replica.rows i c) (sight p.table r.replica s)) (sym at)
    (found_seen g p m r i c group is run there (subst (λ s. allows r.replica s ≡ true) at may)).grown)
  where
    may : allows r.replica (next_step r) ≡ true
    may = due_allowed r ((is.form m r there).due unended)
