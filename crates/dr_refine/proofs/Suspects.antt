-- What a suspicion makes of the world.
use Rattle.std.{specs.Prelude.Option, proofs.{Math.Path.fun_ext, lemmas.Bool.cases_eq}}
use Rattle.std.proofs.Common.{◌≡◌, refl, sym, ap, ◌∙◌, ℕ, ◌==◌, if◌then◌else◌, inl, inr, true, List, arith}
use Rattle.dr_rows.specs.Words.{own, rewritten}
use Rattle.dr_rows.proofs.Rewrites.{IsWords-frozen, IsWords-rewritten, own_rewritten_all, seen_rewritten}
use Rattle.dr_words.specs.{Masks.{least_of, with_member, without}, Rewrites.wedged_word}
use Rattle.dr_words.proofs.{Masks.{IsSuspecting, more_some}, Rewrites.wedged_rest}
use Rattle.dr_machine.specs.{Effects.{stamped, suspects}, Group.{Group, roster}, World.World, Writes.at}
use Rattle.dr_machine.proofs.Writes.{row_written}
use Rattle.dr_program.specs.{Presence.with_present, Reading.{Shared, kept_word, world_of}}
use Rattle.dr_program.specs.Replica.{Replica, acted, is_inside, may_suspect, suspected}
use Rattle.dr_program.proofs.Holdings.{holding_of, own_here, replaced, suspect_from, suspect_after, suspect_changes}
use Rattle.dr_program.proofs.{Present.present_within, Suspecting.suspecting}
use Rattle.dr_refine.{specs.Programs.{IsMember, acted_table}, proofs.Members.{fits, then_acted}}
use Rattle.dr_entry.proofs.NumberFacts.{same_number, other_number}
use Rattle.dr_faithful.proofs.Copies.{Fits}

-- one member more is suspected
pub suspect_effect : (g : Group) (rs : List (Option Replica)) (table : Shared) (m : ℕ) (r : Replica) (j : ℕ)
    → IsMember g rs table m r → is_inside r ≡ true → may_suspect r j ≡ true → world_of g (with_present rs m
    (acted (suspected r j))) (acted_table g table m r) ≡ stamped (suspects g (world_of g rs table) m j) m
suspect_effect g rs table m r j is inside e = then_acted g rs table m (suspected r j)
    (suspects g w m j) (present_within rs m r is.there) new_fits is.cells (replaced g rs table table m r
    (suspected r j) (suspects g w m j) (suspect_after g j) is.there (suspect_changes g w m j) same refl refl)
  where
    w : World
    w = world_of g rs table

    f : Fits g m r.rows r.view
    f = fits g rs table m r is

    s : IsSuspecting r.roster r.members r.suspects r.rows.me j
    s = suspecting r j is.form inside e

    mask : ℕ
    mask = with_member r.suspects j

    promise : ℕ
    promise = least_of (without r.members mask)

    make : ℕ → ℕ → ℕ
    make = wedged_word r.roster r.members mask promise

    new_fits : Fits g m (suspected r j).rows r.view
    new_fits = record {
      number = f.number;
      words = IsWords-frozen (rewritten r.rows make) j (IsWords-rewritten r.rows make f.words) s.apart;
      members = f.members;
      columns = f.columns;
      bank = f.bank;
    }

    words : (c : ℕ) → own (suspected r j).rows c ≡ wedged_word (roster g) r.members mask promise c (own r.rows c)
    words c = own_rewritten_all r.rows make c f.words (λ past. wedged_rest r.roster r.members mask promise c 0
        (omega (arith, is.form.columns, past)) (inr (omega (arith, is.form.columns, past))))
        ∙ ap (λ n. wedged_word n r.members mask promise c (own r.rows c)) is.of.members

    own_is : (holding_of g (suspected r j)).own ≡ at (holding_of g r).own r.view
        (λ c. wedged_word (roster g) r.members mask promise c (own r.rows c))
    own_is = fun_ext λ v. fun_ext λ c. ap (λ x. if v == r.view then x else kept_word r v c) (words c)
        ∙ row_written (own r.rows)
        (λ d. wedged_word (roster g) r.members mask promise d (own r.rows d)) (kept_word r) r.view v c

    seen_is : (holding_of g (suspected r j)).seen ≡ (holding_of g r).seen
    seen_is = fun_ext λ i. fun_ext λ c. elim (cases_eq i r.rows.me) [
      | inl mine ↦ rw (mine, same_number r.rows.me) refl
      | inr other ↦ rw (other_number i r.rows.me other) (seen_rewritten r.rows make i c other)
    ]

    promise_is : (holding_of g (suspected r j)).promise ≡ promise
    promise_is = rw (other_number mask 0 (more_some s)) refl

    same : suspect_after g j (holding_of g r) ≡ holding_of g (suspected r j)
    same = (λ z. suspect_from g j (holding_of g r) (own_here g r z)) ∙ (λ z. record (holding_of g r) {
      own = sym own_is z;
      suspects = mask;
      promise = sym promise_is z;
      seen = sym seen_is z;
    })
