-- A script, a start and the number of an age leave no choice: there is one list of setups.
use Rattle.std.{specs.Prelude.{None, Option, Some}, proofs.Common.{◌≡◌, refl, sym, ap, ◌∙◌, ℕ, ◌<◌, List, arith}}
use Rattle.std.proofs.lemmas.List.{ext_get_or}
use Rattle.dr_program.{specs.{Presence.present_at, declared.setup.Setup.Setup}, proofs.Opening.{setup_is, setup_of}}
use Rattle.dr_script.specs.declared.script.Script.{Script}
use Rattle.dr_words.proofs.Unique.{same_shape}
use Rattle.dr_machine.specs.Group.{Group}
use Rattle.dr_restart.specs.{Groups.group_of, Setups.{AreSetupsOf, IsSetupOf}, declared.start.Start.Start}

same_setup : (script : Script) (start : Start) (nth m : ℕ) (s t : Setup)
    → IsSetupOf script start nth m s → IsSetupOf script start nth m t → s ≡ t
same_setup script start nth m s t one other = setup_is g script.turns m s one.setup
    ∙ (ap (λ shape. setup_of g script.turns m shape s) shapes
    ∙ (same ∙ sym (setup_is g script.turns m t other.setup)))
  where
    g : Group
    g = group_of script start

    same : setup_of g script.turns m t.shape s ≡ setup_of g script.turns m t.shape t
    same = λ z. record (setup_of g script.turns m t.shape s) {
      patience = (one.patience ∙ sym other.patience) z;
      crashes = (one.crashes ∙ sym other.crashes) z;
      suspicions = (one.suspicions ∙ sym other.suspicions) z;
    }

    shapes : s.shape ≡ t.shape
    shapes = same_shape s.shape t.shape (one.setup.members ∙ sym other.setup.members)
        (one.setup.window ∙ sym other.setup.window) (one.setup.banks ∙ sym other.setup.banks)

-- a script and a start give one list of setups for an age
pub same_setups : (script : Script) (start : Start) (nth : ℕ) (xs ys : List (Option Setup))
    → AreSetupsOf script start nth xs → AreSetupsOf script start nth ys → xs ≡ ys
same_setups script start nth xs ys ones others = ext_get_or None xs ys (ones.all ∙ sym others.all)
    (λ m within. by m (present_at xs m) (present_at ys m) refl refl (omega (arith, within, ones.all)))
  where
    by : (m : ℕ) (o q : Option Setup) → present_at xs m ≡ o → present_at ys m ≡ q → m < script.members
        → present_at xs m ≡ present_at ys m
    by m None None here there below = here ∙ sym there
    by m (Some s) (Some t) here there below = here
        ∙ ap Some (same_setup script start nth m s t (ones.each m s here) (others.each m t there)) ∙ sym there
    by m (Some s) None here there below =
        absurd (cc ((others.there m below (ones.each m s here).setup.present).1, there))
    by m None (Some t) here there below =
        absurd (cc ((ones.there m below (others.each m t there).setup.present).1, here))
