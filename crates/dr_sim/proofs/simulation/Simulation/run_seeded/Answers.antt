use Rattle.std.{specs.{Prelude.Option, Vec.with_items}, proofs.Common.{rules, ◌≡◌, sym, ap, ◌∙◌, subst, ℕ, List}}
use Rattle.std.proofs.lemmas.List.{with_items_is}
use Rattle.dr_play.specs.Sound.{IsSound}
use Rattle.dr_served.specs.Served.{AreReady, HaveServed}
use Rattle.dr_program.specs.{Program.Program, Running.Running}
use Rattle.dr_sim.{specs.{Lists.HaveSpares, Sound.program_over}, proofs.Choices.HasRunTold}
use Rattle.dr_sim.proofs.simulation.Simulation.run_seeded.Goals as goal

pub run_by_seed-requires-send-D : goal.run_by_seed-requires-send-D
run_by_seed-requires-send-D g c = λ ks within.
    let members = c.as_mut_slice.ensures.value in
    let both = (λ z. program_over (members z) (c.as_mut_slice-2.ensures.value z) c.self.inside.posts.letters) ∙ c.self.view_is in (
      within.0,
      (
        within.1,
        (
          search rules,
          (
            subst (IsSound g.group) (sym both) c.requires.1.1.1.0,
            (
              subst (AreReady c.args.logs.now) (sym (members ∙ ap (λ (v : Program). v.members) c.self.view_is))
                  c.requires.1.1.1.1,
              subst (HaveSpares c.self.inside.posts) (sym members) c.self.invariant,
            ),
          ),
        ),
      ),
    )

pub returns-clause-run : goal.returns-clause-run
returns-clause-run g c =
    let before : program_over c.as_mut_slice.result.now c.as_mut_slice-2.result.now c.self.inside.posts.letters
    ≡ c.args.self.now = (λ z. program_over (c.as_mut_slice.ensures.value z)
    (c.as_mut_slice-2.ensures.value z) c.self.inside.posts.letters) ∙ c.self.view_is in
    let members = with_items_is c.self.inside.members c.run_by_seed.new.members
    (c.run_by_seed.auto.members ∙ c.as_mut_slice.ensures.len) in
    let table = with_items_is c.self.inside.table c.run_by_seed.new.table
    (c.run_by_seed.auto.table ∙ c.as_mut_slice-2.ensures.len) in
    subst (λ (v : Program). HasRunTold g.W.Watcher.sees c.args.watcher.now c.run_by_seed.new.watcher c.args.seed v
    (program_over (with_items c.self.inside.members c.run_by_seed.new.members).items
    (with_items c.self.inside.table c.run_by_seed.new.table).items c.run_by_seed.new.posts.letters)) before
    (subst (HasRunTold g.W.Watcher.sees c.args.watcher.now c.run_by_seed.new.watcher c.args.seed
    (program_over c.as_mut_slice.result.now c.as_mut_slice-2.result.now c.self.inside.posts.letters))
    (sym (λ z. program_over (members z) (table z) c.run_by_seed.new.posts.letters)) c.run_by_seed.ensures.run)

pub returns-clause-sound : goal.returns-clause-sound
returns-clause-sound g c =
    let members = with_items_is c.self.inside.members c.run_by_seed.new.members
    (c.run_by_seed.auto.members ∙ c.as_mut_slice.ensures.len) in
    let table = with_items_is c.self.inside.table c.run_by_seed.new.table
    (c.run_by_seed.auto.table ∙ c.as_mut_slice-2.ensures.len) in
    subst (IsSound g.group) (sym (λ z. program_over (members z) (table z) c.run_by_seed.new.posts.letters)) c.run_by_seed.ensures.sound

pub returns-clause-ready : goal.returns-clause-ready
returns-clause-ready g c = subst (AreReady c.run_by_seed.new.logs)
    (sym (with_items_is c.self.inside.members c.run_by_seed.new.members
    (c.run_by_seed.auto.members ∙ c.as_mut_slice.ensures.len))) c.run_by_seed.ensures.ready

pub returns-clause-served : goal.returns-clause-served
returns-clause-served g c = λ bases served.
    subst (HaveServed g.D.Disk.told g.D.Disk.faults bases c.run_by_seed.new.logs)
    (sym (with_items_is c.self.inside.members c.run_by_seed.new.members
    (c.run_by_seed.auto.members ∙ c.as_mut_slice.ensures.len)))
    (c.run_by_seed.ensures.served bases (subst (HaveServed g.D.Disk.told g.D.Disk.faults bases c.args.logs.now)
    (sym (c.as_mut_slice.ensures.value ∙ ap (λ (v : Program). v.members) c.self.view_is)) served))

pub invariant_of-self : goal.invariant_of-self
invariant_of-self g c = subst (HaveSpares c.run_by_seed.new.posts)
    (sym (with_items_is c.self.inside.members c.run_by_seed.new.members
    (c.run_by_seed.auto.members ∙ c.as_mut_slice.ensures.len))) c.run_by_seed.ensures.lists
