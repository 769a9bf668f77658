use Rattle.std.{specs.List.remove, proofs.Common.{rules, sym, ap, ◌∙◌, ◌==◌, length}}
use Rattle.dr_entry.proofs.NumberFacts.{count_none, count_some}
use Rattle.dr_program.proofs.{Present.going_within, Programs.picked, Schedules.chosen_place}
use Rattle.dr_served.proofs.Served.{places_both, places_same}
use Rattle.dr_sim.specs.Sound.{program_over}
use Rattle.dr_sim.proofs.Choices.{chosen_again, going_on, nothing_chosen, one_has_ended, seeded}
use Rattle.dr_sim.proofs.seeded.run_by_seed.Goals as goal

pub members-init : goal.members-init
members-init g c = record {
  sound = c.requires.1.1.1.0;
  going = c.going-going.ensures c.args.table.now c.args.posts.now.letters;
  chosen = nothing_chosen g.W.Watcher.sees c.args.watcher.now c.args.seed c.new-lcg.result (program_over c.args.members.now c.args.table.now c.args.posts.now.letters)
      c.new-lcg.ensures;
  ready = c.requires.1.1.1.1.0;
  lists = c.requires.1.1.1.1.1;
  places = places_same c.args.logs.now;
  served = λ bases served. served;
}

pub deeds-init : goal.deeds-init
deeds-init g c = record {
  sound = c.members.invariant.sound;
  going = c.members.invariant.going;
  few = c.len-few.ensures.value;
  some = count_some c.len-few.result (ap (λ n. n == 0) c.len-few.ensures.value
      ∙ sym c.is_empty.ensures ∙ c.members-test.true);
  chosen = c.members.invariant.chosen;
  ready = c.members.invariant.ready;
  lists = c.members.invariant.lists;
  places = c.members.invariant.places;
  served = c.members.invariant.served;
}

pub take_deed-requires-send-D : goal.take_deed-requires-send-D
take_deed-requires-send-D g c = λ ks within.
    let pick = picked c.deeds.lcg (program_over c.deeds.members c.deeds.table c.deeds.posts.letters) c.deeds.going.items c.deref.result.now c.len-few.result
    c.choose_few-at.result c.deeds.invariant.going c.deref.ensures.0 c.deeds.invariant.few
    c.deeds.invariant.some c.choose_few-at.ensures.choice in (
      within.0,
      (
        within.1,
        (
          search rules,
          (
            c.deeds.invariant.sound,
            (
              pick.goes,
              (going_within c.deeds.members _ pick.goes, (c.deeds.invariant.ready, c.deeds.invariant.lists)),
            ),
          ),
        ),
      ),
    )

pub members-preserved : goal.members-preserved
members-preserved g c =
    let pick = picked c.deeds.lcg (program_over c.deeds.members c.deeds.table c.deeds.posts.letters) c.deeds.going.items c.deref.result.now c.len-few.result
    c.choose_few-at.result c.deeds.invariant.going c.deref.ensures.0 c.deeds.invariant.few
    c.deeds.invariant.some c.choose_few-at.ensures.choice in
    let took = c.take_deed.ensures.took in
    let all = took.sound.form.all ∙ sym c.deeds.invariant.sound.form.all in record {
      sound = took.sound;
      going = c.strike.ensures.items
          ∙ ap (remove c.deeds.going.items) (chosen_place c.deeds.lcg c.choose_few-at.new.self c.state.result c.len-few.result
          (length c.deeds.going.items) c.choose_few-at.result c.state.ensures c.choose_few-at.ensures.state
          c.deeds.invariant.few c.choose_few-at.ensures.choice)
          ∙ ap (λ xs. remove xs c.choose_few-at.result) c.deeds.invariant.going
          ∙ sym (one_has_ended (program_over c.deeds.members c.deeds.table c.deeds.posts.letters) (program_over c.take_deed.new.members c.take_deed.new.table c.take_deed.new.posts.letters) _ c.choose_few-at.result took.outcome
          took.step all pick.within pick.place (sym c.take_deed.ensures.ended ∙ c.if-take_deed.true));
      chosen = chosen_again c.take_deed.new.watcher c.args.seed (program_over c.args.members.now c.args.table.now c.args.posts.now.letters) c.deeds.lcg
          c.choose_few-at.new.self (program_over c.deeds.members c.deeds.table c.deeds.posts.letters) (program_over c.take_deed.new.members c.take_deed.new.table c.take_deed.new.posts.letters) _ took.outcome
          c.deeds.invariant.chosen pick.choice
          c.choose_few-at.ensures.state took.step took.well pick.goes c.take_deed.ensures.told;
      ready = c.take_deed.ensures.ready;
      lists = c.take_deed.ensures.lists;
      places = places_both c.args.logs.now c.deeds.logs c.take_deed.new.logs c.deeds.invariant.places
          c.take_deed.ensures.places;
      served = λ bases served. c.take_deed.ensures.served bases (c.deeds.invariant.served bases served);
    }

pub deeds-preserved : goal.deeds-preserved
deeds-preserved g c =
    let pick = picked c.deeds.lcg (program_over c.deeds.members c.deeds.table c.deeds.posts.letters) c.deeds.going.items c.deref.result.now c.len-few.result
    c.choose_few-at.result c.deeds.invariant.going c.deref.ensures.0 c.deeds.invariant.few
    c.deeds.invariant.some c.choose_few-at.ensures.choice in
    let took = c.take_deed.ensures.took in
    let all = took.sound.form.all ∙ sym c.deeds.invariant.sound.form.all in record {
      sound = took.sound;
      going = c.deeds.invariant.going
          ∙ sym (going_on (program_over c.deeds.members c.deeds.table c.deeds.posts.letters) (program_over c.take_deed.new.members c.take_deed.new.table c.take_deed.new.posts.letters) _ took.outcome took.step all pick.goes
          (sym c.take_deed.ensures.ended ∙ c.if-take_deed.false));
      few = c.deeds.invariant.few;
      some = c.deeds.invariant.some;
      chosen = chosen_again c.take_deed.new.watcher c.args.seed (program_over c.args.members.now c.args.table.now c.args.posts.now.letters) c.deeds.lcg
          c.choose_few-at.new.self (program_over c.deeds.members c.deeds.table c.deeds.posts.letters) (program_over c.take_deed.new.members c.take_deed.new.table c.take_deed.new.posts.letters) _ took.outcome
          c.deeds.invariant.chosen pick.choice
          c.choose_few-at.ensures.state took.step took.well pick.goes c.take_deed.ensures.told;
      ready = c.take_deed.ensures.ready;
      lists = c.take_deed.ensures.lists;
      places = places_both c.args.logs.now c.deeds.logs c.take_deed.new.logs c.deeds.invariant.places
          c.take_deed.ensures.places;
      served = λ bases served. c.take_deed.ensures.served bases (c.deeds.invariant.served bases served);
    }

pub returns-clause-run : goal.returns-clause-run
returns-clause-run g c =
    seeded c.args.seed (program_over c.args.members.now c.args.table.now c.args.posts.now.letters) c.members.lcg (program_over c.members.members c.members.table c.members.posts.letters) c.members.going.items
    c.members.invariant.chosen c.members.invariant.going
    (count_none _ (sym c.is_empty.ensures ∙ c.members-test.false))
