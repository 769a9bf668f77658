use Rattle.std.{specs.Prelude.{Some, option_map, slice_set}, proofs.{Common.{◌∙◌}, lemmas.List.map-set}}
use Rattle.dr_world.proofs.posts.Posts.give.Goals as goal

pub returns-clause-letters : goal.returns-clause-letters
returns-clause-letters c = map-set (option_map (λ list. list.items)) c.self.inside.letters.items c.from.result
    (Some c.write_letter.new.into)
    ∙ (λ z. slice_set (c.self.view_is z).letters (c.from.ensures z) (Some (c.write_letter.ensures z)))
