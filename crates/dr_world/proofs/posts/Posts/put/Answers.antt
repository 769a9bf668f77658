use Rattle.std.{specs.Prelude.{Some, option_map, slice_set}, proofs.{Common.{◌∙◌}, lemmas.List.map-set}}
use Rattle.dr_world.proofs.posts.Posts.put.Goals as goal

pub returns : goal.returns
returns c = λ z. record {
  letters = (map-set (option_map (λ list. list.items)) c.self.inside.letters.items c.from.result (Some c.args.letter)
      ∙ (λ y. slice_set (c.self.view_is y).letters (c.from.ensures y) (Some c.args.letter.items))) z;
  left = (c.self.view_is z).left;
  room = (c.self.view_is z).room;
}
