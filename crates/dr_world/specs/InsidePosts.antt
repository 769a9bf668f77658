-- How the fields of the letters for late members hold what contracts see of them.
use Rattle.std.specs.{Prelude.{List, Option, Vec, map, option_map}, declared.alloc.Global.Global}
use Rattle.dr_entry.specs.declared.entry.Entry.{Entry}
use Rattle.dr_world.specs.{Posts.PostsOf, declared.posts.Posts.TheInside.Inside}

-- the letters in these lists
abbrev pub letters_in : List (Option (Vec Entry Global)) → List (Option (List Entry))
letters_in lists = map (option_map (λ (list : Vec Entry Global). list.items)) lists

abbrev pub posts_of : Inside → PostsOf
posts_of a = record { letters = letters_in a.letters.items; left = a.spare.count; room = a.spare.room }
