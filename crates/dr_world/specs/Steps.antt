-- Which steps may come, and what they find and leave.
use Rattle.std.specs.Prelude.{◌≡◌, ℕ, ◌-◌, ◌<◌, ◌≤◌, ◌&&◌, if◌then◌else◌, Bool, false, true, IfSome, List, None, Option, Some, is_some, length}
use Rattle.dr_entry.specs.declared.entry.Entry.{Entry}
use Rattle.dr_form.specs.Letters.{IsFitting}
use Rattle.dr_rows.specs.Words.{seen}
use Rattle.dr_words.specs.{Form.IsInForm, Grown.HasGrown, Layout.words_of}
use Rattle.dr_program.specs.{Reading.letters_of, Replica.{Replica, joined, me}}
use Rattle.dr_program.specs.Steps.{found, given_to, may_take, stepped_over, stored_letters}
use Rattle.dr_machine.specs.declared.step.Step.{Step, TheVariants.{Join, Look}}
use Rattle.dr_world.specs.Posts.{PostsOf}

-- whether a letter is there where the step needs one: a join does
abbrev pub finds_letter : Option (List Entry) → Step → Bool
finds_letter letter Join = is_some letter
finds_letter letter s = true

-- whether whoever stands at a place may take the step, with the letter that is there for it: nobody does where the
-- place is empty
abbrev pub may_come : Option Replica → Option (List Entry) → Step → Bool
may_come None letter s = false
may_come (Some r) letter s = may_take r s && finds_letter letter s

-- a late member after a take: it joins where it finds a letter
abbrev pub joined_by : Option (List Entry) → Replica → Replica
joined_by None r = r
joined_by (Some letter) r = joined r letter

-- the replica after the step over this table, with the letter that is there for its member
abbrev pub stepped_with : Option (List Entry) → List ℕ → Replica → Step → Replica
stepped_with letter table r Join = joined_by letter r
stepped_with letter table r s = stepped_over table r s

-- how many of so many lists for letters are left after the step: one that gives a letter takes one
abbrev pub lists_left : ℕ → Step → ℕ
lists_left count s = if is_some (given_to s) then count - 1 else count

-- the letters after the step of this replica
abbrev pub posts_after : PostsOf → Replica → Step → PostsOf
posts_after p r s = record p { letters = stored_letters p.letters r s; left = lists_left p.left s }

-- the word that a look finds is in form, and has grown from the one last seen
pub record IsSight (table : List ℕ) (r : Replica) (i c : ℕ) : Type 0 where
  pub in_form : IsInForm r.roster c (found table r i c)
  pub grown : HasGrown r.roster c (seen r.rows i c) (found table r i c)

-- all is there that the step of a replica asks for: it may be taken; the table and the letters are whole; a look
-- finds a word that has grown, a join a letter that fits, and a welcome a list for its letter
pub record IsReadyFor (r : Replica) (table : List ℕ) (p : PostsOf) (s : Step) : Type 0 where
  pub may : may_take r s ≡ true
  pub words : length table ≡ words_of r.roster r.window r.banks
  pub posts : length p.letters ≡ r.roster
  pub sight : (i c : ℕ) → s ≡ Look i c → IsSight table r i c
  pub fitting : s ≡ Join → IfSome (letters_of p.letters (me r)) (IsFitting r)
  pub list : (j : ℕ) → given_to s ≡ Some j → 0 < p.left
  pub room : r.room ≤ p.room
