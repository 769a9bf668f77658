-- A program over a net: its members are on different machines. Each has its own copy of the table, which it
-- alone reads; what another member pushes to it comes later, more than once, or never, and a letter later, or never.
use Rattle.std.specs.Prelude.{◌≡◌, ◌⊎◌, ℕ, ◌<◌, Contains, List, [], ◌∷◌, max, slice_index, slice_set, None, Some}
use Rattle.dr_rows.specs.Words.{own}
use Rattle.dr_words.specs.Layout.{word_index_of}
use Rattle.dr_machine.specs.{Group.{Group, banks, columns, roster}, declared.step.Step.TheVariants.Push}
use Rattle.dr_program.specs.{Presence.{present_at, with_present}, Program.{Move, Program, step_of}}
use Rattle.dr_program.specs.{Reading.step_of_member, Running.{Running, settled, took_letter, AsksForLetter}}

-- member m of one of these programs was in this view, and this was its own word of the column
abbrev pub HadWord : List Program → ℕ → ℕ → ℕ → ℕ → Type 0
HadWord programs m v c word =
    (p : Program) × Contains programs p × (r : Running) × (present_at p.members m ≡ Some r)
    × (r.replica.view ≡ v) × (own r.replica.rows c ≡ word)

-- a member has pushed a word, and it is on its way: no copy has it yet
pub record IsOnItsWay (p q : Program) : Type 0 where
  pub move : Move
  pub member : Running
  pub there : present_at p.members move.member ≡ Some member
  pub to : ℕ
  pub column : ℕ
  pub push : step_of_member member ≡ Some (Push to column)
  pub made : q ≡ record { members = (step_of p move).members; table = p.table; letters = p.letters }

-- a word that a member had in one of these programs comes to a copy: the greater one of it and the word that
-- stood there stands there then
pub record WordComes (g : Group) (programs : List Program) (p q : Program) : Type 0 where
  pub view : ℕ
  pub copy : ℕ
  pub row : ℕ
  pub column : ℕ
  pub word : ℕ
  pub sent : HadWord programs row view column word
  pub bank : view < banks g
  pub to : copy < roster g
  pub from : row < roster g
  pub cell : column < columns g
  pub made : let place = word_index_of (roster g) g.window view copy row column in
      q ≡ record {
        members = p.members;
        table = slice_set p.table place (max (slice_index p.table place) word);
        letters = p.letters;
      }

-- the program after a take of its member m, which is r, that has found no letter
abbrev pub took_nothing : Program → ℕ → Running → Program
took_nothing p m r = record {
  members = with_present p.members m (settled (took_letter None r));
  table = p.table;
  letters = p.letters;
}

-- a member that asks for its letter finds none, as one that was given is on its way still
pub record FindsNone (p q : Program) : Type 0 where
  pub number : ℕ
  pub member : Running
  pub there : present_at p.members number ≡ Some member
  pub take : AsksForLetter member
  pub made : q ≡ took_nothing p number member

-- a program that comes next, behind these ones, of which p is the last: by a deed, of which a push or a letter may
-- be there at once; by a push that is not there yet; as a word comes; or as a letter hasn't come yet
abbrev pub NetStep : Group → List Program → Program → Program → Type 0
NetStep g before p q =
    ((e : Move) × (q ≡ step_of p e))
    ⊎ (IsOnItsWay p q ⊎ (WordComes g (p ∷ before) p q ⊎ FindsNone p q))

-- the programs before this one, the last one first, from that on which begins
abbrev pub NetWay : Group → Program → List Program → Program → Type 0
NetWay g begun [] p = p ≡ begun
NetWay g begun (x ∷ xs) p = NetWay g begun xs x × NetStep g xs x p

-- the program comes of some deeds of its members and of words that come
abbrev pub IsRanOverNet : Group → Program → Program → Type 0
IsRanOverNet g begun p = (before : List Program) × NetWay g begun before p
