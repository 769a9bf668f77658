-- How far a text was read.
use Rattle.std.specs.{List.AllZip, Prelude.{◌≡◌, ℕ, ◌≤◌, List, ◌++◌, Some, true}}
use Rattle.dr_check.specs.{Course.{course_after, beginning}, Lines.{IsLineText, lines_of}}
use Rattle.dr_check.specs.declared.{course.Course.Course, line.Line.Line}

-- bytes are this line, and no other
abbrev pub IsOnly : Line → List ℕ → Type 0
IsOnly line bytes = IsLineText line bytes × ((other : Line) → IsLineText other bytes → other ≡ line)

-- the first lines of a text are these, behind which this rest stands, and this has come of them
pub record HasRead (members : ℕ) (text rest : List ℕ) (found : List Line) (course : Course) : Type 0 where
  pub done : List (List ℕ)
  pub parts : lines_of text ≡ done ++ lines_of rest
  pub lines : AllZip IsOnly found done
  pub come : course_after members (beginning members) found ≡ Some course
  pub within : course.member ≤ members

-- all lines of a text are these, and the last is the end
pub record AreWhole (members : ℕ) (text : List ℕ) (found : List Line) : Type 0 where
  pub lines : AllZip IsLineText found (lines_of text)
  pub course : Course
  pub come : course_after members (beginning members) found ≡ Some course
  pub ended : course.ended ≡ true
