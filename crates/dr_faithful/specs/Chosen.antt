-- With which value each view of an age ends, and what it is for such values to be the ones that are chosen.
use Rattle.std.specs.Prelude.{◌≡◌, ◌&&◌, ℕ, zero, suc, not, if◌then◌else◌, slice_index, Some}
use Rattle.dr_entry.specs.declared.record.Value.{Value}
use Rattle.dr_history.specs.{Members.has, declared.opening.Opening.Opening}
use Rattle.dr_history_laws.specs.Courses.{ViewEnds, members_in}
use Rattle.dr_words.specs.Masks.{mask_of}
use Rattle.dr_machine.specs.{Group.Group, World.World}
use Rattle.dr_faithful.specs.Tells.{Views}

-- the value with which each view ends, by its number. Of a view that has not ended it says nothing
abbrev pub Values : Type 0
Values = ℕ → Value

-- the members that come of a view by a mask of names, as far as they are there
abbrev pub come_of : Opening → ℕ → ℕ → ℕ
come_of o members names = mask_of (λ i. has o.present i
    && (if has names i then not (has members i) else has members i))

-- the mask of the members of a view, where those before it end with these values
unfoldable pub members_by : Opening → Values → ℕ → ℕ
members_by o values zero = o.members
members_by o values (suc v) = come_of o (members_by o values v) (values v).leavers

-- how each view ends by them
abbrev pub endings_by : Opening → Values → ViewEnds
endings_by o values v = record {
  taken = λ s. slice_index (values v).trim s;
  next = members_by o values (suc v);
}

-- the members of each view
abbrev pub views_by : Group → Values → Views
views_by g values = members_in g.opening (endings_by g.opening values)

-- whoever has committed a value has committed the one value of its view
abbrev pub AreChosen : Values → World → Type 0
AreChosen values w =
    (m : ℕ) (value : Value) → w.committed m ≡ Some value → value ≡ values (w.past.view m)
