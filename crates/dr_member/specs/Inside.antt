-- How the fields of `Member` hold what contracts see of it.
use Rattle.std.specs.Prelude.{◌^◌, ◌<◌}
use Rattle.dr_program.specs.{Form.IsRunningMember, Running.Running}
use Rattle.dr_member.specs.{Bases.AreBases, Fate.IsTimely, Ready.KeepsReady, Search.standing}
use Rattle.dr_member.specs.declared.member.Member.TheInside.{Inside}

abbrev pub member_inside : Inside → Running
member_inside a = standing a.replica a.fate a.place

pub record IsInsideMember (a : Inside) : Type 0 where
  pub form : IsRunningMember (member_inside a)
  pub fate : IsTimely a.fate a.replica.turns
  pub limit : a.fate.limit < 2 ^ 32
  pub bases : AreBases a.bases a.replica
  pub ready : KeepsReady a.replica a.place a.ready
