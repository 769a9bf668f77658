-- How the fields of `Hand` and `SeatedMember` hold what contracts see of them.
use Rattle.std.specs.Prelude.{◌≡◌, ◌<◌, ◌≤◌, [], vec_capacity}
use Rattle.dr_program.specs.Running.{Running}
use Rattle.dr_table.specs.Cards.{AreOf, AreReached, Cards, Seated, board_size}
use Rattle.dr_table.specs.{Steps.{IsAhead, IsReachedMember, alone, idle}, declared.hand.Hand.TheInside.Inside}
use Rattle.dr_table.specs.declared.seated.SeatedMember.TheInside.{Inside as InsideSeated}

abbrev pub cards_of : Inside → Cards
cards_of h = record {
  table = record { id = h.seat.table_id; places = h.places };
  members = h.members.items;
}

pub record IsInsideHand (h : Inside) : Type 0 where
  pub known : h.seat.me ≡ idle h.members.items
  pub reached : AreReached h.members.items
  pub of : AreOf h.seat.table_id.words h.members.items
  pub words : 0 < h.seat.table_id.words
  pub room : h.places ≤ vec_capacity h.members

abbrev pub seated_of : InsideSeated → Seated
seated_of s = record {
  table = record { id = s.seat.table_id; places = s.places };
  member = s.member;
}

pub record IsInsideSeated (s : InsideSeated) : Type 0 where
  -- the seat knows the member as its last step left it; appends since then are the member's alone
  pub known : (r : Running) × (s.seat.me ≡ alone r) × IsAhead r s.member
  pub reached : IsReachedMember s.member
  pub of : board_size s.member ≡ s.seat.table_id.words
  pub words : 0 < s.seat.table_id.words
  pub rest : s.rest.items ≡ []
  pub room : s.places ≤ vec_capacity s.rest
  pub one : 0 < vec_capacity s.rest
