use Rattle.std.{specs.Prelude.{All, Err}, proofs.lemmas.List.Elements.{All-drop, All-take}}
use Rattle.std.proofs.Common.{◌≡◌, sym, ap, subst, ℕ, ◌-◌, ◌+◌, List, [], ◌∷◌, ◌++◌, length, take, drop, max, rules, arith}
use Rattle.dr_entry.specs.{Spelling.IsValidEntry, declared.entry.Entry.{Entry, TheVariants.View}}
use Rattle.dr_entry.proofs.Entries.{lacked_is, lacking_all}
use Rattle.dr_io.specs.Faults.{Rose}
use Rattle.dr_history.proofs.Histories.{lacking}
use Rattle.dr_log.specs.{Standing.entries_length, State.LogState}
use Rattle.dr_opening.{specs.CatchingUp.{FitsOrIsFull, lacked, opened_with}, proofs.catching_up.catch_up.Given.Over}
use Rattle.dr_opening.specs.declared.catching_up.CatchFault.TheVariants.{OutOfMemory}
use Rattle.dr_opening.proofs.Catching.{GotRoom, caught_all, full_alone, full_by, left_alone, stayed_still, stopped_stayed, told_disk}
use Rattle.dr_opening.proofs.catching_up.catch_up.Goals as goal

pub append_entries-requires-clause-valid : goal.append_entries-requires-clause-valid
append_entries-requires-clause-valid g c κs within =
    let entries = c.as_slice-entries.result.now in
    let have = length c.entries-have.result.now in
    let valid : All IsValidEntry entries = subst (All IsValidEntry) (sym c.as_slice-entries.ensures) c.requires.valid in
    All-take IsValidEntry (length entries - have) (drop have entries) (All-drop IsValidEntry have entries valid)

-- a log that got no room, for want of memory
no_room : (g : Over) (c : goal.After-from_residual g)
    → GotRoom g.D.Disk.told g.D.Disk.faults c.args.log.now c.reserve.new.self
no_room g c = record {
  spare_entries = c.args.log.now.spare_entries;
  spare_votes = c.args.log.now.spare_votes;
  spare_others = c.args.log.now.spare_others;
  is = c.in_err-reserve.ensures.err;
  tells = c.in_err-reserve.ensures.told;
  safe = c.in_err-reserve.ensures.safe c.requires.whole;
  calm = c.in_err-reserve.ensures.faults;
}

pub returns-in_err-reserve-clause-stayed : goal.returns-in_err-reserve-clause-stayed
returns-in_err-reserve-clause-stayed g c =
    let answer : c.from_residual.result ≡ Err OutOfMemory = search rules in
    rw answer (stayed_still g.D.Disk.told g.D.Disk.faults (opened_with c.args.start.now c.args.members)
    c.args.log.now c.reserve.new.self (no_room g c))

pub returns-in_err-reserve-clause-left_alone : goal.returns-in_err-reserve-clause-left_alone
returns-in_err-reserve-clause-left_alone g c =
    let answer : c.from_residual.result ≡ Err OutOfMemory = search rules in
    rw answer (λ other. left_alone g.D.Disk.told g.D.Disk.faults c.args.log.now c.reserve.new.self c.requires.whole
    (no_room g c))

pub returns-in_err-reserve-clause-limit : goal.returns-in_err-reserve-clause-limit
returns-in_err-reserve-clause-limit g c =
    let answer : c.from_residual.result ≡ Err OutOfMemory = search rules in rw answer tt

pub returns-in-Ok-clause-caught : goal.returns-in-Ok-clause-caught
returns-in-Ok-clause-caught g c =
    let told = g.D.Disk.told in
    let faults = g.D.Disk.faults in
    let old = c.args.log.now in
    let mid = c.reserve.new.self in
    let new = c.append_entries.new.self in
    let start = c.args.start.now in
    let whole = opened_with start c.args.members in
    let have = c.entries-have.result.now in
    let entries = c.as_slice-entries.result.now in
    let first : List Entry = take (length entries - length have) (drop (length have) entries) in
    let last = View start.age 0 c.bits.result in
    let all : old.content.entries ++ (first ++ last ∷ []) ≡ whole =
    lacking_all old.content.entries first start.entries last (View start.age 0 c.args.members)
    (lacking old.content.entries start.entries have entries c.requires.part c.entries-have.ensures
    c.as_slice-entries.ensures) (ap (λ (n : ℕ). View start.age 0 n) c.bits.ensures) in
    let is = lacked_is old.content.entries (first ++ last ∷ []) whole all in
    let got : GotRoom told faults old mid = record {
      spare_entries = max old.spare_entries (length entries - length have + 1);
      spare_votes = max old.spare_votes 0;
      spare_others = max old.spare_others 3;
      is = c.in_ok-reserve.ensures.ok;
      tells = c.in_ok-reserve.ensures.told;
      safe = c.in_ok-reserve.ensures.safe c.requires.whole;
      calm = c.in_ok-reserve.ensures.faults;
    } in
    caught_all told faults whole (first ++ last ∷ []) old mid new got c.requires.whole all is c.in-Ok.ensures.ok
    c.in-Ok.ensures.calls c.in-Ok.ensures.any_moment c.in-Ok.ensures.durable c.in-Ok.ensures.calm

pub returns-in-Ok-clause-limit : goal.returns-in-Ok-clause-limit
returns-in-Ok-clause-limit g c =
    let told = g.D.Disk.told in
    let faults = g.D.Disk.faults in
    let old = c.args.log.now in
    let mid = c.reserve.new.self in
    let new = c.append_entries.new.self in
    let start = c.args.start.now in
    let whole = opened_with start c.args.members in
    let have = c.entries-have.result.now in
    let entries = c.as_slice-entries.result.now in
    let first : List Entry = take (length entries - length have) (drop (length have) entries) in
    let last = View start.age 0 c.bits.result in
    let all : old.content.entries ++ (first ++ last ∷ []) ≡ whole =
    lacking_all old.content.entries first start.entries last (View start.age 0 c.args.members)
    (lacking old.content.entries start.entries have entries c.requires.part c.entries-have.ensures
    c.as_slice-entries.ensures) (ap (λ (n : ℕ). View start.age 0 n) c.bits.ensures) in
    let is = lacked_is old.content.entries (first ++ last ∷ []) whole all in
    let got : GotRoom told faults old mid = record {
      spare_entries = max old.spare_entries (length entries - length have + 1);
      spare_votes = max old.spare_votes 0;
      spare_others = max old.spare_others 3;
      is = c.in_ok-reserve.ensures.ok;
      tells = c.in_ok-reserve.ensures.told;
      safe = c.in_ok-reserve.ensures.safe c.requires.whole;
      calm = c.in_ok-reserve.ensures.faults;
    } in
    omega (
      arith,
      c.in-Ok.ensures.limit,
      ap (λ (s : LogState g.row.D.Denot). s.content.length) got.is,
      ap (λ (s : LogState g.row.D.Denot). s.limit) got.is,
      ap entries_length is,
    )

-- what a log that was not brought up lacks, as it is given to the append
abbrev first : (g : Over) (c : goal.After-fault_of g) → List Entry
first g c = take (length c.as_slice-entries.result.now - length c.entries-have.result.now)
    (drop (length c.entries-have.result.now) c.as_slice-entries.result.now)

abbrev news : (g : Over) (c : goal.After-fault_of g) → List Entry
news g c = first g c ++ View c.args.start.now.age 0 c.bits.result ∷ []

lacks : (g : Over) (c : goal.After-fault_of g)
    → news g c ≡ lacked c.args.log.now (opened_with c.args.start.now c.args.members)
lacks g c =
    let old = c.args.log.now in
    let start = c.args.start.now in
    let last = View start.age 0 c.bits.result in
    lacked_is old.content.entries (news g c) (opened_with start c.args.members)
    (lacking_all old.content.entries (first g c) start.entries last (View start.age 0 c.args.members)
    (lacking old.content.entries start.entries c.entries-have.result.now c.as_slice-entries.result.now c.requires.part
    c.entries-have.ensures c.as_slice-entries.ensures) (ap (λ (n : ℕ). View start.age 0 n) c.bits.ensures))

got : (g : Over) (c : goal.After-fault_of g) → GotRoom g.D.Disk.told g.D.Disk.faults c.args.log.now c.reserve.new.self
got g c = record {
  spare_entries = max c.args.log.now.spare_entries
      (length c.as_slice-entries.result.now - length c.entries-have.result.now + 1);
  spare_votes = max c.args.log.now.spare_votes 0;
  spare_others = max c.args.log.now.spare_others 3;
  is = c.in_ok-reserve.ensures.ok;
  tells = c.in_ok-reserve.ensures.told;
  safe = c.in_ok-reserve.ensures.safe c.requires.whole;
  calm = c.in_ok-reserve.ensures.faults;
}

pub returns-in-Err-clause-stayed : goal.returns-in-Err-clause-stayed
returns-in-Err-clause-stayed g c =
    stopped_stayed (Unit {0}) g.D.Disk.told g.D.Disk.faults (opened_with c.args.start.now c.args.members) (news g c)
    c.args.log.now c.reserve.new.self c.append_entries.new.self (length (first g c) + 1) c.in-Err.why (got g c)
    (lacks g c) c.in-Err.ensures.fault c.in-Err.ensures.full c.in-Err.ensures.any_moment c.in-Err.ensures.faults

pub returns-in-Err-clause-left_alone : goal.returns-in-Err-clause-left_alone
returns-in-Err-clause-left_alone g c =
    full_alone (Unit {0}) g.D.Disk.told g.D.Disk.faults c.args.log.now c.reserve.new.self c.append_entries.new.self
    c.in-Err.why c.fault_of.result c.requires.whole (got g c) c.in-Err.ensures.full c.fault_of.ensures.disk

pub returns-in-Err-clause-failed : goal.returns-in-Err-clause-failed
returns-in-Err-clause-failed g c = λ is.
    let why = told_disk (Unit {0}) c.in-Err.why c.fault_of.result c.fault_of.ensures.full is in
    ap (λ (s : LogState g.row.D.Denot). s.failed) (c.in-Err.ensures.fault (ap Err why))

pub returns-in-Err-clause-cause : goal.returns-in-Err-clause-cause
returns-in-Err-clause-cause g c = λ is.
    let why = told_disk (Unit {0}) c.in-Err.why c.fault_of.result c.fault_of.ensures.full is in
    subst (λ (n : ℕ). Rose n (g.D.Disk.faults c.append_entries.new.self.disk)) (got g c).calm
    (c.in-Err.ensures.cause (ap Err why))

pub returns-in-Err-clause-limit : goal.returns-in-Err-clause-limit
returns-in-Err-clause-limit g c =
    subst (λ (l : List Entry). FitsOrIsFull c.args.log.now.limit c.args.log.now.content.length (entries_length l)
    {T = Unit {0}} (Err c.fault_of.result)) (lacks g c)
    (full_by (Unit {0}) c.args.log.now c.reserve.new.self (entries_length (news g c)) c.in-Err.why c.fault_of.result
    (ap (λ (s : LogState g.row.D.Denot). s.content.length) (got g c).is)
    (ap (λ (s : LogState g.row.D.Denot). s.limit) (got g c).is)
    c.in-Err.ensures.limit c.fault_of.ensures.disk c.fault_of.ensures.full)
