use Rattle.std.proofs.Common.{rules, subst, sym, ◌<◌, length}
use Rattle.dr_examples.specs.Led.{over}
use Rattle.dr_examples.proofs.Carrying.{acts, appends, inside, looks, may_see, sends, sound_of, there_is}
use Rattle.dr_program_laws.{specs.Carried.IsCarried, proofs.Carried.carried_moves}
use Rattle.dr_program.specs.{Presence.with_present, Program.ok}
use Rattle.dr_examples.proofs.net.take_deed.Goals as goal

pub looked-requires : goal.looked-requires
looked-requires c =
    let some = sound_of c.args.members.now c.args.words.now c.args.net.now.items c.requires.carried in
    may_see some.0 (over c.args.members.now c.args.words.now some.1) c.args.m c.in-Some.member c.in-Look.index some.2
    (there_is c.args.members.now c.args.m c.index-members-m.result c.in-Some.member c.requires.within c.in-Some.is) (sym c.in-Look.ensures.deed)

pub offset_bounds-words-index : goal.offset_bounds-words-index
offset_bounds-words-index c =
    let below : c.in-Look.index < length c.args.words.now = inside c.args.members.now c.args.words.now
    c.args.m c.in-Look.index c.in-Some.member
    (there_is c.args.members.now c.args.m c.index-members-m.result c.in-Some.member c.requires.within c.in-Some.is)
    (sound_of c.args.members.now c.args.words.now c.args.net.now.items c.requires.carried) c.in-Look.ensures.within in
    search rules

pub bounds-words-index : goal.bounds-words-index
bounds-words-index c = inside c.args.members.now c.args.words.now c.args.m c.in-Look.index c.in-Some.member
    (there_is c.args.members.now c.args.m c.index-members-m.result c.in-Some.member c.requires.within c.in-Some.is)
    (sound_of c.args.members.now c.args.words.now c.args.net.now.items c.requires.carried) c.in-Look.ensures.within

pub offset_bounds-words-index-in-Act : goal.offset_bounds-words-index-in-Act
offset_bounds-words-index-in-Act c =
    let below : c.in-Act.index < length c.args.words.now = inside c.args.members.now c.args.words.now
    c.args.m c.in-Act.index c.in-Some.member
    (there_is c.args.members.now c.args.m c.index-members-m.result c.in-Some.member c.requires.within c.in-Some.is)
    (sound_of c.args.members.now c.args.words.now c.args.net.now.items c.requires.carried) c.in-Act.ensures.within in
    search rules

pub bounds-words-index-in-Act : goal.bounds-words-index-in-Act
bounds-words-index-in-Act c = inside c.args.members.now c.args.words.now c.args.m c.in-Act.index c.in-Some.member
    (there_is c.args.members.now c.args.m c.index-members-m.result c.in-Some.member c.requires.within c.in-Some.is)
    (sound_of c.args.members.now c.args.words.now c.args.net.now.items c.requires.carried) c.in-Act.ensures.within

pub returns-in-Look : goal.returns-in-Look
returns-in-Look c = record {
  carried = λ g letters is. looks (λ q. IsCarried g q c.args.net.now.items)
      (over c.args.members.now c.args.words.now letters) c.args.m c.in-Some.member c.looked.new.self c.in-Look.index
      (carried_moves g (over c.args.members.now c.args.words.now letters) c.args.net.now.items (ok c.args.m) is)
      (there_is c.args.members.now c.args.m c.index-members-m.result c.in-Some.member c.requires.within c.in-Some.is)
      (sym c.in-Look.ensures.deed) c.looked.ensures.after;
}

pub returns-in_ok-push-in-Push : goal.returns-in_ok-push-in-Push
returns-in_ok-push-in-Push c = record {
  carried = λ g letters is. subst (IsCarried g (over (with_present c.args.members.now c.args.m c.pushed.new.self)
      c.args.words.now letters)) (sym c.in_ok-push-in-Push.ensures.items)
      (sends g (over c.args.members.now c.args.words.now letters) c.args.net.now.items c.args.m
      c.in-Some.member c.pushed.new.self c.in-Push.index
      c.in-Push.word is (there_is c.args.members.now c.args.m c.index-members-m.result c.in-Some.member c.requires.within c.in-Some.is)
      (sym c.in-Push.ensures.deed) c.pushed.ensures.after);
}

pub returns-in-Act : goal.returns-in-Act
returns-in-Act c = record {
  carried = λ g letters is. acts (λ q. IsCarried g q c.args.net.now.items)
      (over c.args.members.now c.args.words.now letters) c.args.m c.in-Some.member c.acted.new.self c.in-Act.index
      c.in-Act.word
      (carried_moves g (over c.args.members.now c.args.words.now letters) c.args.net.now.items (ok c.args.m) is)
      (there_is c.args.members.now c.args.m c.index-members-m.result c.in-Some.member c.requires.within c.in-Some.is)
      (sym c.in-Act.ensures.deed) c.acted.ensures.after;
}

pub returns-in-Append : goal.returns-in-Append
returns-in-Append c = record {
  carried = λ g letters is. appends (λ q. IsCarried g q c.args.net.now.items)
      (over c.args.members.now c.args.words.now letters) c.args.m
      c.in-Some.member c.appended.new.self c.in-Append.field-0
      (carried_moves g (over c.args.members.now c.args.words.now letters) c.args.net.now.items (ok c.args.m) is)
      (there_is c.args.members.now c.args.m c.index-members-m.result c.in-Some.member c.requires.within c.in-Some.is)
      (sym c.in-Append.ensures.deed) c.appended.ensures.after;
}
