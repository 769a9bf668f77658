use Rattle.std.proofs.Common.{rules, sym, ◌<◌, length}
use Rattle.dr_examples.specs.Led.{over}
use Rattle.dr_examples.proofs.Carrying.{acts, appends, inside, looks, may_see, pushes, sound_on, there_is}
use Rattle.dr_play.specs.Sound.{IsSound}
use Rattle.dr_examples.proofs.members.take_deed.Goals as goal

pub looked-requires : goal.looked-requires
looked-requires c = may_see c.requires.sound.0 (over c.args.members.now c.args.words.now c.requires.sound.1) c.args.m
    c.in-Some.member c.in-Look.index c.requires.sound.2
    (there_is c.args.members.now c.args.m c.index-members-m.result c.in-Some.member c.requires.within c.in-Some.is) (sym c.in-Look.ensures.deed)

pub offset_bounds-words-index : goal.offset_bounds-words-index
offset_bounds-words-index c =
    let below : c.in-Look.index < length c.args.words.now = inside c.args.members.now c.args.words.now
    c.args.m c.in-Look.index c.in-Some.member
    (there_is c.args.members.now c.args.m c.index-members-m.result c.in-Some.member c.requires.within c.in-Some.is)
    c.requires.sound c.in-Look.ensures.within in
    search rules

pub bounds-words-index : goal.bounds-words-index
bounds-words-index c = inside c.args.members.now c.args.words.now c.args.m c.in-Look.index c.in-Some.member
    (there_is c.args.members.now c.args.m c.index-members-m.result c.in-Some.member c.requires.within c.in-Some.is)
    c.requires.sound c.in-Look.ensures.within

pub offset_bounds-words-index-in-Push : goal.offset_bounds-words-index-in-Push
offset_bounds-words-index-in-Push c =
    let below : c.in-Push.index < length c.args.words.now = inside c.args.members.now c.args.words.now
    c.args.m c.in-Push.index c.in-Some.member
    (there_is c.args.members.now c.args.m c.index-members-m.result c.in-Some.member c.requires.within c.in-Some.is) c.requires.sound c.in-Push.ensures.within in
    search rules

pub bounds-words-index-in-Push : goal.bounds-words-index-in-Push
bounds-words-index-in-Push c = inside c.args.members.now c.args.words.now c.args.m c.in-Push.index c.in-Some.member
    (there_is c.args.members.now c.args.m c.index-members-m.result c.in-Some.member c.requires.within c.in-Some.is) c.requires.sound c.in-Push.ensures.within

pub offset_bounds-words-index-in-Act : goal.offset_bounds-words-index-in-Act
offset_bounds-words-index-in-Act c =
    let below : c.in-Act.index < length c.args.words.now = inside c.args.members.now c.args.words.now
    c.args.m c.in-Act.index c.in-Some.member
    (there_is c.args.members.now c.args.m c.index-members-m.result c.in-Some.member c.requires.within c.in-Some.is) c.requires.sound c.in-Act.ensures.within in
    search rules

pub bounds-words-index-in-Act : goal.bounds-words-index-in-Act
bounds-words-index-in-Act c = inside c.args.members.now c.args.words.now c.args.m c.in-Act.index c.in-Some.member
    (there_is c.args.members.now c.args.m c.index-members-m.result c.in-Some.member c.requires.within c.in-Some.is) c.requires.sound c.in-Act.ensures.within

pub returns-in-Look : goal.returns-in-Look
returns-in-Look c = record {
  sound = λ g letters is. looks (IsSound g) (over c.args.members.now c.args.words.now letters) c.args.m
      c.in-Some.member c.looked.new.self c.in-Look.index (sound_on g (over c.args.members.now c.args.words.now letters) c.args.m is)
      (there_is c.args.members.now c.args.m c.index-members-m.result c.in-Some.member c.requires.within c.in-Some.is)
      (sym c.in-Look.ensures.deed) c.looked.ensures.after;
}

pub returns-in-Push : goal.returns-in-Push
returns-in-Push c = record {
  sound = λ g letters is. pushes (IsSound g) (over c.args.members.now c.args.words.now letters) c.args.m
      c.in-Some.member c.pushed.new.self c.in-Push.index
      c.in-Push.word (sound_on g (over c.args.members.now c.args.words.now letters) c.args.m is) (there_is c.args.members.now c.args.m c.index-members-m.result c.in-Some.member c.requires.within c.in-Some.is)
      (sym c.in-Push.ensures.deed) c.pushed.ensures.after;
}

pub returns-in-Act : goal.returns-in-Act
returns-in-Act c = record {
  sound = λ g letters is. acts (IsSound g) (over c.args.members.now c.args.words.now letters) c.args.m
      c.in-Some.member c.acted.new.self c.in-Act.index
      c.in-Act.word (sound_on g (over c.args.members.now c.args.words.now letters) c.args.m is) (there_is c.args.members.now c.args.m c.index-members-m.result c.in-Some.member c.requires.within c.in-Some.is)
      (sym c.in-Act.ensures.deed) c.acted.ensures.after;
}

pub returns-in-Append : goal.returns-in-Append
returns-in-Append c = record {
  sound = λ g letters is. appends (IsSound g) (over c.args.members.now c.args.words.now letters) c.args.m
      c.in-Some.member c.appended.new.self c.in-Append.field-0 (sound_on g (over c.args.members.now c.args.words.now letters) c.args.m is)
      (there_is c.args.members.now c.args.m c.index-members-m.result c.in-Some.member c.requires.within c.in-Some.is)
      (sym c.in-Append.ensures.deed) c.appended.ensures.after;
}
