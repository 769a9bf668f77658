-- What logs make goes by the messages of an opening alone.
use Rattle.std.proofs.Common.{List, ◌⊎◌, inl, inr, ◌≡◌, subst, None, Some}
use Rattle.dr_entry.specs.declared.entry.Entry.{Entry}
use Rattle.dr_history.{specs.declared.opening.Opening.Opening, proofs.Cutting.with_messages}
use Rattle.dr_history.proofs.Stood.{stand-so, foreign-so}
use Rattle.dr_restart.specs.Choosing.{AreOfHolders, Handed, AreOfNobody, IsChosenStart}
use Rattle.dr_restart.specs.Refusing.{HaveNothingForeign, IsRefusedFor, Refusal}
use Rattle.dr_restart.specs.{Refusing.Refusal.{AgesUsedUp, Disagree, Foreign, NoQuorum}, declared.start.Start.Start}

held-so : (o p : Opening) (h : Handed) (es : List Entry) → AreOfHolders (with_messages o p.messages) h es
    → AreOfHolders p h es
held-so o p h es x = record {
  age = x.age;
  last = x.last;
  along = x.along;
  path = x.path;
  held = x.held;
  longest = x.longest;
}

sound-so : (o p : Opening) (h : Handed) → HaveNothingForeign (with_messages o p.messages) h → HaveNothingForeign p h
sound-so o p h sound m log at = stand-so o p log.entries (sound m log at)

start-so : (o p : Opening) (h : Handed) (start : Start) → IsChosenStart (with_messages o p.messages) h start
    → IsChosenStart p h start
start-so o p h start c = record {
  sound = sound-so o p h c.sound;
  quorum = c.quorum;
  entries = by c.entries;
  age = c.age;
  left = c.left;
  present = c.present;
  members = c.members;
  some = c.some;
}
  where
    by : AreOfHolders (with_messages o p.messages) h start.entries ⊎ AreOfNobody h start.entries
        → AreOfHolders p h start.entries ⊎ AreOfNobody h start.entries
    by (inl x) = inl (held-so o p h start.entries x)
    by (inr x) = inr x

pub start-by-messages : (o p : Opening) (h : Handed) (start : Start) → o.messages ≡ p.messages
    → IsChosenStart o h start → IsChosenStart p h start
start-by-messages o p h start same c =
    start-so o p h start (subst (λ messages. IsChosenStart (with_messages o messages) h start) same c)

refused-so : (o p : Opening) (h : Handed) (why : Refusal) → IsRefusedFor (with_messages o p.messages) h why
    → IsRefusedFor p h why
refused-so o p h (Foreign m place) x = record {
  before = λ k log l at. stand-so o p log.entries (x.before k log l at);
  log = x.log;
  here = x.here;
  foreign = foreign-so o p x.log.entries place x.foreign;
}
refused-so o p h (NoQuorum None have need) x = (sound-so o p h x.0, x.1)
refused-so o p h (NoQuorum (Some v) have need) x = ((sound-so o p h x.0.0, x.0.1), x.1, x.2, x.3, x.4, x.5, x.6)
refused-so o p h (Disagree a b place) x = ((sound-so o p h x.0.0, x.0.1), x.1, x.2, x.3)
refused-so o p h AgesUsedUp x = ((sound-so o p h x.0.0, x.0.1), x.1, x.2, x.3, x.4, x.5)

pub refused-by-messages : (o p : Opening) (h : Handed) (why : Refusal) → o.messages ≡ p.messages
    → IsRefusedFor o h why → IsRefusedFor p h why
refused-by-messages o p h why same x =
    refused-so o p h why (subst (λ messages. IsRefusedFor (with_messages o messages) h why) same x)
