-- What the deeds of members and words that come make of a program whose words are carried by a net.
use Rattle.std.specs.Prelude.{max, slice_set, Some, None, Option}
use Rattle.std.proofs.Common.{◌∙◌, ◌≡◌, arith, refl, subst, sym, true, ℕ, ◌<◌, [], All, Contains, List, ◌∷◌, length, slice_index}
use Rattle.std.proofs.lemmas.{Bool.and_parts, List.Elements.{All-cons, All-contains, All-nil, All-weaker}}
use Rattle.dr_rows.specs.Words.{own}
use Rattle.dr_words.{specs.{Form.IsInForm, Layout.word_index_of}, proofs.Places.word_index_within}
use Rattle.dr_machine.specs.{Group.{Group, IsGroup, banks, columns, roster}, Run.{ComesNext, IsReached, PastGrew}}
use Rattle.dr_machine.{specs.{World.World, declared.step.Step.TheVariants.Push}, proofs.Runs.{is_before, stays_next}}
use Rattle.dr_faithful.proofs.Copies.{inside}
use Rattle.dr_program.specs.{Net.{FindsNone, IsOnItsWay, took_nothing}, Running.{Running, AsksForLetter, next_step}}
use Rattle.dr_program.specs.{Presence.{present_at, with_present}, Reading.{step_of_member, table_of, world, step_due}}
use Rattle.dr_program.specs.Program.{Move, Program, ok, step_of, after_deed, letter_for, next_sight}
use Rattle.dr_program.{specs.Replica.{is_inside, is_other, me}, proofs.RunningPrograms.{due_push, with_member}}
use Rattle.dr_program.specs.{Steps.{allows, index_in, stored, stored_letters}, declared.outcome.Outcome.Outcome}
use Rattle.dr_program.specs.declared.packet.Packet.{Packet}
use Rattle.dr_program.proofs.{Deeds.{due_allowed, missed_stays, replicas, own_now, step_is}, Programs.move_by}
use Rattle.dr_refine.{specs.Programs.{IsMember, IsProgram}, proofs.Deeds.{program_member, step_follows, way_stays}}
use Rattle.dr_refine.proofs.{Guards.other_within, Members.fits, Tables.come_follows, Tests.cell_test}
use Rattle.dr_program_laws.{specs.Carried.{IsCarried, WasSent}, proofs.{Keeping.move_kept, Letters.letters_are}}
use Rattle.dr_program_laws.proofs.Nets.{missed_kept}
use Rattle.dr_world_laws.proofs.Worlds.{past_next, faithful, known, past_since}

-- what was sent was so with one moment more
sent_more : (g : Group) (us : List World) (w : World) (packet : Packet) → WasSent g us packet
    → WasSent g (w ∷ us) packet
sent_more g us w packet y = record {
  view = y.view;
  copy = y.copy;
  row = y.row;
  column = y.column;
  bank = y.bank;
  to = y.to;
  from = y.from;
  cell = y.cell;
  place = y.place;
  was = (y.was.0, is_before us w y.was.0 y.was.1, y.was.2, y.was.3);
}

all_sent : (g : Group) (us : List World) (w : World) (net : List Packet) → All (WasSent g us) net
    → All (WasSent g (w ∷ us)) net
all_sent g us w net all = All-weaker (WasSent g us) (WasSent g (w ∷ us)) (sent_more g us w) net all

-- a program begins so, and nothing is on its way
pub carried_begins : (g : Group) (p : Program) → IsGroup g → IsProgram g p → IsReached g (world g p)
    → IsCarried g p []
carried_begins g p group form run = record {
  group = group;
  form = form;
  before = run.0;
  way = run.1;
  sent = All-nil (WasSent g (world g p ∷ run.0));
}

-- a deed of a member, of which a push may be there at once, leaves it so
pub carried_moves : (g : Group) (p : Program) (net : List Packet) (e : Move) → IsCarried g p net
    → IsCarried g (step_of p e) net
carried_moves g p net e y = record {
  group = y.group;
  form = (move_kept g p e y.group y.form (y.before, y.way)).0;
  before = world g p ∷ y.before;
  way = (y.way, step_follows g p e y.before y.group y.form (letters_are g p y.group y.form (y.before, y.way)));
  sent = all_sent g (world g p ∷ y.before) (world g (step_of p e)) net y.sent;
}

-- and so does a push whose word goes into a packet
pub carried_pushes : (g : Group) (p : Program) (net : List Packet) (m : ℕ) (r : Running) (j c : ℕ)
    → IsCarried g p net → present_at p.members m ≡ Some r → step_of_member r ≡ Some (Push j c)
    → IsCarried g (record { members = (step_of p (ok m)).members; table = p.table; letters = p.letters })
    (record { index = index_in r.replica j (me r.replica) c; word = own r.replica.rows c } ∷ net)
carried_pushes g p net m r j c y there push = record {
  group = y.group;
  form = record { all = kept.all; there = kept.there; form = kept.form; of = kept.of; table = y.form.table; posts = y.form.posts };
  before = world g p ∷ y.before;
  way = (
    y.way,
    subst (ComesNext g y.before (world g p)) (sym (way_stays g p q y.group y.form
        (letters_are g p y.group y.form (y.before, y.way)) on)) (stays_next g y.before (world g p)),
  );
  sent = All-cons (WasSent g (world g q ∷ world g p ∷ y.before)) packet net (sent_more g
      (world g p ∷ y.before) (world g q) packet new) (all_sent g (world g p ∷ y.before) (world g q) net y.sent);
}
  where
    q : Program
    q = record { members = (step_of p (ok m)).members; table = p.table; letters = p.letters }

    packet : Packet
    packet = record { index = index_in r.replica j (me r.replica) c; word = own r.replica.rows c }

    kept : IsProgram g (step_of p (ok m))
    kept = (move_kept g p (ok m) y.group y.form (y.before, y.way)).0

    on : IsOnItsWay p q
    on = record { move = ok m; member = r; there = there; to = j; column = c; push = push; made = refl }

    member : IsMember g (replicas p.members) (table_of p) m r.replica
    member = program_member g p m r y.group y.form there

    cell : (is_other r.replica j ≡ true) × (c < columns g)
    cell = (cell_test g (replicas p.members) (table_of p) m r.replica j c member).0
        (and_parts (is_inside r.replica) _ (subst (λ s. allows r.replica s ≡ true) (due_push r j c push).1
        (due_allowed r ((y.form.form m r there).due (due_push r j c push).0)))).1

    new : WasSent g (world g p ∷ y.before) packet
    new = record {
      view = r.replica.view;
      copy = j;
      row = m;
      column = c;
      bank = (fits g (replicas p.members) (table_of p) m r.replica member).bank;
      to = other_within g (replicas p.members) (table_of p) m r.replica j member cell.0;
      from = inside g m r.replica.rows r.replica.view (fits g (replicas p.members) (table_of p) m r.replica member);
      cell = cell.1;
      place = λ z. word_index_of (member.of.members z) (member.of.window z) r.replica.view j (member.of.number z) c;
      was = own_now g p m r c y.before there;
    }

-- packets among those on their way are on their way
pub carried_among : (g : Group) (p : Program) (net other : List Packet) → IsCarried g p net
    → All (Contains net) other → IsCarried g p other
carried_among g p net other y among = record {
  group = y.group;
  form = y.form;
  before = y.before;
  way = y.way;
  sent = All-weaker (Contains net) (WasSent g (world g p ∷ y.before))
      (λ packet c. All-contains (WasSent g (world g p ∷ y.before)) net packet y.sent c) other among;
}

-- each goes to a place of the table
pub carried_place : (g : Group) (p : Program) (net : List Packet) (packet : Packet) → IsCarried g p net
    → Contains net packet → packet.index < length p.table
carried_place g p net packet y on =
    let one = All-contains (WasSent g (world g p ∷ y.before)) net packet y.sent on in
    omega (
      arith,
      one.place,
      y.form.table,
      word_index_within (roster g) g.window (banks g) one.view one.copy one.row one.column
          one.bank one.to one.from one.cell,
    )

-- the word of one that comes leaves it so
pub carried_comes : (g : Group) (p : Program) (net : List Packet) (packet : Packet) → IsCarried g p net
    → Contains net packet → IsCarried g (record {
      members = p.members;
      table = slice_set p.table packet.index (max (slice_index p.table packet.index) packet.word);
      letters = p.letters;
    }) net
carried_comes g p net packet y on = subst (λ index. IsCarried g (record {
  members = p.members;
  table = slice_set p.table index (max (slice_index p.table index) packet.word);
  letters = p.letters;
}) net) (sym one.place) (record {
  group = y.group;
  form = next.0;
  before = world g p ∷ y.before;
  way = (y.way, next.1);
  sent = all_sent g (world g p ∷ y.before) (world g q) net y.sent;
})
  where
    one : WasSent g (world g p ∷ y.before) packet
    one = All-contains (WasSent g (world g p ∷ y.before)) net packet y.sent on

    place : ℕ
    place = word_index_of (roster g) g.window one.view one.copy one.row one.column

    q : Program
    q = record {
      members = p.members;
      table = slice_set p.table place (max (slice_index p.table place) packet.word);
      letters = p.letters;
    }

    next : IsProgram g q × ComesNext g y.before (world g p) (world g q)
    next = come_follows g y.before p one.view one.copy one.row one.column packet.word y.form
        one.bank one.to one.from one.cell one.was

-- and so does a take that finds no letter, as it is on its way
pub carried_misses : (g : Group) (p : Program) (net : List Packet) (m : ℕ) (r : Running)
    → IsCarried g p net → present_at p.members m ≡ Some r → AsksForLetter r → IsCarried g (took_nothing p m r) net
carried_misses g p net m r y there take = record {
  group = y.group;
  form = missed_kept g p m r y.form there take;
  before = world g p ∷ y.before;
  way = (
    y.way,
    subst (ComesNext g y.before (world g p)) (sym (missed_stays g p (took_nothing p m r) none))
        (stays_next g y.before (world g p)),
  );
  sent = all_sent g (world g p ∷ y.before) (world g (took_nothing p m r)) net y.sent;
}
  where
    none : FindsNone p (took_nothing p m r)
    none = record { number = m; member = r; there = there; take = take; made = refl }

-- a program whose words are carried, and which has all that this one had done
pub record IsCarriedOn (g : Group) (p q : Program) (net : List Packet) : Type 0 where
  pub carried : IsCarried g q net
  pub grew : PastGrew (world g p).past (world g q).past

-- each move makes one
pub carried_on : (g : Group) (p : Program) (net : List Packet) (e : Move) → IsCarried g p net
    → IsCarriedOn g p (step_of p e) net
carried_on g p net e y = record {
  carried = carried_moves g p net e y;
  grew = past_next g y.before (world g p) (world g (step_of p e)) y.group y.way
      (step_follows g p e y.before y.group y.form (letters_are g p y.group y.form (y.before, y.way)));
}

-- and so does a deed by which no letter is given, of what it makes of the member and of the table
pub moved_on : (g : Group) (p : Program) (net : List Packet) (m : ℕ) (o : Outcome) (r x : Running) (cells : List ℕ)
    → IsCarried g p net → present_at p.members m ≡ Some r → r.replica.end ≡ None
    → x ≡ after_deed (next_sight p.table r) (letter_for p m) o r (next_step r)
    → cells ≡ stored p.table r.replica (next_step r) → stored_letters p.letters r.replica (next_step r) ≡ p.letters
    → IsCarriedOn g p (with_member p m x cells) net
moved_on g p net m o r x cells carried there none member words posts =
    subst (λ (q : Program). IsCarriedOn g p q net) (step_is p (move_by m o) r there none ∙ sym (λ z. record {
      members = with_present p.members m (member z);
      table = words z;
      letters = sym posts z;
    })) (carried_on g p net (move_by m o) carried)

-- a word that was sent is in form
pub sent_form : (g : Group) (p : Program) (net : List Packet) (packet : Packet) (y : IsCarried g p net)
    → (one : WasSent g (world g p ∷ y.before) packet) → IsInForm (roster g) one.column packet.word
sent_form g p net packet y one = subst (IsInForm (roster g) one.column) one.was.3
    ((faithful g one.was.0 (known g one.was.0 y.group
    (past_since g y.before one.was.0 (world g p) y.group y.way one.was.1).1)).form.in_own one.row one.view one.column)
