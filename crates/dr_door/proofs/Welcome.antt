-- No packet that was sent is refused by whom it was sent to, and no letter by whom it was given for.
use Rattle.std.specs.Prelude.{not, nat_le, None, Some}
use Rattle.std.proofs.Common.{◌≡◌, ◌∙◌, sym, ap, subst, ℕ, ◌/◌, ◌%◌, ◌<◌, ◌≤◌, ◌==◌, ◌&&◌, nat_lt, Bool, true, false, List, ◌∷◌, Contains, length, slice_index, if◌then◌else◌, arith}
use Rattle.std.proofs.lemmas.{Bool.{eq-eqb, lt-leb, ne_eqb}, List.Elements.All-contains}
use Rattle.dr_arrival.{specs.Tests.{grown, in_form}, proofs.Exact.{form_exact, growth_passes}}
use Rattle.dr_machine.{specs.{Group.{Group, IsGroup, banks, columns, roster}, Run.IsReached}, proofs.Groups.place_in}
use Rattle.dr_program.{specs.{Form.IsOf, Program.Program, Reading.world}, proofs.{Copies.IsToOther, StepsAt.taking}}
use Rattle.dr_program.specs.{Presence.present_at, Running.{AsksForLetter, next_deed}, declared.packet.Packet.Packet}
use Rattle.dr_program.specs.declared.deed.Deed.TheVariants as deeds
use Rattle.dr_entry.specs.declared.entry.Entry.{Entry}
use Rattle.dr_play.proofs.Deeds.{deed_tells}
use Rattle.dr_program_laws.{specs.Carried.WasSent, proofs.Carried.sent_form}
use Rattle.dr_program_laws.proofs.{Letters.{letters_are, letters_have_room}, Nets.sent_grown}
use Rattle.dr_restart.specs.{Groups.group_of, declared.start.Start.Start}
use Rattle.dr_script.specs.declared.script.Script.{Script}
use Rattle.dr_words.{specs.{Form.IsInForm, Grown.HasGrown}, proofs.Columns.{column_found, row_found}}
use Rattle.dr_words.proofs.Places.{word_index_within}
use Rattle.dr_door.specs.{Apart.{Apart, HaveBegunApart, IsRanApart, Letter}, Coming.{copy_of, refusal, refusal_there}}
use Rattle.dr_door.{specs.{Letters.Suits, Lone.Lone}, proofs.Apart.{HasValidEntries, IsOfDoors, StandsIn, doors_kept, there_is}}
use Rattle.dr_door.proofs.Places.{copy_found}
use Rattle.dr_door.specs.declared.refused.Refused.TheVariants as why

-- the tests, one by one
passes : (late copy row form old news : Bool)
    → late ≡ false → copy ≡ true → row ≡ false → form ≡ true → (old && not news) ≡ false
    → (if late then Some why.Place else (if not copy then Some why.Copy else (if row then Some why.Row
    else (if not form then Some why.Form else (if old && not news then Some why.Growth else None))))) ≡ None
passes late copy row form old news a b c d e = grind (arith, a, b, c, d, e)

-- none is refused
never_refused : (g : Group) (a : Apart) (p : Program) (m : ℕ) (d : Lone) (packet : Packet) → IsOfDoors g a p
    → present_at a.doors m ≡ Some d → Contains a.sent packet
    → copy_of (roster g) g.window packet.index ≡ m → refusal d packet.index packet.word ≡ None
never_refused g a p m d packet is there among to =
    subst (λ (s : ℕ × ℕ × ℕ). (if nat_le (length d.words) packet.index then Some why.Place
    else refusal_there s.0 s.1 s.2 packet.index (slice_index d.words packet.index) packet.word) ≡ None)
    (λ z. (sym of.members z, sym of.window z, sym of.number z))
    (passes (nat_le (length d.words) packet.index) (copy_of (roster g) g.window packet.index == m)
    (packet.index / columns g % roster g == m) (in_form (roster g) (packet.index % columns g) packet.word)
    (nat_lt (slice_index d.words packet.index) packet.word)
    (grown (roster g) (packet.index % columns g) (slice_index d.words packet.index) packet.word)
    (lt-leb (length d.words) packet.index (omega (arith, within, is.copies.whole m d there)))
    (eq-eqb (copy_of (roster g) g.window packet.index) m to)
    (ne_eqb (packet.index / columns g % roster g) m (λ e. other.other (sym row ∙ e ∙ sym copy)))
    ((form_exact (roster g) (packet.index % columns g) packet.word).1
    (subst (λ c. IsInForm (roster g) c packet.word) (sym column) (sent_form g p a.sent packet is.carried one)))
    (growth_passes (roster g) (packet.index % columns g) (slice_index d.words packet.index) packet.word grows))
  where
    one : WasSent g (world g p ∷ is.carried.before) packet
    one = All-contains (WasSent g (world g p ∷ is.carried.before)) a.sent packet is.carried.sent among

    other : IsToOther g packet
    other = All-contains (IsToOther g) a.sent packet is.others among

    of : IsOf g m d.member.replica
    of = is.carried.form.of m d.member (there_is g a p m d is there)

    copy : other.copy ≡ m
    copy = sym (copy_found (roster g) g.window other.view other.copy other.row other.column packet.index other.is.copy
        other.is.row other.is.column other.at) ∙ to

    row : packet.index / columns g % roster g ≡ other.row
    row = row_found (roster g) g.window other.view other.copy other.row other.column packet.index other.is.row
        other.is.column other.at

    column : packet.index % columns g ≡ one.column
    column = column_found (roster g) g.window one.view one.copy one.row one.column packet.index one.cell one.place

    mine : one.copy ≡ m
    mine = sym (copy_found (roster g) g.window one.view one.copy one.row one.column packet.index one.to one.from
        one.cell one.place) ∙ to

    within : packet.index < length p.table
    within = omega (
      arith,
      one.place,
      is.carried.form.table,
      word_index_within (roster g) g.window (banks g) one.view
          one.copy one.row one.column one.bank one.to one.from one.cell,
    )

    place : packet.index ≡ place_in g one.view m one.row one.column
    place = one.place ∙ ap (λ j. place_in g one.view j one.row one.column) mine

    same : slice_index d.words packet.index ≡ slice_index p.table packet.index
    same = ap (slice_index d.words) place
        ∙ is.copies.same m d there one.view one.row one.column one.bank one.from one.cell
        ∙ ap (slice_index p.table) (sym place)

    grows : slice_index d.words packet.index < packet.word
        → HasGrown (roster g) (packet.index % columns g) (slice_index d.words packet.index) packet.word
    grows less = subst (λ c. HasGrown (roster g) c (slice_index d.words packet.index) packet.word) (sym column)
        (subst (λ w. HasGrown (roster g) one.column w packet.word) (sym same)
        (sent_grown g p a.sent packet is.carried one (subst (λ w. w < packet.word) same less)))

pub doors_welcome : (script : Script) (start : Start) (nth : ℕ) (begun a : Apart)
    → IsGroup (group_of script start) → length script.messages ≡ script.members → 1 ≤ script.turns
    → HaveBegunApart script start nth begun → IsRanApart begun a
    → (m : ℕ) (d : Lone) (packet : Packet) → present_at a.doors m ≡ Some d → Contains a.sent packet
    → copy_of script.members script.window packet.index ≡ m → refusal d packet.index packet.word ≡ None
doors_welcome script start nth begun a group lists some begins ran m d packet there among to =
    let so = doors_kept script start nth begun a group lists some begins ran in
    never_refused (group_of script start) a so.0 m d packet so.1 there among
    (ap (λ n. copy_of n script.window packet.index) lists ∙ to)

-- a letter that was given for a member which asks for it begins with its history and fits it
pub doors_invite : (script : Script) (start : Start) (nth : ℕ) (begun a : Apart)
    → IsGroup (group_of script start) → length script.messages ≡ script.members → 1 ≤ script.turns
    → HaveBegunApart script start nth begun → IsRanApart begun a
    → (m : ℕ) (d : Lone) (entries : List Entry) → present_at a.doors m ≡ Some d → next_deed d.member ≡ deeds.Take
    → Contains a.letters (record { to = m; entries = entries }) → Suits d.member.replica entries
doors_invite script start nth begun a group lists some begins ran m d entries there due given =
    let so = doors_kept script start nth begun a group lists some begins ran in
    let member = there_is (group_of script start) a so.0 m d so.1 there in
    let t = deed_tells so.0.table d.member deeds.Take due in
    let asks : AsksForLetter d.member = record { unended = t.none; due = t.says } in
    let outside = (taking d.member (so.1.carried.form.form m d.member member) asks).outside in
    let reached : IsReached (group_of script start) (world (group_of script start) so.0) =
    (so.1.carried.before, so.1.carried.way) in
    let one : Letter = record { to = m; entries = entries } in
    let found = All-contains (StandsIn so.0.letters) a.letters one so.1.letters given in
    let goes = letters_are (group_of script start) so.0 group so.1.carried.form reached m d.member entries member outside
    found in record {
      begins = (goes.rest, sym goes.begins);
      valid = All-contains HasValidEntries a.letters one so.1.valid given;
      fits = letters_have_room (group_of script start) so.0 m d.member entries group so.1.carried.form reached member
          outside found;
    }
