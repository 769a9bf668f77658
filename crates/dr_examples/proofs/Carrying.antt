-- A member of a sound program takes its next deed over the words of the table.
use Rattle.std.specs.Prelude.{◌-◌, None, Option, Some, drop, slice_index_or, slice_range, slice_set}
use Rattle.std.proofs.Common.{◌≡◌, sym, ap, ◌∙◌, subst, ℕ, ◌<◌, All, Contains, List, [], ◌∷◌, ◌++◌, length, get_or, slice_index}
use Rattle.std.proofs.lemmas.List.{get_or_default}
use Rattle.std.proofs.lemmas.List.Elements.{All-contains_itself, All-drop, All-push, All-take, All-weaker, Contains-append_left, Contains-append_right, Contains-push}
use Rattle.dr_play.{specs.Sound.IsSound, proofs.Deeds.{any_outcome, deed_tells}}
use Rattle.dr_entry.specs.declared.record.Record.{Record}
use Rattle.dr_served.specs.Appended.{is_append}
use Rattle.dr_machine.specs.Group.{Group}
use Rattle.dr_member.specs.Deeds.{table_size}
use Rattle.dr_program.specs.declared.deed.Deed.TheVariants as deeds
use Rattle.dr_program.{specs.Presence.{present_at, with_present}, proofs.Deeds.{append_gives, append_stores, step_is}}
use Rattle.dr_program.specs.{Program.{Program, after_deed, letter_for, next_sight, ok, step_of}, Replica.me}
use Rattle.dr_program.specs.{Reading.{step_due, step_of_member}, Sight.MaySee, declared.packet.Packet.Packet}
use Rattle.dr_program.specs.Running.{Running, after_step, deed, deed_of, next_deed, next_step}
use Rattle.dr_program.specs.{Steps.{index_in, stored, stored_letters}, declared.outcome.Outcome.TheVariants.Ok}
use Rattle.dr_program.proofs.{Programs.after_append, RunningPrograms.push_is}
use Rattle.dr_program_laws.{specs.Carried.IsCarried, proofs.Keeping.{move_kept, sees}}
use Rattle.dr_program_laws.proofs.Carried.{carried_among, carried_begins, carried_place, carried_pushes}
use Rattle.dr_words.specs.Layout.{words_of}
use Rattle.dr_examples.specs.Led.{LettersByNumber, over}

-- the member that was read stands there
pub there_is : (members : List (Option Running)) (m : ℕ) (d : Option Running) (r : Running) → m < length members
    → get_or members m d ≡ Some r → present_at members m ≡ Some r
there_is members m d r within read = get_or_default members m None d within ∙ read

-- a word that the member names is one of the table's
pub inside : (members : List (Option Running)) (words : List ℕ) (m index : ℕ) (r : Running)
    → present_at members m ≡ Some r → ((g : Group) × (letters : LettersByNumber)
    × IsSound g (over members words letters)) → index < table_size r → index < length words
inside members words m index r there some below =
    let of = some.2.form.of m r there in
    let same : table_size r ≡ length words =
    (λ z. words_of (of.members z) (of.window z) (of.banks z)) ∙ sym some.2.form.table in
    subst (λ n. index < n) same below

-- at a look it may see the word that stands there
pub may_see : (g : Group) (p : Program) (m : ℕ) (r : Running) (index : ℕ) → IsSound g p
    → present_at p.members m ≡ Some r → next_deed r ≡ deeds.Look index
    → MaySee r (step_of_member r) (slice_index p.table index)
may_see g p m r index is there due =
    let t = deed_tells p.table r (deeds.Look index) due in
    subst (MaySee r (step_of_member r)) t.says.sees
    (sees g p m r t.says.row t.says.column is.group is.form is.reached there
    (ap (step_due r) t.none ∙ ap Some t.says.look))

-- so it is of a program whose words are carried, which is sound
pub carried_sound : (g : Group) (p : Program) (net : List Packet) → IsCarried g p net → IsSound g p
carried_sound g p net y = record { group = y.group; form = y.form; reached = (y.before, y.way) }

pub sound_of : (members : List (Option Running)) (words : List ℕ) (net : List Packet)
    → ((g : Group) × (letters : LettersByNumber) × IsCarried g (over members words letters) net)
    → (g : Group) × (letters : LettersByNumber) × IsSound g (over members words letters)
sound_of members words net some = (some.0, some.1, carried_sound some.0 (over members words some.1) net some.2)

-- what holds of a program after a deed of a member, by which no letter is given, holds of what it makes of itself and
-- of the words
moved_on : (P : Program → Type 0) (p : Program) (m : ℕ) (r x : Running) (cells : List ℕ)
    → P (step_of p (ok m)) → present_at p.members m ≡ Some r → r.replica.end ≡ None
    → x ≡ after_deed (next_sight p.table r) (letter_for p m) Ok r (next_step r)
    → cells ≡ stored p.table r.replica (next_step r) → stored_letters p.letters r.replica (next_step r) ≡ p.letters
    → P (record { members = with_present p.members m x; table = cells; letters = p.letters })
moved_on P p m r x cells kept there none member words posts =
    subst P (step_is p (ok m) r there none ∙ sym (λ z. record {
      members = with_present p.members m (member z);
      table = words z;
      letters = sym posts z;
    })) kept

-- it is sound
pub sound_on : (g : Group) (p : Program) (m : ℕ) → IsSound g p → IsSound g (step_of p (ok m))
sound_on g p m is =
    let kept = move_kept g p (ok m) is.group is.form is.reached in
    record { group = is.group; form = kept.0; reached = kept.1 }

-- so it is at each kind of deed
pub looks : (P : Program → Type 0) (p : Program) (m : ℕ) (r x : Running) (index : ℕ) → P (step_of p (ok m))
    → present_at p.members m ≡ Some r → next_deed r ≡ deeds.Look index → x ≡ after_step (slice_index p.table index) r
    → P (record { members = with_present p.members m x; table = p.table; letters = p.letters })
looks P p m r x index is there due member =
    let t = deed_tells p.table r (deeds.Look index) due in
    moved_on P p m r x p.table is there t.none (member ∙ ap (λ w. after_step w r) (sym t.says.sees)
    ∙ sym (any_outcome (next_sight p.table r) (letter_for p m) Ok r (next_step r) (ap is_append t.says.look)
    t.says.no_join)) (sym (ap (stored p.table r.replica) t.says.look)) (t.says.posts p.letters)

pub pushes : (P : Program → Type 0) (p : Program) (m : ℕ) (r x : Running) (index word : ℕ) → P (step_of p (ok m))
    → present_at p.members m ≡ Some r → next_deed r ≡ deeds.Push index word → ((seen : ℕ) → x ≡ after_step seen r)
    → P (record { members = with_present p.members m x; table = slice_set p.table index word; letters = p.letters })
pushes P p m r x index word is there due member =
    let t = deed_tells p.table r (deeds.Push index word) due in
    moved_on P p m r x (slice_set p.table index word) is there t.none (member (next_sight p.table r)
    ∙ sym (any_outcome (next_sight p.table r) (letter_for p m) Ok r (next_step r) t.says.other t.says.no_join))
    (sym t.says.stores) (t.says.posts p.letters)

pub acts : (P : Program → Type 0) (p : Program) (m : ℕ) (r x : Running) (index word : ℕ) → P (step_of p (ok m))
    → present_at p.members m ≡ Some r → next_deed r ≡ deeds.Act index word → ((seen : ℕ) → x ≡ after_step seen r)
    → P (record { members = with_present p.members m x; table = slice_set p.table index word; letters = p.letters })
acts P p m r x index word is there due member =
    let t = deed_tells p.table r (deeds.Act index word) due in
    moved_on P p m r x (slice_set p.table index word) is there t.none (member (next_sight p.table r)
    ∙ sym (any_outcome (next_sight p.table r) (letter_for p m) Ok r (next_step r) t.says.other t.says.no_join))
    (sym t.says.stores) (t.says.posts p.letters)

pub appends : (P : Program → Type 0) (p : Program) (m : ℕ) (r x : Running) (due : Record) → P (step_of p (ok m))
    → present_at p.members m ≡ Some r → next_deed r ≡ deeds.Append due → ((seen : ℕ) → x ≡ after_step seen r)
    → P (record { members = with_present p.members m x; table = p.table; letters = p.letters })
appends P p m r x due is there next member =
    let t = deed_tells p.table r (deeds.Append due) next in
    moved_on P p m r x p.table is there t.none
    (member 0 ∙ sym (after_append (next_sight p.table r) (letter_for p m) Ok r (next_step r) t.says.0))
    (sym (append_stores p.table r.replica (next_step r) t.says.0))
    (append_gives p.letters r.replica (next_step r) t.says.0)

-- ---- over a net

-- a packet that goes behind the others is on its way with them
behind : (net : List Packet) (packet : Packet) → All (Contains (packet ∷ net)) (net ++ packet ∷ [])
behind net packet = All-push (Contains (packet ∷ net)) net packet
    (All-weaker (Contains net) (Contains (packet ∷ net)) (Contains-append_right (packet ∷ []) net) net
    (All-contains_itself net)) (Contains-append_left (packet ∷ []) net packet (Contains-push [] packet))

-- so are those of a part
pub among_part : (net : List Packet) (from to : ℕ) → All (Contains net) (slice_range net from to)
among_part net from to = All-take (Contains net) (to - from) (drop from net)
    (All-drop (Contains net) from net (All-contains_itself net))

-- a push whose word is on its way
pub sends : (g : Group) (p : Program) (net : List Packet) (m : ℕ) (r x : Running) (index word : ℕ) → IsCarried g p net
    → present_at p.members m ≡ Some r → next_deed r ≡ deeds.Push index word → ((seen : ℕ) → x ≡ after_step seen r)
    → IsCarried g (record { members = with_present p.members m x; table = p.table; letters = p.letters })
    (net ++ record { index = index; word = word } ∷ [])
sends g p net m r x index word y there due member =
    let t = deed_tells p.table r (deeds.Push index word) due in
    let is = push_is r (next_step r) index word (sym (ap (deed r) t.none) ∙ due) in
    let same = step_is p (ok m) r there t.none in
    let after = member (next_sight p.table r)
    ∙ sym (any_outcome (next_sight p.table r) (letter_for p m) Ok r (next_step r) t.says.other t.says.no_join) in
    let packet : Packet = record { index = index; word = word } in
    let q : Program = record { members = with_present p.members m x; table = p.table; letters = p.letters } in
    let sent = carried_pushes g p net m r is.0 is.1 y there (ap (step_due r) t.none ∙ ap Some is.2) in
    carried_among g q (packet ∷ net) (net ++ packet ∷ [])
    (subst (λ (q : Program). IsCarried g q (packet ∷ net)) (λ z. record {
      members = (ap (λ (q : Program). q.members) same ∙ ap (with_present p.members m) (sym after)) z;
      table = p.table;
      letters = p.letters;
    })
    (subst (λ (packet : Packet). IsCarried g (record { members = (step_of p (ok m)).members; table = p.table; letters = p.letters })
    (packet ∷ net)) (λ z. record { index = is.3 z; word = is.4 z }) sent)) (behind net packet)

-- a sound program begins with nothing on its way
pub begins : (g : Group) (members : List (Option Running)) (words : List ℕ) (letters : LettersByNumber)
    → IsSound g (over members words letters) → IsCarried g (over members words letters) []
begins g members words letters is = carried_begins g (over members words letters) is.group is.form is.reached

-- a packet among these goes to a place of the table, where words of them have come before
pub packet_place : (first words : List ℕ) (packets : List Packet) (n : ℕ) (d : Packet) → n < length packets
    → ((g : Group) × (members : List (Option Running)) × (letters : LettersByNumber) × (net : List Packet)
    × All (Contains net) packets × IsCarried g (over members first letters) net)
    → ((g : Group) (members : List (Option Running)) (letters : LettersByNumber) (net : List Packet)
    → All (Contains net) packets → IsCarried g (over members first letters) net
    → IsCarried g (over members words letters) net) → (slice_index_or packets n d).index < length words
packet_place first words packets n d within some on = carried_place some.0 (over some.1 words some.2) some.3
    (slice_index_or packets n d) (on some.0 some.1 some.2 some.3 some.4 some.5) (some.4 n d within)
