-- A program over a net stays one of its group, in a world that is reached: its deeds are events, and the words
-- that come are own words of moments before.
use Rattle.std.specs.Prelude.{None, Option, Some, ◌==◌, if◌then◌else◌, max, slice_set}
use Rattle.std.proofs.Common.{◌≡◌, ◌∙◌, ap, inl, inr, refl, subst, sym, ℕ, ◌≤◌, List, [], ◌∷◌, ◌⊎◌, arith, le_refl, map, ◌<◌, Contains, slice_index, length}
use Rattle.std.proofs.lemmas.{Bool.cases_lt, List.{get_or-map, length-map, length-set, get_or-set_same}}
use Rattle.dr_entry.specs.declared.entry.Entry.{Entry}
use Rattle.dr_machine.specs.{Group.{Group, IsGroup, banks, columns, roster}, declared.step.Step.TheVariants.Push}
use Rattle.dr_machine.specs.{Run.{ComesNext, IsReached, Way, HaveArrived, MayArrive, WasOwn, with_table}, Writes.at₄}
use Rattle.dr_machine.{specs.World.{World, opening_world}, proofs.{Runs.{stays_next, is_last}, Writes.at₄_case}}
use Rattle.dr_program.specs.Net.{NetStep, IsRanOverNet, NetWay, took_nothing, HadWord, IsOnItsWay}
use Rattle.dr_program.{specs.Presence.present_at, proofs.{Present.present_within, Replicas.word_inside}}
use Rattle.dr_program.specs.Program.{AreSetups, Move, Program, begun_program, step_of, comes_to, letter_for}
use Rattle.dr_program.specs.{Reading.{world, kept_word, in_view, letters_of, word_of}, declared.packet.Packet.Packet}
use Rattle.dr_program.specs.{Running.{Running, settled, took_letter, AsksForLetter}, declared.setup.Setup.Setup}
use Rattle.dr_program.proofs.{Deeds.{missed_stays, had_own}, Opening.begins_at_the_opening, OpeningForm.of_settled}
use Rattle.dr_program.proofs.Programs.{worlds}
use Rattle.dr_refine.{specs.Programs.{IsProgram, AreLetters}, proofs.Deeds.{step_follows, way_stays, deed_is_step}}
use Rattle.dr_refine.proofs.{Steps.{begun_is_program, replaced_program}, Tables.{come_follows, table_written}}
use Rattle.dr_rows.specs.Words.{own}
use Rattle.dr_words.{specs.{Grown.HasGrown, Layout.word_index_of}, proofs.Places.word_index_within}
use Rattle.dr_program_laws.{specs.Carried.{IsCarried, WasSent}, proofs.{Keeping.move_kept, Letters.letters_are}}
use Rattle.dr_turn.proofs.Takes.{takes_keep_form}
use Rattle.dr_world_laws.proofs.Worlds.{words_next}

-- ---- one step

-- a take that finds no letter keeps a program of its group
pub missed_kept : (g : Group) (p : Program) (m : ℕ) (r : Running) → IsProgram g p → present_at p.members m ≡ Some r
    → AsksForLetter r → IsProgram g (took_nothing p m r)
missed_kept g p m r is there asks = replaced_program g p m (settled (took_letter None r)) p.table p.letters is
    (present_within p.members m r there) (takes_keep_form None r (is.form m r there) asks (is.form m r there).replica)
    (of_settled g m (took_letter None r) (is.of m r there)) refl refl

-- what comes next of a program is of the group, and is the next world
goes_on : (g : Group) (before : List Program) (p q : Program) → IsGroup g → IsProgram g p → IsReached g (world g p)
    → NetStep g before p q → IsProgram g q × ComesNext g (worlds g before) (world g p) (world g q)
goes_on g before p q group is run (inl (e, same)) =
    subst (λ x. IsProgram g x × ComesNext g (worlds g before) (world g p) (world g x)) (sym same)
    ((move_kept g p e group is run).0, step_follows g p e (worlds g before) group is (letters_are g p group is run))
goes_on g before p q group is run (inr (inl on)) = (
  let kept = (move_kept g p on.move group is run).0 in subst (IsProgram g) (sym on.made)
      (record { all = kept.all; form = kept.form; of = kept.of; there = kept.there; table = is.table; posts = is.posts }),
  subst (ComesNext g (worlds g before) (world g p)) (sym (way_stays g p q group is (letters_are g p group is run) on))
      (stays_next g (worlds g before) (world g p)),
)
goes_on g before p q group is run (inr (inr (inr t))) = (
  subst (IsProgram g) (sym t.made) (missed_kept g p t.number t.member is t.there t.take),
  subst (ComesNext g (worlds g before) (world g p)) (sym (missed_stays g p q t))
      (stays_next g (worlds g before) (world g p)),
)
goes_on g before p q group is run (inr (inr (inl y))) =
    subst (λ x. IsProgram g x × ComesNext g (worlds g before) (world g p) (world g x)) (sym y.made)
    (come_follows g (worlds g before) p y.view y.copy y.row y.column y.word is y.bank y.to y.from y.cell
    (had_own g (p ∷ before) y.row y.view y.column y.word y.sent))

-- ---- every run

-- a program over a net is one of its group, and the worlds that it was lead to its world
pub net_kept : (g : Group) (turns : ℕ) (setups : List (Option Setup)) (before : List Program) (p : Program)
    → IsGroup g → 1 ≤ turns → AreSetups g turns setups → NetWay g (begun_program g setups) before p
    → IsProgram g p × Way g (worlds g before) (world g p)
net_kept g turns setups [] p group some are begun = (
  subst (IsProgram g) (sym begun) (begun_is_program g turns setups group some are),
  ap (world g) begun ∙ begins_at_the_opening g turns setups group are,
)
net_kept g turns setups (x ∷ xs) p group some are way =
    let old = net_kept g turns setups xs x group some are way.0 in
    let now = goes_on g xs x p group old.0 (worlds g xs, old.1) way.1 in (now.0, (old.1, now.1))

pub net_reached : (g : Group) (turns : ℕ) (setups : List (Option Setup)) (p : Program) → IsGroup g → 1 ≤ turns
    → AreSetups g turns setups → IsRanOverNet g (begun_program g setups) p → IsProgram g p × IsReached g (world g p)
net_reached g turns setups p group some are (before, way) =
    let kept = net_kept g turns setups before p group some are way in (kept.0, (worlds g before, kept.1))

-- what each move keeps, and no table changes, holds of every such program
pub net_keeps : (g : Group) (turns : ℕ) (setups : List (Option Setup)) (P : Program → Type 0) → IsGroup g → 1 ≤ turns
    → AreSetups g turns setups
    → ((q : Program) (e : Move) → IsProgram g q → IsReached g (world g q) → P q → P (step_of q e))
    → ((q : Program) (table : List ℕ) (letters : List (Option (List Entry))) → P q
    → P (record { members = q.members; table = table; letters = letters }))
    → ((q : Program) (m : ℕ) (r : Running) → IsProgram g q → P q → present_at q.members m ≡ Some r
    → AsksForLetter r → P (took_nothing q m r)) → P (begun_program g setups) → (before : List Program) (p : Program)
    → NetWay g (begun_program g setups) before p → P p
net_keeps g turns setups P group some are keeps same misses begun [] p way = subst P (sym way) begun
net_keeps g turns setups P group some are keeps same misses begun (x ∷ xs) p way =
    by (net_kept g turns setups xs x group some are way.0)
    (net_keeps g turns setups P group some are keeps same misses begun xs x way.0) way.1
  where
    by : IsProgram g x × Way g (worlds g xs) (world g x) → P x → NetStep g xs x p → P p
    by old so (inl (e, made)) = subst P (sym made) (keeps x e old.0 (worlds g xs, old.1) so)
    by old so (inr (inl on)) = subst P (sym on.made)
        (same (step_of x on.move) x.table x.letters (keeps x on.move old.0 (worlds g xs, old.1) so))
    by old so (inr (inr (inl y))) = subst P (sym y.made) (same x _ _ so)
    by old so (inr (inr (inr t))) = subst P (sym t.made) (misses x t.number t.member old.0 so t.there t.take)

-- where it is greater than the word that stands at its place, it has grown from that
pub sent_grown : (g : Group) (p : Program) (net : List Packet) (packet : Packet) (y : IsCarried g p net)
    → (one : WasSent g (world g p ∷ y.before) packet) → slice_index p.table packet.index < packet.word
    → HasGrown (roster g) one.column (slice_index p.table packet.index) packet.word
sent_grown g p net packet y one greater =
    subst (λ n. HasGrown (roster g) one.column (slice_index p.table n) packet.word) (sym one.place)
    (subst (HasGrown (roster g) one.column (slice_index p.table place)) new
    (subst (λ w. HasGrown (roster g) one.column w (slice_index q.table place)) (inside p.table)
    (subst (HasGrown (roster g) one.column ((world g p).table one.view one.copy one.row one.column)) (inside q.table)
    ((words_next g y.before (world g p) (world g q) y.group y.way next).table one.view one.copy one.row one.column))))
  where
    place : ℕ
    place = word_index_of (roster g) g.window one.view one.copy one.row one.column

    q : Program
    q = record {
      members = p.members;
      table = slice_set p.table place (max (slice_index p.table place) packet.word);
      letters = p.letters;
    }

    next : ComesNext g y.before (world g p) (world g q)
    next = (come_follows g y.before p one.view one.copy one.row one.column packet.word y.form
        one.bank one.to one.from one.cell one.was).1

    inside : (table : List ℕ) → word_of g table one.view one.copy one.row one.column ≡ slice_index table place
    inside table = word_inside g table one.view one.copy one.row one.column one.bank one.to one.from one.cell

    within : place < length p.table
    within = omega (
      arith,
      y.form.table,
      word_index_within (roster g) g.window (banks g) one.view one.copy one.row
          one.column one.bank one.to one.from one.cell,
    )

    less : slice_index p.table place < packet.word
    less = subst (λ n. slice_index p.table n < packet.word) one.place greater

    new : slice_index q.table place ≡ packet.word
    new = get_or-set_same p.table place (max (slice_index p.table place) packet.word) 0 within ∙ omega (arith, less)
