-- A program as its age opens.
use Rattle.std.specs.{List.range_with_len, Prelude.{Bool, Option, Some, None, nat_lt, option_map}}
use Rattle.std.proofs.Common.{◌≡◌, refl, ap, ◌∙◌, ℕ, zero, suc, ◌+◌, ◌*◌, ◌<◌, ◌≤◌, ◌==◌, ◌&&◌, if◌then◌else◌, List, [], ◌∷◌, length, replicate, map, arith, sym}
use Rattle.std.proofs.{Math.{Path.fun_ext, Seq.take-length}, lemmas.Bool.Decides.nat_tests}
use Rattle.dr_entry.{specs.declared.entry.{Entry.Entry, Item.TheVariants.Null}, proofs.BoolFacts.both_same}
use Rattle.dr_entry.proofs.ListPlaces.{copy_at}
use Rattle.dr_history.specs.{History.messages_of, Members.has, Order.first_entries}
use Rattle.dr_rows.{specs.Words.{begun, own, seen}, proofs.Grids.own_with}
use Rattle.dr_rows.proofs.WordsLemmas.{IsWords-begun, IsFresh-begun}
use Rattle.dr_words.specs.{Columns.columns_of, Layout.{words_of, word_index_of}, declared.shape.Shape.Shape}
use Rattle.dr_words.{specs.declared.column.TheConstants.LOGGED_COLUMN, proofs.Layouts.{first_rows, first_seen}}
use Rattle.dr_program.{specs.Presence.present_at, proofs.Replicas.shared_at}
use Rattle.dr_program.{specs.Program.{IsSetup, AreSetups, begun_program}, proofs.RunningPrograms.replicas_begun}
use Rattle.dr_program.specs.{Reading.{Shared, table_of, world, world_of, word_of}, Running.{Running, begun_running}}
use Rattle.dr_program.specs.{Replica.{Replica, begun_replica, LeftView, me, entered}, declared.setup.Setup.Setup}
use Rattle.dr_program.proofs.{Holdings.{held, holding_of, held_of, held_past, same_worlds}, Present.present_within}
use Rattle.dr_machine.specs.{Group.{Group, IsGroup, banks, late_members, roster, columns}, Run.IsReached}
use Rattle.dr_machine.{specs.World.opening_world, proofs.Groups.{IsShape, wide}}

-- ---- the setup of a member, with what another one says of faults

abbrev pub setup_of : Group → ℕ → ℕ → Shape → Setup → Setup
setup_of g limit m shape told = record {
  shape = shape;
  me = m;
  age = g.opening.age;
  members = g.opening.members;
  late = late_members g;
  turns = limit;
  start = g.opening.start;
  messages = messages_of g.opening m;
  totals = map (λ i. length (messages_of g.opening i)) (range_with_len 0 16);
  patience = told.patience;
  crashes = told.crashes;
  suspicions = told.suspicions;
}

-- a setup is that of the group
pub setup_is : (g : Group) (limit m : ℕ) (s : Setup) → IsSetup g limit m s → s ≡ setup_of g limit m s.shape s
setup_is g limit m s is = λ z. record {
  shape = s.shape;
  me = is.me z;
  age = is.age z;
  members = is.view z;
  late = is.late z;
  turns = is.turns z;
  start = is.start z;
  messages = is.messages z;
  totals = is.totals z;
  patience = s.patience;
  crashes = s.crashes;
  suspicions = s.suspicions;
}

-- and so is its shape
pub shape_is : (g : Group) (limit m : ℕ) (s : Setup) → IsSetup g limit m s → IsShape g s.shape
shape_is g limit m s is = record { members = is.members; window = is.window; banks = is.banks }

-- ---- the world

-- the own words as the age opens
pub first_own : (n k m logged c : ℕ) → n ≤ 16 → k ≤ 1024 → m < n → LOGGED_COLUMN < k
    → own (first_rows n k m logged) c ≡ (if c == LOGGED_COLUMN then logged else 0)
first_own n k m logged c few narrow within wide =
    own_with (begun n k m) LOGGED_COLUMN logged c (IsWords-begun n k m few narrow within) wide
    ∙ ap (λ x. if c == LOGGED_COLUMN then logged else x) ((IsFresh-begun n k m).zero m c)

-- how many entries a member's own word says as the age opens
abbrev first_logged : Group → ℕ → ℕ
first_logged g m = if has g.opening.members m then length (first_entries g.opening) else 0

-- what a member has as its age opens
begun_own : (g : Group) (limit m : ℕ) (shape : Shape) (told : Setup) → IsGroup g → IsShape g shape → m < roster g
    → (holding_of g (begun_replica (setup_of g limit m shape told))).own ≡ (opening_world g).past.own m
begun_own g limit m shape told is of within = fun_ext λ v. fun_ext λ c.
    let bounds = wide g shape is of in
    let word = first_own shape.members (columns_of shape.members shape.window) m
    (first_logged g m) c bounds.0 bounds.2 (omega (arith, within, of.members)) bounds.1 in
    ap (λ x. if v == 0 then x else 0) word
    ∙ begun_word (has g.opening.members m) v c (length (first_entries g.opening))
  where
    begun_word : (b : Bool) (v c logged : ℕ)
        → (if v == 0 then (if c == LOGGED_COLUMN then (if b then logged else 0) else 0) else 0)
        ≡ (if b && (v == 0 && c == LOGGED_COLUMN) then logged else 0)
    begun_word b v c logged = grind (arith, nat_tests)

begun_holding : (g : Group) (limit m : ℕ) (shape : Shape) (told : Setup) → IsGroup g → IsShape g shape → m < roster g
    → holding_of g (begun_replica (setup_of g limit m shape told)) ≡ held (opening_world g) m
begun_holding g limit m shape told is of within =
    let r : Replica = begun_replica (setup_of g limit m shape told) in
    let own : (holding_of g r).own ≡ (opening_world g).past.own m = begun_own g limit m shape told is of within in
    let count : (holding_of g r).count ≡ (opening_world g).past.count m = fun_ext λ v. fun_ext λ s. ap
    (λ x. if v == 0 then x else 0) (copy_at {X = ℕ} shape.members 0 s) ∙ both_same {X = ℕ} (v == 0) 0 in
    let item : (holding_of g r).item ≡ (opening_world g).item m = fun_ext λ s. fun_ext λ k. ap (λ x. if nat_lt s
    (roster g) then x else Null) (copy_at _ Null (k * shape.members + s)) ∙ both_same (nat_lt s (roster g)) Null in
    let sent : (holding_of g r).sent ≡ (opening_world g).past.sent m = fun_ext λ v. both_same (v == 0) [] in
    let log : (holding_of g r).log ≡ (opening_world g).past.log m = take-length (first_entries g.opening) in
    let seen : (holding_of g r).seen ≡ (opening_world g).seen m = fun_ext λ i. fun_ext λ c.
    first_seen shape.members (columns_of shape.members shape.window) m (first_logged g m) i c in
    λ z. record (held (opening_world g) m)
    { own = own z; count = count z; item = item z; sent = sent z; log = log z; seen = seen z }

-- no word of the table is set
pub empty_table : (g : Group) (n : ℕ) → word_of g (replicate n 0) ≡ (opening_world g).table
empty_table g n = fun_ext λ v. fun_ext λ j. fun_ext λ i. fun_ext λ c.
    rw (copy_at {X = ℕ} n 0 (word_index_of (roster g) g.window v j i c))
    (both_same ((nat_lt v (banks g) && nat_lt j (roster g)) && (nat_lt i (roster g) && nat_lt c (columns g))) 0)

-- the replicas as the age opens
abbrev begun_replicas : List (Option Setup) → List (Option Replica)
begun_replicas setups = map (option_map (λ (r : Running). r.replica)) (map (option_map begun_running) setups)

begun_get : (setups : List (Option Setup)) (m : ℕ) → present_at (begun_replicas setups) m
    ≡ option_map begun_replica (present_at setups m)
begun_get [] m = refl
begun_get (None ∷ setups) zero = refl
begun_get (Some s ∷ setups) zero = refl
begun_get (o ∷ setups) (suc m) = begun_get setups m

begun_member : (g : Group) (limit : ℕ) (setups : List (Option Setup)) (table : Shared) (m : ℕ) → IsGroup g
    → AreSetups g limit setups → held (world_of g (begun_replicas setups) table) m ≡ held (opening_world g) m
begun_member g limit setups table m is are = by (present_at setups m) refl
  where
    by : (o : Option Setup) → present_at setups m ≡ o
        → held (world_of g (begun_replicas setups) table) m ≡ held (opening_world g) m
    by None e = held_past g (begun_replicas setups) table m (begun_get setups m ∙ ap (option_map begun_replica) e)
    by (Some s) e =
        let within : m < roster g = omega (arith, present_within setups m s e, are.all) in
        held_of g (begun_replicas setups) table m (begun_replica s) (begun_get setups m
        ∙ ap (option_map begun_replica) e) ∙ ap (λ x. holding_of g (begun_replica x)) (setup_is g limit m s
        (are.each m s e)) ∙ begun_holding g limit m s.shape s is (shape_is g limit m s (are.each m s e)) within

-- a program begins in the world as the age opens
pub begins_at_the_opening : (g : Group) (limit : ℕ) (setups : List (Option Setup)) → IsGroup g
    → AreSetups g limit setups → world g (begun_program g setups) ≡ opening_world g
begins_at_the_opening g limit setups is are = same_worlds (world g (begun_program g setups)) (opening_world g)
    (λ m. begun_member g limit setups (table_of (begun_program g setups)) m is are)
    (empty_table g (words_of (roster g) g.window (banks g))) (fun_ext λ m. copy_at (roster g) None m)

-- their world is the opening's
pub begun_world : (g : Group) (limit : ℕ) (setups : List (Option Setup)) → IsGroup g → AreSetups g limit setups
    → world_of g (map (option_map begun_replica) setups) (shared_at g) ≡ opening_world g
begun_world g limit setups is are = ap (λ rs. world_of g rs (shared_at g)) (sym (replicas_begun setups))
    ∙ begins_at_the_opening g limit setups is are

-- what is logged is published in the new view from its beginning on
pub published_there : (s : Replica) (view members : ℕ) (history : List Entry) (kept : List LeftView)
    → s.rows.members ≤ 16 → s.rows.columns ≤ 1024 → me s < s.rows.members → LOGGED_COLUMN < s.rows.columns
    → own (entered s view members history kept).rows LOGGED_COLUMN ≡ s.logged
published_there s view members history kept few narrow present inside =
    first_own s.rows.members s.rows.columns (me s) s.logged LOGGED_COLUMN few narrow present inside

-- a program begins in the world of the opening
pub begun_reached : (g : Group) (turns : ℕ) (setups : List (Option Setup)) → IsGroup g
    → AreSetups g turns setups → IsReached g (world g (begun_program g setups))
begun_reached g turns setups group are = ([], begins_at_the_opening g turns setups group are)
