-- What a crash leaves at each moment of an append of records behind one gate.
use Rattle.std.proofs.Common.{◌≡◌, ◌≢◌, ℕ, Bool, ◌+◌, ◌<◌, ◌≤◌, List, [], ◌∷◌, ◌++◌, length, get_or, take, drop, Option, Some, inl, inr, ⊎_elim, sym, ap, subst, ◌∙◌, append_assoc, append-nil, arith, length-append, take_at, drop_at}
use Rattle.std.proofs.lemmas.{Bool.cases_eq, List.length-take-le}
use Rattle.dr_entry.{specs.{Spelling.spelling, declared.record.Record.Record}, proofs.ListFacts.IsWhole}
use Rattle.dr_disk.specs.Calls.{Call, Write, FailedWrite, Cut, FailedCut, Sync, State, at_rest, written, step, run_from}
use Rattle.dr_disk.{specs.{Disk.{Told, after}, Images.{AllImages, During}}, proofs.DiskCalls.step_on}
use Rattle.dr_disk.proofs.Images.{Torn, torn_by_write, torn_front, torn_byte, length-written, fault_image, rest_stands}
use Rattle.dr_disk.proofs.Moments.{after_all}
use Rattle.dr_log.{specs.Grouping.{StopsAmong, gate_of, opening, writes}, proofs.Groups.{bytes_are, bytes_of}}
use Rattle.dr_log.proofs.Lasting.{Witness, Witnessed, rest_witness, unwritten_witness}
use Rattle.dr_log_bytes.specs.{Content.{OnLog, block_length}, Grammar.{IsLog, blocks, magic_of}}
use Rattle.dr_log_bytes.proofs.Moments.{Stands, Behind, opened_log, made_by}
use Rattle.dr_log_bytes.proofs.Reading.{long_log, gate_inside, same_front, front_is, before_stands, after_stands, begins}

-- ---- a log and what stands behind its gate

-- behind the gate anything may stand
torn_behind : (old image : List ℕ) (f : Bool) (rs : List Record) (q p n : ℕ) → IsLog old f rs
    → q ≡ 8 + length (blocks rs) → p ≡ q + 1 → Torn p n old image → IsLog image f rs
torn_behind old image f rs q p n log gate place torn =
    let inside = gate_inside old f rs q log gate in
    same_front old image f rs q log gate (omega (arith, inside, torn.no_shorter)) (ap (λ (k : ℕ). take k image)
    (sym place) ∙ torn_front p n old image (omega (arith, inside, place)) torn ∙ ap (λ (k : ℕ). take k old) place)

-- ---- the moments

-- at each moment of these calls every image has P and, but at the last, some image stands for these; each write
-- begins inside, and the disk is no shorter than its least length
abbrev pub Fine : (List ℕ → Type 0) → OnLog → State → List Call → Type 0
Fine P c s [] = AllImages s P
Fine P c s (Write at bytes ∷ calls) = (AllImages s P × Witness c s)
    × ((at ≤ length s.content) × (s.least ≤ length s.content)) × Fine P c (step s (Write at bytes)) calls
Fine P c s (Sync ∷ calls) = (AllImages s P × Witness c s) × Fine P c (step s Sync) calls
Fine P c s (FailedWrite at count ∷ calls) = ⊥
Fine P c s (Cut to ∷ calls) = ⊥
Fine P c s (FailedCut to ∷ calls) = ⊥

fine_first : (P : List ℕ → Type 0) (c : OnLog) (s : State) (calls : List Call) → Fine P c s calls → AllImages s P
fine_first P c s [] fine = fine
fine_first P c s (Write at bytes ∷ calls) fine = fine.0.0
fine_first P c s (Sync ∷ calls) fine = fine.0.0
fine_first P c s (FailedWrite at count ∷ calls) fine = absurd fine
fine_first P c s (Cut to ∷ calls) fine = absurd fine
fine_first P c s (FailedCut to ∷ calls) fine = absurd fine

pub fine_during : (P : List ℕ → Type 0) (c : OnLog) (s : State) (calls : List Call)
    → Fine P c s calls → During s calls P
fine_during P c s [] fine = fine
fine_during P c s (Write at bytes ∷ calls) fine = (fine.0.0, fine_during P c (step s (Write at bytes)) calls fine.2)
fine_during P c s (Sync ∷ calls) fine = (fine.0.0, fine_during P c (step s Sync) calls fine.1)
fine_during P c s (FailedWrite at count ∷ calls) fine = absurd fine
fine_during P c s (Cut to ∷ calls) fine = absurd fine
fine_during P c s (FailedCut to ∷ calls) fine = absurd fine

pub fine_seen : (P : List ℕ → Type 0) (c : OnLog) (s : State) (calls : List Call)
    → Fine P c s calls → Witnessed c s calls
fine_seen P c s [] fine = tt
fine_seen P c s (Write at bytes ∷ calls) fine = (fine.0.1, fine_seen P c (step s (Write at bytes)) calls fine.2)
fine_seen P c s (Sync ∷ calls) fine = (fine.0.1, fine_seen P c (step s Sync) calls fine.1)
fine_seen P c s (FailedWrite at count ∷ calls) fine = absurd fine
fine_seen P c s (Cut to ∷ calls) fine = absurd fine
fine_seen P c s (FailedCut to ∷ calls) fine = absurd fine

-- some of these calls, and then maybe one that failed: at each of their moments too
pub record Stopped (P : List ℕ → Type 0) (c : OnLog) (s : State) (t : Told) (new : Option Told) : Type 0 where
  pub done : List Call
  pub is : new ≡ Some (after_all done t)
  pub each : During s done P
  pub seen : Witnessed c s done

pub stopped : (P : List ℕ → Type 0) (c : OnLog) (s : State) (t : Told) (new : Option Told)
    (calls : List Call) → Fine P c s calls → StopsAmong calls (Some t) new → Stopped P c s t new
stopped P c s t new [] fine stops = absurd stops
stopped P c s t new (Write at bytes ∷ calls) fine (inl e) = record {
  done = FailedWrite at (length bytes) ∷ [];
  is = e;
  each = (
    fine.0.0,
    λ image here. fine_first P c (step s (Write at bytes)) calls fine.2 image
        (fault_image s at bytes image fine.1.0 fine.1.1 here),
  );
  seen = (fine.0.1, tt);
}
stopped P c s t new (Write at bytes ∷ calls) fine (inr more) =
    let rest = stopped P c (step s (Write at bytes)) (after (Write at bytes) t) new calls fine.2 more in
    record {
      done = Write at bytes ∷ rest.done;
      is = rest.is;
      each = (fine.0.0, rest.each);
      seen = (fine.0.1, rest.seen);
    }
stopped P c s t new (Sync ∷ calls) fine (inl e) = record { done = []; is = e; each = fine.0.0; seen = tt }
stopped P c s t new (Sync ∷ calls) fine (inr more) =
    let rest = stopped P c (step s Sync) (after Sync t) new calls fine.1 more in
    record { done = Sync ∷ rest.done; is = rest.is; each = (fine.0.0, rest.each); seen = (fine.0.1, rest.seen) }
stopped P c s t new (FailedWrite at count ∷ calls) fine stops = absurd fine
stopped P c s t new (Cut to ∷ calls) fine stops = absurd fine
stopped P c s t new (FailedCut to ∷ calls) fine stops = absurd fine

-- ---- a group behind a settled log

-- what a disk at rest reads once the bytes of a group are written behind the gate at q
record IsWritten (bytes : List ℕ) (f : Bool) (rs : List Record) (q : ℕ) (x : List ℕ) : Type 0 where
  log : IsLog bytes f rs
  whole : IsWhole f bytes
  tail : List ℕ
  front : take q bytes ≡ magic_of f ++ blocks rs
  behind : drop (q + 1) bytes ≡ x ++ tail
  inside : q < length bytes

written_is : (old x : List ℕ) (f : Bool) (rs : List Record) (q p : ℕ) → IsLog old f rs → IsWhole f old
    → q ≡ 8 + length (blocks rs) → p ≡ q + 1 → IsWritten (written old p x) f rs q x
written_is old x f rs q p log whole gate place =
    let inside = gate_inside old f rs q log gate in
    let long : length (take (q + 1) old) ≡ q + 1 = length-take-le (q + 1) old (omega (arith, inside)) in
    let bytes = written old (q + 1) x in
    let fronts : take (q + 1) bytes ≡ take (q + 1) old = take_at (take (q + 1) old)
    (x ++ drop (q + 1 + length x) old) (q + 1) long in
    let within : q < length bytes =
    omega (arith, long, length-append (take (q + 1) old) (x ++ drop (q + 1 + length x) old)) in
    let lengths = length-written old (q + 1) x (omega (arith, inside)) in
    let is = same_front old bytes f rs q log gate within fronts in
    let so : IsWritten bytes f rs q x = record {
      log = is;
      whole = λ older. omega (arith, whole older, lengths);
      tail = drop (q + 1 + length x) old;
      front = front_is bytes f rs q is gate;
      behind = drop_at (take (q + 1) old) (x ++ drop (q + 1 + length x) old) (q + 1) long;
      inside = within;
    } in
    subst (λ (n : ℕ). IsWritten (written old n x) f rs q x) (sym place) so

-- while the gate is torn
gate_stands : (old bytes image x : List ℕ) (f : Bool) (rs : List Record) (q p : ℕ) (news : List Record)
    → Behind old f rs q p news → IsWritten bytes f rs q x → 1 ∷ x ≡ blocks news ++ 0 ∷ []
    → Torn q 1 bytes image → Stands f rs news image
gate_stands old bytes image x f rs q p news b is are torn =
    let parts : image ≡ (magic_of f ++ blocks rs) ++ (get_or image q 0 ∷ (x ++ is.tail)) =
    torn_byte q bytes image is.inside torn
    ∙ ap (λ (l : List ℕ). l ++ (get_or image q 0 ∷ drop (q + 1) bytes)) is.front
    ∙ ap (λ (l : List ℕ). (magic_of f ++ blocks rs) ++ (get_or image q 0 ∷ l)) is.behind in
    ⊎_elim (λ (e : get_or image q 0 ≡ 1). after_stands image f rs news b.some
    (opened_log old image is.tail x f rs q p news b are
    (parts ∙ ap (λ (g : ℕ). (magic_of f ++ blocks rs) ++ (g ∷ (x ++ is.tail))) e)))
    (λ (n : get_or image q 0 ≢ 1). before_stands image f rs news (record {
      spelled = b.log.spelled;
      placed = b.log.placed;
      gate = get_or image q 0;
      closed = n;
      rest = x ++ is.tail;
      parts = parts ∙ append_assoc (magic_of f) (blocks rs) (get_or image q 0 ∷ (x ++ is.tail));
    }) (λ older. omega (arith, is.whole older, torn.no_shorter))) (cases_eq (get_or image q 0) 1)

abbrev pub GoesFine : Bool → List Record → List Record → State → List Call → Type 0
GoesFine f rs news s calls = Fine (Stands f rs news) (made_by f rs) s calls

-- while some of it is written
part_fine : (old x : List ℕ) (f : Bool) (rs : List Record) (q p : ℕ) (news : List Record) → Behind old f rs q p news
    → AllImages (step (at_rest old) (Write p x)) (Stands f rs news)
    × Witness (made_by f rs) (step (at_rest old) (Write p x))
part_fine old x f rs q p news b = (here, unwritten_witness old f rs p x b.log b.whole (begins old f rs q p news b))
  where
    here : AllImages (step (at_rest old) (Write p x)) (Stands f rs news)
    here image is =
        let torn = torn_by_write old p x image (begins old f rs q p news b) is in
        before_stands image f rs news (torn_behind old image f rs q p (length x) b.log b.gate b.place torn)
        (λ older. omega (arith, b.whole older, torn.no_shorter))

-- once all is written
sync_fine : (old x : List ℕ) (f : Bool) (rs : List Record) (q p : ℕ) (news : List Record) → Behind old f rs q p news
    → 1 ∷ x ≡ blocks news ++ 0 ∷ [] → GoesFine f rs news (step (at_rest old) (Write p x)) (opening q)
sync_fine old x f rs q p news b are =
    let is = written_is old x f rs q p b.log b.whole b.gate b.place in
    let bytes = written old p x in (
      part_fine old x f rs q p news b,
      (
        (
          rest_stands (Stands f rs news) bytes (before_stands bytes f rs news is.log is.whole),
          rest_witness bytes f rs is.log is.whole,
        ),
        (omega (arith, is.inside), omega arith),
        (
          (
            λ image here. gate_stands old bytes image x f rs q p news b is are
                (torn_by_write bytes q (1 ∷ []) image (omega (arith, is.inside)) here),
            unwritten_witness bytes f rs q (1 ∷ []) is.log is.whole (omega (arith, is.inside)),
          ),
          rest_stands (Stands f rs news) (written bytes q (1 ∷ []))
              (after_stands (written bytes q (1 ∷ [])) f rs news b.some
              (opened_log old (written bytes q (1 ∷ [])) is.tail x f rs q p news b are
              (ap (λ (l : List ℕ). l ++ (1 ∷ drop (q + 1) bytes)) is.front
              ∙ ap (λ (l : List ℕ). (magic_of f ++ blocks rs) ++ (1 ∷ l)) is.behind))),
        ),
      ),
    )

-- a piece more
piece : (old x y : List ℕ) (f : Bool) (rs : List Record) (q p at : ℕ) (news : List Record) → Behind old f rs q p news
    → at ≡ p + length x → step (step (at_rest old) (Write p x)) (Write at y) ≡ step (at_rest old) (Write p (x ++ y))
piece old x y f rs q p at news b here = ap (λ (n : ℕ). step (step (at_rest old) (Write p x)) (Write n y)) here
    ∙ step_on old x y p (begins old f rs q p news b)

reaches : (old x : List ℕ) (f : Bool) (rs : List Record) (q p at : ℕ) (news : List Record) → Behind old f rs q p news
    → at ≡ p + length x → (at ≤ length (written old p x)) × (length old ≤ length (written old p x))
reaches old x f rs q p at news b here =
    let long = length-written old p x (begins old f rs q p news b) in (omega (arith, long, here), omega (arith, long))

more_fine : (old x : List ℕ) (f : Bool) (rs : List Record) (q p at : ℕ) (news more : List Record)
    → Behind old f rs q p news → at ≡ p + length x → 1 ∷ (x ++ bytes_of more) ≡ blocks news ++ 0 ∷ []
    → GoesFine f rs news (step (at_rest old) (Write p x)) (writes at more ++ opening q)
more_fine old x f rs q p at news [] b here are =
    sync_fine old x f rs q p news b (ap (λ (l : List ℕ). 1 ∷ l) (sym (append-nil x)) ∙ are)
more_fine old x f rs q p at news (r ∷ more) b here are =
    let y = spelling r ++ gate_of more ∷ [] in
    let next = at + block_length r in
    let there : next ≡ p + length (x ++ y) =
    omega (arith, here, length-append x y, length-append (spelling r) (gate_of more ∷ [])) in (
      part_fine old x f rs q p news b,
      reaches old x f rs q p at news b here,
      subst (λ (s : State). GoesFine f rs news s (writes next more ++ opening q))
          (sym (piece old x y f rs q p at news b here)) (more_fine old (x ++ y) f rs q p next news more b there
          (ap (λ (l : List ℕ). 1 ∷ l) (append_assoc x y (bytes_of more)) ∙ are)),
    )

-- from the first call on
pub group_fine : (old : List ℕ) (f : Bool) (rs : List Record) (q p : ℕ) (news : List Record)
    → Behind old f rs q p news → GoesFine f rs news (at_rest old) (writes p news ++ opening q)
group_fine old f rs q p [] b = absurd (omega (arith, b.some))
group_fine old f rs q p (r ∷ more) b =
    let news = r ∷ more in
    let y = spelling r ++ gate_of more ∷ [] in (
      (
        rest_stands (Stands f rs news) old (before_stands old f rs news b.log b.whole),
        rest_witness old f rs b.log b.whole,
      ),
      (begins old f rs q p news b, omega arith),
      more_fine old y f rs q p (p + block_length r) news more b
          (omega (arith, length-append (spelling r) (gate_of more ∷ []))) (bytes_are news),
    )

-- what the disk is then
run_more : (old x : List ℕ) (f : Bool) (rs : List Record) (q p at : ℕ) (news more : List Record)
    → Behind old f rs q p news → at ≡ p + length x → run_from (step (at_rest old) (Write p x)) (writes at more
    ++ opening q) ≡ at_rest (written (written old p (x ++ bytes_of more)) q (1 ∷ []))
run_more old x f rs q p at news [] b here =
    ap (λ (l : List ℕ). at_rest (written (written old p l) q (1 ∷ []))) (sym (append-nil x))
run_more old x f rs q p at news (r ∷ more) b here =
    let y = spelling r ++ gate_of more ∷ [] in
    let next = at + block_length r in
    let there : next ≡ p + length (x ++ y) =
    omega (arith, here, length-append x y, length-append (spelling r) (gate_of more ∷ [])) in
    ap (λ (s : State). run_from s (writes next more ++ opening q)) (piece old x y f rs q p at news b here)
    ∙ run_more old (x ++ y) f rs q p next news more b there
    ∙ ap (λ (l : List ℕ). at_rest (written (written old p l) q (1 ∷ []))) (append_assoc x y (bytes_of more))

pub run_group : (old : List ℕ) (f : Bool) (rs : List Record) (q p : ℕ) (news : List Record) → Behind old f rs q p news
    → run_from (at_rest old) (writes p news ++ opening q)
    ≡ at_rest (written (written old p (bytes_of news)) q (1 ∷ []))
run_group old f rs q p [] b = absurd (omega (arith, b.some))
run_group old f rs q p (r ∷ more) b = run_more old (spelling r ++ gate_of more ∷ []) f rs q p
    (p + block_length r) (r ∷ more) more b (omega (arith, length-append (spelling r) (gate_of more ∷ [])))

pub group_is : (old : List ℕ) (f : Bool) (rs : List Record) (q p : ℕ) (news : List Record) → Behind old f rs q p news
    → IsLog (written (written old p (bytes_of news)) q (1 ∷ [])) f (rs ++ news)
group_is old f rs q p [] b = absurd (omega (arith, b.some))
group_is old f rs q p (r ∷ more) b =
    let news = r ∷ more in
    let x = bytes_of news in
    let bytes = written old p x in
    let is = written_is old x f rs q p b.log b.whole b.gate b.place in
    opened_log old (written bytes q (1 ∷ [])) is.tail x f rs q p news b (bytes_are news)
    (ap (λ (l : List ℕ). l ++ (1 ∷ drop (q + 1) bytes)) is.front
    ∙ ap (λ (l : List ℕ). (magic_of f ++ blocks rs) ++ (1 ∷ l)) is.behind)

-- that is no short log
pub group_whole : (old : List ℕ) (f : Bool) (rs : List Record) (q p : ℕ) (news : List Record)
    → Behind old f rs q p news → IsWhole f (written (written old p (bytes_of news)) q (1 ∷ []))
group_whole old f rs q p news b = long_log f (rs ++ news) (written (written old p (bytes_of news)) q (1 ∷ []))
    (group_is old f rs q p news b) (omega (arith, length-append rs news, b.some))
