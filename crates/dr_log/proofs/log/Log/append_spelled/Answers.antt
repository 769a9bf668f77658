use Rattle.std.specs.Prelude.{IfSome, Option}
use Rattle.std.proofs.Common.{◌≡◌, ℕ, ◌+◌, ◌≤◌, ◌-◌, List, [], ◌∷◌, ◌++◌, length, false, inl, ap, subst, sym, ◌∙◌, arith, rules}
use Rattle.dr_entry.specs.{Spelling.{Fits, IsValid, spelling}, declared.record.Record.Record}
use Rattle.dr_disk.{specs.{Calls.Write, Disk.{Told, content_of}, Images.{Goes, Lasts}}, proofs.Moments.lasts_still}
use Rattle.dr_log.{specs.Grouping.{StopsAmong, added_all, group, opening}, proofs.log.Log.append_spelled.Given.Over}
use Rattle.dr_log.specs.{Kept.IsSettled, Standing.{HasAllOf, IsBeforeOrAfter, LosesNone, least_length}}
use Rattle.dr_log.specs.State.{LogState, as_entry, as_other, as_vote}
use Rattle.dr_log.proofs.Growing.{least_more, length-age_votes, length-entries, length-votes, one_kind}
use Rattle.dr_log.proofs.Told.{GoesWell, MayCome, group_goes, group_settled, group_stops, images_told, reaches_end, still_goes}
use Rattle.dr_log.proofs.log.Log.append_spelled.Goals as goal
use Rattle.dr_log_bytes.specs.Content.{IsPlaced, OnLog, with_record}

-- what a record is spelled as behind a closed gate
abbrev block_of : Record → List ℕ
block_of r = spelling r ++ (0 ∷ [])

pub put_behind-requires-clause-inside : goal.put_behind-requires-clause-inside
put_behind-requires-clause-inside g c κs h =
    let told = g.D.Disk.told in
    let old = c.self.inside in
    let whole : old.failed ≡ false = ap (λ (s : LogState g.row.D.Denot). s.failed) c.self.view_is
    ∙ c.requires.whole in
    subst (λ (n : ℕ). IfSome (told old.disk) (λ t. n ≤ length (content_of t))) (sym c.len-len.ensures)
    (reaches_end _ (told old.disk) (c.self.invariant.settled whole))

pub returns-then-size-saturating_sub-clause-any_moment : goal.returns-then-size-saturating_sub-clause-any_moment
returns-then-size-saturating_sub-clause-any_moment g c =
    let told = g.D.Disk.told in
    let old = c.self.inside in
    let whole : old.failed ≡ false = ap (λ (s : LogState g.row.D.Denot). s.failed) c.self.view_is
    ∙ c.requires.whole in
    let before = old.shelves.content in
    subst (λ (s : LogState g.row.D.Denot). Goes
    (told s.disk) (told s.disk) (λ _. IsBeforeOrAfter s.content c.args.r)) c.self.view_is (still_goes before
    (told old.disk) (IsBeforeOrAfter before c.args.r) (c.self.invariant.settled whole) (λ image is. inl is))

-- an append that stops has gone well up to there
stopped : (g : Over) (c : goal.After-self-1 g)
    → GoesWell c.self.inside.shelves.content (c.args.r ∷ []) (g.D.Disk.told c.self.inside.disk)
    (g.D.Disk.told c.put_behind.new.disk)
stopped g c =
    let told = g.D.Disk.told in
    let old = c.self.inside in
    let whole : old.failed ≡ false = ap (λ (s : LogState g.row.D.Denot). s.failed) c.self.view_is
    ∙ c.requires.whole in
    let bytes : c.as_slice.result.now ≡ block_of c.args.r = c.as_slice.ensures.value ∙ c.push.ensures.items
    ∙ ap (λ (l : List ℕ). l ++ (0 ∷ [])) c.requires.spelled in
    let stops : StopsAmong (Write c.len-len.result c.as_slice.result.now ∷ opening (c.len-len.result - 1))
    (told old.disk) (told c.put_behind.new.disk) = search rules in
    group_stops _ (told old.disk) (told c.put_behind.new.disk) c.len-len.result (c.args.r ∷ [])
    (c.self.invariant.settled whole) (record {
      long = c.len-len.ensures;
      some = omega arith;
      fit = ((c.requires.valid, c.requires.fits), tt);
      placed = (
        subst (λ (s : LogState g.row.D.Denot). IsPlaced s.content c.args.r) (sym c.self.view_is) c.requires.placed,
        tt,
      );
    })
    (subst (λ (l : List ℕ). StopsAmong (Write c.len-len.result l ∷ opening (c.len-len.result - 1)) (told old.disk)
    (told c.put_behind.new.disk)) bytes stops)

pub returns-then-is_err-clause-any_moment : goal.returns-then-is_err-clause-any_moment
returns-then-is_err-clause-any_moment g c = subst (λ (s : LogState g.row.D.Denot). Goes (g.D.Disk.told s.disk)
    (g.D.Disk.told c.put_behind.new.disk) (λ _. IsBeforeOrAfter s.content c.args.r)) c.self.view_is (stopped g c).goes

pub returns-then-size-saturating_sub-clause-lasting : goal.returns-then-size-saturating_sub-clause-lasting
returns-then-size-saturating_sub-clause-lasting g c =
    λ first takes. lasts_still (g.D.Disk.told c.args.self.now.disk) (LosesNone first)

pub returns-then-is_err-clause-lasting : goal.returns-then-is_err-clause-lasting
returns-then-is_err-clause-lasting g c = λ first. subst (λ (s : LogState g.row.D.Denot).
    (HasAllOf first s.content → HasAllOf first (with_record c.args.r s.content)) → Lasts (g.D.Disk.told s.disk)
    (g.D.Disk.told c.put_behind.new.disk) (LosesNone first)) c.self.view_is ((stopped g c).lasts first)

-- one that does not has written the record, and opened its gate
written : (before after : Option Told) (len : ℕ) (r : Record) (bytes : List ℕ) → bytes ≡ block_of r
    → after ≡ added_all (Write len bytes ∷ opening (len - 1)) before → after ≡ added_all (group len (r ∷ [])) before
written before after len r bytes same made =
    made ∙ ap (λ (l : List ℕ). added_all (Write len l ∷ opening (len - 1)) before) same

-- the record may come
comes : (before : OnLog) (len : ℕ) (r : Record) → len ≡ before.length → IsValid r → Fits r → IsPlaced before r
    → MayCome before len (r ∷ [])
comes before len r long valid fits placed =
    record { long = long; some = omega arith; fit = ((valid, fits), tt); placed = (placed, tt) }

pub returns-clause-any_moment : goal.returns-clause-any_moment
returns-clause-any_moment g c =
    let told = g.D.Disk.told in
    let old = c.self.inside in
    let r = c.args.r in
    let before = old.shelves.content in
    let did = written (told old.disk) (told c.put_behind.new.disk) c.len-len.result r c.as_slice.result.now
    (c.as_slice.ensures.value ∙ c.push.ensures.items ∙ ap (λ (l : List ℕ). l ++ (0 ∷ [])) c.requires.spelled)
    (search rules) in
    let whole : old.failed ≡ false = ap (λ (s : LogState g.row.D.Denot). s.failed) c.self.view_is
    ∙ c.requires.whole in
    let may = comes before c.len-len.result r c.len-len.ensures c.requires.valid c.requires.fits
    (subst (λ (s : LogState g.row.D.Denot). IsPlaced s.content r) (sym c.self.view_is) c.requires.placed) in
    let well = group_goes before (told old.disk) (told c.put_behind.new.disk) c.len-len.result (r ∷ [])
    (c.self.invariant.settled whole) may did in
    subst (λ (s : LogState g.row.D.Denot). Goes (told s.disk) (told c.put_behind.new.disk)
    (λ _. IsBeforeOrAfter s.content r)) c.self.view_is well.goes

pub returns-clause-lasting : goal.returns-clause-lasting
returns-clause-lasting g c = λ first.
    let told = g.D.Disk.told in
    let old = c.self.inside in
    let r = c.args.r in
    let before = old.shelves.content in
    let did = written (told old.disk) (told c.put_behind.new.disk) c.len-len.result r c.as_slice.result.now
    (c.as_slice.ensures.value ∙ c.push.ensures.items ∙ ap (λ (l : List ℕ). l ++ (0 ∷ [])) c.requires.spelled)
    (search rules) in
    let whole : old.failed ≡ false = ap (λ (s : LogState g.row.D.Denot). s.failed) c.self.view_is
    ∙ c.requires.whole in
    let may = comes before c.len-len.result r c.len-len.ensures c.requires.valid c.requires.fits
    (subst (λ (s : LogState g.row.D.Denot). IsPlaced s.content r) (sym c.self.view_is) c.requires.placed) in
    let well = group_goes before (told old.disk) (told c.put_behind.new.disk) c.len-len.result (r ∷ [])
    (c.self.invariant.settled whole) may did in
    subst (λ (s : LogState g.row.D.Denot). (HasAllOf first s.content → HasAllOf first (with_record r s.content))
    → Lasts (told s.disk) (told c.put_behind.new.disk) (LosesNone first)) c.self.view_is (well.lasts first)

pub returns-clause-durable : goal.returns-clause-durable
returns-clause-durable g c =
    let told = g.D.Disk.told in
    let old = c.self.inside in
    let r = c.args.r in
    let before = old.shelves.content in
    let did = written (told old.disk) (told c.put_behind.new.disk) c.len-len.result r c.as_slice.result.now
    (c.as_slice.ensures.value ∙ c.push.ensures.items ∙ ap (λ (l : List ℕ). l ++ (0 ∷ [])) c.requires.spelled)
    (search rules) in
    let whole : old.failed ≡ false = ap (λ (s : LogState g.row.D.Denot). s.failed) c.self.view_is
    ∙ c.requires.whole in
    let may = comes before c.len-len.result r c.len-len.ensures c.requires.valid c.requires.fits
    (subst (λ (s : LogState g.row.D.Denot). IsPlaced s.content r) (sym c.self.view_is) c.requires.placed) in
    let after = c.take.new.self.content in
    let content : after ≡ with_record r before = search rules in
    let settled : IfSome (told c.put_behind.new.disk) (IsSettled after) = group_settled before after (told old.disk)
    (told c.put_behind.new.disk) c.len-len.result (r ∷ []) (c.self.invariant.settled whole) may did content in
    images_told after (told c.put_behind.new.disk) settled

pub returns-clause-calls : goal.returns-clause-calls
returns-clause-calls g c =
    let told = g.D.Disk.told in
    let old = c.self.inside in
    let r = c.args.r in
    let did = written (told old.disk) (told c.put_behind.new.disk) c.len-len.result r c.as_slice.result.now
    (c.as_slice.ensures.value ∙ c.push.ensures.items ∙ ap (λ (l : List ℕ). l ++ (0 ∷ [])) c.requires.spelled)
    (search rules) in
    subst (λ (s : LogState g.row.D.Denot). told c.put_behind.new.disk
    ≡ added_all (group s.content.length (r ∷ [])) (told s.disk)) c.self.view_is
    (subst (λ (n : ℕ). told c.put_behind.new.disk ≡ added_all (group n (r ∷ [])) (told old.disk)) c.len-len.ensures
    did)

pub invariant_of-self-2 : goal.invariant_of-self-2
invariant_of-self-2 g c =
    let told = g.D.Disk.told in
    let old = c.self.inside in
    let r = c.args.r in
    let before = old.shelves.content in
    let did = written (told old.disk) (told c.put_behind.new.disk) c.len-len.result r c.as_slice.result.now
    (c.as_slice.ensures.value ∙ c.push.ensures.items ∙ ap (λ (l : List ℕ). l ++ (0 ∷ [])) c.requires.spelled)
    (search rules) in
    let whole : old.failed ≡ false = ap (λ (s : LogState g.row.D.Denot). s.failed) c.self.view_is
    ∙ c.requires.whole in
    let may = comes before c.len-len.result r c.len-len.ensures c.requires.valid c.requires.fits
    (subst (λ (s : LogState g.row.D.Denot). IsPlaced s.content r) (sym c.self.view_is) c.requires.placed) in
    let after = c.take.new.self.content in
    let content : after ≡ with_record r before = search rules in
    let settled : IfSome (told c.put_behind.new.disk) (IsSettled after) = group_settled before after (told old.disk)
    (told c.put_behind.new.disk) c.len-len.result (r ∷ []) (c.self.invariant.settled whole) may did content in
    let spare_entry : as_entry r ≤ old.spares.entries =
    omega (arith, c.requires.spare_entry, ap (λ (s : LogState g.row.D.Denot). s.spare_entries) c.self.view_is) in
    let spare_vote : as_vote r ≤ old.spares.votes =
    omega (arith, c.requires.spare_vote, ap (λ (s : LogState g.row.D.Denot). s.spare_votes) c.self.view_is) in
    let spare_other : as_other r ≤ old.spares.others =
    omega (arith, c.requires.spare_other, ap (λ (s : LogState g.row.D.Denot). s.spare_others) c.self.view_is) in
    record {
      settled = λ _. settled;
      long = subst (λ (x : OnLog). least_length x ≤ x.length) (sym content)
          (least_more r before c.self.invariant.long);
      calls = omega (
        arith,
        c.self.invariant.calls,
        c.put_behind.ensures.calls_kept,
        c.spend.ensures.entries,
        c.spend.ensures.votes,
        c.spend.ensures.others,
        spare_entry,
        spare_vote,
        spare_other,
        one_kind r,
      );
      bytes = omega (
        arith,
        c.self.invariant.bytes,
        c.put_behind.ensures.bytes_kept,
        c.spend.ensures.entries,
        c.spend.ensures.votes,
        c.spend.ensures.others,
        spare_entry,
        spare_vote,
        spare_other,
        one_kind r,
        ap length c.as_slice.ensures.value,
        c.push.ensures.len,
        c.requires.short,
      );
      places = record {
        entries = omega (
          arith,
          c.self.invariant.places.entries,
          ap (λ (x : OnLog). length x.entries) content,
          length-entries r before,
          c.spend.ensures.entries,
          spare_entry,
          c.take.ensures.kept.entries,
        );
        votes = omega (
          arith,
          c.self.invariant.places.votes,
          ap (λ (x : OnLog). length x.votes) content,
          length-votes r before,
          c.spend.ensures.votes,
          spare_vote,
          c.take.ensures.kept.votes,
        );
        age_votes = omega (
          arith,
          c.self.invariant.places.age_votes,
          ap (λ (x : OnLog). length x.age_votes) content,
          length-age_votes r before,
          c.spend.ensures.others,
          spare_other,
          c.take.ensures.kept.age_votes,
        );
      };
    }
