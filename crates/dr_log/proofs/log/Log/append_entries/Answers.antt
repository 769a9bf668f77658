use Rattle.std.proofs.Common.{◌≡◌, ℕ, ◌+◌, ◌≤◌, [], ◌∷◌, ◌++◌, length, false, inl, IfSome, ap, sym, subst, ◌∙◌, arith, rules, length-append}
use Rattle.dr_disk.specs.{Disk.content_of, Images.{Goes, Lasts}}
use Rattle.dr_log.specs.{Grouping.{StopsAmong, added_all, group}, State.LogState}
use Rattle.dr_log.specs.{Kept.IsSettled, Standing.{IsNoneOrAll, LosesNone, as_records, least_length, with_entries}}
use Rattle.dr_log.proofs.{Groups.{are_spelled, some_records, spelled_more}, Lasting.entries_keep}
use Rattle.dr_log.proofs.{Growing.{content-entries, least_all, placed-entries}, log.Log.append_entries.Given.Over}
use Rattle.dr_log.proofs.Told.{GoesWell, MayCome, goes_all, group_goes, group_settled, group_stops, images_told, reaches_end, still_goes}
use Rattle.dr_log.proofs.log.Log.append_entries.Goals as goal
use Rattle.dr_log_bytes.specs.Content.{OnLog}

pub returns-then-size-saturating_sub-clause-any_moment : goal.returns-then-size-saturating_sub-clause-any_moment
returns-then-size-saturating_sub-clause-any_moment g c =
    let told = g.D.Disk.told in
    let old = c.self.inside in
    let whole : old.failed ≡ false = ap (λ (s : LogState g.row.D.Denot). s.failed) c.self.view_is
    ∙ c.requires.whole in
    let before = old.shelves.content in
    subst (λ (s : LogState g.row.D.Denot). Goes (told s.disk) (told s.disk)
    (λ _. IsNoneOrAll s.content (c.args.first.now ++ c.args.last.now ∷ []))) c.self.view_is
    (still_goes before (told old.disk) (IsNoneOrAll before (c.args.first.now ++ c.args.last.now ∷ []))
    (c.self.invariant.settled whole) (λ image is. inl is))

pub put_group-requires-clause-inside : goal.put_group-requires-clause-inside
put_group-requires-clause-inside g c κs within =
    let told = g.D.Disk.told in
    let old = c.self.inside in
    let whole : old.failed ≡ false = ap (λ (s : LogState g.row.D.Denot). s.failed) c.self.view_is
    ∙ c.requires.whole in
    subst (λ (n : ℕ). IfSome (told old.disk) (λ t. n ≤ length (content_of t))) (sym c.len-len.ensures)
    (reaches_end _ (told old.disk) (c.self.invariant.settled whole))

-- an append that stops has gone well up to there
stopped : (g : Over) (c : goal.After-self-then-is_err-1 g)
    → GoesWell c.self.inside.shelves.content (as_records (c.args.first.now ++ c.args.last.now ∷ []))
    (g.D.Disk.told c.self.inside.disk) (g.D.Disk.told c.put_group.new.disk)
stopped g c =
    let told = g.D.Disk.told in
    let old = c.self.inside in
    let first = c.args.first.now in
    let last = c.args.last.now in
    let whole : old.failed ≡ false = ap (λ (s : LogState g.row.D.Denot). s.failed) c.self.view_is
    ∙ c.requires.whole in
    let spelled = spelled_more first last (are_spelled first c.requires.valid c.size_of-size.ensures.fits)
    c.requires.valid_last c.size_of-size.ensures.fits_last in
    let stops : StopsAmong (group c.len-len.result (as_records (first ++ last ∷ []))) (told old.disk)
    (told c.put_group.new.disk) = search rules in
    group_stops _ (told old.disk) (told c.put_group.new.disk) c.len-len.result (as_records (first ++ last ∷ []))
    (c.self.invariant.settled whole) (record {
      long = c.len-len.ensures;
      some = some_records first last;
      fit = spelled;
      placed = placed-entries _ (first ++ last ∷ []);
    }) stops

pub returns-then-is_err-clause-any_moment : goal.returns-then-is_err-clause-any_moment
returns-then-is_err-clause-any_moment g c =
    subst (λ (s : LogState g.row.D.Denot). Goes (g.D.Disk.told s.disk) (g.D.Disk.told c.put_group.new.disk)
    (λ _. IsNoneOrAll s.content (c.args.first.now ++ c.args.last.now ∷ []))) c.self.view_is
    (goes_all _ (c.args.first.now ++ c.args.last.now ∷ []) (g.D.Disk.told c.self.inside.disk)
    (g.D.Disk.told c.put_group.new.disk) (stopped g c))

pub returns-then-is_err-clause-lasting : goal.returns-then-is_err-clause-lasting
returns-then-is_err-clause-lasting g c = λ first. subst (λ (s : LogState g.row.D.Denot). Lasts
    (g.D.Disk.told s.disk) (g.D.Disk.told c.put_group.new.disk) (LosesNone first)) c.self.view_is
    ((stopped g c).lasts first (entries_keep first _ (c.args.first.now ++ c.args.last.now ∷ [])))

-- one that does not has written the entries, and opened their gate
did : (g : Over) (c : goal.After-take_all g) → g.D.Disk.told c.put_group.new.disk ≡ added_all (group c.len-len.result
    (as_records (c.args.first.now ++ c.args.last.now ∷ []))) (g.D.Disk.told c.self.inside.disk)
did g c = search rules

whole : (g : Over) (c : goal.After-take_all g) → c.self.inside.failed ≡ false
whole g c = ap (λ (s : LogState g.row.D.Denot). s.failed) c.self.view_is ∙ c.requires.whole

-- the entries may come
may : (g : Over) (c : goal.After-take_all g)
    → MayCome c.self.inside.shelves.content c.len-len.result (as_records (c.args.first.now ++ c.args.last.now ∷ []))
may g c = record {
  long = c.len-len.ensures;
  some = some_records c.args.first.now c.args.last.now;
  fit = spelled_more c.args.first.now c.args.last.now
      (are_spelled c.args.first.now c.requires.valid c.size_of-size.ensures.fits)
      c.requires.valid_last c.size_of-size.ensures.fits_last;
  placed = placed-entries _ (c.args.first.now ++ c.args.last.now ∷ []);
}

well : (g : Over) (c : goal.After-take_all g)
    → GoesWell c.self.inside.shelves.content (as_records (c.args.first.now ++ c.args.last.now ∷ []))
    (g.D.Disk.told c.self.inside.disk) (g.D.Disk.told c.put_group.new.disk)
well g c =
    let told = g.D.Disk.told in
    let old = c.self.inside in
    group_goes _ (told old.disk) (told c.put_group.new.disk) c.len-len.result
    (as_records (c.args.first.now ++ c.args.last.now ∷ [])) (c.self.invariant.settled (whole g c)) (may g c) (did g c)

-- what is on the log then
content : (g : Over) (c : goal.After-take_all g) → c.take_all.new.self.content
    ≡ with_entries (c.args.first.now ++ c.args.last.now ∷ []) c.self.inside.shelves.content
content g c = c.take_all.ensures.content

-- and the disk is settled with them
settled : (g : Over) (c : goal.After-take_all g)
    → IfSome (g.D.Disk.told c.put_group.new.disk) (IsSettled c.take_all.new.self.content)
settled g c =
    let told = g.D.Disk.told in
    let old = c.self.inside in
    group_settled _ _ (told old.disk) (told c.put_group.new.disk) c.len-len.result
    (as_records (c.args.first.now ++ c.args.last.now ∷ [])) (c.self.invariant.settled (whole g c)) (may g c)
    (did g c) (content g c ∙ sym (content-entries _ (c.args.first.now ++ c.args.last.now ∷ [])))

pub returns-clause-any_moment : goal.returns-clause-any_moment
returns-clause-any_moment g c =
    subst (λ (s : LogState g.row.D.Denot). Goes (g.D.Disk.told s.disk) (g.D.Disk.told c.put_group.new.disk)
    (λ _. IsNoneOrAll s.content (c.args.first.now ++ c.args.last.now ∷ []))) c.self.view_is
    (goes_all _ (c.args.first.now ++ c.args.last.now ∷ []) (g.D.Disk.told c.self.inside.disk)
    (g.D.Disk.told c.put_group.new.disk) (well g c))

pub returns-clause-lasting : goal.returns-clause-lasting
returns-clause-lasting g c = λ first. subst (λ (s : LogState g.row.D.Denot). Lasts
    (g.D.Disk.told s.disk) (g.D.Disk.told c.put_group.new.disk) (LosesNone first)) c.self.view_is
    ((well g c).lasts first (entries_keep first _ (c.args.first.now ++ c.args.last.now ∷ [])))

pub returns-clause-durable : goal.returns-clause-durable
returns-clause-durable g c = images_told _ (g.D.Disk.told c.put_group.new.disk) (settled g c)

pub invariant_of-self-2 : goal.invariant_of-self-2
invariant_of-self-2 g c =
    let old = c.self.inside in
    let first = c.args.first.now in
    let last = c.args.last.now in
    let before = old.shelves.content in
    let spares : length first + 1 ≤ old.spares.entries = omega (
      arith,
      c.requires.spares,
      ap (λ (s : LogState g.row.D.Denot). s.spare_entries) c.self.view_is,
    ) in
    let more : length c.take_all.new.self.content.entries ≡ length before.entries + (length first + 1) = omega (
      arith,
      ap (λ (x : OnLog). length x.entries) (content g c),
      length-append before.entries (first ++ last ∷ []),
      length-append first (last ∷ []),
    ) in
    let places = c.self.invariant.places in
    let kept = c.take_all.ensures.kept in
    let votes : length c.take_all.new.self.content.votes ≡ length before.votes =
    ap (λ (x : OnLog). length x.votes) (content g c) in
    let age_votes : length c.take_all.new.self.content.age_votes ≡ length before.age_votes =
    ap (λ (x : OnLog). length x.age_votes) (content g c) in
    record {
      settled = λ _. settled g c;
      long = subst (λ (x : OnLog). least_length x ≤ x.length) (sym (content g c))
          (least_all (first ++ last ∷ []) before c.self.invariant.long);
      calls = omega (arith, c.self.invariant.calls, c.put_group.ensures.calls_kept, spares);
      bytes = omega (arith, c.self.invariant.bytes, c.put_group.ensures.bytes_kept, spares);
      places = record {
        entries = omega (arith, places.entries, more, spares, kept.entries);
        votes = omega (arith, places.votes, votes, kept.votes);
        age_votes = omega (arith, places.age_votes, age_votes, kept.age_votes);
      };
    }
