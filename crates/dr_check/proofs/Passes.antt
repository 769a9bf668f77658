-- A report of ages that agree and are kept breaks no clause.
use Rattle.std.specs.{List.Any, Option.option_map_or, Prelude.{Option, IfSome, IsSomeAnd}}
use Rattle.std.proofs.Common.{◌≡◌, ◌⊎◌, inl, inr, refl, sym, ap, ◌∙◌, subst, ℕ, zero, suc, ◌+◌, ◌<◌, ◌≤◌, arith, not, Bool, true, false, true≢false, List, [], length, take, get_or, All, Contains, None, Some, slice_get}
use Rattle.std.proofs.lemmas.List.{length-take, Elements.All-weaker}
use Rattle.std.proofs.lemmas.Option.{same_Some, slice_get-get_or, slice_get_within}
use Rattle.dr_entry.specs.declared.{end.{AgeEnd.AgeEnd, MemberEnd.MemberEnd}, entry.Entry.Entry}
use Rattle.dr_entry.{specs.declared.entry.Entry.TheVariants.{View, Msg}, proofs.{BoolFacts.not_so, ListParts.each_at}}
use Rattle.dr_entry.proofs.ListPlaces.{all_from_places, any_at, at_any, behind_at, zip_at, zip_to, Contains-slice_get}
use Rattle.dr_entry.proofs.OptionFacts.{if_some, some_of}
use Rattle.dr_history.specs.{Agreement.{accounts_of, sent_by}, History.{GroupView, IsPrefixOf, view_of}}
use Rattle.dr_history.specs.{Members.{has, members_of}, Order.{IsLateIn, IsSucceededBy, MayJoin}, Restarting.Kept}
use Rattle.dr_history.{specs.Soundness.{IsNobodyLate, IsPresentIn, MayStand}, proofs.Histories.history_of}
use Rattle.dr_history.proofs.{Lists.{first_at, all_below, same_at}, Masks.same_masks}
use Rattle.dr_history.proofs.{MemberLemmas.{member-has, in_mask, all_members}, Stood.named_below}
use Rattle.dr_script.specs.{Ranges.HasGroupRanges, declared.script.Script.Script}
use Rattle.dr_text.specs.{Report.is_absent, declared.last.Clause.Clause}
use Rattle.dr_words.specs.Masks.{mask_of}
use Rattle.dr_text.specs.declared.last.Clause.TheVariants as clauses
use Rattle.dr_check.specs.Clauses.{AgeItself, MemberItself, EntryItself, AreLogged, TakesPart, KeepsBytes, KeepsIndex, KeepsPrefix, KeepsSender, HasDelivered, HasSame, IsDurableView, IsKeptIn, log_of, IsLate, Names, WasNamed, first_members, members_named, KeepsStart, KeepsView, KeepsDurable, KeepsAge, MayComeNext, MayStart, IsFirstView, FollowsView, logged_by}
use Rattle.dr_check.specs.{Firsts.AllKeep, Flaws.{IsRight, own_entries}}
use Rattle.dr_check.specs.Values.{KeepEachOther, HasAge, HasMember, HasValues, IsAgreed, told_members, told_opening, took_part}
use Rattle.dr_check.specs.declared.report.{Report.Report, ReportAge.ReportAge, ReportMember.ReportMember}
use Rattle.dr_check.proofs.{Agreed.{end_there, is_here, knows, order, stand}, Roster.may_start}

-- a message that may stand keeps what is said of messages
message_keeps : (script : Script) (a : AgeEnd) (before : List Entry) (e : Entry)
    → MayStand (told_opening script a) before e → KeepsSender before e × KeepsIndex before e × KeepsBytes script e
message_keeps script a before (View g k m) stands = (tt, tt, tt)
message_keeps script a before (Msg s k b) stands = stands

-- who took part in an age
abbrev mask_there : AgeEnd → ℕ
mask_there a = mask_of (took_part a.members)

-- a member of a report took part exactly where the end does that it has the values of
there_was : (e : MemberEnd) (m : ReportMember) → HasMember e m → m.present ≡ true → is_absent e.end ≡ false
there_was e m same present = not_so (is_absent e.end) (sym same.present ∙ present)

-- one age of a report
module _ (script : Script) (a : AgeEnd) (ra : ReportAge) (ranges : HasGroupRanges script)
    (good : IsAgreed script a) (values : HasAge a ra) where
  -- each member of the report is one of the age
  end_of : (i : ℕ) (m : ReportMember) → slice_get ra.members i ≡ Some m
      → (e : MemberEnd) × (slice_get a.members i ≡ Some e) × HasMember e m
  end_of i m at = zip_at HasMember a.members ra.members values.members i m at

  few : script.members ≤ 16
  few = ranges.most_members

  there : (s : ℕ) → IsPresentIn (told_opening script a) s → TakesPart ra s
  there s here =
      let e = end_there script a s here in
      let m = zip_to HasMember a.members ra.members values.members s e.0 e.1 in
      subst (λ r. IsSomeAnd r (λ (x : ReportMember). x.present ≡ true)) (sym m.1) (m.2.present ∙ ap not e.2)

  starts : length ra.start ≡ length a.start
  starts = ap length values.start

  -- ---- the clauses on the age itself

  keeps_start : KeepsStart script ra
  keeps_start = record {
    entries = subst (λ (es : List Entry). AllKeep (λ i e. MayStart script (take i es) e) es) (sym values.start)
        (λ i e at. may_start script (told_opening script a) a.start refl ranges.lists ranges.most_members
        good.sound.entries i e at);
    later = λ v is. subst (λ (n : ℕ). v.age < n) (sym values.age)
        (good.sound.later v (sym (ap view_of values.start) ∙ is));
  }

  -- ---- those on a member

  module _ (i : ℕ) (m : ReportMember) (e : MemberEnd) (at : slice_get a.members i ≡ Some e)
      (same : HasMember e m) (took : is_absent e.end ≡ false) where
    first : slice_get e.history (length a.start) ≡ Some (View a.age 0 (told_members a))
    first = first_at (told_opening script a) (sent_by (accounts_of a.members)) e.history
        (order script a few good i e at took)

    has_own : length ra.start < length m.history
    has_own =
        let within = slice_get_within e.history (length a.start) (View a.age 0 (told_members a)) first in
        omega (arith, within, starts, ap length same.history)

    -- whoever is late in the age is late in the report
    is_late : (s : ℕ) → IsLateIn (told_opening script a) s → IsLate ra m s
    is_late s (here, outside) = (
      there s here,
      λ named. true≢false (sym (in_mask (told_members a) s (subst (λ (xs : List ℕ). Contains xs s) firsts named))
          ∙ outside),
    )
      where
        firsts : first_members ra m ≡ members_of (told_members a)
        firsts = ap (λ (h : List Entry). members_named (slice_get h (length ra.start))) same.history
            ∙ (ap (λ n. members_named (slice_get e.history n)) starts ∙ ap members_named first)

    -- ---- those on an entry

    module _ (j : ℕ) (x : Entry) (spot : slice_get e.history j ≡ Some x) where
      keeps_messages : KeepsSender (take j m.history) x × KeepsIndex (take j m.history) x × KeepsBytes script x
      keeps_messages = subst (λ (h : List Entry). KeepsSender (take j h) x
          × KeepsIndex (take j h) x × KeepsBytes script x) (sym same.history)
          (message_keeps script a (take j e.history) x (stand script a few good i e at took j x spot))

      is_first : j ≡ length ra.start → IsFirstView ra x
      is_first is =
          let one : View a.age 0 (told_members a) ≡ x =
          same_Some _ x (sym first ∙ (ap (slice_get e.history) (sym (is ∙ starts)) ∙ spot)) in
          subst (IsFirstView ra) one (
            sym values.age,
            refl,
            all_members (told_members a) (TakesPart ra) (λ s named. there s (good.sound.part s named)),
          )

      -- whoever may join is late in the report, and was named by no View of the age up to there
      joins : (s : ℕ) → MayJoin (told_opening script a) (take j e.history) s
          → IsLate ra m s × (WasNamed ra (take j m.history) s → ⊥)
      joins s may = (
        is_late s may.0,
        λ was. let before = at_any (λ x. Names ra x s) (take j m.history) was in
            unnamed before.1 (Contains-slice_get (take j e.history) before.0 before.1
            (ap (λ (h : List Entry). slice_get (take j h) before.0) (sym same.history) ∙ before.2)) before.3,
      )
        where
          unnamed : (x : Entry) → Contains (take j e.history) x → Names ra x s → ⊥
          unnamed (View g k mask) there (its_age, named) = true≢false (sym (in_mask mask s named) ∙ may.1 k mask
              (subst (λ (n : ℕ). Contains (take j e.history) (View n k mask)) (its_age ∙ values.age) there))
          unnamed (Msg n k b) there named = named

      comes : (v : GroupView) (s : ℕ) → Contains v.members s ⊎ MayJoin (told_opening script a) (take j e.history) s
          → Contains v.members s ⊎ (IsLate ra m s × (WasNamed ra (take j m.history) s → ⊥))
      comes v s (inl stays) = inl stays
      comes v s (inr may) = inr (joins s may)

      goes_on : (y : Entry) → slice_get e.history j ≡ Some y → length ra.start < j → FollowsView script ra m j y
      goes_on (Msg s k b) spot less = tt
      goes_on (View g k mask) spot less =
          let behind : length a.start < j = omega (arith, less, starts) in
          let u = some_of (λ v. IsSucceededBy (told_opening script a) (take j e.history) v g k mask)
          (view_of (take j e.history)) ((order script a few good i e at took).views j g k mask behind spot) in
          let now : view_of (take j m.history) ≡ Some u.0 =
          ap (λ (h : List Entry). view_of (take j h)) same.history ∙ u.1 in
          let next : MayComeNext script ra m j u.0 g k mask = record {
            same_age = u.2.follows.same_age;
            next_number = u.2.follows.next_number;
            other = u.2.follows.other;
            roster = subst (λ (n : ℕ). All (λ s. s < n) (members_of mask)) ranges.lists
                (named_below (told_opening script a) e.history (stand script a few good i e at took) j g k mask spot);
            majority = u.2.majority;
            newcomers = λ n d within.
                let s = get_or (members_of mask) n d in
                comes u.0 s (u.2.newcomers s (member-has mask n s (slice_get-get_or (members_of mask) n d within)));
          } in
          subst (λ r. IsSomeAnd r (λ v. MayComeNext script ra m j v g k mask)) (sym now) next

      keeps_view : KeepsView script ra m j x
      keeps_view = record { first = is_first; later = goes_on x spot }

      has_same : (k : ℕ) (other : ReportMember) → slice_get ra.members k ≡ Some other → other.present ≡ true
          → (y : Entry) → slice_get other.history j ≡ Some y → y ≡ x
      has_same k other other_at present y y_at =
          let f = end_of k other other_at in
          let along = good.agreed.agreed.prefix k i (is_here script a few good k f.0 f.1
          (there_was f.0 other f.2 present)) (is_here script a few good i e at took) in
          let one : IsPrefixOf f.0.history e.history ⊎ IsPrefixOf e.history f.0.history =
          subst (λ (h : List Entry). IsPrefixOf f.0.history h ⊎ IsPrefixOf h f.0.history) (history_of a i e at)
          (subst (λ (g : List Entry). IsPrefixOf g (accounts_of a.members i).history
          ⊎ IsPrefixOf (accounts_of a.members i).history g) (history_of a k f.0 f.1) along) in
          same_at f.0.history e.history j y x one
          (subst (λ (h : List Entry). slice_get h j ≡ Some y) f.2.history y_at) spot

      keeps_prefix : (n : ℕ) → KeepsPrefix ra n j x
      keeps_prefix n = all_below (HasSame j x) ra.members n (λ k other other_at present. if_some
          (slice_get other.history j) (λ y. y ≡ x) (has_same k other other_at present))

    -- ---- what is durable

    log_short : (s : ℕ) → length (accounts_of a.members s).log ≤ logged_by ra s
    log_short s = by (slice_get a.members s) refl
      where
        logs : Option MemberEnd → List Entry
        logs z = option_map_or (λ (e : MemberEnd). take e.logged e.history) z []

        by : (z : Option MemberEnd) → slice_get a.members s ≡ z
            → length (accounts_of a.members s).log ≤ logged_by ra s
        by None none =
            let empty : length (accounts_of a.members s).log ≡ 0 = ap (λ z. length (logs z)) none in
            omega (arith, empty)
        by (Some f) one =
            let n = zip_to HasMember a.members ra.members values.members s f one in
            let log : length (accounts_of a.members s).log ≡ length (take f.logged f.history) =
            ap (λ z. length (logs z)) one in
            let told : logged_by ra s ≡ f.logged = ap log_of n.1 ∙ n.2.logged in
            omega (arith, log, told, length-take f.logged f.history)

    -- where nobody is late in the report, nobody is in the age
    nobody_late : ((s : ℕ) → IsLate ra m s → ⊥) → IsNobodyLate (told_opening script a)
    nobody_late nobody = same_masks (told_members a) (mask_there a)
        (λ s. by s (has (told_members a) s) (has (mask_there a) s) refl refl)
      where
        by : (s : ℕ) (x y : Bool) → has (told_members a) s ≡ x → has (mask_there a) s ≡ y
            → has (told_members a) s ≡ has (mask_there a) s
        by s true y first_is there_is = first_is ∙ sym (good.sound.part s first_is)
        by s false true first_is there_is = absurd (nobody s (is_late s (there_is, first_is)))
        by s false false first_is there_is = first_is ∙ sym there_is

    keeps_durable : KeepsDurable ra m
    keeps_durable =
        let k = knows script a few good i e at took in
        let on_logs : AreLogged ra m (members_of k.1) =
        All-weaker (λ j. e.durable ≤ length (accounts_of a.members j).log) (λ s. m.durable ≤ logged_by ra s)
        (λ s less. omega (arith, less, same.durable, log_short s)) (members_of k.1) k.3 in
        let told = each_at (λ (f : MemberEnd). f.logged ≤ length f.history) a.members i e good.agreed.told at in
        record {
          told = omega (arith, told, same.logged, ap length same.history);
          some = any_at (IsDurableView ra m) m.history k.2.0 (View a.age k.0 k.1)
              (ap (λ (h : List Entry). slice_get h k.2.0) same.history
              ∙ (slice_get-get_or e.history k.2.0 (View a.age k.0 k.1) k.2.1 ∙ ap Some k.2.2))
              (sym values.age, on_logs);
          last = λ nobody. subst (λ r. IsSomeAnd r (λ w. (w.age ≡ ra.age) × AreLogged ra m w.members))
              (sym (ap view_of same.history ∙ k.4 (nobody_late nobody))) (sym values.age, on_logs);
        }

-- an age keeps what the one before it had
keeps_age : (script : Script) (p a : AgeEnd) (rp ra : ReportAge) → HasGroupRanges script → IsAgreed script p
    → HasAge p rp → HasAge a ra
    → Kept (told_opening script p) (accounts_of p.members) (told_opening script a) → KeepsAge rp ra
keeps_age script p a rp ra ranges good before after kept = record {
  later = omega (arith, kept.later, before.age, after.age);
  delivered = delivered;
  durable = durable;
}
  where
    few : script.members ≤ 16
    few = ranges.most_members

    delivered : Any (HasDelivered ra) rp.members
    delivered =
        let i = kept.delivered.0 in
        let e = end_there script p i kept.delivered.1 in
        let m = zip_to HasMember p.members rp.members before.members i e.0 e.1 in
        any_at (HasDelivered ra) rp.members i m.0 m.1 (
          m.2.present ∙ ap not e.2,
          subst (λ (h : List Entry). IsPrefixOf ra.start h) (history_of p i e.0 e.1 ∙ sym m.2.history)
              (subst (λ (es : List Entry). IsPrefixOf es (accounts_of p.members i).history) (sym after.start)
              kept.delivered.2),
        )

    kept_in : (i : ℕ) (m : ReportMember) → slice_get rp.members i ≡ Some m → IsKeptIn ra m
    kept_in i m at present =
        let e = end_of script p rp ranges good before i m at in
        let known : (accounts_of p.members i).durable ≡ m.durable =
        ap (λ z. option_map_or (λ (e : MemberEnd). e.durable) z 0) e.1 ∙ sym e.2.durable in
        let history : (accounts_of p.members i).history ≡ m.history = history_of p i e.0 e.1 ∙ sym e.2.history in
        subst (λ (es : List Entry). IsPrefixOf (take m.durable m.history) es) (sym after.start)
        (subst (λ (h : List Entry). IsPrefixOf (take m.durable h) a.start) history
        (subst (λ (n : ℕ). IsPrefixOf (take n (accounts_of p.members i).history) a.start) known
        (kept.durable i (is_here script p few good i e.0 e.1 (there_was e.0 m e.2 present)))))

    durable : All (IsKeptIn ra) rp.members
    durable = all_from_places (IsKeptIn ra) rp.members kept_in

-- the whole report
pub passes : (script : Script) (ages : List AgeEnd) (r : Report) → HasGroupRanges script → HasValues ages r
    → All (IsAgreed script) ages → KeepEachOther script ages → IsRight script r
passes script ages r ranges values good kept c i ra at = (
  itself c i at,
  λ n m spot present. let e = end_of script a.0 ra ranges fine a.2 n m spot in (
    member c n m e.0 e.1 e.2 (there_was e.0 m e.2 present),
    λ k x own. entry c n m e.0 e.1 e.2 (there_was e.0 m e.2 present) k x own,
  ),
)
  where
    a : (a : AgeEnd) × (slice_get ages i ≡ Some a) × HasAge a ra
    a = zip_at HasAge ages r.ages values i ra at

    fine : IsAgreed script a.0
    fine = each_at (IsAgreed script) ages i a.0 good a.1

    after : (j : ℕ) → slice_get r.ages (suc j) ≡ Some ra → IfSome (slice_get r.ages j) (λ before. KeepsAge before ra)
    after j here = by (slice_get r.ages j) refl
      where
        by : (z : Option ReportAge) → slice_get r.ages j ≡ z → IfSome z (λ before. KeepsAge before ra)
        by None none = tt
        by (Some rp) was =
            let p = zip_at HasAge ages r.ages values j rp was in
            let b = zip_at HasAge ages r.ages values (suc j) ra here in
            keeps_age script p.0 b.0 rp ra ranges (each_at (IsAgreed script) ages j p.0 good p.1) p.2 b.2
            (kept j p.0 b.0 p.1 b.1)

    itself : (c : Clause) (i : ℕ) → slice_get r.ages i ≡ Some ra → AgeItself c script r.ages i ra
    itself clauses.Start i here = keeps_start script a.0 ra ranges fine a.2
    itself clauses.View i here = tt
    itself clauses.Sender i here = tt
    itself clauses.Index i here = tt
    itself clauses.Bytes i here = tt
    itself clauses.Prefix i here = tt
    itself clauses.Durable i here = tt
    itself clauses.Kept zero here = tt
    itself clauses.Kept (suc j) here = after j here

    member : (c : Clause) (n : ℕ) (m : ReportMember) (e : MemberEnd) → slice_get a.0.members n ≡ Some e
        → HasMember e m → is_absent e.end ≡ false → MemberItself c ra m
    member clauses.Start n m e at same took = tt
    member clauses.View n m e at same took = has_own script a.0 ra ranges fine a.2 n m e at same took
    member clauses.Sender n m e at same took = tt
    member clauses.Index n m e at same took = tt
    member clauses.Bytes n m e at same took = tt
    member clauses.Prefix n m e at same took = tt
    member clauses.Durable n m e at same took = keeps_durable script a.0 ra ranges fine a.2 n m e at same took
    member clauses.Kept n m e at same took = tt

    entry : (c : Clause) (n : ℕ) (m : ReportMember) (e : MemberEnd) → slice_get a.0.members n ≡ Some e
        → HasMember e m → is_absent e.end ≡ false → (k : ℕ) (x : Entry) → slice_get (own_entries ra m) k ≡ Some x
        → EntryItself c script ra n m (length ra.start + k) x
    entry c n m e at same took k x own = by c
      where
        j : ℕ
        j = length ra.start + k

        spot : slice_get e.history j ≡ Some x
        spot = subst (λ (h : List Entry). slice_get h j ≡ Some x) same.history
            (behind_at (length ra.start) m.history k x own)

        by : (c : Clause) → EntryItself c script ra n m j x
        by clauses.Start = tt
        by clauses.View = keeps_view script a.0 ra ranges fine a.2 n m e at same took j x spot
        by clauses.Sender = (keeps_messages script a.0 ra ranges fine a.2 n m e at same took j x spot).0
        by clauses.Index = (keeps_messages script a.0 ra ranges fine a.2 n m e at same took j x spot).1
        by clauses.Bytes = (keeps_messages script a.0 ra ranges fine a.2 n m e at same took j x spot).2
        by clauses.Prefix = keeps_prefix script a.0 ra ranges fine a.2 n m e at same took j x spot n
        by clauses.Durable = tt
        by clauses.Kept = tt
