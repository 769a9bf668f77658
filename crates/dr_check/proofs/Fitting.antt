-- What is printed of ages whose members agree is told by lines.
use Rattle.std.specs.Prelude.{Contains, Option}
use Rattle.std.proofs.Common.{◌≡◌, ◌⊎◌, inl, inr, refl, sym, ap, ◌∙◌, subst, ℕ, ◌+◌, ◌*◌, ◌^◌, ◌<◌, ◌≤◌, arith, List, [], ◌∷◌, length, take, get_or, All, None, Some, slice_get, append_assoc}
use Rattle.std.proofs.lemmas.{List.{take_all, Elements.All-contains}, Option.slice_get_within}
use Rattle.dr_entry.specs.declared.{end.{AgeEnd.AgeEnd, MemberEnd.MemberEnd}, entry.Entry.Entry}
use Rattle.dr_entry.specs.declared.{entry.Entry.TheVariants.{View, Msg}, limits.TheConstants.MAX_MESSAGE_LENGTH}
use Rattle.dr_entry.proofs.{Bits.few_at, ListParts.each_at, ListPlaces.all_from_places, OptionFacts.some_of}
use Rattle.dr_history.specs.{Agreement.{accounts_of, sent_by}, History.{GroupView, messages_of, view_of}}
use Rattle.dr_history.specs.{Order.InOrder, Restarting.{AllStand, next_age}, declared.opening.Opening.Opening}
use Rattle.dr_history.proofs.{Lengths.stood-short, Lists.first_at}
use Rattle.dr_history.proofs.Stood.{age_below, small_number, view_below, view_age}
use Rattle.dr_script.specs.{Ranges.HasGroupRanges, declared.script.Script.Script}
use Rattle.dr_words.proofs.Masks.{in_roster_small}
use Rattle.dr_check.specs.Lines.{EndFits, EntryFits, IsLong}
use Rattle.dr_check.specs.Values.{HasSmallNumbers, IsAgreed, IsTellable, IsTellableAge, TellsNothing, TellsPart, told_opening}
use Rattle.dr_check.proofs.{Agreed.{durable_within, order, stand}, Telling.not_absent}

-- entries that may stand, in an age of the script
module _ (script : Script) (o : Opening) (es : List Entry) (ranges : HasGroupRanges script)
    (same : o.messages ≡ script.messages) (stand : AllStand o es)
    (small : (v : GroupView) → view_of es ≡ Some v → v.age < 2 ^ 16) where
  one : 1 ≤ length o.messages
  one = omega (arith, ranges.some_member, ranges.lists, ap length same)

  few : length o.messages ≤ 16
  few = omega (arith, ranges.most_members, ranges.lists, ap length same)

  -- their numbers are such as lines tell
  pub entries_fit : All EntryFits es
  entries_fit = all_from_places EntryFits es each
    where
      each : (i : ℕ) (e : Entry) → slice_get es i ≡ Some e → EntryFits e
      each i (View a k m) at =
          let last = age_below o es stand i a k m at in
          let stands = stand i (View a k m) at in (
            omega (arith, last.2, small last.0 last.1),
            small_number o (take i es) a k m stands,
            (
              in_roster_small 16 m (λ j there. omega (arith, stands.0.within j there, few)),
              λ none. omega (arith, stands.0.some, none),
            ),
          )
      each i (Msg s k b) at =
          let stands = stand i (Msg s k b) at in
          let v = some_of (λ v. Contains v.members s) (view_of (take i es)) stands.0 in
          let within = slice_get_within es i (Msg s k b) at in
          let below = All-contains (λ s. s < length o.messages) v.0.members s
          (view_below o es stand i (omega (arith, within)) v.0 v.1) v.2 in
          let there : s < length script.messages = omega (arith, below, ap length same) in
          let its : slice_get (get_or script.messages s []) k ≡ Some b =
          subst (λ (ms : List (List (List ℕ))). slice_get (get_or ms s []) k ≡ Some b) same stands.2 in (
            omega (arith, below, few),
            omega (arith, slice_get_within (get_or script.messages s []) k b its, ranges.few s [] there),
            record {
              few = each_at (λ (bytes : List ℕ). length bytes ≤ MAX_MESSAGE_LENGTH) (get_or script.messages s []) k
                  b (ranges.short s [] there) its;
              small = each_at (All (λ byte. byte < 256)) (get_or script.messages s []) k b
                  (ranges.bytes s [] there) its;
            },
          )

  -- and they are no more than a line tells
  pub entries_few : IsLong (length es)
  entries_few = by (view_of es) small (stood-short o es stand one few each)
    where
      each : (s : ℕ) → length (messages_of o s) ≤ 4096
      each s = subst (λ (ms : List (List (List ℕ))). length (get_or ms s []) ≤ 4096) (sym same)
          (few_at script.messages s 4096 ranges.few)

      by : (z : Option GroupView) → ((v : GroupView) → z ≡ Some v → v.age < 2 ^ 16)
          → length es ≤ 256 * next_age z + 16 * 4096 → IsLong (length es)
      by None below short = omega (arith, short)
      by (Some v) below short = omega (arith, short, below v refl)

-- all of an age whose members agree
pub agreed_fit : (script : Script) (a : AgeEnd) → HasGroupRanges script → IsAgreed script a → HasSmallNumbers a
    → IsTellableAge script.members a
agreed_fit script a ranges good small = record {
  age = small.age;
  all = good.all;
  entries = entries_fit script (told_opening script a) a.start ranges refl good.sound.entries earlier;
  start = entries_few script (told_opening script a) a.start ranges refl good.sound.entries earlier;
  ends = all_from_places (IsTellable a.start) a.members each;
}
  where
    earlier : (v : GroupView) → view_of a.start ≡ Some v → v.age < 2 ^ 16
    earlier v is = omega (arith, good.sound.later v is, small.age)

    ordered : (i : ℕ) (e : MemberEnd) → slice_get a.members i ≡ Some e → EndFits e.end
        → InOrder (told_opening script a) (sent_by (accounts_of a.members)) e.history
    ordered i e at fits = order script a ranges.most_members good i e at (not_absent e.end fits)

    stands : (i : ℕ) (e : MemberEnd) → slice_get a.members i ≡ Some e → EndFits e.end
        → AllStand (told_opening script a) e.history
    stands i e at fits = stand script a ranges.most_members good i e at (not_absent e.end fits)

    part : (i : ℕ) (e : MemberEnd) → slice_get a.members i ≡ Some e → EndFits e.end → TellsPart a.start e
    part i e at fits = record {
      begins = (
        View a.age 0 (told_opening script a).members ∷ (ordered i e at fits).begins.0,
        sym (append_assoc a.start (View a.age 0 (told_opening script a).members ∷ []) (ordered i e at fits).begins.0)
            ∙ (ordered i e at fits).begins.1,
      );
      entries = entries_fit script (told_opening script a) e.history ranges refl (stands i e at fits) last;
      ended = fits;
      history = long;
      logged = omega (
        arith,
        each_at (λ (f : MemberEnd). f.logged ≤ length f.history) a.members i e good.agreed.told at,
        long,
      );
      durable = omega (arith, durable_within script a ranges.most_members good i e at (not_absent e.end fits), long);
    }
      where
        -- its last view is of the age
        last : (v : GroupView) → view_of e.history ≡ Some v → v.age < 2 ^ 16
        last v is =
            let h = e.history in
            let within = slice_get_within h (length a.start) (View a.age 0 (told_opening script a).members)
            (first_at (told_opening script a) (sent_by (accounts_of a.members)) h (ordered i e at fits)) in
            omega (
              arith,
              view_age (told_opening script a) (sent_by (accounts_of a.members)) h (ordered i e at fits)
                  (length h) within (omega arith) v (ap view_of (take_all (length h) h (omega arith)) ∙ is),
              small.age,
            )

        long : IsLong (length e.history)
        long = entries_few script (told_opening script a) e.history ranges refl (stands i e at fits) last

    each : (i : ℕ) (e : MemberEnd) → slice_get a.members i ≡ Some e → IsTellable a.start e
    each i e at = elim (each_at (λ (e : MemberEnd). EndFits e.end ⊎ TellsNothing e) a.members i e small.ends at) [
      | inl fits ↦ inl (part i e at fits)
      | inr nothing ↦ inr nothing
    ]
