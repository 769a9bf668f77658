-- The entries of a history: Views and messages of the script behind the first entries, and each of them a
-- valid record.
use Rattle.std.proofs.Common.{refl, ap, sym, ◌∙◌, subst, ℕ, zero, suc, ◌+◌, ◌<◌, arith, List, [], ◌∷◌, ◌++◌, append-nil, append_assoc, take, get_or, All}
use Rattle.std.proofs.lemmas.{List.Elements.{All-nil, All-cons, All-append}, Option.slice_get-get_or}
use Rattle.dr_entry.specs.{Spelling.IsValidEntry, declared.entry.Entry.{Entry, TheVariants.{View, Msg}}}
use Rattle.dr_history.specs.{History.{Sent, merge}, Order.first_entries, Soundness.MayStand}
use Rattle.dr_history_laws.specs.{Courses.{ViewEnds, ViewHasEnded, counts_taken, head_of, view_in}, Laid.laid}
use Rattle.dr_faithful.{specs.Chosen.{Values, endings_by}, proofs.ChosenViews.{merged_of_script, laid_of_script}}
use Rattle.dr_machine.{specs.{Group.{Group, IsGroup, roster}, World.World}, proofs.Groups.IsOfScript}
use Rattle.dr_machine.proofs.Messages.{of_roster}
use Rattle.dr_world_laws.{specs.Historic.{HoldsMessages, IsOfAge}, proofs.Reached.Known}

-- ---- messages of the script

of_age : (g : Group) (e : Entry) → IsOfScript g e → IsOfAge g e
of_age g (View age number members) of = absurd of
of_age g (Msg s i b) of = of

all_of_age : (g : Group) (es : List Entry) → All (IsOfScript g) es → All (IsOfAge g) es
all_of_age g es all = λ k d l. of_age g (get_or es k d) (all k d l)

-- the head of a view holds Views and messages behind the first entries
head_holds : (g : Group) (sent : Sent) (endings : ViewEnds) (v : ℕ) → IsGroup g
    → ((u : ℕ) → u < v → ViewHasEnded g.opening sent endings u) → HoldsMessages g (head_of g.opening sent endings v)
unfolding head_of
head_holds g sent endings zero is ended = ([], sym (append-nil (first_entries g.opening)), All-nil (IsOfAge g))
head_holds g sent endings (suc v) is ended =
    let rest = head_holds g sent endings v is (λ u l. ended u (omega (arith, l))) in
    let next = ended v (omega arith) in
    let merged : List Entry = merge g.opening sent (view_in g.opening endings v) (counts_taken g.opening endings v) in
    let last : List Entry = View g.opening.age (suc v) (endings v).next ∷ [] in (
      (rest.0 ++ merged) ++ last,
      ap (λ es. (es ++ merged) ++ last) rest.1
          ∙ ap (λ es. es ++ last) (append_assoc (first_entries g.opening) rest.0 merged)
          ∙ append_assoc (first_entries g.opening) (rest.0 ++ merged) last,
      All-append (IsOfAge g) (rest.0 ++ merged) last (All-append (IsOfAge g) rest.0 merged rest.2
          (all_of_age g merged (merged_of_script g sent (view_in g.opening endings v) (endings v).taken)))
          (All-cons (IsOfAge g) (View g.opening.age (suc v) (endings v).next) []
          (refl, omega arith, next.roster.some, next.follows.numbers.1) (All-nil (IsOfAge g))),
    )

-- a history holds such Views and messages behind its first entries
pub holds_messages : (g : Group) (values : Values) (w : World) (m : ℕ) → IsGroup g → Known g values w → m < roster g
    → HoldsMessages g (w.past.history m)
holds_messages g values w m is y l =
    let head = head_holds g w.past.sent (endings_by g.opening values) (w.past.view m) is
    (λ u less. (y.laid.left m u l less).ended) in
    let here : List Entry = laid g.opening w.past.sent
    (view_in g.opening (endings_by g.opening values) (w.past.view m)) (w.next m) in (
      head.0 ++ here,
      y.laid.historic.history m l ∙ ap (λ es. es ++ here) head.1 ∙ append_assoc (first_entries g.opening) head.0 here,
      All-append (IsOfAge g) head.0 here head.2 (all_of_age g here (laid_of_script g w.past.sent
          (view_in g.opening (endings_by g.opening values) (w.past.view m)) (w.next m))),
    )

-- ---- valid records

-- a View and a message of the age are valid entries
valid_message : (g : Group) (e : Entry) → IsGroup g → IsOfAge g e → IsValidEntry e
valid_message g (View age number members) is of = of.2
valid_message g (Msg s i b) is of = (omega (arith, of.0, is.most_members), is.short s i b of.1)

-- so each View that may stand in a start is valid, and each message
valid_standing : (g : Group) (before : List Entry) (e : Entry) → IsGroup g
    → MayStand g.opening before e → IsValidEntry e
valid_standing g before (View age number members) is stands = stands.0.some
valid_standing g before (Msg s i b) is stands = valid_message g (Msg s i b) is (of_roster g s i b stands.2, stands.2)

valid_first : (g : Group) → IsGroup g → All IsValidEntry (first_entries g.opening)
valid_first g is = All-append IsValidEntry g.opening.start (View g.opening.age 0 g.opening.members ∷ [])
    (λ k d l. valid_standing g (take k g.opening.start) (get_or g.opening.start k d) is
    (is.sound.entries k _ (slice_get-get_or g.opening.start k d l)))
    (All-cons IsValidEntry _ [] is.sound.members.some (All-nil IsValidEntry))

-- each entry of a history is valid
pub valid_history : (g : Group) (history : List Entry) → IsGroup g → HoldsMessages g history
    → All IsValidEntry history
valid_history g history is holds = subst (All IsValidEntry) (sym holds.1) (All-append IsValidEntry
    (first_entries g.opening) holds.0 (valid_first g is) (λ k d l. valid_message g _ is (holds.2 k d l)))
