use Rattle.std.specs.{BTreeMap.insert_entry, Option.unwrap_or, Prelude.{All, Some, Vec, is_some}}
use Rattle.std.{specs.declared.alloc.Global.Global, proofs.Common.{ℕ, ◌≤◌, ◌∷◌, [], ◌++◌, ap, sym, subst, ◌∙◌}}
use Rattle.std.proofs.lemmas.{Map.Steps.set_value_same, Result.{on_ok_weaker, on_err_weaker}}
use Rattle.std.specs.FinMap as maps
use Rattle.dr_entry.proofs.ListFacts.{is_key, by_bytes}
use Rattle.dr_store.specs.{Tables.changes_of, declared.changes.Change.Change}
use Rattle.dr_store.proofs.Tables.{get_listed, sorted_listed, map_written, map_inserted}
use Rattle.dr_store.proofs.store.change.Goals as goal

pub push-requires : goal.push-requires
push-requires c =
    let es = c.args.changes.now.entries in let key = c.args.key.now in
    subst (λ x. All (λ (d : Change). d.version ≤ c.args.change.version) (unwrap_or x []))
    (get_listed es key c.requires.here ∙ sym c.in-Some.ensures.value) (c.requires.later key)

pub returns-in-Some-clause-here : goal.returns-in-Some-clause-here
returns-in-Some-clause-here c = on_ok_weaker c.push.result
    (λ _. sorted_listed _ (c.get_mut.follows.holds c.push.new.self).4) c.push.ensures.pushed

pub returns-in-Some-clause-changed : goal.returns-in-Some-clause-changed
returns-in-Some-clause-changed c =
    let es = c.args.changes.now.entries in let key = c.args.key.now in
    let h = c.get_mut.follows.holds c.push.new.self in
    let found = get_listed es key c.requires.here ∙ sym c.in-Some.ensures.value in
    let written = map_written es (c.get_mut.follows.lender c.push.new.self).entries key c.push.new.self
    c.requires.here (sorted_listed _ h.4) (sym (ap is_some c.in-Some.ensures.value)) h.0 in
    on_ok_weaker c.push.result (λ pushed. written ∙ ap (maps.insert (changes_of es) key)
    (pushed ∙ ap (λ x. unwrap_or x [] ++ c.args.change ∷ []) (sym found))) c.push.ensures.pushed

pub returns-in-Some-clause-same : goal.returns-in-Some-clause-same
returns-in-Some-clause-same c =
    let es = c.args.changes.now.entries in let w = c.push.new.self in
    on_err_weaker c.push.result (λ same. (c.get_mut.follows.holds w).0
    ∙ set_value_same (is_key c.args.key.now) es w (sym (ap Some same ∙ c.in-Some.ensures.value))) c.push.ensures.same

pub returns-clause-here : goal.returns-clause-here
returns-clause-here c = sorted_listed _ c.in_ok-insert.ensures.ordered

pub returns-clause-changed : goal.returns-clause-changed
returns-clause-changed c =
    let es = c.args.changes.now.entries in let key = c.args.key.now in
    let none = get_listed es key c.requires.here ∙ sym c.in_default.ensures.value in
    map_inserted es c.insert.new.self.entries c.in_ok-key.key c.in_ok-first.first c.requires.here
    (sorted_listed _ c.in_ok-insert.ensures.ordered) (c.in_ok-insert.ensures.entries
    ∙ ap (λ m. insert_entry (λ (x y : Vec ℕ Global). by_bytes x.items y.items) m.entries c.in_ok-key.key
    c.in_ok-first.first) c.get_mut.follows.holds-at-none) ∙ ap (maps.insert (changes_of es) c.in_ok-key.key.items)
    (c.in_ok-first.ensures ∙ ap (λ x. unwrap_or x [] ++ c.args.change ∷ []) (sym none)) ∙ ap (λ k. maps.insert
    (changes_of es) k (unwrap_or (maps.get (changes_of es) key) [] ++ c.args.change ∷ [])) c.in_ok-key.ensures.items
