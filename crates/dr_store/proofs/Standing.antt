-- A store stands for what was applied to it.
use Rattle.std.{specs.{Cmp.Lexicographic.nat_list_cmp_total, Ordering.is_eq}, proofs.lemmas.Bool.{le-leb, ltb-false}}
use Rattle.std.{specs.Option.unwrap_or, proofs.lemmas.List.{Elements.All-push, Sums.fold-append}}
use Rattle.std.{specs.Prelude.{Option, None, Some, All}, proofs.lemmas.List.{take-append-le, take_all, length-append}}
use Rattle.std.proofs.Common.{◌≡◌, ℕ, suc, ◌+◌, ◌≤◌, Bool, true, false, cond, ltb, List, [], ◌∷◌, ◌++◌, length, take, fold, refl, ap, sym, subst, ◌∙◌, arith}
use Rattle.std.specs.FinMap as maps
use Rattle.dr_entry.{specs.declared.entry.Entry.{Entry, TheVariants.{View, Msg}}, proofs.BoolFacts.{equal, alike}}
use Rattle.dr_entry.proofs.{ListFacts.by_bytes, NumberFacts.{by_version, lt-leb-false}, PlainFacts.same_key}
use Rattle.dr_store.specs.Commands.{Contents, StoreCommand, after_command, command_in, contents, messages}
use Rattle.dr_store.specs.Stock.{ChangesByKey, Stock, HasNothingLater, IsStoreOf, changes_at, value_by, refusal_at, value_at}
use Rattle.dr_store.specs.{Tables.{with_change, with_command}, declared.changes.Change.Change}
use Rattle.dr_store.{specs.declared.fault.AtFault.TheVariants.{Ahead, Forgotten}, proofs.Givens.{turned, given-push}}

pub messages_append : (g h : List Entry) → messages (g ++ h) ≡ messages g ++ messages h
messages_append [] h = refl
messages_append (View a n m ∷ g) h = messages_append g h
messages_append (Msg s i b ∷ g) h = ap (λ rest. b ∷ rest) (messages_append g h)

-- what comes later changes no earlier version
pub contents_prefix : (h more : List Entry) (v : ℕ) → v ≤ length (messages h) → contents (h ++ more) v ≡ contents h v
unfolding contents
contents_prefix h more v within = ap (λ ms. fold (λ m bytes. after_command m (command_in bytes)) maps.empty
    (take v ms)) (messages_append h more) ∙ ap (fold (λ m bytes. after_command m (command_in bytes)) maps.empty)
    (take-append-le v (messages h) (messages more) within)

-- the next message
pub contents_next : (h : List Entry) (s i : ℕ) (b : List ℕ) (n : ℕ) → n ≡ length (messages h)
    → contents (h ++ Msg s i b ∷ []) (n + 1) ≡ after_command (contents h n) (command_in b)
unfolding contents
contents_next h s i b n is =
    let after = λ (ms : List (List ℕ)). fold (λ m bytes. after_command m (command_in bytes)) maps.empty ms in
    ap (λ ms. after (take (n + 1) ms)) (messages_append h (Msg s i b ∷ []))
    ∙ ap after (take_all (n + 1) (messages h ++ b ∷ []) (omega (arith, length-append (messages h) (b ∷ []))))
    ∙ fold-append (λ m bytes. after_command m (command_in bytes)) maps.empty (messages h) (b ∷ [])
    ∙ ap (λ ms. after_command (after ms) (command_in b)) (sym (take_all n (messages h) (omega arith)))

-- what a command leaves at a key
pub get_changed : (m : Contents) (key : List ℕ) (value : Option (List ℕ)) (q : List ℕ)
    → maps.get (after_command m (Some (key, value))) q ≡ cond (is_eq (by_bytes q key)) value (maps.get m q)
get_changed m key None q = maps.get-remove nat_list_cmp_total m key q
get_changed m key (Some value) q = maps.get-insert nat_list_cmp_total m key value q

-- the changes of a key once one more was put in
pub changes_with : (m : ChangesByKey) (key : List ℕ) (c : Change) (q : List ℕ)
    → unwrap_or (maps.get (with_change m key c) q) [] ≡ cond (is_eq (by_bytes q key))
    (unwrap_or (maps.get m q) [] ++ c ∷ []) (unwrap_or (maps.get m q) [])
changes_with m key c q = ap (λ x. unwrap_or x []) (maps.get-insert nat_list_cmp_total m key
    (unwrap_or (maps.get m key) [] ++ c ∷ []) q) ∙ elim (is_eq (by_bytes q key)) as (λ b. is_eq (by_bytes q key) ≡ b
    → unwrap_or (cond b (Some (unwrap_or (maps.get m key) [] ++ c ∷ [])) (maps.get m q)) [] ≡ cond b
    (unwrap_or (maps.get m q) [] ++ c ∷ []) (unwrap_or (maps.get m q) [])) [
      | true ↦ λ t. ap (λ k. unwrap_or (maps.get m k) [] ++ c ∷ []) (sym (same_key q key (equal _ t)))
      | false ↦ λ f. refl
    ] refl

-- behind the last change nothing changes any more
pub given_beyond : (n v : ℕ) (x : Option (List ℕ)) (cs : List Change) → n ≤ v → All (λ c. c.version ≤ n) cs
    → fold (turned v) x cs ≡ fold (turned n) x cs
given_beyond n v x [] later up_to = refl
given_beyond n v x (c ∷ cs) later up_to =
    let low : c.version ≤ n = up_to 0 c (omega arith) in
    ap (λ b. fold (turned v) (cond b c.value x) cs) (le-leb c.version v (omega arith))
    ∙ given_beyond n v c.value cs later (λ k d within. up_to (suc k) d (omega arith))
    ∙ ap (λ b. fold (turned n) (cond b c.value x) cs) (sym (le-leb c.version n low))

-- a view changes nothing
pub stands-view : (s : Stock) (h : List Entry) (a n m : ℕ) → IsStoreOf s h → IsStoreOf s (h ++ View a n m ∷ [])
stands-view s h a n m stands = record {
  version = stands.version ∙ sym (ap length (messages_append h (View a n m ∷ [])) ∙ same_length (messages h));
  gives = λ v key low high. stands.gives v key low high ∙ ap (λ (x : Contents). maps.get x key)
      (sym (contents_prefix h (View a n m ∷ []) v (omega (arith, stands.version))));
}
  where
    same_length : (ms : List (List ℕ)) → length (ms ++ []) ≡ length ms
    same_length ms = omega (arith, length-append ms [])

-- how many messages there are once one more came
counts : (h : List Entry) (s i : ℕ) (b : List ℕ) → length (messages (h ++ Msg s i b ∷ [])) ≡ length (messages h) + 1
counts h s i b = ap length (messages_append h (Msg s i b ∷ [])) ∙ length-append (messages h) (b ∷ [])

-- what the changes give where one more came or not
branches : (b : Bool) (v : ℕ) (cs : List Change) (c : Change)
    → value_by v (cond b (cs ++ c ∷ []) cs) ≡ cond b (turned v (value_by v cs) c) (value_by v cs)
branches true v cs c = given-push v None cs c
branches false v cs c = refl

-- the store behind a message that asks for this
abbrev pub next_with : Stock → Option StoreCommand → Stock
next_with s command = record {
  changes = with_command s.changes (s.version + 1) command;
  version = s.version + 1;
  oldest = s.oldest;
}

module _ (s : Stock) (h : List Entry) (kept : HasNothingLater s) (stands : IsStoreOf s h) (sender i : ℕ)
    (b : List ℕ) where
  -- at a version that had come it gives what it gave
  before_next : (key : List ℕ) (v : ℕ) → s.oldest ≤ v → v ≤ s.version
      → value_at s key v ≡ maps.get (contents (h ++ Msg sender i b ∷ []) v) key
  before_next key v low high = stands.gives v key low high ∙ ap (λ (x : Contents). maps.get x key)
      (sym (contents_prefix h (Msg sender i b ∷ []) v (omega (arith, stands.version))))

  -- at the next version the earlier changes give what they gave at the last
  at_next : (key : List ℕ) → value_by (s.version + 1) (changes_at s key) ≡ maps.get (contents h s.version) key
  at_next key = given_beyond s.version (s.version + 1) None (changes_at s key) (omega arith) (kept.up_to key)
      ∙ stands.gives s.version key kept.come (omega arith)

  next_version : s.version + 1 ≡ length (messages (h ++ Msg sender i b ∷ []))
  next_version = ap (λ n. n + 1) stands.version ∙ sym (counts h sender i b)

  -- a message that is no command changes nothing
  stands-other : command_in b ≡ None → IsStoreOf (next_with s None) (h ++ Msg sender i b ∷ [])
  stands-other none = record {
    version = next_version;
    gives = λ v key low high. by_version v s.version high (before_next key v low)
        (λ new. ap (λ n. value_by n (changes_at s key)) new ∙ at_next key
        ∙ ap (λ x. maps.get (after_command (contents h s.version) x) key) (sym none)
        ∙ ap (λ (x : Contents). maps.get x key) (sym (contents_next h sender i b s.version stands.version))
        ∙ ap (λ n. maps.get (contents (h ++ Msg sender i b ∷ []) n) key) (sym new));
  }

  -- a command changes its key
  stands-command : (key : List ℕ) (value : Option (List ℕ)) → command_in b ≡ Some (key, value)
      → IsStoreOf (next_with s (Some (key, value))) (h ++ Msg sender i b ∷ [])
  stands-command key value is = record {
    version = next_version;
    gives = λ v q low high.
        let c : Change = record { version = s.version + 1; value = value } in
        let same = is_eq (by_bytes q key) in let cs = changes_at s q in
        ap (value_by v) (changes_with s.changes key c q) ∙ branches same v cs c ∙ by_version v s.version high
        (λ had. ap (λ x. cond same (cond x value (value_by v cs)) (value_by v cs))
        (lt-leb-false v s.version had) ∙ alike same (value_by v cs) ∙ before_next q v low had)
        (λ new. ap (λ x. cond same (cond x value (value_by v cs)) (value_by v cs))
        (le-leb (s.version + 1) v (omega arith)) ∙ ap (λ n. cond same value (value_by n cs)) new
        ∙ ap (cond same value) (at_next q) ∙ sym (get_changed (contents h s.version) key value q)
        ∙ ap (λ x. maps.get (after_command (contents h s.version) x) q) (sym is)
        ∙ ap (λ (x : Contents). maps.get x q) (sym (contents_next h sender i b s.version stands.version))
        ∙ ap (λ n. maps.get (contents (h ++ Msg sender i b ∷ []) n) q) (sym new));
  }

  stands-message : (command : Option StoreCommand) → command_in b ≡ command
      → IsStoreOf (next_with s command) (h ++ Msg sender i b ∷ [])
  stands-message None is = stands-other is
  stands-message (Some (key, value)) is = stands-command key value is

  -- the next message
  pub stands-next : IsStoreOf (next_with s (command_in b)) (h ++ Msg sender i b ∷ [])
  stands-next = stands-message (command_in b) refl

module _ (s : Stock) (kept : HasNothingLater s) where
  kept-other : HasNothingLater (next_with s None)
  kept-other = record {
    come = omega (arith, kept.come);
    up_to = λ key k d within. omega (arith, kept.up_to key k d within);
  }

  kept-command : (key : List ℕ) (value : Option (List ℕ)) → HasNothingLater (next_with s (Some (key, value)))
  kept-command key value = record {
    come = omega (arith, kept.come);
    up_to = λ q.
        let c : Change = record { version = s.version + 1; value = value } in
        let old : All (λ (x : Change). x.version ≤ s.version + 1) (changes_at s q) =
        λ k d within. omega (arith, kept.up_to q k d within) in
        subst (All (λ (x : Change). x.version ≤ s.version + 1)) (sym (changes_with s.changes key c q))
        (elim (is_eq (by_bytes q key)) as (λ b. All (λ (x : Change). x.version ≤ s.version + 1)
        (cond b (changes_at s q ++ c ∷ []) (changes_at s q))) [
          | true ↦ All-push (λ (x : Change). x.version ≤ s.version + 1) (changes_at s q) c old (omega arith)
          | false ↦ old
        ]);
  }

  pub kept-next : (command : Option StoreCommand) → HasNothingLater (next_with s command)
  kept-next None = kept-other
  kept-next (Some (key, value)) = kept-command key value

-- a new store
pub stands-new : IsStoreOf (record { changes = maps.empty; version = 0; oldest = 0 }) []
unfolding contents
stands-new = record {
  version = refl;
  gives = λ v key low high. ap (λ x. value_by v (unwrap_or x [])) (maps.get-empty by_bytes key)
      ∙ sym (ap (λ ms. maps.get (fold (λ m bytes. after_command m (command_in bytes)) (maps.empty {R = by_bytes}) ms)
      key) (take_all v [] (omega arith)) ∙ maps.get-empty by_bytes key);
}

pub kept-new : HasNothingLater (record { changes = maps.empty; version = 0; oldest = 0 })
kept-new = record {
  come = omega arith;
  up_to = λ key. subst (λ x. All (λ (c : Change). c.version ≤ 0) (unwrap_or x []))
      (sym (maps.get-empty by_bytes key)) (λ k d within. absurd (omega (arith, within)));
}

-- a store that answers has come to the version and not forgotten it
pub not_refused : (s : Stock) (v : ℕ) → refusal_at s v ≡ None → (s.oldest ≤ v) × (v ≤ s.version)
not_refused s v answers = elim (ltb s.version v) as (λ b. ltb s.version v ≡ b → cond b (Some (Ahead s.version))
    (cond (ltb v s.oldest) (Some (Forgotten s.oldest)) None) ≡ None → (s.oldest ≤ v) × (v ≤ s.version)) [
      | true ↦ λ _ e. absurd (cc e)
      | false ↦ λ come. elim (ltb v s.oldest) as (λ b. ltb v s.oldest ≡ b
          → cond b (Some (Forgotten s.oldest)) None ≡ None → (s.oldest ≤ v) × (v ≤ s.version)) [
            | true ↦ λ _ e. absurd (cc e)
            | false ↦ λ there _. (ltb-false v s.oldest there, ltb-false s.version v come)
          ] refl
    ] refl answers

-- two stores of which one stands for what the history of the other has become give alike
pub alike_at : (one other : Stock) (h more : List Entry) (v : ℕ) (key : List ℕ) → IsStoreOf one h
    → IsStoreOf other (h ++ more) → one.oldest ≤ v → v ≤ one.version → other.oldest ≤ v → v ≤ other.version
    → value_at one key v ≡ value_at other key v
alike_at one other h more v key for_one for_other low high low' high' = for_one.gives v key low high
    ∙ ap (λ (x : Contents). maps.get x key) (sym (contents_prefix h more v (omega (arith, for_one.version))))
    ∙ sym (for_other.gives v key low' high')

-- there are no more messages than entries
pub messages_few : (h : List Entry) → length (messages h) ≤ length h
messages_few [] = omega arith
messages_few (View a n m ∷ h) = omega (arith, messages_few h)
messages_few (Msg s i b ∷ h) = omega (arith, messages_few h)
