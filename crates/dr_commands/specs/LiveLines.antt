-- What is said of senders.
use Rattle.std.specs.{Fmt.decimal, List.{concat, enumerate_from, flat_map}, Prelude.{ℕ, List, [], ◌∷◌, length, codes}}
use Rattle.dr_entry.specs.declared.{end.AgeEnd.AgeEnd, entry.Entry.Entry}
use Rattle.dr_history.specs.Order.{messages_from}
use Rattle.dr_summary.specs.Histories.{longest}

-- the line of a sender: how many messages it has pushed, and how many of them are delivered
abbrev pub sender_line : ℕ → ℕ → ℕ → List ℕ
sender_line number pushed delivered =
    concat
    (codes "member " ∷ decimal number ∷ codes " pushed " ∷ decimal pushed ∷ codes " delivered "
    ∷ decimal delivered ∷ codes "\n" ∷ [])

-- the longest history of the last of these ages
abbrev pub last_history : List AgeEnd → List Entry
last_history [] = []
last_history (age ∷ []) = longest age.members
last_history (age ∷ next ∷ ages) = last_history (next ∷ ages)

-- the lines of the senders of these messages, numbered from 0, by what a history has
abbrev pub senders_text : List (List (List ℕ)) → List Entry → List ℕ
senders_text pushed history =
    flat_map (λ t. sender_line t.0 (length t.1) (length (messages_from t.0 history))) (enumerate_from 0 pushed)

-- what is said of these senders behind these ages
abbrev pub live_text : List (List (List ℕ)) → List AgeEnd → List ℕ
live_text pushed ages = senders_text pushed (last_history ages)
