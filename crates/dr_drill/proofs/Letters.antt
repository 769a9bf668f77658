-- The letters that the generator gives, one after the other.
use Rattle.std.specs.{List.range_with_len, Prelude.map}
use Rattle.std.proofs.Common.{◌≡◌, ℕ, zero, suc, ◌+◌, ◌*◌, ◌<◌, ◌/◌, ◌^◌, get_or, mod-lt, List, [], ◌∷◌, ◌++◌, length, refl, ap, sym, ◌∙◌, arith}
use Rattle.std.proofs.lemmas.List.FromFn.{fill_by_all, map-range_with_len_more}
use Rattle.dr_entry.proofs.{ListFacts.same_map, NumberFacts.moved}
use Rattle.dr_program.specs.Schedule.{choice_of, next_state}
use Rattle.dr_drill.specs.Drill.{letter, message, messages_of_member, state_after}

-- the states go on from each
pub state_after-add : (x a b : ℕ) → state_after (state_after x a) b ≡ state_after x (a + b)
unfolding state_after
state_after-add x a zero = moved (state_after x) a (a + zero) (omega arith)
state_after-add x a (suc b) = ap next_state (state_after-add x a b)
    ∙ moved (state_after x) (suc (a + b)) (a + suc b) (omega arith)

pub state_after-next : (x n : ℕ) → next_state (state_after x n) ≡ state_after x (n + 1)
unfolding state_after
state_after-next x n = moved (state_after x) (suc n) (n + 1) (omega arith)

-- some more choices, one, 32 and all of a member's
pub state_more : (x y a n : ℕ) → y ≡ state_after x a → state_after y n ≡ state_after x (a + n)
state_more x y a n is = ap (λ s. state_after s n) is ∙ state_after-add x a n

pub state_one : (x y n : ℕ) → y ≡ state_after x n → next_state y ≡ state_after x (n + 1)
state_one x y n is = ap next_state is ∙ state_after-next x n

pub state_after-none : (x : ℕ) → x ≡ state_after x 0
unfolding state_after
state_after-none x = refl

-- and so do the letters
pub letter-add : (x a n : ℕ) → letter (state_after x a) n ≡ letter x (a + n)
unfolding letter
letter-add x a n = ap (λ s. 97 + choice_of (next_state s) 26) (state_after-add x a n)

pub message-add : (x k j : ℕ) → message (state_after x (32 * k)) j ≡ message x (k + j)
unfolding message
message-add x k j = same_map (letter (state_after x (32 * k))) (letter x) (32 * j) (32 * (k + j)) 32
    (λ i. letter-add x (32 * k) (32 * j + i)
    ∙ moved (letter x) (32 * k + (32 * j + i)) (32 * (k + j) + i) (omega arith))

pub messages-add : (x m j : ℕ) → messages_of_member (state_after x (32 * 400 * m)) j ≡ messages_of_member x (m + j)
unfolding messages_of_member
messages-add x m j = same_map (message (state_after x (32 * 400 * m))) (message x) (400 * j) (400 * (m + j)) 400
    (λ k. moved (λ n. message (state_after x n) (400 * j + k)) (32 * 400 * m) (32 * (400 * m)) (omega arith)
    ∙ message-add x (400 * m) (400 * j + k)
    ∙ moved (message x) (400 * m + (400 * j + k)) (400 * (m + j) + k) (omega arith))

pub letter-most : (x n : ℕ) → letter x n < 123
unfolding letter
letter-most x n =
    let below : choice_of (next_state (state_after x n)) 26 < 26 =
    mod-lt (next_state (state_after x n) / 2 ^ 33) (omega arith) in
    omega (arith, below)

-- a message of all its letters
pub message_filled : (x : ℕ) (bytes : List ℕ) → length bytes ≡ 32
    → ((k : ℕ) → k < 32 → get_or bytes k 0 ≡ letter x k) → bytes ≡ message x 0
unfolding message
message_filled x bytes long all = fill_by_all (letter x) bytes 32 0 long all

-- one more message
pub message_more : (x n : ℕ) → map (message x) (range_with_len 0 (n + 1)) ≡ map (message x) (range_with_len 0 n)
    ++ message (state_after x (32 * n)) 0 ∷ []
message_more x n = map-range_with_len_more (message x) 0 n n (omega arith) ∙ ap (λ m. map
    (message x) (range_with_len 0 n) ++ m ∷ []) (moved (message x) n (n + 0) (omega arith) ∙ sym (message-add x n 0))

pub messages_whole : (x : ℕ) → messages_of_member x 0 ≡ map (message x) (range_with_len 0 400)
unfolding messages_of_member
messages_whole x = refl

-- and the messages of one more member
pub messages_more : (x n : ℕ)
    → map (messages_of_member x) (range_with_len 0 (n + 1)) ≡ map (messages_of_member x) (range_with_len 0 n) ++ messages_of_member
    (state_after x (32 * 400 * n)) 0 ∷ []
messages_more x n = map-range_with_len_more (messages_of_member x) 0 n n (omega arith)
    ∙ ap (λ m. map (messages_of_member x) (range_with_len 0 n) ++ m ∷ []) (moved (messages_of_member x) n (n + 0) (omega arith)
    ∙ sym (messages-add x n 0))
