-- What the words of the table pack, and the parts that they give back.
use Rattle.std.specs.Prelude.{ℕ, ◌+◌, ◌*◌, ◌/◌, ◌%◌, ◌^◌, ◌==◌, Bool, if◌then◌else◌}

-- ring words: a piece of item k, with a tag that is k + 1, or 0 for none
abbrev pub ring_word : ℕ → ℕ → ℕ
ring_word k low = (k + 1) * 2 ^ 32 + low

abbrev pub ring_tag : ℕ → ℕ
ring_tag word = word / 2 ^ 32

abbrev pub ring_low : ℕ → ℕ
ring_low word = word % 2 ^ 32

-- recv words: how many items of a sender were received, and whether that is final
abbrev pub recv_word : ℕ → Bool → ℕ
recv_word count final = 2 * count + (if final then 1 else 0)

abbrev pub recv_count : ℕ → ℕ
recv_count word = word / 2

abbrev pub is_final : ℕ → Bool
is_final word = word % 2 == 1

-- accept words: a promise, the tag of an accepted proposal, and a part of its value
abbrev pub accept_word : ℕ → ℕ → ℕ → ℕ
accept_word promise tag value = promise * 2 ^ 56 + tag * 2 ^ 48 + value

abbrev pub accept_promise : ℕ → ℕ
accept_promise word = word / 2 ^ 56

abbrev pub accept_tag : ℕ → ℕ
accept_tag word = word / 2 ^ 48 % 2 ^ 8

abbrev pub accept_value : ℕ → ℕ
accept_value word = word % 2 ^ 48
