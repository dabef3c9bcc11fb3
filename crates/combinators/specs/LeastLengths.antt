-- "Least lengths for N text bytes, all texts together: 2N+12 bytes of text store, N of bracket store, 8N+64 numbers for rules and again for tokens"
use Rattle.std.specs.Prelude.{ℕ, ◌+◌, ◌*◌, ◌≤◌, Bool, leb}
use Rattle.combinators.specs.Choice.{and}

-- so much for each byte of text, and more
abbrev pub text_width : ℕ
text_width = 2

abbrev pub text_more : ℕ
text_more = 12

abbrev pub number_width : ℕ
number_width = 8

abbrev pub number_more : ℕ
number_more = 64

abbrev pub text_least : ℕ → ℕ
text_least n = text_width * n + text_more

abbrev pub bracket_least : ℕ → ℕ
bracket_least n = n

abbrev pub number_least : ℕ → ℕ
number_least n = number_width * n + number_more

-- stores of these lengths suffice for n bytes of text
unfoldable pub stores_suffice : ℕ → ℕ → ℕ → ℕ → ℕ → Bool
stores_suffice n rules tokens brackets texts =
    and (leb (text_least n) texts) (and (leb (bracket_least n) brackets) (and (leb (number_least n) rules) (leb (number_least n) tokens)))

-- the same, as a record of facts
pub record Least (n rules tokens brackets texts : ℕ) : Type 0 where
  pub for-texts : text_least n ≤ texts
  pub for-brackets : bracket_least n ≤ brackets
  pub for-rules : number_least n ≤ rules
  pub for-tokens : number_least n ≤ tokens
