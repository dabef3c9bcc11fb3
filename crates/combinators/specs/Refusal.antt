-- The refusals of documents 01 and 02, in the order in which they are looked for: "The lowest number that applies is returned, 4 counting as above
-- 9 and below 10, with a place counted from 0"; "12, after 11", which stands behind 4.
use Rattle.std.specs.Prelude.{ℕ, ◌≡◌, Result, Ok, Err}
use Rattle.combinators.specs.declared.refusals.Refusal.{Refusal}

-- nothing is refused
abbrev pub no_refusal : Refusal
no_refusal = record { number = 0; text = 0; place = 0 }

-- a refusal without a place: "otherwise 0"
abbrev pub refused : ℕ → Refusal
refused number = record { number = number; text = 0; place = 0 }

-- with one
abbrev pub refused_at : ℕ → ℕ → Refusal
refused_at number place = record { number = number; text = 0; place = place }

-- with the text that it is in
abbrev pub refused_in : ℕ → ℕ → ℕ → Refusal
refused_in number which place = record { number = number; text = which; place = place }

-- what an answer stands for that tells nothing but an error: no refusal, or the one that the error gives
unfoldable pub Refuses : {E : Type 0} → (E → Refusal → Type 0) → Result Unit E → Refusal → Type 0
Refuses gives (Ok accepted) refusal = refusal ≡ no_refusal
Refuses gives (Err error) refusal = gives error refusal

-- ---- the numbers: "An engine that turns every sheet down fails 1, since refusals have fixed conditions."
-- "a sheet over 32,768 bytes or compiled bytes over 65,536"; no place
abbrev pub too_long : ℕ
too_long = 1

-- "a lent buffer too short"; no place
abbrev pub short_store : ℕ
short_store = 2

-- "not UTF-8", a sheet; no place
abbrev pub not_utf8 : ℕ
not_utf8 = 3

-- "over 4,096 nodes, 16,384 attributes or 65,536 name bytes lent, or a number list that is no whole count of rows"; no place
abbrev pub too_large : ℕ
too_large = 5

-- "a row against the rules above, or no row at all"; "the first such node row", and 0 where there is none
abbrev pub bad_row : ℕ
bad_row = 6

-- "a name or value outside the text, or not UTF-8"; "the first such node row"
abbrev pub bad_text : ℕ
bad_text = 7

-- "the asked row is no element or beyond the page"; no place
abbrev pub no_element : ℕ
no_element = 8

-- "the bytes do not read as a sheet to their last byte"; "the byte where the failing number or text starts, or the first byte left over"
abbrev pub bad_bytes : ℕ
bad_bytes = 9

-- "the crate panics while reading"; "the text (0 agent, 1 user, 2 author; 0 in a call with one text ..) and the byte .. of the first digit of the
-- number". S-6: "Refusal 4 remains for nth-child digits alone."
abbrev pub panic : ℕ
panic = 4

-- S-8: "a value that is a number with one of the eight units and has five or more decimals, is above 10,000 or is below zero; place at the number,
-- its sign included"
abbrev pub bad_length : ℕ
bad_length = 12

-- "the compiled sheet would exceed its buffer or 65,536 bytes"; no place
abbrev pub no_room : ℕ
no_room = 10
