-- What `comparison_check_bytes` returns: the refusal of bytes as a struct of numbers.
use Rattle.std.specs.Prelude.{ℕ, List, ltb, length}
use Rattle.combinators.specs.Choice.{pick}
use Rattle.combinators.specs.Refusal.{refused, refused_at, too_long}
use Rattle.combinators.specs.declared.refusals.Refusal.{Refusal}
use Rattle.compiled.specs.Answer.{bytes_refusal}
use Rattle.compiled.specs.Sheet.{compiled_limit}
use Rattle.comparison.specs.declared.bytes.BytesResult.{BytesResult}

-- the struct of a refusal
unfoldable pub bytes_result : Refusal → BytesResult
bytes_result r = record { refusal = r.number; place = r.place }

-- the refusal that a struct tells
unfoldable pub refusal_in : BytesResult → Refusal
refusal_in r = refused_at r.refusal r.place

-- "1 .. compiled bytes over 65,536"; "9 the bytes do not read as a sheet to their last byte"
unfoldable pub bytes_called : List ℕ → Refusal
bytes_called t = pick (ltb compiled_limit (length t)) (refused too_long) (bytes_refusal t)
