-- Bytes that are too many are refused; the others are answered as the check of a sheet answers, in numbers.
use Rattle.comparison.proofs.BytesResults as results
use Rattle.comparison.proofs.bytes.comparison_check_bytes.Goals as goal

pub returns-then-bytes-gt-COMPILED_LIMIT : goal.returns-then-bytes-gt-COMPILED_LIMIT
returns-then-bytes-gt-COMPILED_LIMIT c = results.too_long_lem _ _ c.into.ensures c.refused.ensures c.if-bytes-gt-COMPILED_LIMIT.true

pub returns-else-bytes-gt-COMPILED_LIMIT : goal.returns-else-bytes-gt-COMPILED_LIMIT
returns-else-bytes-gt-COMPILED_LIMIT c = results.bytes_read _ _ c.into-else-bytes-gt-COMPILED_LIMIT.ensures _ c.if-bytes-gt-COMPILED_LIMIT.false (results.refusal-of _ c.refusal_of.ensures) c.check_sheet.ensures.result_value
