-- What `hicsolmab_read_sheet` returns: the numbers of an answer as a struct.
use Rattle.combinators.specs.Refusal.{refused_at}
use Rattle.sheets.specs.declared.answers.SheetNumbers.{SheetNumbers}
use Rattle.engine.specs.declared.sheet.SheetResult.{SheetResult}

-- the numbers that a struct tells; the text of a refusal is 0, since there is one text
unfoldable pub numbers_in : SheetResult → SheetNumbers
numbers_in r = record { refusal = refused_at r.refusal r.place; count = r.count; stop = r.stop; numbers = r.numbers; bytes = r.bytes }
