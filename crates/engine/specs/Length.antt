-- What `hicsolmab_height_length` returns: the numbers of an answer as a struct.
use Rattle.combinators.specs.Refusal.{refused_at}
use Rattle.lengths.specs.declared.answers.LengthNumbers.{LengthNumbers}
use Rattle.engine.specs.declared.length.LengthResult.{LengthResult}

-- the numbers that a struct tells; the text of a refusal is 0, since there is one text
unfoldable pub numbers_in : LengthResult → LengthNumbers
numbers_in r = record { refusal = refused_at r.refusal r.place; kind = r.kind; amount = r.amount }
