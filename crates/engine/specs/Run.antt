-- What `hicsolmab_run` returns: the answer as a struct.
use Rattle.combinators.specs.Refusal.{refused_at}
use Rattle.styles.specs.Answer.{TextsAnswer}
use Rattle.engine.specs.declared.run.RunResult.{RunResult}

-- the answer that a struct tells; the text of a refusal is 0, since no sheet is read
unfoldable pub answer_in : RunResult → TextsAnswer
answer_in r = record { refusal = refused_at r.refusal r.place; texts = r.texts }
