-- What `hicsolmab_compile` returns: the numbers of an answer as a struct.
use Rattle.combinators.specs.Refusal.{refused_in}
use Rattle.compiler.specs.declared.answers.CompileNumbers.{CompileNumbers}
use Rattle.engine.specs.declared.compile.CompileResult.{CompileResult}

-- the numbers that a struct tells: "No exported function may have a contract silent on its result."
unfoldable pub numbers_in : CompileResult → CompileNumbers
numbers_in r = record { refusal = refused_in r.refusal r.text r.place; bytes = r.bytes; texts = r.texts }
