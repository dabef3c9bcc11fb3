-- What is written so far and the escaped rest of the text are the escaped text.
use Rattle.std.proofs.Common.{◌≡◌, List, ℕ, Bool, ◌++◌, IsUtf8}
use Rattle.std.specs.Fmt.{HasWritten, IsPlainFormatter}
use Rattle.std.specs.Str.Iter.{chars_rest}
use Rattle.streams.specs.Printed.{IsTest, escaped}
use Rattle.streams.proofs.write_escaped.Given as goal

abbrev pub invariant-loop-c : goal.invariant-loop-c
invariant-loop-c g l =
    IsUtf8 (chars_rest l.c-iterator)
    × ((plain : ℕ → Bool) → IsTest g.F.Fn l.stands plain → IsPlainFormatter l.fn.f
    → (done : List ℕ) × HasWritten g.W.Write.write_str_gives l.fn.f done l.f × (done ++ escaped plain (chars_rest l.c-iterator) ≡ escaped plain l.fn.text))
