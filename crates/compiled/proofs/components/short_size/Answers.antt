-- A kind alone and a kind with a text are told by their bytes; of anything else nothing is told.
use native.Mathlib.Omega.{arith}
use mathlib.Core.Path.{◌∙◌}
use Rattle.combinators.proofs.Rules.{told}
use Rattle.compiled.proofs.ShortCode as laws
use Rattle.compiled.proofs.components.short_size.Goals as goal

pub returns-then-is_mark : goal.returns-then-is_mark
returns-then-is_mark c = let k = c.in_ok-get.ensures.lookup.3 in laws.short-mark _ _ k.0 _ (c.from-kind.ensures ∙ k.1 0) (told _ _ _ c.is_mark.ensures c.if-is_mark.true)

pub returns-then-size-s : goal.returns-then-size-s
returns-then-size-s c =
    let k = c.in_ok-get.ensures.lookup.3 in
    laws.short-name _ _ k.0 _ (c.from-kind.ensures ∙ k.1 0) (told _ _ _ c.is_name.ensures c.if-is_name.true) _ (c.from-size.ensures ∙ c.in_ok-length.ensures.lookup.3.1 0) (let e = c.from.ensures in let f = c.from-size.ensures in omega arith) c.if-size-s.true
