-- Without styles nothing is written; with some, all selectors of the rule.
use mathlib.Core.Path.{refl}
use Rattle.compiler.proofs.RuleWriting as laws
use Rattle.compiler.proofs.rules.emit_styled.Goals as goal

pub returns-then-given-eq0 : goal.returns-then-given-eq0
returns-then-given-eq0 c = let a = c.args in
    record {
      same_store = refl;
      written = laws.styled-none a.rows.numbers.now a.at a.given.origin a.given.styles.numbers.now a.given.count a.given.styles.texts.now a.rows.texts.now c.if-given-eq0.true _;
    }

pub returns : goal.returns
returns c = let a = c.args in
    record {
      same_store = c.emit_selectors.ensures.same_store;
      written =
          laws.styled-all a.rows.numbers.now a.at a.given.origin a.given.styles.numbers.now a.given.count a.given.styles.texts.now a.rows.texts.now c.if-given-eq0.false _ c.number_at-selectors.ensures c.forward-first.result
          c.forward-first.ensures.rows_value _ _ c.emit_selectors.ensures.written;
    }
