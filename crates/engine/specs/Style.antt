-- What `hicsolmab_style` and `hicsolmab_style_book` are told and return: the switch as a number, and the answer as a struct.
use Rattle.std.specs.Prelude.{ℕ, true, false}
use Rattle.combinators.specs.Choice.{pick, is}
use Rattle.combinators.specs.Refusal.{refused_in}
use Rattle.styles.specs.declared.settings.Settings.{Settings}
use Rattle.styles.specs.Answer.{TextsAnswer}
use Rattle.engine.specs.declared.style.StyleResult.{StyleResult}

-- 0 is off, all else on
abbrev pub switch_off : ℕ
switch_off = 0

unfoldable pub settings_from : ℕ → Settings
settings_from switch = record { document_styles = pick (is switch switch_off) false true }

-- the answer that a struct tells
unfoldable pub answer_in : StyleResult → TextsAnswer
answer_in r = record { refusal = refused_in r.refusal r.text r.place; texts = r.texts }
