-- A string token is the text; any other token's text is wiped, and where none begins the store is as it was.
use mathlib.Core.Path.{◌∙◌}
use borrow.Enum.Refused.{opened}
use Rattle.selectors.proofs.AttrLaws as laws
use Rattle.selectors.proofs.attr.parse_quoted_string.Goals as goal

pub returns-in_err-read : goal.returns-in_err-read
returns-in_err-read c = let t = laws.string-none _ _ _ _ _ (c.parse_string_token.ensures.value, c.parse_string_token.ensures.store_after) c.in_err-read.was in record { value = c.from_residual.ensures ∙ t.0; store_after = t.1 }

pub returns-in_default : goal.returns-in_default
returns-in_default c = let t : goal.returns-in_default-raw c = laws.string-wiped _ _ _ _ _ (c.parse_string_token.ensures.value, c.parse_string_token.ensures.store_after) _ _ c.in_ok-read.was (opened c.in_default.in_default-own.keys2) c.requires.zeros _ c.fill_part.ensures in record { value = t.0; store_after = t.1 }

pub returns : goal.returns
returns c = let t : goal.returns-raw c = laws.string-read _ _ _ _ _ (c.parse_string_token.ensures.value, c.parse_string_token.ensures.store_after) _ _ c.in_ok-read.was _ c.in-String.is in record { value = t.0; store_after = t.1 }
