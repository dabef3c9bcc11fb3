-- The value is shifted, and the importance is that of the cascade.
use Rattle.attributes.proofs.InlineLaws.{inline-made}
use borrow.Author.Rules.{rules}
use Rattle.attributes.proofs.inline.inline_style.Goals as goal

pub returns : goal.returns
returns c = search (rules, inline-made)
