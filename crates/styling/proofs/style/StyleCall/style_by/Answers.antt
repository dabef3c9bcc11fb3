-- The refusals in their order; behind those of what is lent, sheets, page and row are looked at.
use Rattle.styling.specs.StyleAnswer.{call_bytes}
use Rattle.styling.proofs.StyleCalls as laws
use Rattle.styling.proofs.style.StyleCall.style_by.Goals as goal

pub returns-then-any_too_long-clause-left : goal.returns-then-any_too_long-clause-left
returns-then-any_too_long-clause-left c = let a = c.args in
    laws.too_long_lem a.self.now.cascade a.self.now.settings (record { agent = a.self.now.sheets.agent.now; user = a.self.now.sheets.user.now; author = a.self.now.sheets.author.now }) (record { nodes = a.page.nodes.now; attributes = a.page.attributes.now; text = a.page.text.now }) a.row a.out.now a.stores.now.texts.now a.stores.now.rules.now a.stores.now.tokens.now a.stores.now.brackets.now c.any_too_long.ensures c.if-any_too_long.true laws.told-too-long (laws.refused-numbers _)

pub lent_suffices-requires : goal.lent_suffices-requires
lent_suffices-requires c = let a = c.args in laws.few_bytes a.self.now.cascade a.self.now.settings (record { agent = a.self.now.sheets.agent.now; user = a.self.now.sheets.user.now; author = a.self.now.sheets.author.now }) (record { nodes = a.page.nodes.now; attributes = a.page.attributes.now; text = a.page.text.now }) a.row a.out.now a.stores.now.texts.now a.stores.now.rules.now a.stores.now.tokens.now a.stores.now.brackets.now c.any_too_long.ensures c.if-any_too_long.false

pub style_asked-requires : goal.style_asked-requires
unfolding call_bytes
style_asked-requires c = let a = c.args in
    laws.asked-lent a.self.now.cascade a.self.now.settings (record { agent = a.self.now.sheets.agent.now; user = a.self.now.sheets.user.now; author = a.self.now.sheets.author.now }) (record { nodes = a.page.nodes.now; attributes = a.page.attributes.now; text = a.page.text.now }) a.row a.out.now a.stores.now.texts.now a.stores.now.rules.now a.stores.now.tokens.now a.stores.now.brackets.now c.any_too_long.ensures c.if-any_too_long.false c.lent_suffices.ensures c.if-not-lent_suffices.false

pub returns-clause-left : goal.returns-clause-left
returns-clause-left c = c.style_asked.ensures.left

pub returns-then-not-lent_suffices-clause-left : goal.returns-then-not-lent_suffices-clause-left
unfolding call_bytes
returns-then-not-lent_suffices-clause-left c = let a = c.args in
    laws.short-store a.self.now.cascade a.self.now.settings (record { agent = a.self.now.sheets.agent.now; user = a.self.now.sheets.user.now; author = a.self.now.sheets.author.now }) (record { nodes = a.page.nodes.now; attributes = a.page.attributes.now; text = a.page.text.now }) a.row a.out.now a.stores.now.texts.now a.stores.now.rules.now a.stores.now.tokens.now a.stores.now.brackets.now c.any_too_long.ensures c.if-any_too_long.false c.lent_suffices.ensures c.if-not-lent_suffices.true laws.told-short-store (laws.refused-numbers _)
