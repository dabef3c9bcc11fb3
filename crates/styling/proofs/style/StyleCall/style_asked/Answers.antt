-- The sheets are no UTF-8, the page is refused, the row is no element, or the element is styled.
use mathlib.Core.Path.{refl, sym, ◌∙◌}
use Rattle.styling.proofs.StyleCalls as laws
use Rattle.styling.proofs.style.StyleCall.style_asked.Goals as goal

pub invariant_of-element : goal.invariant_of-element
invariant_of-element c =
    let a = c.args in
    let e = laws.page-passed c.in_ok-check_page.was c.check_page.ensures in
    record { rooted = laws.rooted a.self.now.cascade a.self.now.settings (record { agent = a.self.now.sheets.agent.now; user = a.self.now.sheets.user.now; author = a.self.now.sheets.author.now }) (record { nodes = a.page.nodes.now; attributes = a.page.attributes.now; text = a.page.text.now }) a.row a.out.now a.stores.now.texts.now a.stores.now.rules.now a.stores.now.tokens.now a.stores.now.brackets.now c.requires e refl c.is_element.ensures c.if-not-is_element.false }

pub invariant_of-asked : goal.invariant_of-asked
invariant_of-asked c =
    let a = c.args in
    let e = laws.page-passed c.in_ok-check_page.was c.check_page.ensures in
    record { row_lt_number_bound = laws.few-rows a.self.now.cascade a.self.now.settings (record { agent = a.self.now.sheets.agent.now; user = a.self.now.sheets.user.now; author = a.self.now.sheets.author.now }) (record { nodes = a.page.nodes.now; attributes = a.page.attributes.now; text = a.page.text.now }) a.row a.out.now a.stores.now.texts.now a.stores.now.rules.now a.stores.now.tokens.now a.stores.now.brackets.now c.requires e refl c.is_element.ensures c.if-not-is_element.false }

pub style_in_front-requires : goal.style_in_front-requires
style_in_front-requires c =
    let a = c.args in
    let e = laws.page-passed c.in_ok-check_page.was c.check_page.ensures in
    record {
      lent = laws.lent a.self.now.cascade a.self.now.settings (record { agent = a.self.now.sheets.agent.now; user = a.self.now.sheets.user.now; author = a.self.now.sheets.author.now }) (record { nodes = a.page.nodes.now; attributes = a.page.attributes.now; text = a.page.text.now }) a.row a.out.now a.stores.now.texts.now a.stores.now.rules.now a.stores.now.tokens.now a.stores.now.brackets.now c.requires e refl c.is_element.ensures c.if-not-is_element.false;
      call_lent = laws.call-lent a.self.now.cascade a.self.now.settings (record { agent = a.self.now.sheets.agent.now; user = a.self.now.sheets.user.now; author = a.self.now.sheets.author.now }) (record { nodes = a.page.nodes.now; attributes = a.page.attributes.now; text = a.page.text.now }) a.row a.out.now a.stores.now.texts.now a.stores.now.rules.now a.stores.now.tokens.now a.stores.now.brackets.now c.requires e refl c.is_element.ensures c.if-not-is_element.false;
    }

pub returns-clause-left : goal.returns-clause-left
returns-clause-left c = let a = c.args in
    let e = laws.page-passed c.in_ok-check_page.was c.check_page.ensures in
    laws.asked a.self.now.cascade a.self.now.settings (record { agent = a.self.now.sheets.agent.now; user = a.self.now.sheets.user.now; author = a.self.now.sheets.author.now }) (record { nodes = a.page.nodes.now; attributes = a.page.attributes.now; text = a.page.text.now }) a.row a.out.now a.stores.now.texts.now a.stores.now.rules.now a.stores.now.tokens.now a.stores.now.brackets.now c.requires e refl c.is_element.ensures c.if-not-is_element.false (sym c.all_valid.ensures ∙ c.if-not-all_valid.false) c.style_in_front.ensures.left

pub returns-then-not-is_element-clause-left : goal.returns-then-not-is_element-clause-left
returns-then-not-is_element-clause-left c = let a = c.args in
    let e = laws.page-passed c.in_ok-check_page.was c.check_page.ensures in
    laws.no-element a.self.now.cascade a.self.now.settings (record { agent = a.self.now.sheets.agent.now; user = a.self.now.sheets.user.now; author = a.self.now.sheets.author.now }) (record { nodes = a.page.nodes.now; attributes = a.page.attributes.now; text = a.page.text.now }) a.row a.out.now a.stores.now.texts.now a.stores.now.rules.now a.stores.now.tokens.now a.stores.now.brackets.now c.requires e refl c.is_element.ensures c.if-not-is_element.true (sym c.all_valid.ensures ∙ c.if-not-all_valid.false) laws.told-no-element (laws.refused-numbers _)

pub returns-in_err-check_page-clause-left : goal.returns-in_err-check_page-clause-left
returns-in_err-check_page-clause-left c =
    let a = c.args in
    laws.page-answered a.self.now.cascade a.self.now.settings (record { agent = a.self.now.sheets.agent.now; user = a.self.now.sheets.user.now; author = a.self.now.sheets.author.now }) (record { nodes = a.page.nodes.now; attributes = a.page.attributes.now; text = a.page.text.now }) a.row a.out.now a.stores.now.texts.now a.stores.now.rules.now a.stores.now.tokens.now a.stores.now.brackets.now c.requires
    c.in_err-check_page.was c.check_page.ensures (sym c.all_valid.ensures ∙ c.if-not-all_valid.false) _ c.from_residual.ensures.1

pub returns-then-not-all_valid-clause-left : goal.returns-then-not-all_valid-clause-left
returns-then-not-all_valid-clause-left c = let a = c.args in
    laws.not-utf8 a.self.now.cascade a.self.now.settings (record { agent = a.self.now.sheets.agent.now; user = a.self.now.sheets.user.now; author = a.self.now.sheets.author.now }) (record { nodes = a.page.nodes.now; attributes = a.page.attributes.now; text = a.page.text.now }) a.row a.out.now a.stores.now.texts.now a.stores.now.rules.now a.stores.now.tokens.now a.stores.now.brackets.now c.requires c.all_valid.ensures c.if-not-all_valid.true laws.told-not-utf8 (laws.refused-numbers _)
