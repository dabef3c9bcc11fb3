-- The numbers of the agent's selectors, of the user's behind them, and of the author's behind those.
use Rattle.path_styles.proofs.TopsLaws as laws
use Rattle.path_styles.proofs.tops.find_tops.Goals as goal

pub find_sheet_tops-user-requires : goal.find_sheet_tops-user-requires
find_sheet_tops-user-requires c =
    let a = c.args in
    record {
      texts_in = c.requires.sheets_tops_room.agent-in;
      tops_room = laws.agent-room a.element.page.nodes.now a.element.page.attributes.now a.element.page.text.now a.element.row _ _ _ _ c.requires.sheets_tops_room;
    }

pub find_sheet_tops-author-requires : goal.find_sheet_tops-author-requires
find_sheet_tops-author-requires c =
    let a = c.args in
    record {
      texts_in = c.requires.sheets_tops_room.user-in;
      tops_room = laws.user-room a.element.page.nodes.now a.element.page.attributes.now a.element.page.text.now a.element.row _ _ _ _ c.requires.sheets_tops_room _ _ c.find_sheet_tops-user.ensures.tokens_after c.find_sheet_tops-user.ensures.value;
    }

pub find_sheet_tops-behind-requires : goal.find_sheet_tops-behind-requires
find_sheet_tops-behind-requires c =
    let a = c.args in
    record {
      texts_in = c.requires.sheets_tops_room.author-in;
      tops_room = laws.author-room a.element.page.nodes.now a.element.page.attributes.now a.element.page.text.now a.element.row _ _ _ _ c.requires.sheets_tops_room _ _ c.find_sheet_tops-user.ensures.tokens_after c.find_sheet_tops-user.ensures.value _ _ c.find_sheet_tops-author.ensures.tokens_after c.find_sheet_tops-author.ensures.value;
    }

pub returns : goal.returns
returns c = let t : goal.returns-raw c = let a = c.args in
    (laws.places-ready a.element.page.nodes.now a.element.page.attributes.now a.element.page.text.now a.element.row _ _ _ _ c.requires.sheets_tops_room _ _ c.find_sheet_tops-user.ensures.tokens_after c.find_sheet_tops-user.ensures.value _ _ c.find_sheet_tops-author.ensures.tokens_after c.find_sheet_tops-author.ensures.value _ c.find_sheet_tops-behind.ensures.value _ c.ready_sheets.ensures, laws.tops-stored a.element.page.nodes.now a.element.page.attributes.now a.element.page.text.now a.element.row _ _ _ _ c.requires.sheets_tops_room _ _ c.find_sheet_tops-user.ensures.tokens_after c.find_sheet_tops-user.ensures.value _ _ c.find_sheet_tops-author.ensures.tokens_after c.find_sheet_tops-author.ensures.value _ c.find_sheet_tops-behind.ensures.tokens_after) in record { value = t.0; tokens_after = t.1 }
