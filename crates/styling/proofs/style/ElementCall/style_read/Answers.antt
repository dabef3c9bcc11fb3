-- The styles are made, the numbers of selectors are found, the path is gone down, its contents are moved to the start; all else is cleared.
use mathlib.Core.Path.{◌∙◌}
use borrow.Author.Rules.{rules}
use Rattle.styling.proofs.StyleTurns as laws
use Rattle.styling.proofs.style.ElementCall.style_read.Goals as goal

pub find_tops-ready-requires : goal.find_tops-ready-requires
find_tops-ready-requires c = record { row_lt_number_bound = c.args.self.now.row_lt_number_bound; sheets_tops_room = laws.find-room c.requires.read_room.held _ _ _ c.style_sheets-styled.ensures.value c.style_sheets-styled.ensures.tokens_after c.style_sheets-styled.ensures.texts_after }

pub style_path-fill-requires : goal.style_path-fill-requires
style_path-fill-requires c = record { steady = laws.now-steady c.requires.read_room.held _ _ _ c.style_sheets-styled.ensures.value c.style_sheets-styled.ensures.tokens_after c.style_sheets-styled.ensures.texts_after _ _ _ _ c.args.self.now.element.rooted _ _ c.find_tops-ready.ensures.value c.find_tops-ready.ensures.tokens_after; path_room = laws.now-room c.requires.read_room.held _ _ _ c.style_sheets-styled.ensures.value c.style_sheets-styled.ensures.tokens_after c.style_sheets-styled.ensures.texts_after _ _ _ _ c.args.self.now.element.rooted _ _ c.find_tops-ready.ensures.value c.find_tops-ready.ensures.tokens_after _ _ c.requires.read_room.path }

pub keep_contents-requires : goal.keep_contents-requires
keep_contents-requires c = record { inside = laws.contents-in c.requires.read_room.held _ _ _ c.style_sheets-styled.ensures.value c.style_sheets-styled.ensures.tokens_after c.style_sheets-styled.ensures.texts_after _ _ _ _ c.args.self.now.element.rooted _ _ c.find_tops-ready.ensures.value c.find_tops-ready.ensures.tokens_after c.args.self.now.call.settings _ _ c.style_path-fill.ensures.value _ c.requires.read_room.path c.style_path-fill.new.stores.texts.now c.style_path-fill.ensures.kept.lengths.texts }

pub returns : goal.returns
returns c =
    let a = c.args in
    let path = c.style_path-fill.ensures in
    let t = laws.read_left c.requires.read_room.held _ _ _ c.style_sheets-styled.ensures.value c.style_sheets-styled.ensures.tokens_after c.style_sheets-styled.ensures.texts_after _ _ _ _ c.args.self.now.element.rooted _ _ c.find_tops-ready.ensures.value c.find_tops-ready.ensures.tokens_after a.self.now.call.cascade a.self.now.call.settings _ _ c.requires.read_room.path a.out.now _ path.out_after _ path.value _ path.kept.lengths.texts c.style_sheets-styled.auto.texts path.texts_after _ c.keep_contents.ensures _ _ _ _ _ _
    path.kept.lengths.rules c.clear_work.ensures.rules_after (path.kept.lengths.tokens ∙ c.find_tops-ready.auto.tokens ∙ c.style_sheets-styled.auto.tokens) c.clear_work.ensures.tokens_after path.kept.lengths.brackets c.clear_work.ensures.brackets_after in
    record {
      same = search rules;
      out_after = t.0;
      value = t.1.0;
      texts_after = search (rules, t.1.1.0);
      rules_after = search (rules, t.1.1.1.0);
      tokens_after = search (rules, t.1.1.1.1.0);
      brackets_after = search (rules, t.1.1.1.1.1);
    }
