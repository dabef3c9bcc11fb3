-- The styles of each sheet lie behind those of the one before, its contents likewise, behind the place where the texts end.
use mathlib.Core.Path.{refl}
use borrow.Author.Rules.{rules}
use Rattle.rule_styles.proofs.SheetsStyled as styled
use Rattle.rule_styles.proofs.SheetsHeldLaws as laws
use Rattle.rule_styles.proofs.styled.style_sheets.Goals as goal

pub split_at_mut-text-requires : goal.split_at_mut-text-requires
split_at_mut-text-requires c = laws.end_in c.requires

pub slice_bounds-own-count : goal.slice_bounds-own-count
slice_bounds-own-count c = search (rules, laws.agent-in c.requires c.split_at_mut-text.ensures.front c.split_at_mut-text.ensures.back)

pub slice_bounds-own-start : goal.slice_bounds-own-start
slice_bounds-own-start c = search (rules, laws.agent-in c.requires c.split_at_mut-text.ensures.front c.split_at_mut-text.ensures.back)

pub slice_bounds-own-count-2 : goal.slice_bounds-own-count-2
slice_bounds-own-count-2 c = search (rules, laws.user-in c.requires c.split_at_mut-text.ensures.front c.split_at_mut-text.ensures.back)

pub slice_bounds-own-start-2 : goal.slice_bounds-own-start-2
slice_bounds-own-start-2 c = search (rules, laws.user-in c.requires c.split_at_mut-text.ensures.front c.split_at_mut-text.ensures.back)

pub slice_bounds-own-count-3 : goal.slice_bounds-own-count-3
slice_bounds-own-count-3 c = search (rules, laws.author-in c.requires c.split_at_mut-text.ensures.front c.split_at_mut-text.ensures.back)

pub slice_bounds-own-start-3 : goal.slice_bounds-own-start-3
slice_bounds-own-start-3 c = search (rules, laws.author-in c.requires c.split_at_mut-text.ensures.front c.split_at_mut-text.ensures.back)

pub style_rules-agent-requires : goal.style_rules-agent-requires
style_rules-agent-requires c =
    let f = c.split_at_mut-text.ensures.front in
    let b = c.split_at_mut-text.ensures.back in
    record { rules_kept_room = laws.agent-room c.requires f b; contents_room = laws.agent-contents-room c.requires f b }

pub style_rules-user-requires : goal.style_rules-user-requires
style_rules-user-requires c =
    let f = c.split_at_mut-text.ensures.front in
    let b = c.split_at_mut-text.ensures.back in
    let A = laws.agent-lies c.requires in
    let ta = laws.its-text c.requires f b c.args.sheets.agent.from in
    let t1 = styled.sheet-kept A ta _ _ 0 0 c.style_rules-agent.ensures.tokens_after in
    let c1 = styled.sheet-contents A ta _ _ 0 c.style_rules-agent.ensures.contents_after in
    let p1 = styled.sheet-place A ta 0 _ 0 c.style_rules-agent.ensures.place_value in
    let f1 = styled.sheet-fill A ta _ 0 c.style_rules-agent.ensures.fill_value in
    record { rules_kept_room = laws.user-room c.requires f b t1 c1 p1 f1; contents_room = laws.user-contents-room c.requires f b t1 c1 p1 f1 }

pub style_rules-author-requires : goal.style_rules-author-requires
style_rules-author-requires c =
    let f = c.split_at_mut-text.ensures.front in
    let b = c.split_at_mut-text.ensures.back in
    let A = laws.agent-lies c.requires in
    let ta = laws.its-text c.requires f b c.args.sheets.agent.from in
    let t1 = styled.sheet-kept A ta _ _ 0 0 c.style_rules-agent.ensures.tokens_after in
    let c1 = styled.sheet-contents A ta _ _ 0 c.style_rules-agent.ensures.contents_after in
    let p1 = styled.sheet-place A ta 0 _ 0 c.style_rules-agent.ensures.place_value in
    let f1 = styled.sheet-fill A ta _ 0 c.style_rules-agent.ensures.fill_value in
    let U = laws.user-lies c.requires in
    let tu = laws.its-text c.requires f b c.args.sheets.user.from in
    let t2 = styled.sheet-kept U tu _ _ _ _ c.style_rules-user.ensures.tokens_after in
    let c2 = styled.sheet-contents U tu _ _ _ c.style_rules-user.ensures.contents_after in
    let p2 = styled.sheet-place U tu _ _ _ c.style_rules-user.ensures.place_value in
    let f2 = styled.sheet-fill U tu _ _ c.style_rules-user.ensures.fill_value in
    record { rules_kept_room = laws.author-room c.requires f b t1 c1 p1 f1 t2 c2 p2 f2; contents_room = laws.author-contents-room c.requires f b t1 c1 p1 f1 t2 c2 p2 f2 }

pub returns : goal.returns
returns c = let t : goal.returns-raw c =
    let f = c.split_at_mut-text.ensures.front in
    let b = c.split_at_mut-text.ensures.back in
    let A = laws.agent-lies c.requires in
    let ta = laws.its-text c.requires f b c.args.sheets.agent.from in
    let t1 = styled.sheet-kept A ta _ _ 0 0 c.style_rules-agent.ensures.tokens_after in
    let c1 = styled.sheet-contents A ta _ _ 0 c.style_rules-agent.ensures.contents_after in
    let p1 = styled.sheet-place A ta 0 _ 0 c.style_rules-agent.ensures.place_value in
    let f1 = styled.sheet-fill A ta _ 0 c.style_rules-agent.ensures.fill_value in
    let U = laws.user-lies c.requires in
    let tu = laws.its-text c.requires f b c.args.sheets.user.from in
    let t2 = styled.sheet-kept U tu _ _ _ _ c.style_rules-user.ensures.tokens_after in
    let c2 = styled.sheet-contents U tu _ _ _ c.style_rules-user.ensures.contents_after in
    let p2 = styled.sheet-place U tu _ _ _ c.style_rules-user.ensures.place_value in
    let f2 = styled.sheet-fill U tu _ _ c.style_rules-user.ensures.fill_value in
    let W = laws.author-lies c.requires in
    let tw = laws.its-text c.requires f b c.args.sheets.author.from in
    let W3 = c.style_rules-author.ensures in
    laws.styled-left c.requires f b t1 c1 p1 f1 t2 c2 p2 f2 _ (styled.sheet-kept W tw _ _ _ _ W3.tokens_after) (styled.sheet-contents W tw _ _ _ W3.contents_after) (styled.sheet-place W tw _ _ _ W3.place_value) (styled.sheet-fill W tw _ _ W3.fill_value) (styled.sheet-end W tw _ W3.rules_value (laws.author-before c.requires)) _ refl refl refl refl refl refl refl in record { value = t.0; tokens_after = t.1.0; texts_after = t.1.1 }
