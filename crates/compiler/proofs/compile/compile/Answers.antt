-- The refusals 1, 2 and 3 in their order, each by its own test; what is left is compiled.
use mathlib.Core.Path.{ap, ◌∙◌}
use Prim.Native.Nat.{ℕ}
use lib.ListN.{length}
use Rattle.combinators.specs.LeastLengths.{stores_suffice}
use Rattle.compiler.proofs.CompileLaws as laws
use Rattle.compiler.proofs.compile.compile.Goals as goal

pub returns-then-any_too_long-clause-buffers_after : goal.returns-then-any_too_long-clause-buffers_after
returns-then-any_too_long-clause-buffers_after c = laws.too_long_lem c.args.sheets.agent.now c.args.sheets.user.now c.args.sheets.author.now c.args.compiled.now c.args.stores.now.texts.now c.args.stores.now.rules.now c.args.stores.now.tokens.now c.args.stores.now.brackets.now c.any_too_long.ensures c.if-any_too_long.true

pub bytes-requires : goal.bytes-requires
bytes-requires c = laws.count_fits c.args.sheets.agent.now c.args.sheets.user.now c.args.sheets.author.now c.args.compiled.now c.args.stores.now.texts.now c.args.stores.now.rules.now c.args.stores.now.tokens.now c.args.stores.now.brackets.now c.any_too_long.ensures c.if-any_too_long.false

pub compile_texts-requires : goal.compile_texts-requires
compile_texts-requires c = laws.lent c.args.sheets.agent.now c.args.sheets.user.now c.args.sheets.author.now c.args.compiled.now c.args.stores.now.texts.now c.args.stores.now.rules.now c.args.stores.now.tokens.now c.args.stores.now.brackets.now c.any_too_long.ensures c.if-any_too_long.false (c.suffice.ensures ∙ ap (λ (n : ℕ). stores_suffice n (length c.args.stores.now.rules.now) (length c.args.stores.now.tokens.now) (length c.args.stores.now.brackets.now) (length c.args.stores.now.texts.now)) c.bytes.ensures) c.if-not-suffice.false

pub returns-clause-buffers_after : goal.returns-clause-buffers_after
returns-clause-buffers_after c = laws.compiled-left c.args.sheets.agent.now c.args.sheets.user.now c.args.sheets.author.now c.args.compiled.now c.args.stores.now.texts.now c.args.stores.now.rules.now c.args.stores.now.tokens.now c.args.stores.now.brackets.now c.any_too_long.ensures c.if-any_too_long.false (c.suffice.ensures ∙ ap (λ (n : ℕ). stores_suffice n (length c.args.stores.now.rules.now) (length c.args.stores.now.tokens.now) (length c.args.stores.now.brackets.now) (length c.args.stores.now.texts.now)) c.bytes.ensures) c.if-not-suffice.false c.all_valid.ensures c.if-not-all_valid.false c.compile_texts.ensures.buffers_after

pub returns-then-not-all_valid-clause-buffers_after : goal.returns-then-not-all_valid-clause-buffers_after
returns-then-not-all_valid-clause-buffers_after c = laws.not-utf8 c.args.sheets.agent.now c.args.sheets.user.now c.args.sheets.author.now c.args.compiled.now c.args.stores.now.texts.now c.args.stores.now.rules.now c.args.stores.now.tokens.now c.args.stores.now.brackets.now c.any_too_long.ensures c.if-any_too_long.false (c.suffice.ensures ∙ ap (λ (n : ℕ). stores_suffice n (length c.args.stores.now.rules.now) (length c.args.stores.now.tokens.now) (length c.args.stores.now.brackets.now) (length c.args.stores.now.texts.now)) c.bytes.ensures) c.if-not-suffice.false c.all_valid.ensures c.if-not-all_valid.true

pub returns-then-not-suffice-clause-buffers_after : goal.returns-then-not-suffice-clause-buffers_after
returns-then-not-suffice-clause-buffers_after c = laws.short-store c.args.sheets.agent.now c.args.sheets.user.now c.args.sheets.author.now c.args.compiled.now c.args.stores.now.texts.now c.args.stores.now.rules.now c.args.stores.now.tokens.now c.args.stores.now.brackets.now c.any_too_long.ensures c.if-any_too_long.false (c.suffice.ensures ∙ ap (λ (n : ℕ). stores_suffice n (length c.args.stores.now.rules.now) (length c.args.stores.now.tokens.now) (length c.args.stores.now.brackets.now) (length c.args.stores.now.texts.now)) c.bytes.ensures) c.if-not-suffice.true
