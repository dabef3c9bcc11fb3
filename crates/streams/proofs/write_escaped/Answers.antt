-- Each iteration writes what is written of one character.
use Rattle.std.proofs.Common.{◌++◌, [], sym, ap, ◌∙◌, append_assoc, rules}
use Rattle.std.proofs.Output.{has_written_append, has_written_of_eq}
use Rattle.std.proofs.lemmas.List.{append-nil}
use Rattle.std.proofs.lemmas.Str.{IsUtf8-past_char}
use Rattle.streams.specs.Printed.{shown}
use Rattle.streams.proofs.Printing.{escaped-end, escaped-next, stands, stands-not}
use Rattle.streams.proofs.write_escaped.Goals as goal

pub loop-c-init : goal.loop-c-init
loop-c-init g c = (search rules, λ plain told flat. ([], search rules, search rules))

pub loop-c-preserved-in-Continue-branch-2 : goal.loop-c-preserved-in-Continue-branch-2
loop-c-preserved-in-Continue-branch-2 g c =
    let u = c.loop-c.invariant.0 in
    let step = c.in-Some.ensures.steps.0 in (
      IsUtf8-past_char _ _ _ u step,
      λ plain told flat.
          let now = c.loop-c.invariant.1 plain told flat in (
            now.0 ++ shown plain c.in-Some.c,
            has_written_append _ _ _ _ _ _ now.1 (has_written_of_eq _ _ _ _ _ (sym (stands plain _ _ (told _ _ c.stands.ensures) c.if-stands.true)) (search rules)),
            append_assoc now.0 _ _ ∙ ap (λ t. now.0 ++ t) (sym (escaped-next plain _ _ _ u step)) ∙ now.2,
          ),
    )

pub loop-c-preserved : goal.loop-c-preserved
loop-c-preserved g c =
    let u = c.loop-c.invariant.0 in
    let step = c.in-Some.ensures.steps.0 in (
      IsUtf8-past_char _ _ _ u step,
      λ plain told flat.
          let now = c.loop-c.invariant.1 plain told flat in (
            now.0 ++ shown plain c.in-Some.c,
            has_written_append _ _ _ _ _ _ now.1 (has_written_of_eq _ _ _ _ _ (sym (stands-not plain _ _ (told _ _ c.stands.ensures) c.if-stands.false)) (search rules)),
            append_assoc now.0 _ _ ∙ ap (λ t. now.0 ++ t) (sym (escaped-next plain _ _ _ u step)) ∙ now.2,
          ),
    )

pub returns : goal.returns
returns g c plain told flat ok =
    let now = c.loop-c.invariant.1 plain told flat in
    has_written_of_eq _ _ _ _ _ (sym (append-nil now.0) ∙ ap (λ t. now.0 ++ t) (sym (escaped-end plain _ c.in-None.ensures.steps.0.0)) ∙ now.2) now.1
