-- Behind the count of a sheet its selectors are read, so the first that has a style is where `pass_at` begins.
use mathlib.Core.Path.{refl, ap, ◌∙◌}
use Rattle.stepping.proofs.PassingLaws as laws
use Rattle.stepping.proofs.passing.pass_element.Goals as goal

pub first_styled-requires : goal.first_styled-requires
first_styled-requires c = laws.selectors-there _ c.requires.sheet_lent.sheet _ c.read_number.ensures.value _ c.in-Ok.is

pub returns : goal.returns
returns c =
    let e = laws.passes-all _ c.requires.sheet_lent.sheet _ c.read_number.ensures.value _ c.in-Ok.is _ c.in-Some.ensures.value _ _ _ in
    record { own_after = c.pass_found.ensures.own_after ∙ ap (λ r. r.part) e; out_after = c.pass_found.ensures.out_after ∙ ap (λ r. laws.merged c.args.compiled.now c.args.out.now r) e }

pub returns-in_default-first_styled : goal.returns-in_default-first_styled
returns-in_default-first_styled c =
    let e = laws.passes-none _ c.requires.sheet_lent.sheet _ c.read_number.ensures.value _ c.in-Ok.is _ c.in_default-first_styled.ensures.value refl _ _ _ in
    record { own_after = ap (λ r. r.part) e; out_after = laws.merged-nothing c.args.compiled.now c.args.out.now c.args.own.now ∙ ap (λ r. laws.merged c.args.compiled.now c.args.out.now r) e }

pub returns-in_default : goal.returns-in_default
returns-in_default c = let t : goal.returns-in_default-raw c = absurd (laws.count-there _ c.requires.sheet_lent.sheet _ c.read_number.ensures.value _ c.in_default.is) in record { own_after = t.0; out_after = t.1 }
