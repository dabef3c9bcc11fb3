-- What is told stands in the next part, by which the own one is then written.
use mathlib.Core.Path.{refl, ap, ◌∙◌}
use Rattle.segments.specs.Down.{pass_at}
use Rattle.stepping.proofs.PassingLaws as laws
use Rattle.stepping.proofs.passing.pass_document.Goals as goal

pub tell_document-requires : goal.tell_document-requires
tell_document-requires c = record { few_bytes = c.requires.few_bytes; reads = laws.selectors-there _ c.requires.sheet _ c.read_number.ensures.value _ c.in-Ok.is }

pub first_styled-requires : goal.first_styled-requires
first_styled-requires c = laws.selectors-there _ c.requires.sheet _ c.read_number.ensures.value _ c.in-Ok.is

pub returns-in-Some : goal.returns-in-Some
returns-in-Some c =
    let sheet = laws.passes-all _ c.requires.sheet _ c.read_number.ensures.value _ c.in-Ok.is _ c.in-Some.ensures.value in
    let told = c.tell_document.ensures ∙ laws.tells-all _ c.requires.sheet _ c.read_number.ensures.value _ c.in-Ok.is _ in
    record { next_after = told; own_after = c.pass_told.ensures ∙ ap (λ r. r.part) (sheet _ _ _) ∙ ap (λ x. (pass_at c.args.compiled.now _ x c.args.own.now).part) told }

pub returns-in_default-first_styled : goal.returns-in_default-first_styled
returns-in_default-first_styled c =
    let sheet = laws.passes-none _ c.requires.sheet _ c.read_number.ensures.value _ c.in-Ok.is _ c.in_default-first_styled.ensures.value refl in
    let told = c.tell_document.ensures ∙ laws.tells-all _ c.requires.sheet _ c.read_number.ensures.value _ c.in-Ok.is _ in
    record { next_after = told; own_after = ap (λ r. r.part) (sheet _ _ _) }

pub returns-in_default : goal.returns-in_default
returns-in_default c = let t : goal.returns-in_default-raw c = absurd (laws.count-there _ c.requires.sheet _ c.read_number.ensures.value _ c.in_default.is) in record { next_after = t.0; own_after = t.1 }
