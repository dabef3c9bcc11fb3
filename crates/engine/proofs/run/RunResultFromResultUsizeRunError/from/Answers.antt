-- The bytes of texts, or the refusal of the error, whose text is 0.
use mathlib.Core.Path.{ap, sym, ◌∙◌}
use Rattle.std.specs.Prelude.{ℕ}
use Rattle.combinators.specs.declared.refusals.Refusal.{Refusal}
use Rattle.combinators.specs.Refusal.{refused_at}
use Rattle.styles.specs.Answer.{TextsAnswer}
use Rattle.running.specs.RunAnswer.{numbers_of}
use Rattle.engine.specs.Run.{answer_in}
use Rattle.engine.proofs.Results as results
use Rattle.engine.proofs.run.RunResultFromResultUsizeRunError.from.Goals as goal
use Rattle.engine.proofs.run.RunResultFromResultUsizeRunError.from.Goals.{in-Ok, in-Err}

pub returns : goal.returns
unfolding answer_in numbers_of
returns c =
    let told : Refusal × ℕ → TextsAnswer = λ p. record { refusal = refused_at p.0.number p.0.place; texts = p.1 } in
    elim c.match-answer.branch [
      | in-Ok w ↦ ap told w.texts-is ∙ ap (λ (r : Refusal). told (r, w.in-Ok.texts)) w.no_refusal.ensures ∙ ap numbers_of (sym w.in-Ok.is)
      | in-Err w ↦ ap told w.texts-is ∙ ap (λ (r : Refusal). told (r, 0)) w.from.ensures ∙ ap (λ (r : Refusal). record { refusal = r; texts = 0 }) (results.run-refused _) ∙ ap numbers_of (sym w.in-Err.is)
    ]
