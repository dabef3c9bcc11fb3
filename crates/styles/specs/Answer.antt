-- What a call that gives styles answers, in numbers: the refusal; of what was styled the bytes of its texts. What does not apply is 0.
use Rattle.std.specs.Prelude.{ℕ}
use Rattle.combinators.specs.declared.refusals.Refusal.{Refusal}

pub record TextsAnswer : Type 0 where
  pub refusal : Refusal
  pub texts : ℕ

-- a refusal, with all else 0
abbrev pub refused_texts : Refusal → TextsAnswer
refused_texts r = record { refusal = r; texts = 0 }
