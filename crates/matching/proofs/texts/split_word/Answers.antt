-- Behind the White_Space in front stands the first word, or none is left.
use Rattle.matching.proofs.Words as laws
use Rattle.matching.proofs.texts.split_word.Goals as goal

pub returns : goal.returns
returns c =
    let white = c.white_space_length.ensures.value in
    let word = c.word_length-n.ensures in
    laws.split-told _ _ white _ word.value _ _ _ c.then_some.ensures (λ some. laws.first-word _ _ white _ word.value some word.upper_bound _ _ c.split_at.ensures.front c.split_at.ensures.back)
