-- Words of an overflow and of a white space, as the code has them.
use Rattle.std.specs.Prelude.{Option, Some, None}
use Rattle.syntax.specs.Declaration.{Overflow, visible, hidden, scroll, auto, WhiteSpace, normal, pre, pre_wrap}
use Rattle.values.specs.Words.{Found, on_found}
use Rattle.values.specs.declared.keywords.Overflow as declared_overflow
use Rattle.values.specs.declared.keywords.Overflow.TheVariants as overflow
use Rattle.values.specs.declared.keywords.WhiteSpace as declared_white_space
use Rattle.values.specs.declared.keywords.WhiteSpace.TheVariants as white_space

-- what a word is
unfoldable pub overflow_meant : declared_overflow.Overflow → Overflow
overflow_meant overflow.Visible = visible
overflow_meant overflow.Hidden = hidden
overflow_meant overflow.Scroll = scroll
overflow_meant overflow.Auto = auto

unfoldable pub white_space_meant : declared_white_space.WhiteSpace → WhiteSpace
white_space_meant white_space.Normal = normal
white_space_meant white_space.Pre = pre
white_space_meant white_space.PreWrap = pre_wrap

-- the word for it
unfoldable pub overflow_word : Overflow → declared_overflow.Overflow
overflow_word visible = overflow.Visible
overflow_word hidden = overflow.Hidden
overflow_word scroll = overflow.Scroll
overflow_word auto = overflow.Auto

unfoldable pub white_space_word : WhiteSpace → declared_white_space.WhiteSpace
white_space_word normal = white_space.Normal
white_space_word pre = white_space.Pre
white_space_word pre_wrap = white_space.PreWrap

-- an overflow that may be missing
unfoldable pub overflow_answer : Found Overflow → Option declared_overflow.Overflow
overflow_answer f = on_found f (λ o. Some (overflow_word o)) None
