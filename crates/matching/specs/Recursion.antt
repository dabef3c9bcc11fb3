-- Matching as the code goes about it: from a path upwards, with three results as browsers have them (a selector matches, fails locally, fails
-- completely), and how many calls that takes.
use Rattle.std.specs.Prelude.{ℕ, zero, suc, ◌+◌, Bool, true, false, List, [], ◌∷◌, ◌≡◌, refl, replicate}
use Rattle.combinators.specs.Choice.{pick, or, and, is}
use Rattle.combinators.specs.Word.{same_text}
use Rattle.characters.specs.Literal.{text}
use Rattle.characters.specs.Utf8.{utf8}
use Rattle.syntax.specs.Selector.{Component, star, class, element, hash, child, descendant, nth, attribute, attribute_equal}
use Rattle.page.specs.Path.{Path}
use Rattle.matching.specs.Matches.{name_is, here, on_ancestors, step, matches, named}
use Rattle.matching.specs.declared.matcher.SelectorMatch.{SelectorMatch}
use Rattle.matching.specs.declared.matcher.SelectorMatch.TheVariants.{Matches, FailsLocally, FailsCompletely}

-- ---- what a result says

-- the path passes, or that of an ancestor, the document among them
unfoldable pub on_ancestors_or_self : (Path → Bool) → Path → Bool
on_ancestors_or_self f p = or (f p) (on_ancestors f p)

-- a selector that matches passes on the path; one that fails locally does not; one that fails completely passes neither there nor on an ancestor
unfoldable pub ResultHolds : (Path → Bool) → Path → SelectorMatch → Type 0
ResultHolds f p Matches = f p ≡ true
ResultHolds f p FailsLocally = f p ≡ false
ResultHolds f p FailsCompletely = on_ancestors_or_self f p ≡ false

-- ---- the result

-- the parent's result; where there is no parent, all fails
unfoldable pub result_on_parent : (Path → SelectorMatch) → Path → SelectorMatch
result_on_parent f [] = FailsCompletely
result_on_parent f (e ∷ up) = f up

-- a second result is asked for where the first fails locally
unfoldable pub or_else : SelectorMatch → SelectorMatch → SelectorMatch
or_else Matches s = Matches
or_else FailsLocally s = s
or_else FailsCompletely s = FailsCompletely

-- the parent's result, or else that of the parent's own ancestors; where none is left, all fails
unfoldable pub result_on_ancestors : (Path → SelectorMatch) → Path → SelectorMatch
result_on_ancestors f [] = FailsCompletely
result_on_ancestors f (e ∷ up) = or_else (f up) (result_on_ancestors f up)

-- x for the child combinator, y for the descendant combinator, z for a simple selector
unfoldable pub by_combinator : {A : Type 0} → Component → A → A → A → A
by_combinator (class c) x y z = z
by_combinator (attribute n) x y z = z
by_combinator (attribute_equal n v) x y z = z
by_combinator (hash h) x y z = z
by_combinator (element n) x y z = z
by_combinator star x y z = z
by_combinator child x y z = x
by_combinator descendant x y z = y
by_combinator (nth a b) x y z = z

-- one component, where `rest` is the result of what is left; a simple selector that the path does not pass fails locally
unfoldable pub result_step : Component → (Path → SelectorMatch) → Path → SelectorMatch
result_step c rest p = by_combinator c (result_on_parent rest p) (result_on_ancestors rest p) (pick (matches (c ∷ []) p) (rest p) FailsLocally)

-- the result of a selector's components, rightmost first
unfoldable pub match_recursively : List Component → Path → SelectorMatch
match_recursively [] p = Matches
match_recursively (c ∷ cs) p = result_step c (match_recursively cs) p

-- ---- how often it asks one row for the simple selectors up to a combinator; a call of `match_recursively` asks at least once, and rows that are passed
-- over by their name are counted as asked

-- the parent's
unfoldable pub calls_on_parent : (Path → ℕ) → Path → ℕ
calls_on_parent k [] = 0
calls_on_parent k (e ∷ up) = k up

-- the calls for a second result: none where the first decides
unfoldable pub calls_else : SelectorMatch → ℕ → ℕ
calls_else Matches n = 0
calls_else FailsLocally n = n
calls_else FailsCompletely n = 0

-- the parent's, and those of the parent's own ancestors where the parent fails locally
unfoldable pub calls_on_ancestors : (Path → SelectorMatch) → (Path → ℕ) → Path → ℕ
calls_on_ancestors f k [] = 0
calls_on_ancestors f k (e ∷ up) = k up + calls_else (f up) (calls_on_ancestors f k up)

-- one component, where f is the result of what is left and k its calls: a call ends at a combinator and at a simple selector that is not passed
unfoldable pub calls_step : Component → (Path → SelectorMatch) → (Path → ℕ) → Path → ℕ
calls_step c f k p = by_combinator c (1 + calls_on_parent k p) (1 + calls_on_ancestors f k p) (pick (matches (c ∷ []) p) (k p) 1)

-- the calls for a selector's components
unfoldable pub calls : List Component → Path → ℕ
calls [] p = 1
calls (c ∷ cs) p = calls_step c (match_recursively cs) (calls cs) p

-- ---- cases

-- n elements `a`, each the child of the next
unfoldable nested : ℕ → Path
nested n = replicate n (named (text "a"))

-- the selector `b a .. a` with n times `a`
unfoldable descendants : ℕ → List Component
descendants zero = element (text "b") ∷ []
descendants (suc n) = element (text "a") ∷ descendant ∷ descendants n

-- `a > a` matches in `a`, `b` and `b > a` fail locally, `b a a` fails completely
test-results : (match_recursively (element (text "a") ∷ child ∷ element (text "a") ∷ []) (nested 2) ≡ Matches)
    × (match_recursively (descendants 0) (nested 1) ≡ FailsLocally)
    × (match_recursively (element (text "a") ∷ child ∷ element (text "b") ∷ []) (nested 2) ≡ FailsLocally)
    × (match_recursively (descendants 2) (nested 8) ≡ FailsCompletely)
unfolding match_recursively result_step by_combinator result_on_parent result_on_ancestors or_else matches step here name_is same_text named nested descendants text utf8 pick and is
test-results = (refl, refl, refl, refl)

-- `b a a a a a a a` on 64 nested `a`: each row is asked once, and so is the document
test-calls : calls (descendants 7) (nested 64) ≡ 65
unfolding calls calls_step calls_on_ancestors calls_else match_recursively result_step by_combinator result_on_parent result_on_ancestors or_else matches step here name_is same_text named nested descendants text utf8 pick and is
test-calls = refl
