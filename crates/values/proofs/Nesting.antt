-- What tokens do to the brackets awaited, and the steps of a statement.
use mathlib.Core.Path.{◌≡◌, refl, ap, sym, ◌∙◌}
use mathlib.Core.List.{List, [], ◌∷◌}
use mathlib.Core.Bool.{Bool, true, false}
use Prim.Native.Nat.{ℕ, zero, suc, ◌+◌, ◌-◌, ◌<◌, ◌≤◌}
use native.Mathlib.Numerals.{add-one}
use native.Mathlib.Omega.{arith}
use lib.ListN.{length, get_or, set, take}
use lib.Seq.{get_or-set_same, get_or-set_other, length-take-le}
use Rattle.std.proofs.lemmas.List.{get_or-take}
use Prim.Native.Char.{code as ascii}
use Rattle.combinators.specs.Choice.{pick}
use Rattle.combinators.proofs.Rules.{pick_true, pick-false, is-yes, is-no}
use Rattle.lexer.specs.Token.{Token, ident, function, hash, string, bad_string, delim, number, dimension, percentage, cdo, cdc, colon, semicolon, comma, open_square, close_square, open_round, close_round, open_brace, close_brace, coded, text_of}
use Rattle.lexer.specs.declared.tokens.Token as lexer
use Rattle.lexer.specs.declared.tokens.Token.TheVariants as code
use Rattle.values.specs.Value.{Bracket, opens, closes, ends, none, bracket_of, next, closing, ending, step_of}
use Rattle.values.specs.Layout.{meant, awaited, pushed, depth, step_to, deep, ending_by, Moved}
use Rattle.values.specs.declared.statements.Bracket as declared-bracket
use Rattle.values.specs.declared.statements.Bracket.TheVariants.{Opens, Closes, Ends, NoBracket}
use Rattle.values.specs.declared.statements.Step as declared-step
use Rattle.values.specs.declared.statements.Step.TheVariants.{Next, Before, Behind, Wrong}

-- ---- tokens

-- what a token as the code has it does to the brackets
unfoldable pub bracket_by : lexer.Token → Bracket
bracket_by (code.Function n) = opens (ascii ")")
bracket_by code.CDO = opens (ascii ">")
bracket_by code.CDC = closes (ascii ">")
bracket_by code.Semicolon = ends
bracket_by code.OpenSquare = opens (ascii "]")
bracket_by code.CloseSquare = closes (ascii "]")
bracket_by code.OpenRound = opens (ascii ")")
bracket_by code.CloseRound = closes (ascii ")")
bracket_by code.OpenBrace = opens (ascii "}")
bracket_by code.CloseBrace = closes (ascii "}")
bracket_by _ = none

-- it does what the token does
bracket-coded : (k : Token) → bracket_by (coded k) ≡ bracket_of k
unfolding bracket_by bracket_of coded
bracket-coded (ident b) = refl
bracket-coded _ = refl

-- so what is told by the code's token is what every token does that the code has so
pub by_code : (k : lexer.Token) (x : Bracket) → x ≡ bracket_by k → (t : Token) → coded t ≡ k → x ≡ bracket_of t
by_code k x p t e = p ∙ ap bracket_by (sym e) ∙ bracket-coded t

-- a token at which the statement does not go on has no text
pub no_text : (include : Bool) (cs : List ℕ) (k : Token) → ((ds : List ℕ) → ¬ (step_of include (bracket_of k) cs ≡ next ds)) → text_of k ≡ []
unfolding step_of bracket_of text_of
no_text include cs (ident b) never = absurd (never _ refl)
no_text include cs (function b) never = absurd (never _ refl)
no_text include cs (hash b) never = absurd (never _ refl)
no_text include cs (string b) never = absurd (never _ refl)
no_text include cs (bad_string b) never = absurd (never _ refl)
no_text include cs (delim c) never = refl
no_text include cs (number b) never = absurd (never _ refl)
no_text include cs (dimension b u) never = absurd (never _ refl)
no_text include cs (percentage b) never = absurd (never _ refl)
no_text include cs cdo never = refl
no_text include cs cdc never = refl
no_text include cs colon never = refl
no_text include cs semicolon never = refl
no_text include cs comma never = refl
no_text include cs open_square never = refl
no_text include cs close_square never = refl
no_text include cs open_round never = refl
no_text include cs close_round never = refl
no_text include cs open_brace never = refl
no_text include cs close_brace never = refl

-- such a token leaves the store of brackets as it is
pub unpushed : (include : Bool) (cs : List ℕ) (x : Bracket) (b : List ℕ) (d : ℕ) → ((ds : List ℕ) → ¬ (step_of include x cs ≡ next ds)) → pushed x b d ≡ b
unfolding step_of pushed
unpushed include cs (opens c) b d never = absurd (never _ refl)
unpushed include cs (closes c) b d never = refl
unpushed include cs ends b d never = refl
unpushed include cs none b d never = refl

-- a token opens one bracket at most
pub depth_le : (x : Bracket) (d : ℕ) → depth x d ≤ d + 1
unfolding depth
depth_le (opens c) d = omega arith
depth_le (closes c) d = omega arith
depth_le ends d = omega arith
depth_le none d = omega arith

-- ---- the brackets that a store holds

-- a store above them leaves them
awaited-set : (b : List ℕ) (d i v : ℕ) → d ≤ i → awaited (set b i v) d ≡ awaited b d
unfolding awaited
awaited-set b zero i v h = refl
awaited-set b (suc d) i v h = rw (get_or-set_other b i d v 0 (λ e. absurd (omega arith)), awaited-set b d i v (omega arith))

-- an opening bracket adds the one that closes it to those awaited
awaited-push : (b : List ℕ) (d v : ℕ) → d < length b → awaited (set b d v) (d + 1) ≡ v ∷ awaited b d
unfolding awaited
awaited-push b d v h = rw (add-one d, get_or-set_same b d v 0 h, awaited-set b d d v (omega arith))

-- those that the start of a store holds are awaited in the whole of it
awaited-take : (b : List ℕ) (d e : ℕ) → e ≤ d → awaited (take d b) e ≡ awaited b e
unfolding awaited
awaited-take b d zero h = refl
awaited-take b d (suc e) h = rw (get_or-take d b e 0 (omega arith), awaited-take b d e (omega arith))

-- ---- a closing bracket
-- a step r of the code at the bracket c, where d brackets are awaited, is right
abbrev pub Closed : ℕ → List ℕ → ℕ → declared-step.Step → Type 0
Closed c b d r = (step_to r b ≡ closing c (awaited b d)) × (deep r (d - 1) ≡ d - 1)

module _ (c : ℕ) (b : List ℕ) where
  -- where none is awaited, a '}' ends the statement before itself
  pub closed-before : (d : ℕ) → d ≡ 0 → c ≡ ascii "}" → Closed c b d Before
  unfolding closing awaited step_to deep
  closed-before zero z e = (pick_true _ _ _ _ (is-yes _ _ e) refl, refl)
  closed-before (suc d) z e = absurd (omega arith)

  -- where none is awaited, any bracket but '}' is wrong
  pub closed_none : (d : ℕ) → d ≡ 0 → ¬ (c ≡ ascii "}") → Closed c b d Wrong
  unfolding closing awaited step_to deep
  closed_none zero z e = (pick-false _ _ _ _ (is-no _ _ e) refl, refl)
  closed_none (suc d) z e = absurd (omega arith)

  -- where another bracket is awaited, this one is wrong
  pub closed-wrong : (d : ℕ) → ¬ (d ≡ 0) → ¬ (get_or b (d - 1) 0 ≡ c) → Closed c b d Wrong
  unfolding closing awaited step_to deep
  closed-wrong zero z e = absurd (z refl)
  closed-wrong (suc zero) z e = (pick-false _ _ _ _ (is-no _ _ (λ h. e (sym h))) refl, refl)
  closed-wrong (suc (suc d)) z e =
      let p : suc (suc d) - 1 ≡ suc d = omega arith in
      (pick-false _ _ _ _ (is-no _ _ (λ h. e (rw p (sym h)))) refl, refl)

  -- where it is awaited: last of all, or inside another
  pub closed-behind : (d : ℕ) → ¬ (d ≡ 0) → get_or b (d - 1) 0 ≡ c → d - 1 ≡ 0 → c ≡ ascii "}" → Closed c b d Behind
  unfolding closing awaited step_to deep
  closed-behind zero z e o h = absurd (z refl)
  closed-behind (suc zero) z e o h = (pick_true _ _ _ _ (is-yes _ _ (sym e)) (pick_true _ _ _ _ (is-yes _ _ h) refl), refl)
  closed-behind (suc (suc d)) z e o h = absurd (omega arith)

  -- unless it is a '}' and the last one, the statement goes on with one fewer awaited
  pub closed-next : (d : ℕ) → ¬ (d ≡ 0) → get_or b (d - 1) 0 ≡ c → (d ≡ 1 → ¬ (c ≡ ascii "}")) → Closed c b d (Next (d - 1))
  unfolding closing awaited step_to deep
  closed-next zero z e o = absurd (z refl)
  closed-next (suc zero) z e o = (pick_true _ _ _ _ (is-yes _ _ (sym e)) (pick-false _ _ _ _ (is-no _ _ (o refl)) refl), refl)
  closed-next (suc (suc d)) z e o =
      let p : suc (suc d) - 1 ≡ suc d = omega arith in
      (rw p (pick_true _ _ _ _ (is-yes _ _ (sym (rw p at e))) refl), refl)

  -- where those awaited are lent alone, the step is right for the store that they begin
  pub closed-part : (d : ℕ) → d ≤ length b → (r : declared-step.Step) → Closed c (take d b) (length (take d b)) r → Closed c b d r
  unfolding deep step_to
  closed-part d h r p =
      let q : Closed c (take d b) d r = rw (length-take-le d b h) at p in
      (whole r q.1 ∙ q.0 ∙ ap (closing c) (awaited-take b d d (omega arith)), q.1)
    where
      whole : (r : declared-step.Step) → deep r (d - 1) ≡ d - 1 → step_to r b ≡ step_to r (take d b)
      whole (Next e) k = ap next (sym (awaited-take b d e (omega arith)))
      whole Before k = refl
      whole Behind k = refl
      whole Wrong k = refl

-- ---- a semicolon
-- what it does, and how many brackets are awaited then
ending-is : (include : Bool) (b : List ℕ) (d : ℕ) → step_to (ending_by include d) b ≡ ending include (awaited b d)
unfolding ending_by ending awaited step_to pick
ending-is true b zero = rw (is-yes 0 0 refl)
ending-is false b zero = rw (is-yes 0 0 refl)
ending-is include b (suc d) = rw (is-no (suc d) 0 (λ e. absurd (omega arith)))

-- a ';' leaves as many brackets awaited as there were
ending-deep : (include : Bool) (d : ℕ) → deep (ending_by include d) d ≡ d
unfolding ending_by deep pick
ending-deep true zero = rw (is-yes 0 0 refl)
ending-deep false zero = rw (is-yes 0 0 refl)
ending-deep include (suc d) = rw (is-no (suc d) 0 (λ e. absurd (omega arith)))

-- ---- a token
-- a step r of the code at a token k of its own, from the store b with d brackets awaited to the store b'
abbrev pub Moves : Bool → lexer.Token → List ℕ → ℕ → List ℕ → declared-step.Step → Type 0
Moves include k b d b' r = (t : Token) → coded t ≡ k → Moved include (bracket_of t) b d b' r

-- by what the code found it to do
module _ (include : Bool) (r : declared-bracket.Bracket) (x : Bracket) (e : meant r ≡ x) (b : List ℕ) (d : ℕ) where
  -- what the token means is what the code found it to do
  said : (r' : declared-bracket.Bracket) → r ≡ r' → x ≡ meant r'
  said r' h = sym e ∙ ap meant h

  -- an opening bracket: the one that closes it is stored, and one more is awaited
  pub moved-opens : (c : ℕ) → r ≡ Opens c → d < length b → Moved include x b d (set b d c) (Next (d + 1))
  unfolding meant step_to step_of pushed depth deep
  moved-opens c h l = rw (said (Opens c) h) record { step = ap next (awaited-push b d c l); store = refl; deeper = refl }

  -- a closing bracket: what the code does at it is what the token does
  pub moved-closes : (c : ℕ) → r ≡ Closes c → (v : declared-step.Step) → Closed c b d v → Moved include x b d b v
  unfolding meant step_of pushed depth
  moved-closes c h v p = rw (said (Closes c) h) record { step = p.0; store = refl; deeper = p.1 }

  -- a ';' does what the end of a statement does
  pub moved_ends : r ≡ Ends → (v : declared-step.Step) → v ≡ ending_by include d → Moved include x b d b v
  unfolding meant step_of pushed depth
  moved_ends h v p = rw (said Ends h, p) record { step = ending-is include b d; store = refl; deeper = ending-deep include d }

  -- a token that is no bracket leaves the store, and as many awaited
  pub moved_none : r ≡ NoBracket → Moved include x b d b (Next d)
  unfolding meant step_to step_of pushed depth deep
  moved_none h = rw (said NoBracket h) record { step = refl; store = refl; deeper = refl }
