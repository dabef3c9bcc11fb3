-- Texts in which brackets match are passed over whole, whatever tokens the reader makes of them.
use mathlib.Core.Path.{◌≡◌, refl, ap, sym, subst, ◌∙◌}
use mathlib.Core.Bool.{Bool, true, false}
use mathlib.Core.List.{List, [], ◌∷◌, ◌++◌, append_assoc}
use Prim.Native.Nat.{ℕ, zero, suc, ◌+◌, ◌<◌}
use native.Mathlib.Omega.{arith}
use lib.ListN.{length, drop, length-drop}
use lib.Seq.{drop-append-add}
use Prim.Native.Char.{code as ascii}
use Rattle.combinators.specs.Choice.{pick, is}
use Rattle.combinators.specs.Parsed.{Parsed, ok}
use Rattle.combinators.proofs.Rules.{never}
use Rattle.lexer.specs.Token.{Token, token_of}
use Rattle.lexer.specs.Token as tokens
use Rattle.lexer.specs.Whitespace.{whitespace_item}
use Rattle.lexer.proofs.TokenBounds.{token-fits}
use Rattle.values.specs.Value.{bracket_of, step_of, statement_of, marked}
use Rattle.values.specs.Value as values
use Rattle.values.specs.Words.{is_delim}
use Rattle.grammar.specs.Nth.{Blanks}
use Rattle.grammar.specs.Selectors.{Quoted}
use Rattle.grammar.specs.Balanced.{is_plain, Bracket, round, square, curly, Balanced, end, space, remark, plain, quoted, semicolon, bang, block, opens, closes, written_balanced, Clear, Outside, More, Tight, Calm}
use Rattle.grammar.proofs.TokensRead.{Begins, token-read, begins-by, string-token, semicolon-token, opening-begins, closer-token}
use Rattle.grammar.proofs.ValuesRead.{bang-begins, Passes, passes_none, passes-one, passes_on, plain-first, closer-halts, ValueEnds, value-stops, ends-halt, stated, passed_length, Halts}
use Rattle.grammar.specs.Tokens as grammar
use Rattle.grammar.proofs.PlainTokens.{Harmless, Leaves, Skipped, solid, empty, Solid, TokenIn, tokenless, token, call, Void, plain_byte, leaves-calm, leaves-clear, leaves-outside, leaves-tight, drop-one, skipped, skipped-onto, block-onto, start-in, there-item, start-some}

-- ---- a text inside brackets
-- an open bracket, and what stands behind the one that closes it
record Frame : Type 0 where
  bracket : Bracket
  behind : Balanced

-- what stands behind the innermost text
unfoldable after : List Frame → List ℕ → List ℕ
after [] z = z
after (f ∷ fs) z = closes f.bracket ∷ (written_balanced f.behind ++ after fs z)

-- the brackets that are awaited, where others are already
unfoldable stack : List ℕ → List Frame → List ℕ
stack base [] = base
stack base (f ∷ fs) = closes f.bracket ∷ stack base fs

-- inside no other bracket, those are awaited that were before
stack-none : (base : List ℕ) → stack base [] ≡ base
unfolding stack
stack-none base = refl

-- a bracket as the tokens have it
unfoldable opening : Bracket → grammar.Opening
opening round = grammar.round
opening square = grammar.square
opening curly = grammar.brace

-- an opening bracket is written as in the tokens
opening-opens : (b : Bracket) → grammar.written_opening (opening b) ≡ opens b ∷ []
unfolding opening opens grammar.written_opening
opening-opens round = refl
opening-opens square = refl
opening-opens curly = refl

-- a closing bracket is written as in the tokens, too
opening-closes : (b : Bracket) → grammar.closer (opening b) ≡ closes b
unfolding opening closes grammar.closer
opening-closes round = refl
opening-closes square = refl
opening-closes curly = refl

-- a token ends before what closes
after-halts : (fs : List Frame) (z : List ℕ) → Halts z → Halts (after fs z)
unfolding after
after-halts [] z h = h
after-halts (f ∷ fs) z h = subst (λ (x : ℕ). Halts (x ∷ (written_balanced f.behind ++ after fs z))) (opening-closes f.bracket) (closer-halts (opening f.bracket) _)

-- outside all brackets no semicolon and no brace block stands
unfoldable pub Level : List ℕ → Balanced → Type 0
Level [] v = Outside v
Level (c ∷ cs) v = Unit

-- nor does a brace close one
unfoldable Closable : List ℕ → Bracket → List Frame → Type 0
Closable base round fs = Unit
Closable base square fs = Unit
Closable [] curly [] = ⊥
Closable (c ∷ cs) curly [] = Unit
Closable base curly (f ∷ fs) = Unit

-- the outermost text is as it must be there
unfoldable Sound : List ℕ → Balanced → List Frame → Type 0
Sound base v [] = Level base v × Tight v
Sound base v (f ∷ fs) = Closable base f.bracket fs × Sound base f.behind fs

-- no '!' stands where it is asked for
unfoldable CalmIf : Bool → Balanced → Type 0
CalmIf true v = Calm v
CalmIf false v = Unit

-- all texts are clear
unfoldable AllClear : Bool → Balanced → List Frame → Type 0
AllClear calm v [] = Clear v × CalmIf calm v
AllClear calm v (f ∷ fs) = (Clear v × CalmIf calm v) × AllClear calm f.behind fs

-- where all texts are clear, the innermost is, and has no '!' where none may stand
all_first : (calm : Bool) (v : Balanced) (fs : List Frame) → AllClear calm v fs → Clear v × CalmIf calm v
unfolding AllClear
all_first calm v [] c = c
all_first calm v (f ∷ fs) c = c.0

-- with another innermost text that is clear, all are clear still
all-other : (calm : Bool) (v r : Balanced) (fs : List Frame) → AllClear calm v fs → Clear r × CalmIf calm r → AllClear calm r fs
unfolding AllClear
all-other calm v r [] c k = k
all-other calm v r (f ∷ fs) c k = (k, c.1)

-- with a clear text in a block more, and a clear one behind the block, all are clear still
all-inside : (calm : Bool) (b : Bracket) (v w r : Balanced) (fs : List Frame) → AllClear calm v fs → Clear w × CalmIf calm w → Clear r × CalmIf calm r
    → AllClear calm w (record { bracket = b; behind = r } ∷ fs)
unfolding AllClear
all-inside calm b v w r [] c k j = (k, j)
all-inside calm b v w r (f ∷ fs) c k j = (k, (j, c.1))

-- where all texts are clear, the innermost is, whether a '!' may stand in it or not
first-clear : (calm : Bool) (v : Balanced) (fs : List Frame) → AllClear calm v fs → Clear v
first-clear calm v fs c = (all_first calm v fs c).0

-- what is left of a text has no semicolon and no brace block where the text may have none
left-level : (base : List ℕ) (v r : Balanced) → Leaves v r → Level base v → Level base r
unfolding Level
left-level [] v r l s = leaves-outside l s
left-level (c ∷ cs) v r l s = tt

-- with what is left of the innermost text, the outermost is as it must be still
left-sound : (base : List ℕ) (v r : Balanced) (fs : List Frame) → Leaves v r → Sound base v fs → Sound base r fs
unfolding Sound
left-sound base v r [] l s = (left-level base v r l s.0, leaves-tight l s.1)
left-sound base v r (f ∷ fs) l s = s

-- what is left of a text has no '!' where the text may have none
left-calm : (calm : Bool) (v r : Balanced) → Leaves v r → CalmIf calm v → CalmIf calm r
unfolding CalmIf
left-calm true v r l c = leaves-calm l c
left-calm false v r l c = tt

-- with what is left of the innermost text, all are clear still
left-clear : (calm : Bool) (v r : Balanced) (fs : List Frame) → Leaves v r → AllClear calm v fs → AllClear calm r fs
left-clear calm v r fs l c =
    let k = all_first calm v fs c in
    all-other calm v r fs c (leaves-clear l k.0, left-calm calm v r l k.1)

-- where no semicolon and no brace block may stand, none stands behind a string either
string-level : (base : List ℕ) (q : Quoted) (v : Balanced) → Level base (quoted q v) → Level base v
unfolding Level Outside
string-level [] q v s = s
string-level (c ∷ cs) q v s = tt

-- with those around it
string-sound : (base : List ℕ) (q : Quoted) (v : Balanced) (fs : List Frame) → Sound base (quoted q v) fs → Sound base v fs
unfolding Sound Tight
string-sound base q v [] s = (string-level base q v s.0, s.1)
string-sound base q v (f ∷ fs) s = s

-- it is as clear
string-clear : (calm : Bool) (q : Quoted) (v : Balanced) (fs : List Frame) → AllClear calm (quoted q v) fs → AllClear calm v fs
string-clear calm q v fs c = all-other calm (quoted q v) v fs c (by-calm calm (all_first calm (quoted q v) fs c))
  where
    by-calm : (b : Bool) → Clear (quoted q v) × CalmIf b (quoted q v) → Clear v × CalmIf b v
    by-calm true k = unfold Clear CalmIf Calm in k
    by-calm false k = unfold Clear CalmIf in k

-- so is what stands behind a semicolon
semicolon-clear : (calm : Bool) (v : Balanced) (fs : List Frame) → AllClear calm (semicolon v) fs → AllClear calm v fs
semicolon-clear calm v fs c = all-other calm (semicolon v) v fs c (by-calm calm (all_first calm (semicolon v) fs c))
  where
    by-calm : (b : Bool) → Clear (semicolon v) × CalmIf b (semicolon v) → Clear v × CalmIf b v
    by-calm true k = unfold Clear CalmIf Calm in k
    by-calm false k = unfold Clear CalmIf in k

-- and behind a '!', which stands where none is forbidden
bang-clear : (calm : Bool) (v : Balanced) (fs : List Frame) → AllClear calm (bang v) fs → (calm ≡ true → ⊥) × AllClear calm v fs
bang-clear calm v fs c = let k = by-calm calm (all_first calm (bang v) fs c) in (k.0, all-other calm (bang v) v fs c k.1)
  where
    by-calm : (b : Bool) → Clear (bang v) × CalmIf b (bang v) → (b ≡ true → ⊥) × (Clear v × CalmIf b v)
    by-calm true k = absurd (unfold CalmIf Calm in k.1)
    by-calm false k = unfold Clear CalmIf in ((λ e. never e), (k.0, tt))

-- a bracket that may stand there may be closed there, and what stands behind its block is as it must be
block-level : (base : List ℕ) (b : Bracket) (w v : Balanced) → Level base (block b w v) → Closable base b [] × Level base v
unfolding Level Outside Closable
block-level [] round w v s = (tt, s)
block-level [] square w v s = (tt, s)
block-level [] curly w v s = absurd s
block-level (c ∷ cs) round w v s = (tt, tt)
block-level (c ∷ cs) square w v s = (tt, tt)
block-level (c ∷ cs) curly w v s = (tt, tt)

-- a block inside another may be of braces
block-closable : (base : List ℕ) (b : Bracket) (f : Frame) (fs : List Frame) → Closable base b (f ∷ fs)
unfolding Closable
block-closable [] round f fs = tt
block-closable [] square f fs = tt
block-closable [] curly f fs = tt
block-closable (c ∷ cs) round f fs = tt
block-closable (c ∷ cs) square f fs = tt
block-closable (c ∷ cs) curly f fs = tt

-- with those around it
block-sound : (base : List ℕ) (b : Bracket) (w v : Balanced) (fs : List Frame) → Sound base (block b w v) fs → Sound base w (record { bracket = b; behind = v } ∷ fs)
unfolding Sound Tight
block-sound base b w v [] s = let k = block-level base b w v s.0 in (k.0, (k.1, s.1))
block-sound base b w v (f ∷ fs) s = (block-closable base b f fs, s)

-- it is as clear
block-clear : (calm : Bool) (b : Bracket) (w v : Balanced) (fs : List Frame) → AllClear calm (block b w v) fs → AllClear calm w (record { bracket = b; behind = v } ∷ fs)
block-clear calm b w v fs c = let k = by-calm calm (all_first calm (block b w v) fs c) in all-inside calm b (block b w v) w v fs c k.0 k.1
  where
    by-calm : (d : Bool) → Clear (block b w v) × CalmIf d (block b w v) → (Clear w × CalmIf d w) × (Clear v × CalmIf d v)
    by-calm true k = unfold Clear CalmIf Calm in ((k.0.0, k.1.0), (k.0.1, k.1.1))
    by-calm false k = unfold Clear CalmIf in ((k.0.0, tt), (k.0.1, tt))

-- what stands behind a '!' is as it must be there, too
bang-level : (base : List ℕ) (v : Balanced) → Level base (bang v) → Level base v
unfolding Level Outside
bang-level [] v s = s
bang-level (c ∷ cs) v s = tt

-- with those around it
bang-sound : (base : List ℕ) (v : Balanced) (fs : List Frame) → Sound base (bang v) fs → Sound base v fs
unfolding Sound Tight
bang-sound base v [] s = (bang-level base v s.0, s.1)
bang-sound base v (f ∷ fs) s = s

-- ---- steps
-- no token is a '!'
unfoldable pub Unbanged : List Token → Type 0
Unbanged [] = Unit
Unbanged (k ∷ ks) = (is_delim (ascii "!") k ≡ false) × Unbanged ks

-- so they have no mark
pub unbanged-plain : (ks : List Token) → Unbanged ks → (marked ks).important ≡ false
unfolding Unbanged
unbanged-plain [] h = unfold marked in refl
unbanged-plain (k ∷ ks) h = plain-first k ks h.0 ∙ unbanged-plain ks h.1

-- what a statement does at each kind of token
module _ (include : Bool) where
  -- a token without brackets is passed: the brackets that are awaited stay
  harmless-goes : (k : Token) (cs : List ℕ) → Harmless k → step_of include (bracket_of k) cs ≡ values.next cs
  unfolding step_of
  harmless-goes k cs h = rw h.0

  -- at a function, the round bracket that closes it is awaited
  call-goes : (b : List ℕ) (cs : List ℕ) → step_of include (bracket_of (tokens.function b)) cs ≡ values.next (closes round ∷ cs)
  unfolding step_of bracket_of closes
  call-goes b cs = refl

  -- a string is passed: the brackets that are awaited stay
  string-goes : (b : List ℕ) (cs : List ℕ) → step_of include (bracket_of (tokens.string b)) cs ≡ values.next cs
  unfolding step_of bracket_of
  string-goes b cs = refl

  -- a semicolon inside brackets
  semicolon-goes : (c : ℕ) (cs : List ℕ) → step_of include (bracket_of tokens.semicolon) (c ∷ cs) ≡ values.next (c ∷ cs)
  unfolding step_of bracket_of values.ending
  semicolon-goes c cs = refl

  -- a '!' is passed: the brackets that are awaited stay
  bang-goes : (cs : List ℕ) → step_of include (bracket_of (tokens.delim (ascii "!"))) cs ≡ values.next cs
  unfolding step_of bracket_of
  bang-goes cs = refl

  -- at an opening bracket, the one that closes it is awaited before the others
  block_goes : (base : List ℕ) (b : Bracket) (v : Balanced) (fs : List Frame)
      → step_of include (bracket_of (grammar.means_opening (opening b))) (stack base fs) ≡ values.next (stack base (record { bracket = b; behind = v } ∷ fs))
  unfolding step_of bracket_of grammar.means_opening opening closes stack
  block_goes base round v fs = refl
  block_goes base square v fs = refl
  block_goes base curly v fs = refl

  -- a closing bracket inside another is passed, and the others are awaited still
  close-one : (b : Bracket) (c : ℕ) (cs : List ℕ) → step_of include (bracket_of (grammar.means_closer (opening b))) (closes b ∷ c ∷ cs) ≡ values.next (c ∷ cs)
  unfolding step_of bracket_of grammar.means_closer opening closes values.closing pick is
  close-one round c cs = refl
  close-one square c cs = refl
  close-one curly c cs = refl

  -- a closing bracket that is the last awaited, and no brace, is passed, and none is awaited
  close-last : (b : Bracket) → Closable [] b [] → step_of include (bracket_of (grammar.means_closer (opening b))) (closes b ∷ []) ≡ values.next []
  unfolding step_of bracket_of grammar.means_closer opening closes values.closing pick is Closable
  close-last round h = refl
  close-last square h = refl
  close-last curly h = absurd h

  -- a closing bracket that is awaited is passed, whether others are awaited or not
  close-goes : (base : List ℕ) (b : Bracket) (fs : List Frame) → Closable base b fs
      → step_of include (bracket_of (grammar.means_closer (opening b))) (closes b ∷ stack base fs) ≡ values.next (stack base fs)
  unfolding stack
  close-goes [] b [] h = close-last b h
  close-goes (c ∷ cs) b [] h = close-one b c cs
  close-goes base b (f ∷ fs) h = close-one b (closes f.bracket) (stack base fs)

-- brackets are no '!'
brackets-unbanged : (b : Bracket)
    → (is_delim (ascii "!") (grammar.means_opening (opening b)) ≡ false) × (is_delim (ascii "!") (grammar.means_closer (opening b)) ≡ false)
unfolding opening grammar.means_opening grammar.means_closer is_delim
brackets-unbanged round = (refl, refl)
brackets-unbanged square = (refl, refl)
brackets-unbanged curly = (refl, refl)

-- nor are a string, a semicolon and a function
others-unbanged : (b : List ℕ)
    → (is_delim (ascii "!") (tokens.string b) ≡ false) × (is_delim (ascii "!") tokens.semicolon ≡ false) × (is_delim (ascii "!") (tokens.function b) ≡ false)
unfolding is_delim
others-unbanged b = (refl, refl, refl)

-- ---- all of a text
-- it passes, with tokens that are no '!'
pub record Through (include calm : Bool) (s z : List ℕ) (at : ℕ) (cs base : List ℕ) : Type 0 where
  pub ks : List Token
  pub passes : Passes include s z at cs base ks
  pub unbanged : calm ≡ true → Unbanged ks

module _ (include calm : Bool) (base : List ℕ) (z : List ℕ) (hz : Halts z) where
  -- one token, and the rest
  through-one : (s t : List ℕ) (at n : ℕ) (k : Token) (cs ds : List ℕ) → token_of s ≡ ok n k → drop n s ≡ t → step_of include (bracket_of k) cs ≡ values.next ds
      → (calm ≡ true → is_delim (ascii "!") k ≡ false) → ((j : ℕ) → Through include calm t z j ds base) → Through include calm s z at cs base
  unfolding Unbanged
  through-one s t at n k cs ds e d g u r =
      let f = token-fits s n k e in
      let a : n + length t ≡ length s = omega (arith, f.within_text, length-drop n s, ap length d) in
      let p = passes-one {include = include} s t at n k cs ds e d a f.some g in
      let q = r (at + p.taken) in
      record { ks = k ∷ q.ks; passes = passes_on p q.passes; unbanged = λ y. (u y, q.unbanged y) }

  -- a token takes a byte or more
  shorter : (s t : List ℕ) (n : ℕ) (k : Token) (l : ℕ) → token_of s ≡ ok n k → drop n s ≡ t → length s < suc l → length t < l
  shorter s t n k l e d h =
      let f = token-fits s n k e in
      omega (arith, f.some, f.within_text, length-drop n s, ap length d)

  -- where a token begins behind white space and the rest passes, all of it passes
  token-step : (l : ℕ) (b : Blanks) (u t : List ℕ) (at n : ℕ) (k : Token) (cs ds : List ℕ) → Begins u n k → drop n u ≡ t → step_of include (bracket_of k) cs ≡ values.next ds
      → (calm ≡ true → is_delim (ascii "!") k ≡ false) → length (b.bytes ++ u) < suc l → ((j : ℕ) → length t < l → Through include calm t z j ds base) → Through include calm (b.bytes ++ u) z at cs base
  token-step l b u t at n k cs ds e d g w h r =
      let m = length b.bytes + n in
      let o = token-read b u n k e in
      let q : drop m (b.bytes ++ u) ≡ t = drop-append-add b.bytes u n ∙ d in
      through-one (b.bytes ++ u) t at m k cs ds o q g w (λ j. r j (shorter (b.bytes ++ u) t m k l o q h))

-- an opening bracket is a token, and a closing one
bracket-begins : (b : Bracket) (x : List ℕ)
    → Begins (opens b ∷ x) 1 (grammar.means_opening (opening b)) × Begins (closes b ∷ x) 1 (grammar.means_closer (opening b))
bracket-begins b x = (
  subst (λ (o : List ℕ). Begins (o ++ x) (length o) (grammar.means_opening (opening b))) (opening-opens b) (opening-begins (opening b) x),
  subst (λ (y : ℕ). Begins (y ∷ x) 1 (grammar.means_closer (opening b))) (opening-closes b) (closer-token (opening b) x),
)

-- no text of white space alone is outside brackets
void-tight : (v : Balanced) → Void v → More v → Tight v → ⊥
unfolding Void More Tight
void-tight end o m t = m
void-tight (space x w v) o m t = void-tight v o t.0 t.1
void-tight (remark c w v) o m t = void-tight v o t.0 t.1
void-tight (plain x e v) o m t = o
void-tight (quoted q v) o m t = o
void-tight (semicolon v) o m t = o
void-tight (bang v) o m t = o
void-tight (block b w v) o m t = o

-- a text of white space and comments alone, which may not end in any, is empty
void-empty : (v : Balanced) → Void v → Tight v → written_balanced v ≡ []
void-empty end o t = unfold written_balanced in refl
void-empty (space x w v) o t = absurd (void-tight (space x w v) o (unfold More in tt) t)
void-empty (remark c w v) o t = absurd (void-tight (remark c w v) o (unfold More in tt) t)
void-empty (plain x e v) o t = absurd (unfold Void in o)
void-empty (quoted q v) o t = absurd (unfold Void in o)
void-empty (semicolon v) o t = absurd (unfold Void in o)
void-empty (bang v) o t = absurd (unfold Void in o)
void-empty (block b w v) o t = absurd (unfold Void in o)

-- a string with t behind it is its quote, its characters, its quote and what follows
quoted-onto : (q : Quoted) (v : Balanced) (t : List ℕ) → written_balanced (quoted q v) ++ t ≡ q.quote ∷ (q.bytes ++ (q.quote ∷ (written_balanced v ++ t)))
unfolding written_balanced
quoted-onto q v t = ap (λ (l : List ℕ). q.quote ∷ l) (append_assoc q.bytes (q.quote ∷ written_balanced v) t)

-- behind the quote, the characters and the quote stands what follows
string-drop : (q : ℕ) (b t : List ℕ) → drop (1 + length b + 1) (q ∷ (b ++ (q ∷ t))) ≡ t
string-drop q b t =
    let i : 1 + length b + 1 ≡ 1 + (length b + 1) = omega arith in
    ap (λ (n : ℕ). drop n (q ∷ (b ++ (q ∷ t)))) i ∙ drop-one (length b + 1) q (b ++ (q ∷ t)) ∙ drop-append-add b (q ∷ t) 1

module _ (include calm : Bool) (base : List ℕ) (z : List ℕ) (hz : Halts z) (l : ℕ)
    (ih : (v : Balanced) (fs : List Frame) (at : ℕ) → length (written_balanced v ++ after fs z) < l → AllClear calm v fs → Sound base v fs
    → Through include calm (written_balanced v ++ after fs z) z at (stack base fs) base) where
  -- a text that begins with a plain character passes: with its token, whatever it is, if the rest does
  plain_step : (b : Blanks) (x : ℕ) (e : is_plain x ≡ true) (v : Balanced) (fs : List Frame) (at : ℕ) → length (b.bytes ++ (written_balanced (plain x e v) ++ after fs z)) < suc l
      → AllClear calm (plain x e v) fs → Sound base (plain x e v) fs → Through include calm (b.bytes ++ (written_balanced (plain x e v) ++ after fs z)) z at (stack base fs) base
  plain_step b x e v fs at h c s = by_token _ refl (start-in (after fs z) ha x e v k)
    where
      ha : Halts (after fs z)
      ha = after-halts fs z hz

      k : Clear (plain x e v)
      k = first-clear calm (plain x e v) fs c

      begins : (n : ℕ) (j : Token) → tokens.token_with 1 x (written_balanced (plain x e v) ++ after fs z) ≡ ok n j → Begins (written_balanced (plain x e v) ++ after fs z) n j
      begins n j q = plain-begins n j (there-item (after fs z) ha x e v k) q
        where
          plain-begins : (n : ℕ) (j : Token) → whitespace_item (written_balanced (plain x e v) ++ after fs z) ≡ 0
              → tokens.token_with 1 x (written_balanced (plain x e v) ++ after fs z) ≡ ok n j → Begins (written_balanced (plain x e v) ++ after fs z) n j
          plain-begins n j i q = unfold written_balanced in begins-by x (written_balanced v ++ after fs z) n j i (omega (arith, (plain_byte x e).high)) q

      by_token : (p : Parsed Token) → tokens.token_with 1 x (written_balanced (plain x e v) ++ after fs z) ≡ p → TokenIn (plain x e v) (after fs z) p
          → Through include calm (b.bytes ++ (written_balanced (plain x e v) ++ after fs z)) z at (stack base fs) base
      by_token _ q tokenless = absurd (start-some (after fs z) ha x e v k q)
      by_token _ q (token n j y f) =
          token-step include calm base z hz l b (written_balanced (plain x e v) ++ after fs z) _ at n j (stack base fs) (stack base fs) (begins n j q) y.onto (harmless-goes include j (stack base fs) f) (λ _. f.1) h
          (λ i w. ih y.rest fs i w (left-clear calm (plain x e v) y.rest fs y.leaves c) (left-sound base (plain x e v) y.rest fs y.leaves s))
      by_token _ q (call n m w r y o) =
          token-step include calm base z hz l b (written_balanced (plain x e v) ++ after fs z) _ at n (tokens.function m) (stack base fs) (closes round ∷ stack base fs) (begins n (tokens.function m) q) o
          (call-goes include m (stack base fs)) (λ _. (others-unbanged m).2) h
          (λ i d. inside w r y i d)
        where
          inside : (w r : Balanced) → Leaves (plain x e v) (block round w r) → (i : ℕ) → length (written_balanced w ++ (closes round ∷ (written_balanced r ++ after fs z))) < l
              → Through include calm (written_balanced w ++ (closes round ∷ (written_balanced r ++ after fs z))) z i (closes round ∷ stack base fs) base
          inside w r y i d =
              unfold after stack in
              ih w (record { bracket = round; behind = r } ∷ fs) i d (block-clear calm round w r fs (left-clear calm (plain x e v) (block round w r) fs y c))
              (block-sound base round w r fs (left-sound base (plain x e v) (block round w r) fs y s))

  -- a text that begins with a string passes, if the rest does
  string-step : (b : Blanks) (q : Quoted) (v : Balanced) (fs : List Frame) (at : ℕ) → length (b.bytes ++ (written_balanced (quoted q v) ++ after fs z)) < suc l
      → AllClear calm (quoted q v) fs → Sound base (quoted q v) fs → Through include calm (b.bytes ++ (written_balanced (quoted q v) ++ after fs z)) z at (stack base fs) base
  string-step b q v fs at h c s =
      let t = written_balanced v ++ after fs z in
      let n = 1 + length q.bytes + 1 in
      let e = quoted-onto q v (after fs z) in
      let k = subst (λ (u : List ℕ). Begins u n (tokens.string q.body)) (sym e) (string-token q t) in
      token-step include calm base z hz l b (written_balanced (quoted q v) ++ after fs z) t at n (tokens.string q.body) (stack base fs) (stack base fs) k
      (ap (drop n) e ∙ string-drop q.quote q.bytes t) (string-goes include q.body (stack base fs)) (λ _. (others-unbanged q.body).0) h
      (λ i w. ih v fs i w (string-clear calm q v fs c) (string-sound base q v fs s))

  -- a semicolon inside brackets
  semicolon-in : (b : Blanks) (v : Balanced) (fs : List Frame) (at c : ℕ) (cs : List ℕ) → stack base fs ≡ c ∷ cs → length (b.bytes ++ (written_balanced (semicolon v) ++ after fs z)) < suc l
      → AllClear calm (semicolon v) fs → Sound base v fs → Through include calm (b.bytes ++ (written_balanced (semicolon v) ++ after fs z)) z at (stack base fs) base
  unfolding written_balanced
  semicolon-in b v fs at c cs e h k s =
      let t = written_balanced v ++ after fs z in
      token-step include calm base z hz l b (ascii ";" ∷ t) t at 1 tokens.semicolon (stack base fs) (stack base fs) (semicolon-token t) refl
      (subst (λ (q : List ℕ). step_of include (bracket_of tokens.semicolon) q ≡ values.next q) (sym e) (semicolon-goes include c cs)) (λ _. (others-unbanged []).1) h
      (λ i w. ih v fs i w (semicolon-clear calm v fs k) s)

  -- where one is awaited
  semicolon-step : (b : Blanks) (v : Balanced) (fs : List Frame) (at : ℕ) → length (b.bytes ++ (written_balanced (semicolon v) ++ after fs z)) < suc l
      → AllClear calm (semicolon v) fs → Sound base (semicolon v) fs → Through include calm (b.bytes ++ (written_balanced (semicolon v) ++ after fs z)) z at (stack base fs) base
  semicolon-step b v [] at h c s = by-base base refl (unfold Sound in s)
    where
      by-base : (cs : List ℕ) → base ≡ cs → Level base (semicolon v) × Tight (semicolon v) → Through include calm (b.bytes ++ (written_balanced (semicolon v) ++ after [] z)) z at (stack base []) base
      by-base [] e k = absurd (unfold Level Outside in subst (λ (q : List ℕ). Level q (semicolon v)) e k.0)
      by-base (x ∷ cs) e k =
          semicolon-in b v [] at x cs (stack-none base ∙ e) h c (unfold Sound in (subst (λ (q : List ℕ). Level q v) (sym e) (unfold Level in tt), unfold Tight in k.1))
  semicolon-step b v (f ∷ fs) at h c s = semicolon-in b v (f ∷ fs) at (closes f.bracket) (stack base fs) (unfold stack in refl) h c (unfold Sound in s)

  -- a text that begins with a '!' passes, if the rest does
  bang-step : (b : Blanks) (v : Balanced) (fs : List Frame) (at : ℕ) → length (b.bytes ++ (written_balanced (bang v) ++ after fs z)) < suc l
      → AllClear calm (bang v) fs → Sound base (bang v) fs → Through include calm (b.bytes ++ (written_balanced (bang v) ++ after fs z)) z at (stack base fs) base
  unfolding written_balanced
  bang-step b v fs at h c s =
      let t = written_balanced v ++ after fs z in
      let k = bang-clear calm v fs c in
      token-step include calm base z hz l b (ascii "!" ∷ t) t at 1 (tokens.delim (ascii "!")) (stack base fs) (stack base fs) (bang-begins t) refl (bang-goes include (stack base fs))
      (λ e. absurd (k.0 e)) h (λ i w. ih v fs i w k.1 (bang-sound base v fs s))

  -- a text that begins with an opening bracket passes, if what is inside it and behind it does
  block-step : (b : Blanks) (k : Bracket) (w v : Balanced) (fs : List Frame) (at : ℕ) → length (b.bytes ++ (written_balanced (block k w v) ++ after fs z)) < suc l
      → AllClear calm (block k w v) fs → Sound base (block k w v) fs → Through include calm (b.bytes ++ (written_balanced (block k w v) ++ after fs z)) z at (stack base fs) base
  block-step b k w v fs at h c s =
      let t = written_balanced w ++ (closes k ∷ (written_balanced v ++ after fs z)) in
      let e = block-onto k w v (after fs z) in
      let o = subst (λ (u : List ℕ). Begins u 1 (grammar.means_opening (opening k))) (sym e) (bracket-begins k t).0 in
      token-step include calm base z hz l b (written_balanced (block k w v) ++ after fs z) t at 1 (grammar.means_opening (opening k)) (stack base fs) (stack base (record { bracket = k; behind = v } ∷ fs)) o (ap (drop 1) e)
      (block_goes include base k v fs) (λ _. (brackets-unbanged k).0) h (λ i d. inside i d)
    where
      inside : (i : ℕ) → length (written_balanced w ++ (closes k ∷ (written_balanced v ++ after fs z))) < l
          → Through include calm (written_balanced w ++ (closes k ∷ (written_balanced v ++ after fs z))) z i (stack base (record { bracket = k; behind = v } ∷ fs)) base
      inside i d = unfold after in ih w (record { bracket = k; behind = v } ∷ fs) i d (block-clear calm k w v fs c) (block-sound base k w v fs s)

  -- what a text begins with
  solid-step : (b : Blanks) (v : Balanced) (fs : List Frame) (at : ℕ) → Solid v → length (b.bytes ++ (written_balanced v ++ after fs z)) < suc l
      → AllClear calm v fs → Sound base v fs → Through include calm (b.bytes ++ (written_balanced v ++ after fs z)) z at (stack base fs) base
  solid-step b end fs at o h c s = absurd (unfold Solid in o)
  solid-step b (space x w v) fs at o h c s = absurd (unfold Solid in o)
  solid-step b (remark d w v) fs at o h c s = absurd (unfold Solid in o)
  solid-step b (plain x e v) fs at o h c s = plain_step b x e v fs at h c s
  solid-step b (quoted q v) fs at o h c s = string-step b q v fs at h c s
  solid-step b (semicolon v) fs at o h c s = semicolon-step b v fs at h c s
  solid-step b (bang v) fs at o h c s = bang-step b v fs at h c s
  solid-step b (block k w v) fs at o h c s = block-step b k w v fs at h c s

  -- where only white space is left, the bracket around the text is closed, or outside all brackets the end is reached
  void-step : (b : Blanks) (v : Balanced) (fs : List Frame) (at : ℕ) → Void v → written_balanced v ≡ b.bytes → length (written_balanced v ++ after fs z) < suc l
      → AllClear calm v fs → Sound base v fs → Through include calm (written_balanced v ++ after fs z) z at (stack base fs) base
  unfolding after stack AllClear Sound Unbanged
  void-step b v [] at o e h c s =
      subst (λ (u : List ℕ). Through include calm (u ++ z) z at base base) (sym (void-empty v o s.1)) (record { ks = []; passes = passes_none {include = include} z at base; unbanged = λ y. tt })
  void-step b v (f ∷ fs) at o e h c s =
      let t = written_balanced f.behind ++ after fs z in
      let k = f.bracket in
      subst (λ (u : List ℕ). Through include calm (u ++ (closes k ∷ t)) z at (closes k ∷ stack base fs) base) (sym e)
      (token-step include calm base z hz l b (closes k ∷ t) t at 1 (grammar.means_closer (opening k)) (closes k ∷ stack base fs) (stack base fs) (bracket-begins k t).1 refl (close-goes include base k fs s.0)
      (λ _. (brackets-unbanged k).1) (subst (λ (u : List ℕ). length (u ++ (closes k ∷ t)) < suc l) e h) (λ i w. ih f.behind fs i w c.1 s.1))

  -- every text passes, if all shorter ones do
  text-step : (v : Balanced) (fs : List Frame) (at : ℕ) → length (written_balanced v ++ after fs z) < suc l → AllClear calm v fs → Sound base v fs
      → Through include calm (written_balanced v ++ after fs z) z at (stack base fs) base
  text-step v fs at h c s = by-skipped (skipped v (after fs z) (first-clear calm v fs c) (after-halts fs z hz))
    where
      by-skipped : Skipped (after fs z) v → Through include calm (written_balanced v ++ after fs z) z at (stack base fs) base
      by-skipped (solid rest b o e y i) =
          let q = skipped-onto v rest b e (after fs z) in
          subst (λ (u : List ℕ). Through include calm u z at (stack base fs) base) (sym q)
          (solid-step b rest fs at o (subst (λ (u : List ℕ). length u < suc l) q h) (left-clear calm v rest fs y c) (left-sound base v rest fs y s))
      by-skipped (empty b o e) = void-step b v fs at o e h c s

-- a text in brackets, with turns enough
through : (include calm : Bool) (base z : List ℕ) → Halts z → (l : ℕ) (v : Balanced) (fs : List Frame) (at : ℕ) → length (written_balanced v ++ after fs z) < l → AllClear calm v fs
    → Sound base v fs → Through include calm (written_balanced v ++ after fs z) z at (stack base fs) base
through include calm base z hz zero v fs at h c s = absurd (omega arith)
through include calm base z hz (suc l) v fs at h c s = text-step include calm base z hz l (through include calm base z hz l) v fs at h c s

-- a text in which brackets match is passed over up to what may stand behind it
pub balanced-pass : (include : Bool) (base : List ℕ) (v : Balanced) (z : List ℕ) (at : ℕ) → Clear v → Level base v → Tight v → Halts z
    → Through include false (written_balanced v ++ z) z at base base
unfolding after stack AllClear CalmIf Sound
balanced-pass include base v z at c o t h = through include false base z h (suc (length (written_balanced v ++ z))) v [] at (omega arith) (c, tt) (o, t)

-- so is a value, whose tokens are no '!'
pub calm_pass : (v : Balanced) (z : List ℕ) → Clear v → Outside v → Tight v → Calm v → Halts z → Through false true (written_balanced v ++ z) z 0 [] []
unfolding after stack AllClear CalmIf Sound Level
calm_pass v z c o t k h = through false true [] z h (suc (length (written_balanced v ++ z))) v [] 0 (omega arith) (c, k) (o, t)

-- ---- white space before a text
-- what stands behind it
pub record Behind (v : Balanced) (z : List ℕ) : Type 0 where
  pub before : Blanks
  pub rest : Balanced
  pub parts : written_balanced v ≡ before.bytes ++ written_balanced rest
  pub item : whitespace_item (written_balanced rest ++ z) ≡ 0
  pub keeps-clear : Clear v → Clear rest
  pub keeps_outside : Outside v → Outside rest
  pub keeps-tight : Tight v → Tight rest
  pub keeps-calm : Calm v → Calm rest

-- of a text with something in it that does not end with white space
pub balanced-behind : (v : Balanced) (z : List ℕ) → More v → Clear v → Tight v → Halts z → Behind v z
balanced-behind v z m c t h = by-skipped (skipped v z c h)
  where
    by-skipped : Skipped z v → Behind v z
    by-skipped (solid rest b o e l i) =
        record { before = b; rest = rest; parts = e; item = i; keeps-clear = leaves-clear l; keeps_outside = leaves-outside l; keeps-tight = leaves-tight l; keeps-calm = leaves-calm l }
    by-skipped (empty b o e) = absurd (void-tight v o m t)

-- ---- Blocks: a value ends before the first semicolon or closing brace outside strings, comments and brackets, or at the end of the text
pub text-ends : (v : Balanced) (z : List ℕ) → Clear v → Outside v → Tight v → ValueEnds z
    → ((statement_of false (written_balanced v ++ z)).taken ≡ length (written_balanced v)) × ((statement_of false (written_balanced v ++ z)).balanced ≡ true)
unfolding Level
text-ends v z c o t e =
    let p = (balanced-pass false [] v z 0 c o t (ends-halt e)).passes in
    let s = stated p (value-stops e) in
    (ap (λ (r : values.Statement). r.taken) s.states ∙ passed_length (written_balanced v) refl p, ap (λ (r : values.Statement). r.balanced) s.states)
