-- The words of a text by where they stand: a text is in the list of words exactly if it has a character and no white space, and white space or an end of the
-- text on both sides.
use Prim.Native.Nat.{ℕ}
use mathlib.Core.Bool.{Bool, true, false}
use mathlib.Core.List.{List, [], ◌∷◌, ◌++◌, append_assoc}
use mathlib.Core.Logic.{◌⊎◌, inl, inr, ⊎_elim}
use mathlib.Core.Path.{◌≡◌, refl, sym, ap, subst, ◌∙◌}
use native.Mathlib.Omega.{arith}
use lib.ListN.{length}
use Rattle.combinators.specs.All.{All}
use Rattle.combinators.specs.Choice.{pick}
use Rattle.combinators.proofs.Rules.{never, pick_true, pick-false, Exactly}
use Rattle.matching.specs.Documents.{Some, pieces, without_empty, words, EndsInWhite, nothing-before, white-before, BeginsWithWhite, nothing-behind, white-behind, Parted}
use Rattle.matching.proofs.WordList.{exactly-then, exactly-either, front, behind, joined, others, first_piece}

module _ (white : ℕ → Bool) (w : List ℕ) where
  -- w is among some pieces
  abbrev In : List (List ℕ) → Type 0
  In l = Some (λ x. x ≡ w) l

  -- a text begins with w, which white space follows or nothing
  record Leads (t : List ℕ) : Type 0 where
    later : List ℕ
    split : t ≡ w ++ later
    unbroken : All (λ v. white v ≡ false) w
    begins : BeginsWithWhite white later

  -- what stands behind some white space of a text begins so
  record Follows (t : List ℕ) : Type 0 where
    earlier : List ℕ
    blank : ℕ
    rest : List ℕ
    split : t ≡ earlier ++ (blank ∷ rest)
    is_white : white blank ≡ true
    leads : Leads rest

  -- ---- the first piece of a text
  -- by whether the first character is white: the first piece has no white space in it, where that of the rest has none
  front_by : (t : Bool) (v : ℕ) (vs : List ℕ) → white v ≡ t → All (λ x. white x ≡ false) (front white vs) → All (λ x. white x ≡ false) (pick t [] (v ∷ front white vs))
  unfolding pick
  front_by true v vs e h = tt
  front_by false v vs e h = (e, h)

  -- the first piece of a text has no white space in it
  front-unbroken : (t : List ℕ) → All (λ v. white v ≡ false) (front white t)
  unfolding front
  front-unbroken [] = tt
  front-unbroken (v ∷ vs) = front_by (white v) v vs refl (front-unbroken vs)

  -- by whether the first character is white: what stands behind the first piece begins with white space, or nothing stands there
  behind-by : (t : Bool) (v : ℕ) (vs : List ℕ) → white v ≡ t → BeginsWithWhite white (behind white vs) → BeginsWithWhite white (pick t (v ∷ vs) (behind white vs))
  unfolding pick
  behind-by true v vs e h = white-behind v vs e
  behind-by false v vs e h = h

  -- what stands behind the first piece of a text begins with white space, or nothing stands there
  behind-begins : (t : List ℕ) → BeginsWithWhite white (behind white t)
  unfolding behind
  behind-begins [] = nothing-behind
  behind-begins (v ∷ vs) = behind-by (white v) v vs refl (behind-begins vs)

  -- nothing stands before white space, or before the end
  front-none : (t : List ℕ) → BeginsWithWhite white t → front white t ≡ []
  unfolding front
  front-none t nothing-behind = refl
  front-none t (white-behind v vs e) = sym (pick_true _ _ _ _ e refl)

  -- a text without white space, which white space follows or nothing, is the first piece
  front-is : (x later : List ℕ) → All (λ v. white v ≡ false) x → BeginsWithWhite white later → front white (x ++ later) ≡ x
  unfolding front
  front-is [] later h b = front-none later b
  front-is (v ∷ x) later h b = sym (pick-false _ _ _ _ h.0 refl) ∙ ap (λ l. v ∷ l) (front-is x later h.1 b)

  -- w is the first piece of a text exactly if the text begins with w, and white space follows or nothing
  first-exactly : (t : List ℕ) → Exactly (front white t ≡ w) (Leads t)
  first-exactly t = (there, (λ r. ap (front white) r.split ∙ front-is w r.later r.unbroken r.begins))
    where
      there : front white t ≡ w → Leads t
      there e =
          record { later = behind white t; split = sym (joined white t) ∙ ap (λ x. x ++ behind white t) e; unbroken = subst (All (λ v. white v ≡ false)) e (front-unbroken t); begins = behind-begins t }

  -- ---- the other pieces, which stand behind white space
  -- a text without its first character
  tail_of : List ℕ → List ℕ
  tail_of [] = []
  tail_of (v ∷ vs) = vs

  -- the first character of a text, or d where there is none
  head_of : ℕ → List ℕ → ℕ
  head_of d [] = d
  head_of d (v ∷ vs) = v

  -- what follows white space in a text follows it with one character more in front
  further : (v : ℕ) (vs : List ℕ) → Follows vs → Follows (v ∷ vs)
  further v vs f = record { earlier = v ∷ f.earlier; blank = f.blank; rest = f.rest; split = ap (λ l. v ∷ l) f.split; is_white = f.is_white; leads = f.leads }

  -- behind the first character, or further
  follows-says : (P : Type 0) (v : ℕ) (vs : List ℕ) → Follows (v ∷ vs) → (white v ≡ true → Leads vs → P) → (Follows vs → P) → P
  unfolding tail_of head_of
  follows-says P v vs f here there = go f.earlier f.split
    where
      go : (e : List ℕ) → v ∷ vs ≡ e ++ (f.blank ∷ f.rest) → P
      go [] s = here (ap white (ap (head_of v) s) ∙ f.is_white) (subst Leads (sym (ap tail_of s)) f.leads)
      go (x ∷ e) s = there (record { earlier = e; blank = f.blank; rest = f.rest; split = ap tail_of s; is_white = f.is_white; leads = f.leads })

  -- by whether the first character is white: w is a piece behind the first exactly if it follows some white space
  others_by : (t : Bool) (v : ℕ) (vs : List ℕ) → white v ≡ t → Exactly (In (others white vs)) (Follows vs) → Exactly (In (pick t (pieces white vs) (others white vs))) (Follows (v ∷ vs))
  unfolding pick
  others_by false v vs e h = ((λ q. further v vs (h.0 q)), (λ f. follows-says (In (others white vs)) v vs f (λ d l. never (sym e ∙ d)) h.1))
  others_by true v vs e h = (there, back)
    where
      listed : In (pieces white vs) → In (front white vs ∷ others white vs)
      listed q = subst In (first_piece white vs) q

      there : In (pieces white vs) → Follows (v ∷ vs)
      there q =
          ⊎_elim (λ (d : front white vs ≡ w). record { earlier = []; blank = v; rest = vs; split = refl; is_white = e; leads = (first-exactly vs).0 d })
          (λ (m : In (others white vs)). further v vs (h.0 m)) (listed q)

      back : Follows (v ∷ vs) → In (pieces white vs)
      back f = subst In (sym (first_piece white vs)) (follows-says (In (front white vs ∷ others white vs)) v vs f (λ d l. inl ((first-exactly vs).1 l)) (λ g. inr (h.1 g)))

  -- in the empty text nothing follows white space
  no-others : ¬ (Follows [])
  no-others f = go f.earlier f.split
    where
      go : (e : List ℕ) → [] ≡ e ++ (f.blank ∷ f.rest) → ⊥
      go [] s = absurd (omega (arith, ap length s))
      go (x ∷ e) s = absurd (omega (arith, ap length s))

  -- w is one of the pieces behind the first exactly if it follows some white space of the text
  others-exactly : (t : List ℕ) → Exactly (In (others white t)) (Follows t)
  unfolding others
  others-exactly [] = ((λ q. absurd q), (λ f. absurd (no-others f)))
  others-exactly (v ∷ vs) = others_by (white v) v vs refl (others-exactly vs)

  -- ---- all pieces: w begins a text, or what stands behind some white space of it, exactly if w is parted from the rest of the text
  -- w leads a text or follows some white space of it exactly if it is parted from the rest
  parted-exactly : (t : List ℕ) → Exactly (Leads t ⊎ Follows t) (Parted white w t)
  parted-exactly t = (⊎_elim first later, back)
    where
      first : Leads t → Parted white w t
      first r = record { earlier = []; later = r.later; split = r.split; unbroken = r.unbroken; before = nothing-before; behind = r.begins }

      later : Follows t → Parted white w t
      later f =
          record {
            earlier = f.earlier ++ (f.blank ∷ []);
            later = f.leads.later;
            split = f.split ∙ ap (λ l. f.earlier ++ (f.blank ∷ l)) f.leads.split ∙ sym (append_assoc f.earlier (f.blank ∷ []) (w ++ f.leads.later));
            unbroken = f.leads.unbroken;
            before = white-before f.earlier f.blank f.is_white;
            behind = f.leads.begins;
          }

      back : Parted white w t → Leads t ⊎ Follows t
      back r = go r.earlier r.before r.split
        where
          leads : (l : List ℕ) → l ≡ w ++ r.later → Leads l
          leads l e = record { later = r.later; split = e; unbroken = r.unbroken; begins = r.behind }

          go : (e : List ℕ) → EndsInWhite white e → t ≡ e ++ (w ++ r.later) → Leads t ⊎ Follows t
          go e nothing-before s = inl (leads t s)
          go e (white-before p v h) s =
              inr (record { earlier = p; blank = v; rest = w ++ r.later; split = s ∙ append_assoc p (v ∷ []) (w ++ r.later); is_white = h; leads = leads (w ++ r.later) refl })

  -- w is a piece of a text exactly if it is parted from the rest of the text
  pieces-exactly : (t : List ℕ) → Exactly (In (pieces white t)) (Parted white w t)
  pieces-exactly t =
      exactly-then _ _ _ (subst In (first_piece white t), subst In (sym (first_piece white t)))
      (exactly-then (In (front white t ∷ others white t)) (Leads t ⊎ Follows t) (Parted white w t) (exactly-either _ _ _ _ (first-exactly t) (others-exactly t)) (parted-exactly t))

  -- ---- words are the pieces that have a character
  -- w is among the pieces that are kept exactly if it has a character and is a piece
  kept-exactly : (ps : List (List ℕ)) → Exactly (In (without_empty ps)) ((¬ (w ≡ [])) × In ps)
  unfolding without_empty
  kept-exactly [] = ((λ q. absurd q), (λ q. q.1))
  kept-exactly ([] ∷ ps) =
      let h = kept-exactly ps in
      ((λ q. let m = h.0 q in (m.0, inr m.1)), (λ q. ⊎_elim (λ (e : [] ≡ w). absurd (q.0 (sym e))) (λ (m : In ps). h.1 (q.0, m)) q.1))
  kept-exactly ((v ∷ p) ∷ ps) =
      let h = kept-exactly ps in (
        ⊎_elim (λ (e : v ∷ p ≡ w). ((λ z. absurd (omega (arith, ap length (e ∙ z)))), inl e)) (λ (m : In (without_empty ps)). ((h.0 m).0, inr (h.0 m).1)),
        (λ q. ⊎_elim (λ (e : v ∷ p ≡ w). inl e) (λ (m : In ps). inr (h.1 (q.0, m))) q.1),
      )

  -- by section 6.3.1 of Selectors Level 3 (the number is from memory): the words are what white space parts, none of them is empty, and none has white space in it
  pub word-parted : (t : List ℕ) → Exactly (Some (λ x. x ≡ w) (words white t)) ((¬ (w ≡ [])) × Parted white w t)
  unfolding words
  word-parted t =
      exactly-then _ _ _ (kept-exactly (pieces white t))
      ((λ q. (q.0, (pieces-exactly t).0 q.1)), (λ q. (q.0, (pieces-exactly t).1 q.1)))
