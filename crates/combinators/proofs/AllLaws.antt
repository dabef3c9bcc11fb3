-- Lists of which something holds value by value.
use mathlib.Core.Path.{sym, subst}
use mathlib.Core.List.{List, [], ◌∷◌, ◌++◌, map, reverse, reverse-cons}
use Rattle.combinators.specs.All.{All}

-- what holds of the values of two lists holds of both lists' values
pub all_append : {A : Type 0} (P : A → Type 0) (xs ys : List A) → All P xs → All P ys → All P (xs ++ ys)
all_append P [] ys p q = q
all_append P (x ∷ xs) ys p q = (p.0, all_append P xs ys p.1 q)

-- what holds of every member of a list holds of every member of its reverse
pub all-reverse : {A : Type 0} (P : A → Type 0) (xs : List A) → All P xs → All P (reverse xs)
all-reverse P [] p = tt
all-reverse P (x ∷ xs) p =
    subst (All P) (sym (reverse-cons x xs)) (all_append P (reverse xs) (x ∷ []) (all-reverse P xs p.1) (p.0, tt))

-- what holds of each value of a list, carried over to their images, holds of each of these
pub all_map : {A B : Type 0} (P : A → Type 0) (Q : B → Type 0) (f : A → B) → ((a : A) → P a → Q (f a)) → (xs : List A) → All P xs → All Q (map f xs)
all_map P Q f h [] p = tt
all_map P Q f h (x ∷ xs) p = (h x p.0, all_map P Q f h xs p.1)

-- what follows from what holds of every member holds of every member
pub all_weaker : {A : Type 0} (P Q : A → Type 0) → ((a : A) → P a → Q a) → (xs : List A) → All P xs → All Q xs
all_weaker P Q h [] p = tt
all_weaker P Q h (x ∷ xs) p = (h x p.0, all_weaker P Q h xs p.1)

-- where two things hold of every member, so does what follows from both
pub all_both : {A : Type 0} (P Q R : A → Type 0) → ((a : A) → P a → Q a → R a) → (xs : List A) → All P xs → All Q xs → All R xs
all_both P Q R h [] p q = tt
all_both P Q R h (x ∷ xs) p q = (h x p.0 q.0, all_both P Q R h xs p.1 q.1)

-- what holds of every value holds of those of a list
pub of-all : {A : Type 0} (P : A → Type 0) → ((a : A) → P a) → (l : List A) → All P l
of-all P f [] = tt
of-all P f (a ∷ l) = (f a, of-all P f l)
