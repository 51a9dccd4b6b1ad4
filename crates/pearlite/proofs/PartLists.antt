-- Parts by their order, where the last one stands first.
use Rattle.std.proofs.Common.{◌≡◌, ◌<◌, List, [], ◌∷◌, ◌++◌, Some, length, reverse, take, drop, get_or, refl, ap, ◌∙◌, arith}
use Rattle.std.proofs.lemmas.List.{reverse-reverse}
use Rattle.pearlite.specs.declared.part.Part.{Part}
use Rattle.pearlite.specs.Parts.{nothing, first, others, last, front, alone}

first_item : (items : List Part) (x : Part) → 0 < length items → x ≡ get_or items 0 x → x ≡ first items
unfolding first
first_item [] x h e = absurd (omega arith)
first_item (y ∷ ys) x h e = e

pub last_taken : (items : List Part) (x : Part) → 0 < length items → x ≡ get_or items 0 x → x.value ≡ (last (reverse items)).value
last_taken items x h e = rw reverse-reverse (ap (λ (p : Part). p.value) (first_item items x h e))

other_items : (items : List Part) → take 0 items ++ drop 1 items ≡ others items
unfolding others
other_items [] = refl
other_items (y ∷ ys) = refl

pub front_left : (items new : List Part) → new ≡ take 0 items ++ drop 1 items → reverse new ≡ front (reverse items)
front_left items new e = rw reverse-reverse (ap reverse (e ∙ other_items items))

pub alone_is : (parts rest : List Part) (part : Part) → length parts ≡ 3 → others parts ≡ part ∷ rest → Some part.value ≡ alone parts
unfolding others alone
alone_is [] rest part n e = absurd (omega arith)
alone_is (a ∷ []) rest part n e = absurd (omega arith)
alone_is (a ∷ b ∷ []) rest part n e = absurd (omega arith)
alone_is (a ∷ b ∷ c ∷ []) rest part n e = cc
alone_is (a ∷ b ∷ c ∷ d ∷ ds) rest part n e = absurd (omega arith)

pub two_more : (parts : List Part) → length parts ≡ 3 → others parts ≡ [] → ⊥
unfolding others
two_more [] n e = omega arith
two_more (a ∷ []) n e = omega arith
two_more (a ∷ b ∷ bs) n e = cc

none : (items : List Part) → length items ≡ 0 → nothing ≡ first items
unfolding first
none [] e = refl
none (x ∷ xs) e = absurd (omega arith)

pub none_taken : (items : List Part) → length items ≡ 0 → nothing.value ≡ (last (reverse items)).value
none_taken items e = rw reverse-reverse (ap (λ (p : Part). p.value) (none items e))

no_others : (items : List Part) → length items ≡ 0 → items ≡ others items
unfolding others
no_others [] e = refl
no_others (x ∷ xs) e = absurd (omega arith)

pub none_left : (items : List Part) → length items ≡ 0 → reverse items ≡ front (reverse items)
none_left items e = rw reverse-reverse (ap reverse (no_others items e))
