-- Jumps out of loops and back to their heads: the innermost loop, and the ends of what is bound inside of it.
use Rattle.std.proofs.Common.{◌≡◌, ◌⊎◌, inl, inr, refl, ap, sym, ◌∙◌, ℕ, zero, suc, ◌-◌, List, [], ◌∷◌, ◌++◌, map, drop, reverse, length, length-append, Some, slice_get, arith}
use Rattle.std.proofs.lemmas.List.{reverse-append, map_push}
use Rattle.text_core.specs.declared.span.Span.{Span}
use Rattle.mir_ir.specs.declared.place.Place.{Place}
use Rattle.mir_build.specs.declared.around.Loop.{Loop}
use Rattle.mir_build.specs.Text.{Line}
use Rattle.mir_build.specs.Lowering.{heads, dies}
use Rattle.mir_build.proofs.Basics.{some_same}
use Rattle.mir_build.proofs.LawLists.{Has, here, there}
use Rattle.mir_build.proofs.Numbers.{turns, turns-append}

-- ---- the innermost loop

last_at : (ls : List Loop) (l : Loop) → slice_get (ls ++ l ∷ []) (length ls) ≡ Some l
last_at [] l = refl
last_at (k ∷ ls) l = last_at ls l

-- it is the last one
pub innermost_last : (ls : List Loop) (l m : Loop) → slice_get (ls ++ l ∷ []) (length (ls ++ l ∷ []) - 1) ≡ Some m → m ≡ l
innermost_last ls l m e =
    let n : length ls ≡ length (ls ++ l ∷ []) - 1 = omega (arith, length-append ls (l ∷ [])) in
    some_same (sym e ∙ ap (slice_get (ls ++ l ∷ [])) (sym n) ∙ last_at ls l)

pub heads_more : (ls : List Loop) (l : Loop) → heads (ls ++ l ∷ []) ≡ heads ls ++ l.head ∷ []
heads_more ls l = map_push (λ (k : Loop). k.head) ls l

-- ---- the ends of bindings

abbrev pub deaths : Span → List Place → List Line
deaths s ps = reverse (map (λ (p : Place). dies s p.local) ps)

-- that of the first one comes last
pub first_dies_last : (s : Span) (p : Place) (ps : List Place) → deaths s (p ∷ ps) ≡ deaths s ps ++ dies s p.local ∷ []
first_dies_last s p ps = reverse-append (dies s p.local ∷ []) (map (λ (q : Place). dies s q.local) ps)

pub no_deaths_turn : (s : Span) (ps : List Place) → turns (deaths s ps) ≡ 0
no_deaths_turn s [] = refl
no_deaths_turn s (p ∷ ps) = omega (arith, ap turns (first_dies_last s p ps), turns-append (deaths s ps) (dies s p.local ∷ []), no_deaths_turn s ps)

-- ---- places behind the first n

nothing_left : {A : Type 0} {x : A} (n : ℕ) → Has x (drop n []) → ⊥
nothing_left zero h = elim h [ ]
nothing_left (suc n) h = elim h [ ]

pub has_drop : {A : Type 0} {x : A} (n : ℕ) (xs : List A) → Has x (drop n xs) → Has x xs
has_drop zero xs h = h
has_drop (suc n) [] h = h
has_drop (suc n) (y ∷ xs) h = there (has_drop n xs h)

pub has_last : {A : Type 0} (xs : List A) (t x : A) → Has x (xs ++ t ∷ []) → Has x xs ⊎ (x ≡ t)
has_last [] t x here = inr refl
has_last [] t x (there h) = elim h [ ]
has_last (y ∷ xs) t x here = inl here
has_last (y ∷ xs) t x (there h) = by_case (has_last xs t x h)
  where
    by_case : Has x xs ⊎ (x ≡ t) → Has x (y ∷ xs) ⊎ (x ≡ t)
    by_case (inl g) = inl (there g)
    by_case (inr e) = inr e

-- with one more at the end
pub has_drop_last : {A : Type 0} (n : ℕ) (xs : List A) (t x : A) → Has x (drop n (xs ++ t ∷ [])) → Has x (drop n xs) ⊎ (x ≡ t)
has_drop_last zero xs t x h = has_last xs t x h
has_drop_last (suc n) [] t x h = absurd (nothing_left n h)
has_drop_last (suc n) (y ∷ xs) t x h = has_drop_last n xs t x h
