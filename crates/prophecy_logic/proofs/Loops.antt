-- What the acts of a statement or an end do to a local, part by part.
use Rattle.std.proofs.Common.{◌≡◌, ◌∙◌, refl, sym, ap, ℕ, ◌==◌, ◌||◌, Bool, true, false, List, [], ◌∷◌, ◌++◌}
use Rattle.std.specs.List.{list_any}
use Rattle.mir_ir.specs.declared.place.Operand.{Operand}
use Rattle.mir_ir.specs.declared.place.Place.{Place}
use Rattle.mir_ir.specs.Acts.{Act, writes, acts_of_operand, acts_of_operands}
use Rattle.prophecy_logic.specs.Loop.{touches, one_touches}

or_assoc : (a b c : Bool) → (a || (b || c)) ≡ ((a || b) || c)
or_assoc true b c = refl
or_assoc false b c = refl

pub or_false : (a : Bool) → (a || false) ≡ a
or_false true = refl
or_false false = refl

-- of acts one behind another
pub of_both : (x : ℕ) (first rest : List Act) → one_touches x (first ++ rest) ≡ (one_touches x first || one_touches x rest)
of_both x [] rest = refl
of_both x (a ∷ first) rest = ap (λ t. touches x a || t) (of_both x first rest) ∙ or_assoc (touches x a) (one_touches x first) (one_touches x rest)

pub of_operands : (x : ℕ) (os : List Operand) → one_touches x (acts_of_operands os) ≡ list_any (λ o. one_touches x (acts_of_operand o)) os
of_operands x [] = refl
of_operands x (o ∷ os) = of_both x (acts_of_operand o) (acts_of_operands os) ∙ ap (λ t. one_touches x (acts_of_operand o) || t) (of_operands x os)

-- what is written last
pub of_written : (x : ℕ) (first : List Act) (p : Place) → one_touches x (first ++ writes p ∷ []) ≡ (one_touches x first || (p.local == x))
of_written x first p = of_both x first (writes p ∷ []) ∙ ap (λ t. one_touches x first || t) (or_false (p.local == x))

last_false : (a b : Bool) → (a || b) ≡ false → b ≡ false
last_false true b e = absurd (cc)
last_false false b e = e

last_true : (a b : Bool) → b ≡ true → (a || b) ≡ true
last_true true b e = refl
last_true false b e = e

pub not_written : (x : ℕ) (first : List Act) (p : Place) → one_touches x (first ++ writes p ∷ []) ≡ false → (p.local == x) ≡ false
not_written x first p e = last_false (one_touches x first) (p.local == x) (sym (of_written x first p) ∙ e)

pub is_written : (x : ℕ) (first : List Act) (p : Place) → (p.local == x) ≡ true → one_touches x (first ++ writes p ∷ []) ≡ true
is_written x first p e = of_written x first p ∙ last_true (one_touches x first) (p.local == x) e
