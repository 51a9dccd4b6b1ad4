-- The parts of lists of patterns are smaller than these.
use Rattle.std.proofs.Common.{◌≡◌, ℕ, zero, suc, ◌<◌, List, [], ◌∷◌, length, get_or, arith, ap}
use Rattle.source_trees.specs.declared.pattern.FieldPat.{FieldPat}
use Rattle.source_trees.specs.Pat.{Pat}
use Rattle.source_trees.specs.PatView.{pat_size, pats_size, field_pats_size, pats_of, field_pats_of}

smaller : (ps : List Pat) (i : ℕ) (d : Pat) → i < length ps → pat_size (get_or ps i d) < pats_size (pats_of ps)
smaller [] i d h = absurd (omega arith)
smaller (p ∷ ps) zero d h = omega arith
smaller (p ∷ ps) (suc i) d h = omega (arith, smaller ps i d (omega arith))

pub each_smaller : (ps : List Pat) (i : ℕ) (p : Pat) → p ≡ get_or ps i p → i < length ps → pat_size p < pats_size (pats_of ps)
each_smaller ps i p q h = omega (arith, ap pat_size q, smaller ps i p h)

pattern_smaller : (fs : List FieldPat) (i : ℕ) (d : FieldPat) → i < length fs → pat_size (get_or fs i d).pattern < field_pats_size (field_pats_of fs)
pattern_smaller [] i d h = absurd (omega arith)
pattern_smaller (f ∷ fs) zero d h = omega arith
pattern_smaller (f ∷ fs) (suc i) d h = omega (arith, pattern_smaller fs i d (omega arith))

pub field_smaller : (fs : List FieldPat) (i : ℕ) (f : FieldPat) → f ≡ get_or fs i f → i < length fs → pat_size f.pattern < field_pats_size (field_pats_of fs)
field_smaller fs i f q h = let g : FieldPat → ℕ = λ f. pat_size f.pattern in omega (arith, ap g q, pattern_smaller fs i f h)

pub ruleset parts = (each_smaller, field_smaller)
