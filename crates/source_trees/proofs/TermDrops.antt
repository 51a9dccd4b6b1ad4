-- The parts of a term that are dropped with it are smaller than it.
use Rattle.std.proofs.Common.{◌≡◌, ◌∙◌, ℕ, ◌+◌, ◌*◌, ◌≤◌, max, List, [], ◌∷◌, Vec, Global, refl, arith, ap, sym, subst}
use denote.Param.Weighed.{most, w_this}
use Rattle.text_core.specs.declared.span.Span.{Span}
use Rattle.source_trees.specs.declared.pterm.FieldTerm.{FieldTerm}
use Rattle.source_trees.specs.declared.pterm.TermArm.{TermArm}
use Rattle.source_trees.specs.declared.pterm.PtermNode.{PtermNode}
use Rattle.source_trees.specs.declared.pterm.PtermNode.TheVariants as node
use Rattle.source_trees.specs.declared.pterm.Pterm.TheDeep.{size-FieldTerm, size-Pterm, size-TermArm}
use Rattle.source_trees.specs.declared.operator.Predicate.{Predicate}
use Rattle.source_trees.specs.declared.path.Path.{Path}
use Rattle.source_trees.specs.declared.path.Segment.{Segment}
use Rattle.source_trees.specs.Pterm.{Pterm}
use Rattle.source_trees.specs.PtermView.{arms_of, arms_size, field_terms_of, field_terms_size, pterm_of, pterm_size, terms_of, terms_size}

term_is : (x : Pterm) → w_this.weight Pterm size-Pterm x ≡ 3 * (pterm_size x + 1) + 0
term_is x = refl

most_terms : (xs : List Pterm) → most (w_this.weight Pterm size-Pterm) xs ≤ 3 * terms_size (terms_of xs)
most_terms [] = omega arith
most_terms (x ∷ xs) = omega (arith, term_is x, most_terms xs)

field_is : (x : FieldTerm) → w_this.weight FieldTerm size-FieldTerm x ≡ 3 * max (pterm_size x.value + 1) 0 + 1
field_is x = refl

most_fields : (xs : List FieldTerm) → most (w_this.weight FieldTerm size-FieldTerm) xs ≤ 3 * field_terms_size (field_terms_of xs) + 1
most_fields [] = omega arith
most_fields (x ∷ xs) = omega (arith, field_is x, most_fields xs)

arm_is : (x : TermArm) → w_this.weight TermArm size-TermArm x ≡ 3 * max (pterm_size x.body + 1) 0 + 1
arm_is x = refl

most_arms : (xs : List TermArm) → most (w_this.weight TermArm size-TermArm) xs ≤ 3 * arms_size (arms_of xs) + 1
most_arms [] = omega arith
most_arms (x ∷ xs) = omega (arith, arm_is x, most_arms xs)

-- what it is seen to be at its top
seen : (e : Pterm) (s : Span) (n m k : PtermNode) → pterm_of s n ≡ e → m ≡ n → m ≡ k → pterm_of s k ≡ e
seen e s n m k v d is = ap (pterm_of s) (sym is ∙ d) ∙ v

pub method_falls : (e : Pterm) (s : Span) (n m : PtermNode) (l : Pterm) (f : Segment) (ts : Vec Pterm Global) → pterm_of s n ≡ e → m ≡ n → m ≡ node.Method l f ts → most (w_this.weight Pterm size-Pterm) ts.items + 3 ≤ 3 * (pterm_size e + 1)
method_falls e s n m l f ts v d is =
    subst (λ x. most (w_this.weight Pterm size-Pterm) ts.items + 3 ≤ 3 * (pterm_size x + 1)) (seen e s n m (node.Method l f ts) v d is)
    (let h : most (w_this.weight Pterm size-Pterm) ts.items ≤ 3 * terms_size (terms_of ts.items) = most_terms ts.items in omega (arith, h))

pub call_falls : (e : Pterm) (s : Span) (n m : PtermNode) (p : Path) (ts : Vec Pterm Global) → pterm_of s n ≡ e → m ≡ n → m ≡ node.Call p ts → most (w_this.weight Pterm size-Pterm) ts.items + 3 ≤ 3 * (pterm_size e + 1)
call_falls e s n m p ts v d is =
    subst (λ x. most (w_this.weight Pterm size-Pterm) ts.items + 3 ≤ 3 * (pterm_size x + 1)) (seen e s n m (node.Call p ts) v d is)
    (let h : most (w_this.weight Pterm size-Pterm) ts.items ≤ 3 * terms_size (terms_of ts.items) = most_terms ts.items in omega (arith, h))

pub literal_falls : (e : Pterm) (s : Span) (n m : PtermNode) (p : Path) (fs : Vec FieldTerm Global) → pterm_of s n ≡ e → m ≡ n → m ≡ node.Literal p fs → most (w_this.weight FieldTerm size-FieldTerm) fs.items + 3 ≤ 3 * (pterm_size e + 1)
literal_falls e s n m p fs v d is =
    subst (λ x. most (w_this.weight FieldTerm size-FieldTerm) fs.items + 3 ≤ 3 * (pterm_size x + 1)) (seen e s n m (node.Literal p fs) v d is)
    (let h : most (w_this.weight FieldTerm size-FieldTerm) fs.items ≤ 3 * field_terms_size (field_terms_of fs.items) + 1 = most_fields fs.items in omega (arith, h))

pub tuple_falls : (e : Pterm) (s : Span) (n m : PtermNode) (ts : Vec Pterm Global) → pterm_of s n ≡ e → m ≡ n → m ≡ node.Tuple ts → most (w_this.weight Pterm size-Pterm) ts.items + 3 ≤ 3 * (pterm_size e + 1)
tuple_falls e s n m ts v d is =
    subst (λ x. most (w_this.weight Pterm size-Pterm) ts.items + 3 ≤ 3 * (pterm_size x + 1)) (seen e s n m (node.Tuple ts) v d is)
    (let h : most (w_this.weight Pterm size-Pterm) ts.items ≤ 3 * terms_size (terms_of ts.items) = most_terms ts.items in omega (arith, h))

pub match_falls : (e : Pterm) (s : Span) (n m : PtermNode) (l : Pterm) (as' : Vec TermArm Global) → pterm_of s n ≡ e → m ≡ n → m ≡ node.Match l as' → most (w_this.weight TermArm size-TermArm) as'.items + 3 ≤ 3 * (pterm_size e + 1)
match_falls e s n m l as' v d is =
    subst (λ x. most (w_this.weight TermArm size-TermArm) as'.items + 3 ≤ 3 * (pterm_size x + 1)) (seen e s n m (node.Match l as') v d is)
    (let h : most (w_this.weight TermArm size-TermArm) as'.items ≤ 3 * arms_size (arms_of as'.items) + 1 = most_arms as'.items in omega (arith, h))

pub predicate_falls : (e : Pterm) (s : Span) (n m : PtermNode) (p : Predicate) (ts : Vec Pterm Global) → pterm_of s n ≡ e → m ≡ n → m ≡ node.Predicate p ts → most (w_this.weight Pterm size-Pterm) ts.items + 3 ≤ 3 * (pterm_size e + 1)
predicate_falls e s n m p ts v d is =
    subst (λ x. most (w_this.weight Pterm size-Pterm) ts.items + 3 ≤ 3 * (pterm_size x + 1)) (seen e s n m (node.Predicate p ts) v d is)
    (let h : most (w_this.weight Pterm size-Pterm) ts.items ≤ 3 * terms_size (terms_of ts.items) = most_terms ts.items in omega (arith, h))
