-- Flat patterns: they are patterns of their type, and their tree is the one that rows give.
use Rattle.std.proofs.Common.{◌≡◌, refl, sym, ap, ◌∙◌, subst, ℕ, suc, ◌+◌, ℤ, Bool, true, false, cond, ◌||◌, Option, Some, None, List, [], ◌∷◌, inl, inr, slice_get, arith}
use Rattle.std.specs.Option.{option_map}
use Rattle.std.specs.Ordering.{int_eq}
use Rattle.source_kinds.specs.Range.{fits, lowest}
use Rattle.source_kinds.specs.declared.kinds.IntKind.{IntKind}
use Rattle.source_kinds.specs.declared.kinds.IntKind.TheVariants.{I8, I16, I32, I64, Isize, U8, U16, U32, U64, Usize}
use Rattle.logic_term.specs.Matches.{matches, bindings}
use Rattle.logic_term.specs.declared.declaration.AdtDecl.{AdtDecl}
use Rattle.logic_term.specs.Pattern.{Pat, wild, bound, literal, truth, shape}
use Rattle.logic_term.specs.Sort.{Declarations, HasSort, instance, of_int, of_bool, of_tuple, of_none}
use Rattle.logic_term.specs.Ty.{Ty, Tys, int, bool, tuple, no_tys, and_ty}
use Rattle.logic_term.specs.Value.{Value, Number, Flag, Made, no_values}
use Rattle.logic_term.specs.declared.kinds.Ctor.{Ctor}
use Rattle.logic_term.specs.declared.kinds.Ctor.TheVariants.{Tuple, Variant, Closure}
use Rattle.pat_check.proofs.Filling.{filled}
use Rattle.pat_check.proofs.FlatIntegers.{lowest_fits, all_are_among, some_is_left}
use Rattle.pat_check.proofs.OneTree.{Looks, looks, looks_all, branches_one, tree_one}
use Rattle.pat_check.proofs.Refined.{Refines, refines_anything, refines_number, refines_other}
use Rattle.pat_check.proofs.Sorts.{looks as sort_looks}
use Rattle.pat_check.proofs.Tests.{both, int_self, int_differ}
use Rattle.pat_check.specs.Branches.{AreIntegerBranches, AreBranches}
use Rattle.pat_check.specs.Decision.{Decision, leaf, if_truth, if_literal}
use Rattle.pat_check.specs.Flat.{has_literal, is_bool, is_flat, all_flat, all_among, integer_rows, truth_rows, both_sides, first_row, truth_tree, flat_tree, FlatDecision, at_leaf, on_truth, on_literal}
use Rattle.pat_check.specs.Kinds.{same_int}
use Rattle.pat_check.specs.Known.{Known, anything, other, number, flag, among, excluded}
use Rattle.pat_check.specs.KnownTypes.{SomeLeft, AllAmong}
use Rattle.pat_check.specs.PatValue.{PatValue, PatValues, any, integer, truth as truth_value, made, no_parts, and_part, IsPatValue, ArePatValues, Fillable, AreFillable, Missing}
use Rattle.pat_check.specs.Rows.{no_row, row, test, by_status, next}
use Rattle.pat_check.specs.Status.{Status, fails, sure, asks, status, literal_status}
use Rattle.pat_check.specs.Tree.{IsTree, AreTrees, IsTreeOf, is_leaf, is_node, no_trees, and_tree}
use Rattle.pat_check.specs.Typed.{fields_in, core, integers, is_integer, IsPat, AllPats, some_match, Covers}
use Rattle.pat_check.specs.declared.test.Test.TheVariants as by

-- ---- patterns of the type

pub kinds_same : (k j : IntKind) → same_int k j ≡ true → k ≡ j
kinds_same I8 I8 e = refl
kinds_same I16 I16 e = refl
kinds_same I32 I32 e = refl
kinds_same I64 I64 e = refl
kinds_same Isize Isize e = refl
kinds_same U8 U8 e = refl
kinds_same U16 U16 e = refl
kinds_same U32 U32 e = refl
kinds_same U64 U64 e = refl
kinds_same Usize Usize e = refl
kinds_same k j e = absurd (cc)

-- the literal is of the integer type itself
pub kind_is : (k : IntKind) (i : Option IntKind) (z : ℤ) → has_literal (int k) i z ≡ true → (i ≡ Some k) × (fits k z ≡ true)
kind_is k None z e = absurd (cc)
kind_is k (Some j) z e = let g = both (same_int k j) (fits k z) e in (ap Some (sym (kinds_same k j g.0)), g.1)

literal_typed : (t : Ty) (i : Option IntKind) (z : ℤ) → has_literal t i z ≡ true → (core t ≡ integers i) × (is_integer i z ≡ true)
literal_typed (int k) i z e = let g = kind_is k i z e in subst (λ j. (int k ≡ integers j) × (is_integer j z ≡ true)) (sym g.0) (refl, g.1)
literal_typed t i z e = absurd (cc)

truth_typed : (t : Ty) → is_bool t ≡ true → core t ≡ bool
truth_typed bool e = refl
truth_typed t e = absurd (cc)

flat_typed : (Δ : Declarations) (t : Ty) (p : Pat) → is_flat t p ≡ true → IsPat Δ p t
flat_typed Δ t (wild s) e = tt
flat_typed Δ t (bound s x m) e = tt
flat_typed Δ t (literal s i z) e = literal_typed t i z e
flat_typed Δ t (truth s b) e = truth_typed t e
flat_typed Δ t (shape s c ps) e = absurd (cc)

pub flat_patterns_typed : (Δ : Declarations) (t : Ty) (ps : List Pat) → all_flat t ps ≡ true → AllPats Δ ps t
flat_patterns_typed Δ t [] e = tt
flat_patterns_typed Δ t (p ∷ ps) e = let g = both (is_flat t p) (all_flat t ps) e in (flat_typed Δ t p g.0, flat_patterns_typed Δ t ps g.1)

-- ---- what the trees are made of

-- from number n on, the patterns are these
abbrev FromRow : List Pat → ℕ → List Pat → Type 0
FromRow all n ps = (i : ℕ) → slice_get all (i + n) ≡ slice_get ps i

from_start : (all : List Pat) → FromRow all 0 all
from_start all i = ap (slice_get all) (let e : i + 0 ≡ i = omega arith in e)

from_next : (all : List Pat) (n : ℕ) (p : Pat) (ps : List Pat) → FromRow all n (p ∷ ps) → FromRow all (suc n) ps
from_next all n p ps h i = ap (slice_get all) (let e : i + suc n ≡ suc i + n = omega arith in e) ∙ h (suc i)

row_leaf : (t : Ty) (all : List Pat) (n : ℕ) (p : Pat) (ps : List Pat) (D : Decision) → FromRow all n (p ∷ ps) → Some (leaf n (bindings p)) ≡ Some D
    → FlatDecision t all D
row_leaf t all n p ps D h e =
    let same : leaf n (bindings p) ≡ D = cc in
    subst (FlatDecision t all) same (at_leaf {n = n} p (ap (slice_get all) (let f : n ≡ 0 + n = omega arith in f) ∙ h 0))

-- each decision that there is, is one of these
abbrev IfTree : Ty → List Pat → Option Decision → Type 0
IfTree t ps m = (D : Decision) → m ≡ Some D → FlatDecision t ps D

if_no_tree : (t : Ty) (ps : List Pat) → IfTree t ps None
if_no_tree t ps D e = absurd (cc)

literal_decision : (k : IntKind) (all : List Pat) (n : ℕ) (p : Pat) (ps : List Pat) (z : ℤ) → bindings p ≡ [] → fits k z ≡ true → FromRow all n (p ∷ ps)
    → (a b : Bool) (R S : Option Decision) → IfTree (int k) all R → IfTree (int k) all S
    → IfTree (int k) all (cond a R (cond b (Some (leaf n [])) (option_map (if_literal [] z (leaf n [])) S)))
literal_decision k all n p ps z none f h true b R S r s D e = r D e
literal_decision k all n p ps z none f h false true R S r s D e = row_leaf (int k) all n p ps D h (ap (λ bs. Some (leaf n bs)) none ∙ e)
literal_decision k all n p ps z none f h false false R None r s D e = absurd (cc)
literal_decision k all n p ps z none f h false false R (Some E) r s D e =
    let same : if_literal [] z (leaf n []) E ≡ D = cc in
    subst (FlatDecision (int k) all) same (on_literal k refl f (row_leaf (int k) all n p ps (leaf n []) h (ap (λ bs. Some (leaf n bs)) none)) (s E refl))

integer_decision : (k : IntKind) (all : List Pat) (zs : List ℤ) (n : ℕ) (ps : List Pat) → all_flat (int k) ps ≡ true → FromRow all n ps
    → IfTree (int k) all (integer_rows k zs n ps)
integer_decision k all zs n [] f h = if_no_tree (int k) all
integer_decision k all zs n (wild s ∷ ps) f h = λ D e. row_leaf (int k) all n (wild s) ps D h e
integer_decision k all zs n (bound s x m ∷ ps) f h = λ D e. row_leaf (int k) all n (bound s x m) ps D h e
integer_decision k all zs n (literal s i z ∷ ps) f h =
    let g = both (has_literal (int k) i z) (all_flat (int k) ps) f in
    let more = from_next all n (literal s i z) ps h in
    literal_decision k all n (literal s i z) ps z refl (kind_is k i z g.0).1 h (among z zs) (all_among k (z ∷ zs))
    (integer_rows k zs (suc n) ps) (integer_rows k (z ∷ zs) (suc n) ps)
    (integer_decision k all zs (suc n) ps g.1 more) (integer_decision k all (z ∷ zs) (suc n) ps g.1 more)
integer_decision k all zs n (truth s b ∷ ps) f h = if_no_tree (int k) all
integer_decision k all zs n (shape s c us ∷ ps) f h = if_no_tree (int k) all

truth_decision : (b : Bool) (all : List Pat) (n : ℕ) (ps : List Pat) → FromRow all n ps → IfTree bool all (truth_rows b n ps)
truth_decision b all n [] h = if_no_tree bool all
truth_decision b all n (wild s ∷ ps) h = λ D e. row_leaf bool all n (wild s) ps D h e
truth_decision b all n (bound s x m ∷ ps) h = λ D e. row_leaf bool all n (bound s x m) ps D h e
truth_decision true all n (truth s true ∷ ps) h = λ D e. row_leaf bool all n (truth s true) ps D h e
truth_decision true all n (truth s false ∷ ps) h = truth_decision true all (suc n) ps (from_next all n (truth s false) ps h)
truth_decision false all n (truth s true ∷ ps) h = truth_decision false all (suc n) ps (from_next all n (truth s true) ps h)
truth_decision false all n (truth s false ∷ ps) h = λ D e. row_leaf bool all n (truth s false) ps D h e
truth_decision b all n (literal s i z ∷ ps) h = if_no_tree bool all
truth_decision b all n (shape s c us ∷ ps) h = if_no_tree bool all

both_decision : (ps : List Pat) (A B : Option Decision) → IfTree bool ps A → IfTree bool ps B → IfTree bool ps (both_sides A B)
both_decision ps None B a b F e = absurd (cc)
both_decision ps (Some D) None a b F e = absurd (cc)
both_decision ps (Some D) (Some E) a b F e =
    let same : if_truth [] D E ≡ F = cc in
    subst (FlatDecision bool ps) same (on_truth refl (a D refl) (b E refl))

truth_tree_decision : (ps : List Pat) → IfTree bool ps (truth_tree ps)
truth_tree_decision [] = if_no_tree bool []
truth_tree_decision (wild s ∷ ps) = λ D e. row_leaf bool (wild s ∷ ps) 0 (wild s) ps D (from_start (wild s ∷ ps)) e
truth_tree_decision (bound s x m ∷ ps) = λ D e. row_leaf bool (bound s x m ∷ ps) 0 (bound s x m) ps D (from_start (bound s x m ∷ ps)) e
truth_tree_decision (truth s b ∷ ps) =
    let all : List Pat = truth s b ∷ ps in
    both_decision all (truth_rows true 0 all) (truth_rows false 0 all) (truth_decision true all 0 all (from_start all)) (truth_decision false all 0 all (from_start all))
truth_tree_decision (literal s i z ∷ ps) = if_no_tree bool (literal s i z ∷ ps)
truth_tree_decision (shape s c us ∷ ps) = if_no_tree bool (shape s c us ∷ ps)

first_decision : (t : Ty) (ps : List Pat) → IfTree t ps (first_row ps)
first_decision t [] = if_no_tree t []
first_decision t (p ∷ ps) = λ D e. row_leaf t (p ∷ ps) 0 p ps D (from_start (p ∷ ps)) e

pub flat_decision : (t : Ty) (ps : List Pat) (D : Decision) → all_flat t ps ≡ true → flat_tree t ps ≡ Some D → FlatDecision t ps D
flat_decision (int k) ps D f e = integer_decision k ps [] 0 ps f (from_start ps) D e
flat_decision bool ps D f e = truth_tree_decision ps D e
flat_decision t ps D f e = first_decision t ps D e

-- ---- the trees of rows

-- Some: the tree of what is known; None: it has none
abbrev IsItsTree : List AdtDecl → List Pat → Known → Option Decision → Type 0
IsItsTree ds ps k None = (D : Decision) → IsTree ds ps k D → ⊥
IsItsTree ds ps k (Some D) = IsTree ds ps k D

no_tree_left : (ds : List AdtDecl) (ps : List Pat) (k : Known) → next 0 ps k ≡ no_row → IsItsTree ds ps k None
no_tree_left ds ps k e D tree = subst (Looks ds ps k D) e (looks ds ps k D tree)

leaf_there : (ds : List AdtDecl) (ps : List Pat) (k : Known) (n : ℕ) (p : Pat) → next 0 ps k ≡ row n p → IsItsTree ds ps k (Some (leaf n (bindings p)))
leaf_there ds ps k n p e = is_leaf {k = k} {n = n} {p = p} e

-- whatever says no less than k leaves these rows, from number n on
abbrev Passed : List Pat → Known → ℕ → List Pat → Type 0
Passed all k n ps = (x : Known) → Refines x k → next 0 all x ≡ next n ps x

passed_more : (all : List Pat) (k : Known) (n : ℕ) (p : Pat) (ps : List Pat) → status p k ≡ fails → Passed all k n (p ∷ ps) → Passed all k (suc n) ps
passed_more all k n p ps f h x r = h x r ∙ ap (λ s. by_status s n p (next (suc n) ps x)) (r p f)

passed_on : (all : List Pat) (k y : Known) (n : ℕ) (ps : List Pat) → Refines y k → Passed all k n ps → Passed all y n ps
passed_on all k y n ps f h x r = h x (λ q s. r q (f q s))

passed_here : (all : List Pat) (k : Known) (n : ℕ) (ps : List Pat) → Passed all k n ps → next 0 all k ≡ next n ps k
passed_here all k n ps h = h k (λ q s. s)

-- ---- integers

-- none of these
abbrev known_of : IntKind → List ℤ → Known
known_of k [] = anything
known_of k (z ∷ zs) = other (Some k) (z ∷ zs)

literal_known : (k : IntKind) (zs : List ℤ) (z : ℤ) (b : Bool) → among z zs ≡ b
    → literal_status (Some k) z (known_of k zs) ≡ cond b fails (asks [] (by.Number (Some k) z))
literal_known k [] z b e = ap (λ c. cond c fails (asks [] (by.Number (Some k) z))) e
literal_known k (y ∷ ys) z b e = ap (λ c. cond c fails (asks [] (by.Number (Some k) z))) e

excluded_known : (k : IntKind) (zs : List ℤ) → excluded (known_of k zs) ≡ zs
excluded_known k [] = refl
excluded_known k (z ∷ zs) = refl

number_refines : (k : IntKind) (zs : List ℤ) (z : ℤ) → among z zs ≡ false → Refines (number z) (known_of k zs)
number_refines k [] z e = refines_anything (number z)
number_refines k (y ∷ ys) z e = refines_number z (Some k) (y ∷ ys) e

other_refines : (k : IntKind) (zs : List ℤ) (z : ℤ) → Refines (other (Some k) (z ∷ zs)) (known_of k zs)
other_refines k [] z = refines_anything (other (Some k) (z ∷ []))
other_refines k (y ∷ ys) z = refines_other z (Some k) (Some k) (y ∷ ys)

equal_fails : (b c : Bool) (s : Status) → b ≡ true → cond (b || c) fails s ≡ fails
equal_fails true c s e = refl
equal_fails false c s e = absurd (cc)

-- where the row of a literal is reached, and it is none of zs
record AtLiteral (k : IntKind) (all : List Pat) (zs : List ℤ) (n : ℕ) (p : Pat) (z : ℤ) : Type 0 where
  pub asked : next 0 all (known_of k zs) ≡ test [] (by.Number (Some k) z)
  pub equal : next 0 all (number z) ≡ row n p

at_literal : (k : IntKind) (all : List Pat) (zs : List ℤ) (n : ℕ) (s : Ty) (z : ℤ) (ps : List Pat) → among z zs ≡ false
    → Passed all (known_of k zs) n (literal s (Some k) z ∷ ps)
    → AtLiteral k all zs n (literal s (Some k) z) z
at_literal k all zs n s z ps e h =
    let p : Pat = literal s (Some k) z in
    record {
      asked = passed_here all (known_of k zs) n (p ∷ ps) h ∙ ap (λ x. by_status x n p (next (suc n) ps (known_of k zs))) (literal_known k zs z false e);
      equal = h (number z) (number_refines k zs z e) ∙ ap (λ b. by_status (cond b sure fails) n p (next (suc n) ps (number z))) (int_self z);
    }

branches_of : (ds : List AdtDecl) (k : IntKind) (zs : List ℤ) (z : ℤ) (ks : List Known) → AreIntegerBranches (known_of k zs) [] (Some k) z (z ∷ zs) ks
    → AreBranches ds (known_of k zs) [] (by.Number (Some k) z) ks
branches_of ds k zs z ks a = subst (λ ys. AreIntegerBranches (known_of k zs) [] (Some k) z (z ∷ ys) ks) (sym (excluded_known k zs)) a

-- no other integer is left
last_literal : (ds : List AdtDecl) (k : IntKind) (all : List Pat) (zs : List ℤ) (n : ℕ) (p : Pat) (z : ℤ) → bindings p ≡ [] → AllAmong (Some k) (z ∷ zs)
    → AtLiteral k all zs n p z
    → IsItsTree ds all (known_of k zs) (Some (leaf n []))
last_literal ds k all zs n p z none a at =
    let tree : IsTree ds all (number z) (leaf n []) = subst (λ bs. IsTree ds all (number z) (leaf n bs)) none (leaf_there ds all (number z) n p at.equal) in
    is_node {k = known_of k zs} {q = []} {w = by.Number (Some k) z} {ks = number z ∷ []} {Ds = leaf n [] ∷ []} {D = leaf n []} at.asked
    (branches_of ds k zs z (number z ∷ []) (inl (a, refl))) (and_tree tree no_trees) (inl refl)

second_tree : (ds : List AdtDecl) (all : List Pat) (x y : Known) (Ds : List Decision) → AreTrees ds all (x ∷ y ∷ []) Ds → (D : Decision) × IsTree ds all y D
second_tree ds all x y Ds trees =
    let a = looks_all ds all (x ∷ y ∷ []) Ds trees in
    let b = looks_all ds all (y ∷ []) a.1 a.4 in
    (b.0, b.3)

-- another one is left
next_literal : (ds : List AdtDecl) (k : IntKind) (all : List Pat) (zs : List ℤ) (n : ℕ) (p : Pat) (z : ℤ) (S : Option Decision) → bindings p ≡ []
    → SomeLeft (Some k) (z ∷ zs) → AtLiteral k all zs n p z
    → IsItsTree ds all (other (Some k) (z ∷ zs)) S → IsItsTree ds all (known_of k zs) (option_map (if_literal [] z (leaf n [])) S)
next_literal ds k all zs n p z None none some at others = λ D tree.
    let answers : List Known = number z ∷ other (Some k) (z ∷ zs) ∷ [] in
    let l = subst (Looks ds all (known_of k zs) D) at.asked (looks ds all (known_of k zs) D tree) in
    let same : l.0 ≡ answers = branches_one ds (known_of k zs) [] (by.Number (Some k) z) l.0 answers l.2 (branches_of ds k zs z answers (inr (some, refl))) in
    let t = second_tree ds all (number z) (other (Some k) (z ∷ zs)) l.1 (subst (λ ks. AreTrees ds all ks l.1) same l.3) in
    others t.0 t.1
next_literal ds k all zs n p z (Some E) none some at others =
    let answers : List Known = number z ∷ other (Some k) (z ∷ zs) ∷ [] in
    let tree : IsTree ds all (number z) (leaf n []) = subst (λ bs. IsTree ds all (number z) (leaf n bs)) none (leaf_there ds all (number z) n p at.equal) in
    is_node {k = known_of k zs} {q = []} {w = by.Number (Some k) z} {ks = answers} {Ds = leaf n [] ∷ E ∷ []} {D = if_literal [] z (leaf n []) E} at.asked
    (branches_of ds k zs z answers (inr (some, refl))) (and_tree tree (and_tree others no_trees)) (inr (leaf n [], E, refl, refl))

literal_tree : (ds : List AdtDecl) (k : IntKind) (all : List Pat) (zs : List ℤ) (n : ℕ) (s : Ty) (z : ℤ) (ps : List Pat) (R S : Option Decision)
    → Passed all (known_of k zs) n (literal s (Some k) z ∷ ps)
    → (Passed all (known_of k zs) (suc n) ps → IsItsTree ds all (known_of k zs) R)
    → (Passed all (other (Some k) (z ∷ zs)) (suc n) ps → IsItsTree ds all (other (Some k) (z ∷ zs)) S)
    → IsItsTree ds all (known_of k zs) (cond (among z zs) R (cond (all_among k (z ∷ zs)) (Some (leaf n [])) (option_map (if_literal [] z (leaf n [])) S)))
literal_tree ds k all zs n s z ps R S h passed others = by_tests (among z zs) (all_among k (z ∷ zs)) refl refl
  where
    by_tests : (a b : Bool) → among z zs ≡ a → all_among k (z ∷ zs) ≡ b
        → IsItsTree ds all (known_of k zs) (cond a R (cond b (Some (leaf n [])) (option_map (if_literal [] z (leaf n [])) S)))
    by_tests true b e f = passed (passed_more all (known_of k zs) n (literal s (Some k) z) ps (literal_known k zs z true e) h)
    by_tests false true e f = last_literal ds k all zs n (literal s (Some k) z) z refl (all_are_among k (z ∷ zs) f) (at_literal k all zs n s z ps e h)
    by_tests false false e f = next_literal ds k all zs n (literal s (Some k) z) z S refl (some_is_left k (z ∷ zs) f) (at_literal k all zs n s z ps e h)
        (others (passed_more all (other (Some k) (z ∷ zs)) n (literal s (Some k) z) ps (equal_fails _ (among z zs) _ (int_self z))
        (passed_on all (known_of k zs) (other (Some k) (z ∷ zs)) n (literal s (Some k) z ∷ ps) (other_refines k zs z) h)))

integer_tree : (ds : List AdtDecl) (k : IntKind) (all : List Pat) (zs : List ℤ) (n : ℕ) (ps : List Pat) → all_flat (int k) ps ≡ true → Passed all (known_of k zs) n ps
    → IsItsTree ds all (known_of k zs) (integer_rows k zs n ps)
integer_tree ds k all zs n [] f h = no_tree_left ds all (known_of k zs) (passed_here all (known_of k zs) n [] h)
integer_tree ds k all zs n (wild s ∷ ps) f h = leaf_there ds all (known_of k zs) n (wild s) (passed_here all (known_of k zs) n (wild s ∷ ps) h)
integer_tree ds k all zs n (bound s x m ∷ ps) f h = leaf_there ds all (known_of k zs) n (bound s x m) (passed_here all (known_of k zs) n (bound s x m ∷ ps) h)
integer_tree ds k all zs n (literal s i z ∷ ps) f h =
    let g = both (has_literal (int k) i z) (all_flat (int k) ps) f in
    literal_tree ds k all zs n s z ps (integer_rows k zs (suc n) ps) (integer_rows k (z ∷ zs) (suc n) ps)
    (subst (λ j. Passed all (known_of k zs) n (literal s j z ∷ ps)) (kind_is k i z g.0).0 h)
    (integer_tree ds k all zs (suc n) ps g.1) (integer_tree ds k all (z ∷ zs) (suc n) ps g.1)
integer_tree ds k all zs n (truth s b ∷ ps) f h = absurd (cc)
integer_tree ds k all zs n (shape s c us ∷ ps) f h = absurd (cc)

-- ---- truth values

-- Some: the leaf of the row that is reached; None: no row is left
abbrev IsReached : List Pat → Known → ℕ → Option Decision → Type 0
IsReached ps k n None = next n ps k ≡ no_row
IsReached ps k n (Some D) = (m : ℕ) × (p : Pat) × (next n ps k ≡ row m p) × (D ≡ leaf m (bindings p))

truth_reached : (b : Bool) (n : ℕ) (ps : List Pat) → all_flat bool ps ≡ true → IsReached ps (flag b) n (truth_rows b n ps)
truth_reached b n [] f = refl
truth_reached b n (wild s ∷ ps) f = (n, wild s, refl, refl)
truth_reached b n (bound s x m ∷ ps) f = (n, bound s x m, refl, refl)
truth_reached true n (truth s true ∷ ps) f = (n, truth s true, refl, refl)
truth_reached true n (truth s false ∷ ps) f = truth_reached true (suc n) ps f
truth_reached false n (truth s true ∷ ps) f = truth_reached false (suc n) ps f
truth_reached false n (truth s false ∷ ps) f = (n, truth s false, refl, refl)
truth_reached b n (literal s i z ∷ ps) f = absurd (cc)
truth_reached b n (shape s c us ∷ ps) f = absurd (cc)

reached_tree : (ds : List AdtDecl) (ps : List Pat) (k : Known) (m : Option Decision) → IsReached ps k 0 m → IsItsTree ds ps k m
reached_tree ds ps k None e = no_tree_left ds ps k e
reached_tree ds ps k (Some D) (m, p, e, same) = subst (λ E. IsItsTree ds ps k (Some E)) (sym same) (leaf_there ds ps k m p e)

truth_side : (ds : List AdtDecl) (ps : List Pat) (b : Bool) → all_flat bool ps ≡ true → IsItsTree ds ps (flag b) (truth_rows b 0 ps)
truth_side ds ps b f = reached_tree ds ps (flag b) (truth_rows b 0 ps) (truth_reached b 0 ps f)

sides_of : (ds : List AdtDecl) (ps : List Pat) (D : Decision) → next 0 ps anything ≡ test [] by.Truth → IsTree ds ps anything D
    → (E : Decision) × (F : Decision) × IsTree ds ps (flag true) E × IsTree ds ps (flag false) F
sides_of ds ps D e tree =
    let l = subst (Looks ds ps anything D) e (looks ds ps anything D tree) in
    let a = looks_all ds ps (flag true ∷ flag false ∷ []) l.1 (subst (λ ks. AreTrees ds ps ks l.1) l.2 l.3) in
    let b = looks_all ds ps (flag false ∷ []) a.1 a.4 in
    (a.0, b.0, a.3, b.3)

both_tree : (ds : List AdtDecl) (ps : List Pat) (A B : Option Decision) → next 0 ps anything ≡ test [] by.Truth → IsItsTree ds ps (flag true) A
    → IsItsTree ds ps (flag false) B
    → IsItsTree ds ps anything (both_sides A B)
both_tree ds ps None B e a b = λ D tree. let s = sides_of ds ps D e tree in a s.0 s.2
both_tree ds ps (Some E) None e a b = λ D tree. let s = sides_of ds ps D e tree in b s.1 s.3
both_tree ds ps (Some E) (Some F) e a b = is_node {k = anything} {q = []} {w = by.Truth} {ks = flag true ∷ flag false ∷ []} {Ds = E ∷ F ∷ []} {D = if_truth [] E F} e
    refl (and_tree a (and_tree b no_trees)) (E, F, refl, refl)

truth_tree_is : (ds : List AdtDecl) (ps : List Pat) → all_flat bool ps ≡ true → IsItsTree ds ps anything (truth_tree ps)
truth_tree_is ds [] f = no_tree_left ds [] anything refl
truth_tree_is ds (wild s ∷ ps) f = leaf_there ds (wild s ∷ ps) anything 0 (wild s) refl
truth_tree_is ds (bound s x m ∷ ps) f = leaf_there ds (bound s x m ∷ ps) anything 0 (bound s x m) refl
truth_tree_is ds (truth s b ∷ ps) f =
    let all : List Pat = truth s b ∷ ps in
    both_tree ds all (truth_rows true 0 all) (truth_rows false 0 all) refl (truth_side ds all true f) (truth_side ds all false f)
truth_tree_is ds (literal s i z ∷ ps) f = absurd (cc)
truth_tree_is ds (shape s c us ∷ ps) f = absurd (cc)

-- ---- all types

-- a value of the type is not tested by a flat pattern
abbrev IsUntested : Ty → Type 0
IsUntested (int k) = ⊥
IsUntested bool = ⊥
IsUntested _ = Unit {0}

no_literal : (t : Ty) (i : Option IntKind) (z : ℤ) → IsUntested t → has_literal t i z ≡ true → ⊥
no_literal (int k) i z u e = u
no_literal t i z u e = absurd (cc)

no_truth : (t : Ty) → IsUntested t → is_bool t ≡ true → ⊥
no_truth bool u e = u
no_truth t u e = absurd (cc)

untested_sure : (t : Ty) (p : Pat) (k : Known) → IsUntested t → is_flat t p ≡ true → status p k ≡ sure
untested_sure t (wild s) k u e = refl
untested_sure t (bound s x m) k u e = refl
untested_sure t (literal s i z) k u e = absurd (no_literal t i z u e)
untested_sure t (truth s b) k u e = absurd (no_truth t u e)
untested_sure t (shape s c ps) k u e = absurd (cc)

first_row_is : (ds : List AdtDecl) (t : Ty) (ps : List Pat) → IsUntested t → all_flat t ps ≡ true → IsItsTree ds ps anything (first_row ps)
first_row_is ds t [] u f = no_tree_left ds [] anything refl
first_row_is ds t (p ∷ ps) u f =
    let g = both (is_flat t p) (all_flat t ps) f in
    leaf_there ds (p ∷ ps) anything 0 p (ap (λ s. by_status s 0 p (next 1 ps anything)) (untested_sure t p anything u g.0))

flat_tree_is : (ds : List AdtDecl) (t : Ty) (ps : List Pat) → all_flat t ps ≡ true → IsItsTree ds ps anything (flat_tree t ps)
flat_tree_is ds (int k) ps f = integer_tree ds k ps [] 0 ps f (λ x r. refl)
flat_tree_is ds bool ps f = truth_tree_is ds ps f
flat_tree_is ds t ps f = first_row_is ds t ps tt f

pub flat_is_tree : (ds : List AdtDecl) (t : Ty) (ps : List Pat) (D : Decision) → all_flat t ps ≡ true → flat_tree t ps ≡ Some D → IsTreeOf ds ps D
flat_is_tree ds t ps D f e = subst (IsItsTree ds ps anything) e (flat_tree_is ds t ps f)

pub tree_is_flat : (ds : List AdtDecl) (t : Ty) (ps : List Pat) (D : Decision) → all_flat t ps ≡ true → IsTreeOf ds ps D → flat_tree t ps ≡ Some D
tree_is_flat ds t ps D f tree = by_tree (flat_tree t ps) (flat_tree_is ds t ps f)
  where
    by_tree : (m : Option Decision) → IsItsTree ds ps anything m → m ≡ Some D
    by_tree None h = absurd (h D tree)
    by_tree (Some E) h = ap Some (tree_one ds ps anything E D h tree)

-- ---- the integers that are matched

-- Some: each integer of the type that is none of zs is matched; None: one is not
abbrev MatchesOthers : IntKind → List ℤ → List Pat → Option Decision → Type 0
MatchesOthers k zs ps None = (y : ℤ) × (fits k y ≡ true) × (among y zs ≡ false) × (some_match ps (Number y) ≡ false)
MatchesOthers k zs ps (Some D) = (y : ℤ) → fits k y ≡ true → among y zs ≡ false → some_match ps (Number y) ≡ true

or_false : (a b : Bool) → a || b ≡ false → (a ≡ false) × (b ≡ false)
or_false true b e = absurd (cc)
or_false false b e = (refl, e)

-- an integer that is none of zs is no z that is one of them
not_among : (y z : ℤ) (zs : List ℤ) → among z zs ≡ true → among y zs ≡ false → int_eq z y ≡ false
not_among y z zs e f = int_differ z y (λ s. absurd (let g = subst (λ u. among u zs ≡ true) s e in cc))

int_turned : (x y : ℤ) → int_eq x y ≡ false → int_eq y x ≡ false
int_turned x y e = int_differ y x (λ f. absurd (let g = subst (λ z. int_eq x z ≡ true) (sym f) (int_self x) in cc))

or_of : (a b c : Bool) → a ≡ false → b ≡ c → a || b ≡ c
or_of true b c e f = absurd (cc)
or_of false b c e f = f

passed_literal : (k : IntKind) (zs : List ℤ) (p : Pat) (z : ℤ) (ps : List Pat) (R : Option Decision) → ((y : ℤ) → matches p (Number y) ≡ int_eq z y) → among z zs ≡ true
    → MatchesOthers k zs ps R → MatchesOthers k zs (p ∷ ps) R
passed_literal k zs p z ps None m e h = (h.0, h.1, h.2, or_of (matches p (Number h.0)) _ false (m h.0 ∙ not_among h.0 z zs e h.2) h.3)
passed_literal k zs p z ps (Some D) m e h = λ y f n. or_of (matches p (Number y)) _ true (m y ∙ not_among y z zs e n) (h y f n)

-- where the integer is the literal, it is matched, and else it is another one
literal_or : (zs : List ℤ) (p : Pat) (z : ℤ) (ps : List Pat) (y : ℤ) → ((y : ℤ) → matches p (Number y) ≡ int_eq z y) → among y zs ≡ false
    → (among y (z ∷ zs) ≡ false → some_match ps (Number y) ≡ true) → some_match (p ∷ ps) (Number y) ≡ true
literal_or zs p z ps y m n h = by_test (int_eq z y) refl
  where
    by_test : (b : Bool) → int_eq z y ≡ b → some_match (p ∷ ps) (Number y) ≡ true
    by_test true e = ap (λ b. b || some_match ps (Number y)) (m y ∙ e)
    by_test false e = or_of (matches p (Number y)) _ true (m y ∙ e) (h (or_of (int_eq y z) (among y zs) false (int_turned z y e) n))

next_matches : (k : IntKind) (zs : List ℤ) (p : Pat) (z : ℤ) (n : ℕ) (ps : List Pat) (S : Option Decision) → ((y : ℤ) → matches p (Number y) ≡ int_eq z y)
    → MatchesOthers k (z ∷ zs) ps S → MatchesOthers k zs (p ∷ ps) (option_map (if_literal [] z (leaf n [])) S)
next_matches k zs p z n ps None m h =
    let g = or_false (int_eq h.0 z) (among h.0 zs) h.2 in
    (h.0, h.1, g.1, or_of (matches p (Number h.0)) _ false (m h.0 ∙ int_turned h.0 z g.0) h.3)
next_matches k zs p z n ps (Some E) m h = λ y f e. literal_or zs p z ps y m e (h y f)

last_matches : (k : IntKind) (zs : List ℤ) (p : Pat) (z : ℤ) (ps : List Pat) → ((y : ℤ) → matches p (Number y) ≡ int_eq z y) → AllAmong (Some k) (z ∷ zs)
    → (y : ℤ) → fits k y ≡ true → among y zs ≡ false → some_match (p ∷ ps) (Number y) ≡ true
last_matches k zs p z ps m all y f n = literal_or zs p z ps y m n (λ e. absurd (let g = all y f in cc))

literal_matches : (k : IntKind) (zs : List ℤ) (p : Pat) (z : ℤ) (n : ℕ) (ps : List Pat) (R S : Option Decision) → ((y : ℤ) → matches p (Number y) ≡ int_eq z y)
    → MatchesOthers k zs ps R → (SomeLeft (Some k) (z ∷ zs) → MatchesOthers k (z ∷ zs) ps S)
    → MatchesOthers k zs (p ∷ ps) (cond (among z zs) R (cond (all_among k (z ∷ zs)) (Some (leaf n [])) (option_map (if_literal [] z (leaf n [])) S)))
literal_matches k zs p z n ps R S m r s = by_tests (among z zs) (all_among k (z ∷ zs)) refl refl
  where
    by_tests : (a b : Bool) → among z zs ≡ a → all_among k (z ∷ zs) ≡ b
        → MatchesOthers k zs (p ∷ ps) (cond a R (cond b (Some (leaf n [])) (option_map (if_literal [] z (leaf n [])) S)))
    by_tests true b e f = passed_literal k zs p z ps R m e r
    by_tests false true e f = last_matches k zs p z ps m (all_are_among k (z ∷ zs) f)
    by_tests false false e f = next_matches k zs p z n ps S m (s (some_is_left k (z ∷ zs) f))

integers_matched : (k : IntKind) (zs : List ℤ) (n : ℕ) (ps : List Pat) → all_flat (int k) ps ≡ true → SomeLeft (Some k) zs
    → MatchesOthers k zs ps (integer_rows k zs n ps)
integers_matched k zs n [] f l = (l.0, l.1, l.2, refl)
integers_matched k zs n (wild s ∷ ps) f l = λ y g e. refl
integers_matched k zs n (bound s x m ∷ ps) f l = λ y g e. refl
integers_matched k zs n (literal s i z ∷ ps) f l =
    let g = both (has_literal (int k) i z) (all_flat (int k) ps) f in
    literal_matches k zs (literal s i z) z n ps (integer_rows k zs (suc n) ps) (integer_rows k (z ∷ zs) (suc n) ps) (λ y. refl) (integers_matched k zs (suc n) ps g.1 l)
    (λ m. integers_matched k (z ∷ zs) (suc n) ps g.1 m)
integers_matched k zs n (truth s b ∷ ps) f l = absurd (cc)
integers_matched k zs n (shape s c us ∷ ps) f l = absurd (cc)

-- ---- the truth values that are matched

abbrev MatchesFlag : Bool → List Pat → Option Decision → Type 0
MatchesFlag b ps None = some_match ps (Flag b) ≡ false
MatchesFlag b ps (Some D) = some_match ps (Flag b) ≡ true

flag_passed : (b : Bool) (p : Pat) (ps : List Pat) (m : Option Decision) → matches p (Flag b) ≡ false → MatchesFlag b ps m → MatchesFlag b (p ∷ ps) m
flag_passed b p ps None e h = or_of (matches p (Flag b)) _ false e h
flag_passed b p ps (Some D) e h = or_of (matches p (Flag b)) _ true e h

truth_matched : (b : Bool) (n : ℕ) (ps : List Pat) → all_flat bool ps ≡ true → MatchesFlag b ps (truth_rows b n ps)
truth_matched b n [] f = refl
truth_matched b n (wild s ∷ ps) f = refl
truth_matched b n (bound s x m ∷ ps) f = refl
truth_matched true n (truth s true ∷ ps) f = refl
truth_matched true n (truth s false ∷ ps) f = flag_passed true (truth s false) ps (truth_rows true (suc n) ps) refl (truth_matched true (suc n) ps f)
truth_matched false n (truth s true ∷ ps) f = flag_passed false (truth s true) ps (truth_rows false (suc n) ps) refl (truth_matched false (suc n) ps f)
truth_matched false n (truth s false ∷ ps) f = refl
truth_matched b n (literal s i z ∷ ps) f = absurd (cc)
truth_matched b n (shape s c us ∷ ps) f = absurd (cc)

-- ---- the values that are matched

-- a type whose values are matched flat
abbrev pub IsFlatType : Ty → Type 0
IsFlatType (int k) = Unit {0}
IsFlatType bool = Unit {0}
IsFlatType (tuple no_tys) = Unit {0}
IsFlatType _ = ⊥

-- Some: the patterns cover the type; None: they do not match a value of it
abbrev IsMatched : Declarations → List Pat → Ty → Option Decision → Type 0
IsMatched Δ ps t None = (v : Value) × HasSort Δ v t × (some_match ps v ≡ false)
IsMatched Δ ps t (Some D) = (v : Value) → HasSort Δ v t → some_match ps v ≡ true

integers_are : (Δ : Declarations) (k : IntKind) (ps : List Pat) (m : Option Decision) → MatchesOthers k [] ps m → IsMatched Δ ps (int k) m
integers_are Δ k ps None h = (Number h.0, of_int h.1, h.3)
integers_are Δ k ps (Some D) h = λ v s. let l = sort_looks Δ v (int k) s in subst (λ u. some_match ps u ≡ true) (sym l.1) (h l.0 l.2 refl)

flags_are : (Δ : Declarations) (ps : List Pat) (A B : Option Decision) → MatchesFlag true ps A → MatchesFlag false ps B → IsMatched Δ ps bool (both_sides A B)
flags_are Δ ps None B a b = (Flag true, of_bool, a)
flags_are Δ ps (Some D) None a b = (Flag false, of_bool, b)
flags_are Δ ps (Some D) (Some E) a b = λ v s. let l = sort_looks Δ v bool s in subst (λ u. some_match ps u ≡ true) (sym l.1) (by_flag l.0)
  where
    by_flag : (c : Bool) → some_match ps (Flag c) ≡ true
    by_flag true = a
    by_flag false = b

truths_are : (Δ : Declarations) (ps : List Pat) → all_flat bool ps ≡ true → IsMatched Δ ps bool (truth_tree ps)
truths_are Δ [] f = (Flag true, of_bool, refl)
truths_are Δ (wild s ∷ ps) f = λ v h. refl
truths_are Δ (bound s x m ∷ ps) f = λ v h. refl
truths_are Δ (truth s b ∷ ps) f =
    let all : List Pat = truth s b ∷ ps in
    flags_are Δ all (truth_rows true 0 all) (truth_rows false 0 all) (truth_matched true 0 all f) (truth_matched false 0 all f)
truths_are Δ (literal s i z ∷ ps) f = absurd (cc)
truths_are Δ (shape s c us ∷ ps) f = absurd (cc)

units_are : (Δ : Declarations) (ps : List Pat) → all_flat (tuple no_tys) ps ≡ true → IsMatched Δ ps (tuple no_tys) (first_row ps)
units_are Δ [] f = (Made Tuple no_values, of_tuple of_none, refl)
units_are Δ (wild s ∷ ps) f = λ v h. refl
units_are Δ (bound s x m ∷ ps) f = λ v h. refl
units_are Δ (truth s b ∷ ps) f = absurd (cc)
units_are Δ (literal s i z ∷ ps) f = absurd (cc)
units_are Δ (shape s c us ∷ ps) f = absurd (cc)

values_are : (Δ : Declarations) (t : Ty) (ps : List Pat) → all_flat t ps ≡ true → IsFlatType t → IsMatched Δ ps t (flat_tree t ps)
values_are Δ (int k) ps f g = integers_are Δ k ps (integer_rows k [] 0 ps) (integers_matched k [] 0 ps f (lowest k, lowest_fits k, refl))
values_are Δ bool ps f g = truths_are Δ ps f
values_are Δ (tuple no_tys) ps f g = units_are Δ ps f
values_are Δ t ps f g = absurd g

-- no type parameter stands in such a type
no_params : (θ : Tys) (t : Ty) → IsFlatType t → instance θ t ≡ t
no_params θ (int k) g = refl
no_params θ bool g = refl
no_params θ (tuple no_tys) g = refl
no_params θ t g = absurd g

pub covering_is_flat_tree : (ds : List AdtDecl) (t : Ty) (ps : List Pat) → all_flat t ps ≡ true → IsFlatType t → Covers (fields_in ds) ps t
    → (D : Decision) × (flat_tree t ps ≡ Some D)
covering_is_flat_tree ds t ps f g c = by_tree (flat_tree t ps) (values_are (fields_in ds) t ps f g)
  where
    by_tree : (m : Option Decision) → IsMatched (fields_in ds) ps t m → (D : Decision) × (m ≡ Some D)
    by_tree None h = absurd (let e = c no_tys h.0 (subst (HasSort (fields_in ds) h.0) (sym (no_params no_tys t g)) h.1) in let n = h.2 in cc)
    by_tree (Some D) h = (D, refl)

pub flat_tree_covers : (ds : List AdtDecl) (t : Ty) (ps : List Pat) (D : Decision) → all_flat t ps ≡ true → IsFlatType t → flat_tree t ps ≡ Some D
    → Covers (fields_in ds) ps t
flat_tree_covers ds t ps D f g e θ v h =
    subst (IsMatched (fields_in ds) ps t) e (values_are (fields_in ds) t ps f g) v (subst (HasSort (fields_in ds) v) (no_params θ t g) h)

value_of : (Δ : Declarations) (t : Ty) → IsFlatType t → (v : Value) × HasSort Δ v t
value_of Δ (int k) g = (Number (lowest k), of_int (lowest_fits k))
value_of Δ bool g = (Flag true, of_bool)
value_of Δ (tuple no_tys) g = (Made Tuple no_values, of_tuple of_none)
value_of Δ t g = absurd g

no_parts_left : (Δ : Declarations) (ws : PatValues) (fs : Tys) → no_tys ≡ fs → ArePatValues Δ ws fs → AreFillable Δ no_tys ws fs
no_parts_left Δ no_parts fs e h = sym e
no_parts_left Δ (and_part w ws) no_tys e h = absurd h
no_parts_left Δ (and_part w ws) (and_ty s ss) e h = absurd (cc)

made_fillable : (Δ : Declarations) (t : Ty) (c : Ctor) (ws : PatValues) → IsFlatType t → IsPatValue Δ (made c ws) t → Fillable Δ no_tys (made c ws) t
made_fillable Δ (int k) c ws g (fs, po, h) = absurd po
made_fillable Δ bool c ws g (fs, po, h) = absurd po
made_fillable Δ (tuple no_tys) Tuple ws g (fs, po, h) = (fs, po, no_parts_left Δ ws fs po h)
made_fillable Δ (tuple no_tys) (Variant d j) ws g (fs, po, h) = absurd po
made_fillable Δ (tuple no_tys) (Closure n) ws g (fs, po, h) = absurd po
made_fillable Δ t c ws g h = absurd g

fillable : (Δ : Declarations) (t : Ty) (w : PatValue) → IsFlatType t → IsPatValue Δ w t → Fillable Δ no_tys w t
fillable Δ t any g h = let x = value_of Δ t g in (x.0, subst (HasSort Δ x.0) (sym (no_params no_tys t g)) x.1)
fillable Δ t (integer z) g h = tt
fillable Δ t (truth_value b) g h = tt
fillable Δ t (made c ws) g h = made_fillable Δ t c ws g h

pub missing_has_no_flat_tree : (ds : List AdtDecl) (t : Ty) (ps : List Pat) (w : PatValue) → all_flat t ps ≡ true → IsFlatType t → Missing (fields_in ds) ps t (Some w)
    → flat_tree t ps ≡ None
missing_has_no_flat_tree ds t ps w f g h = by_tree (flat_tree t ps) (values_are (fields_in ds) t ps f g)
  where
    by_tree : (m : Option Decision) → IsMatched (fields_in ds) ps t m → m ≡ None
    by_tree None i = refl
    by_tree (Some D) i = absurd (
        let x = filled (fields_in ds) no_tys w t h.0 (fillable (fields_in ds) t w g h.0) in
        let e = i x.0 (subst (HasSort (fields_in ds) x.0) (no_params no_tys t g) x.1) in
        let n = h.1 x.0 x.2 in
        cc)

pub covered_has_flat_tree : (ds : List AdtDecl) (t : Ty) (ps : List Pat) → all_flat t ps ≡ true → IsFlatType t → Missing (fields_in ds) ps t None
    → (D : Decision) × (flat_tree t ps ≡ Some D)
covered_has_flat_tree ds t ps f g h = covering_is_flat_tree ds t ps f g h
