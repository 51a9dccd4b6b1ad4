-- Formulas that are not refused.
use Rattle.std.proofs.Common.{◌≡◌, refl, ap, sym, ◌∙◌, ◌&&◌, Bool, true, false, List, [], ◌∷◌, map, Option, Some, None}
use Rattle.std.specs.Prelude.{if◌then◌else◌}
use Rattle.text_core.specs.declared.refusal.SourceError.{SourceError}
use Rattle.text_core.specs.declared.span.Span.{Span}
use Rattle.logic_term.specs.Pattern.{Pat}
use Rattle.logic_term.specs.Ty.{Ty}
use Rattle.pat_check.specs.Decision.{Decision}
use Rattle.pat_check.specs.Flat.{all_flat, flat_tree}
use Rattle.logic_term.specs.declared.obligation.Contract.{Contract}
use Rattle.type_check.specs.declared.assertion.Assertion.{Assertion}
use Rattle.type_check.specs.declared.assertion.Assertion.TheVariants.{Good, Bad}
use Rattle.type_check.specs.declared.program.ClauseKind.{ClauseKind}
use Rattle.type_check.specs.declared.program.ClauseKind.TheVariants.{Requires, Ensures}
use Rattle.type_check.specs.declared.program.TypedClause.{TypedClause}
use Rattle.type_check.specs.declared.program.TypedFunction.{TypedFunction}
use Rattle.type_check.specs.Answers.{or_else, unbuilt}
use Rattle.type_check.specs.Scalars.{is_scalar}
use Rattle.type_check.specs.FirstBad.{bad_of, bad_among, bad_clause, uncovered, match_refusal}
use Rattle.mir_build.specs.Lowering.{Formula, accepted, formulas_of, picked, contract_over, HasContract}
use Rattle.mir_build.specs.Numbered.{formula_of}
use Rattle.mir_build.specs.Whole.{contract_of}

-- ---- nothing is refused

pub first_none : (a b : Option SourceError) → or_else a b ≡ None → a ≡ None
first_none None b e = refl
first_none (Some x) b e = absurd (cc)

pub second_none : (a b : Option SourceError) → or_else a b ≡ None → b ≡ None
second_none None b e = e
second_none (Some x) b e = absurd (cc)

pub both_none : (a b : Option SourceError) → a ≡ None → b ≡ None → or_else a b ≡ None
both_none None b e g = g
both_none (Some x) b e g = absurd (cc)

-- a match that is not refused is flat, and its patterns have a tree
pub record FlatMatch (t : Ty) (ps : List Pat) : Type 0 where
  pub scalar : is_scalar t ≡ true
  pub flat : all_flat t ps ≡ true
  pub tree : Decision
  pub is_tree : flat_tree t ps ≡ Some tree

has_tree : (s : Span) (o : Option Decision) → uncovered s o ≡ None → (D : Decision) × (o ≡ Some D)
has_tree s None e = absurd (cc)
has_tree s (Some D) e = (D, refl)

pub both_hold : (a b : Bool) → a && b ≡ true → (a ≡ true) × (b ≡ true)
both_hold true b e = (refl, e)
both_hold false b e = absurd (cc)

pub flat_match : (s : Span) (t : Ty) (ps : List Pat) → match_refusal s t ps ≡ None → FlatMatch t ps
flat_match s t ps e = by (is_scalar t && all_flat t ps) refl e
  where
    by : (b : Bool) → (is_scalar t && all_flat t ps) ≡ b → (if b then uncovered s (flat_tree t ps) else Some (unbuilt s)) ≡ None → FlatMatch t ps
    by true h g =
        let k = both_hold (is_scalar t) (all_flat t ps) h in
        let D = has_tree s (flat_tree t ps) g in
        record { scalar = k.0; flat = k.1; tree = D.0; is_tree = D.1 }
    by false h g = absurd (cc)

pub ruleset refusals = (first_none, second_none, both_none)

-- ---- the formulas of assertions

formulas_accepted : (fs : List Formula) → map formula_of (map accepted fs) ≡ fs
formulas_accepted [] = refl
formulas_accepted (f ∷ fs) = ap (λ gs. f ∷ gs) (formulas_accepted fs)

pub formulas_are : (as' : List Assertion) (fs : List Formula) → as' ≡ map accepted fs → fs ≡ map formula_of as'
formulas_are as' fs e = sym (ap (map formula_of) e ∙ formulas_accepted fs)

pub all_accepted : (as' : List Assertion) → bad_among as' ≡ None → as' ≡ map accepted (map formula_of as')
all_accepted [] e = refl
all_accepted (Good s t ∷ as') e = ap (λ bs. Good s t ∷ bs) (all_accepted as' e)
all_accepted (Bad x ∷ as') e = absurd (cc)

-- ---- contracts

bad_picked : (k l : ClauseKind) (a : Assertion) (rest : List Assertion) → bad_of a ≡ None → bad_among rest ≡ None → bad_among (picked k l a rest) ≡ None
bad_picked Requires Requires (Good s t) rest e g = g
bad_picked Requires Requires (Bad x) rest e g = absurd (cc)
bad_picked Requires Ensures a rest e g = g
bad_picked Ensures Requires a rest e g = g
bad_picked Ensures Ensures (Good s t) rest e g = g
bad_picked Ensures Ensures (Bad x) rest e g = absurd (cc)

none_bad : (k : ClauseKind) (cs : List TypedClause) → bad_clause cs ≡ None → bad_among (formulas_of k cs) ≡ None
none_bad k [] e = refl
none_bad k (c ∷ cs) e = bad_picked k c.kind c.formula (formulas_of k cs) (first_none (bad_of c.formula) (bad_clause cs) e) (none_bad k cs (second_none (bad_of c.formula) (bad_clause cs) e))

pub has_contract : (f : TypedFunction) → bad_clause f.clauses ≡ None → HasContract f (contract_of f)
has_contract f e = record {
  before = map formula_of (formulas_of Requires f.clauses);
  behind = map formula_of (formulas_of Ensures f.clauses);
  are_before = all_accepted (formulas_of Requires f.clauses) (none_bad Requires f.clauses e);
  are_behind = all_accepted (formulas_of Ensures f.clauses) (none_bad Ensures f.clauses e);
  is = refl;
}

pub contract_is : (f : TypedFunction) (c : Contract) → HasContract f c → c ≡ contract_of f
contract_is f c h =
    let before = formulas_are (formulas_of Requires f.clauses) h.before h.are_before in
    let behind = formulas_are (formulas_of Ensures f.clauses) h.behind h.are_behind in
    h.is ∙ (λ i. contract_over f (before i) (behind i))
