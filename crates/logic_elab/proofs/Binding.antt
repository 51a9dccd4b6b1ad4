-- What quantifiers bind: what is bound around a term, from its outside.
use Rattle.std.proofs.Common.{◌≡◌, ◌∙◌, List, [], ◌∷◌, ◌++◌, Option, refl, ap, sym}
use Rattle.text_core.specs.declared.name.Name.{Name}
use Rattle.logic_term.specs.Term.{Quantifier, Term, bind}
use Rattle.logic_elab.specs.declared.scope.Symbol.{Symbol}
use Rattle.logic_elab.specs.Binders.{under_one, meant_under, inside, bound_all}

-- two lists of what is bound, one in the other
pub inside_both : (cs bs xs : List Symbol) → inside cs (bs ++ xs) ≡ inside (inside cs bs) xs
inside_both cs [] xs = refl
inside_both cs (b ∷ bs) xs = inside_both (b ∷ cs) bs xs

-- what a name means, from the outside
pub meant_inside : (x : Name) (cs bs : List Symbol) (o : Option Symbol) → meant_under x (inside cs bs) o ≡ meant_under x (inside [] bs) (meant_under x cs o)
meant_inside x cs [] o = refl
meant_inside x cs (b ∷ bs) o = meant_inside x (b ∷ cs) bs o ∙ sym (meant_inside x (b ∷ []) bs (meant_under x cs o))

abbrev pub meant_from : Name → List Symbol → Option Symbol → Option Symbol
meant_from x [] o = o
meant_from x (b ∷ bs) o = meant_from x bs (under_one x b o)

pub from_outside : (x : Name) (bs : List Symbol) (o : Option Symbol) → meant_from x bs o ≡ meant_under x (inside [] bs) o
from_outside x [] o = refl
from_outside x (b ∷ bs) o = from_outside x bs (under_one x b o) ∙ sym (meant_inside x (b ∷ []) bs o)

-- the innermost first
pub bound_all_last : (q : Quantifier) (xs : List Symbol) (x : Symbol) (p : Term) → bound_all q (xs ++ x ∷ []) p ≡ bound_all q xs (bind q x.name x.sort p)
bound_all_last q [] x p = refl
bound_all_last q (y ∷ ys) x p = ap (bind q y.name y.sort) (bound_all_last q ys x p)
