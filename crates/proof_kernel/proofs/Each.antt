-- What is so of each item of a list, and of each hypothesis and variable of a sequent.
use Rattle.std.proofs.Common.{zero, suc, List, [], ◌∷◌, ◌++◌, refl, subst, arith}
use Rattle.std.specs.List.{Contains}
use Rattle.text_core.specs.declared.name.Name.{Name}
use Rattle.logic_term.specs.declared.kinds.Label2.{Label2}
use Rattle.logic_term.specs.Ty.{Ty}
use Rattle.logic_term.specs.Term.{Term}
use Rattle.proof_kernel.specs.Sequent.{Sequent}

-- P is so of each item
abbrev pub Each : {A : Type 0} → (A → Type 0) → List A → Type 0
Each P [] = Unit {0}
Each P (x ∷ xs) = P x × Each P xs

pub each_and : {A : Type 0} (P : A → Type 0) (xs ys : List A) → Each P xs → Each P ys → Each P (xs ++ ys)
each_and P [] ys a b = b
each_and P (x ∷ xs) ys a b = (a.0, each_and P xs ys a.1 b)

pub each_of : {A : Type 0} (P : A → Type 0) (xs : List A) (x : A) → Each P xs → Contains xs x → P x
each_of P [] x e c = absurd (omega (arith, c.1))
each_of P (y ∷ ys) x e (zero, within, is) = subst P is e.0
each_of P (y ∷ ys) x e (suc k, within, is) = each_of P ys x e.1 (k, omega arith, is)

pub each_map : {A : Type 0} (P Q : A → Type 0) (xs : List A) → ((x : A) → P x → Q x) → Each P xs → Each Q xs
each_map P Q [] f e = tt
each_map P Q (x ∷ xs) f e = (f x e.0, each_map P Q xs f e.1)

pub contains_itself : {A : Type 0} (xs : List A) → Each (Contains xs) xs
contains_itself [] = tt
contains_itself (x ∷ xs) = ((zero, omega arith, refl), each_map (Contains xs) (Contains (x ∷ xs)) xs (λ y c. (suc c.0, omega (arith, c.1), c.2)) (contains_itself xs))

-- P is so of the label of each hypothesis, and N of the name of each variable
abbrev pub Has : (Label2 → Type 0) → (Name → Type 0) → Sequent → Type 0
Has P N q = Each (λ (h : Label2 × Term). P h.0) q.hyps × Each (λ (v : Name × Ty). N v.0) q.vars
