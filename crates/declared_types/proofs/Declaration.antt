-- Lists that grow one after another.
use Rattle.std.proofs.Common.{◌≡◌, ℕ, suc, ◌+◌, ◌<◌, ◌≤◌, ◌-◌, List, [], ◌∷◌, ◌++◌, append-nil, Option, Some, None, refl, sym, ap, ◌∙◌, arith}
use Rattle.std.proofs.lemmas.List.{append_assoc}
use Rattle.logic_term.specs.declared.kinds.Region.{Region}
use Rattle.logic_term.specs.Ty.{Ty, Tys, param, no_tys, and_ty}
use Rattle.logic_term.specs.TyView.{tys_of}
use Rattle.rs_types.specs.Bounded.{params_from}
use Rattle.declared_types.specs.Answers.{with_some}
use Rattle.declared_types.specs.DeclaredTypes.{regions_from}

pub with_behind : {B : Type 0} (made : List B) (one : Option B) (rest : List B) → (made ++ with_some one []) ++ rest ≡ made ++ with_some one rest
with_behind made None rest = ap (λ m. m ++ rest) (append-nil made)
with_behind made (Some x) rest = append_assoc made (x ∷ []) rest

-- ---- lifetimes and type parameters by their numbers

first_region : (left n rest : ℕ) → left ≡ suc rest → regions_from left n ≡ record { 0 = n } ∷ regions_from rest (n + 1)
first_region left n rest e = let more : suc n ≡ n + 1 = grind arith in ap (λ k. regions_from k n) e ∙ ap (λ k. record { 0 = n } ∷ regions_from rest k) more

pub one_region_more : (count i : ℕ) (made after : List Region) (r : Region) (whole : List Region) → i < count → after ≡ made ++ r ∷ [] → r ≡ record { 0 = i } → made ++ regions_from (count - i) i ≡ whole
    → after ++ regions_from (count - (i + 1)) (i + 1) ≡ whole
one_region_more count i made after r whole l pushed is so_far =
    let left : count - i ≡ suc (count - (i + 1)) = omega arith in
    ap (λ x. x ++ regions_from (count - (i + 1)) (i + 1)) pushed
    ∙ append_assoc made (r ∷ []) (regions_from (count - (i + 1)) (i + 1))
    ∙ ap (λ x. made ++ x ∷ regions_from (count - (i + 1)) (i + 1)) is
    ∙ ap (λ x. made ++ x) (sym (first_region (count - i) i (count - (i + 1)) left))
    ∙ so_far

pub no_region_more : (count i : ℕ) (made whole : List Region) → count ≤ i → made ++ regions_from (count - i) i ≡ whole → made ≡ whole
no_region_more count i made whole l so_far =
    let none : count - i ≡ 0 = omega arith in
    sym (append-nil made) ∙ ap (λ k. made ++ regions_from k i) (sym none) ∙ so_far

-- types in front of others
abbrev pub params_behind : List Ty → Tys → Tys
params_behind [] us = us
params_behind (t ∷ ts) us = and_ty t (params_behind ts us)

one_behind : (ts : List Ty) (t : Ty) (us : Tys) → params_behind (ts ++ t ∷ []) us ≡ params_behind ts (and_ty t us)
one_behind [] t us = refl
one_behind (u ∷ ts) t us = ap (and_ty u) (one_behind ts t us)

none_behind : (ts : List Ty) → params_behind ts no_tys ≡ tys_of ts
none_behind [] = refl
none_behind (u ∷ ts) = ap (and_ty u) (none_behind ts)

first_param : (left n rest : ℕ) → left ≡ suc rest → params_from left n ≡ and_ty (param n) (params_from rest (n + 1))
first_param left n rest e = let more : suc n ≡ n + 1 = grind arith in ap (λ k. params_from k n) e ∙ ap (λ k. and_ty (param n) (params_from rest k)) more

pub one_param_more : (count i : ℕ) (made after : List Ty) (t : Ty) (whole : Tys) → i < count → after ≡ made ++ t ∷ [] → t ≡ param i → params_behind made (params_from (count - i) i) ≡ whole
    → params_behind after (params_from (count - (i + 1)) (i + 1)) ≡ whole
one_param_more count i made after t whole l pushed is so_far =
    let left : count - i ≡ suc (count - (i + 1)) = omega arith in
    ap (λ x. params_behind x (params_from (count - (i + 1)) (i + 1))) pushed
    ∙ one_behind made t (params_from (count - (i + 1)) (i + 1))
    ∙ ap (λ x. params_behind made (and_ty x (params_from (count - (i + 1)) (i + 1)))) is
    ∙ ap (params_behind made) (sym (first_param (count - i) i (count - (i + 1)) left))
    ∙ so_far

pub no_param_more : (count i : ℕ) (made : List Ty) (whole : Tys) → count ≤ i → params_behind made (params_from (count - i) i) ≡ whole → tys_of made ≡ whole
no_param_more count i made whole l so_far =
    let none : count - i ≡ 0 = omega arith in
    sym (none_behind made) ∙ ap (λ k. params_behind made (params_from k i)) (sym none) ∙ so_far
