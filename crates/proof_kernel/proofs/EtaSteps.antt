-- What is found of a tuple, and its parts, one after the other.
use Rattle.std.proofs.Common.{◌≡◌, ℕ, zero, suc, ◌+◌, List, [], ◌∷◌, ◌++◌, length, Some, refl, sym, ◌∙◌, ap, arith, add-one}
use Rattle.logic_term.specs.declared.declaration.AdtDecl.{AdtDecl}
use Rattle.logic_term.specs.declared.kinds.Ctor.TheVariants.{Tuple}
use Rattle.logic_term.specs.Term.{Term, part}
use Rattle.logic_term.specs.Ty.{Ty, tuple}
use Rattle.logic_term.specs.TyView.{tys_of}
use Rattle.proof_kernel.specs.EtaRule.{Shape, count_tys, shape_of, parts_from}

count_listed : (ts : List Ty) → count_tys (tys_of ts) ≡ length ts
count_listed [] = refl
count_listed (t ∷ ts) = ap suc (count_listed ts)

pub tuple_shape : (adts : List AdtDecl) (s : Ty) (ts : List Ty) (n : ℕ) → s ≡ tuple (tys_of ts) → n ≡ length ts → shape_of adts s ≡ Some (record { ctor = Tuple; parts = n })
tuple_shape adts s ts n e l = ap (shape_of adts) e ∙ ap (λ (k : ℕ). let p : Shape = record { ctor = Tuple; parts = k } in Some p) (count_listed ts ∙ sym l)

more_parts : (k n : ℕ) (t : Term) → parts_from k n t ++ part (k + n) t ∷ [] ≡ parts_from k (suc n) t
more_parts k zero t = let e : k + 0 ≡ k = omega arith in ap (λ (i : ℕ). part i t ∷ []) e
more_parts k (suc n) t =
    let e : k + suc n ≡ suc k + n = omega arith in
    ap (λ (ps : List Term). part k t ∷ ps) (ap (λ (i : ℕ). parts_from (suc k) n t ++ part i t ∷ []) e ∙ more_parts (suc k) n t)

pub one_more_part : (i : ℕ) (t p : Term) (old new : List Term) → old ≡ parts_from 0 i t → p ≡ part i t → new ≡ old ++ p ∷ [] → new ≡ parts_from 0 (i + 1) t
one_more_part i t p old new e is made =
    let from : 0 + i ≡ i = omega arith in
    let own : parts_from 0 i t ++ part i t ∷ [] ≡ parts_from 0 (suc i) t = ap (λ (j : ℕ). parts_from 0 i t ++ part j t ∷ []) (sym from) ∙ more_parts 0 i t in
    made ∙ (ap (λ (ps : List Term). ps ++ p ∷ []) e ∙ (ap (λ (u : Term). parts_from 0 i t ++ u ∷ []) is ∙ (own ∙ ap (λ (n : ℕ). parts_from 0 n t) (sym (add-one i)))))
