-- The parts of a row over the table.
use Rattle.std.proofs.Common.{◌≡◌, ℕ, zero, suc, ◌+◌, ◌<◌, ◌≤◌, List, [], ◌∷◌, ◌++◌, length, take, map, get_or, pos, ◌+ℤ◌, refl, ◌∙◌, ap, ap₂, arith, add-one}
use Rattle.std.specs.Prelude.{◌^◌, Option, Some, Result, Ok, Err, OkIff}
use Rattle.std.specs.Result.{result_ok}
use Rattle.std.proofs.lemmas.List.{take_all}
use Rattle.std.proofs.Math.IntN.{+ℤ_idr}
use Rattle.lin_arith.specs.declared.certificate.Part.{Part}
use Rattle.lin_arith.specs.Certificate.{factor_of, HasRisingAtoms}
use Rattle.proof_kernel.specs.declared.linear.Form.{Form}
use Rattle.proof_kernel.specs.Polynomial.{Monomial, coefficient}
use Rattle.proof_kernel.specs.LinearRows.{parts_from, row_over}
use Rattle.lin_arith.proofs.Sums.{factor_of-same, factor_of-other}

-- ---- one part more

snoc : (k : ℕ) (table : List Monomial) (i : ℕ) (m : Monomial) (f : Form) (part : Part) → i < length table → m ≡ get_or table i m → part.atom ≡ k + i → part.factor ≡ coefficient m f.polynomial → parts_from k (take i table) f ++ part ∷ [] ≡ parts_from k (take (suc i) table) f
snoc k [] i m f part l e p q = absurd (omega arith)
snoc k (a ∷ ms) zero m f part l e p q =
    let same : part ≡ record { atom = k; factor = coefficient a f.polynomial } = one part (omega arith) (q ∙ ap (λ x. coefficient x f.polynomial) e) in ap (λ (x : Part). x ∷ []) same
  where
    one : (x : Part) → x.atom ≡ k → x.factor ≡ coefficient a f.polynomial → x ≡ record { atom = k; factor = coefficient a f.polynomial }
    one x n c = ap₂ (λ y z. let w : Part = record { atom = y; factor = z } in w) n c
snoc k (a ∷ ms) (suc i) m f part l e p q =
    ap (λ (ps : List Part). record { atom = k; factor = coefficient a f.polynomial } ∷ ps) (snoc (suc k) ms i m f part (omega arith) e (omega arith) q)

pub parts_more : (table : List Monomial) (i : ℕ) (m : Monomial) (f : Form) (part : Part) (old new : List Part) → i < length table → m ≡ get_or table i m
    → part.atom ≡ i → part.factor ≡ coefficient m f.polynomial → old ≡ parts_from 0 (take i table) f → new ≡ old ++ part ∷ [] → new ≡ parts_from 0 (take (i + 1) table) f
parts_more table i m f part old new l e p q h n =
    rw add-one (n ∙ ap (λ (ps : List Part). ps ++ part ∷ []) h ∙ snoc 0 table i m f part l e (omega arith) q)

pub parts_all : (table : List Monomial) (n : ℕ) (f : Form) (parts : List Part) → length table ≤ n → parts ≡ parts_from 0 (take n table) f → parts ≡ parts_from 0 table f
parts_all table n f parts l h = h ∙ ap (λ ms. parts_from 0 ms f) (take_all n table l)

-- ---- the factors of the monomials

-- no part has a number below the first
pub factor_below : (k : ℕ) (table : List Monomial) (d : Form) (n : ℕ) → n < k → factor_of n (parts_from k table d) ≡ pos 0
factor_below k [] d n l = refl
factor_below k (t ∷ ts) d n l =
    factor_of-other n _ (parts_from (suc k) ts d) (λ e. omega arith) ∙ factor_below (suc k) ts d n (omega arith)

-- nor one past the last
pub factor_past : (k : ℕ) (table : List Monomial) (d : Form) (n : ℕ) → k + length table ≤ n → factor_of n (parts_from k table d) ≡ pos 0
factor_past k [] d n l = refl
factor_past k (t ∷ ts) d n l =
    factor_of-other n _ (parts_from (suc k) ts d) (λ e. omega arith) ∙ factor_past (suc k) ts d n (omega arith)

pub factor_at : (k : ℕ) (table : List Monomial) (d : Form) (i n : ℕ) (t : Monomial) → i < length table → n ≡ k + i → factor_of n (parts_from k table d) ≡ coefficient (get_or table i t) d.polynomial
factor_at k [] d i n t l e = absurd (omega arith)
factor_at k (a ∷ ts) d zero n t l e =
    factor_of-same n _ (parts_from (suc k) ts d) (omega arith)
    ∙ ap (λ x. coefficient a d.polynomial +ℤ x) (factor_below (suc k) ts d n (omega arith))
    ∙ +ℤ_idr (coefficient a d.polynomial)
factor_at k (a ∷ ts) d (suc i) n t l e =
    factor_of-other n _ (parts_from (suc k) ts d) (λ q. omega arith) ∙ factor_at (suc k) ts d i n t (omega arith) (omega arith)

-- ---- the numbers rise

atoms_are : (k : ℕ) (table : List Monomial) (d : Form) (i : ℕ) → i < length table → get_or (map (λ part. part.atom) (parts_from k table d)) i 0 ≡ k + i
atoms_are k [] d i l = absurd (omega arith)
atoms_are k (t ∷ ts) d zero l = omega arith
atoms_are k (t ∷ ts) d (suc i) l = atoms_are (suc k) ts d i (omega arith) ∙ next k i
  where
    next : (m n : ℕ) → suc m + n ≡ m + suc n
    next m n = omega arith

atoms_length : (k : ℕ) (table : List Monomial) (d : Form) → length (map (λ part. part.atom) (parts_from k table d)) ≡ length table
atoms_length k [] d = refl
atoms_length k (t ∷ ts) d = ap suc (atoms_length (suc k) ts d)

pub atoms_rise : (table : List Monomial) (d : Form) → HasRisingAtoms (row_over table d)
atoms_rise table d k l =
    let len : length (map (λ part. part.atom) (parts_from 0 table d)) ≡ length table = atoms_length 0 table d in
    let here : get_or (map (λ part. part.atom) (parts_from 0 table d)) k 0 ≡ 0 + k = atoms_are 0 table d k (omega arith) in
    let next : get_or (map (λ part. part.atom) (parts_from 0 table d)) (k + 1) 0 ≡ 0 + (k + 1) = atoms_are 0 table d (k + 1) (omega arith) in
    omega arith

-- ---- the number of a monomial

pub number_is : {E : Type 0} (r : Result ℕ E) (o : Option ℕ) (n at : ℕ) → OkIff r (at < 2 ^ 32) at → o ≡ Some n → o ≡ result_ok r → n ≡ at
number_is (Ok x) o n at h e f = let g : x ≡ at = h.1 in cc
number_is (Err x) o n at h e f = absurd (cc)
