-- What is found in a scope and among functions stands there.
use Rattle.std.proofs.Common.{◌≡◌, ℕ, zero, suc, ◌+◌, ◌<◌, ◌==◌, Bool, true, false, List, [], ◌∷◌, ◌++◌, length, get_or, take, Option, Some, None, refl, ap, sym, subst, ◌∙◌, add-one, ◌≢◌, arith}
use Rattle.std.proofs.lemmas.Bool.Decides.{nat_tests}
use Rattle.std.proofs.Math.Seq.{take-suc, take-length}
use Rattle.std.proofs.lemmas.List.{length-take}
use Rattle.std.specs.Prelude.{slice_get, if◌then◌else◌}
use Rattle.std.proofs.lemmas.Option.{slice_get_within}
use Rattle.text_core.specs.declared.name.Name.{Name}
use Rattle.type_check.specs.declared.heading.Callee.{Callee}
use Rattle.type_check.specs.declared.heading.Heading.{Heading}
use Rattle.type_check.specs.declared.scope.Found.{Found}
use Rattle.type_check.specs.declared.scope.Variable.{Variable}
pub use Rattle.type_check.specs.Around.{types, signature_at, signatures_at, surroundings}
use Rattle.type_check.specs.Functions.{callee_at, function_from}
use Rattle.type_check.specs.Scope.{at_place, found, found_from}

better : (P : Found → Type 0) (b : Bool) (f : Found) (best : Option Found) → P f → ((w : Found) → best ≡ Some w → P w) → (w : Found) → (if b then Some f else best) ≡ Some w → P w
better P true f best here before w p = let q : f ≡ w = cc in subst P q here
better P false f best here before w p = before w p

-- what holds of each variable of the scope holds of the one that is found
found_holds : (P : Found → Type 0) (best : Option Found) (k : ℕ) (x : Name) (Γ : List Variable) → ((w : Found) → best ≡ Some w → P w) → ((j : ℕ) (v : Variable) → slice_get Γ j ≡ Some v → P (at_place (k + j) v)) → (w : Found) → found_from best k x Γ ≡ Some w → P w
found_holds P best k x [] before each w p = before w p
found_holds P best k x (v ∷ Γ) before each w p =
    let here : P (at_place k v) = (let e : k + 0 ≡ k = omega arith in subst (λ n. P (at_place n v)) e (each 0 v refl)) in
    found_holds P (if x.0 == v.name.0 then Some (at_place k v) else best) (k + 1) x Γ
    (better P (x.0 == v.name.0) (at_place k v) best here before)
    (λ j u q. let e : k + suc j ≡ k + 1 + j = omega arith in subst (λ n. P (at_place n u)) e (each (suc j) u q))
    w p

get_type : (Γ : List Variable) (j : ℕ) (v : Variable) → slice_get Γ j ≡ Some v → slice_get (types Γ) j ≡ Some v.ty
get_type [] j v p = absurd (cc)
get_type (u ∷ Γ) zero v p = let q : u ≡ v = cc in ap (λ (w : Variable). Some w.ty) q
get_type (u ∷ Γ) (suc j) v p = get_type Γ j v p

pub found_type : (Γ : List Variable) (x : Name) (w : Found) → found x Γ ≡ Some w → slice_get (types Γ) w.place ≡ Some w.ty
found_type Γ x w p =
    found_holds (λ w. slice_get (types Γ) w.place ≡ Some w.ty) None 0 x Γ (λ w q. absurd (cc))
    (λ j v q. let e : j ≡ 0 + j = omega arith in subst (λ n. slice_get (types Γ) n ≡ Some v.ty) e (get_type Γ j v q)) w p

pub found_within : (Γ : List Variable) (x : Name) (w : Found) → found x Γ ≡ Some w → w.place < length Γ
found_within Γ x w p =
    found_holds (λ w. w.place < length Γ) None 0 x Γ (λ w q. absurd (cc))
    (λ j v q. let h : j < length Γ = slice_get_within Γ j v q in omega arith) w p

get_signature : (σ : List Heading) (j : ℕ) (h : Heading) → slice_get σ j ≡ Some h → slice_get (signatures_at σ) j ≡ Some h.signature
get_signature [] j h p = absurd (cc)
get_signature (g ∷ σ) zero h p = let q : g ≡ h = cc in ap (λ (w : Heading). Some w.signature) q
get_signature (g ∷ σ) (suc j) h p = get_signature σ j h p

chosen : (P : Callee → Type 0) (b : Bool) (k : ℕ) (x : Name) (f : Callee) (σ : List Heading) → P f → ((w : Callee) → function_from k x σ ≡ Some w → P w) → (w : Callee) → (if b then Some f else function_from k x σ) ≡ Some w → P w
chosen P true k x f σ here after w p = let q : f ≡ w = cc in subst P q here
chosen P false k x f σ here after w p = after w p

function_holds : (P : Callee → Type 0) (k : ℕ) (x : Name) (σ : List Heading) → ((j : ℕ) (h : Heading) → slice_get σ j ≡ Some h → P (callee_at (k + j) h)) → (w : Callee) → function_from k x σ ≡ Some w → P w
function_holds P k x [] each w p = absurd (cc)
function_holds P k x (h ∷ σ) each w p =
    let here : P (callee_at k h) = (let e : k + 0 ≡ k = omega arith in subst (λ n. P (callee_at n h)) e (each 0 h refl)) in
    chosen P (x.0 == h.name.0) (k + 1) x (callee_at k h) σ here
    (function_holds P (k + 1) x σ (λ j g q. let e : k + suc j ≡ k + 1 + j = omega arith in subst (λ n. P (callee_at n g)) e (each (suc j) g q)))
    w p

pub callee_signature : (σ : List Heading) (x : Name) (w : Callee) → function_from 0 x σ ≡ Some w → slice_get (signatures_at σ) w.place ≡ Some w.signature
callee_signature σ x w p =
    function_holds (λ w. slice_get (signatures_at σ) w.place ≡ Some w.signature) 0 x σ
    (λ j h q. let e : j ≡ 0 + j = omega arith in subst (λ n. slice_get (signatures_at σ) n ≡ Some h.signature) e (get_signature σ j h q))
    w p

-- ---- from the end

found_from-append : (best : Option Found) (k : ℕ) (x : Name) (Γ : List Variable) (v : Variable) → found_from best k x (Γ ++ v ∷ []) ≡ (if x.0 == v.name.0 then Some (at_place (k + length Γ) v) else found_from best k x Γ)
found_from-append best k x [] v = let e : k ≡ k + 0 = omega arith in ap (λ n. if x.0 == v.name.0 then Some (at_place n v) else best) e
found_from-append best k x (u ∷ Γ) v =
    let e : k + 1 + length Γ ≡ k + suc (length Γ) = omega arith in
    let next = if x.0 == u.name.0 then Some (at_place k u) else best in
    found_from-append next (k + 1) x Γ v ∙ ap (λ n. if x.0 == v.name.0 then Some (at_place n v) else found_from next (k + 1) x Γ) e

length_taken : (Γ : List Variable) (i : ℕ) → i < length Γ → length (take i Γ) ≡ i
length_taken Γ i h = omega (arith, length-take i Γ)

taken : (Γ : List Variable) (i : ℕ) (v : Variable) → v ≡ get_or Γ i v → i < length Γ → take (i + 1) Γ ≡ take i Γ ++ v ∷ []
taken Γ i v q h = rw add-one (take-suc Γ i v h ∙ ap (λ u. take i Γ ++ u ∷ []) (sym q))

found_next : (x : Name) (Γ : List Variable) (i : ℕ) (v : Variable) → v ≡ get_or Γ i v → i < length Γ → found x (take (i + 1) Γ) ≡ (if x.0 == v.name.0 then Some (at_place i v) else found x (take i Γ))
found_next x Γ i v q h =
    ap (found x) (taken Γ i v q h)
    ∙ found_from-append None 0 x (take i Γ) v
    ∙ ap (λ n. if x.0 == v.name.0 then Some (at_place n v) else found x (take i Γ)) (let e = length_taken Γ i h in omega arith)

-- the last variable of the name is the first from the end
pub found_here : (x : Name) (Γ : List Variable) (i : ℕ) (v : Variable) → v ≡ get_or Γ i v → i < length Γ → x.0 ≡ v.name.0 → found x (take (i + 1) Γ) ≡ Some (at_place i v)
found_here x Γ i v q h e = found_next x Γ i v q h ∙ (let t : (x.0 == v.name.0) ≡ true = grind (arith, nat_tests) in rw t refl)

pub found_below : (x : Name) (Γ : List Variable) (i : ℕ) (v : Variable) → v ≡ get_or Γ i v → i < length Γ → x.0 ≢ v.name.0 → found x (take (i + 1) Γ) ≡ found x (take i Γ)
found_below x Γ i v q h e = found_next x Γ i v q h ∙ (let t : (x.0 == v.name.0) ≡ false = grind (arith, nat_tests) in rw t refl)

pub found_all : (x : Name) (Γ : List Variable) (n : ℕ) → n ≡ length Γ → found x (take n Γ) ≡ found x Γ
found_all x Γ n q = rw q (ap (found x) (take-length Γ))

pub ruleset lookups = (found_here, found_below, found_all)
