-- The search for a value that no arm matches.
use Rattle.std.proofs.Common.{◌≡◌, refl, sym, ap, ◌∙◌, subst, ℕ, zero, suc, ◌+◌, ◌≤◌, ◌<◌, Bool, true, false, ◌||◌, List, [], ◌∷◌, ◌++◌, ◌⊎◌, inl, inr, ⊎_elim, length, take, arith}
use Rattle.logic_term.specs.Pattern.{Pat}
use Rattle.logic_term.specs.Sort.{Declarations, HasSort, instance}
use Rattle.logic_term.specs.Ty.{Ty, Tys}
use Rattle.logic_term.specs.Value.{Value}
use Rattle.logic_term.specs.declared.declaration.AdtDecl.{AdtDecl}
use Rattle.pat_check.proofs.Branching.{most_branches, AllGo, some_agrees, Branching, branching}
use Rattle.pat_check.proofs.Going.{left_sum}
use Rattle.pat_check.proofs.Refined.{all_still_fail}
use Rattle.pat_check.proofs.RowLaws.{none_matches, one_matches}
use Rattle.pat_check.proofs.Settling.{settled_agrees, settled_known}
use Rattle.pat_check.specs.Known.{Known, anything, agrees}
use Rattle.pat_check.specs.KnownTypes.{IsKnown}
use Rattle.pat_check.specs.PatValue.{PatValue, stands_for, IsPatValue}
use Rattle.pat_check.specs.Rows.{Next, no_row, row, test, next, AllFail}
use Rattle.pat_check.specs.Settled.{Settles}
use Rattle.pat_check.specs.States.{states_of, LeavesBy, IsLookedInto}
use Rattle.pat_check.specs.Typed.{fields_in, AllPats, some_match, Covers}
use Rattle.pat_check.specs.declared.state.State.{State}

-- ---- a measure

-- so many times
abbrev pub copies : ℕ → ℕ → ℕ
copies zero w = 0
copies (suc b) w = w + copies b w

-- more than what n tests come to where each has at most b answers
abbrev pub weight : ℕ → ℕ → ℕ
weight b zero = 2
weight b (suc n) = 2 + (weight b n + copies b (weight b n))

copies_up : (b v w : ℕ) → v ≤ w → copies b v ≤ copies b w
copies_up zero v w l = omega arith
copies_up (suc b) v w l = omega (arith, l, copies_up b v w l)

copies_few : (m b w : ℕ) → m ≤ b → copies m w ≤ copies b w
copies_few zero b w l = omega arith
copies_few (suc m) zero w l = absurd (omega arith)
copies_few (suc m) (suc b) w l = omega (arith, copies_few m b w (omega arith))

pub weight_least : (b n : ℕ) → 2 ≤ weight b n
weight_least b zero = omega arith
weight_least b (suc n) = omega arith

weight_up : (b m n : ℕ) → m ≤ n → weight b m ≤ weight b n
weight_up b zero n l = weight_least b n
weight_up b (suc m) zero l = absurd (omega arith)
weight_up b (suc m) (suc n) l = let h = weight_up b m n (omega arith) in omega (arith, h, copies_up b (weight b m) (weight b n) h)

-- what these come to
abbrev pub known_weights : ℕ → List Pat → List Known → ℕ
known_weights b ps [] = 0
known_weights b ps (k ∷ ks) = weight b (left_sum ps k) + known_weights b ps ks

answers_weigh : (Δ : Declarations) (b : ℕ) (ps : List Pat) (t : Ty) (k : Known) (n : ℕ) (ks : List Known) → left_sum ps k ≡ suc n → AllGo Δ ps t k ks → known_weights b ps ks ≤ copies (length ks) (weight b n)
answers_weigh Δ b ps t k n [] e g = omega arith
answers_weigh Δ b ps t k n (x ∷ xs) e (g, gs) = omega (arith, weight_up b (left_sum ps x) n (let f = g.fewer in omega (arith, e, f)), answers_weigh Δ b ps t k n xs e gs)

no_tests : (Δ : Declarations) (b : ℕ) (ps : List Pat) (t : Ty) (k : Known) (ks : List Known) → left_sum ps k ≡ 0 → AllGo Δ ps t k ks → known_weights b ps ks ≡ 0
no_tests Δ b ps t k [] e g = refl
no_tests Δ b ps t k (x ∷ xs) e (g, gs) = absurd (let f = g.fewer in omega (arith, e, f))

-- the answers come to less, by more than one
pub lighter : (ds : List AdtDecl) (ps : List Pat) (t : Ty) (k : Known) (ks : List Known) → Branching ds ps t k ks → known_weights (most_branches ds) ps ks + 1 < weight (most_branches ds) (left_sum ps k)
lighter ds ps t k ks g = by_tests (left_sum ps k) refl
  where
    by_tests : (n : ℕ) → left_sum ps k ≡ n → known_weights (most_branches ds) ps ks + 1 < weight (most_branches ds) n
    by_tests zero e = omega (arith, no_tests (fields_in ds) (most_branches ds) ps t k ks e g.go)
    by_tests (suc n) e = omega (arith, answers_weigh (fields_in ds) (most_branches ds) ps t k n ks e g.go, copies_few (length ks) (most_branches ds) (weight (most_branches ds) n) g.few)

-- ---- what is left to look into

abbrev pub IsOpen : List AdtDecl → List Pat → Ty → State → Type 0
IsOpen ds ps t s = IsKnown (fields_in ds) s.known t × AllFail (take s.from ps) s.known

abbrev pub AllOpen : List AdtDecl → List Pat → Ty → List State → Type 0
AllOpen ds ps t [] = Unit {0}
AllOpen ds ps t (s ∷ ss) = IsOpen ds ps t s × AllOpen ds ps t ss

pub all_open_more : (ds : List AdtDecl) (ps : List Pat) (t : Ty) (xs ys : List State) → AllOpen ds ps t xs → AllOpen ds ps t ys → AllOpen ds ps t (xs ++ ys)
all_open_more ds ps t [] ys a b = b
all_open_more ds ps t (x ∷ xs) ys a b = (a.0, all_open_more ds ps t xs ys a.1 b)

pub all_open_parts : (ds : List AdtDecl) (ps : List Pat) (t : Ty) (xs : List State) (y : State) → AllOpen ds ps t (xs ++ y ∷ []) → AllOpen ds ps t xs × IsOpen ds ps t y
all_open_parts ds ps t [] y a = (tt, a.0)
all_open_parts ds ps t (x ∷ xs) y a = let g = all_open_parts ds ps t xs y a.1 in ((a.0, g.0), g.1)

-- the answers are open, from the row that asked on
pub answers_open : (ds : List AdtDecl) (ps : List Pat) (t : Ty) (k : Known) (n : ℕ) (ks : List Known) → AllFail (take n ps) k → AllGo (fields_in ds) ps t k ks → AllOpen ds ps t (states_of n ks)
answers_open ds ps t k n [] f g = tt
answers_open ds ps t k n (x ∷ xs) f (g, gs) = ((g.known, all_still_fail (take n ps) k x g.kept f), answers_open ds ps t k n xs f gs)

abbrev pub some_open : List State → Value → Bool
some_open [] v = false
some_open (s ∷ ss) v = agrees s.known v || some_open ss v

or_case : (a b : Bool) → a || b ≡ true → (a ≡ true) ⊎ (b ≡ true)
or_case true b e = inl refl
or_case false b e = inr e

or_right : (a b : Bool) → b ≡ true → a || b ≡ true
or_right true b e = refl
or_right false b e = e

open_parts : (xs : List State) (y : State) (v : Value) → some_open (xs ++ y ∷ []) v ≡ true → (some_open xs v ≡ true) ⊎ (agrees y.known v ≡ true)
open_parts [] y v e = ⊎_elim (λ a. inr a) (λ a. absurd (cc)) (or_case (agrees y.known v) false e)
open_parts (x ∷ xs) y v e = by_test (open_parts xs y v) (agrees x.known v) refl e
  where
    by_test : (some_open (xs ++ y ∷ []) v ≡ true → (some_open xs v ≡ true) ⊎ (agrees y.known v ≡ true)) → (b : Bool) → agrees x.known v ≡ b → b || some_open (xs ++ y ∷ []) v ≡ true
        → (agrees x.known v || some_open xs v ≡ true) ⊎ (agrees y.known v ≡ true)
    by_test more true f g = inl (ap (λ b. b || some_open xs v) f)
    by_test more false f g = ⊎_elim (λ a. inl (or_right _ _ a)) (λ a. inr a) (more g)

open_left : (xs ys : List State) (v : Value) → some_open xs v ≡ true → some_open (xs ++ ys) v ≡ true
open_left [] ys v e = absurd (cc)
open_left (x ∷ xs) ys v e = by_test (open_left xs ys v) (agrees x.known v) refl e
  where
    by_test : (some_open xs v ≡ true → some_open (xs ++ ys) v ≡ true) → (b : Bool) → agrees x.known v ≡ b → b || some_open xs v ≡ true → agrees x.known v || some_open (xs ++ ys) v ≡ true
    by_test more true f g = ap (λ b. b || some_open (xs ++ ys) v) f
    by_test more false f g = or_right _ _ (more g)

open_right : (xs ys : List State) (v : Value) → some_open ys v ≡ true → some_open (xs ++ ys) v ≡ true
open_right [] ys v e = e
open_right (x ∷ xs) ys v e = or_right _ _ (open_right xs ys v e)

open_answers : (n : ℕ) (ks : List Known) (v : Value) → some_agrees ks v ≡ true → some_open (states_of n ks) v ≡ true
open_answers n [] v e = e
open_answers n (k ∷ ks) v e = by_test (open_answers n ks v) (agrees k v) refl e
  where
    by_test : (some_agrees ks v ≡ true → some_open (states_of n ks) v ≡ true) → (b : Bool) → agrees k v ≡ b → b || some_agrees ks v ≡ true → agrees k v || some_open (states_of n ks) v ≡ true
    by_test more true f g = ap (λ b. b || some_open (states_of n ks) v) f
    by_test more false f g = or_right _ _ (more g)

abbrev pub state_weights : ℕ → List Pat → List State → ℕ
state_weights b ps [] = 0
state_weights b ps (s ∷ ss) = weight b (left_sum ps s.known) + state_weights b ps ss

weights_more : (b : ℕ) (ps : List Pat) (xs ys : List State) → state_weights b ps (xs ++ ys) ≡ state_weights b ps xs + state_weights b ps ys
weights_more b ps [] ys = omega arith
weights_more b ps (x ∷ xs) ys = let h = weights_more b ps xs ys in omega (arith, h)

weights_of : (b : ℕ) (ps : List Pat) (n : ℕ) (ks : List Known) → state_weights b ps (states_of n ks) ≡ known_weights b ps ks
weights_of b ps n [] = refl
weights_of b ps n (k ∷ ks) = ap (λ m. weight b (left_sum ps k) + m) (weights_of b ps n ks)

-- ---- the search

-- each value of the type is matched, or is one of those that are left
pub record Searching (ds : List AdtDecl) (ps : List Pat) (t : Ty) (ss : List State) : Type 0 where
  pub each : AllOpen ds ps t ss
  pub left_over : (θ : Tys) (v : Value) → HasSort (fields_in ds) v (instance θ t) → (some_match ps v ≡ true) ⊎ (some_open ss v ≡ true)

pub searching_starts : (ds : List AdtDecl) (ps : List Pat) (t : Ty) (k : Known) → k ≡ anything → Searching ds ps t (record { from = 0; known = k } ∷ [])
searching_starts ds ps t k e = subst (λ x. Searching ds ps t (record { from = 0; known = x } ∷ [])) (sym e) (record {
  each = ((tt, tt), tt);
  left_over = λ θ v h. inr refl;
})

pub searching_ends : (ds : List AdtDecl) (ps : List Pat) (t : Ty) → Searching ds ps t [] → Covers (fields_in ds) ps t
searching_ends ds ps t s θ v h = ⊎_elim (λ a. a) (λ a. absurd (cc)) (s.left_over θ v h)

pub open_at : (ds : List AdtDecl) (ps : List Pat) (t : Ty) (ss xs : List State) (y : State) → ss ≡ xs ++ y ∷ [] → Searching ds ps t ss → IsOpen ds ps t y
open_at ds ps t ss xs y e s = (all_open_parts ds ps t xs y (subst (AllOpen ds ps t) e s.each)).1

searching_row : (ds : List AdtDecl) (ps : List Pat) (t : Ty) (ss xs : List State) (y : State) (n : ℕ) (p : Pat) → ss ≡ xs ++ y ∷ [] → Searching ds ps t ss → next 0 ps y.known ≡ row n p → Searching ds ps t xs
searching_row ds ps t ss xs y n p e s r = record {
  each = (all_open_parts ds ps t xs y (subst (AllOpen ds ps t) e s.each)).0;
  left_over = λ θ v h. ⊎_elim
      (λ a. inl a)
      (λ a. ⊎_elim (λ o. inr o) (λ o. inl (one_matches 0 ps y.known n p v r o)) (open_parts xs y v (subst (λ zs. some_open zs v ≡ true) e a)))
      (s.left_over θ v h);
}

weights_parts : (b : ℕ) (ps : List Pat) (ss xs : List State) (y : State) → ss ≡ xs ++ y ∷ [] → state_weights b ps ss ≡ state_weights b ps xs + weight b (left_sum ps y.known)
weights_parts b ps ss xs y e =
    let w : state_weights b ps ss ≡ state_weights b ps xs + state_weights b ps (y ∷ []) = ap (state_weights b ps) e ∙ weights_more b ps xs (y ∷ []) in
    omega (arith, w)

searching_test : (ds : List AdtDecl) (ps : List Pat) (t : Ty) (ss xs zs : List State) (y : State) (n : ℕ) (ks : List Known) → ss ≡ xs ++ y ∷ [] → zs ≡ xs ++ states_of n ks → Searching ds ps t ss
    → AllFail (take n ps) y.known → Branching ds ps t y.known ks → Searching ds ps t zs
searching_test ds ps t ss xs zs y n ks e z s f g = subst (Searching ds ps t) (sym z) (record {
  each = all_open_more ds ps t xs (states_of n ks) (all_open_parts ds ps t xs y (subst (AllOpen ds ps t) e s.each)).0 (answers_open ds ps t y.known n ks f g.go);
  left_over = λ θ v h. ⊎_elim
      (λ a. inl a)
      (λ a. inr (⊎_elim (λ o. open_left xs (states_of n ks) v o) (λ o. open_right xs (states_of n ks) v (open_answers n ks v (g.one θ v h o))) (open_parts xs y v (subst (λ us. some_open us v ≡ true) e a))))
      (s.left_over θ v h);
})

lighter_test : (ds : List AdtDecl) (ps : List Pat) (t : Ty) (ss xs zs : List State) (y : State) (n : ℕ) (ks : List Known) → ss ≡ xs ++ y ∷ [] → zs ≡ xs ++ states_of n ks
    → Branching ds ps t y.known ks → state_weights (most_branches ds) ps zs < state_weights (most_branches ds) ps ss
lighter_test ds ps t ss xs zs y n ks e z g =
    let b = most_branches ds in
    let u : state_weights b ps zs ≡ state_weights b ps xs + known_weights b ps ks = ap (state_weights b ps) z ∙ weights_more b ps xs (states_of n ks) ∙ ap (λ m. state_weights b ps xs + m) (weights_of b ps n ks) in
    omega (arith, weights_parts b ps ss xs y e, u, lighter ds ps t y.known ks g)

-- a state that is not free leaves less to look into
pub searching_goes_on : (ds : List AdtDecl) (ps : List Pat) (t : Ty) (ss xs zs : List State) (y : State) (free : Bool) → AllPats (fields_in ds) ps t → ss ≡ xs ++ y ∷ [] → Searching ds ps t ss
    → IsLookedInto ds ps y.known xs zs free → free ≡ false → Searching ds ps t zs × (state_weights (most_branches ds) ps zs < state_weights (most_branches ds) ps ss)
searching_goes_on ds ps t ss xs zs y free h e s l f = by_next (next 0 ps y.known) refl l
  where
    by_next : (n : Next) → next 0 ps y.known ≡ n → LeavesBy ds ps y.known n xs zs free → Searching ds ps t zs × (state_weights (most_branches ds) ps zs < state_weights (most_branches ds) ps ss)
    by_next no_row n m = absurd (cc)
    by_next (row i p) n (m, same) = (
      subst (Searching ds ps t) (sym same) (searching_row ds ps t ss xs y i p e s n),
      (let b = most_branches ds in
          let w : state_weights b ps zs ≡ state_weights b ps xs = ap (state_weights b ps) same in
          omega (arith, w, weights_parts b ps ss xs y e, weight_least b (left_sum ps y.known))),
    )
    by_next (test q w) n (m, at, ks, fail, are, is) =
        let g = branching ds ps t y.known q w ks h (open_at ds ps t ss xs y e s).0 n are in
        (searching_test ds ps t ss xs zs y at ks e is s fail g, lighter_test ds ps t ss xs zs y at ks e is g)

-- where a state is free, no arm matches a value of it
pub free_value : (ds : List AdtDecl) (ps : List Pat) (t : Ty) (ss xs zs : List State) (y : State) (free : Bool) (w : PatValue) → ss ≡ xs ++ y ∷ [] → Searching ds ps t ss
    → IsLookedInto ds ps y.known xs zs free → free ≡ true → Settles y.known w → IsPatValue (fields_in ds) w t × ((v : Value) → stands_for w v ≡ true → some_match ps v ≡ false)
free_value ds ps t ss xs zs y free w e s l f c = by_next (next 0 ps y.known) refl l
  where
    by_next : (n : Next) → next 0 ps y.known ≡ n → LeavesBy ds ps y.known n xs zs free → IsPatValue (fields_in ds) w t × ((v : Value) → stands_for w v ≡ true → some_match ps v ≡ false)
    by_next no_row n m = (settled_known (fields_in ds) y.known w t c (open_at ds ps t ss xs y e s).0, λ v a. none_matches 0 ps y.known v n (settled_agrees y.known w v c a))
    by_next (row i p) n (m, same) = absurd (cc)
    by_next (test q z) n (m, at, ks, fail, are, is) = absurd (cc)
