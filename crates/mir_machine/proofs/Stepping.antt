-- The code's list of frames, and what each step of a machine keeps.
use Rattle.std.proofs.Common.{◌≡◌, ◌∙◌, refl, ap, subst, ℕ, zero, suc, ◌-◌, List, [], ◌∷◌, ◌++◌, length, reverse, get_or, slice_set, arith}
use Rattle.std.proofs.lemmas.List.{length-append, reverse-append}
use Rattle.mir_machine.specs.Try.{Try, Sticks}
use Rattle.mir_machine.specs.Tree.{Tree}
use Rattle.mir_machine.specs.Frame.{State}
use Rattle.mir_machine.specs.Step.{Outcome, Running, outcome_of, try_step, next, after_from}
use Rattle.mir_machine.specs.Run.{Run, IsSafe}
use Rattle.mir_ir.specs.declared.body.Bodies.{Bodies}
use Rattle.mir_machine.specs.Code.{Code, code_of}

abbrev T : Type 0
T = Tree (Unit {0})

abbrev Frames : Type 0
Frames = State (Unit {0})

-- ---- calls and returns in the code's list of frames, in which the last stands first behind the running one

get_last : {A : Type 0} (xs : List A) (g r : A) → get_or (xs ++ g ∷ []) (length xs) r ≡ g
get_last [] g r = refl
get_last (x ∷ xs) g r = get_last xs g r

set_last : {A : Type 0} (xs : List A) (g y : A) → slice_set (xs ++ g ∷ []) (length xs) y ≡ xs ++ y ∷ []
set_last [] g y = refl
set_last (x ∷ xs) g y = ap (λ zs. x ∷ zs) (set_last xs g y)

-- g was put at the end, and exchanged with the running frame y
pub exchanged : {A : Type 0} (xs ys : List A) (g r x y h : A) (n : ℕ) → ys ≡ xs ++ g ∷ [] → n ≡ length ys → r ≡ get_or ys (n - 1) r → x ≡ r → y ≡ h → x ∷ reverse (slice_set ys (n - 1) y) ≡ g ∷ h ∷ reverse xs
exchanged {A} xs ys g r x y h n is_ys is_n is_r is_x is_y =
    let at : n - 1 ≡ length xs = omega (arith, ap length is_ys, length-append xs (g ∷ [])) in
    let first : x ≡ g = is_x ∙ is_r ∙ ap (λ i. get_or ys i r) at ∙ ap (λ zs. get_or zs (length xs) r) is_ys ∙ get_last xs g r in
    let rest : slice_set ys (n - 1) y ≡ xs ++ h ∷ [] = ap (λ i. slice_set ys i y) at ∙ ap (λ zs. slice_set zs (length xs) y) is_ys ∙ set_last xs g y ∙ ap (λ z. xs ++ z ∷ []) is_y in
    ap (λ z. z ∷ reverse (slice_set ys (n - 1) y)) first ∙ ap (λ zs. g ∷ reverse zs) rest ∙ ap (λ zs. g ∷ zs) (reverse-append xs (h ∷ []))

-- the frame that was taken off the end stood first behind the running one
pub last_first : {A : Type 0} (xs ys : List A) (f : A) → xs ≡ ys ++ f ∷ [] → reverse xs ≡ f ∷ reverse ys
last_first xs ys f is = ap reverse is ∙ reverse-append ys (f ∷ [])

-- ---- safety

after_next : (code : Code (Unit {0})) (n : ℕ) (o : Outcome (Unit {0})) → after_from code (suc n) o ≡ after_from code n (next code o)
after_next code zero o = refl
after_next code (suc n) o = ap (next code) (after_next code n o)

pub safe_next : (m : Run) → IsSafe m → IsSafe (record m { outcome = next (code_of m.bodies) m.outcome })
safe_next m h = λ n e. h (suc n) (after_next (code_of m.bodies) n m.outcome ∙ e)

abbrev pub at : Bodies → Outcome (Unit {0}) → Run
at bodies o = record { bodies = bodies; outcome = o }

pub safe_step : (bodies : Bodies) (s : Frames) (t : Try (Outcome (Unit {0}))) → IsSafe (at bodies (Running s)) → try_step (code_of bodies) s ≡ t → IsSafe (at bodies (outcome_of t))
safe_step bodies s t h e = subst (λ o. IsSafe (at bodies o)) (ap outcome_of e) (safe_next (at bodies (Running s)) h)

pub never_sticks : (bodies : Bodies) (s : Frames) → IsSafe (at bodies (Running s)) → try_step (code_of bodies) s ≡ Sticks → ⊥
never_sticks bodies s h e = h 1 (ap outcome_of e)
