-- The names of locals and their types.
use Rattle.std.proofs.Common.{◌≡◌, refl, ap, sym, ◌∙◌, subst, ℕ, zero, suc, ◌+◌, ◌^◌, ◌<◌, ◌≤◌, ◌==◌, Bool, true, false, cond, List, [], ◌∷◌, ◌++◌, map, length, Some, slice_get, arith}
use Rattle.std.proofs.lemmas.Bool.{eqb-true}
use Rattle.std.proofs.lemmas.Bool.Decides.{nat_tests}
use Rattle.std.proofs.lemmas.Option.{slice_get_within}
use Rattle.text_core.specs.declared.name.Name.{Name}
use Rattle.logic_term.specs.declared.declaration.AdtDecl.{AdtDecl}
use Rattle.logic_term.specs.Ty.{Ty}
use Rattle.mir_ir.specs.declared.body.Body.{Body}
use Rattle.mir_ir.specs.declared.body.Initialised.{Initialised}
use Rattle.type_check.specs.declared.program.Signature.{Signature}
use Rattle.type_check.specs.declared.program.TypedFunction.{TypedFunction}
use Rattle.type_check.specs.VariableNames.{variable_name, answer_name}
use Rattle.runnable.specs.Runs.{Runs, AllRun}
use Rattle.mir_build.specs.Laws.{LocalsAreNoVariables}
use Rattle.mir_ir.specs.Names.{LocalsAreNamed, new_number}
use Rattle.mir_build.specs.Text.{Line, Puts, Makes, Turns, Leaves, Owns, made}
use Rattle.mir_build.specs.Lowering.{numbers, counted, paired, all_locals, local_name, LowersTo}
use Rattle.mir_build.proofs.Numbers.{count}
use Rattle.mir_build.proofs.LawLists.{Has, here, there}
use Rattle.mir_build.proofs.LawTyped.{AreTyped}
use Rattle.mir_build.proofs.LawTypes.{Callee}
use Rattle.mir_build.proofs.OneBody.{locals_once}
use Rattle.mir_build.proofs.LawFunction.{locals_fit, lines_typed}
use Rattle.mir_ir.specs.declared.body.Bodies.{Bodies}
use Rattle.mir_build.proofs.Basics.{some_same}
use Rattle.mir_build.proofs.PlainTyping.{FunctionFitsPlainly}

-- ---- names by number

shift : (m i : ℕ) → (m + 1) + i ≡ m + suc i
shift m i = omega arith

no_shift : (m : ℕ) → m + 0 ≡ m
no_shift m = omega arith

pub counted_at : {A : Type 0} (g : ℕ → Name) (m : ℕ) (xs : List A) (i : ℕ) (n : Name) → slice_get (map g (counted m xs)) i ≡ Some n → (n ≡ g (m + i)) × (i < length xs)
counted_at g m [] i n e = absurd (cc)
counted_at g m (x ∷ xs) zero n e = (sym (some_same e) ∙ ap g (sym (no_shift m)), omega arith)
counted_at g m (x ∷ xs) (suc i) n e = let w = counted_at g (m + 1) xs i n e in (w.0 ∙ ap g (shift m i), omega (arith, w.1))

pub counted_get : {A : Type 0} (g : ℕ → Name) (m : ℕ) (xs : List A) (i : ℕ) → i < length xs → slice_get (map g (counted m xs)) i ≡ Some (g (m + i))
counted_get g m [] i h = absurd (omega arith)
counted_get g m (x ∷ xs) zero h = ap Some (ap g (sym (no_shift m)))
counted_get g m (x ∷ xs) (suc i) h = counted_get g (m + 1) xs i (omega arith) ∙ ap Some (ap g (shift m i))

pub local_number : (x y : ℕ) → (local_name x).0 ≡ (local_name y).0 → x ≡ y
unfolding local_name
local_number x y e = omega (arith, e)

pub local_no_variable : (x k : ℕ) → x ≤ 2 ^ 32 → (local_name x).0 ≡ (variable_name k).0 → ⊥
unfolding local_name variable_name
local_no_variable x k h e = omega (arith, e)

pub local_no_answer : (x : ℕ) → x ≤ 2 ^ 32 → (local_name x).0 ≡ answer_name.0 → ⊥
unfolding local_name answer_name
local_no_answer x h e = omega (arith, e)

pub local_not_new : (x : ℕ) → x ≤ 2 ^ 32 → (local_name x).0 < new_number
unfolding local_name
local_not_new x h = omega arith

pub variable_number : (x y : ℕ) → (variable_name x).0 ≡ (variable_name y).0 → x ≡ y
unfolding variable_name
variable_number x y e = omega (arith, e)

pub variable_no_answer : (k : ℕ) → k ≤ 2 ^ 32 → (variable_name k).0 ≡ answer_name.0 → ⊥
unfolding variable_name answer_name
variable_no_answer k h e = omega (arith, e)

pub variable_not_new : (k : ℕ) → k ≤ 2 ^ 32 → (variable_name k).0 < new_number
unfolding variable_name
variable_not_new k h = omega arith

number_of : {n m : Name} → n ≡ m → n.0 ≡ m.0
number_of e = ap (λ (z : Name). z.0) e

-- ---- as many different numbers below a bound as the bound

total : ℕ → List ℕ → ℕ
total zero ns = 0
total (suc k) ns = count k ns + total k ns

differ : (x y : ℕ) → x ≡ y → (x == y) ≡ false → ⊥
differ x y q d = grind (arith, nat_tests)

total_past : (k y : ℕ) (ys : List ℕ) → k ≤ y → total k (y ∷ ys) ≡ total k ys
unfolding total
total_past zero y ys h = refl
total_past (suc k) y ys h = by_test (k == y) refl (total_past k y ys (omega arith))
  where
    by_test : (c : Bool) → (k == y) ≡ c → total k (y ∷ ys) ≡ total k ys → (cond c 1 0 + count k ys) + total k (y ∷ ys) ≡ count k ys + total k ys
    by_test true e rest = let q : k ≡ y = eqb-true k y e in absurd (omega arith)
    by_test false e rest = omega (arith, rest)

total_more : (k y : ℕ) (ys : List ℕ) → y < k → total k (y ∷ ys) ≡ 1 + total k ys
unfolding total
total_more zero y ys h = absurd (omega arith)
total_more (suc k) y ys h = by_test (k == y) refl (total_more k y ys) (total_past k y ys)
  where
    by_test : (c : Bool) → (k == y) ≡ c → (y < k → total k (y ∷ ys) ≡ 1 + total k ys) → (k ≤ y → total k (y ∷ ys) ≡ total k ys) → (cond c 1 0 + count k ys) + total k (y ∷ ys) ≡ 1 + (count k ys + total k ys)
    by_test true e rest past = let q : k ≡ y = eqb-true k y e in omega (arith, past (omega arith))
    by_test false e rest past = let other : k ≡ y → ⊥ = λ q. differ k y q e in omega (arith, rest (omega (arith, other)))

total_none : (k : ℕ) → total k [] ≡ 0
unfolding total
total_none zero = refl
total_none (suc k) = omega (arith, total_none k)

total_all : (k : ℕ) (ns : List ℕ) → ((x : ℕ) → Has x ns → x < k) → total k ns ≡ length ns
total_all k [] h = total_none k
total_all k (y ∷ ys) h = omega (arith, total_more k y ys (h y here), total_all k ys (λ x g. h x (there g)))

total_most : (k : ℕ) (ns : List ℕ) → ((x : ℕ) → count x ns ≤ 1) → total k ns ≤ k
unfolding total
total_most zero ns h = omega arith
total_most (suc k) ns h = omega (arith, h k, total_most k ns h)

total_less : (k x : ℕ) (ns : List ℕ) → ((x : ℕ) → count x ns ≤ 1) → count x ns ≡ 0 → x < k → total k ns + 1 ≤ k
unfolding total
total_less zero x ns h z g = absurd (omega arith)
total_less (suc k) x ns h z g = by_test (k == x) refl (total_less k x ns h z)
  where
    by_test : (c : Bool) → (k == x) ≡ c → (x < k → total k ns + 1 ≤ k) → (count k ns + total k ns) + 1 ≤ suc k
    by_test true e rest = let q : count k ns ≡ 0 = ap (λ n. count n ns) (eqb-true k x e) ∙ z in omega (arith, total_most k ns h)
    by_test false e rest = let other : k ≡ x → ⊥ = λ q. differ k x q e in omega (arith, h k, rest (omega (arith, other)))

-- each number below the bound stands in the list
pub each_counts : (k : ℕ) (ns : List ℕ) → length ns ≡ k → ((x : ℕ) → Has x ns → x < k) → ((x : ℕ) → count x ns ≤ 1) → (x : ℕ) → x < k → 1 ≤ count x ns
each_counts k ns q h once x g = by_count (count x ns) refl
  where
    by_count : (c : ℕ) → count x ns ≡ c → 1 ≤ c
    by_count zero e = absurd (omega (arith, total_less k x ns once e g, total_all k ns h))
    by_count (suc c) e = omega arith

counted_has : (x : ℕ) (ms : List (ℕ × Ty)) → 1 ≤ count x (numbers ms) → (t : Ty) × Has (x, t) ms
counted_has x [] h = absurd (omega arith)
counted_has x (m ∷ ms) h = by_test (x == m.0) refl h (counted_has x ms)
  where
    by_test : (c : Bool) → (x == m.0) ≡ c → 1 ≤ cond c 1 0 + count x (numbers ms) → (1 ≤ count x (numbers ms) → (t : Ty) × Has (x, t) ms) → (t : Ty) × Has (x, t) (m ∷ ms)
    by_test true e g rest = let q : m.0 ≡ x = sym (eqb-true x m.0 e) in (m.1, subst (λ (n : ℕ). Has (n, m.1) (m ∷ ms)) q here)
    by_test false e g rest = let w = rest (omega arith) in (w.0, there w.1)

number_has : (x : ℕ) (ms : List (ℕ × Ty)) → Has x (numbers ms) → (t : Ty) × Has (x, t) ms
number_has x [] h = elim h [ ]
number_has x (m ∷ ms) here = (m.1, here)
number_has x (m ∷ ms) (there h) = let w = number_has x ms h in (w.0, there w.1)

numbers_length : (ms : List (ℕ × Ty)) → length (numbers ms) ≡ length ms
numbers_length [] = refl
numbers_length (m ∷ ms) = ap suc (numbers_length ms)

-- ---- types that run

module _ (ds : List AdtDecl) where
  -- each of the locals is of a type that runs
  pub record EachOfRuns (ms : List (ℕ × Ty)) : Type 0 where
    pub runs : (x : ℕ) (t : Ty) → Has (x, t) ms → Runs ds t

  pub first_runs : (x : ℕ) (t : Ty) (ms : List (ℕ × Ty)) → Runs ds t → EachOfRuns ms → EachOfRuns ((x, t) ∷ ms)
  first_runs x t ms h g = record { runs = λ y u k. by_case y u ((x, t) ∷ ms) k refl }
    where
      by_case : (y : ℕ) (u : Ty) (ns : List (ℕ × Ty)) → Has (y, u) ns → ns ≡ (x, t) ∷ ms → Runs ds u
      by_case y u ns (here {xs = ns'}) e = let r : ◌≡◌ {A = ℕ × Ty} (y, u) (x, t) = cc in let q : u ≡ t = ap (λ (p : ℕ × Ty). p.1) r in subst (Runs ds) (sym q) h
      by_case y u ns (there {y = z} {xs = ns'} k) e = let q : ns' ≡ ms = cc in g.runs y u (subst (λ os. Has (y, u) os) q k)

  pub runs-append : (ms ns : List (ℕ × Ty)) → EachOfRuns ms → EachOfRuns ns → EachOfRuns (ms ++ ns)
  runs-append [] ns h g = g
  runs-append (m ∷ ms) ns h g = first_runs m.0 m.1 (ms ++ ns) (h.runs m.0 m.1 here) (runs-append ms ns (record { runs = λ x t k. h.runs x t (there k) }) g)

  none_runs : EachOfRuns []
  none_runs = record { runs = λ x t h. elim h [ ] }

  pub params_run : (n : ℕ) (ts : List Ty) → AllRun ds ts → EachOfRuns (paired n ts)
  params_run n [] h = none_runs
  params_run n (t ∷ ts) h = first_runs n t (paired (n + 1) ts) h.0 (params_run (n + 1) ts h.1)

  pub text_runs : (bodies : Bodies) (b : Body) (xs : List Line) → AreTyped ds bodies b xs → EachOfRuns (made xs)
  text_runs bodies b [] h = none_runs
  text_runs bodies b (Puts s ∷ xs) h = text_runs bodies b xs h.1
  text_runs bodies b (Makes x t ∷ xs) h = first_runs x t (made xs) h.0 (text_runs bodies b xs h.1)
  text_runs bodies b (Turns t k ∷ xs) h = text_runs bodies b xs h.2
  text_runs bodies b (Leaves t ∷ xs) h = text_runs bodies b xs h.1
  text_runs bodies b (Owns l ys ∷ xs) h = text_runs bodies b xs h

module _ (owner : List ℕ) (f : TypedFunction) (b : Body) (gone : Initialised) {δ : List AdtDecl} {τ : List Signature} (l : LowersTo δ τ owner f b gone) where
  name_at : (x : ℕ) (n : Name) → slice_get b.names x ≡ Some n → (n ≡ local_name x) × (x < length b.locals)
  name_at x n e =
      let w = counted_at local_name 0 b.locals x n (sym (ap (λ ns. slice_get ns x) l.names) ∙ e) in
      let q : 0 + x ≡ x = omega arith in
      (w.0 ∙ ap local_name q, w.1)

  pub named : (x : ℕ) → x < length b.locals → slice_get b.names x ≡ Some (local_name x)
  named x h = let q : 0 + x ≡ x = omega arith in ap (λ ns. slice_get ns x) l.names ∙ counted_get local_name 0 b.locals x h ∙ ap Some (ap local_name q)

  pub small_named : (x : ℕ) (n : Name) → slice_get b.names x ≡ Some n → (n.0 ≡ (local_name x).0) × (x ≤ 2 ^ 32)
  small_named x n e = let w = name_at x n e in (number_of w.0, omega (arith, w.1, l.few))

  pub locals_are_named : LocalsAreNamed b × LocalsAreNoVariables b
  locals_are_named = (
    record {
      apart = λ x y n m e f q. local_number x y (sym (small_named x n e).0 ∙ q ∙ (small_named y m f).0);
      none_is_new = λ x n e. subst (λ i. i < new_number) (sym (small_named x n e).0) (local_not_new x (small_named x n e).1);
    },
    record {
      no_variable = λ x k n e q. local_no_variable x k (small_named x n e).1 (sym (small_named x n e).0 ∙ q);
      no_answer = λ x n e q. local_no_answer x (small_named x n e).1 (sym (small_named x n e).0 ∙ q);
    },
  )

  module _ (σ : List Signature) (bodies : Bodies) (decls : bodies.decls ≡ δ) (fits : FunctionFitsPlainly δ σ f) (callees : (n : ℕ) (g : Signature) → slice_get σ n ≡ Some g → Callee bodies n g) (answers : (n : ℕ) (g : Signature) → slice_get σ n ≡ Some g → Runs δ g.answer) where
    all_run : EachOfRuns δ (all_locals f l.text)
    all_run = first_runs δ 0 f.signature.answer (paired 1 f.signature.params ++ made l.text) fits.answer
        (runs-append δ (paired 1 f.signature.params) (made l.text) (params_run δ 1 f.signature.params fits.params)
        (text_runs δ bodies b l.text (lines_typed owner f b gone l σ bodies decls fits callees answers)))

    below : (x : ℕ) → Has x (numbers (all_locals f l.text)) → x < length b.locals
    below x h = let w = number_has x (all_locals f l.text) h in slice_get_within b.locals x w.0 ((locals_fit owner f b gone l).fits x w.0 w.1)

    pub types_run : (x : ℕ) (t : Ty) → slice_get b.locals x ≡ Some t → Runs δ t
    types_run x t e =
        let n = each_counts (length b.locals) (numbers (all_locals f l.text)) (numbers_length (all_locals f l.text) ∙ sym l.all) below (locals_once δ τ owner f b gone l) x (slice_get_within b.locals x t e) in
        let w = counted_has x (all_locals f l.text) n in
        let q : w.0 ≡ t = some_same (sym ((locals_fit owner f b gone l).fits x w.0 w.1) ∙ e) in
        subst (Runs δ) q (all_run.runs x w.0 w.1)
