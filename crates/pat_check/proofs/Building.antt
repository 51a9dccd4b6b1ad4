-- The building of a tree: tasks on a stack, and the trees that are stands, on another.
use Rattle.std.proofs.Common.{◌≡◌, refl, sym, ap, ◌∙◌, subst, ℕ, zero, suc, ◌+◌, ◌<◌, List, [], ◌∷◌, ◌++◌, length, drop, take, reverse, arith}
use Rattle.std.proofs.lemmas.List.{reverse-append, reverse-reverse}
use Rattle.logic_term.specs.Matches.{bindings}
use Rattle.logic_term.specs.Pattern.{Pat}
use Rattle.logic_term.specs.Ty.{Ty}
use Rattle.logic_term.specs.declared.declaration.AdtDecl.{AdtDecl}
use Rattle.logic_term.specs.declared.pattern.PatStep.{PatStep}
use Rattle.pat_check.proofs.Branching.{most_branches, AllGo, branching}
use Rattle.pat_check.proofs.Going.{left_sum}
use Rattle.pat_check.proofs.Parts.{from}
use Rattle.pat_check.proofs.Refined.{all_still_fail}
use Rattle.pat_check.proofs.Searching.{weight_least, weight, known_weights, lighter, IsOpen}
use Rattle.pat_check.specs.Branches.{AreBranches}
use Rattle.pat_check.specs.Decision.{Decision, leaf}
use Rattle.pat_check.specs.Known.{Known, anything}
use Rattle.pat_check.specs.KnownTypes.{IsKnown}
use Rattle.pat_check.specs.Rows.{Next, no_row, row, test, next, AllFail}
use Rattle.pat_check.specs.Tasks.{decides, IsReady, DecidesBy, Joins, IsDone}
use Rattle.pat_check.specs.Tree.{IsNode, IsTree, AreTrees, is_leaf, is_node, no_trees, and_tree, IsTreeOf}
use Rattle.pat_check.specs.Typed.{fields_in, AllPats}
use Rattle.pat_check.specs.declared.state.State.{State}
use Rattle.pat_check.specs.declared.task.Task.{Task}
use Rattle.pat_check.specs.declared.test.Test.{Test}
use Rattle.pat_check.specs.declared.task.Task.TheVariants as task

assoc : {A : Type 0} (xs ys zs : List A) → (xs ++ ys) ++ zs ≡ xs ++ (ys ++ zs)
assoc [] ys zs = refl
assoc (x ∷ xs) ys zs = ap (λ us. x ∷ us) (assoc xs ys zs)

reverse_last : {A : Type 0} (xs : List A) (y : A) → reverse (xs ++ y ∷ []) ≡ y ∷ reverse xs
reverse_last xs y = reverse-append xs (y ∷ [])

reverse_first : {A : Type 0} (x : A) (xs : List A) → reverse (x ∷ xs) ≡ reverse xs ++ x ∷ []
reverse_first x xs = reverse-append (x ∷ []) xs

-- ---- what the tasks lead to

-- from these trees, that on top first, the tasks, that on top first, may come to the tree D
abbrev pub Finishes : List AdtDecl → List Pat → List Task → List Decision → Decision → Type 0
Finishes ds ps [] [] D = ⊥
Finishes ds ps [] (E ∷ rs) D = E ≡ D
Finishes ds ps (task.Decide s ∷ ts) rs D = (E : Decision) × IsTree ds ps s.known E × Finishes ds ps ts (E ∷ rs) D
Finishes ds ps (task.Join q w n ∷ ts) rs D = (E : Decision) × IsNode ds q w (take n rs) E × Finishes ds ps ts (E ∷ drop n rs) D

decided_last : (n : ℕ) (k : Known) (ks : List Known) (zs : List Task) → reverse (decides n (k ∷ ks)) ++ zs ≡ reverse (decides n ks) ++ task.Decide (record { from = n; known = k }) ∷ zs
decided_last n k ks zs = ap (λ us. us ++ zs) (reverse_first (task.Decide (record { from = n; known = k })) (decides n ks)) ∙ assoc (reverse (decides n ks)) (task.Decide (record { from = n; known = k }) ∷ []) zs

-- the trees of the branches come first
branches_finish : (ds : List AdtDecl) (ps : List Pat) (n : ℕ) (ks : List Known) (zs : List Task) (rs : List Decision) (D : Decision) → Finishes ds ps (reverse (decides n ks) ++ zs) rs D
    → (Ds : List Decision) × AreTrees ds ps ks Ds × (length Ds ≡ length ks) × Finishes ds ps zs (Ds ++ rs) D
branches_finish ds ps n [] zs rs D f = ([], no_trees, refl, f)
branches_finish ds ps n (k ∷ ks) zs rs D f =
    let g = branches_finish ds ps n ks (task.Decide (record { from = n; known = k }) ∷ zs) rs D (subst (λ ts. Finishes ds ps ts rs D) (decided_last n k ks zs) f) in
    let E = g.3.0 in
    (E ∷ g.0, and_tree g.3.1 g.1, ap suc g.2, g.3.2)

take_front : {A : Type 0} (n : ℕ) (xs ys : List A) → length xs ≡ n → take n (xs ++ ys) ≡ xs
take_front zero [] ys e = refl
take_front zero (x ∷ xs) ys e = absurd (omega (arith, e))
take_front (suc n) [] ys e = absurd (omega (arith, e))
take_front (suc n) (x ∷ xs) ys e = ap (λ us. x ∷ us) (take_front n xs ys (omega (arith, e)))

drop_front : {A : Type 0} (n : ℕ) (xs ys : List A) → length xs ≡ n → drop n (xs ++ ys) ≡ ys
drop_front zero [] ys e = refl
drop_front zero (x ∷ xs) ys e = absurd (omega (arith, e))
drop_front (suc n) [] ys e = absurd (omega (arith, e))
drop_front (suc n) (x ∷ xs) ys e = drop_front n xs ys (omega (arith, e))

-- a test whose branches are still to be decided finishes as the test does
test_finishes : (ds : List AdtDecl) (ps : List Pat) (k : Known) (q : List PatStep) (w : Test) (n : ℕ) (ks : List Known) (from : ℕ) (ts : List Task) (rs : List Decision) (D : Decision)
    → next 0 ps k ≡ test q w → AreBranches ds k q w ks → Finishes ds ps (reverse (decides n ks) ++ task.Join q w (length ks) ∷ ts) rs D → Finishes ds ps (task.Decide (record { from = from; known = k }) ∷ ts) rs D
test_finishes ds ps k q w n ks from ts rs D e are f =
    let g = branches_finish ds ps n ks (task.Join q w (length ks) ∷ ts) rs D f in
    let E = g.3.0 in
    (E, is_node e are g.1 (subst (λ Ds. IsNode ds q w Ds E) (take_front (length ks) g.0 rs g.2) g.3.1), subst (λ us. Finishes ds ps ts (E ∷ us) D) (drop_front (length ks) g.0 rs g.2) g.3.2)

-- ---- a measure

abbrev pub task_weight : ℕ → List Pat → Task → ℕ
task_weight b ps (task.Decide s) = weight b (left_sum ps s.known)
task_weight b ps (task.Join q w n) = 1

abbrev pub task_weights : ℕ → List Pat → List Task → ℕ
task_weights b ps [] = 0
task_weights b ps (t ∷ ts) = task_weight b ps t + task_weights b ps ts

weights_more : (b : ℕ) (ps : List Pat) (xs ys : List Task) → task_weights b ps (xs ++ ys) ≡ task_weights b ps xs + task_weights b ps ys
weights_more b ps [] ys = omega arith
weights_more b ps (x ∷ xs) ys = let h = weights_more b ps xs ys in omega (arith, h)

weights_of : (b : ℕ) (ps : List Pat) (n : ℕ) (ks : List Known) → task_weights b ps (decides n ks) ≡ known_weights b ps ks
weights_of b ps n [] = refl
weights_of b ps n (k ∷ ks) = ap (λ m. weight b (left_sum ps k) + m) (weights_of b ps n ks)

weights_parts : (b : ℕ) (ps : List Pat) (ts xs : List Task) (y : Task) → ts ≡ xs ++ y ∷ [] → task_weights b ps ts ≡ task_weights b ps xs + task_weight b ps y
weights_parts b ps ts xs y e =
    let w : task_weights b ps ts ≡ task_weights b ps xs + task_weights b ps (y ∷ []) = ap (task_weights b ps) e ∙ weights_more b ps xs (y ∷ []) in
    omega (arith, w)

-- ---- the building

abbrev pub IsTask : List AdtDecl → List Pat → Ty → Task → Type 0
IsTask ds ps t (task.Decide s) = IsOpen ds ps t s
IsTask ds ps t (task.Join q w n) = Unit {0}

abbrev pub AllTasks : List AdtDecl → List Pat → Ty → List Task → Type 0
AllTasks ds ps t [] = Unit {0}
AllTasks ds ps t (x ∷ xs) = IsTask ds ps t x × AllTasks ds ps t xs

all_tasks_more : (ds : List AdtDecl) (ps : List Pat) (t : Ty) (xs ys : List Task) → AllTasks ds ps t xs → AllTasks ds ps t ys → AllTasks ds ps t (xs ++ ys)
all_tasks_more ds ps t [] ys a b = b
all_tasks_more ds ps t (x ∷ xs) ys a b = (a.0, all_tasks_more ds ps t xs ys a.1 b)

all_tasks_parts : (ds : List AdtDecl) (ps : List Pat) (t : Ty) (xs : List Task) (y : Task) → AllTasks ds ps t (xs ++ y ∷ []) → AllTasks ds ps t xs × IsTask ds ps t y
all_tasks_parts ds ps t [] y a = (tt, a.0)
all_tasks_parts ds ps t (x ∷ xs) y a = let g = all_tasks_parts ds ps t xs y a.1 in ((a.0, g.0), g.1)

decides_tasks : (ds : List AdtDecl) (ps : List Pat) (t : Ty) (k : Known) (n : ℕ) (ks : List Known) → AllFail (take n ps) k → AllGo (fields_in ds) ps t k ks → AllTasks ds ps t (decides n ks)
decides_tasks ds ps t k n [] f g = tt
decides_tasks ds ps t k n (x ∷ xs) f (g, gs) = ((g.known, all_still_fail (take n ps) k x g.kept f), decides_tasks ds ps t k n xs f gs)

-- what the tasks may come to is the tree of the arms
pub record Building (ds : List AdtDecl) (ps : List Pat) (t : Ty) (ts : List Task) (ms : List Decision) : Type 0 where
  pub each : AllTasks ds ps t ts
  pub leads : (D : Decision) → Finishes ds ps (reverse ts) (reverse ms) D → IsTreeOf ds ps D

pub building_starts : (ds : List AdtDecl) (ps : List Pat) (t : Ty) (k : Known) → k ≡ anything → Building ds ps t (task.Decide (record { from = 0; known = k }) ∷ []) []
building_starts ds ps t k e = record {
  each = (subst (λ x. IsKnown (fields_in ds) x t × AllFail (take 0 ps) x) (sym e) (tt, tt), tt);
  leads = λ D f. subst (IsTree ds ps anything) f.2 (subst (λ x. IsTree ds ps x f.0) e f.1);
}

pub building_ends : (ds : List AdtDecl) (ps : List Pat) (t : Ty) (ms rest : List Decision) (D : Decision) → ms ≡ rest ++ D ∷ [] → Building ds ps t [] ms → IsTreeOf ds ps D
building_ends ds ps t ms rest D e b = b.leads D (subst (λ rs. Finishes ds ps [] rs D) (sym (ap reverse e ∙ reverse_last rest D)) refl)

pub is_ready : (ds : List AdtDecl) (ps : List Pat) (t : Ty) (ts xs : List Task) (y : Task) (ms : List Decision) → ts ≡ xs ++ y ∷ [] → Building ds ps t ts ms → IsReady ps y
is_ready ds ps t ts xs y ms e b = of_task y (all_tasks_parts ds ps t xs y (subst (AllTasks ds ps t) e b.each)).1
  where
    of_task : (y : Task) → IsTask ds ps t y → IsReady ps y
    of_task (task.Decide s) h = h.1
    of_task (task.Join q w n) h = tt

-- the same, with the task on top
led_by : (ds : List AdtDecl) (ps : List Pat) (t : Ty) (ts xs : List Task) (y : Task) (ms : List Decision) → ts ≡ xs ++ y ∷ [] → Building ds ps t ts ms → (D : Decision) → Finishes ds ps (y ∷ reverse xs) (reverse ms) D → IsTreeOf ds ps D
led_by ds ps t ts xs y ms e b D f = b.leads D (subst (λ us. Finishes ds ps us (reverse ms) D) (sym (ap reverse e ∙ reverse_last xs y)) f)

front_tasks : (ds : List AdtDecl) (ps : List Pat) (t : Ty) (ts xs : List Task) (y : Task) (ms : List Decision) → ts ≡ xs ++ y ∷ [] → Building ds ps t ts ms → AllTasks ds ps t xs × IsTask ds ps t y
front_tasks ds ps t ts xs y ms e b = all_tasks_parts ds ps t xs y (subst (AllTasks ds ps t) e b.each)

abbrev pub GoesOn : List AdtDecl → List Pat → Ty → List Task → List Task → List Decision → Type 0
GoesOn ds ps t ts us ns = Building ds ps t us ns × (task_weights (most_branches ds) ps us < task_weights (most_branches ds) ps ts)

leaf_made : (ds : List AdtDecl) (ps : List Pat) (t : Ty) (ts xs us : List Task) (s : State) (ms ns : List Decision) (n : ℕ) (p : Pat) → ts ≡ xs ++ task.Decide s ∷ [] → Building ds ps t ts ms
    → next 0 ps s.known ≡ row n p → us ≡ xs → ns ≡ ms ++ leaf n (bindings p) ∷ [] → GoesOn ds ps t ts us ns
leaf_made ds ps t ts xs us s ms ns n p e b r is stands = (
  record {
    each = subst (AllTasks ds ps t) (sym is) (front_tasks ds ps t ts xs (task.Decide s) ms e b).0;
    leads = λ D f. led_by ds ps t ts xs (task.Decide s) ms e b D
        (leaf n (bindings p), is_leaf r, subst (λ rs. Finishes ds ps (reverse xs) rs D) (ap reverse stands ∙ reverse_last ms (leaf n (bindings p))) (subst (λ vs. Finishes ds ps (reverse vs) (reverse ns) D) is f));
  },
  (let c = most_branches ds in
      let w : task_weights c ps us ≡ task_weights c ps xs = ap (task_weights c ps) is in
      omega (arith, w, weights_parts c ps ts xs (task.Decide s) e, weight_least c (left_sum ps s.known))),
)

tests_reversed : (xs : List Task) (j : Task) (n : ℕ) (ks : List Known) → reverse ((xs ++ j ∷ []) ++ decides n ks) ≡ reverse (decides n ks) ++ j ∷ reverse xs
tests_reversed xs j n ks = reverse-append (xs ++ j ∷ []) (decides n ks) ∙ ap (λ us. reverse (decides n ks) ++ us) (reverse_last xs j)

test_made : (ds : List AdtDecl) (ps : List Pat) (t : Ty) (ts xs us : List Task) (s : State) (ms ns : List Decision) (q : List PatStep) (w : Test) (n : ℕ) (ks : List Known)
    → AllPats (fields_in ds) ps t → ts ≡ xs ++ task.Decide s ∷ [] → Building ds ps t ts ms → next 0 ps s.known ≡ test q w → AllFail (take n ps) s.known → AreBranches ds s.known q w ks
    → us ≡ (xs ++ task.Join q w (length ks) ∷ []) ++ decides n ks → ns ≡ ms → GoesOn ds ps t ts us ns
test_made ds ps t ts xs us s ms ns q w n ks h e b r fail are is same =
    let front = front_tasks ds ps t ts xs (task.Decide s) ms e b in
    let g = branching ds ps t s.known q w ks h front.1.0 r are in
    let j = task.Join q w (length ks) in (
      record {
        each = subst (AllTasks ds ps t) (sym is) (all_tasks_more ds ps t (xs ++ j ∷ []) (decides n ks) (all_tasks_more ds ps t xs (j ∷ []) front.0 (tt, tt)) (decides_tasks ds ps t s.known n ks fail g.go));
        leads = λ D f. led_by ds ps t ts xs (task.Decide s) ms e b D
            (test_finishes ds ps s.known q w n ks s.from (reverse xs) (reverse ms) D r are
            (subst (λ vs. Finishes ds ps vs (reverse ms) D) (ap reverse is ∙ tests_reversed xs j n ks) (subst (λ rs. Finishes ds ps (reverse us) (reverse rs) D) same f)));
      },
      (let c = most_branches ds in
          let u : task_weights c ps us ≡ (task_weights c ps xs + task_weights c ps (j ∷ [])) + known_weights c ps ks = ap (task_weights c ps) is ∙ weights_more c ps (xs ++ j ∷ []) (decides n ks) ∙
          (λ i. weights_more c ps xs (j ∷ []) i + weights_of c ps n ks i) in
          omega (arith, u, weights_parts c ps ts xs (task.Decide s) e, lighter ds ps t s.known ks g)),
    )

join_made : (ds : List AdtDecl) (ps : List Pat) (t : Ty) (ts xs us : List Task) (ms ns : List Decision) (q : List PatStep) (w : Test) (n : ℕ) → ts ≡ xs ++ task.Join q w n ∷ []
    → Building ds ps t ts ms → us ≡ xs → Joins ds q w n ms ns → GoesOn ds ps t ts us ns
join_made ds ps t ts xs us ms ns q w n e b is (Ds, rest, E, count, taken, node, stands) = (
  record {
    each = subst (AllTasks ds ps t) (sym is) (front_tasks ds ps t ts xs (task.Join q w n) ms e b).0;
    leads = λ D f. led_by ds ps t ts xs (task.Join q w n) ms e b D
        (subst (λ rs. Finishes ds ps (task.Join q w n ∷ reverse xs) rs D) (sym top) (
          E,
          subst (λ Fs. IsNode ds q w Fs E) (sym (take_front n Ds (reverse rest) count)) node,
          subst (λ rs. Finishes ds ps (reverse xs) (E ∷ rs) D) (sym (drop_front n Ds (reverse rest) count))
              (subst (λ rs. Finishes ds ps (reverse xs) rs D) (ap reverse stands ∙ reverse_last rest E) (subst (λ vs. Finishes ds ps (reverse vs) (reverse ns) D) is f)),
        ));
  },
  (let c = most_branches ds in
      let u : task_weights c ps us ≡ task_weights c ps xs = ap (task_weights c ps) is in
      omega (arith, u, weights_parts c ps ts xs (task.Join q w n) e)),
)
  where
    top : reverse ms ≡ Ds ++ reverse rest
    top = ap reverse taken ∙ reverse-append rest (reverse Ds) ∙ ap (λ us. us ++ reverse rest) (reverse-reverse Ds)

-- what is done leaves less to do
pub building_goes_on : (ds : List AdtDecl) (ps : List Pat) (t : Ty) (ts xs us : List Task) (y : Task) (ms ns : List Decision) → AllPats (fields_in ds) ps t → ts ≡ xs ++ y ∷ []
    → Building ds ps t ts ms → IsDone ds ps y xs ms us ns → GoesOn ds ps t ts us ns
building_goes_on ds ps t ts xs us (task.Decide s) ms ns h e b d = by_next (next 0 ps s.known) refl d
  where
    by_next : (n : Next) → next 0 ps s.known ≡ n → DecidesBy ds ps s.known n xs ms us ns → GoesOn ds ps t ts us ns
    by_next no_row r m = absurd m
    by_next (row n p) r (is, stands) = leaf_made ds ps t ts xs us s ms ns n p e b r is stands
    by_next (test q w) r (at, ks, fail, are, is, same) = test_made ds ps t ts xs us s ms ns q w at ks h e b r fail are is same
building_goes_on ds ps t ts xs us (task.Join q w n) ms ns h e b (is, stands) = join_made ds ps t ts xs us ms ns q w n e b is stands
