-- New values at the head of a loop, and what a loop writes.
use Rattle.std.proofs.Common.{◌≡◌, ◌∙◌, ◌⊎◌, ◌||◌, ◌&&◌, inl, inr, refl, sym, ap, subst, ℕ, zero, suc, ◌+◌, ◌<◌, ◌≤◌, ◌==◌, Bool, true, false, cond, List, [], ◌∷◌, ◌++◌, length, Some, slice_get, arith}
use Rattle.std.specs.List.{list_any}
use Rattle.std.proofs.lemmas.Option.{slice_get_within}
use Rattle.text_core.specs.declared.name.Name.{Name}
use Rattle.logic_term.specs.declared.kinds.Label.{Label}
use Rattle.logic_term.specs.Meaning.{Structure, Env, with_value}
use Rattle.logic_term.specs.Sort.{HasSort, instance}
use Rattle.logic_term.specs.Theory.{declared}
use Rattle.logic_term.specs.Ty.{Ty}
use Rattle.logic_term.specs.Value.{Value}
use Rattle.logic_term.proofs.Coincide.{with_same, with_other}
use Rattle.mir_ir.specs.declared.statement.Statement.{Statement}
use Rattle.mir_ir.specs.declared.body.Block.{Block}
use Rattle.mir_ir.specs.declared.body.Body.{Body}
use Rattle.mir_ir.specs.Body.{block_in}
use Rattle.mir_ir.specs.Layout.{among}
use Rattle.prophecy_logic.specs.Command.{by_fresh, MovesAll, none, more}
use Rattle.prophecy_logic.specs.Row.{name_of}
use Rattle.prophecy_logic.specs.Loop.{is_in_loop, statement_touches, end_touches, block_writes, loop_writes, renewal, renewals}
use Rattle.prophecy_logic.specs.declared.touch.Touch.{Touch}
use Rattle.prophecy_logic.specs.declared.touch.Touch.TheVariants.{Untouched, Whole}
use Rattle.mir_ir.specs.Names.{LocalsAreNamed}
use Rattle.prophecy_sim.proofs.Setup.{named_as}
use Rattle.prophecy_sim.proofs.Lists.{decide, get_first}

-- ---- what a loop writes

pub or_first : (c d : Bool) → c ≡ true → (c || d) ≡ true
or_first c d e = ap (λ t. t || d) e

or_second : (c d : Bool) → d ≡ true → (c || d) ≡ true
or_second true d e = refl
or_second false d e = e

and_both : (c d : Bool) → c ≡ true → d ≡ true → (c && d) ≡ true
and_both c d e f = ap (λ t. t && d) e ∙ f

-- one element settles the test
any_at : {X : Type 0} (p : X → Bool) (xs : List X) (i : ℕ) (x : X) → slice_get xs i ≡ Some x → p x ≡ true → list_any p xs ≡ true
any_at p [] i x e h = absurd (cc)
any_at p (y ∷ ys) zero x e h = let same : y ≡ x = cc in or_first (p y) (list_any p ys) (ap p same ∙ h)
any_at p (y ∷ ys) (suc i) x e h = or_second (p y) (list_any p ys) (any_at p ys i x e h)

-- one block settles the test
any_block : (p : Block → Bool) (bs : List (Label × Block)) (l : Label) (k : Block) → block_in bs l ≡ Some k → p k ≡ true → list_any (λ (e : Label × Block). p e.1) bs ≡ true
any_block p [] l k e h = absurd (cc)
any_block p (c ∷ bs) l k e h = by_test (λ q. any_block p bs l k q h) (c.0.0 == l.0) e
  where
    by_test : (block_in bs l ≡ Some k → list_any (λ (d : Label × Block). p d.1) bs ≡ true) → (t : Bool) → cond t (Some c.1) (block_in bs l) ≡ Some k →
        (p c.1 || list_any (λ (d : Label × Block). p d.1) bs) ≡ true
    by_test rest true q = let same : c.1 ≡ k = cc in or_first (p c.1) (list_any (λ (d : Label × Block). p d.1) bs) (ap p same ∙ h)
    by_test rest false q = or_second (p c.1) (list_any (λ (d : Label × Block). p d.1) bs) (rest q)

-- a block of the loop writes what its statements write
pub loop_writes_statement : (b : Body) (h l : Label) (k : Block) (i : ℕ) (st : Statement) (x : ℕ) → block_in b.blocks l ≡ Some k → among h k.nest ≡ true → slice_get k.statements i ≡ Some st →
    statement_touches x st.kind ≡ true → loop_writes b h x ≡ true
loop_writes_statement b h l k i st x is_k inside is_st w =
    any_block (λ c. is_in_loop h c && block_writes x c) b.blocks l k is_k
    (and_both (is_in_loop h k) (block_writes x k) inside
    (or_first (list_any (λ (s : Statement). statement_touches x s.kind) k.statements) (end_touches x k.end.kind)
    (any_at (λ (s : Statement). statement_touches x s.kind) k.statements i st is_st w)))

-- and what its end writes
pub loop_writes_end : (b : Body) (h l : Label) (k : Block) (x : ℕ) → block_in b.blocks l ≡ Some k → among h k.nest ≡ true → end_touches x k.end.kind ≡ true → loop_writes b h x ≡ true
loop_writes_end b h l k x is_k within w =
    any_block (λ c. is_in_loop h c && block_writes x c) b.blocks l k is_k
    (and_both (is_in_loop h k) (block_writes x k) within
    (or_second (list_any (λ (s : Statement). statement_touches x s.kind) k.statements) (end_touches x k.end.kind) w))

-- ---- new values

pub not_whole : Untouched ≡ Whole → ⊥
not_whole e = cc

one_on : (m i : ℕ) → (m + 1) + i ≡ m + suc i
one_on m i = omega arith

no_more : (m : ℕ) → m + 0 ≡ m
no_more m = omega arith

module _ (S : Structure) (b : Body) (named : LocalsAreNamed b) (count : length b.names ≡ length b.locals) where
  -- the locals that are touched have new values, all other names what they had
  pub record Renewed (p : ℕ → Touch) (val : ℕ → Value) (ρ : Env) : Type 0 where
    pub env : Env
    pub moves : MovesAll S (renewals b p 0 b.locals) ρ env
    pub there : (x : ℕ) (n : Name) → p x ≡ Whole → slice_get b.names x ≡ Some n → env n ≡ val x
    pub others : (n : Name) → ((x : ℕ) (m : Name) → p x ≡ Whole → slice_get b.names x ≡ Some m → n.0 ≡ m.0 → ⊥) → env n ≡ ρ n

  -- the same of the locals from number m on, of which these are the types
  record RenewedFrom (p : ℕ → Touch) (val : ℕ → Value) (m : ℕ) (ts : List Ty) (ρ : Env) : Type 0 where
    pub env : Env
    pub moves : MovesAll S (renewals b p m ts) ρ env
    pub there : (x : ℕ) (n : Name) → m ≤ x → x < m + length ts → p x ≡ Whole → slice_get b.names x ≡ Some n → env n ≡ val x
    pub others : (n : Name) → ((x : ℕ) (k : Name) → m ≤ x → p x ≡ Whole → slice_get b.names x ≡ Some k → n.0 ≡ k.0 → ⊥) → env n ≡ ρ n

  -- the new values are of the locals' types
  abbrev AreOfTypes : (ℕ → Touch) → (ℕ → Value) → Type 0
  AreOfTypes p val = (x : ℕ) (ty : Ty) → p x ≡ Whole → slice_get b.locals x ≡ Some ty → HasSort (declared S.theory) (val x) (instance S.types ty)

  -- these are the types of the locals from number m on
  abbrev IsRest : ℕ → List Ty → Type 0
  IsRest m ts = (i : ℕ) → slice_get ts i ≡ slice_get b.locals (m + i)

  module _ (p : ℕ → Touch) (val : ℕ → Value) (m : ℕ) (t : Ty) (ts : List Ty) (ρ : Env) where
    -- local m is not picked
    passed : p m ≡ Untouched → RenewedFrom p val (m + 1) ts ρ → RenewedFrom p val m (t ∷ ts) ρ
    passed not_m rest = record {
      env = rest.env;
      moves = subst (λ c. MovesAll S (renewal b c m t ++ renewals b p (m + 1) ts) ρ rest.env) (sym not_m) rest.moves;
      there = λ x n le lt px e. by_place x n le lt px e (decide x m);
      others = λ n h. rest.others n (λ x k le px e q. h x k (omega arith) px e q);
    }
      where
        by_place : (x : ℕ) (n : Name) → m ≤ x → x < m + length (t ∷ ts) → p x ≡ Whole → slice_get b.names x ≡ Some n → (x ≡ m) ⊎ (x ≡ m → ⊥) → rest.env n ≡ val x
        by_place x n le lt px e (inl q) = absurd (not_whole (sym not_m ∙ ap p (sym q) ∙ px))
        by_place x n le lt px e (inr d) = rest.there x n (omega (arith, d)) (omega arith) px e

    -- local m has its value, and later ones do not touch its name
    given : p m ≡ Whole → (n₀ : Name) → slice_get b.names m ≡ Some n₀ → HasSort (declared S.theory) (val m) (instance S.types t) →
        RenewedFrom p val (m + 1) ts (with_value ρ (name_of b m) (val m)) → RenewedFrom p val m (t ∷ ts) ρ
    given is_m n₀ e₀ sort rest = record {
      env = rest.env;
      moves = subst (λ c. MovesAll S (renewal b c m t ++ renewals b p (m + 1) ts) ρ rest.env) (sym is_m) (more (by_fresh (val m) sort) rest.moves);
      there = λ x n le lt px e. by_place x n le lt px e (decide x m);
      others = λ n h. rest.others n (λ x k le px e q. h x k (omega arith) px e q) ∙ with_other ρ (name_of b m) n (val m)
          (λ q. h m n₀ (omega arith) is_m e₀ (q ∙ ap (λ (z : Name). z.0) (named_as b m n₀ e₀)));
    }
      where
        no_later : (x : ℕ) → m + 1 ≤ x → m ≡ x → ⊥
        no_later x le q = absurd (omega arith)

        by_place : (x : ℕ) (n : Name) → m ≤ x → x < m + length (t ∷ ts) → p x ≡ Whole → slice_get b.names x ≡ Some n → (x ≡ m) ⊎ (x ≡ m → ⊥) → rest.env n ≡ val x
        by_place x n le lt px e (inl q) =
            let at_m : slice_get b.names m ≡ Some n = subst (λ y. slice_get b.names y ≡ Some n) q e in
            rest.others n (λ y k le' py f r. no_later y le' (named.apart m y n k at_m f r))
            ∙ ap (with_value ρ (name_of b m) (val m)) (sym (named_as b m n at_m))
            ∙ with_same ρ (name_of b m) (val m)
            ∙ ap val (sym q)
        by_place x n le lt px e (inr d) = rest.there x n (omega (arith, d)) (omega arith) px e

  renewed_from : (p : ℕ → Touch) (val : ℕ → Value) → AreOfTypes p val → (m : ℕ) (ts : List Ty) (ρ : Env) → IsRest m ts → RenewedFrom p val m ts ρ
  renewed_from p val sorts m [] ρ is_rest = record { env = ρ; moves = none; there = λ x n le lt px e. absurd (omega arith); others = λ n h. refl }
  renewed_from p val sorts m (t ∷ ts) ρ is_rest = by_test (λ σ. renewed_from p val sorts (m + 1) ts σ later) (p m) refl
    where
      later : IsRest (m + 1) ts
      later i = is_rest (suc i) ∙ ap (slice_get b.locals) (sym (one_on m i))

      is_t : slice_get b.locals m ≡ Some t
      is_t = ap (slice_get b.locals) (sym (no_more m)) ∙ sym (is_rest 0)

      name_at : (n : Name) × (slice_get b.names m ≡ Some n)
      name_at = get_first b.names m (omega (arith, slice_get_within b.locals m t is_t, count))

      by_test : ((σ : Env) → RenewedFrom p val (m + 1) ts σ) → (c : Touch) → p m ≡ c → RenewedFrom p val m (t ∷ ts) ρ
      by_test rest Whole e = given p val m t ts ρ e name_at.0 name_at.1 (sorts m t e is_t) (rest (with_value ρ (name_of b m) (val m)))
      by_test rest Untouched e = passed p val m t ts ρ e (rest ρ)

  pub renewed_move : (p : ℕ → Touch) (val : ℕ → Value) (ρ : Env) → ((x : ℕ) (ty : Ty) → p x ≡ Whole → slice_get b.locals x ≡ Some ty → HasSort (declared S.theory) (val x) (instance S.types ty)) →
      Renewed p val ρ
  renewed_move p val ρ sorts =
      let all = renewed_from p val sorts 0 b.locals ρ (λ i. ap (slice_get b.locals) (from_none i)) in
      record {
        env = all.env;
        moves = all.moves;
        there = λ x n px e. all.there x n (omega arith) (omega (arith, slice_get_within b.names x n e, count)) px e;
        others = λ n h. all.others n (λ x k le px e q. h x k px e q);
      }
    where
      from_none : (i : ℕ) → i ≡ 0 + i
      from_none i = omega arith
