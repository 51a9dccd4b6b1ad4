-- What is remembered of the heads of the loops around a block.
use Rattle.std.proofs.Common.{◌≡◌, ◌∙◌, ◌⊎◌, inl, inr, refl, sym, ap, subst, ℕ, ◌<◌, ◌≤◌, ◌==◌, ◌||◌, Bool, true, false, List, [], ◌∷◌, ◌++◌, Some, slice_get, arith}
use Rattle.std.proofs.lemmas.Bool.{eqb-true}
use Rattle.logic_term.specs.declared.kinds.Label.{Label}
use Rattle.logic_term.specs.Meaning.{Env}
use Rattle.logic_term.specs.Ty.{Ty}
use Rattle.text_core.specs.declared.name.Name.{Name}
use Rattle.mir_ir.specs.declared.body.Block.{Block}
use Rattle.mir_ir.specs.declared.body.Body.{Body}
use Rattle.mir_ir.specs.declared.body.Head.{Head}
use Rattle.mir_ir.specs.Body.{block_in}
use Rattle.mir_ir.specs.Layout.{among, around, place_of, Leads, on, back}
use Rattle.mir_ir.specs.WellFormed.{Locals}
use Rattle.prophecy_logic.specs.Graph.{Setting, start_of, Within}
use Rattle.prophecy_logic.specs.Prefix.{At, arrival, Prefix}
use Rattle.prophecy_logic.specs.declared.command.Command.{Command}
use Rattle.prophecy_logic.specs.Command.{MovesAll}
use Rattle.prophecy_logic.specs.Loop.{loop_writes, head_commands}
use Rattle.prophecy_logic.specs.Walk.{seen_before, Walk, met}
use Rattle.prophecy_logic.specs.Walkable.{AllAmong}
use Rattle.prophecy_logic.proofs.Commands.{GoalsHold, then_moves}
use Rattle.prophecy_logic.specs.Row.{name_of}
use Rattle.prophecy_sim.proofs.Setup.{Setup, FunctionOf, S, walked, IsOutside}

-- ---- lists of labels

same_label : (l m : Label) → l.0 ≡ m.0 → l ≡ m
same_label l m e = let f : ℕ → Label = λ n. record { 0 = n } in ap f e

or_left : (p q : Bool) → p ≡ true → (p || q) ≡ true
or_left p q e = grind arith

or_right : (p q : Bool) → q ≡ true → (p || q) ≡ true
or_right p q e = grind arith

either_of : (p q : Bool) → (p || q) ≡ true → (p ≡ true) ⊎ (q ≡ true)
either_of true q e = inl refl
either_of false q e = inr e

self : (l : Label) → (l.0 == l.0) ≡ true
self l = grind arith

pub among_first : (l : Label) (ms : List Label) → among l (l ∷ ms) ≡ true
among_first l ms = or_left (l.0 == l.0) (among l ms) (self l)

pub among_second : (l m : Label) → among m (l ∷ m ∷ []) ≡ true
among_second l m = or_right (l.0 == m.0) (among m (m ∷ [])) (among_first m [])

pub among_more : (m l : Label) (ms : List Label) → among m ms ≡ true → among m (l ∷ ms) ≡ true
among_more m l ms e = or_right (l.0 == m.0) (among m ms) e

pub among_head : (m l : Label) (ms : List Label) → among m (l ∷ ms) ≡ true → (l ≡ m) ⊎ (among m ms ≡ true)
among_head m l ms e = elim (either_of (l.0 == m.0) (among m ms) e) [
  | inl p ↦ inl (same_label l m (eqb-true l.0 m.0 p))
  | inr p ↦ inr p
]

pub among_front : (l : Label) (xs ys : List Label) → among l xs ≡ true → among l (xs ++ ys) ≡ true
among_front l [] ys e = absurd (cc)
among_front l (x ∷ xs) ys e = elim (either_of (x.0 == l.0) (among l xs) e) [
  | inl p ↦ or_left (x.0 == l.0) (among l (xs ++ ys)) p
  | inr p ↦ or_right (x.0 == l.0) (among l (xs ++ ys)) (among_front l xs ys p)
]

pub among_last : (l : Label) (xs : List Label) → among l (xs ++ l ∷ []) ≡ true
among_last l [] = or_left (l.0 == l.0) false (self l)
among_last l (x ∷ xs) = or_right (x.0 == l.0) (among l (xs ++ l ∷ [])) (among_last l xs)

pub among_either : (l m : Label) (xs : List Label) → among l (xs ++ m ∷ []) ≡ true → (among l xs ≡ true) ⊎ (m ≡ l)
among_either l m [] e = elim (either_of (m.0 == l.0) false e) [
  | inl p ↦ inr (same_label m l (eqb-true m.0 l.0 p))
  | inr p ↦ absurd (cc)
]
among_either l m (x ∷ xs) e = elim (either_of (x.0 == l.0) (among l (xs ++ m ∷ [])) e) [
  | inl p ↦ inl (or_left (x.0 == l.0) (among l xs) p)
  | inr p ↦ elim (among_either l m xs p) [
    | inl q ↦ inl (or_right (x.0 == l.0) (among l xs) q)
    | inr q ↦ inr q
  ]
]

last_of : (x : Label) (xs : List Label) → (ys : List Label) × (y : Label) × (x ∷ xs ≡ ys ++ y ∷ [])
last_of x [] = ([], x, refl)
last_of x (z ∷ xs) = let r = last_of z xs in (x ∷ r.0, r.1, ap (λ ws. x ∷ ws) r.2)

snoc_same : (xs ys : List Label) (x y : Label) → xs ++ x ∷ [] ≡ ys ++ y ∷ [] → xs ≡ ys
snoc_same [] [] x y e = refl
snoc_same [] (w ∷ []) x y e = absurd (cc)
snoc_same [] (w ∷ v ∷ ys) x y e = absurd (cc)
snoc_same (w ∷ []) [] x y e = absurd (cc)
snoc_same (w ∷ v ∷ xs) [] x y e = absurd (cc)
snoc_same (w ∷ xs) (v ∷ ys) x y e =
    let first : w ≡ v = first_same w v (xs ++ x ∷ []) (ys ++ y ∷ []) e in
    subst (λ u. w ∷ xs ≡ u ∷ ys) first (ap (λ ws. w ∷ ws) (snoc_same xs ys x y (rest_same w v (xs ++ x ∷ []) (ys ++ y ∷ []) e)))
  where
    first_same : (a c : Label) (us vs : List Label) → a ∷ us ≡ c ∷ vs → a ≡ c
    first_same a c us vs q = cc

    rest_same : (a c : Label) (us vs : List Label) → a ∷ us ≡ c ∷ vs → us ≡ vs
    rest_same a c us vs q = cc

append_assoc : (xs ys zs : List Label) → (xs ++ ys) ++ zs ≡ xs ++ (ys ++ zs)
append_assoc [] ys zs = refl
append_assoc (x ∷ xs) ys zs = ap (λ ws. x ∷ ws) (append_assoc xs ys zs)

append_none : (xs : List Label) → xs ++ [] ≡ xs
append_none [] = refl
append_none (x ∷ xs) = ap (λ ws. x ∷ ws) (append_none xs)

both_empty : (xs ys : List Label) → [] ≡ xs ++ ys → xs ≡ []
both_empty [] ys e = refl
both_empty (x ∷ xs) ys e = absurd (cc)

-- ---- heads

module _ {K : Type 0} (s : Setup K) (f : FunctionOf s) (ρ₀ : Env) where
  abbrev b : Body
  b = f.body

  -- the names that are none of the body's have the values that they had at the entry
  abbrev pub KeepsOutside : Env → Type 0
  KeepsOutside ρ = (n : Name) → IsOutside b n → ρ n ≡ ρ₀ n

  -- none of the heads comes behind the block of the label
  abbrev pub AreBehind : List Label → Label → Type 0
  AreBehind heads l = (h : Label) → among h heads ≡ true → place_of b.blocks h ≤ place_of b.blocks l

  -- a prefix leads there, and its commands lead from the environment at the entry to this one
  pub record Came (w : Setting) (heads : List Label) (at : At) (ρ : Env) : Type 0 where
    pub commands : List Command
    pub prefix : Prefix w heads at commands
    pub moves : MovesAll (S s) commands ρ₀ ρ

  pub came_on : {w : Setting} {heads inner : List Label} {at next : At} {ρ σ : Env} (c : Came w heads at ρ) (cs : List Command) → Prefix w inner next (c.commands ++ cs) → MovesAll (S s) cs ρ σ →
      Came w inner next σ
  came_on c cs prefix moves = record { commands = c.commands ++ cs; prefix = prefix; moves = then_moves (S s) c.moves moves }

  -- what stood when the head of a loop that the run is in was first come to on this path
  pub record FirstCome (l : Label) (outer : List Label) : Type 0 where
    pub block : Block
    pub is_block : block_in b.blocks l ≡ Some block
    pub head : Head
    pub is_head : block.head ≡ Some head
    pub nest : block.nest ≡ outer ++ l ∷ []
    pub heads : List Label
    pub fresh : among l heads ≡ false
    pub within : AllAmong block.nest (l ∷ heads)
    pub behind : AreBehind (l ∷ heads) l
    pub env : Env
    pub keeps : KeepsOutside env
    pub came : Came (walked s f) heads (arrival l) env
    pub walk : Walk
    pub walks : Within (walked s f) (l ∷ heads) (start_of l) walk
    pub hold : GoalsHold (S s) env (seen_before (head_commands b (walked s f).init l head) (met walk))

  -- the loop has left alone, since then, what it does not write and what is in the set
  pub record Passed (l : Label) (outer : List Label) (set : Locals) (ρ : Env) : Type 0 where
    pub first : FirstCome l outer
    pub unchanged : (x : ℕ) (ty : Ty) → loop_writes b l x ≡ false → set x ≡ true → slice_get b.locals x ≡ Some ty → ρ (name_of b x) ≡ first.env (name_of b x)

  pub data Memories (set : Locals) (ρ : Env) : List Label → Type 0 where
    none_around : Memories set ρ []
    one_more : {outer : List Label} {l : Label} → Memories set ρ outer → Passed l outer set ρ → Memories set ρ (outer ++ l ∷ [])

  -- a local that the loop does not write and that is initialised was so before, and its name has the value that it had
  abbrev pub Keeps : Label → Locals → Env → Locals → Env → Type 0
  Keeps l before ρ after σ = (x : ℕ) (ty : Ty) → loop_writes b l x ≡ false → after x ≡ true → slice_get b.locals x ≡ Some ty → (before x ≡ true) × (σ (name_of b x) ≡ ρ (name_of b x))

  pub passed_kept : (l : Label) (outer : List Label) (before after : Locals) (ρ σ : Env) → Keeps l before ρ after σ → Passed l outer before ρ → Passed l outer after σ
  passed_kept l outer before after ρ σ keeps p = record { first = p.first; unchanged = λ x ty e inside is_ty. let was = keeps x ty e inside is_ty in was.1 ∙ p.unchanged x ty e was.0 is_ty }

  pub memories_kept : {before after : Locals} {ρ σ : Env} {nest : List Label} → Memories before ρ nest → ((l : Label) → among l nest ≡ true → Keeps l before ρ after σ) → Memories after σ nest
  memories_kept none_around keeps = none_around
  memories_kept {before} {after} {ρ} {σ} (one_more {outer = outer} {l = l} m p) keeps =
      one_more (memories_kept m (λ k a. keeps k (among_front k outer (l ∷ []) a))) (passed_kept l outer before after ρ σ (keeps l (among_last l outer)) p)

  pub memories_front : {set : Locals} {ρ : Env} {nest : List Label} → Memories set ρ nest → (outer inner : List Label) → nest ≡ outer ++ inner → Memories set ρ outer
  memories_front {set} {ρ} none_around outer inner e = subst (Memories set ρ) (sym (both_empty outer inner e)) none_around
  memories_front {set} {ρ} (one_more {outer = o} {l = l} m p) outer [] e = subst (Memories set ρ) (e ∙ append_none outer) (one_more m p)
  memories_front {set} {ρ} (one_more {outer = o} {l = l} m p) outer (x ∷ inner) e =
      let last = last_of x inner in
      memories_front m outer last.0 (snoc_same o (outer ++ last.0) l last.1 (e ∙ ap (λ xs. outer ++ xs) last.2 ∙ sym (append_assoc outer last.0 (last.1 ∷ []))))

  pub memories_find : {set : Locals} {ρ : Env} {nest : List Label} → Memories set ρ nest → (l : Label) → among l nest ≡ true → (outer : List Label) × Memories set ρ outer × Passed l outer set ρ
  memories_find none_around l e = absurd (cc)
  memories_find {set} {ρ} (one_more {outer = o} {l = m} ms p) l e = elim (among_either l m o e) [
    | inl a ↦ memories_find ms l a
    | inr q ↦ (o, ms, subst (λ k. Passed k o set ρ) q p)
  ]

  -- ---- edges

  -- how the run has come to a block, where these heads were passed
  pub data Reached (set : Locals) (ρ : Env) (heads : List Label) (l : Label) : Type 0 where
    onward : (to : Block) (outer : List Label) → block_in b.blocks l ≡ Some to → around l to outer → Memories set ρ outer → AllAmong outer heads → AreBehind heads l → (among l heads ≡ true → ⊥) →
        Reached set ρ heads l
    backward : (to : Block) (h : Head) (outer : List Label) → block_in b.blocks l ≡ Some to → to.head ≡ Some h → among l heads ≡ true → Memories set ρ outer → Passed l outer set ρ →
        Reached set ρ heads l

  too_far : (m n : ℕ) → m ≤ n → n < m → ⊥
  too_far m n h g = absurd (omega arith)

  pub reached : (set : Locals) (ρ : Env) (heads : List Label) (l m : Label) (k : Block) → Memories set ρ k.nest → AllAmong k.nest heads → AreBehind heads l → Leads b l k m → Reached set ρ heads m
  reached set ρ heads l m k ms within behind (on to is_to further enters) =
      onward to enters.outer is_to enters.is_around (memories_front ms enters.outer enters.inner enters.within)
      (λ h a. within h (subst (λ xs. among h xs ≡ true) (sym enters.within) (among_front h enters.outer enters.inner a)))
      (λ h a. omega (arith, behind h a, further))
      (λ a. too_far (place_of b.blocks m) (place_of b.blocks l) (behind m a) further)
  reached set ρ heads l m k ms within behind (back to h is_to is_head a) =
      let found = memories_find ms m a in
      backward to h found.0 is_to is_head (within m a) found.1 found.2
