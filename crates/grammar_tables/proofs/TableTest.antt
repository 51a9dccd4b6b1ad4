-- Tables that pass the test state the grammar.
use Rattle.std.specs.Prelude.{◌≡◌, ℕ, suc, zero, ◌+◌, ◌-◌, ◌*◌, ◌<◌, ◌≤◌, Bool, true, false, ◌||◌, if◌then◌else◌, List, [], ◌∷◌, ◌++◌, length, take, drop, reverse, get_or, nat_lt, nat_eq, Option, Some, None, ◌⊎◌}
use Rattle.std.proofs.Common.{refl, sym, ◌∙◌, ap, subst, true≢false, arith, inl, inr}
use Rattle.std.proofs.lemmas.List.{get_or_append_left, get_or-append-add, get_or-take, get_or-drop, get_or_past, take_at, drop_at, drop-drop, length-append}
use mathlib.Core.Path.{fun_ext}
use Rattle.grammar_tables.specs.declared.symbol.Symbol.{Symbol}
use Rattle.grammar_tables.specs.declared.symbol.Symbol.TheVariants.{Terminal, Nonterminal}
use Rattle.grammar_tables.specs.Grammar.{Grammar}
use Rattle.grammar_tables.specs.Tables.{TableLists, column_of, cell, prediction_at, index_of, body_at, matches_at, grammar_of}
use Rattle.grammar_tables.specs.First.{kinds_of, first_step, is_in, beginning_with, empty_alternative, first_some, predicted, grammar_with, all_of, each_from, is_ll1}
use Rattle.grammar_tables.specs.TableTest.{same_symbol, same_symbols, cells_from, code_of, states_bodies, states_kinds, states_offsets, states_alternatives, flat_cells, members_from, flat_members, are_kinds}
use Rattle.grammar_tables.proofs.LL1Test.{and_left, and_right, nat_eq_same, lt_true, lt_less, each_at, kinds_are, beginning_there, empty_there, among, or_cases}

one_symbol : (s t : Symbol) → same_symbol s t ≡ true → s ≡ t
one_symbol (Terminal j) (Terminal k) e = ap Terminal (nat_eq_same j k e)
one_symbol (Terminal j) (Nonterminal k) e = absurd (true≢false (sym e))
one_symbol (Nonterminal j) (Terminal k) e = absurd (true≢false (sym e))
one_symbol (Nonterminal j) (Nonterminal k) e = ap Nonterminal (nat_eq_same j k e)

all_symbols : (ss ts : List Symbol) → same_symbols ss ts ≡ true → ss ≡ ts
all_symbols [] [] e = refl
all_symbols [] (t ∷ ts) e = absurd (true≢false (sym e))
all_symbols (s ∷ ss) [] e = absurd (true≢false (sym e))
all_symbols (s ∷ ss) (t ∷ ts) e = rw (one_symbol s t (and_left (same_symbol s t) (same_symbols ss ts) e), all_symbols ss ts (and_right (same_symbol s t) (same_symbols ss ts) e)) refl

cell_some : (f : Option ℕ → ℕ) (j c i m : ℕ) → i < c → m ≡ j + i → get_or (cells_from f j c) i 0 ≡ f (Some m)
cell_some f j zero i m l e = absurd (omega arith)
cell_some f j (suc c) zero m l e = (let e₂ : m ≡ j = omega (arith, e) in rw e₂ refl)
cell_some f j (suc c) (suc i) m l e = cell_some f (suc j) c i m (omega arith) (omega (arith, e))

cell_none : (f : Option ℕ → ℕ) (j c : ℕ) → get_or (cells_from f j c) c 0 ≡ f None
cell_none f j zero = refl
cell_none f j (suc c) = cell_none f (suc j) c

ge_false : (j k : ℕ) → k ≤ j → nat_lt j k ≡ false
ge_false j k e = grind arith

lt_false : (j k : ℕ) → nat_lt j k ≡ false → k ≤ j
lt_false j k e = grind arith

lt_shift : (b i l : ℕ) → nat_lt (b + i) (b + l) ≡ nat_lt i l
lt_shift b i l = by (nat_lt i l) refl
  where
    by : (c : Bool) → nat_lt i l ≡ c → nat_lt (b + i) (b + l) ≡ nat_lt i l
    by true e = (let h = lt_less i l e in lt_true (b + i) (b + l) (omega (arith, h)) ∙ sym e)
    by false e = (let h = lt_false i l e in ge_false (b + i) (b + l) (omega (arith, h)) ∙ sym e)

lt_cases : (i l : ℕ) → (i < l) ⊎ (l ≤ i)
lt_cases i l = by (nat_lt i l) refl
  where
    by : (c : Bool) → nat_lt i l ≡ c → (i < l) ⊎ (l ≤ i)
    by true e = inl (lt_less i l e)
    by false e = inr (lt_false i l e)

cells_length : (f : Option ℕ → ℕ) (j c : ℕ) → length (cells_from f j c) ≡ c + 1
cells_length f j zero = refl
cells_length f j (suc c) = (let h = cells_length f (suc j) c in omega (arith, h))

pub flat_length : (classes firsts : List (List ℕ)) (h : List (List (List Symbol))) → length (flat_cells classes firsts h) ≡ length h * 128
flat_length classes firsts [] = refl
flat_length classes firsts (x ∷ h) = (let e = length-append (cells_from (λ k. code_of (predicted classes firsts k x)) 0 127) (flat_cells classes firsts h) in
    let f = cells_length (λ k. code_of (predicted classes firsts k x)) 0 127 in let i = flat_length classes firsts h in omega (arith, e, f, i))

-- the cells of one nonterminal among those of all
flat_at : (classes firsts : List (List ℕ)) (h : List (List (List Symbol))) (n : ℕ) → n < length h →
    take 128 (drop (n * 128) (flat_cells classes firsts h)) ≡ cells_from (λ k. code_of (predicted classes firsts k (get_or h n []))) 0 127
flat_at classes firsts [] n l = absurd (omega arith)
flat_at classes firsts (x ∷ h) zero l = take_at (cells_from (λ k. code_of (predicted classes firsts k x)) 0 127) (flat_cells classes firsts h) 128 (cells_length (λ k. code_of (predicted classes firsts k x)) 0 127)
flat_at classes firsts (x ∷ h) (suc n) l =
    let e : suc n * 128 ≡ 128 + n * 128 = omega arith in
    rw (
      e,
      ← drop-drop (n * 128) 128 (cells_from (λ k. code_of (predicted classes firsts k x)) 0 127 ++ flat_cells classes firsts h),
      drop_at (cells_from (λ k. code_of (predicted classes firsts k x)) 0 127) (flat_cells classes firsts h) 128 (cells_length (λ k. code_of (predicted classes firsts k x)) 0 127),
    ) (flat_at classes firsts h n (omega arith))

-- a class has no kind without a column
none_above : (k : ℕ) (ks : List ℕ) → 126 ≤ k → all_of (λ j. nat_lt j 126) ks ≡ true → is_in (Some k) ks ≡ true → ⊥
none_above k [] m e f = true≢false (sym f)
none_above k (j ∷ ks) m e f = elim (or_cases (nat_eq k j) (is_in (Some k) ks) f) [
  | inl i ↦ (let z = nat_eq_same k j i in let y = lt_less j 126 (and_left (nat_lt j 126) (all_of (λ u. nat_lt u 126) ks) e) in let x : ⊥ = omega (arith, z, y) in x)
  | inr i ↦ none_above k ks m (and_right (nat_lt j 126) (all_of (λ u. nat_lt u 126) ks) e) i
]

not_above : (classes : List (List ℕ)) (n x : ℕ) → all_of are_kinds classes ≡ true → 126 ≤ x → is_in (Some x) (get_or classes n []) ≡ false
not_above [] n x e m = refl
not_above (ks ∷ classes) zero x e m = by (is_in (Some x) ks) refl
  where
    by : (b : Bool) → is_in (Some x) ks ≡ b → is_in (Some x) ks ≡ false
    by true f = absurd (none_above x ks m (and_left (are_kinds ks) (all_of are_kinds classes) e) f)
    by false f = f
not_above (ks ∷ classes) (suc n) x e m = not_above classes n x (and_right (are_kinds ks) (all_of are_kinds classes) e) m

members_length : (ks : List ℕ) (j c : ℕ) → length (members_from ks j c) ≡ c
members_length ks j zero = refl
members_length ks j (suc c) = (let h = members_length ks (suc j) c in omega (arith, h))

member_at : (ks : List ℕ) (j c i m : ℕ) → i < c → m ≡ j + i → get_or (members_from ks j c) i false ≡ is_in (Some m) ks
member_at ks j zero i m l e = absurd (omega arith)
member_at ks j (suc c) zero m l e = (let f : m ≡ j = omega (arith, e) in rw f refl)
member_at ks j (suc c) (suc i) m l e = member_at ks (suc j) c i m (omega arith) (omega (arith, e))

-- the members of one class among those of all
class_at : (classes : List (List ℕ)) (n x : ℕ) → x < 128 → get_or (flat_members classes) (n * 128 + x) false ≡ is_in (Some x) (get_or classes n [])
class_at [] n x l = refl
class_at (ks ∷ classes) zero x l =
    let e : 0 * 128 + x ≡ x = omega arith in
    let f = members_length ks 0 128 in
    rw e (get_or_append_left (members_from ks 0 128) (flat_members classes) false x (omega (arith, f, l)) ∙ member_at ks 0 128 x x l (omega arith))
class_at (ks ∷ classes) (suc n) x l =
    let e : suc n * 128 + x ≡ 128 + (n * 128 + x) = omega arith in
    rw e (subst (λ (m : ℕ). get_or (members_from ks 0 128 ++ flat_members classes) (m + (n * 128 + x)) false ≡ get_or (flat_members classes) (n * 128 + x) false) (members_length ks 0 128)
    (get_or-append-add (members_from ks 0 128) (flat_members classes) (n * 128 + x) false) ∙ class_at classes n x l)

or_false : (b : Bool) → b ≡ (b || false)
or_false true = refl
or_false false = refl

module _ (classes firsts : List (List ℕ)) (g : List (List (List Symbol))) (depths : List ℕ) (fixed : first_step classes g firsts ≡ firsts)
    (tested : each_from (is_ll1 firsts depths g) 0 g ≡ true) (t : TableLists) (kinds : all_of are_kinds classes ≡ true) (members : t.members ≡ flat_members classes)
    (stated : each_from (states_alternatives t firsts) 0 g ≡ true) (celled : t.predictions ≡ flat_cells classes firsts g)
    (offsets : length t.offsets ≡ length g + 1) (predictions : length t.predictions ≡ length g * 128) where
  test₂ : (n : ℕ) → n < length g → states_alternatives t firsts n (get_or g n []) ≡ true
  test₂ n l = each_at (states_alternatives t firsts) 0 g [] n n stated l (omega arith)

  abbrev row : ℕ → Option ℕ → ℕ
  row n k = code_of (predicted classes firsts k (get_or g n []))

  cells_are : (n : ℕ) → n < length g → take 128 (drop (n * 128) t.predictions) ≡ cells_from (row n) 0 127
  cells_are n l = rw celled (flat_at classes firsts g n l)

  few : (n : ℕ) → n < length g → length (get_or g n []) < 255
  few n l = lt_less (length (get_or g n [])) 255 (and_left (nat_lt (length (get_or g n [])) 255) (states_offsets t firsts n (get_or g n [])) (test₂ n l))

  test₃ : (n : ℕ) → n < length g → states_offsets t firsts n (get_or g n []) ≡ true
  test₃ n l = and_right (nat_lt (length (get_or g n [])) 255) (states_offsets t firsts n (get_or g n [])) (test₂ n l)

  offsets_are : (n : ℕ) → n < length g → get_or t.offsets n 0 + length (get_or g n []) ≡ get_or t.offsets (n + 1) 0
  offsets_are n l = nat_eq_same (get_or t.offsets n 0 + length (get_or g n [])) (get_or t.offsets (n + 1) 0)
      (and_left (nat_eq (get_or t.offsets n 0 + length (get_or g n [])) (get_or t.offsets (n + 1) 0)) (states_kinds t firsts n (get_or g n [])) (test₃ n l))

  test₄ : (n : ℕ) → n < length g → states_kinds t firsts n (get_or g n []) ≡ true
  test₄ n l = and_right (nat_eq (get_or t.offsets n 0 + length (get_or g n [])) (get_or t.offsets (n + 1) 0)) (states_kinds t firsts n (get_or g n [])) (test₃ n l)

  cell_of : (n j : ℕ) → n < length g → j < 128 → get_or t.predictions (n * 128 + j) 0 ≡ get_or (cells_from (row n) 0 127) j 0
  cell_of n j l m = sym (get_or-drop (n * 128) t.predictions j 0) ∙ sym (get_or-take 128 (drop (n * 128) t.predictions) j 0 m) ∙ ap (λ (cs : List ℕ). get_or cs j 0) (cells_are n l)

  -- the cell says what is predicted
  decoded : (n : ℕ) (k : Option ℕ) → n < length g → cell (row n k) ≡ predicted classes firsts k (get_or g n [])
  decoded n k l = by (predicted classes firsts k (get_or g n [])) refl
    where
      inside : (i : ℕ) (o p : Option ℕ) → beginning_with classes firsts k (get_or g n []) ≡ o → empty_alternative (get_or g n []) ≡ p → first_some o p ≡ Some i → i < length (get_or g n [])
      inside i None None a b e = absurd cc
      inside i None (Some j) a b e = (let z : j ≡ i = cc in rw (← z) (empty_there (get_or g n []) j b).0)
      inside i (Some j) p a b e = (let z : j ≡ i = cc in rw (← z) (beginning_there classes firsts k (get_or g n []) j a).0)

      by : (o : Option ℕ) → predicted classes firsts k (get_or g n []) ≡ o → cell (code_of o) ≡ o
      by None e = refl
      by (Some i) e = (let h = inside i (beginning_with classes firsts k (get_or g n [])) (empty_alternative (get_or g n [])) refl refl e in let f = few n l in rw (lt_true i 255 (omega (arith, h, f))) refl)

  -- no kind from 126 on begins anything
  none_begun : (n k : ℕ) → n < length g → 126 ≤ k → beginning_with classes firsts (Some k) (get_or g n []) ≡ None
  none_begun n k l m = by (beginning_with classes firsts (Some k) (get_or g n [])) refl
    where
      by : (o : Option ℕ) → beginning_with classes firsts (Some k) (get_or g n []) ≡ o → beginning_with classes firsts (Some k) (get_or g n []) ≡ None
      by None e = e
      by (Some i) e = absurd (none_above k (get_or firsts n []) m (and_left (all_of (λ j. nat_lt j 126) (get_or firsts n [])) (states_bodies t n (get_or g n [])) (test₄ n l))
          (subst (λ (ks : List ℕ). is_in (Some k) ks ≡ true) (sym (kinds_are classes firsts g depths fixed tested n)) (among classes firsts (Some k) (get_or g n []) i (beginning_there classes firsts (Some k) (get_or g n []) i e).1)))

  within : (n j : ℕ) → n < length g → j < 128 → nat_lt (n * 128 + j) (length t.predictions) ≡ true
  within n j l m = lt_true (n * 128 + j) (length t.predictions) (omega (arith, predictions))

  past : (n j : ℕ) → length g ≤ n → nat_lt (n * 128 + j) (length t.predictions) ≡ false
  past n j l = ge_false (n * 128 + j) (length t.predictions) (omega (arith, predictions))

  at_column : (n j : ℕ) (k : Option ℕ) → n < length g → j < 128 → get_or (cells_from (row n) 0 127) j 0 ≡ row n k → prediction_at t n j ≡ predicted classes firsts k (get_or g n [])
  at_column n j k l m e = rw (within n j l m, cell_of n j l m, e) (decoded n k l)

  predictions_same : (n : ℕ) (k : Option ℕ) → prediction_at t n (column_of k) ≡ predicted classes firsts k (get_or g n [])
  predictions_same n k = elim (lt_cases n (length g)) [
    | inr l ↦ rw (past n (column_of k) l, get_or_past g n [] l) refl
    | inl l ↦ inside k l
  ]
    where
      inside : (k : Option ℕ) → n < length g → prediction_at t n (column_of k) ≡ predicted classes firsts k (get_or g n [])
      inside None l = at_column n 127 None l (omega arith) (cell_none (row n) 0 127)
      inside (Some k) l = by (nat_lt k 126) refl
        where
          by : (b : Bool) → nat_lt k 126 ≡ b → prediction_at t n (if b then k else 126) ≡ predicted classes firsts (Some k) (get_or g n [])
          by true e = (let h = lt_less k 126 e in at_column n k (Some k) l (omega (arith, h)) (cell_some (row n) 0 127 k k (omega (arith, h)) (omega arith)))
          by false e = at_column n 126 (Some 126) l (omega arith) (cell_some (row n) 0 127 126 126 (omega arith) (omega arith))
              ∙ rw (none_begun n 126 l (omega arith), none_begun n k l (lt_false k 126 e)) refl

  nothing : (a b : Bool) (x : List Symbol) → b ≡ false → reverse (if a then (if b then x else []) else []) ≡ []
  nothing true true x e = absurd (true≢false e)
  nothing true false x e = refl
  nothing false b x e = refl

  bodies_same : (n i : ℕ) → reverse (body_at t n i) ≡ get_or (get_or g n []) i []
  bodies_same n i = elim (lt_cases n (length g)) [
    | inr l ↦ rw (ge_false (n + 1) (length t.offsets) (omega (arith, offsets, l)), get_or_past g n [] l) refl
    | inl l ↦ elim (lt_cases i (length (get_or g n []))) [
      | inl m ↦ all_symbols (reverse (body_at t n i)) (get_or (get_or g n []) i [])
          (each_at (λ j ss. same_symbols (reverse (body_at t n j)) ss) 0 (get_or g n []) [] i i (and_right (all_of (λ k. nat_lt k 126) (get_or firsts n [])) (states_bodies t n (get_or g n [])) (test₄ n l)) m (omega arith))
      | inr m ↦ nothing (nat_lt (n + 1) (length t.offsets)) (nat_lt (index_of t n i) (get_or t.offsets (n + 1) 0)) _
          (let h = offsets_are n l in ge_false (index_of t n i) (get_or t.offsets (n + 1) 0) (omega (arith, h, m))) ∙ sym (get_or_past (get_or g n []) i [] m)
    ]
  ]

  has_same : (n i : ℕ) → nat_lt (index_of t n i) (get_or t.offsets (n + 1) 0) ≡ nat_lt i (length (get_or g n []))
  has_same n i = elim (lt_cases n (length g)) [
    | inr l ↦ rw (get_or_past t.offsets (n + 1) 0 (omega (arith, offsets, l)), get_or_past g n [] l) (ge_false (index_of t n i) 0 (omega arith) ∙ sym (ge_false i 0 (omega arith)))
    | inl l ↦ rw (← offsets_are n l) (lt_shift (get_or t.offsets n 0) i (length (get_or g n [])))
  ]

  matches_same : (k x : ℕ) → matches_at t k x ≡ is_in (Some x) (kinds_of classes k)
  matches_same k x = by (nat_lt k 128)
    where
      of_class : (b : Bool) → nat_lt x 128 ≡ b → (if b then get_or t.members ((k - 128) * 128 + x) false else false) ≡ is_in (Some x) (get_or classes (k - 128) [])
      of_class true e = rw members (class_at classes (k - 128) x (lt_less x 128 e))
      of_class false e = (let h = lt_false x 128 e in sym (not_above classes (k - 128) x kinds (omega (arith, h))))

      by : (b : Bool) → (if b then nat_eq x k else (if nat_lt x 128 then get_or t.members ((k - 128) * 128 + x) false else false)) ≡ is_in (Some x) (if b then k ∷ [] else get_or classes (k - 128) [])
      by true = or_false (nat_eq x k)
      by false = of_class (nat_lt x 128) refl

  value_of : (ℕ → ℕ → Bool) → (ℕ → ℕ → Bool) → (ℕ → ℕ → List Symbol) → (ℕ → Option ℕ → Option ℕ) → Grammar
  value_of m h p c = record { matches = m; has = h; body = p; predict = c }

  pub states : grammar_of t ≡ grammar_with classes firsts g
  unfolding grammar_of grammar_with value_of
  states = ap (λ (m : ℕ → ℕ → Bool). value_of m (λ n i. nat_lt (index_of t n i) (get_or t.offsets (n + 1) 0)) (λ n i. reverse (body_at t n i)) (λ n k. prediction_at t n (column_of k)))
      (fun_ext (λ k. fun_ext (λ x. matches_same k x)))
      ∙ ap (λ (h : ℕ → ℕ → Bool). value_of (λ k x. is_in (Some x) (kinds_of classes k)) h (λ n i. reverse (body_at t n i)) (λ n k. prediction_at t n (column_of k))) (fun_ext (λ n. fun_ext (λ i. has_same n i)))
      ∙ ap (λ (p : ℕ → ℕ → List Symbol). value_of (λ k x. is_in (Some x) (kinds_of classes k)) (λ n i. nat_lt i (length (get_or g n []))) p (λ n k. prediction_at t n (column_of k)))
      (fun_ext (λ n. fun_ext (λ i. bodies_same n i)))
      ∙ ap (value_of (λ k x. is_in (Some x) (kinds_of classes k)) (λ n i. nat_lt i (length (get_or g n []))) (λ n i. get_or (get_or g n []) i [])) (fun_ext (λ n. fun_ext (λ k. predictions_same n k)))
