-- A listed grammar that passes the test is LL(1).
use Rattle.std.specs.Prelude.{◌≡◌, ℕ, suc, zero, Bool, true, false, not, if◌then◌else◌, ◌&&◌, ◌||◌, List, [], ◌∷◌, ◌++◌, length, map, get_or, nat_lt, nat_eq, Option, Some, None, ◌<◌, ◌+◌, ◌⊎◌}
use Rattle.std.proofs.Common.{refl, sym, ◌∙◌, ap, subst, true≢false, arith, inl, inr}
use Rattle.grammar_tables.specs.declared.symbol.Symbol.{Symbol}
use Rattle.grammar_tables.specs.declared.symbol.Symbol.TheVariants.{Terminal, Nonterminal}
use Rattle.grammar_tables.specs.Grammar.{begins, is_nonempty_alternative, is_nonempty, IsGreedy}
use Rattle.grammar_tables.specs.LL1.{IsLL1, CanBegin, HasHead}
use Rattle.grammar_tables.specs.First.{first_of_body, first_of_alternatives, first_step, is_in, next_number, beginning_with, empty_alternative, first_some, predicted, grammar_with}
use Rattle.grammar_tables.specs.First.{are_distinct, is_none, depth_of, has_one_empty, has_head, all_of, each_from, is_ll1}

pub and_left : (a b : Bool) → (a && b) ≡ true → a ≡ true
and_left true b e = refl
and_left false b e = absurd (true≢false (sym e))

pub and_right : (a b : Bool) → (a && b) ≡ true → b ≡ true
and_right true b e = e
and_right false b e = absurd (true≢false (sym e))

pub or_cases : (a b : Bool) → (a || b) ≡ true → (a ≡ true) ⊎ (b ≡ true)
or_cases true b e = inl refl
or_cases false b e = inr e

pub nat_eq_same : (j k : ℕ) → nat_eq j k ≡ true → j ≡ k
nat_eq_same j k e = grind arith

pub lt_true : (j k : ℕ) → j < k → nat_lt j k ≡ true
lt_true j k e = grind arith

pub lt_less : (j k : ℕ) → nat_lt j k ≡ true → j < k
lt_less j k e = grind arith

pub all_each : {A : Type 0} (f : A → Bool) (xs : List A) (d : A) (i : ℕ) → all_of f xs ≡ true → i < length xs → f (get_or xs i d) ≡ true
all_each f [] d i e l = absurd (omega arith)
all_each f (x ∷ xs) d zero e l = and_left (f x) (all_of f xs) e
all_each f (x ∷ xs) d (suc i) e l = all_each f xs d i (and_right (f x) (all_of f xs) e) (omega arith)

pub each_at : {A : Type 0} (f : ℕ → A → Bool) (n : ℕ) (xs : List A) (d : A) (i m : ℕ) → each_from f n xs ≡ true → i < length xs → m ≡ n + i → f m (get_or xs i d) ≡ true
each_at f n [] d i m e l s = absurd (omega arith)
each_at f n (x ∷ xs) d zero m e l s = (let s₂ : m ≡ n = omega (arith, s) in rw s₂ (and_left (f n x) (each_from f (suc n) xs) e))
each_at f n (x ∷ xs) d (suc i) m e l s = each_at f (suc n) xs d i m (and_right (f n x) (each_from f (suc n) xs) e) (omega arith) (omega (arith, s))

pub get_or_map : {A B : Type 0} (f : A → B) (xs : List A) (i : ℕ) (a : A) → get_or (map f xs) i (f a) ≡ f (get_or xs i a)
get_or_map f [] i a = refl
get_or_map f (x ∷ xs) zero a = refl
get_or_map f (x ∷ xs) (suc i) a = get_or_map f xs i a

pub in_append : (k : Option ℕ) (xs ys : List ℕ) → is_in k (xs ++ ys) ≡ true → (is_in k xs ≡ true) ⊎ (is_in k ys ≡ true)
in_append None xs ys e = absurd (true≢false (sym e))
in_append (Some k) [] ys e = inr e
in_append (Some k) (x ∷ xs) ys e = elim (or_cases (nat_eq k x) (is_in (Some k) (xs ++ ys)) e) [
  | inl f ↦ inl (rw f refl)
  | inr f ↦ elim (in_append (Some k) xs ys f) [ inl g ↦ inl (more (nat_eq k x) (is_in (Some k) xs) g) | inr g ↦ inr g ]
]
  where
    more : (a b : Bool) → b ≡ true → (a || b) ≡ true
    more true b e = refl
    more false b e = e

pub in_left : (k : Option ℕ) (xs ys : List ℕ) → is_in k xs ≡ true → is_in k (xs ++ ys) ≡ true
in_left None xs ys e = absurd (true≢false (sym e))
in_left (Some k) [] ys e = absurd (true≢false (sym e))
in_left (Some k) (x ∷ xs) ys e = both (nat_eq k x) (is_in (Some k) xs) (is_in (Some k) (xs ++ ys)) e (in_left (Some k) xs ys)
  where
    both : (a b c : Bool) → (a || b) ≡ true → (b ≡ true → c ≡ true) → (a || c) ≡ true
    both true b c e f = refl
    both false b c e f = f e

pub in_right : (k : Option ℕ) (xs ys : List ℕ) → is_in k ys ≡ true → is_in k (xs ++ ys) ≡ true
in_right None xs ys e = absurd (true≢false (sym e))
in_right (Some k) [] ys e = e
in_right (Some k) (x ∷ xs) ys e = more (nat_eq k x) (is_in (Some k) (xs ++ ys)) (in_right (Some k) xs ys e)
  where
    more : (a b : Bool) → b ≡ true → (a || b) ≡ true
    more true b e = refl
    more false b e = e

-- what is in the front of distinct numbers is not behind it
pub not_both : (k : Option ℕ) (xs ys : List ℕ) → are_distinct (xs ++ ys) ≡ true → is_in k xs ≡ true → is_in k ys ≡ true → ⊥
not_both None xs ys d e f = true≢false (sym e)
not_both (Some k) [] ys d e f = true≢false (sym e)
not_both (Some k) (x ∷ xs) ys d e f = elim (or_cases (nat_eq k x) (is_in (Some k) xs) e) [
  | inl g ↦ here (is_in (Some x) (xs ++ ys)) (and_left (not (is_in (Some x) (xs ++ ys))) (are_distinct (xs ++ ys)) d)
      (subst (λ (j : ℕ). is_in (Some j) (xs ++ ys) ≡ true) (nat_eq_same k x g) (in_right (Some k) xs ys f))
  | inr g ↦ not_both (Some k) xs ys (and_right (not (is_in (Some x) (xs ++ ys))) (are_distinct (xs ++ ys)) d) g f
]
  where
    here : (b : Bool) → not b ≡ true → b ≡ true → ⊥
    here true e f = true≢false (sym e)
    here false e f = true≢false (sym f)

pub distinct_behind : (xs ys : List ℕ) → are_distinct (xs ++ ys) ≡ true → are_distinct ys ≡ true
distinct_behind [] ys d = d
distinct_behind (x ∷ xs) ys d = distinct_behind xs ys (and_right (not (is_in (Some x) (xs ++ ys))) (are_distinct (xs ++ ys)) d)

some_inj : {i j : ℕ} → Some i ≡ Some j → i ≡ j
some_inj e = cc

next_some : (o : Option ℕ) (i : ℕ) → next_number o ≡ Some i → (j : ℕ) × (o ≡ Some j) × (i ≡ suc j)
next_some None i e = absurd cc
next_some (Some j) i e = (j, refl, sym (some_inj e))

next_none : (o : Option ℕ) → next_number o ≡ None → o ≡ None
next_none None e = refl
next_none (Some j) e = absurd cc

module _ (classes firsts : List (List ℕ)) (k : Option ℕ) where
  -- the alternative that is found stands there, and begins with the kind
  pub beginning_there : (alts : List (List Symbol)) (i : ℕ) → beginning_with classes firsts k alts ≡ Some i → (i < length alts) × (is_in k (first_of_body classes firsts (get_or alts i [])) ≡ true)
  beginning_there [] i e = absurd cc
  beginning_there (ss ∷ alts) i e = by (is_in k (first_of_body classes firsts ss)) refl (beginning_there alts) e
    where
      by : (b : Bool) → is_in k (first_of_body classes firsts ss) ≡ b → ((j : ℕ) → beginning_with classes firsts k alts ≡ Some j → (j < length alts) × (is_in k (first_of_body classes firsts (get_or alts j [])) ≡ true)) →
          (if b then Some 0 else next_number (beginning_with classes firsts k alts)) ≡ Some i → (i < length (ss ∷ alts)) × (is_in k (first_of_body classes firsts (get_or (ss ∷ alts) i [])) ≡ true)
      by true f h g = (let z : i ≡ 0 = sym (some_inj g) in rw z (omega arith, f))
      by false f h g = (let p = next_some (beginning_with classes firsts k alts) i g in let q = h p.0 p.1 in let l = q.0 in rw p.2 (omega (arith, l), q.1))

  pub among : (bs : List (List Symbol)) (j : ℕ) → is_in k (first_of_body classes firsts (get_or bs j [])) ≡ true → is_in k (first_of_alternatives classes firsts bs) ≡ true
  among [] j f = f
  among (b ∷ bs) zero f = in_left k (first_of_body classes firsts b) (first_of_alternatives classes firsts bs) f
  among (b ∷ bs) (suc j) f = in_right k (first_of_body classes firsts b) (first_of_alternatives classes firsts bs) (among bs j f)

  pub beginning_in : (alts : List (List Symbol)) (i : ℕ) → are_distinct (first_of_alternatives classes firsts alts) ≡ true → i < length alts →
      is_in k (first_of_body classes firsts (get_or alts i [])) ≡ true → beginning_with classes firsts k alts ≡ Some i
  beginning_in [] i d l e = absurd (omega arith)
  beginning_in (ss ∷ alts) zero d l e = rw e refl
  beginning_in (ss ∷ alts) (suc i) d l e = by (is_in k (first_of_body classes firsts ss)) refl (beginning_in alts i (distinct_behind (first_of_body classes firsts ss) (first_of_alternatives classes firsts alts) d) (omega arith) e)
    where
      by : (b : Bool) → is_in k (first_of_body classes firsts ss) ≡ b → beginning_with classes firsts k alts ≡ Some i → (if b then Some 0 else next_number (beginning_with classes firsts k alts)) ≡ Some (suc i)
      by true f g = absurd (not_both k (first_of_body classes firsts ss) (first_of_alternatives classes firsts alts) d f (among alts i e))
      by false f g = rw g refl

  -- none is found where the kind is not among those of the alternatives
  pub beginning_none : (alts : List (List Symbol)) → beginning_with classes firsts k alts ≡ None → is_in k (first_of_alternatives classes firsts alts) ≡ true → ⊥
  beginning_none [] e f = nowhere k f
    where
      nowhere : (j : Option ℕ) → is_in j [] ≡ true → ⊥
      nowhere None e = true≢false (sym e)
      nowhere (Some j) e = true≢false (sym e)
  beginning_none (ss ∷ alts) e f = by (is_in k (first_of_body classes firsts ss)) refl (beginning_none alts) e
    where
      by : (b : Bool) → is_in k (first_of_body classes firsts ss) ≡ b → (beginning_with classes firsts k alts ≡ None → is_in k (first_of_alternatives classes firsts alts) ≡ true → ⊥) →
          (if b then Some 0 else next_number (beginning_with classes firsts k alts)) ≡ None → ⊥
      by true g h i = absurd cc
      by false g h i = elim (in_append k (first_of_body classes firsts ss) (first_of_alternatives classes firsts alts) f) [ inl j ↦ true≢false (sym j ∙ g) | inr j ↦ h (next_none (beginning_with classes firsts k alts) i) j ]

pub empty_there : (alts : List (List Symbol)) (i : ℕ) → empty_alternative alts ≡ Some i → (i < length alts) × (get_or alts i [] ≡ [])
empty_there [] i e = absurd cc
empty_there ([] ∷ alts) i e = (let z : i ≡ 0 = sym (some_inj e) in rw z (omega arith, refl))
empty_there ((s ∷ ss) ∷ alts) i e = (let p = next_some (empty_alternative alts) i e in let q = empty_there alts p.0 p.1 in let l = q.0 in rw p.2 (omega (arith, l), q.1))

pub none_empty : (alts : List (List Symbol)) (i : ℕ) → is_none (empty_alternative alts) ≡ true → i < length alts → get_or alts i [] ≡ [] → ⊥
none_empty [] i e l f = absurd (omega arith)
none_empty ([] ∷ alts) i e l f = true≢false (sym e)
none_empty ((s ∷ ss) ∷ alts) zero e l f = cc
none_empty ((s ∷ ss) ∷ alts) (suc i) e l f = none_empty alts i (by (empty_alternative alts) e) (omega arith) f
  where
    by : (o : Option ℕ) → is_none (next_number o) ≡ true → is_none o ≡ true
    by None e = refl
    by (Some j) e = e

pub empty_in : (alts : List (List Symbol)) (i : ℕ) → has_one_empty alts ≡ true → i < length alts → get_or alts i [] ≡ [] → empty_alternative alts ≡ Some i
empty_in [] i e l f = absurd (omega arith)
empty_in ([] ∷ alts) zero e l f = refl
empty_in ([] ∷ alts) (suc i) e l f = absurd (none_empty alts i e (omega arith) f)
empty_in ((s ∷ ss) ∷ alts) zero e l f = absurd cc
empty_in ((s ∷ ss) ∷ alts) (suc i) e l f = rw (empty_in alts i e (omega arith) f) refl

module _ (classes firsts : List (List ℕ)) (g : List (List (List Symbol))) (depths : List ℕ) (fixed : first_step classes g firsts ≡ firsts)
    (tested : each_from (is_ll1 firsts depths g) 0 g ≡ true) where
  pub kinds_are : (n : ℕ) → get_or firsts n [] ≡ first_of_alternatives classes firsts (get_or g n [])
  kinds_are n = ap (λ (fs : List (List ℕ)). get_or fs n []) (sym fixed) ∙ get_or_map (first_of_alternatives classes firsts) g n []

  tests : (n i : ℕ) → i < length (get_or g n []) → is_ll1 firsts depths g n (get_or g n []) ≡ true
  tests n i l = each_at (is_ll1 firsts depths g) 0 g [] n n tested (inside g n l) (omega arith)
    where
      inside : (h : List (List (List Symbol))) (m : ℕ) → i < length (get_or h m []) → m < length h
      inside [] m l = absurd (omega arith)
      inside (x ∷ h) zero l = omega arith
      inside (x ∷ h) (suc m) l = (let z = inside h m l in omega (arith, z))

  distinct : (n i : ℕ) → i < length (get_or g n []) → are_distinct (first_of_alternatives classes firsts (get_or g n [])) ≡ true
  distinct n i l = subst (λ (ks : List ℕ). are_distinct ks ≡ true) (kinds_are n) (and_left (are_distinct (get_or firsts n [])) _ (tests n i l))

  one_empty : (n i : ℕ) → i < length (get_or g n []) → has_one_empty (get_or g n []) ≡ true
  one_empty n i l = and_left (has_one_empty (get_or g n [])) (all_of (has_head g depths (depth_of depths n)) (get_or g n []))
      (and_right (are_distinct (get_or firsts n [])) _ (tests n i l))

  headed : (n i : ℕ) → i < length (get_or g n []) → has_head g depths (depth_of depths n) (get_or (get_or g n []) i []) ≡ true
  headed n i l = all_each (has_head g depths (depth_of depths n)) (get_or g n []) [] i
      (and_right (has_one_empty (get_or g n [])) (all_of (has_head g depths (depth_of depths n)) (get_or g n []))
      (and_right (are_distinct (get_or firsts n [])) _ (tests n i l))) l

  chosen_cases : (k : Option ℕ) (alts : List (List Symbol)) (r : ℕ) → predicted classes firsts k alts ≡ Some r → (beginning_with classes firsts k alts ≡ Some r) ⊎ ((beginning_with classes firsts k alts ≡ None) × (empty_alternative alts ≡ Some r))
  chosen_cases k alts r e = by (beginning_with classes firsts k alts) refl e
    where
      by : (o : Option ℕ) → beginning_with classes firsts k alts ≡ o → first_some o (empty_alternative alts) ≡ Some r →
          (beginning_with classes firsts k alts ≡ Some r) ⊎ ((beginning_with classes firsts k alts ≡ None) × (empty_alternative alts ≡ Some r))
      by None f h = inr (f, h)
      by (Some i) f h = inl (f ∙ h)

  not_in_nil : (k : Option ℕ) → is_in k [] ≡ true → ⊥
  not_in_nil None e = true≢false (sym e)
  not_in_nil (Some k) e = true≢false (sym e)

  some_parts : (k : Option ℕ) (ps : List Symbol) → is_in k (first_of_body classes firsts ps) ≡ true → is_nonempty ps ≡ true
  some_parts k [] e = absurd (not_in_nil k e)
  some_parts k (p ∷ ps) e = refl

  begins_some : (n : ℕ) (k : Option ℕ) (i : ℕ) → beginning_with classes firsts k (get_or g n []) ≡ Some i → begins (grammar_with classes firsts g) n k ≡ true
  unfolding grammar_with
  begins_some n k i e = rw e (some_parts k (get_or (get_or g n []) i []) (beginning_there classes firsts k (get_or g n []) i e).1)

  begins_none : (n : ℕ) (k : Option ℕ) → beginning_with classes firsts k (get_or g n []) ≡ None → begins (grammar_with classes firsts g) n k ≡ false
  unfolding grammar_with
  begins_none n k e = rw e (by (empty_alternative (get_or g n [])) refl)
    where
      by : (o : Option ℕ) → empty_alternative (get_or g n []) ≡ o → is_nonempty_alternative (grammar_with classes firsts g) n (empty_alternative (get_or g n [])) ≡ false
      by None f = rw f refl
      by (Some i) f = rw (f, (empty_there (get_or g n []) i f).1) refl

  begins_in : (n : ℕ) (k : Option ℕ) → is_in k (get_or firsts n []) ≡ true → begins (grammar_with classes firsts g) n k ≡ true
  begins_in n k e = by (beginning_with classes firsts k (get_or g n [])) refl
    where
      by : (o : Option ℕ) → beginning_with classes firsts k (get_or g n []) ≡ o → begins (grammar_with classes firsts g) n k ≡ true
      by None f = absurd (beginning_none classes firsts k (get_or g n []) f (subst (λ (ks : List ℕ). is_in k ks ≡ true) (kinds_are n) e))
      by (Some i) f = begins_some n k i f

  pub in_begins : (n : ℕ) (k : Option ℕ) → begins (grammar_with classes firsts g) n k ≡ true → is_in k (get_or firsts n []) ≡ true
  in_begins n k e = by (beginning_with classes firsts k (get_or g n [])) refl
    where
      by : (o : Option ℕ) → beginning_with classes firsts k (get_or g n []) ≡ o → is_in k (get_or firsts n []) ≡ true
      by None f = absurd (true≢false (sym e ∙ begins_none n k f))
      by (Some i) f = subst (λ (ks : List ℕ). is_in k ks ≡ true) (sym (kinds_are n)) (among classes firsts k (get_or g n []) i (beginning_there classes firsts k (get_or g n []) i f).1)

  can_begin : (k : Option ℕ) (ps : List Symbol) → is_in k (first_of_body classes firsts ps) ≡ true → CanBegin (grammar_with classes firsts g) ps k
  unfolding CanBegin grammar_with
  can_begin k [] e = tt
  can_begin None (Terminal j ∷ ps) e = absurd (true≢false (sym e))
  can_begin (Some k) (Terminal j ∷ ps) e = e
  can_begin k (Nonterminal m ∷ ps) e = begins_in m k e

  in_head : (k : Option ℕ) (p : Symbol) (ps : List Symbol) → CanBegin (grammar_with classes firsts g) (p ∷ ps) k → is_in k (first_of_body classes firsts (p ∷ ps)) ≡ true
  unfolding CanBegin grammar_with
  in_head None (Terminal j) ps e = absurd (true≢false (sym e))
  in_head (Some k) (Terminal j) ps e = e
  in_head k (Nonterminal m) ps e = in_begins m k e

  own : (n r : ℕ) (k : Option ℕ) → (grammar_with classes firsts g).predict n k ≡ Some r → (grammar_with classes firsts g).has n r ≡ true
  unfolding grammar_with
  own n r k e = elim (chosen_cases k (get_or g n []) r e) [
    | inl f ↦ lt_true r (length (get_or g n [])) (beginning_there classes firsts k (get_or g n []) r f).0
    | inr f ↦ lt_true r (length (get_or g n [])) (empty_there (get_or g n []) r f.1).0
  ]

  greedy : (n r : ℕ) (k : Option ℕ) → (grammar_with classes firsts g).predict n k ≡ Some r → IsGreedy (grammar_with classes firsts g) n ((grammar_with classes firsts g).body n r) k
  unfolding grammar_with IsGreedy
  greedy n r k e = elim (chosen_cases k (get_or g n []) r e) [
    | inl f ↦ long (get_or (get_or g n []) r []) (beginning_there classes firsts k (get_or g n []) r f).1
    | inr f ↦ rw ((empty_there (get_or g n []) r f.1).1) (begins_none n k f.0)
  ]
    where
      long : (ps : List Symbol) → is_in k (first_of_body classes firsts ps) ≡ true → IsGreedy (grammar_with classes firsts g) n ps k
      long [] h = absurd (not_in_nil k h)
      long (p ∷ ps) h = tt

  starts : (n r : ℕ) (k : Option ℕ) → (grammar_with classes firsts g).predict n k ≡ Some r → CanBegin (grammar_with classes firsts g) ((grammar_with classes firsts g).body n r) k
  unfolding grammar_with CanBegin
  starts n r k e = elim (chosen_cases k (get_or g n []) r e) [
    | inl f ↦ can_begin k (get_or (get_or g n []) r []) (beginning_there classes firsts k (get_or g n []) r f).1
    | inr f ↦ rw ((empty_there (get_or g n []) r f.1).1) tt
  ]

  found : (n r : ℕ) (k : Option ℕ) → (grammar_with classes firsts g).has n r ≡ true → IsGreedy (grammar_with classes firsts g) n ((grammar_with classes firsts g).body n r) k →
      CanBegin (grammar_with classes firsts g) ((grammar_with classes firsts g).body n r) k → (grammar_with classes firsts g).predict n k ≡ Some r
  unfolding grammar_with
  found n r k e f c = by (get_or (get_or g n []) r []) refl f c
    where
      l : r < length (get_or g n [])
      l = lt_less r (length (get_or g n [])) e

      by : (ps : List Symbol) → get_or (get_or g n []) r [] ≡ ps → IsGreedy (grammar_with classes firsts g) n ps k → CanBegin (grammar_with classes firsts g) ps k → predicted classes firsts k (get_or g n []) ≡ Some r
      by (p ∷ ps) i f c = rw (beginning_in classes firsts k (get_or g n []) r (distinct n r l) l (rw i (in_head k p ps c))) refl
      by [] i f c = none (beginning_with classes firsts k (get_or g n [])) refl (unfold IsGreedy in f)
        where
          none : (o : Option ℕ) → beginning_with classes firsts k (get_or g n []) ≡ o → begins (grammar_with classes firsts g) n k ≡ false → predicted classes firsts k (get_or g n []) ≡ Some r
          none (Some j) h m = absurd (true≢false (sym (begins_some n k j h) ∙ m))
          none None h m = rw (h, empty_in (get_or g n []) r (one_empty n r l) l i) refl

  heads : (n r : ℕ) → (grammar_with classes firsts g).has n r ≡ true → HasHead (grammar_with classes firsts g) (depth_of depths) n ((grammar_with classes firsts g).body n r)
  unfolding grammar_with HasHead
  heads n r e = by (get_or (get_or g n []) r []) (headed n r (lt_less r (length (get_or g n [])) e))
    where
      by : (ps : List Symbol) → has_head g depths (depth_of depths n) ps ≡ true → HasHead (grammar_with classes firsts g) (depth_of depths) n ps
      by [] h = tt
      by (Terminal j ∷ ps) h = tt
      by (Nonterminal m ∷ ps) h = (
        λ i a b. none_empty (get_or g m []) i (and_left (is_none (empty_alternative (get_or g m []))) (nat_lt (depth_of depths m) (depth_of depths n)) h) (lt_less i (length (get_or g m [])) a) b,
        lt_less (depth_of depths m) (depth_of depths n) (and_right (is_none (empty_alternative (get_or g m []))) (nat_lt (depth_of depths m) (depth_of depths n)) h),
      )

  at_end : (n : ℕ) → begins (grammar_with classes firsts g) n None ≡ false
  at_end n = by (begins (grammar_with classes firsts g) n None) refl
    where
      by : (b : Bool) → begins (grammar_with classes firsts g) n None ≡ b → begins (grammar_with classes firsts g) n None ≡ false
      by false i = i
      by true i = absurd (true≢false (sym (in_begins n None i)))

  pub is_ll1_grammar : IsLL1 (grammar_with classes firsts g) (depth_of depths)
  is_ll1_grammar = record { own = own; greedy = greedy; starts = starts; found = found; heads = heads; at_end = at_end }
