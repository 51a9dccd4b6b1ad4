-- A grammar whose lines pass a test have what they ask of their parts.
use Rattle.std.proofs.Common.{◌≡◌, ℕ, ◌+◌, ◌<◌, suc, Bool, true, false, not, ◌&&◌, ◌||◌, if◌then◌else◌, List, [], ◌∷◌, ◌++◌, length, map, get_or, nat_lt, nat_eq, Option, None, Some, refl, sym, ap, subst, ◌∙◌, ◌⊎◌, inl, inr, true≢false, append_assoc, append-nil, arith}
use Rattle.std.proofs.lemmas.List.{length-append, length-map}
use Rattle.grammar_tables.specs.declared.symbol.Symbol.{Symbol}
use Rattle.grammar_tables.specs.declared.symbol.Symbol.TheVariants.{Terminal, Nonterminal}
use Rattle.grammar_tables.specs.First.{is_in, first_some, all_of}
use Rattle.grammar_tables.specs.Grammar.{Grammar, Derives}
use Rattle.grammar_tables.specs.Grammar.Derives.{done, shift, expand}
use Rattle.grammar_tables.specs.Trees.{Tree, Trees, leaf, node, none, both, IsTree, AreTrees, preorder, preorder_all, SemanticActions, values, all_values, folded, option_list, size, sizes}
use Rattle.grammar_tables.specs.Trees.IsTree.{terminal, nonterminal}
use Rattle.grammar_tables.specs.Trees.AreTrees.{all_none, all_both}
use Rattle.grammar_tables.proofs.LL1Test.{and_left, and_right, or_cases, nat_eq_same, in_left, in_right}
use Rattle.pearlite.specs.Served.{Among, nothing, this, further, StartWith, AreAll, last_of, Asks, AreThere, IsServed, AllServed}

-- ---- lists of families

-- one that stands there alone is it
pub is_itself_in : (f g : ℕ) → is_in (Some g) (f ∷ []) ≡ true → g ≡ f
is_itself_in f g e = elim (or_cases (nat_eq g f) false e) [ inl s ↦ nat_eq_same g f s | inr s ↦ absurd (true≢false (sym s)) ]

abbrev pub is_within : List ℕ → List ℕ → Bool
is_within fs gs = all_of (λ f. is_in (Some f) gs) fs

pub within : (fs gs : List ℕ) (f : ℕ) → is_within fs gs ≡ true → is_in (Some f) fs ≡ true → is_in (Some f) gs ≡ true
within [] gs f e i = absurd (true≢false (sym i))
within (x ∷ fs) gs f e i = elim (or_cases (nat_eq f x) (is_in (Some f) fs) i) [
  | inl s ↦ subst (λ (y : ℕ). is_in (Some y) gs ≡ true) (sym (nat_eq_same f x s)) (and_left (is_in (Some x) gs) (is_within fs gs) e)
  | inr j ↦ within fs gs f (and_right (is_in (Some x) gs) (is_within fs gs) e) j
]

pub all_within : (these others fs : List ℕ) → is_within these others ≡ true → AreAll these fs → AreAll others fs
all_within these others [] e a = tt
all_within these others (f ∷ fs) e a = (within these others f e a.0, all_within these others fs e a.1)

all_append : (these others fs gs : List ℕ) → AreAll these fs → AreAll others gs → AreAll (these ++ others) (fs ++ gs)
all_append these others [] [] a b = tt
all_append these others [] (g ∷ gs) a b = (in_right (Some g) these others b.0, all_append these others [] gs tt b.1)
all_append these others (f ∷ fs) gs a b = (in_left (Some f) these others a.0, all_append these others fs gs a.1 b)

last_append : (fs gs : List ℕ) → last_of (fs ++ gs) ≡ first_some (last_of gs) (last_of fs)
last_append [] gs = none_first (last_of gs)
  where
    none_first : (o : Option ℕ) → o ≡ first_some o None
    none_first None = refl
    none_first (Some x) = refl
last_append (f ∷ fs) gs = rw (last_append fs gs) (by (last_of gs))
  where
    by : (o : Option ℕ) → first_some (first_some o (last_of fs)) (Some f) ≡ first_some o (first_some (last_of fs) (Some f))
    by None = refl
    by (Some x) = refl

-- ---- parts in order

behind : (fs : List ℕ) {places : List (List ℕ)} {gs : List ℕ} → Among places gs → Among places (fs ++ gs)
behind [] a = a
behind (f ∷ fs) a = further (behind fs a)

among_append : {xs ys : List (List ℕ)} {fs gs : List ℕ} → Among xs fs → Among ys gs → Among (xs ++ ys) (fs ++ gs)
among_append {fs} nothing b = behind fs b
among_append (this i a) b = this i (among_append a b)
among_append (further a) b = further (among_append a b)

-- what stands at the second places stands at the first ones, each of which is one of those
abbrev pub is_among : List (List ℕ) → List (List ℕ) → Bool
is_among [] ys = true
is_among (x ∷ xs) [] = false
is_among (x ∷ xs) (y ∷ ys) = if is_within y x then is_among xs ys else is_among (x ∷ xs) ys

among_all : (xs ys : List (List ℕ)) {fs : List ℕ} → is_among xs ys ≡ true → Among ys fs → Among xs fs
among_all [] ys e a = nothing
among_all (x ∷ xs) [] e a = absurd (true≢false (sym e))
among_all (x ∷ xs) (y ∷ ys) e (further a) = further (among_all (x ∷ xs) (y ∷ ys) e a)
among_all (x ∷ xs) (y ∷ ys) e (this {f} {fs} i a) = by (is_within y x) refl e (among_all xs ys) (among_all (x ∷ xs) ys)
  where
    by : (b : Bool) → is_within y x ≡ b → (if b then is_among xs ys else is_among (x ∷ xs) ys) ≡ true → (is_among xs ys ≡ true → Among ys fs → Among xs fs) → (is_among (x ∷ xs) ys ≡ true → Among ys fs → Among (x ∷ xs) fs) → Among (x ∷ xs) (f ∷ fs)
    by true w e first later = this (within y x f w i) (first e a)
    by false w e first later = further (later e a)

start_append : (places : List (List ℕ)) (fs gs : List ℕ) → StartWith places fs → StartWith places (fs ++ gs)
start_append [] fs gs s = tt
start_append (x ∷ xs) [] gs s = absurd s
start_append (x ∷ xs) (f ∷ fs) gs s = (s.0, start_append xs fs gs s.1)

-- where there are no others
start_behind : (places others : List (List ℕ)) (fs gs : List ℕ) → StartWith places fs → length fs ≡ length places → StartWith others gs → StartWith (places ++ others) (fs ++ gs)
start_behind [] others [] gs s e t = t
start_behind [] others (f ∷ fs) gs s e t = absurd (omega arith)
start_behind (x ∷ xs) others [] gs s e t = absurd s
start_behind (x ∷ xs) others (f ∷ fs) gs s e t = (s.0, start_behind xs others fs gs s.1 (omega arith) t)

-- the second places begin with the first ones, each of which is one of those
abbrev pub is_start : List (List ℕ) → List (List ℕ) → Bool
is_start [] ys = true
is_start (x ∷ xs) [] = false
is_start (x ∷ xs) (y ∷ ys) = is_within y x && is_start xs ys

start_all : (xs ys : List (List ℕ)) (fs : List ℕ) → is_start xs ys ≡ true → StartWith ys fs → StartWith xs fs
start_all [] ys fs e s = tt
start_all (x ∷ xs) [] fs e s = absurd (true≢false (sym e))
start_all (x ∷ xs) (y ∷ ys) [] e s = absurd s
start_all (x ∷ xs) (y ∷ ys) (f ∷ fs) e s = (within y x f (and_left (is_within y x) (is_start xs ys) e) s.0, start_all xs ys fs (and_right (is_within y x) (is_start xs ys) e) s.1)

-- ---- what a line leaves among the parts of the line around it

pub record Leaves : Type 0 where
  -- parts of these families, in this order
  pub surely : List (List ℕ)
  -- the first ones
  pub begins : List (List ℕ)
  -- whether there are no others than those
  pub exact : Bool
  -- no part of another family than these
  pub only : List ℕ
  -- where it is one part, one of these
  pub single : List ℕ
  -- the last part is one of these
  pub ending : List ℕ
  -- whether there may be no part
  pub empty : Bool

pub record IsLeft (l : Leaves) (fs : List ℕ) : Type 0 where
  pub surely : Among l.surely fs
  pub begins : StartWith l.begins fs
  pub exact : l.exact ≡ true → length fs ≡ length l.begins
  pub only : AreAll l.only fs
  pub single : (f : ℕ) → fs ≡ f ∷ [] → is_in (Some f) l.single ≡ true
  pub ending : (f : ℕ) → last_of fs ≡ Some f → is_in (Some f) l.ending ≡ true
  pub empty : fs ≡ [] → l.empty ≡ true

abbrev pub no_parts : Leaves
no_parts = record { surely = []; begins = []; exact = true; only = []; single = []; ending = []; empty = true }

abbrev pub one_part : ℕ → Leaves
one_part f = record { surely = (f ∷ []) ∷ []; begins = (f ∷ []) ∷ []; exact = true; only = f ∷ []; single = f ∷ []; ending = f ∷ []; empty = false }

abbrev pub joined : Leaves → Leaves → Leaves
joined a b = record {
  surely = a.surely ++ b.surely;
  begins = a.begins ++ (if a.exact then b.begins else []);
  exact = a.exact && b.exact;
  only = a.only ++ b.only;
  single = (if b.empty then a.single else []) ++ (if a.empty then b.single else []);
  ending = b.ending ++ (if b.empty then a.ending else []);
  empty = a.empty && b.empty;
}

is_itself : (f : ℕ) → is_in (Some f) (f ∷ []) ≡ true
is_itself f = rw (same f) refl
  where
    same : (n : ℕ) → nat_eq n n ≡ true
    same n = grind arith

first_same : {x y : ℕ} {xs ys : List ℕ} → x ∷ xs ≡ y ∷ ys → x ≡ y
first_same e = cc

some_same : {x y : ℕ} → Some x ≡ Some y → x ≡ y
some_same e = cc

none_left : IsLeft no_parts []
none_left = record { surely = nothing; begins = tt; exact = λ e. refl; only = tt; single = λ f e. absurd (cc); ending = λ f e. absurd (cc); empty = λ e. refl }

one_left : (f : ℕ) → IsLeft (one_part f) (f ∷ [])
one_left f = record {
  surely = this (is_itself f) nothing;
  begins = (is_itself f, tt);
  exact = λ e. refl;
  only = (is_itself f, tt);
  single = λ g e. subst (λ (h : ℕ). is_in (Some h) (f ∷ []) ≡ true) (first_same e) (is_itself f);
  ending = λ g e. subst (λ (h : ℕ). is_in (Some h) (f ∷ []) ≡ true) (some_same e) (is_itself f);
  empty = λ e. absurd (cc);
}

if_true : (b : Bool) (xs : List ℕ) → b ≡ true → xs ≡ (if b then xs else [])
if_true true xs e = refl
if_true false xs e = absurd (true≢false (sym e))

joined_left : (a b : Leaves) (fs gs : List ℕ) → IsLeft a fs → IsLeft b gs → IsLeft (joined a b) (fs ++ gs)
joined_left a b fs gs l m = record {
  surely = among_append l.surely m.surely;
  begins = begins a.exact l.exact;
  exact = λ e. length-append fs gs ∙ both (l.exact (and_left a.exact b.exact e)) (m.exact (and_right a.exact b.exact e)) a.exact (and_left a.exact b.exact e);
  only = all_append a.only b.only fs gs l.only m.only;
  single = single fs gs l m;
  ending = ending gs m;
  empty = empty fs l;
}
  where
    begins : (x : Bool) → (x ≡ true → length fs ≡ length a.begins) → StartWith (a.begins ++ (if x then b.begins else [])) (fs ++ gs)
    begins true h = start_behind a.begins b.begins fs gs l.begins (h refl) m.begins
    begins false h = rw (append-nil a.begins) (start_append a.begins fs gs l.begins)

    both : length fs ≡ length a.begins → length gs ≡ length b.begins → (x : Bool) → x ≡ true → length fs + length gs ≡ length (a.begins ++ (if x then b.begins else []))
    both h k true e = rw (h, k) (sym (length-append a.begins b.begins))
    both h k false e = absurd (true≢false (sym e))

    single : (fs gs : List ℕ) → IsLeft a fs → IsLeft b gs → (f : ℕ) → fs ++ gs ≡ f ∷ [] → is_in (Some f) ((if b.empty then a.single else []) ++ (if a.empty then b.single else [])) ≡ true
    single [] gs l m f e = in_right (Some f) (if b.empty then a.single else []) (if a.empty then b.single else []) (subst (λ (xs : List ℕ). is_in (Some f) xs ≡ true) (if_true a.empty b.single (l.empty refl)) (m.single f e))
    single (x ∷ []) [] l m f e = in_left (Some f) (if b.empty then a.single else []) (if a.empty then b.single else []) (subst (λ (xs : List ℕ). is_in (Some f) xs ≡ true) (if_true b.empty a.single (m.empty refl)) (l.single f e))
    single (x ∷ []) (g ∷ gs) l m f e = absurd (let k : suc (suc (length gs)) ≡ 1 = ap length e in omega arith)
    single (x ∷ y ∷ xs) gs l m f e = absurd (let k : suc (suc (length (xs ++ gs))) ≡ 1 = ap length e in omega arith)

    ending : (gs : List ℕ) → IsLeft b gs → (f : ℕ) → last_of (fs ++ gs) ≡ Some f → is_in (Some f) (b.ending ++ (if b.empty then a.ending else [])) ≡ true
    ending gs m f e = by (last_of gs) gs refl m (sym (last_append fs gs) ∙ e)
      where
        by : (o : Option ℕ) (gs : List ℕ) → last_of gs ≡ o → IsLeft b gs → first_some o (last_of fs) ≡ Some f → is_in (Some f) (b.ending ++ (if b.empty then a.ending else [])) ≡ true
        by (Some x) gs s m e = in_left (Some f) b.ending _ (m.ending f (s ∙ e))
        by None [] s m e = in_right (Some f) b.ending _ (subst (λ (xs : List ℕ). is_in (Some f) xs ≡ true) (if_true b.empty a.ending (m.empty refl)) (l.ending f e))
        by None (g ∷ gs) s m e = absurd (never (last_of gs) s)
          where
            never : (o : Option ℕ) → first_some o (Some g) ≡ None → ⊥
            never None e = cc
            never (Some x) e = cc

    empty : (fs : List ℕ) → IsLeft a fs → fs ++ gs ≡ [] → (a.empty && b.empty) ≡ true
    empty [] l e = rw (l.empty refl, m.empty e) refl
    empty (x ∷ xs) l e = absurd (cc)

-- what surely stands there
pub is_among_left : {l : Leaves} {fs : List ℕ} (places : List (List ℕ)) → is_among places l.surely ≡ true → IsLeft l fs → Among places fs
is_among_left {l} places e left = among_all places l.surely e left.surely

-- ---- lines

pub data Kind : Type 0 where
  -- its parts stand among those of the line around
  kept : Kind
  -- it is made into one of that family
  made : ℕ → Kind
  -- and kept where it has less than two parts
  several : ℕ → Kind

abbrev pub is_kept_by : Kind → ℕ → Bool
is_kept_by kept count = true
is_kept_by (made f) count = false
is_kept_by (several f) count = nat_lt count 2

abbrev pub made_by : ℕ → Bool → Kind
made_by f true = several f
made_by f false = made f

pub is_kept_few : (f : ℕ) (many : Bool) (count : ℕ) → (many && nat_lt count 2) ≡ is_kept_by (made_by f many) count
is_kept_few f true count = refl
is_kept_few f false count = refl

pub same_made : (many : Bool) (f g : ℕ) → (made_by g many ≡ made f) ⊎ (made_by g many ≡ several f) → g ≡ f
same_made true f g (inl h) = absurd (cc)
same_made true f g (inr h) = cc
same_made false f g (inl h) = cc
same_made false f g (inr h) = absurd (cc)

pub never_made : (k : Kind) (f : ℕ) → k ≡ kept → (k ≡ made f) ⊎ (k ≡ several f) → ⊥
never_made k f e (inl h) = cc
never_made k f e (inr h) = cc

abbrev pub leaves_by : Kind → Leaves → Leaves
leaves_by kept l = l
leaves_by (made f) l = one_part f
leaves_by (several f) l = one_part f

-- the first begins as the second
abbrev is_begun : Leaves → Leaves → Bool
is_begun a b = is_start b.begins a.begins && (not b.exact || (a.exact && nat_eq (length a.begins) (length b.begins)))

-- the first is one of the second
abbrev is_one : Leaves → Leaves → Bool
is_one a b = is_among b.surely a.surely && (is_within a.only b.only && (is_within a.single b.single && (is_within a.ending b.ending && ((not a.empty || b.empty) && is_begun a b))))

one_of : (a b : Leaves) (fs : List ℕ) → is_one a b ≡ true → IsLeft a fs → IsLeft b fs
one_of a b fs e l =
    let e1 = and_right (is_among b.surely a.surely) _ e in
    let e2 = and_right (is_within a.only b.only) _ e1 in
    let e3 = and_right (is_within a.single b.single) _ e2 in
    let e4 = and_right (is_within a.ending b.ending) _ e3 in
    let e5 = and_right (not a.empty || b.empty) _ e4 in
    record {
      surely = among_all b.surely a.surely (and_left (is_among b.surely a.surely) _ e) l.surely;
      begins = start_all b.begins a.begins fs (and_left (is_start b.begins a.begins) _ e5) l.begins;
      exact = λ i. no_others (and_right (is_start b.begins a.begins) _ e5) i l.exact;
      only = all_within a.only b.only fs (and_left (is_within a.only b.only) _ e1) l.only;
      single = λ f i. within a.single b.single f (and_left (is_within a.single b.single) _ e2) (l.single f i);
      ending = λ f i. within a.ending b.ending f (and_left (is_within a.ending b.ending) _ e3) (l.ending f i);
      empty = λ i. may a.empty b.empty (l.empty i) (and_left (not a.empty || b.empty) _ e4);
    }
  where
    may : (x y : Bool) → x ≡ true → (not x || y) ≡ true → y ≡ true
    may true y e f = f
    may false y e f = absurd (true≢false (sym e))

    no_others : (not b.exact || (a.exact && nat_eq (length a.begins) (length b.begins))) ≡ true → b.exact ≡ true → (a.exact ≡ true → length fs ≡ length a.begins) → length fs ≡ length b.begins
    no_others e i h =
        let k = may b.exact (a.exact && nat_eq (length a.begins) (length b.begins)) i e in
        h (and_left a.exact _ k) ∙ nat_eq_same (length a.begins) (length b.begins) (and_right a.exact _ k)

module _ (asks : ℕ → Asks) (kind : ℕ → Kind) (table : List Leaves) where
  abbrev pub leaves_at : ℕ → Leaves
  leaves_at n = leaves_by (kind n) (get_or table n no_parts)

  -- a token is of family 0
  abbrev pub leaves_of : Symbol → Leaves
  leaves_of (Terminal k) = one_part 0
  leaves_of (Nonterminal n) = leaves_at n

  abbrev pub leaves_of_body : List Symbol → Leaves
  leaves_of_body [] = no_parts
  leaves_of_body (s ∷ ss) = joined (leaves_of s) (leaves_of_body ss)

  -- what stands alone between two tokens is one of these
  abbrev pub is_alone : List ℕ → List Symbol → Bool
  is_alone these (Terminal j ∷ Nonterminal n ∷ Terminal k ∷ []) = is_within (leaves_at n).single these
  is_alone these body = false

  abbrev pub has_all : Asks → Leaves → List Symbol → Bool
  has_all q l body = is_among q.parts l.surely && (is_start q.first l.begins && (is_within l.only q.families && (is_within l.ending q.last && (is_within l.only q.alone || is_alone q.alone body))))

  abbrev pub is_fit_by : Kind → ℕ → Leaves → List Symbol → Bool
  is_fit_by kept n l body = is_one l (get_or table n no_parts)
  is_fit_by (made f) n l body = has_all (asks n) l body
  is_fit_by (several f) n l body = has_all (asks n) l body && (not l.empty && is_within l.single (f ∷ []))

  -- the test of an alternative of a nonterminal
  abbrev pub is_fit : ℕ → List Symbol → Bool
  is_fit n body = is_fit_by (kind n) n (leaves_of_body body) body

module _ (G : Grammar) where
  abbrev mutual
    -- each nonterminal in the tree has the alternative
    pub HasAll : Tree → Type 0
    HasAll (leaf k) = Unit {0}
    HasAll (node n r ts) = (G.has n r ≡ true) × HaveAll ts

    pub HaveAll : Trees → Type 0
    HaveAll none = Unit {0}
    HaveAll (both t ts) = HasAll t × HaveAll ts

  abbrev behind_trees : Trees → Trees → Trees
  behind_trees none us = us
  behind_trees (both t ts) us = both t (behind_trees ts us)

  trees_joined : {ss rs : List Symbol} {ts us : Trees} → AreTrees G ss ts → AreTrees G rs us → AreTrees G (ss ++ rs) (behind_trees ts us)
  trees_joined all_none b = b
  trees_joined (all_both a as2) b = all_both a (trees_joined as2 b)

  preorder_behind : (ts us : Trees) → preorder_all (behind_trees ts us) ≡ preorder_all ts ++ preorder_all us
  preorder_behind none us = refl
  preorder_behind (both t ts) us = ap (λ (rs : List ℕ). preorder t ++ rs) (preorder_behind ts us) ∙ sym (append_assoc (preorder t) (preorder_all ts) (preorder_all us))

  have_both : (ts us : Trees) → HaveAll (behind_trees ts us) → HaveAll ts × HaveAll us
  have_both none us h = (tt, h)
  have_both (both t ts) us h = (let k = have_both ts us h.1 in ((h.0, k.0), k.1))

  tails_same : {x y : ℕ} {xs ys : List ℕ} → x ∷ xs ≡ y ∷ ys → xs ≡ ys
  tails_same e = cc

  -- what is derived has its alternatives
  have_all : {ss : List Symbol} {xs rs : List ℕ} {ts : Trees} → Derives G ss xs rs → AreTrees G ss ts → preorder_all ts ≡ rs → HaveAll ts
  have_all done all_none e = tt
  have_all (shift i q) (all_both terminal a) e = (tt, have_all q a e)
  have_all (expand {n} r has greedy q) (all_both {ts} (nonterminal {r = k} {ts = us} b) a) e =
      let same : k ≡ r = first_same e in
      let h = have_both us ts (have_all q (trees_joined (subst (λ (j : ℕ). AreTrees G (G.body n j) us) same b) a) (preorder_behind us ts ∙ tails_same e)) in
      ((subst (λ (j : ℕ). G.has n j ≡ true) (sym same) has, h.0), h.1)

  pub tree_has_all : (n : ℕ) (t : Tree) (xs : List ℕ) → IsTree G (Nonterminal n) t → Derives G (Nonterminal n ∷ []) xs (preorder t) → HasAll t
  tree_has_all n t xs a d = (have_all d (all_both a all_none) (append-nil (preorder t))).0

module _ {V : Type 0} (G : Grammar) (m : SemanticActions V) (family : V → ℕ) (asks : ℕ → Asks) (kind : ℕ → Kind) (table : List Leaves) where
  abbrev left_at : ℕ → Leaves
  left_at = leaves_at asks kind table

  abbrev left_of : Symbol → Leaves
  left_of = leaves_of asks kind table

  abbrev left_of_body : List Symbol → Leaves
  left_of_body = leaves_of_body asks kind table

  abbrev families : ℕ → Trees → List ℕ
  families at ts = map family (all_values m at ts)

  -- the values of each symbol
  abbrev AllLeft : List Symbol → ℕ → Trees → Type 0
  AllLeft [] at ts = Unit {0}
  AllLeft (s ∷ ss) at none = Unit {0}
  AllLeft (s ∷ ss) at (both t ts) = IsLeft (left_of s) (map family (values m at t)) × AllLeft ss (at + size t) ts

  map_append : (xs ys : List V) → map family (xs ++ ys) ≡ map family xs ++ map family ys
  map_append [] ys = refl
  map_append (x ∷ xs) ys = ap (λ (l : List ℕ). family x ∷ l) (map_append xs ys)

  body_left : {ss : List Symbol} {ts : Trees} (at : ℕ) → AreTrees G ss ts → AllLeft ss at ts → IsLeft (left_of_body ss) (families at ts)
  body_left at all_none l = none_left
  body_left at (all_both {s} {t} {ss} {ts} a b) l =
      rw (map_append (values m at t) (all_values m (at + size t) ts)) (joined_left (left_of s) (left_of_body ss) (map family (values m at t)) (families (at + size t) ts) l.0 (body_left (at + size t) b l.1))

  module _ (token : (k at : ℕ) → map family (option_list (m.leaf k at)) ≡ 0 ∷ []) where
    -- three parts of which the first and the last are tokens
    middle : (fs : List ℕ) (f g h : ℕ) → 0 ∷ fs ++ 0 ∷ [] ≡ f ∷ g ∷ h ∷ [] → fs ≡ g ∷ []
    middle [] f g h e = absurd (let k : 2 ≡ 3 = ap length e in omega arith)
    middle (x ∷ []) f g h e = (let k : x ≡ g = cc in rw k refl)
    middle (x ∷ y ∷ xs) f g h e = absurd (let k : 2 + suc (suc (length xs)) ≡ 3 = sym (more (x ∷ y ∷ xs)) ∙ ap length e in omega arith)
      where
        more : (ys : List ℕ) → length (0 ∷ ys ++ 0 ∷ []) ≡ 2 + length ys
        more [] = refl
        more (y ∷ ys) = (let k = more ys in omega (arith, k))

    between : {j n k : ℕ} {ts : Trees} (at : ℕ) (these : List ℕ) → AreTrees G (Terminal j ∷ Nonterminal n ∷ Terminal k ∷ []) ts → AllLeft (Terminal j ∷ Nonterminal n ∷ Terminal k ∷ []) at ts →
        is_within (left_at n).single these ≡ true → (f g h : ℕ) → families at ts ≡ f ∷ g ∷ h ∷ [] → is_in (Some g) these ≡ true
    between {j} {n} {k} at these (all_both terminal (all_both {t} x (all_both terminal all_none))) l e f g h is =
        let inner : List ℕ = map family (values m (at + 1) t) in
        let whole : families at (both (leaf j) (both t (both (leaf k) none))) ≡ 0 ∷ inner ++ 0 ∷ [] = (
        map_append (option_list (m.leaf j at)) _ ∙ ap (λ (l : List ℕ). l ++ map family (values m (at + 1) t ++ (option_list (m.leaf k (at + 1 + size t)) ++ []))) (token j at)
        ∙ ap (λ (l : List ℕ). 0 ∷ l) (map_append (values m (at + 1) t) _ ∙ ap (λ (l : List ℕ). inner ++ l) (map_append (option_list (m.leaf k (at + 1 + size t))) [] ∙ ap (λ (l : List ℕ). l ++ []) (token k (at + 1 + size t)))))
        in within (left_at n).single these g e (l.1.0.single g (middle inner f g h (sym whole ∙ is)))

    alone_there : {body : List Symbol} {ts : Trees} (at : ℕ) (these : List ℕ) → AreTrees G body ts → AllLeft body at ts → IsLeft (left_of_body body) (families at ts) →
        (is_within (left_of_body body).only these || is_alone asks kind table these body) ≡ true → (f g h : ℕ) → families at ts ≡ f ∷ g ∷ h ∷ [] → is_in (Some g) these ≡ true
    alone_there {body} {ts} at these a l b e f g h is = elim (or_cases (is_within (left_of_body body).only these) (is_alone asks kind table these body) e) [
      | inl i ↦ second (families at ts) b.only i is
      | inr i ↦ by body a l i
    ]
      where
        second : (fs : List ℕ) → AreAll (left_of_body body).only fs → is_within (left_of_body body).only these ≡ true → fs ≡ f ∷ g ∷ h ∷ [] → is_in (Some g) these ≡ true
        second fs o i s = within (left_of_body body).only these g i (subst (λ (xs : List ℕ). AreAll (left_of_body body).only xs) s o).1.0

        by : (ss : List Symbol) → AreTrees G ss ts → AllLeft ss at ts → is_alone asks kind table these ss ≡ true → is_in (Some g) these ≡ true
        by [] a l i = absurd (true≢false (sym i))
        by (Nonterminal n ∷ ss) a l i = absurd (true≢false (sym i))
        by (Terminal j ∷ []) a l i = absurd (true≢false (sym i))
        by (Terminal j ∷ Terminal k ∷ ss) a l i = absurd (true≢false (sym i))
        by (Terminal j ∷ Nonterminal n ∷ []) a l i = absurd (true≢false (sym i))
        by (Terminal j ∷ Nonterminal n ∷ Nonterminal k ∷ ss) a l i = absurd (true≢false (sym i))
        by (Terminal j ∷ Nonterminal n ∷ Terminal k ∷ []) a l i = between at these a l i f g h is
        by (Terminal j ∷ Nonterminal n ∷ Terminal k ∷ s ∷ ss) a l i = absurd (true≢false (sym i))

    there : {body : List Symbol} {ts : Trees} (at : ℕ) (q : Asks) → AreTrees G body ts → AllLeft body at ts → has_all asks kind table q (left_of_body body) body ≡ true → AreThere q (families at ts)
    there {body} {ts} at q a l e =
        let b = body_left at a l in
        let e0 = and_right (is_among q.parts (left_of_body body).surely) _ e in
        let e1 = and_right (is_start q.first (left_of_body body).begins) _ e0 in
        let e2 = and_right (is_within (left_of_body body).only q.families) _ e1 in
        record {
          parts = among_all q.parts (left_of_body body).surely (and_left (is_among q.parts (left_of_body body).surely) _ e) b.surely;
          first = start_all q.first (left_of_body body).begins (families at ts) (and_left (is_start q.first (left_of_body body).begins) _ e0) b.begins;
          families = all_within (left_of_body body).only q.families (families at ts) (and_left (is_within (left_of_body body).only q.families) _ e1) b.only;
          last = λ f i. within (left_of_body body).ending q.last f (and_left (is_within (left_of_body body).ending q.last) _ e2) (b.ending f i);
          alone = alone_there at q.alone a l b (and_right (is_within (left_of_body body).ending q.last) _ e2);
        }

    module _ (keeps : (n r count : ℕ) → m.keeps n r count ≡ is_kept_by (kind n) count)
        (makes : (n r from to f : ℕ) (vs : List V) → (kind n ≡ made f) ⊎ (kind n ≡ several f) → AreThere (asks n) (map family vs) → family (m.action n r from to vs) ≡ f)
        (fits : (n r : ℕ) → G.has n r ≡ true → is_fit asks kind table n (G.body n r) ≡ true) where
      -- what a nonterminal leaves, and what its line has
      abbrev Line : ℕ → ℕ → ℕ → Trees → Type 0
      Line n r at ts = IsLeft (left_at n) (map family (folded m n r at (at + sizes ts) (all_values m at ts))) × (m.keeps n r (length (all_values m at ts)) ≡ false → AreThere (asks n) (families at ts))

      if_kept : (b : Bool) (vs : List V) (v : V) → b ≡ true → (if b then vs else v ∷ []) ≡ vs
      if_kept true vs v e = refl
      if_kept false vs v e = absurd (true≢false (sym e))

      if_made : (b : Bool) (vs : List V) (v : V) → b ≡ false → (if b then vs else v ∷ []) ≡ v ∷ []
      if_made true vs v e = absurd (true≢false e)
      if_made false vs v e = refl

      made_one : (n r at f : ℕ) (ts : Trees) → (kind n ≡ made f) ⊎ (kind n ≡ several f) → AreThere (asks n) (families at ts) → m.keeps n r (length (all_values m at ts)) ≡ false →
          IsLeft (one_part f) (map family (folded m n r at (at + sizes ts) (all_values m at ts)))
      made_one n r at f ts k q e =
          rw (if_made (m.keeps n r (length (all_values m at ts))) (all_values m at ts) (m.action n r at (at + sizes ts) (all_values m at ts)) e, makes n r at (at + sizes ts) f (all_values m at ts) k q) (one_left f)

      few : (f : ℕ) (l : Leaves) (fs : List ℕ) → length fs < 2 → not l.empty ≡ true → is_within l.single (f ∷ []) ≡ true → IsLeft l fs → IsLeft (one_part f) fs
      few f l [] s e i b = absurd (true≢false (sym (subst (λ (x : Bool). not x ≡ true) (b.empty refl) e)))
      few f l (g ∷ []) s e i b = (let k : g ≡ f = same (or_cases (nat_eq g f) false (within l.single (f ∷ []) g i (b.single g refl))) in rw k (one_left f))
        where
          same : (nat_eq g f ≡ true) ⊎ (false ≡ true) → g ≡ f
          same (inl s) = nat_eq_same g f s
          same (inr s) = absurd (true≢false (sym s))
      few f l (g ∷ h ∷ fs) s e i b = absurd (omega arith)

      line : (n r at : ℕ) (body : List Symbol) (ts : Trees) → AreTrees G body ts → AllLeft body at ts → is_fit asks kind table n body ≡ true → (k : Kind) → kind n ≡ k → Line n r at ts
      line n r at body ts a l e kept k = (
        rw (k, if_kept (m.keeps n r (length (all_values m at ts))) (all_values m at ts) (m.action n r at (at + sizes ts) (all_values m at ts)) (keeps n r (length (all_values m at ts)) ∙ ap (λ (x : Kind). is_kept_by x (length (all_values m at ts))) k))
            (one_of (left_of_body body) (get_or table n no_parts) (families at ts) (rw k at e) (body_left at a l)),
        λ i. absurd (true≢false (sym (keeps n r (length (all_values m at ts)) ∙ ap (λ (x : Kind). is_kept_by x (length (all_values m at ts))) k) ∙ i)),
      )
      line n r at body ts a l e (made f) k =
          let q = there at (asks n) a l (rw k at e) in
          let count = keeps n r (length (all_values m at ts)) ∙ ap (λ (x : Kind). is_kept_by x (length (all_values m at ts))) k in
          (rw k (made_one n r at f ts (inl k) q count), λ i. q)
      line n r at body ts a l e (several f) k =
          let e1 : is_fit_by asks kind table (several f) n (left_of_body body) body ≡ true = rw k at e in
          let q = there at (asks n) a l (and_left (has_all asks kind table (asks n) (left_of_body body) body) _ e1) in
          let count = keeps n r (length (all_values m at ts)) ∙ ap (λ (x : Kind). is_kept_by x (length (all_values m at ts))) k in
          let e2 = and_right (has_all asks kind table (asks n) (left_of_body body) body) _ e1 in
          (rw k (by q count (and_left (not (left_of_body body).empty) _ e2) (and_right (not (left_of_body body).empty) _ e2) (nat_lt (length (all_values m at ts)) 2) refl), λ i. q)
        where
          by : AreThere (asks n) (families at ts) → m.keeps n r (length (all_values m at ts)) ≡ nat_lt (length (all_values m at ts)) 2 → not (left_of_body body).empty ≡ true → is_within (left_of_body body).single (f ∷ []) ≡ true →
              (b : Bool) → nat_lt (length (all_values m at ts)) 2 ≡ b → IsLeft (one_part f) (map family (folded m n r at (at + sizes ts) (all_values m at ts)))
          by q count e i true s =
              let short : length (families at ts) < 2 = omega (arith, less (length (all_values m at ts)) 2 s, length-map (all_values m at ts) family) in
              rw (if_kept (m.keeps n r (length (all_values m at ts))) (all_values m at ts) (m.action n r at (at + sizes ts) (all_values m at ts)) (count ∙ s)) (few f (left_of_body body) (families at ts) short e i (body_left at a l))
            where
              less : (x y : ℕ) → nat_lt x y ≡ true → x < y
              less x y h = grind arith
          by q count e i false s = made_one n r at f ts (inr k) q (count ∙ s)

      mutual
        served : {s : Symbol} {t : Tree} (at : ℕ) → IsTree G s t → HasAll G t → IsLeft (left_of s) (map family (values m at t)) × IsServed m family asks at t
        served at (terminal {k}) h = (rw (token k at) (one_left 0), tt)
        served at (nonterminal {n} {r} {ts} a) h =
            let l = all_served at a h.1 in
            let x = line n r at (G.body n r) ts a l.0 (fits n r h.0) (kind n) refl in
            (x.0, (x.1, l.1))

        all_served : {ss : List Symbol} {ts : Trees} (at : ℕ) → AreTrees G ss ts → HaveAll G ts → AllLeft ss at ts × AllServed m family asks at ts
        all_served at all_none h = (tt, tt)
        all_served at (all_both {t} a b) h =
            let l = served at a h.0 in
            let ls = all_served (at + size t) b h.1 in
            ((l.0, ls.0), (l.1, ls.1))

      pub tree_served : (s : Symbol) (t : Tree) (at : ℕ) → IsTree G s t → HasAll G t → IsServed m family asks at t × IsLeft (left_of s) (map family (values m at t))
      tree_served s t at a h = (let l = served at a h in (l.1, l.0))
