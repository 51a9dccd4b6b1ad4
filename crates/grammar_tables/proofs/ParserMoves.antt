-- The moves of the parser's loop, and why it ends.
use Rattle.std.specs.Prelude.{◌≡◌, ◌==◌, ℕ, suc, Bool, true, false, not, if◌then◌else◌, Result, Ok, Err, is_err, IfOk, List, [], ◌∷◌, ◌++◌, Option, Some, None, ◌<◌, ◌≤◌, ◌+◌, ◌-◌, ◌*◌, ◌^◌, length, take, drop, reverse, map, get_or}
use Rattle.std.proofs.Common.{refl, sym, ◌∙◌, ap, subst, drop_of_length-le, append-nil, true≢false, arith}
use Rattle.std.proofs.lemmas.List.{nil_from_length, reverse-append, map-append, length-map, take_more, drop_more, length-reverse}
use Rattle.grammar_tables.specs.declared.symbol.Mark.{Mark}
use Rattle.grammar_tables.specs.declared.symbol.Symbol.{Symbol}
use Rattle.grammar_tables.specs.declared.symbol.Symbol.TheVariants.{Terminal, Nonterminal}
use Rattle.grammar_tables.specs.declared.parsing.Expected.{Expected}
use Rattle.grammar_tables.specs.Grammar.{Grammar, next_kind, is_nonempty, begins, IsGreedy}
use Rattle.grammar_tables.specs.Parses.{Outcome, accept, reject, led_by, ended_with, takes_next, Parses}
use Rattle.grammar_tables.specs.Parses.Parses.{done, shift, miss, refuse, expand}
use Rattle.grammar_tables.specs.LL1.{IsLL1, CanBegin, HasHead}
use Rattle.grammar_tables.specs.Limits.{is_past}
use Rattle.grammar_tables.specs.Stack.{part_of}
use Rattle.grammar_tables.specs.Answers.{goal_of, symbols_of}
use Rattle.grammar_tables.proofs.Soundness.{some_inj}
use Rattle.grammar_tables.proofs.Limits.{entry, symbols_parts}
use Rattle.grammar_tables.proofs.Fronts.{Follows, follows_start, follows_shift, follows_expand}

-- a bound on the expansions before a token is shifted
abbrev pub weight : Grammar → (ℕ → ℕ) → List Symbol → Option ℕ → ℕ
weight G d [] k = 0
weight G d (Terminal j ∷ ss) k = 1
weight G d (Nonterminal n ∷ ss) k = if begins G n k then 2 + d n else 1 + weight G d ss k

pub weight_bound : (G : Grammar) (d : ℕ → ℕ) → ((n : ℕ) → d n ≤ 255) → (ss : List Symbol) (k : Option ℕ) → weight G d ss k ≤ length ss + 257
weight_bound G d f [] k = omega arith
weight_bound G d f (Terminal j ∷ ss) k = omega arith
weight_bound G d f (Nonterminal n ∷ ss) k = by (begins G n k)
    (f n) (weight_bound G d f ss k)
  where
    by : (b : Bool) → d n ≤ 255 → weight G d ss k ≤ length ss + 257 → (if b then 2 + d n else 1 + weight G d ss k) ≤ suc (length ss) + 257
    by true g h = omega (arith, g)
    by false g h = omega (arith, h)

pub falls : (G : Grammar) (d : ℕ → ℕ) → IsLL1 G d → (n r : ℕ) (ss : List Symbol) (k : Option ℕ) → G.predict n k ≡ Some r →
    weight G d (G.body n r ++ ss) k < weight G d (Nonterminal n ∷ ss) k
unfolding IsGreedy CanBegin HasHead
falls G d s n r ss k e = by (G.body n r) refl (s.greedy n r k e) (s.starts n r k e) (s.heads n r (s.own n r k e))
  where
    by : (ps : List Symbol) → G.body n r ≡ ps → IsGreedy G n ps k → CanBegin G ps k → HasHead G d n ps → weight G d (ps ++ ss) k < weight G d (Nonterminal n ∷ ss) k
    by [] i g c h = rw g (omega arith)
    by (Terminal j ∷ ps) i g c h = (let b : begins G n k ≡ true = rw (e, i) refl in rw b (omega arith))
    by (Nonterminal m ∷ ps) i g c h = (let b : begins G n k ≡ true = rw (e, i) refl in let l = h.1 in rw (b, c) (omega (arith, l)))

abbrev pub all_behind : List ℕ → Outcome → Outcome
all_behind [] o = o
all_behind (r ∷ rs) o = led_by r (all_behind rs o)

pub all_behind-append : (rs : List ℕ) (r : ℕ) (o : Outcome) → all_behind (rs ++ r ∷ []) o ≡ all_behind rs (led_by r o)
all_behind-append [] r o = refl
all_behind-append (q ∷ rs) r o = ap (led_by q) (all_behind-append rs r o)

pub all_behind-accept : (rs qs ended ys : List ℕ) → all_behind rs (accept qs ended ys) ≡ accept (rs ++ qs) ended ys
all_behind-accept [] qs ended ys = refl
all_behind-accept (r ∷ rs) qs ended ys = ap (led_by r) (all_behind-accept rs qs ended ys)

pub all_behind-reject : (rs ended : List ℕ) (ss : List Symbol) (ys : List ℕ) → all_behind rs (reject ended ss ys) ≡ reject ended ss ys
all_behind-reject [] ended ss ys = refl
all_behind-reject (r ∷ rs) ended ss ys = ap (led_by r) (all_behind-reject rs ended ss ys)

-- the parse of the goal goes on as that of what is still expected
pub record Along (G : Grammar) (goal : List Symbol) (xs rs ended : List ℕ) (ss : List Symbol) (ys : List ℕ) : Type 0 where
  pub on : (o : Outcome) → Parses G ended ss ys o → Parses G [] goal xs (all_behind rs o)

along_start : (G : Grammar) (goal : List Symbol) (xs : List ℕ) → Along G goal xs [] [] goal xs
along_start G goal xs = record { on = λ o q. q }

module _ (G : Grammar) (goal : List Symbol) (xs rs ended : List ℕ) where
  along_shift : (k x : ℕ) (ss : List Symbol) (ys : List ℕ) → G.matches k x ≡ true → Along G goal xs rs ended (Terminal k ∷ ss) (x ∷ ys) → Along G goal xs rs [] ss ys
  along_shift k x ss ys e a = record { on = λ o q. a.on o (shift e q) }

  along_expand : (n r : ℕ) (ss : List Symbol) (ys : List ℕ) → G.predict n (next_kind ys) ≡ Some r → Along G goal xs rs ended (Nonterminal n ∷ ss) ys →
      Along G goal xs (rs ++ r ∷ []) (ended_with n (G.body n r) ended) (G.body n r ++ ss) ys
  along_expand n r ss ys e a = record { on = λ o q. rw (all_behind-append rs r o) (a.on (led_by r o) (expand r e q)) }

  along_end : (ys : List ℕ) → Along G goal xs rs ended [] ys → Parses G [] goal xs (accept rs ended ys)
  along_end ys a = rw (all_behind-accept rs [] ended ys, append-nil rs) at (a.on (accept [] ended ys) done)

  along_miss : (k : ℕ) (ss : List Symbol) (ys : List ℕ) → (takes_next G k ys → ⊥) → Along G goal xs rs ended (Terminal k ∷ ss) ys → Parses G [] goal xs (reject ended (Terminal k ∷ ss) ys)
  along_miss k ss ys e a = rw (← all_behind-reject rs ended (Terminal k ∷ ss) ys) (a.on (reject ended (Terminal k ∷ ss) ys) (miss e))

  along_refuse : (n : ℕ) (ss : List Symbol) (ys : List ℕ) → G.predict n (next_kind ys) ≡ None → Along G goal xs rs ended (Nonterminal n ∷ ss) ys → Parses G [] goal xs (reject ended (Nonterminal n ∷ ss) ys)
  along_refuse n ss ys e a = rw (← all_behind-reject rs ended (Nonterminal n ∷ ss) ys) (a.on (reject ended (Nonterminal n ∷ ss) ys) (refuse e))

map-reverse : {A B : Type 0} (f : A → B) (xs : List A) → map f (reverse xs) ≡ reverse (map f xs)
map-reverse f [] = refl
map-reverse f (x ∷ xs) = ap (map f) (reverse-append (x ∷ []) xs) ∙ map-append f (reverse xs) (x ∷ []) ∙ ap (λ (ys : List _). ys ++ f x ∷ []) (map-reverse f xs) ∙ sym (reverse-append (f x ∷ []) (map f xs))

nonempty-append : (ps : List Symbol) (s : Symbol) → is_nonempty (ps ++ s ∷ []) ≡ true
nonempty-append [] s = refl
nonempty-append (p ∷ ps) s = refl

pub nonempty-reverse : (ps : List Symbol) → is_nonempty (reverse ps) ≡ is_nonempty ps
nonempty-reverse [] = refl
nonempty-reverse (p ∷ ps) = ap is_nonempty (reverse-append (p ∷ []) ps) ∙ nonempty-append (reverse ps) p

module _ (G : Grammar) (marks : ℕ → Mark) (goal levels : ℕ) (depth : ℕ → ℕ) where
  -- what holds at each turn of the loop, where the next entry of the stack is the last of the items
  pub record State (kinds rs ended : List ℕ) (items : List Expected) (at : ℕ) : Type 0 where
    pub inside : at ≤ length kinds
    pub along : Along G (goal_of goal) kinds rs (reverse ended) (symbols_of (reverse items)) (drop at kinds)
    pub follows : (s : IsLL1 G depth) → Follows G marks goal levels depth s (take at kinds) (drop at kinds) rs (reverse items)

  pub state_start : (kinds : List ℕ) → State kinds [] [] (entry (Nonterminal goal) levels 0 ∷ []) 0
  state_start kinds = record { inside = omega arith; along = along_start G (goal_of goal) kinds; follows = λ s. follows_start G marks goal levels depth s kinds }

  pub step_end : (kinds rs ended : List ℕ) (at : ℕ) → State kinds rs ended [] at → Parses G [] (goal_of goal) kinds (accept rs (reverse ended) (drop at kinds))
  step_end kinds rs ended at S = along_end G (goal_of goal) kinds rs (reverse ended) (drop at kinds) S.along

  pub symbols_top : (new : List Expected) (e : Expected) → reverse (symbols_of (new ++ e ∷ [])) ≡ e.symbol ∷ symbols_of (reverse new)
  symbols_top new e = sym (map-reverse (λ (u : Expected). u.symbol) (new ++ e ∷ [])) ∙ ap symbols_of (reverse-append new (e ∷ []))

  module _ (kinds rs ended : List ℕ) (old new : List Expected) (e : Expected) (at : ℕ) (popped : old ≡ new ++ e ∷ []) (S : State kinds rs ended old at) where
    top : (t : Symbol) → e.symbol ≡ t → reverse old ≡ entry t e.levels e.operators ∷ reverse new
    top t f = ap reverse popped ∙ reverse-append new (e ∷ []) ∙ ap (λ (u : Symbol). entry u e.levels e.operators ∷ reverse new) f

    along_at : (t : Symbol) → e.symbol ≡ t → Along G (goal_of goal) kinds rs (reverse ended) (t ∷ symbols_of (reverse new)) (drop at kinds)
    along_at t f = subst (λ (es : List Expected). Along G (goal_of goal) kinds rs (reverse ended) (symbols_of es) (drop at kinds)) (top t f) S.along

    pub follows_at : (s : IsLL1 G depth) (t : Symbol) → e.symbol ≡ t → Follows G marks goal levels depth s (take at kinds) (drop at kinds) rs (entry t e.levels e.operators ∷ reverse new)
    follows_at s t f = subst (λ (es : List Expected). Follows G marks goal levels depth s (take at kinds) (drop at kinds) rs es) (top t f) (S.follows s)

    pub step_shift : (k : ℕ) → e.symbol ≡ Terminal k → (l : at < length kinds) → G.matches k (get_or kinds at 0) ≡ true → State kinds rs [] new (at + 1)
    step_shift k f l m = record {
      inside = omega (arith, l);
      along = along_shift G (goal_of goal) kinds rs (reverse ended) k (get_or kinds at 0) (symbols_of (reverse new)) (drop (at + 1) kinds) m
          (subst (λ (ys : List ℕ). Along G (goal_of goal) kinds rs (reverse ended) (Terminal k ∷ symbols_of (reverse new)) ys) (drop_more kinds at 0 l) (along_at (Terminal k) f));
      follows = λ s. subst (λ (ps : List ℕ). Follows G marks goal levels depth s ps (drop (at + 1) kinds) rs (reverse new)) (sym (take_more kinds at 0 l))
          (follows_shift G marks goal levels depth s k (get_or kinds at 0) e.levels e.operators (take at kinds) (drop (at + 1) kinds) rs (reverse new) m
          (subst (λ (ys : List ℕ). Follows G marks goal levels depth s (take at kinds) ys rs (entry (Terminal k) e.levels e.operators ∷ reverse new)) (drop_more kinds at 0 l) (follows_at s (Terminal k) f)));
    }

    pub less_shift : ((n : ℕ) → depth n ≤ 255) → at < length kinds → length new < 2 ^ 63 → (k : Option ℕ) (w : ℕ) →
        (length kinds - (at + 1)) * 2 ^ 65 + weight G depth (symbols_of (reverse new)) k < (length kinds - at) * 2 ^ 65 + w
    less_shift f l h k w =
        let size : length (symbols_of (reverse new)) ≡ length new = length-map (reverse new) (λ (u : Expected). u.symbol) ∙ length-reverse new in
        let b : weight G depth (symbols_of (reverse new)) k ≤ length (symbols_of (reverse new)) + 257 = weight_bound G depth f (symbols_of (reverse new)) k in
        omega (arith, b, size)

    pub step_miss : (k : ℕ) → e.symbol ≡ Terminal k → (takes_next G k (drop at kinds) → ⊥) → Parses G [] (goal_of goal) kinds (reject (reverse ended) (e.symbol ∷ symbols_of (reverse new)) (drop at kinds))
    step_miss k f m = rw f (along_miss G (goal_of goal) kinds rs (reverse ended) k (symbols_of (reverse new)) (drop at kinds) m (along_at (Terminal k) f))

    module _ (n : ℕ) (nonterminal : e.symbol ≡ Nonterminal n) where
      pub step_refuse : G.predict n (next_kind (drop at kinds)) ≡ None → Parses G [] (goal_of goal) kinds (reject (reverse ended) (e.symbol ∷ symbols_of (reverse new)) (drop at kinds))
      step_refuse f = rw nonterminal (along_refuse G (goal_of goal) kinds rs (reverse ended) n (symbols_of (reverse new)) (drop at kinds) f (along_at (Nonterminal n) nonterminal))

      module _ (r : ℕ) (parts : List Symbol) (predicted : G.predict n (next_kind (drop at kinds)) ≡ Some r) (stored : reverse parts ≡ G.body n r) where
        pub past_body : (b : Bool) → is_past (marks n) (is_nonempty parts) e.levels e.operators ≡ b → is_past (marks n) (is_nonempty (G.body n r)) e.levels e.operators ≡ b
        past_body b f = rw (← stored, nonempty-reverse parts) f

        module _ (after : List Expected) (pushed : after ≡ new ++ map (part_of (marks n) n e.levels e.operators) parts) where
          after_is : reverse after ≡ map (part_of (marks n) n e.levels e.operators) (G.body n r) ++ reverse new
          after_is = ap reverse pushed ∙ reverse-append new (map (part_of (marks n) n e.levels e.operators) parts) ∙
              ap (λ (us : List Expected). us ++ reverse new) (sym (map-reverse (part_of (marks n) n e.levels e.operators) parts) ∙ ap (map (part_of (marks n) n e.levels e.operators)) stored)

          symbols_after : symbols_of (reverse after) ≡ G.body n r ++ symbols_of (reverse new)
          symbols_after = ap symbols_of after_is ∙ symbols_parts G (marks n) n e.levels e.operators (G.body n r) (reverse new)

          pub step_expand : (closed : List ℕ) → is_past (marks n) (is_nonempty parts) e.levels e.operators ≡ false → reverse closed ≡ ended_with n (reverse parts) (reverse ended) → State kinds (rs ++ r ∷ []) closed after at
          step_expand closed f c = record {
            inside = S.inside;
            along = rw (symbols_after, c, stored) (along_expand G (goal_of goal) kinds rs (reverse ended) n r (symbols_of (reverse new)) (drop at kinds) predicted (along_at (Nonterminal n) nonterminal));
            follows = λ s. rw after_is (follows_expand G marks goal levels depth s n r e.levels e.operators (take at kinds) (drop at kinds) rs (reverse new) predicted (past_body false f) (follows_at s (Nonterminal n) nonterminal));
          }

          pub less_expand : IsLL1 G depth → weight G depth (symbols_of (reverse after)) (next_kind (drop at kinds)) < weight G depth (symbols_of (reverse old)) (next_kind (drop at kinds))
          less_expand s = rw (symbols_after, top (Nonterminal n) nonterminal) (falls G depth s n r (symbols_of (reverse new)) (next_kind (drop at kinds)) predicted)

-- the next token is not one that the terminal stands for
pub not_matched : (G : Grammar) (k : ℕ) (kinds : List ℕ) (at : ℕ) → at < length kinds → G.matches k (get_or kinds at 0) ≡ false → takes_next G k (drop at kinds) → ⊥
not_matched G k kinds at l f t =
    let same : get_or kinds at 0 ≡ t.0 = some_inj (sym (ap next_kind (drop_more kinds at 0 l)) ∙ t.1) in
    true≢false (sym t.2 ∙ subst (λ (x : ℕ). G.matches k x ≡ false) same f)

-- or there is none
pub none_left : (G : Grammar) (k : ℕ) (kinds : List ℕ) (at : ℕ) → length kinds ≤ at → takes_next G k (drop at kinds) → ⊥
none_left G k kinds at l t = (let f : None ≡ Some t.0 = sym (ap next_kind (drop_of_length-le kinds l)) ∙ t.1 in cc)

-- what a call ensures that did not fail
pub where_ok : {A E : Type 0} (r : Result A E) (b : Bool) (P : Type 0) → b ≡ is_err r → b ≡ false → IfOk r (λ _. P) → P
where_ok (Ok x) b P e f h = h
where_ok (Err x) b P e f h = absurd (true≢false (sym e ∙ f))

some_length : (n : ℕ) → (suc n == 0) ≡ false
some_length n = grind arith

-- the test for a limit, as the code calls it
pub past_test : (m own : Mark) (empty r v : Bool) (parts : List Symbol) (deep before : ℕ) → m ≡ own → empty ≡ (length parts == 0) → r ≡ is_past m (not empty) deep before → r ≡ v → is_past own (is_nonempty parts) deep before ≡ v
past_test m own empty r v [] deep before e f g h = rw e at (rw f at (sym g)) ∙ h
past_test m own empty r v (p ∷ ps) deep before e f g h = (let i : empty ≡ false = f ∙ some_length (length ps) in rw e at (rw i at (sym g)) ∙ h)

-- an empty stack
pub nothing_left : (old new : List Expected) (len : ℕ) → old ≡ new ++ [] → len ≡ 0 → len ≡ length new → old ≡ []
nothing_left old new len e f g = e ∙ append-nil new ∙ nil_from_length new (sym g ∙ f)
