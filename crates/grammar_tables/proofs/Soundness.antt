-- What is derived is accepted, and a front that is accepted is derived, and is the longest.
use Rattle.std.specs.Prelude.{◌≡◌, ℕ, true, List, [], ◌∷◌, ◌++◌, Option, Some, None}
use Rattle.std.proofs.Common.{refl, sym, ◌∙◌, ap, subst}
use Rattle.grammar_tables.specs.declared.symbol.Symbol.{Symbol}
use Rattle.grammar_tables.specs.declared.symbol.Symbol.TheVariants.{Terminal, Nonterminal}
use Rattle.grammar_tables.specs.Grammar.{Grammar, next_kind, begins, IsGreedy, Derives}
use Rattle.grammar_tables.specs.Grammar.Derives.{done, shift, expand}
use Rattle.grammar_tables.specs.Parses.{Outcome, accept, reject, led_by, ended_with, Parses, IsFront}
use Rattle.grammar_tables.specs.Parses.Parses.{done as r_done, shift as r_shift, miss, refuse, expand as r_expand}
use Rattle.grammar_tables.specs.LL1.{IsLL1, CanBegin, HasNoEmpty, HasHead}

pub some_inj : {a b : ℕ} → Some a ≡ Some b → a ≡ b
some_inj e = cc

derivation_of : Outcome → List ℕ
derivation_of (accept rs ended ys) = rs
derivation_of (reject ended ss ys) = []

pub accept_inj : {rs es ys qs fs zs : List ℕ} → accept rs es ys ≡ accept qs fs zs → rs ≡ qs
unfolding derivation_of
accept_inj e = ap derivation_of e

-- the next token is that of the text, or none is shifted
pub same_next : (prefix xs ys us : List ℕ) → xs ≡ prefix ++ ys → next_kind us ≡ next_kind ys → next_kind (prefix ++ us) ≡ next_kind xs
same_next [] xs ys us e f = f ∙ ap next_kind (sym e)
same_next (x ∷ prefix) xs ys us e f = ap next_kind (sym e)

alternative_same : (G : Grammar) (n r q : ℕ) (k j : Option ℕ) → G.predict n k ≡ Some r → k ≡ j → G.predict n j ≡ Some q → r ≡ q
alternative_same G n r q k j e f g = some_inj (sym e ∙ ap (G.predict n) f ∙ g)

module _ (G : Grammar) where
  nothing_derived : {us ts : List ℕ} (x : ℕ) → Derives G [] us ts → next_kind us ≡ Some x → ⊥
  nothing_derived x done e = cc

  pub tail_derived : {k x : ℕ} {ss : List Symbol} {us ts : List ℕ} → Derives G (Terminal k ∷ ss) (x ∷ us) ts → Derives G ss us ts
  tail_derived (shift e q) = q

module _ (G : Grammar) (depth : ℕ → ℕ) (s : IsLL1 G depth) where
  -- the first symbol has no empty alternative
  pub Nonnullable : List Symbol → Type 0
  Nonnullable [] = Unit {0}
  Nonnullable (Terminal k ∷ ss) = Unit {0}
  Nonnullable (Nonterminal m ∷ ss) = HasNoEmpty G m

  nonnullable_head : (n : ℕ) (ps : List Symbol) → HasHead G depth n ps → Nonnullable ps
  unfolding HasHead Nonnullable
  nonnullable_head n [] h = tt
  nonnullable_head n (Terminal k ∷ ss) h = tt
  nonnullable_head n (Nonterminal m ∷ ss) h = h.0

  beginning_with : (m r : ℕ) (k : Option ℕ) (p : Symbol) (ps : List Symbol) → G.body m r ≡ p ∷ ps → G.predict m k ≡ Some r → begins G m k ≡ true
  beginning_with m r k p ps e f = rw (f, e) refl

  predicted : (n r : ℕ) (k : Option ℕ) (p : Symbol) (ps : List Symbol) → G.has n r ≡ true → G.body n r ≡ p ∷ ps → CanBegin G (p ∷ ps) k → G.predict n k ≡ Some r
  unfolding IsGreedy
  predicted n r k p ps e f c = s.found n r k e (rw f tt) (rw f c)

  -- what the symbols derive begins as they can begin
  begun : {ts : List Symbol} {xs rs : List ℕ} → Derives G ts xs rs → (ps us : List Symbol) → ts ≡ ps ++ us → Nonnullable ps → CanBegin G ps (next_kind xs)
  unfolding CanBegin Nonnullable
  begun q [] us e h = tt
  begun done (p ∷ ps) us e h = absurd cc
  begun (shift {k} {x} f q) (Terminal j ∷ ps) us e h = (let g : k ≡ j = cc in subst (λ (v : ℕ). G.matches v x ≡ true) g f)
  begun (shift f q) (Nonterminal m ∷ ps) us e h = absurd cc
  begun (expand r e₂ g q) (Terminal j ∷ ps) us e h = absurd cc
  begun (expand {n} {ss} {xs} r e₂ g q) (Nonterminal m ∷ ps) us e h =
      subst (λ (v : ℕ). begins G v (next_kind xs) ≡ true) same (by (begun q (G.body n r) ss refl (nonnullable_head n (G.body n r) (s.heads n r e₂))) (G.body n r) refl)
    where
      same : n ≡ m
      same = cc

      by : CanBegin G (G.body n r) (next_kind xs) → (qs : List Symbol) → G.body n r ≡ qs → begins G n (next_kind xs) ≡ true
      by f [] i = absurd (subst (λ (v : ℕ). HasNoEmpty G v) (sym same) h r e₂ i)
      by f (p ∷ qs) i = beginning_with n r (next_kind xs) p qs i (predicted n r (next_kind xs) p qs e₂ i (subst (λ (ts : List Symbol). CanBegin G ts (next_kind xs)) i f))

  pub chooses : {n r : ℕ} {xs rs : List ℕ} (ss : List Symbol) → G.has n r ≡ true → IsGreedy G n (G.body n r) (next_kind xs) → Derives G (G.body n r ++ ss) xs rs →
      G.predict n (next_kind xs) ≡ Some r
  chooses {n} {r} {xs} ss e g q = s.found n r (next_kind xs) e g (begun q (G.body n r) ss refl (nonnullable_head n (G.body n r) (s.heads n r e)))

  pub complete : {ss : List Symbol} {xs rs : List ℕ} → Derives G ss xs rs → (es : List ℕ) → (ended : List ℕ) × Parses G es ss xs (accept rs ended [])
  complete done es = (es, r_done)
  complete (shift f q) es = let z = complete q [] in (z.0, r_shift f z.1)
  complete (expand {n} {ss} r e g q) es = let z = complete q (ended_with n (G.body n r) es) in (z.0, r_expand r (chooses ss e g q) z.1)

  -- what is derived with the same next token goes by the same alternative
  pub by_alternative : {n : ℕ} {ss : List Symbol} {us ts : List ℕ} (r : ℕ) (ks : Option ℕ) → G.predict n ks ≡ Some r → Derives G (Nonterminal n ∷ ss) us ts → next_kind us ≡ ks →
      (qs : List ℕ) × Derives G (G.body n r ++ ss) us qs
  by_alternative {n} {ss} {us} r ks f (expand {ss = ss₂} {rs = rs} q e g y) i =
      let same : q ≡ r = sym (alternative_same G n r q ks (next_kind us) f (sym i) (chooses ss₂ e g y)) in
      (rs, subst (λ (v : ℕ). Derives G (G.body n v ++ ss) us rs) same y)

  -- an empty alternative that stands before the tokens behind a front stands at the end of the front
  greedy_before : (n r : ℕ) (front ys : List ℕ) → G.predict n (next_kind (front ++ ys)) ≡ Some r → IsGreedy G n (G.body n r) (next_kind front)
  unfolding IsGreedy
  greedy_before n r [] ys e = by (G.body n r)
    where
      by : (ps : List Symbol) → IsGreedy G n ps None
      by [] = s.at_end n
      by (p ∷ ps) = tt
  greedy_before n r (x ∷ front) ys e = s.greedy n r (Some x) e

  -- the front of an outcome
  abbrev FrontOf : List Symbol → List ℕ → Outcome → Type 0
  FrontOf ss xs (accept rs ended ys) = IsFront G ss xs rs ys
  FrontOf ss xs (reject ended ts ys) = Unit {0}

  led_front : (n r : ℕ) (ss : List Symbol) (xs : List ℕ) (o : Outcome) → G.predict n (next_kind xs) ≡ Some r → FrontOf (G.body n r ++ ss) xs o → FrontOf (Nonterminal n ∷ ss) xs (led_by r o)
  led_front n r ss xs (reject ended ts ys) f F = tt
  led_front n r ss xs (accept rs ended ys) f F = record {
    front = F.front;
    split = F.split;
    derived = expand r (s.own n r (next_kind xs) f) (greedy_before n r F.front ys (subst (λ (us : List ℕ). G.predict n (next_kind us) ≡ Some r) F.split f)) F.derived;
    stuck = λ y zs qs i d. (let z = by_alternative r (next_kind xs) f d (same_next F.front xs ys (y ∷ zs) F.split (sym i)) in F.stuck y zs z.0 i z.1);
  }

  shifted_front : (k x : ℕ) (ss : List Symbol) (xs : List ℕ) (o : Outcome) → G.matches k x ≡ true → FrontOf ss xs o → FrontOf (Terminal k ∷ ss) (x ∷ xs) o
  shifted_front k x ss xs (reject ended ts ys) f F = tt
  shifted_front k x ss xs (accept rs ended ys) f F = record {
    front = x ∷ F.front;
    split = ap (λ (us : List ℕ). x ∷ us) F.split;
    derived = shift f F.derived;
    stuck = λ y zs qs i d. F.stuck y zs qs i (tail_derived G d);
  }

  front_of : {es : List ℕ} {ss : List Symbol} {xs : List ℕ} {o : Outcome} → Parses G es ss xs o → FrontOf ss xs o
  front_of r_done = record { front = []; split = refl; derived = done; stuck = λ y zs qs i d. nothing_derived G y d refl }
  front_of (r_shift {k} {x} {ss = ss} {xs = xs} {o = o} f q) = shifted_front k x ss xs o f (front_of q)
  front_of (miss f) = tt
  front_of (refuse f) = tt
  front_of (r_expand {n} {ss} {xs} {o} r f q) = led_front n r ss xs o f (front_of q)

  pub longest : {es : List ℕ} {ss : List Symbol} {xs rs ended ys : List ℕ} → Parses G es ss xs (accept rs ended ys) → IsFront G ss xs rs ys
  longest q = front_of q

  pub sound : {es : List ℕ} {ss : List Symbol} {xs rs ended ys : List ℕ} → Parses G es ss xs (accept rs ended ys) → (front : List ℕ) × (xs ≡ front ++ ys) × Derives G ss front rs
  sound q = let F = longest q in (F.front, F.split, F.derived)
