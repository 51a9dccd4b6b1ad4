-- Each stop is at the first token that cannot continue.
use Rattle.std.specs.Prelude.{◌≡◌, ℕ, true, false, suc, zero, List, [], ◌∷◌, ◌++◌, Option, Some, None, ◌<◌}
use Rattle.std.proofs.Common.{refl, sym, ◌∙◌, ap, subst, append_assoc, arith}
use Rattle.grammar_tables.specs.declared.symbol.Symbol.{Symbol}
use Rattle.grammar_tables.specs.declared.symbol.Symbol.TheVariants.{Terminal, Nonterminal}
use Rattle.grammar_tables.specs.Grammar.{Grammar, next_kind, IsGreedy, Derives}
use Rattle.grammar_tables.specs.Grammar.Derives.{done, shift, expand}
use Rattle.grammar_tables.specs.Parses.{Outcome, accept, reject, led_by, takes_next, Parses, IsRefusal}
use Rattle.grammar_tables.specs.Parses.Parses.{done as r_done, shift as r_shift, miss, refuse, expand as r_expand}
use Rattle.grammar_tables.specs.LL1.{IsLL1, Plan, short_text, IsNotTaken, HasPlan, Fits, AreLower, IsPlanned}
use Rattle.grammar_tables.proofs.Soundness.{same_next, tail_derived, chooses, by_alternative}

module _ (G : Grammar) (depth : ℕ → ℕ) (s : IsLL1 G depth) (p : Plan) (h : IsPlanned G p) where
  -- what stands next is not taken by `n`
  unfoldable pub IsClear : ℕ → Option ℕ → Type 0
  IsClear n None = Unit {0}
  IsClear n (Some k) = p.takes n k ≡ false

  -- each terminal has a kind; each nonterminal has a plan, and takes nothing of what follows it
  unfoldable pub AreSafe : List Symbol → Type 0
  AreSafe [] = Unit {0}
  AreSafe (Terminal k ∷ ss) = (G.matches k (p.sample k) ≡ true) × AreSafe ss
  AreSafe (Nonterminal n ∷ ss) = HasPlan G p n × IsClear n (next_kind (short_text p ss)) × AreSafe ss

  clear_behind : (m n : ℕ) (ts zs : List ℕ) → IsNotTaken p m ts n → IsClear n (next_kind zs) → IsClear m (next_kind (ts ++ zs))
  unfolding IsNotTaken IsClear
  clear_behind m n [] [] f g = tt
  clear_behind m n [] (z ∷ zs) f g = f z g
  clear_behind m n (t ∷ ts) zs f g = f

  short_append : (ps ss : List Symbol) → short_text p (ps ++ ss) ≡ short_text p ps ++ short_text p ss
  short_append [] ss = refl
  short_append (Terminal k ∷ ps) ss = ap (λ (ts : List ℕ). p.sample k ∷ ts) (short_append ps ss)
  short_append (Nonterminal m ∷ ps) ss = ap (λ (ts : List ℕ). p.short m ++ ts) (short_append ps ss) ∙ sym (append_assoc (p.short m) (short_text p ps) (short_text p ss))

  -- an alternative in the place of its nonterminal
  safe_parts : (n : ℕ) (ps ss : List Symbol) → Fits G p ps n → IsClear n (next_kind (short_text p ss)) → AreSafe ss → AreSafe (ps ++ ss)
  unfolding AreSafe Fits
  safe_parts n [] ss f g q = q
  safe_parts n (Terminal k ∷ ps) ss f g q = (f.0, safe_parts n ps ss f.1 g q)
  safe_parts n (Nonterminal m ∷ ps) ss f g q = (
    f.0,
    rw (short_append ps ss) (clear_behind m n (short_text p ps) (short_text p ss) f.1 g),
    safe_parts n ps ss f.2 g q,
  )

  Filled : ℕ → Type 0
  Filled n = (ss : List Symbol) (zs rs : List ℕ) → IsClear n (next_kind zs) → Derives G ss zs rs → (qs : List ℕ) × Derives G (Nonterminal n ∷ ss) (p.short n ++ zs) qs

  fill_parts : (b n : ℕ) → ((m : ℕ) → HasPlan G p m → p.rank m < b → Filled m) → (ps ss : List Symbol) → Fits G p ps n → AreLower p ps b →
      (zs rs : List ℕ) → IsClear n (next_kind zs) → Derives G ss zs rs → (qs : List ℕ) × Derives G (ps ++ ss) (short_text p ps ++ zs) qs
  unfolding Fits AreLower Filled
  fill_parts b n f [] ss g l zs rs k q = (rs, q)
  fill_parts b n f (Terminal j ∷ ps) ss g l zs rs k q = let z = fill_parts b n f ps ss g.1 l zs rs k q in (z.0, shift g.0 z.1)
  fill_parts b n f (Nonterminal m ∷ ps) ss g l zs rs k q =
      let z = fill_parts b n f ps ss g.2 l.1 zs rs k q in
      let y = f m g.0 l.0 (ps ++ ss) (short_text p ps ++ zs) z.0 (clear_behind m n (short_text p ps) zs g.1 k) z.1 in
      (y.0, rw (append_assoc (p.short m) (short_text p ps) zs) y.1)

  greedy_there : (n : ℕ) (ps : List Symbol) (zs : List ℕ) → HasPlan G p n → G.body n (p.alternative n) ≡ ps → IsClear n (next_kind zs) → IsGreedy G n ps (next_kind (short_text p ps ++ zs))
  unfolding IsGreedy IsClear
  greedy_there n [] [] i e k = s.at_end n
  greedy_there n [] (z ∷ zs) i e k = h.ended n z i e k
  greedy_there n (q ∷ ps) zs i e k = tt

  fill : (b n : ℕ) → HasPlan G p n → p.rank n < b → Filled n
  unfolding Filled
  fill zero n i l ss zs rs k q = absurd (omega arith)
  fill (suc b) n i l ss zs rs k q =
      let z = fill_parts (p.rank n) n (λ m j l₂. fill b m j (omega arith)) (G.body n (p.alternative n)) ss (h.fitted n (p.alternative n) i) (h.falls n i) zs rs k q in
      (p.alternative n ∷ z.0, rw (h.shortly n i) (expand (p.alternative n) i (greedy_there n (G.body n (p.alternative n)) zs i refl k) z.1))

  filled : (n : ℕ) → HasPlan G p n → Filled n
  filled n i = fill (suc (p.rank n)) n i (omega arith)

  -- what is expected can always be derived
  pub completed : (ss : List Symbol) → AreSafe ss → (rs : List ℕ) × Derives G ss (short_text p ss) rs
  unfolding AreSafe Filled
  completed [] f = ([], done)
  completed (Terminal k ∷ ss) f = let z = completed ss f.1 in (z.0, shift f.0 z.1)
  completed (Nonterminal n ∷ ss) f = let z = completed ss f.2 in filled n f.0 ss (short_text p ss) z.0 f.1 z.1

  -- the tokens before a stop begin a text that is derived
  pub record IsViable (ss : List Symbol) (xs ys : List ℕ) : Type 0 where
    pub prefix : List ℕ
    pub split : xs ≡ prefix ++ ys
    pub zs : List ℕ
    pub rs : List ℕ
    pub on : Derives G ss (prefix ++ zs) rs
    pub stuck : (us ts : List ℕ) → next_kind us ≡ next_kind ys → Derives G ss (prefix ++ us) ts → ⊥

  at_once : (ss : List Symbol) (xs : List ℕ) → AreSafe ss → ((us ts : List ℕ) → next_kind us ≡ next_kind xs → Derives G ss us ts → ⊥) → IsViable ss xs xs
  at_once ss xs f g = let z = completed ss f in record { prefix = []; split = refl; zs = short_text p ss; rs = z.0; on = z.1; stuck = g }

  no_token : {k : ℕ} {ss : List Symbol} {us ts : List ℕ} (xs : List ℕ) → (takes_next G k xs → ⊥) → Derives G (Terminal k ∷ ss) us ts → next_kind us ≡ next_kind xs → ⊥
  no_token xs f (shift {x} e q) g = f (x, sym g, e)

  no_alternative : {n : ℕ} {ss : List Symbol} {us ts : List ℕ} (ks : Option ℕ) → G.predict n ks ≡ None → Derives G (Nonterminal n ∷ ss) us ts → next_kind us ≡ ks → ⊥
  no_alternative {n} ks f (expand {ss = ss} r e g q) i = (let j : None ≡ Some r = sym f ∙ sym (ap (G.predict n) i) ∙ chooses G depth s ss e g q in cc)

  unfolding_alternative : (n r : ℕ) (ss : List Symbol) (xs ys : List ℕ) → AreSafe (Nonterminal n ∷ ss) → G.predict n (next_kind xs) ≡ Some r →
      IsViable (G.body n r ++ ss) xs ys → IsViable (Nonterminal n ∷ ss) xs ys
  unfolding_alternative n r ss xs ys f e V = by V.prefix refl
    where
      stays : (us ts : List ℕ) → next_kind us ≡ next_kind ys → Derives G (Nonterminal n ∷ ss) (V.prefix ++ us) ts → ⊥
      stays us ts i q = let z = by_alternative G depth s r (next_kind xs) e q (same_next V.prefix xs ys us V.split i) in V.stuck us z.0 i z.1

      by : (us : List ℕ) → V.prefix ≡ us → IsViable (Nonterminal n ∷ ss) xs ys
      by [] i = (let j : xs ≡ ys = V.split ∙ ap (λ (us : List ℕ). us ++ ys) i in
          subst (λ (us : List ℕ). IsViable (Nonterminal n ∷ ss) xs us) j
          (at_once (Nonterminal n ∷ ss) xs f (λ us ts k q. stays us ts (k ∙ ap next_kind j) (subst (λ (ws : List ℕ). Derives G (Nonterminal n ∷ ss) (ws ++ us) ts) (sym i) q))))
      by (x ∷ us) i = (let j : next_kind (V.prefix ++ V.zs) ≡ next_kind xs = rw i (sym (ap next_kind (V.split ∙ ap (λ (ws : List ℕ). ws ++ ys) i))) in
          record {
            prefix = V.prefix;
            split = V.split;
            zs = V.zs;
            rs = r ∷ V.rs;
            on = expand r (s.own n r (next_kind xs) e) (subst (λ (k : Option ℕ). IsGreedy G n (G.body n r) k) (sym j) (s.greedy n r (next_kind xs) e)) V.on;
            stuck = stays;
          })

  pub safe_alternative : (n r : ℕ) (ss : List Symbol) (xs : List ℕ) → AreSafe (Nonterminal n ∷ ss) → G.predict n (next_kind xs) ≡ Some r → AreSafe (G.body n r ++ ss)
  unfolding AreSafe
  safe_alternative n r ss xs f e = safe_parts n (G.body n r) ss (h.fitted n r (s.own n r (next_kind xs) e)) f.1 f.2

  pub safe_behind : (k : ℕ) (ss : List Symbol) → AreSafe (Terminal k ∷ ss) → AreSafe ss
  unfolding AreSafe
  safe_behind k ss f = f.1

  -- the stop of an outcome
  abbrev StopOf : List Symbol → List ℕ → Outcome → Type 0
  StopOf ss xs (accept rs ended ys) = Unit {0}
  StopOf ss xs (reject ended ts ys) = IsViable ss xs ys

  shifted_stop : (k x : ℕ) (ss : List Symbol) (xs : List ℕ) (o : Outcome) → G.matches k x ≡ true → StopOf ss xs o → StopOf (Terminal k ∷ ss) (x ∷ xs) o
  shifted_stop k x ss xs (accept rs ended ys) g V = tt
  shifted_stop k x ss xs (reject ended ts ys) g V = record {
    prefix = x ∷ V.prefix;
    split = ap (λ (us : List ℕ). x ∷ us) V.split;
    zs = V.zs;
    rs = V.rs;
    on = shift g V.on;
    stuck = λ us rs i y. V.stuck us rs i (tail_derived G y);
  }

  led_stop : (n r : ℕ) (ss : List Symbol) (xs : List ℕ) (o : Outcome) → AreSafe (Nonterminal n ∷ ss) → G.predict n (next_kind xs) ≡ Some r → StopOf (G.body n r ++ ss) xs o →
      StopOf (Nonterminal n ∷ ss) xs (led_by r o)
  led_stop n r ss xs (accept rs ended ys) f g V = tt
  led_stop n r ss xs (reject ended ts ys) f g V = unfolding_alternative n r ss xs ys f g V

  stop_of : {es : List ℕ} {ss : List Symbol} {xs : List ℕ} {o : Outcome} → Parses G es ss xs o → AreSafe ss → StopOf ss xs o
  stop_of r_done f = tt
  stop_of (miss {k} {ss = ss} {xs = xs} g) f = at_once (Terminal k ∷ ss) xs f (λ us rs i q. no_token xs g q i)
  stop_of (refuse {n} {ss = ss} {xs = xs} g) f = at_once (Nonterminal n ∷ ss) xs f (λ us rs i q. no_alternative (next_kind xs) g q i)
  stop_of (r_shift {k} {x} {ss = ss} {xs = xs} {o = o} g q) f = shifted_stop k x ss xs o g (stop_of q (safe_behind k ss f))
  stop_of (r_expand {n} {ss = ss} {xs = xs} {o = o} r g q) f = led_stop n r ss xs o f g (stop_of q (safe_alternative n r ss xs f g))

  pub refused : (n : ℕ) → HasPlan G p n → (xs ended ys : List ℕ) (ts : List Symbol) → Parses G [] (Nonterminal n ∷ []) xs (reject ended ts ys) → IsRefusal G (Nonterminal n ∷ []) xs ys
  unfolding AreSafe IsClear
  refused n i xs ended ys ts q = let V = stop_of q (i, tt, tt) in
      record { prefix = V.prefix; split = V.split; viable = (V.zs, V.rs, V.on); stuck = V.stuck }
