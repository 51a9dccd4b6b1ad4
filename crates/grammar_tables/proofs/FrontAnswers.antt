-- What the parser's loop answers.
use Rattle.std.specs.Prelude.{◌≡◌, ℕ, suc, Bool, true, false, List, [], ◌∷◌, ◌++◌, Some, None, ◌<◌, ◌+◌, length, take, drop, reverse, get_or}
use Rattle.std.proofs.Common.{refl, sym, ◌∙◌, ap, subst, append-nil, true≢false, length-drop, add-one, arith}
use Rattle.std.proofs.lemmas.List.{take_more, drop_more, length-take-le}
use Rattle.grammar_tables.specs.declared.symbol.Mark.{Mark}
use Rattle.grammar_tables.specs.declared.symbol.Mark.TheVariants.{Plain, Level, Chain}
use Rattle.grammar_tables.specs.declared.symbol.Symbol.{Symbol}
use Rattle.grammar_tables.specs.declared.symbol.Symbol.TheVariants.{Terminal, Nonterminal}
use Rattle.grammar_tables.specs.declared.parsing.Expected.{Expected}
use Rattle.grammar_tables.specs.declared.parsing.Front.{Front}
use Rattle.grammar_tables.specs.declared.parsing.ParseError.{ParseError}
use Rattle.grammar_tables.specs.declared.parsing.ParseError.TheVariants.{Refused, PastLimit, NoMemory}
use Rattle.grammar_tables.specs.Grammar.{Grammar, next_kind, is_nonempty, Derives}
use Rattle.grammar_tables.specs.Parses.{Outcome, accept, reject, led_by, takes_next, Parses, IsRefusal, IsFront}
use Rattle.grammar_tables.specs.Parses.Parses.{done, shift, miss, refuse, expand}
use Rattle.grammar_tables.specs.LL1.{IsLL1}
use Rattle.grammar_tables.specs.Limits.{is_past, PassesAt, IsPastLimit}
use Rattle.grammar_tables.specs.Stack.{IsRefusedAt}
use Rattle.grammar_tables.specs.Answers.{goal_of, symbols_of, EndsAt, StopsAt, StopsBefore, StopsWith, ByPlan, IsParsed, IsRefused, IsFrontError}
use Rattle.grammar_tables.proofs.Soundness.{longest}
use Rattle.grammar_tables.proofs.ViablePrefix.{refused}
use Rattle.grammar_tables.proofs.Limits.{entry}
use Rattle.grammar_tables.proofs.Fronts.{Follows, some_token, front_derived, front_within, front_keeps, not_at_terminal, not_at_nonterminal, past_viable, past_passed}
use Rattle.grammar_tables.proofs.ParserMoves.{State, step_miss, step_refuse, step_end, symbols_top, follows_at, past_body}

-- The parser stops: what the error means, and the moves up to there.
pub record Stops (G : Grammar) (marks : ℕ → Mark) (goal levels : ℕ) (kinds : List ℕ) (error : ParseError) : Type 0 where
  pub meaning : IsFrontError G marks goal levels kinds error
  pub moves : StopsAt G goal kinds error

-- It has parsed a front: what that is, and the moves.
pub record Ends (G : Grammar) (marks : ℕ → Mark) (goal levels : ℕ) (kinds : List ℕ) (front : Front) : Type 0 where
  pub meaning : IsParsed G marks goal levels kinds front
  pub moves : EndsAt G goal kinds front

module _ (G : Grammar) (marks : ℕ → Mark) (goal levels : ℕ) (depth : ℕ → ℕ) (s : IsLL1 G depth) where
  module _ (kinds rs ended : List ℕ) (old new : List Expected) (e : Expected) (at : ℕ) (popped : old ≡ new ++ e ∷ []) (S : State G marks goal levels depth kinds rs ended old at) where
    stopped : Parses G [] (goal_of goal) kinds (reject (reverse ended) (e.symbol ∷ symbols_of (reverse new)) (drop at kinds)) → ((qs : List ℕ) → Derives G (goal_of goal) (take at kinds) qs → ⊥) →
        (error : ParseError) → IsRefusedAt new ended e at error → Stops G marks goal levels kinds error
    stopped q f NoMemory g = record { meaning = tt; moves = tt }
    stopped q f (PastLimit p) g = absurd g
    stopped q f (Refused r) g = record {
      meaning = (rw g.0 (record { inside = S.inside; refusal = λ p h i. refused G depth s p h goal i kinds (reverse ended) (drop at kinds) (e.symbol ∷ symbols_of (reverse new)) q; within = (S.follows s).kept }), rw g.0 f);
      moves = rw (g.0, g.1, g.2, symbols_top G marks goal levels depth new e) (S.inside, q);
    }

    pub stops_at_terminal : (k : ℕ) → e.symbol ≡ Terminal k → (takes_next G k (drop at kinds) → ⊥) → (error : ParseError) → IsRefusedAt new ended e at error → Stops G marks goal levels kinds error
    stops_at_terminal k f m error g = stopped (step_miss G marks goal levels depth kinds rs ended old new e at popped S k f m)
        (λ qs d. not_at_terminal G marks goal levels depth s (take at kinds) (drop at kinds) rs (reverse new) e.levels e.operators qs d k m (follows_at G marks goal levels depth kinds rs ended old new e at popped S s (Terminal k) f)) error g

    module _ (n : ℕ) (nonterminal : e.symbol ≡ Nonterminal n) where
      pub stops_at_nonterminal : G.predict n (next_kind (drop at kinds)) ≡ None → (error : ParseError) → IsRefusedAt new ended e at error → Stops G marks goal levels kinds error
      stops_at_nonterminal m error g = stopped (step_refuse G marks goal levels depth kinds rs ended old new e at popped S n nonterminal m)
          (λ qs d. not_at_nonterminal G marks goal levels depth s (take at kinds) (drop at kinds) rs (reverse new) e.levels e.operators qs d n m
          (follows_at G marks goal levels depth kinds rs ended old new e at popped S s (Nonterminal n) nonterminal)) error g

      past_parts : (m : Mark) (b : Bool) (deep before : ℕ) → is_past m b deep before ≡ true → b ≡ true
      past_parts m true deep before f = refl
      past_parts Plain false deep before f = absurd (true≢false (sym f))
      past_parts Level false deep before f = absurd (true≢false (sym f))
      past_parts Chain false deep before f = absurd (true≢false (sym f))

      -- the alternative that passes a limit begins with a token
      module _ (r : ℕ) (predicted : G.predict n (next_kind (drop at kinds)) ≡ Some r) (past : is_past (marks n) (is_nonempty (G.body n r)) e.levels e.operators ≡ true) where
        some_parts : is_nonempty (G.body n r) ≡ true
        some_parts = past_parts (marks n) (is_nonempty (G.body n r)) e.levels e.operators past

        inside : at < length kinds
        inside = (let t = some_token G depth s n r (drop at kinds) predicted some_parts in omega (arith, length-drop at kinds, ap length t.2))

        chosen : G.predict n (Some (get_or kinds at 0)) ≡ Some r
        chosen = subst (λ (us : List ℕ). G.predict n (next_kind us) ≡ Some r) (drop_more kinds at 0 inside) predicted

        there : Follows G marks goal levels depth s (take at kinds) (get_or kinds at 0 ∷ drop (at + 1) kinds) rs (entry (Nonterminal n) e.levels e.operators ∷ reverse new)
        there = subst (λ (us : List ℕ). Follows G marks goal levels depth s (take at kinds) us rs (entry (Nonterminal n) e.levels e.operators ∷ reverse new)) (drop_more kinds at 0 inside)
            (follows_at G marks goal levels depth kinds rs ended old new e at popped S s (Nonterminal n) nonterminal)

        read : take (suc at) kinds ≡ take at kinds ++ get_or kinds at 0 ∷ []
        read = rw (← add-one at) (take_more kinds at 0 inside)

        limit_there : ByPlan G goal (IsPastLimit G marks goal levels kinds at)
        limit_there p h i = record {
          inside = inside;
          viable = rw read (past_viable G marks goal levels depth s n r (get_or kinds at 0) e.levels e.operators (take at kinds) (drop (at + 1) kinds) rs (reverse new) chosen past there some_parts p h i);
          passed = λ zs qs d. subst (λ (k : ℕ). PassesAt G marks goal levels qs (Some k)) (length-take-le at kinds S.inside)
              (past_passed G marks goal levels depth s n r (get_or kinds at 0) e.levels e.operators (take at kinds) (drop (at + 1) kinds) rs (reverse new) chosen past there zs qs
              (subst (λ (us : List ℕ). Derives G (goal_of goal) (us ++ zs) qs) read d));
        }

      pub stops_at_limit : (r : ℕ) (parts : List Symbol) → G.predict n (next_kind (drop at kinds)) ≡ Some r → reverse parts ≡ G.body n r → is_past (marks n) (is_nonempty parts) e.levels e.operators ≡ true →
          Stops G marks goal levels kinds (PastLimit at)
      stops_at_limit r parts f g h =
          let past = past_body G marks goal levels depth kinds rs ended old new e at popped S n nonterminal r parts f g true h in
          record { meaning = limit_there r f past; moves = inside r f past }

  pub ends_there : (kinds : List ℕ) (front : Front) → State G marks goal levels depth kinds front.derivation.items front.ended.items [] front.length → Ends G marks goal levels kinds front
  ends_there kinds f S =
      let q = step_end G marks goal levels depth kinds f.derivation.items f.ended.items f.length S in
      record {
        meaning = record {
          inside = S.inside;
          derived = front_derived G marks goal levels depth s (take f.length kinds) (drop f.length kinds) f.derivation.items (S.follows s);
          within = front_within G marks goal levels depth s (take f.length kinds) (drop f.length kinds) f.derivation.items (S.follows s);
          longest = longest G depth s q;
        };
        moves = (S.inside, q);
      }

-- A parse of the whole text.
never_empty : {G : Grammar} {es : List ℕ} {ss : List Symbol} {xs : List ℕ} {o : Outcome} → Parses G es ss xs o → (ended ys : List ℕ) → o ≡ reject ended [] ys → ⊥
never_empty done ended ys e = cc
never_empty (shift f q) ended ys e = never_empty q ended ys e
never_empty (miss f) ended ys e = cc
never_empty (refuse f) ended ys e = cc
never_empty (expand {o} r f q) ended ys e = by o (λ i. never_empty q ended ys i) e
  where
    by : (u : Outcome) → (u ≡ reject ended [] ys → ⊥) → led_by r u ≡ reject ended [] ys → ⊥
    by (accept qs es zs) f i = cc
    by (reject es ts zs) f i = f i

module _ (G : Grammar) (marks : ℕ → Mark) (goal : ℕ) (kinds : List ℕ) where
  pub whole_stop : (error : ParseError) → StopsAt G goal kinds error → StopsBefore G goal kinds error
  whole_stop (Refused r) f = (f.0, by (reverse (symbols_of r.expected.items)) f.1)
    where
      by : (ss : List Symbol) → Parses G [] (goal_of goal) kinds (reject (reverse r.ended.items) ss (drop r.position kinds)) → StopsWith G goal kinds (reverse r.ended.items) ss (drop r.position kinds)
      by [] q = absurd (never_empty q (reverse r.ended.items) (drop r.position kinds) refl)
      by (t ∷ ss) q = q
  whole_stop (PastLimit p) f = f
  whole_stop NoMemory f = tt

  -- the tokens behind the front are refused
  pub behind_front : (depth : ℕ → ℕ) → IsLL1 G depth → (front : Front) → IsParsed G marks goal 0 kinds front → front.length < length kinds → IsRefused G marks goal 0 kinds front.length
  behind_front depth s f m l = record {
    inside = m.inside;
    refusal = λ p h i. by m.longest;
    within = front_keeps G marks goal 0 depth s (take f.length kinds) f.derivation.items m.derived m.within;
  }
    where
      by : IsFront G (goal_of goal) kinds f.derivation.items (drop f.length kinds) → IsRefusal G (goal_of goal) kinds (drop f.length kinds)
      by F = record {
        prefix = F.front;
        split = F.split;
        viable = ([], f.derivation.items, rw (append-nil F.front) F.derived);
        stuck = λ zs qs e d. next zs qs e d;
      }
        where
          next : (zs qs : List ℕ) → next_kind zs ≡ next_kind (drop f.length kinds) → Derives G (goal_of goal) (F.front ++ zs) qs → ⊥
          next [] qs e d = (let g : None ≡ Some (get_or kinds f.length 0) = e ∙ ap next_kind (drop_more kinds f.length 0 l) in cc)
          next (z ∷ zs) qs e d = F.stuck z zs qs (sym e) d
