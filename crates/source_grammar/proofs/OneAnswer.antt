-- Tokens have one answer.
use Rattle.std.specs.Prelude.{◌≡◌, ◌⊎◌, ◌<◌, ◌≤◌, ℕ, suc, zero, List, [], ◌∷◌, ◌++◌, Option, Some, None, length, take, drop}
use Rattle.std.proofs.Common.{refl, sym, ◌∙◌, ap, subst, inl, inr, arith, append-nil}
use Rattle.std.proofs.lemmas.Bool.{cases_order, cases_lt}
use Rattle.std.proofs.lemmas.List.{append_cancel_right, take-append-drop, length-take-le}
use Rattle.grammar_tables.specs.declared.parsing.Front.{Front}
use Rattle.grammar_tables.specs.declared.symbol.Symbol.{Symbol}
use Rattle.grammar_tables.specs.Grammar.{Derives, next_kind}
use Rattle.grammar_tables.specs.First.{depth_of}
use Rattle.grammar_tables.specs.Parses.{accept, reject, IsRefusal}
use Rattle.grammar_tables.specs.Limits.{PassesAt, IsPastLimit}
use Rattle.grammar_tables.specs.Answers.{goal_of, StopsWith}
use Rattle.grammar_tables.proofs.Soundness.{some_inj}
use Rattle.grammar_tables.proofs.Uniqueness.{one_outcome, one_derivation}
use Rattle.grammar_tables.proofs.ParseTrees.{tree_of}
use Rattle.source_grammar.specs.declared.fault.SyntaxFault.{SyntaxFault}
use Rattle.source_grammar.specs.declared.fault.SyntaxFault.TheVariants as fault
use Rattle.source_grammar.specs.declared.offence.Offence.{Offence}
use Rattle.source_grammar.specs.declared.offence.Offence.TheVariants as offence
use Rattle.source_grammar.specs.SourceGrammar.{source_grammar, source_marks}
use Rattle.source_grammar.specs.Faults.{IsSourceDerivation, IsSourceFront, IsRefusedAs, IsFrontRefusedAs, IsFault, IsFrontFault, fault_at}
use Rattle.source_grammar.proofs.Firsts.{depths}
use Rattle.source_grammar.proofs.Conditions.{source_is_ll1}

-- ---- places in a text

-- What stands behind an earlier place of a text that is cut at a later one and goes on.
record Behind (p q : ℕ) (kinds zs : List ℕ) : Type 0 where
  next : ℕ
  us : List ℕ
  split : take q kinds ++ zs ≡ take p kinds ++ next ∷ us
  same : next_kind (drop p kinds) ≡ Some next

behind : (p q : ℕ) (kinds zs : List ℕ) → p < q → q ≤ length kinds → Behind p q kinds zs
behind p zero kinds zs l m = absurd (omega arith)
behind p (suc q) [] zs l m = absurd (omega arith)
behind zero (suc q) (x ∷ kinds) zs l m = record { next = x; us = take q kinds ++ zs; split = refl; same = refl }
behind (suc p) (suc q) (x ∷ kinds) zs l m =
    let b = behind p q kinds zs (omega arith) (omega arith) in
    record { next = b.next; us = b.us; split = ap (λ (us : List ℕ). x ∷ us) b.split; same = b.same }

-- the same where the places may be one
goes_on : (p q : ℕ) (kinds zs : List ℕ) → p ≤ q → (us : List ℕ) × (take q kinds ++ zs ≡ take p kinds ++ us)
goes_on zero q kinds zs l = (take q kinds ++ zs, refl)
goes_on (suc p) zero kinds zs l = absurd (omega arith)
goes_on (suc p) (suc q) [] zs l = (zs, refl)
goes_on (suc p) (suc q) (x ∷ kinds) zs l = let b = goes_on p q kinds zs (omega arith) in (b.0, ap (λ (us : List ℕ). x ∷ us) b.1)

front_is : (front kinds : List ℕ) (p : ℕ) → kinds ≡ front ++ drop p kinds → front ≡ take p kinds
front_is front kinds p e = append_cancel_right front (take p kinds) (drop p kinds) (sym e ∙ sym (take-append-drop p kinds))

module _ (goal : ℕ) where
  abbrev D : List ℕ → List ℕ → Type 0
  D xs rs = Derives source_grammar (goal_of goal) xs rs

  module _ (kinds : List ℕ) where
    -- ---- refused tokens

    module _ (p : ℕ) (R : IsRefusal source_grammar (goal_of goal) kinds (drop p kinds)) where
      viable : (zs rs : List ℕ) × D (take p kinds ++ zs) rs
      viable = (R.viable.0, R.viable.1, subst (λ (us : List ℕ). D (us ++ R.viable.0) R.viable.1) (front_is R.prefix kinds p R.split) R.viable.2)

      stuck : (us rs : List ℕ) → next_kind us ≡ next_kind (drop p kinds) → D (take p kinds ++ us) rs → ⊥
      stuck us rs e d = R.stuck us rs e (subst (λ (ws : List ℕ). D (ws ++ us) rs) (sym (front_is R.prefix kinds p R.split)) d)

      not_beyond : (q : ℕ) (zs rs : List ℕ) → p < q → q ≤ length kinds → D (take q kinds ++ zs) rs → ⊥
      not_beyond q zs rs l m d = (let b = behind p q kinds zs l m in stuck (b.next ∷ b.us) rs (sym b.same) (subst (λ (ws : List ℕ). D ws rs) b.split d))

      not_whole : (rs : List ℕ) → D kinds rs → ⊥
      not_whole rs d = stuck (drop p kinds) rs refl (subst (λ (ws : List ℕ). D ws rs) (sym (take-append-drop p kinds)) d)

    one_place : (p q : ℕ) → p ≤ length kinds → q ≤ length kinds → IsRefusal source_grammar (goal_of goal) kinds (drop p kinds) → IsRefusal source_grammar (goal_of goal) kinds (drop q kinds) → p ≡ q
    one_place p q l m R S = elim (cases_order p q) [
      | inl e ↦ e
      | inr (inl h) ↦ absurd (let v = viable q S in not_beyond p R q v.0 v.1 h m v.2)
      | inr (inr h) ↦ absurd (let v = viable p R in not_beyond q S p v.0 v.1 h l v.2)
    ]

    same_stop : (es fs : List ℕ) (ss ts : List Symbol) (ys : List ℕ) → StopsWith source_grammar goal kinds es ss ys → StopsWith source_grammar goal kinds fs ts ys → (es ≡ fs) × (ss ≡ ts)
    same_stop es fs [] [] ys p q = (let e : accept p.0 es ys ≡ accept q.0 fs ys = one_outcome source_grammar p.1 q.1 in (cc, refl))
    same_stop es fs [] (t ∷ ts) ys p q = absurd (let e : accept p.0 es ys ≡ reject fs (t ∷ ts) ys = one_outcome source_grammar p.1 q in cc)
    same_stop es fs (s ∷ ss) [] ys p q = absurd (let e : reject es (s ∷ ss) ys ≡ accept q.0 fs ys = one_outcome source_grammar p q.1 in cc)
    same_stop es fs (s ∷ ss) (t ∷ ts) ys p q = (let e : reject es (s ∷ ss) ys ≡ reject fs (t ∷ ts) ys = one_outcome source_grammar p q in (cc, cc))

    -- ---- limits

    one_passed : (rs : List ℕ) (levels : ℕ) (xs : List ℕ) (i j : Option ℕ) → D xs rs → PassesAt source_grammar source_marks goal levels rs i → PassesAt source_grammar source_marks goal levels rs j → i ≡ j
    unfolding PassesAt
    one_passed rs levels xs i j d f g = let t = tree_of source_grammar goal xs rs d in sym (f t.0 t.1 t.2) ∙ g t.0 t.1 t.2

    module _ (levels : ℕ) where
      module _ (p : ℕ) (L : IsPastLimit source_grammar source_marks goal levels kinds p) where
        passed_beyond : (q : ℕ) (zs rs : List ℕ) → suc p ≤ q → D (take q kinds ++ zs) rs → PassesAt source_grammar source_marks goal levels rs (Some p)
        passed_beyond q zs rs l d = let b = goes_on (suc p) q kinds zs l in L.passed b.0 rs (subst (λ (ws : List ℕ). D ws rs) b.1 d)

        passed_whole : (rs : List ℕ) → D kinds rs → PassesAt source_grammar source_marks goal levels rs (Some p)
        passed_whole rs d = L.passed (drop (suc p) kinds) rs (subst (λ (ws : List ℕ). D ws rs) (sym (take-append-drop (suc p) kinds)) d)

        not_within : (rs xs : List ℕ) → D xs rs → PassesAt source_grammar source_marks goal levels rs (Some p) → PassesAt source_grammar source_marks goal levels rs None → ⊥
        not_within rs xs d f g = (let e : Some p ≡ None = one_passed rs levels xs (Some p) None d f g in cc)

      no_later_limit : (p q : ℕ) → IsPastLimit source_grammar source_marks goal levels kinds p → IsPastLimit source_grammar source_marks goal levels kinds q → p < q → p ≡ q
      no_later_limit p q L M l =
          let v = M.viable in
          some_inj (one_passed v.1 levels (take (suc q) kinds ++ v.0) (Some p) (Some q) v.2 (passed_beyond p L (suc q) v.0 v.1 (omega (arith, l)) v.2) (M.passed v.0 v.1 v.2))

      one_limit : (p q : ℕ) → IsPastLimit source_grammar source_marks goal levels kinds p → IsPastLimit source_grammar source_marks goal levels kinds q → p ≡ q
      one_limit p q L M = elim (cases_order p q) [ inl e ↦ e | inr (inl h) ↦ no_later_limit p q L M h | inr (inr h) ↦ sym (no_later_limit q p M L h) ]

      refused_or_past : (p q : ℕ) (what : Offence) → IsPastLimit source_grammar source_marks goal levels kinds p → IsRefusedAs goal levels kinds q what → ⊥
      unfolding PassesAt
      refused_or_past p q what L R = elim (cases_lt p q) [
        | inl h ↦ late h
        | inr h ↦ (let v = L.viable in not_beyond q R.refusal (suc p) v.0 v.1 (omega (arith, h)) (omega (arith, L.inside)) v.2)
      ]
        where
          late : p < q → ⊥
          late h =
              let v = viable q R.refusal in
              let t = tree_of source_grammar goal (take q kinds ++ v.0) v.1 v.2 in
              let l = R.within v.0 v.1 v.2 t.0 t.1 t.2 p (passed_beyond p L q v.0 v.1 (omega (arith, h)) v.2 t.0 t.1 t.2) in
              omega (arith, h, l, length-take-le q kinds R.inside)

      -- ---- faults

      record Place (f : SyntaxFault) : Type 0 where
        at : ℕ
        what : Offence
        refused : IsRefusedAs goal levels kinds at what
        told : fault_at at what ≡ f

      record Limit (f : SyntaxFault) : Type 0 where
        at : ℕ
        past : IsPastLimit source_grammar source_marks goal levels kinds at
        told : fault.TooDeep at ≡ f

      sort_of : (f : SyntaxFault) → (f ≡ fault.NoMemory → ⊥) → IsFault goal levels kinds f → Place f ⊎ Limit f
      sort_of (fault.Stray position) n R = inl (record { at = position; what = offence.Stray; refused = R; told = refl })
      sort_of (fault.LeftOut position) n (inl R) = inl (record { at = position; what = offence.LeftOut; refused = R; told = refl })
      sort_of (fault.LeftOut position) n (inr R) = inl (record { at = suc position; what = offence.LeftOutBefore; refused = R; told = ap fault.LeftOut (omega arith) })
      sort_of (fault.TooDeep position) n L = inr (record { at = position; past = L; told = refl })
      sort_of fault.NoMemory n f = absurd (n refl)

      one_offence : (p q : ℕ) (a b : Offence) → p ≡ q → IsRefusedAs goal levels kinds p a → IsRefusedAs goal levels kinds q b → a ≡ b
      one_offence p q a b e R S =
          let z = same_stop R.ended S.ended R.expected S.expected (drop q kinds) (subst (λ (n : ℕ). StopsWith source_grammar goal kinds R.ended R.expected (drop n kinds)) e R.stops) S.stops in
          sym R.offence ∙ rw (e, z.0, z.1) refl ∙ S.offence

      same_place : {f g : SyntaxFault} → Place f → Place g → f ≡ g
      same_place P Q =
          let e = one_place P.at Q.at P.refused.inside Q.refused.inside P.refused.refusal Q.refused.refusal in
          sym P.told ∙ rw (e, one_offence P.at Q.at P.what Q.what e P.refused Q.refused) refl ∙ Q.told

      same_limit : {f g : SyntaxFault} → Limit f → Limit g → f ≡ g
      same_limit P Q = sym P.told ∙ ap fault.TooDeep (one_limit P.at Q.at P.past Q.past) ∙ Q.told

      pub one_fault : (f g : SyntaxFault) → (f ≡ fault.NoMemory → ⊥) → (g ≡ fault.NoMemory → ⊥) → IsFault goal levels kinds f → IsFault goal levels kinds g → f ≡ g
      one_fault f g m n a b = by (sort_of f m a) (sort_of g n b)
        where
          by : Place f ⊎ Limit f → Place g ⊎ Limit g → f ≡ g
          by (inl P) (inl Q) = same_place P Q
          by (inr P) (inr Q) = same_limit P Q
          by (inl P) (inr Q) = absurd (refused_or_past Q.at P.at P.what Q.past P.refused)
          by (inr P) (inl Q) = absurd (refused_or_past P.at Q.at Q.what P.past Q.refused)

      pub derived_or_faulty : (rs : List ℕ) (f : SyntaxFault) → (f ≡ fault.NoMemory → ⊥) → IsSourceDerivation goal levels kinds rs → IsFault goal levels kinds f → ⊥
      derived_or_faulty rs f n d a = elim (sort_of f n a) [
        | inl P ↦ not_whole P.at P.refused.refusal rs d.0
        | inr P ↦ not_within P.at P.past rs kinds d.0 (passed_whole P.at P.past rs d.0) d.1
      ]

      -- ---- fronts

      module _ (F : Front) (S : IsSourceFront goal levels kinds F) where
        not_longer : (q : ℕ) (zs rs : List ℕ) → F.length < q → q ≤ length kinds → D (take q kinds ++ zs) rs → ⊥
        not_longer q zs rs l m d =
            let b = behind F.length q kinds zs l m in
            S.longest.stuck b.next b.us rs b.same (subst (λ (ws : List ℕ). D (ws ++ b.next ∷ b.us) rs) (sym (front_is S.longest.front kinds F.length S.longest.split)) (subst (λ (ws : List ℕ). D ws rs) b.split d))

        whole_front : D (take F.length kinds ++ []) F.derivation.items
        whole_front = rw (append-nil (take F.length kinds)) S.derived

        not_refused : (p : ℕ) (what : Offence) → IsFrontRefusedAs goal levels kinds p what → ⊥
        not_refused p what R = elim (cases_order p F.length) [
          | inl e ↦ R.1 F.derivation.items (subst (λ (n : ℕ). D (take n kinds) F.derivation.items) (sym e) S.derived)
          | inr (inl h) ↦ not_beyond p R.0.refusal F.length [] F.derivation.items h S.inside whole_front
          | inr (inr h) ↦ (let v = viable p R.0.refusal in not_longer p v.0 v.1 h R.0.inside v.2)
        ]

        not_past : (p : ℕ) → IsPastLimit source_grammar source_marks goal levels kinds p → ⊥
        not_past p L = elim (cases_lt p F.length) [
          | inl h ↦ not_within p L F.derivation.items (take F.length kinds) S.derived (passed_beyond p L F.length [] F.derivation.items (omega (arith, h)) whole_front) S.within
          | inr h ↦ (let v = L.viable in not_longer (suc p) v.0 v.1 (omega (arith, h)) (omega (arith, L.inside)) v.2)
        ]

        pub front_or_fault : (f : SyntaxFault) → (f ≡ fault.NoMemory → ⊥) → IsFrontFault goal levels kinds f → ⊥
        front_or_fault (fault.Stray position) n R = not_refused position offence.Stray R
        front_or_fault (fault.LeftOut position) n (inl R) = not_refused position offence.LeftOut R
        front_or_fault (fault.LeftOut position) n (inr R) = not_refused (suc position) offence.LeftOutBefore R
        front_or_fault (fault.TooDeep position) n L = not_past position L
        front_or_fault fault.NoMemory n f = n refl

      pub one_front : (F E : Front) → IsSourceFront goal levels kinds F → IsSourceFront goal levels kinds E → (F.length ≡ E.length) × (F.derivation.items ≡ E.derivation.items)
      one_front F E S T = (same, one_derivation source_grammar (depth_of depths) source_is_ll1 S.derived (subst (λ (n : ℕ). D (take n kinds) E.derivation.items) (sym same) T.derived))
        where
          same : F.length ≡ E.length
          same = elim (cases_order F.length E.length) [
            | inl e ↦ e
            | inr (inl h) ↦ absurd (not_longer F S E.length [] E.derivation.items h T.inside (whole_front E T))
            | inr (inr h) ↦ absurd (not_longer E T F.length [] F.derivation.items h S.inside (whole_front F S))
          ]

      pub fault_of_all : (f : SyntaxFault) → IsFrontFault goal levels kinds f → IsFault goal levels kinds f
      fault_of_all (fault.Stray position) R = R.0
      fault_of_all (fault.LeftOut position) (inl R) = inl R.0
      fault_of_all (fault.LeftOut position) (inr R) = inr R.0
      fault_of_all (fault.TooDeep position) L = L
      fault_of_all fault.NoMemory f = tt
