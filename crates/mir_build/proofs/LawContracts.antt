-- The contract of a function speaks of its parameters.
use Rattle.std.proofs.Common.{◌≡◌, ◌⊎◌, inl, inr, refl, ap, sym, ◌∙◌, subst, ℕ, zero, suc, ◌+◌, ◌^◌, ◌<◌, ◌≤◌, true, List, [], ◌∷◌, ◌++◌, map, drop, length, Some, slice_get, arith, length-append, length-drop}
use Rattle.text_core.specs.declared.name.Name.{Name}
use Rattle.logic_term.specs.declared.declaration.AdtDecl.{AdtDecl}
use Rattle.logic_term.specs.Free.{free}
use Rattle.logic_term.specs.Term.{Term}
use Rattle.logic_term.specs.declared.obligation.Contract.{Contract}
use Rattle.mir_ir.specs.declared.body.Body.{Body}
use Rattle.mir_ir.specs.declared.body.Initialised.{Initialised}
use Rattle.type_check.specs.declared.program.ClauseKind.{ClauseKind}
use Rattle.type_check.specs.declared.program.ClauseKind.TheVariants.{Requires, Ensures}
use Rattle.type_check.specs.declared.assertion.Assertion.{Assertion}
use Rattle.type_check.specs.declared.program.Signature.{Signature}
use Rattle.type_check.specs.declared.program.TypedClause.{TypedClause}
use Rattle.type_check.specs.declared.program.TypedFunction.{TypedFunction}
use Rattle.type_check.specs.VariableNames.{variable_name, answer_name}
use Rattle.type_check.specs.WellTyped.{IsVariable, SpeaksOfAnswer, ClauseSpeaksOf, EachSpeaks, ClausesSpeak, FunctionFits}
use Rattle.mir_build.specs.Laws.{EnsuresAreWhole}
use Rattle.mir_ir.specs.Names.{ContractSpeaks, IsOneOf, new_number}
use Rattle.mir_build.specs.Lowering.{counted, contract_over, HasContract, Formula, accepted, term_of, formula_span, formulas_of, picked, LowersTo}
use Rattle.mir_build.proofs.LawFunction.{counted_length, locals_length}
use Rattle.mir_build.proofs.LawLocals.{counted_at, counted_get, local_no_variable, variable_number, variable_no_answer, variable_not_new, small_named}
use Rattle.mir_build.proofs.Basics.{some_same}

-- the formulas speak of the first n variables, or of the answer
abbrev pub EachSpeaksOfAnswer : ℕ → List Assertion → Type 0
EachSpeaksOfAnswer n [] = Unit {0}
EachSpeaksOfAnswer n (a ∷ as') = SpeaksOfAnswer n a × EachSpeaksOfAnswer n as'

picked_before : (n : ℕ) (k : ClauseKind) (a : Assertion) (rest : List Assertion) → ClauseSpeaksOf n k a → EachSpeaks n rest → EachSpeaks n (picked Requires k a rest)
picked_before n Requires a rest h g = (h, g)
picked_before n Ensures a rest h g = g

picked_over : (n : ℕ) (k : ClauseKind) (a : Assertion) (rest : List Assertion) → ClauseSpeaksOf n k a → EachSpeaksOfAnswer n rest → EachSpeaksOfAnswer n (picked Ensures k a rest)
picked_over n Requires a rest h g = g
picked_over n Ensures a rest h g = (h, g)

before_speaks : (n : ℕ) (cs : List TypedClause) → ClausesSpeak n cs → EachSpeaks n (formulas_of Requires cs)
before_speaks n [] h = tt
before_speaks n (c ∷ cs) h = picked_before n c.kind c.formula (formulas_of Requires cs) h.0 (before_speaks n cs h.1)

over_speaks : (n : ℕ) (cs : List TypedClause) → ClausesSpeak n cs → EachSpeaksOfAnswer n (formulas_of Ensures cs)
over_speaks n [] h = tt
over_speaks n (c ∷ cs) h = picked_over n c.kind c.formula (formulas_of Ensures cs) h.0 (over_speaks n cs h.1)

before_at : (n : ℕ) (fs : List Formula) → EachSpeaks n (map accepted fs) → (j : ℕ) (t : Term) → slice_get (map term_of fs) j ≡ Some t → (x : Name) → free x t ≡ true → IsVariable n x
before_at n [] h j t e x f = absurd (cc)
before_at n (a ∷ fs) h zero t e x f = h.0 x (subst (λ u. free x u ≡ true) (sym (some_same e)) f)
before_at n (a ∷ fs) h (suc j) t e x f = before_at n fs h.1 j t e x f

over_at : (n : ℕ) (fs : List Formula) → EachSpeaksOfAnswer n (map accepted fs) → (j : ℕ) (t : Term) → slice_get (map term_of fs) j ≡ Some t → (x : Name) → free x t ≡ true → IsVariable n x ⊎ (x ≡ answer_name)
over_at n [] h j t e x f = absurd (cc)
over_at n (a ∷ fs) h zero t e x f = h.0 x (subst (λ u. free x u ≡ true) (sym (some_same e)) f)
over_at n (a ∷ fs) h (suc j) t e x f = over_at n fs h.1 j t e x f

map_length : {A B : Type 0} (g : A → B) (xs : List A) → length (map g xs) ≡ length xs
map_length g [] = refl
map_length g (x ∷ xs) = ap suc (map_length g xs)

spans_behind : (rs es : List Formula) → length (drop (length (map term_of rs)) (map formula_span rs ++ map formula_span es)) ≡ length (map term_of es)
spans_behind rs es =
    omega (arith, length-drop (length (map term_of rs)) (map formula_span rs ++ map formula_span es), length-append (map formula_span rs) (map formula_span es), map_length term_of rs, map_length formula_span rs, map_length formula_span es, map_length term_of es)

module _ (owner : List ℕ) (f : TypedFunction) (b : Body) (gone : Initialised) {δ : List AdtDecl} {τ : List Signature} (l : LowersTo δ τ owner f b gone) (σ : List Signature) (fits : FunctionFits δ σ f) where
  variable_at : (i : ℕ) (x : Name) → slice_get (map variable_name (counted 0 f.signature.params)) i ≡ Some x → (x.0 ≡ (variable_name i).0) × (i ≤ 2 ^ 32)
  variable_at i x e =
      let w = counted_at variable_name 0 f.signature.params i x e in
      let q : 0 + i ≡ i = omega arith in
      (ap (λ (z : Name). z.0) (w.0 ∙ ap variable_name q), omega (arith, w.1, locals_length owner f b gone l, l.few))

  one_of : (x : Name) → IsVariable (length f.signature.params) x → IsOneOf x (map variable_name (counted 0 f.signature.params))
  one_of x h =
      let q : 0 + h.0 ≡ h.0 = omega arith in
      (h.0, counted_get variable_name 0 f.signature.params h.0 h.1 ∙ ap Some (ap variable_name q ∙ sym h.2))

  or_answer : (x : Name) → (x.0 ≡ answer_name.0 → ⊥) → IsVariable (length f.signature.params) x ⊎ (x ≡ answer_name) → IsOneOf x (map variable_name (counted 0 f.signature.params))
  or_answer x n (inl h) = one_of x h
  or_answer x n (inr e) = absurd (n (ap (λ (z : Name). z.0) e))

  over_formulas : (before behind : List Formula) → EachSpeaks (length f.signature.params) (map accepted before) → EachSpeaksOfAnswer (length f.signature.params) (map accepted behind)
      → ContractSpeaks b (contract_over f before behind) × EnsuresAreWhole (contract_over f before behind)
  over_formulas before behind speaks answers = (
    record {
      count = map_length variable_name (counted 0 f.signature.params) ∙ counted_length 0 f.signature.params ∙ sym l.params;
      apart = λ i j x y e g q. variable_number i j (sym (variable_at i x e).0 ∙ q ∙ (variable_at j y g).0);
      no_local = λ i x n m e g q. local_no_variable x i (small_named owner f b gone l x m g).1 (sym (small_named owner f b gone l x m g).0 ∙ sym q ∙ (variable_at i n e).0);
      none_is_new = λ i n e. subst (λ j. j < new_number) (sym (variable_at i n e).0) (variable_not_new i (variable_at i n e).1);
      before = λ j t e x h. one_of x (before_at (length f.signature.params) before speaks j t e x h);
      over = λ j t e x h n. or_answer x n (over_at (length f.signature.params) behind answers j t e x h);
    },
    record {
      no_answer = λ i n e q. variable_no_answer i (variable_at i n e).1 (sym (variable_at i n e).0 ∙ q);
      spans = spans_behind before behind;
    },
  )

  pub contract_speaks : (c : Contract) → HasContract f c → ContractSpeaks b c × EnsuresAreWhole c
  contract_speaks c h =
      let n = length f.signature.params in
      let speaks : EachSpeaks n (map accepted h.before) = subst (λ as'. EachSpeaks n as') h.are_before (before_speaks n f.clauses fits.clauses) in
      let answers : EachSpeaksOfAnswer n (map accepted h.behind) = subst (λ as'. EachSpeaksOfAnswer n as') h.are_behind (over_speaks n f.clauses fits.clauses) in
      subst (λ (d : Contract). ContractSpeaks b d × EnsuresAreWhole d) (sym h.is) (over_formulas h.before h.behind speaks answers)
