-- Laws of marks, as they are set one after another.
use Rattle.std.proofs.Common.{◌≡◌, ◌∙◌, inl, inr, refl, sym, ap, ap₂, subst, ℕ, zero, suc, ◌+◌, ◌<◌, ◌≤◌, ◌==◌, ◌||◌, Bool, true, false, true≢false, eq-eqb, cond, List, [], ◌∷◌, ◌++◌, length, get_or, set, take, arith}
use Rattle.std.proofs.lemmas.List.{get_or-set_same, get_or-set_other, length-set, take_all}
use Rattle.std.proofs.lemmas.Bool.{eqb-true}
use Rattle.std.proofs.lemmas.List.Folds.{list_any_more}
use Rattle.std.specs.List.{list_any}
use Rattle.logic_term.specs.Ty.{Ty}
use Rattle.logic_term.specs.declared.kinds.Label.{Label}
use Rattle.mir_ir.specs.declared.body.Body.{Body}
use Rattle.mir_ir.specs.declared.body.Initialised.{Initialised}
use Rattle.mir_ir.specs.declared.place.Operand.{Operand}
use Rattle.mir_ir.specs.declared.place.Place.{Place}
use Rattle.mir_ir.specs.Acts.{Act, takes, writes, acts_of_operand, acts_of_operands}
use Rattle.prophecy_logic.specs.declared.touch.Touch.{Touch}
use Rattle.prophecy_logic.specs.declared.touch.Touch.TheVariants.{Untouched, Whole}
use Rattle.prophecy_logic.specs.Loop.{one_touches, loop_writes, is_gone, touched_there, renewal, renewals}
use Rattle.prophecy_logic.proofs.ArriveLaws.{either}
use Rattle.prophecy_logic.proofs.Loops.{of_both, of_operands}
use Rattle.wp_gen.specs.Marks.{AreMarks, AddsMarks, AddsTouched, touch_by}

or_false : (a : Bool) → (a || false) ≡ a
or_false true = refl
or_false false = refl

or_assoc : (a b c : Bool) → ((a || b) || c) ≡ (a || (b || c))
or_assoc true b c = refl
or_assoc false b c = refl

-- ---- one after another

pub adds_same : (f g : ℕ → Bool) (old new : List Bool) → ((x : ℕ) → f x ≡ g x) → AddsMarks f old new → AddsMarks g old new
adds_same f g old new same h = record {
  as_many = h.as_many;
  is = λ x below. h.is x below ∙ ap (λ b. get_or old x false || b) (same x);
}

pub adds_none : (f : ℕ → Bool) (marks : List Bool) → ((x : ℕ) → f x ≡ false) → AddsMarks f marks marks
adds_none f marks none = record {
  as_many = refl;
  is = λ x below. sym (or_false (get_or marks x false)) ∙ ap (λ b. get_or marks x false || b) (sym (none x));
}

pub adds_both : (f g h : ℕ → Bool) (old mid new : List Bool) → AddsMarks f old mid → AddsMarks g mid new → ((x : ℕ) → (f x || g x) ≡ h x) → AddsMarks h old new
adds_both f g h old mid new first second both = record {
  as_many = second.as_many ∙ first.as_many;
  is = λ x below.
      second.is x (subst (λ n. x < n) (sym first.as_many) below)
      ∙ ap (λ b. b || g x) (first.is x below)
      ∙ or_assoc (get_or old x false) (f x) (g x)
      ∙ ap (λ b. get_or old x false || b) (both x);
}

-- ---- one element more

pub adds_nothing : {X : Type 0} (g : ℕ → X → Bool) (xs : List X) (marks : List Bool) → AddsMarks (λ x. list_any (g x) (take 0 xs)) marks marks
adds_nothing g xs marks = adds_none (λ x. list_any (g x) (take 0 xs)) marks (λ x. refl)

pub adds_more : {X : Type 0} (g : ℕ → X → Bool) (xs : List X) (i : ℕ) (e : X) (old mid new : List Bool) → i < length xs → e ≡ get_or xs i e → AddsMarks (λ x. list_any (g x) (take i xs)) old mid → AddsMarks (λ x. g x e) mid new
    → AddsMarks (λ x. list_any (g x) (take (i + 1) xs)) old new
adds_more g xs i e old mid new below read before one =
    adds_both (λ x. list_any (g x) (take i xs)) (λ x. g x e) (λ x. list_any (g x) (take (i + 1) xs)) old mid new before one
    (λ x. ap (λ r. list_any (g x) (take i xs) || g x r) read ∙ sym (list_any_more (g x) xs i e below))

pub adds_all : {X : Type 0} (g : ℕ → X → Bool) (xs : List X) (i : ℕ) (old new : List Bool) → length xs ≤ i → AddsMarks (λ x. list_any (g x) (take i xs)) old new → AddsMarks (λ x. list_any (g x) xs) old new
adds_all g xs i old new past h = subst (λ ys. AddsMarks (λ x. list_any (g x) ys) old new) (take_all i xs past) h

-- ---- one mark

pub set_adds : (marks : List Bool) (i : ℕ) → i < length marks → AddsMarks (λ x. i == x) marks (set marks i true)
set_adds marks i below = record {
  as_many = length-set marks i true;
  is = λ x within. by_test x (i == x) refl;
}
  where
    or_true : (a : Bool) → (a || true) ≡ true
    or_true true = refl
    or_true false = refl

    by_test : (x : ℕ) (b : Bool) → (i == x) ≡ b → get_or (set marks i true) x false ≡ (get_or marks x false || b)
    by_test x true e = subst (λ y. get_or (set marks i true) y false ≡ (get_or marks y false || true)) (eqb-true i x e) (get_or-set_same marks i true false below ∙ sym (or_true (get_or marks i false)))
    by_test x false e = get_or-set_other marks i x true false (λ f. true≢false (sym (eq-eqb i x (sym f)) ∙ e)) ∙ sym (or_false (get_or marks x false))

-- a number past all locals
pub past_adds : (marks : List Bool) (i : ℕ) → length marks ≤ i → AddsMarks (λ x. i == x) marks marks
past_adds marks i past = record {
  as_many = refl;
  is = λ x within. sym (or_false (get_or marks x false)) ∙ ap (λ b. get_or marks x false || b) (sym (not_at x within));
}
  where
    not_at : (x : ℕ) → x < length marks → (i == x) ≡ false
    not_at x within = elim (either (i == x)) [
      | inl e ↦ absurd (let same : i ≡ x = eqb-true i x e in omega arith)
      | inr e ↦ e
    ]

-- ---- acts

pub touched_none : (acts : List Act) (marks : List Bool) → acts ≡ [] → AddsTouched acts marks marks
touched_none acts marks e = adds_none (λ x. one_touches x acts) marks (λ x. ap (one_touches x) e)

pub touched_same : (acts acts' : List Act) (old new : List Bool) → acts' ≡ acts → AddsTouched acts old new → AddsTouched acts' old new
touched_same acts acts' old new e h = subst (λ xs. AddsTouched xs old new) (sym e) h

pub touched_both : (first second acts : List Act) (old mid new : List Bool) → acts ≡ first ++ second → AddsTouched first old mid → AddsTouched second mid new → AddsTouched acts old new
touched_both first second acts old mid new e h g =
    adds_both (λ x. one_touches x first) (λ x. one_touches x second) (λ x. one_touches x acts) old mid new h g (λ x. sym (ap (one_touches x) e ∙ of_both x first second))

pub taken : (acts : List Act) (p : Place) (old new : List Bool) → acts ≡ takes p ∷ [] → AddsMarks (λ x. p.local == x) old new → AddsTouched acts old new
taken acts p old new e h = adds_same (λ x. p.local == x) (λ x. one_touches x acts) old new (λ x. sym (ap (one_touches x) e ∙ or_false (p.local == x))) h

pub written : (acts : List Act) (p : Place) (old new : List Bool) → acts ≡ writes p ∷ [] → AddsMarks (λ x. p.local == x) old new → AddsTouched acts old new
written acts p old new e h = adds_same (λ x. p.local == x) (λ x. one_touches x acts) old new (λ x. sym (ap (one_touches x) e ∙ or_false (p.local == x))) h

pub touched_by_each : (os : List Operand) (old new : List Bool) → AddsMarks (λ x. list_any (λ o. one_touches x (acts_of_operand o)) os) old new → AddsTouched (acts_of_operands os) old new
touched_by_each os old new h = adds_same (λ x. list_any (λ o. one_touches x (acts_of_operand o)) os) (λ x. one_touches x (acts_of_operands os)) old new (λ x. sym (of_operands x os)) h

-- ---- all marks

pub last_false : (marks : List Bool) (x : ℕ) → get_or (marks ++ false ∷ []) x false ≡ get_or marks x false
last_false [] zero = refl
last_false [] (suc x) = refl
last_false (m ∷ marks) zero = refl
last_false (m ∷ marks) (suc x) = last_false marks x

pub adds_to_none : (n : ℕ) (f : ℕ → Bool) (old new : List Bool) → AreMarks n (λ x. false) old → AddsMarks f old new → AreMarks n f new
adds_to_none n f old new none adds = record {
  as_many = adds.as_many ∙ none.as_many;
  is = λ x below. adds.is x (subst (λ m. x < m) (sym none.as_many) below) ∙ ap (λ b. b || f x) (none.is x below);
}

-- ---- the commands

-- what is done to each local by right marks
pub touch_is : (b : Body) (init : Initialised) (l : Label) (gone marked : List Bool) (n x : ℕ) → AreMarks n (is_gone init l) gone → AreMarks n (loop_writes b l) marked → x < n → touch_by gone marked x ≡ touched_there b init l x
touch_is b init l gone marked n x g m below = ap₂ (λ c d. cond c Untouched (cond d Whole Untouched)) (g.is x below) (m.is x below)

pub renewals_same : (b : Body) (f g : ℕ → Touch) (m : ℕ) (ts : List Ty) → ((x : ℕ) → x < m + length ts → f x ≡ g x) → renewals b f m ts ≡ renewals b g m ts
renewals_same b f g m [] same = refl
renewals_same b f g m (t ∷ ts) same =
    ap₂ (λ cs ds. cs ++ ds) (ap (λ h. renewal b h m t) (same m (omega arith))) (renewals_same b f g (m + 1) ts (λ x below. same x (omega (arith, below))))
