-- What is left of a list, where the parts before it were gone through.
use Rattle.std.proofs.Common.{◌≡◌, ◌∙◌, ℕ, zero, suc, ◌+◌, ◌<◌, ◌≤◌, Bool, true, false, List, [], ◌∷◌, length, get_or, drop, refl, ap, sym, add-one, drop-cons, nat_eq, if◌then◌else◌, Option, Some, None, arith}
use Rattle.std.proofs.lemmas.Bool.{eq-eqb, eqb-true, false_from_ne_true}
use Rattle.source_forms.specs.declared.form.Form.{Form}
use Rattle.source_forms.specs.Forms.{number, is_among, ◌or_else◌}

pub drop_all : {A : Type 0} (xs : List A) (n : ℕ) → length xs ≤ n → drop n xs ≡ []
drop_all [] zero h = refl
drop_all [] (suc n) h = refl
drop_all (x ∷ xs) zero h = absurd (omega arith)
drop_all (x ∷ xs) (suc n) h = drop_all xs n (omega arith)

-- ---- whether a form is among these

either : Bool → Bool → Bool
either same rest = if same then true else rest

module _ (forms : List Form) (i : ℕ) (form d : Form) (h : i < length forms) where
  abbrev at_one : Bool → Bool
  at_one same = if same then true else is_among (drop (suc i) forms) form

  first_left : is_among (drop i forms) form ≡ at_one (nat_eq (number (get_or forms i d)) (number form))
  unfolding is_among
  first_left = ap (λ (fs : List Form). is_among fs form) (drop-cons forms i d h)

  pub found : number (get_or forms i d) ≡ number form → is_among (drop i forms) form ≡ true
  found e = first_left ∙ ap at_one (eq-eqb (number (get_or forms i d)) (number form) e)

  pub passed : (number (get_or forms i d) ≡ number form → ⊥) → is_among (drop i forms) form ≡ is_among (drop (i + 1) forms) form
  passed n = rw add-one (first_left ∙ ap at_one (false_from_ne_true (nat_eq (number (get_or forms i d)) (number form)) (λ e. n (eqb-true (number (get_or forms i d)) (number form) e))))

pub not_found : (forms : List Form) (i : ℕ) (form : Form) → length forms ≤ i → is_among (drop i forms) form ≡ false
unfolding is_among
not_found forms i form h = ap (λ (fs : List Form). is_among fs form) (drop_all forms i h)

-- ---- the first place in a list

-- g: the place in a list, by that in a part
module _ {A : Type 0} (g : List A → Option ℕ) (f : A → Option ℕ) (law : (x : A) (xs : List A) → g (x ∷ xs) ≡ (f x or_else g xs)) (xs : List A) (i : ℕ) (x : A) (q : x ≡ get_or xs i x) (h : i < length xs) where
  abbrev at_part : Option ℕ → Option ℕ
  at_part o = o or_else g (drop (suc i) xs)

  part_left : g (drop i xs) ≡ at_part (f x)
  part_left = ap g (drop-cons xs i x h) ∙ ap (λ y. g (y ∷ drop (suc i) xs)) (sym q) ∙ law x (drop (suc i) xs)

  pub stops : (o : Option ℕ) (n : ℕ) → f x ≡ o → o ≡ Some n → g (drop i xs) ≡ Some n
  stops o n e s = part_left ∙ ap at_part (e ∙ s)

  pub goes_on : f x ≡ None → g (drop i xs) ≡ g (drop (i + 1) xs)
  goes_on e = rw add-one (part_left ∙ ap at_part e)

pub ends : {A : Type 0} (g : List A → Option ℕ) (xs : List A) (i : ℕ) → g [] ≡ None → length xs ≤ i → g (drop i xs) ≡ None
ends g xs i e h = ap g (drop_all xs i h) ∙ e
