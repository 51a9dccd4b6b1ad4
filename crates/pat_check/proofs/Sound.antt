-- What the status of a pattern says of the values of which this is known.
use Rattle.std.proofs.Common.{◌≡◌, refl, sym, ap, ◌∙◌, subst, ℕ, ℤ, Bool, true, false, cond, not, List, ◌⊎◌, inl, inr, ⊎_elim}
use Rattle.std.specs.Ordering.{int_eq}
use Rattle.logic_term.specs.Matches.{seen, same_ctor, same_flag, is_number, is_flag, is_made, matches, match_all, variant_number}
use Rattle.logic_term.specs.Pattern.{Pat, Pats, wild, bound, literal, truth, shape, no_pats, and_pat}
use Rattle.logic_term.specs.Value.{Value, Values, Number, Flag, Made, Pair, no_values, and_value, parts_of}
use Rattle.logic_term.specs.declared.kinds.Ctor.{Ctor}
use Rattle.logic_term.specs.declared.pattern.PatStep.{PatStep}
use Rattle.pat_check.proofs.Tests.{both, and_of, and_left, and_right, int_same, int_self, int_differ, number_is, flag_is, flags_same, flag_self, ctor_same, made_is}
use Rattle.pat_check.specs.Known.{Known, Knowns, anything, other, number, flag, built, no_knowns, and_known, among, is_other, agrees, agree_all}
use Rattle.pat_check.specs.Status.{Status, fails, sure, asks, also, first, later, status, statuses}
use Rattle.pat_check.specs.declared.test.Test.{Test}

-- ---- statuses put together

pub also_sure : (s t : Status) → also s t ≡ sure → (s ≡ sure) × (t ≡ sure)
also_sure fails t e = absurd (cc)
also_sure sure t e = (refl, e)
also_sure (asks p w) fails e = absurd (cc)
also_sure (asks p w) sure e = absurd (cc)
also_sure (asks p w) (asks q x) e = absurd (cc)

pub also_fails : (s t : Status) → also s t ≡ fails → (s ≡ fails) ⊎ (t ≡ fails)
also_fails fails t e = inl refl
also_fails sure t e = inr e
also_fails (asks p w) fails e = inr refl
also_fails (asks p w) sure e = absurd (cc)
also_fails (asks p w) (asks q x) e = absurd (cc)

pub first_sure : (n : ℕ) (s : Status) → first n s ≡ sure → s ≡ sure
first_sure n fails e = absurd (cc)
first_sure n sure e = refl
first_sure n (asks p w) e = absurd (cc)

pub first_fails : (n : ℕ) (s : Status) → first n s ≡ fails → s ≡ fails
first_fails n fails e = refl
first_fails n sure e = absurd (cc)
first_fails n (asks p w) e = absurd (cc)

pub later_sure : (s : Status) → later s ≡ sure → s ≡ sure
later_sure fails e = absurd (cc)
later_sure sure e = refl
later_sure (asks p w) e = absurd (cc)

pub later_fails : (s : Status) → later s ≡ fails → s ≡ fails
later_fails fails e = refl
later_fails sure e = absurd (cc)
later_fails (asks p w) e = absurd (cc)

pub if_sure : (b : Bool) (s : Status) → cond b s fails ≡ sure → (b ≡ true) × (s ≡ sure)
if_sure true s e = (refl, e)
if_sure false s e = absurd (cc)

pub if_fails : (b : Bool) (s : Status) → cond b s fails ≡ fails → (b ≡ false) ⊎ (s ≡ fails)
if_fails true s e = inr e
if_fails false s e = inl refl

not_sure_fails : {P : Type 0} → sure ≡ fails → P
not_sure_fails e = absurd (cc)

pub asked_fails : (b : Bool) (p : List PatStep) (w : Test) → cond b fails (asks p w) ≡ fails → b ≡ true
asked_fails true p w e = refl
asked_fails false p w e = absurd (cc)

asked_sure : {P : Type 0} (b : Bool) (p : List PatStep) (w : Test) → cond b fails (asks p w) ≡ sure → P
asked_sure true p w e = absurd (cc)
asked_sure false p w e = absurd (cc)

-- ---- a value of which this is known is matched

pub number_at : (z : ℤ) (v : Value) → v ≡ Number z → is_number z v ≡ true
number_at z v e = subst (λ u. is_number z u ≡ true) (sym e) (int_self z)

pub flag_at : (b : Bool) (v : Value) → v ≡ Flag b → is_flag b v ≡ true
flag_at b v e = subst (λ u. is_flag b u ≡ true) (sym e) (flag_self b)

mutual
  pub sure_matches : (p : Pat) (k : Known) (v : Value) → status p k ≡ sure → agrees k v ≡ true → matches p v ≡ true
  sure_matches (wild u) k v s a = refl
  sure_matches (bound u x m) k v s a = refl
  sure_matches (literal u t z) anything v s a = absurd (cc)
  sure_matches (literal u t z) (other j zs) v s a = asked_sure (among z zs) _ _ s
  sure_matches (literal u t z) (number y) v s a = number_at z (seen v) (number_is y (seen v) a ∙ ap Number (sym (int_same z y (if_sure (int_eq z y) sure s).0)))
  sure_matches (literal u t z) (flag b) v s a = absurd (cc)
  sure_matches (literal u t z) (built c ks) v s a = absurd (cc)
  sure_matches (truth u b) anything v s a = absurd (cc)
  sure_matches (truth u b) (other j zs) v s a = absurd (cc)
  sure_matches (truth u b) (number y) v s a = absurd (cc)
  sure_matches (truth u b) (flag c) v s a = flag_at b (seen v) (flag_is c (seen v) a ∙ ap Flag (sym (flags_same b c (if_sure (same_flag b c) sure s).0)))
  sure_matches (truth u b) (built c ks) v s a = absurd (cc)
  sure_matches (shape u c ps) anything v s a = absurd (cc)
  sure_matches (shape u c ps) (other j zs) v s a = absurd (cc)
  sure_matches (shape u c ps) (number y) v s a = absurd (cc)
  sure_matches (shape u c ps) (flag b) v s a = absurd (cc)
  sure_matches (shape u c ps) (built e ks) v s a =
      let h = if_sure (same_ctor c e) (statuses (variant_number c) ps ks) s in
      let g = both (is_made e (seen v)) _ a in
      and_of _ _ (subst (λ d. is_made d (seen v) ≡ true) (sym (ctor_same c e h.0)) g.0) (sure_match_all (variant_number c) ps ks (parts_of (seen v)) h.1 g.1)

  pub sure_match_all : (n : ℕ) (ps : Pats) (ks : Knowns) (vs : Values) → statuses n ps ks ≡ sure → agree_all ks vs ≡ true → match_all ps vs ≡ true
  sure_match_all n no_pats no_knowns no_values s a = refl
  sure_match_all n no_pats no_knowns (and_value v vs) s a = absurd (cc)
  sure_match_all n no_pats (and_known k ks) vs s a = absurd (cc)
  sure_match_all n (and_pat p ps) no_knowns vs s a = absurd (cc)
  sure_match_all n (and_pat p ps) (and_known k ks) no_values s a = absurd (cc)
  sure_match_all n (and_pat p ps) (and_known k ks) (and_value v vs) s a =
      let h = also_sure (first n (status p k)) (later (statuses n ps ks)) s in
      let g = both (agrees k v) _ a in
      and_of _ _ (sure_matches p k v (first_sure n (status p k) h.0) g.0) (sure_match_all n ps ks vs (later_sure (statuses n ps ks) h.1) g.1)

-- ---- no value of which this is known is matched

not_true : (b : Bool) → not b ≡ true → b ≡ false
not_true true e = absurd (cc)
not_true false e = refl

other_at : (z : ℤ) (zs : List ℤ) (v : Value) → among z zs ≡ true → is_other zs v ≡ true → is_number z v ≡ false
other_at z zs (Number y) m o = int_differ z y (λ e. absurd (let h = subst (λ x. among x zs ≡ true) e m in let g = not_true (among y zs) o in (cc)))
other_at z zs (Flag b) m o = refl
other_at z zs (Made c vs) m o = refl
other_at z zs (Pair v w) m o = refl

number_other : (z y : ℤ) (v : Value) → int_eq z y ≡ false → v ≡ Number y → is_number z v ≡ false
number_other z y v d e = subst (λ u. is_number z u ≡ false) (sym e) d

flag_other : (b c : Bool) (v : Value) → same_flag b c ≡ false → v ≡ Flag c → is_flag b v ≡ false
flag_other b c v d e = subst (λ u. is_flag b u ≡ false) (sym e) d

made_other : (c e : Ctor) (v : Value) → same_ctor c e ≡ false → is_made e v ≡ true → is_made c v ≡ false
made_other c e v d m = subst (λ u. is_made c u ≡ false) (sym (made_is e v m)) d

flag_no_number : (z : ℤ) (b : Bool) (v : Value) → is_flag b v ≡ true → is_number z v ≡ false
flag_no_number z b v a = subst (λ u. is_number z u ≡ false) (sym (flag_is b v a)) refl

made_no_number : (z : ℤ) (c : Ctor) (v : Value) → is_made c v ≡ true → is_number z v ≡ false
made_no_number z c v a = subst (λ u. is_number z u ≡ false) (sym (made_is c v a)) refl

other_no_flag : (b : Bool) (zs : List ℤ) (v : Value) → is_other zs v ≡ true → is_flag b v ≡ false
other_no_flag b zs (Number y) o = refl
other_no_flag b zs (Flag c) o = absurd (cc)
other_no_flag b zs (Made c vs) o = refl
other_no_flag b zs (Pair v w) o = refl

number_no_flag : (b : Bool) (y : ℤ) (v : Value) → is_number y v ≡ true → is_flag b v ≡ false
number_no_flag b y v a = subst (λ u. is_flag b u ≡ false) (sym (number_is y v a)) refl

made_no_flag : (b : Bool) (c : Ctor) (v : Value) → is_made c v ≡ true → is_flag b v ≡ false
made_no_flag b c v a = subst (λ u. is_flag b u ≡ false) (sym (made_is c v a)) refl

other_not_made : (c : Ctor) (zs : List ℤ) (v : Value) → is_other zs v ≡ true → is_made c v ≡ false
other_not_made c zs (Number y) o = refl
other_not_made c zs (Flag b) o = refl
other_not_made c zs (Made e vs) o = absurd (cc)
other_not_made c zs (Pair v w) o = refl

number_not_made : (c : Ctor) (y : ℤ) (v : Value) → is_number y v ≡ true → is_made c v ≡ false
number_not_made c y v a = subst (λ u. is_made c u ≡ false) (sym (number_is y v a)) refl

flag_not_made : (c : Ctor) (b : Bool) (v : Value) → is_flag b v ≡ true → is_made c v ≡ false
flag_not_made c b v a = subst (λ u. is_made c u ≡ false) (sym (flag_is b v a)) refl

mutual
  pub fails_match : (p : Pat) (k : Known) (v : Value) → status p k ≡ fails → agrees k v ≡ true → matches p v ≡ false
  fails_match (wild u) k v s a = absurd (cc)
  fails_match (bound u x m) k v s a = absurd (cc)
  fails_match (literal u t z) anything v s a = absurd (cc)
  fails_match (literal u t z) (other j zs) v s a = other_at z zs (seen v) (asked_fails (among z zs) _ _ s) a
  fails_match (literal u t z) (number y) v s a = ⊎_elim (λ d. number_other z y (seen v) d (number_is y (seen v) a)) not_sure_fails (if_fails (int_eq z y) sure s)
  fails_match (literal u t z) (flag b) v s a = flag_no_number z b (seen v) a
  fails_match (literal u t z) (built c ks) v s a = made_no_number z c (seen v) (both (is_made c (seen v)) _ a).0
  fails_match (truth u b) anything v s a = absurd (cc)
  fails_match (truth u b) (other j zs) v s a = other_no_flag b zs (seen v) a
  fails_match (truth u b) (number y) v s a = number_no_flag b y (seen v) a
  fails_match (truth u b) (flag c) v s a = ⊎_elim (λ d. flag_other b c (seen v) d (flag_is c (seen v) a)) not_sure_fails (if_fails (same_flag b c) sure s)
  fails_match (truth u b) (built c ks) v s a = made_no_flag b c (seen v) (both (is_made c (seen v)) _ a).0
  fails_match (shape u c ps) anything v s a = absurd (cc)
  fails_match (shape u c ps) (other j zs) v s a = and_left _ _ (other_not_made c zs (seen v) a)
  fails_match (shape u c ps) (number y) v s a = and_left _ _ (number_not_made c y (seen v) a)
  fails_match (shape u c ps) (flag b) v s a = and_left _ _ (flag_not_made c b (seen v) a)
  fails_match (shape u c ps) (built e ks) v s a =
      let g = both (is_made e (seen v)) _ a in
      ⊎_elim
      (λ d. and_left _ _ (made_other c e (seen v) d g.0))
      (λ f. and_right (is_made c (seen v)) _ (fails_match_all (variant_number c) ps ks (parts_of (seen v)) f g.1))
      (if_fails (same_ctor c e) (statuses (variant_number c) ps ks) s)

  pub fails_match_all : (n : ℕ) (ps : Pats) (ks : Knowns) (vs : Values) → statuses n ps ks ≡ fails → agree_all ks vs ≡ true → match_all ps vs ≡ false
  fails_match_all n no_pats no_knowns vs s a = absurd (cc)
  fails_match_all n no_pats (and_known k ks) no_values s a = absurd (cc)
  fails_match_all n no_pats (and_known k ks) (and_value v vs) s a = refl
  fails_match_all n (and_pat p ps) no_knowns no_values s a = refl
  fails_match_all n (and_pat p ps) no_knowns (and_value v vs) s a = absurd (cc)
  fails_match_all n (and_pat p ps) (and_known k ks) no_values s a = absurd (cc)
  fails_match_all n (and_pat p ps) (and_known k ks) (and_value v vs) s a =
      let g = both (agrees k v) _ a in
      ⊎_elim
      (λ f. and_left _ _ (fails_match p k v (first_fails n (status p k) f) g.0))
      (λ f. and_right (matches p v) _ (fails_match_all n ps ks vs (later_fails (statuses n ps ks) f) g.1))
      (also_fails (first n (status p k)) (later (statuses n ps ks)) s)
