-- What is printed of a list is printed of its elements.
use Rattle.std.specs.Prelude.{◌≡◌, ℕ, List, [], ◌∷◌, ◌++◌, Bool, Option, codes, flat_map, length, map, reverse, suc, ◌==◌, false, Result, Ok, Err, OnOk}
use Rattle.std.proofs.Common.{refl, sym, ap, ◌∙◌, true≢false}
use Rattle.std.proofs.lemmas.List.{append_assoc, reverse-append}
use Rattle.std.specs.Borrow.{Bor}
use Rattle.text_core.specs.declared.name.Name.{Name}
use Rattle.logic_term.specs.declared.declaration.FieldDecl.{FieldDecl}
use Rattle.logic_term.specs.Ty.{Ty}
use Rattle.logic_term.specs.Term.{Term}
use Rattle.logic_term.specs.TyView.{tys_of}
use Rattle.logic_term.specs.TermView.{terms_of}
use Rattle.goal_text.specs.Spelling.{Spelling, is_numbered, label_text, first_field, other_fields, labelled, opening_text, closing_text}
use Rattle.goal_text.specs.SortText.{arguments_text, commas, sort_text, sort_texts, tuple_end}
use Rattle.goal_text.specs.GoalText.{fields_text, made_text, text_in, texts_in}
use Rattle.goal_text.specs.TasksView.{Around, after_commas, left_text}
use Rattle.goal_text.specs.declared.term.Task.{Task}
use Rattle.goal_text.specs.declared.term.Task.TheVariants as task
use Rattle.logic_term.specs.declared.kinds.Ctor.{Ctor}
use Rattle.logic_term.specs.declared.kinds.Ctor.TheVariants.{Tuple}

pub sort_texts_count : (w : Spelling) (ts : List Ty) → length (sort_texts w (tys_of ts)) ≡ length ts
sort_texts_count w [] = refl
sort_texts_count w (t ∷ ts) = ap suc (sort_texts_count w ts)

pub texts_count : (w : Spelling) (bound : List (Name × Ty)) (ts : List Term) → length (texts_in w bound (terms_of ts)) ≡ length ts
texts_count w bound [] = refl
texts_count w bound (t ∷ ts) = ap suc (texts_count w bound ts)

pub other_sorts : (w : Spelling) (ts : List Ty) → flat_map (λ part. codes ", " ++ part) (sort_texts w (tys_of ts))
    ≡ flat_map (λ t. codes ", " ++ sort_text w t) ts
other_sorts w [] = refl
other_sorts w (t ∷ ts) = ap (λ rest. (codes ", " ++ sort_text w t) ++ rest) (other_sorts w ts)

some_arguments : (w : Spelling) (ts : List Ty) → (length ts == 0) ≡ false → arguments_text (sort_texts w (tys_of ts)) ≡ codes "<" ++ commas (sort_texts w (tys_of ts)) ++ codes ">"
some_arguments w [] e = absurd (true≢false e)
some_arguments w (t ∷ ts) e = refl

-- the arguments of a type, where there are some
pub arguments_from : {A E : Type 0} (w : Spelling) (ts : List Ty) (start out : List ℕ) (r : Result A E) → (length ts == 0) ≡ false →
    OnOk r (out ≡ start ++ (codes "<" ++ commas (sort_texts w (tys_of ts)) ++ codes ">")) → OnOk r (out ≡ start ++ arguments_text (sort_texts w (tys_of ts)))
arguments_from w ts start out (Ok x) some h = h ∙ ap (λ l. start ++ l) (sym (some_arguments w ts some))
arguments_from w ts start out (Err e) some h = tt

-- the first element, and then each other one after a comma
pub joined_sorts : (w : Spelling) (start mid : List ℕ) (first : Ty) (others sorts : List Ty) → sorts ≡ first ∷ others → mid ≡ start ++ sort_text w first →
    (out : List ℕ) → out ≡ mid ++ flat_map (λ t. codes ", " ++ sort_text w t) others → out ≡ start ++ commas (sort_texts w (tys_of sorts))
joined_sorts w start mid first others sorts sorts_is mid_is out out_is =
    rw (out_is, mid_is, sorts_is, other_sorts w others)
    (append_assoc start (sort_text w first) (flat_map (λ t. codes ", " ++ sort_text w t) others))

-- ---- the tasks of what is made of parts

pub texts_mapped : (w : Spelling) (bound : Around) (ts : List Term) → texts_in w bound (terms_of ts) ≡ map (text_in w bound) ts
texts_mapped w bound [] = refl
texts_mapped w bound (t ∷ ts) = ap (λ l. text_in w bound t ∷ l) (texts_mapped w bound ts)

two_pushed : {A : Type 0} (old p q : List A) (x y : A) → p ≡ old ++ x ∷ [] → q ≡ p ++ y ∷ [] → reverse q ≡ y ∷ x ∷ reverse old
two_pushed old p q x y a b = ap reverse b ∙ reverse-append p (y ∷ []) ∙ ap (λ l. y ∷ l) (ap reverse a ∙ reverse-append old (x ∷ []))

-- a term between a text that was printed and a task
pub unary_said : (w : Spelling) (bs : Around) (t : Bor Term) (after : Task) (old p q : List Task) (out mid before U : List ℕ) → p ≡ old ++ after ∷ [] → q ≡ p ++ task.Term t ∷ [] → mid ≡ out ++ before
    → U ≡ before ++ (text_in w bs t.now ++ left_text w bs (after ∷ [])) → left_text w bs (after ∷ reverse old) ≡ left_text w bs (after ∷ []) ++ left_text w bs (reverse old)
    → mid ++ left_text w bs (reverse q) ≡ out ++ (U ++ left_text w bs (reverse old))
unary_said w bs t after old p q out mid before U a b m u alone =
    ap (λ ts. mid ++ left_text w bs ts) (two_pushed old p q after (task.Term t) a b)
    ∙ ap (λ l. mid ++ (text_in w bs t.now ++ l)) alone
    ∙ regrouped out mid before (text_in w bs t.now) (left_text w bs (after ∷ [])) (left_text w bs (reverse old)) m
    ∙ ap (λ l. out ++ (l ++ left_text w bs (reverse old))) (sym u)
  where
    regrouped : (out mid before x y z : List ℕ) → mid ≡ out ++ before → mid ++ (x ++ (y ++ z)) ≡ out ++ ((before ++ (x ++ y)) ++ z)
    regrouped out mid before x y z m = ap (λ l. l ++ (x ++ (y ++ z))) m ∙ append_assoc out before (x ++ (y ++ z)) ∙ ap (λ l. out ++ l) (sym (append_assoc before (x ++ y) z ∙ ap (λ l. before ++ l) (append_assoc x y z)))

three_pushed : {A : Type 0} (old p q r : List A) (x y z : A) → p ≡ old ++ x ∷ [] → q ≡ p ++ y ∷ [] → r ≡ q ++ z ∷ [] → reverse r ≡ z ∷ y ∷ x ∷ reverse old
three_pushed old p q r x y z a b c =
    ap reverse c ∙ reverse-append q (z ∷ []) ∙ ap (λ l. z ∷ l) (ap reverse b ∙ reverse-append p (y ∷ []) ∙ ap (λ l. y ∷ l) (ap reverse a ∙ reverse-append old (x ∷ [])))

module _ (w : Spelling) (bs : Around) (first : Bor Term) (others : Bor (List Term)) (parts : List Term) (parts_is : parts ≡ first.now ∷ others.now) (old p q r : List Task) where
  -- the first part, the others and the word behind them
  pub parts_said : (start mid before : List ℕ) (after : Bor (List ℕ)) → mid ≡ start ++ before → p ≡ old ++ task.Text after ∷ [] → q ≡ p ++ task.Others others ∷ [] → r ≡ q ++ task.Term first ∷ [] →
      mid ++ left_text w bs (reverse r) ≡ start ++ (((before ++ commas (texts_in w bs (terms_of parts))) ++ after.now) ++ left_text w bs (reverse old))
  parts_said start mid before after mid_is a b c =
      let f : List ℕ = text_in w bs first.now in
      let m : List ℕ = after_commas (map (text_in w bs) others.now) in
      let l : List ℕ = left_text w bs (reverse old) in
      let sum : (start ++ before) ++ (f ++ (m ++ (after.now ++ l))) ≡ start ++ (((before ++ (f ++ m)) ++ after.now) ++ l) = simp append_assoc in
      (λ i. mid_is i ++ left_text w bs (three_pushed old p q r (task.Text after) (task.Others others) (task.Term first) a b c i))
      ∙ sum
      ∙ sym (ap (λ ps. start ++ (((before ++ commas (texts_in w bs (terms_of ps))) ++ after.now) ++ l)) parts_is
      ∙ ap (λ ts. start ++ (((before ++ (f ++ after_commas ts)) ++ after.now) ++ l)) (texts_mapped w bs others.now))

  -- the values of fields
  pub fields_said : (fields : List FieldDecl) (numbered : Bool) (label : Option FieldDecl) (rest : Bor (List FieldDecl)) (closing : Bor (List ℕ)) (start opening opened said : List ℕ) →
      numbered ≡ is_numbered w fields → label ≡ first_field fields → rest.now ≡ other_fields fields → opening ≡ opening_text numbered → closing.now ≡ closing_text numbered →
      opened ≡ start ++ opening → said ≡ opened ++ label_text w numbered label →
      p ≡ old ++ task.Text closing ∷ [] → q ≡ p ++ task.OtherFields numbered rest others ∷ [] → r ≡ q ++ task.Term first ∷ [] →
      said ++ left_text w bs (reverse r) ≡ start ++ (fields_text w fields (texts_in w bs (terms_of parts)) ++ left_text w bs (reverse old))
  fields_said fields numbered label rest closing start opening opened said n_is l_is r_is o_is c_is e g a b c =
      let f : List ℕ = text_in w bs first.now in
      let mark : List ℕ = label_text w numbered label in
      let m : List ℕ = after_commas (labelled w numbered rest.now (map (text_in w bs) others.now)) in
      let l : List ℕ = left_text w bs (reverse old) in
      let sum : ((start ++ opening) ++ mark) ++ (f ++ (m ++ (closing.now ++ l))) ≡ start ++ (((opening ++ ((mark ++ f) ++ m)) ++ closing.now) ++ l) = simp append_assoc in
      let whole : List ℕ → List ℕ → Bool → Option FieldDecl → List FieldDecl → List (List ℕ) → List ℕ =
      λ o z k x fs ts. start ++ (((o ++ ((label_text w k x ++ f) ++ after_commas (labelled w k fs ts))) ++ z) ++ l) in
      let opens : opening ≡ opening_text (is_numbered w fields) = o_is ∙ ap opening_text n_is in
      let closes : closing.now ≡ closing_text (is_numbered w fields) = c_is ∙ ap closing_text n_is in
      (λ i. (g ∙ ap (λ s. s ++ mark) e) i ++ left_text w bs (three_pushed old p q r (task.Text closing) (task.OtherFields numbered rest others) (task.Term first) a b c i))
      ∙ sum
      ∙ (λ i. whole (opens i) (closes i) (n_is i) (l_is i) (r_is i) (sym (texts_mapped w bs others.now) i))
      ∙ sym (ap (λ ps. start ++ (fields_text w fields (texts_in w bs (terms_of ps)) ++ l)) parts_is)

-- a tuple
pub tuple_said : (w : Spelling) (bs : Around) (parts : List Term) (ctor : Ctor) (after start rest out : List ℕ) → ctor ≡ Tuple → after ≡ tuple_end (length parts) →
    out ≡ start ++ (((codes "(" ++ commas (texts_in w bs (terms_of parts))) ++ after) ++ rest) → out ≡ start ++ (made_text w ctor (texts_in w bs (terms_of parts)) ++ rest)
tuple_said w bs parts ctor after start rest out is e h =
    h ∙ ap (λ z. start ++ (((codes "(" ++ commas (texts_in w bs (terms_of parts))) ++ z) ++ rest)) (e ∙ ap tuple_end (sym (texts_count w bs parts)))
    ∙ sym (ap (λ c. start ++ (made_text w c (texts_in w bs (terms_of parts)) ++ rest)) is)
