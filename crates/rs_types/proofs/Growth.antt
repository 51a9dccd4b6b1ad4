-- Cases that are added.
use Rattle.std.proofs.Common.{◌≡◌, ℕ, zero, suc, ◌+◌, ◌<◌, ◌≤◌, List, [], ◌∷◌, ◌++◌, append-nil, drop, get_or, length, map, refl, sym, ap, ◌∙◌, subst, arith}
use Rattle.std.proofs.lemmas.List.{append_assoc, length-append}
use Rattle.logic_term.specs.Theory.{field_ty}
use Rattle.logic_term.specs.Ty.{Ty}
use Rattle.logic_term.specs.TyView.{tys_of}
use Rattle.logic_term.specs.declared.declaration.AdtDecl.{AdtDecl}
use Rattle.logic_term.specs.declared.declaration.FieldDecl.{FieldDecl}
use Rattle.logic_term.specs.declared.declaration.VariantDecl.{VariantDecl}
use Rattle.rs_types.specs.declared.weighing.Case.{Case}
use Rattle.rs_types.specs.declared.weighing.Question.{Question}
use Rattle.rs_types.proofs.Cases.{case_at}
use Rattle.rs_types.specs.Weighing.{field_types, reweighed, roots_from, variants_at, AllAsked, AreAsked, AreNew, EachAsked, Grows, IsAsked, ComesOf, round, Settled}

pub nothing_added : (cs : List Case) → Grows cs cs
nothing_added cs = record { more = []; is = sym (append-nil cs); new = tt }

pub one_added : (cs after : List Case) (c : Case) → after ≡ cs ++ c ∷ [] → c.weight ≡ 0 → Grows cs after
one_added cs after c e w = record { more = c ∷ []; is = e; new = (w, tt) }

pub one_longer : (cs after : List Case) (c : Case) → after ≡ cs ++ c ∷ [] → length after ≡ length cs → ⊥
one_longer cs after c e l =
    let f : length after ≡ length cs + 1 = ap length e ∙ length-append cs (c ∷ []) in
    omega arith

both_new : (cs more : List Case) → AreNew cs → AreNew more → AreNew (cs ++ more)
both_new [] more h g = g
both_new (c ∷ cs) more h g = (h.0, both_new cs more h.1 g)

pub more_added : (cs mid after : List Case) → Grows cs mid → Grows mid after → Grows cs after
more_added cs mid after g h = record {
  more = g.more ++ h.more;
  is = h.is ∙ ap (λ x. x ++ h.more) g.is ∙ append_assoc cs g.more h.more;
  new = both_new g.more h.more g.new h.new;
}

pub longer : (cs after : List Case) → Grows cs after → length cs ≤ length after
longer cs after g =
    let e : length after ≡ length cs + length g.more = ap length g.is ∙ length-append cs g.more in
    omega arith

none_more : (more : List Case) → length more ≡ 0 → more ≡ []
none_more [] e = refl
none_more (c ∷ more) e = absurd (omega arith)

pub as_long : (cs after : List Case) → Grows cs after → length after ≡ length cs → after ≡ cs
as_long cs after g l =
    let e : length after ≡ length cs + length g.more = ap length g.is ∙ length-append cs g.more in
    let none : g.more ≡ [] = none_more g.more (omega arith) in
    g.is ∙ ap (λ m. cs ++ m) none ∙ append-nil cs

-- nothing was added on the way where nothing was in the end
pub on_the_way : (cs mid after : List Case) → Grows cs mid → Grows mid after → length after ≡ length cs → (mid ≡ cs) × (length after ≡ length mid)
on_the_way cs mid after g h l =
    let a : length cs ≤ length mid = longer cs mid g in
    let b : length mid ≤ length after = longer mid after h in
    (as_long cs mid g (omega arith), omega arith)

-- one part more is asked of after the others
pub one_more : {Rest All : Type 0} (One : List Case → Type 0) (cs mid after : List Case) → Grows cs mid → (length mid ≡ length cs → Rest) → Grows mid after → (length after ≡ length mid → One mid)
    → (One cs → Rest → All) → Grows cs after × (length after ≡ length cs → All)
one_more One cs mid after g rest h one all = (
  more_added cs mid after g h,
  λ l. let w = on_the_way cs mid after g h l in all (subst One w.0 (one w.1)) (rest (ap length w.0)),
)

-- ---- lists of parts, from the end

pub all_dropped : {X : Type 0} (xs : List X) → drop (length xs) xs ≡ []
all_dropped [] = refl
all_dropped (x ∷ xs) = all_dropped xs

module _ (q : Question) (cs : List Case) (g : List ℕ) where
  pub no_types : (ts : List Ty) → AreAsked q cs g (tys_of (drop (length ts) ts))
  no_types ts = subst (λ x. AreAsked q cs g (tys_of x)) (sym (all_dropped ts)) tt

  pub no_fields : (fs : List FieldDecl) → AreAsked q cs g (tys_of (map field_ty (drop (length fs) fs)))
  no_fields fs = subst (λ x. AreAsked q cs g (tys_of (map field_ty x))) (sym (all_dropped fs)) tt

  pub no_variants : (vs : List VariantDecl) → AllAsked q cs g (drop (length vs) vs)
  no_variants vs = subst (AllAsked q cs g) (sym (all_dropped vs)) tt

  pub next_type : (ts : List Ty) (j : ℕ) (t : Ty) → t ≡ get_or ts j t → j < length ts → IsAsked q cs g t → AreAsked q cs g (tys_of (drop (suc j) ts)) → AreAsked q cs g (tys_of (drop j ts))
  next_type [] j t e l a h = absurd (omega arith)
  next_type (u ∷ ts) zero t e l a h = (subst (IsAsked q cs g) e a, h)
  next_type (u ∷ ts) (suc j) t e l a h = next_type ts j t e (omega arith) a h

  pub next_field : (fs : List FieldDecl) (j : ℕ) (f : FieldDecl) → f ≡ get_or fs j f → j < length fs → IsAsked q cs g f.ty → AreAsked q cs g (tys_of (map field_ty (drop (suc j) fs)))
      → AreAsked q cs g (tys_of (map field_ty (drop j fs)))
  next_field [] j f e l a h = absurd (omega arith)
  next_field (u ∷ fs) zero f e l a h = (subst (λ x. IsAsked q cs g x.ty) e a, h)
  next_field (u ∷ fs) (suc j) f e l a h = next_field fs j f e (omega arith) a h

  pub next_variant : (vs : List VariantDecl) (j : ℕ) (v : VariantDecl) → v ≡ get_or vs j v → j < length vs → AreAsked q cs g (field_types v) → AllAsked q cs g (drop (suc j) vs) → AllAsked q cs g (drop j vs)
  next_variant [] j v e l a h = absurd (omega arith)
  next_variant (u ∷ vs) zero v e l a h = (subst (λ x. AreAsked q cs g (field_types x)) e a, h)
  next_variant (u ∷ vs) (suc j) v e l a h = next_variant vs j v e (omega arith) a h

module _ (q : Question) (ds : List AdtDecl) (cs : List Case) where
  pub no_cases : (left : List Case) → EachAsked q ds cs (drop (length left) left)
  no_cases left = subst (EachAsked q ds cs) (sym (all_dropped left)) tt

  pub next_case : (left : List Case) (j : ℕ) (c : Case) → c ≡ get_or left j c → j < length left → AllAsked q cs c.given (variants_at ds c.adt) → EachAsked q ds cs (drop (suc j) left) → EachAsked q ds cs (drop j left)
  next_case [] j c e l a h = absurd (omega arith)
  next_case (u ∷ left) zero c e l a h = (subst (λ x. AllAsked q cs x.given (variants_at ds x.adt)) e a, h)
  next_case (u ∷ left) (suc j) c e l a h = next_case left j c e (omega arith) a h

module _ (q : Question) (ds : List AdtDecl) where
  pub one_round : (cs next : List Case) → ComesOf q ds cs → Grows (map (reweighed q ds cs) cs) next → ComesOf q ds next
  one_round cs next c g = round c g

  same_long : (old cs : List Case) → length (map (reweighed q ds old) cs) ≡ length cs
  same_long old [] = refl
  same_long old (c ∷ cs) = ap suc (same_long old cs)

  pub settled : (cs mid next : List Case) → mid ≡ map (reweighed q ds cs) cs → ComesOf q ds cs → Grows mid next → (length next ≡ length mid → EachAsked q ds mid cs) → next ≡ cs → Settled q ds cs
  settled cs mid next m c g a e =
      let l : length next ≡ length mid = ap length e ∙ sym (same_long cs cs) ∙ ap length (sym m) in
      let same : mid ≡ cs = sym (as_long mid next g l) ∙ e in
      record { comes = c; same = sym m ∙ same; asked = subst (λ x. EachAsked q ds x cs) same (a l) }

-- ---- the first cases

root_first : (n k : ℕ) (ds : List AdtDecl) → k < length ds → roots_from n (drop k ds) ≡ case_at n [] 0 ∷ roots_from (suc n) (drop (suc k) ds)
root_first n k [] l = absurd (omega arith)
root_first n zero (d ∷ ds) l = refl
root_first n (suc k) (d ∷ ds) l = root_first n k ds (omega arith)

pub one_root_more : (ds : List AdtDecl) (d : ℕ) (cs after whole : List Case) (c : Case) → d < length ds → after ≡ cs ++ c ∷ [] → c ≡ case_at d [] 0 → cs ++ roots_from d (drop d ds) ≡ whole
    → after ++ roots_from (d + 1) (drop (d + 1) ds) ≡ whole
one_root_more ds d cs after whole c l pushed is so_far =
    let more : suc d ≡ d + 1 = grind arith in
    ap (λ x. x ++ roots_from (d + 1) (drop (d + 1) ds)) pushed
    ∙ append_assoc cs (c ∷ []) (roots_from (d + 1) (drop (d + 1) ds))
    ∙ ap (λ x. cs ++ x ∷ roots_from (d + 1) (drop (d + 1) ds)) is
    ∙ ap (λ k. cs ++ case_at d [] 0 ∷ roots_from k (drop k ds)) (sym more)
    ∙ ap (λ x. cs ++ x) (sym (root_first d d ds l))
    ∙ so_far
