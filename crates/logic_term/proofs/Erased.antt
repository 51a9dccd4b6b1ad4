-- A type and its sort have the same values.
use Rattle.std.proofs.Common.{◌≡◌, ℕ, zero, suc, refl, sym, ap, ap₂, ◌∙◌, []}
use Rattle.logic_term.specs.Ty.{Ty, Tys, int, bool, math_int, tuple, adt, boxed, shared, unique, param, closure, viewed, snapshot, no_tys, and_ty}
use Rattle.logic_term.specs.Value.{Value, Values, Number, Flag, Made, Pair, no_values, and_value, parts_of, first_value, other_values}
use Rattle.logic_term.specs.Sort.{Declarations, nth_ty, instance, instances, HasSort, HaveSorts, of_tuple, of_adt, of_closure, of_boxed, of_shared, of_snapshot, of_unique, of_more}
use Rattle.logic_term.specs.Erased.{erased, all_erased}
use Rattle.logic_term.proofs.SortParts.{parts, all_parts}

-- what is left when snapshots are opened too
abbrev mutual
  core : Ty → Ty
  core (int k) = int k
  core bool = bool
  core math_int = math_int
  core (tuple ts) = tuple (cores ts)
  core (adt d rs ts) = adt d [] (cores ts)
  core (boxed t) = core t
  core (shared r t) = core t
  core (unique r t) = unique (record { 0 = 0 }) (core t)
  core (param n) = param n
  core (closure n ts cs k ps r) = closure n (cores ts) (cores cs) k (cores ps) (core r)
  core (viewed t) = viewed (core t)
  core (snapshot t) = core t

  cores : Tys → Tys
  cores no_tys = no_tys
  cores (and_ty t ts) = and_ty (core t) (cores ts)

nth_core : (ts : Tys) (n : ℕ) → core (nth_ty ts n) ≡ nth_ty (cores ts) n
nth_core no_tys n = refl
nth_core (and_ty t ts) zero = refl
nth_core (and_ty t ts) (suc n) = nth_core ts n

-- the core of an instance rests on the cores
mutual
  core_instance : (θ η : Tys) → cores θ ≡ cores η → (t : Ty) → core (instance θ t) ≡ core (instance η t)
  core_instance θ η e (int k) = refl
  core_instance θ η e bool = refl
  core_instance θ η e math_int = refl
  core_instance θ η e (tuple ts) = ap tuple (cores_instances θ η e ts)
  core_instance θ η e (adt d rs ts) = ap (adt d []) (cores_instances θ η e ts)
  core_instance θ η e (boxed t) = core_instance θ η e t
  core_instance θ η e (shared r t) = core_instance θ η e t
  core_instance θ η e (unique r t) = ap (unique (record { 0 = 0 })) (core_instance θ η e t)
  core_instance θ η e (param n) = nth_core θ n ∙ ap (λ ts. nth_ty ts n) e ∙ sym (nth_core η n)
  core_instance θ η e (closure n ts cs k ps r) = λ i. closure n (cores_instances θ η e ts i) (cores_instances θ η e cs i) k (cores_instances θ η e ps i) (core_instance θ η e r i)
  core_instance θ η e (viewed t) = ap viewed (core_instance θ η e t)
  core_instance θ η e (snapshot t) = core_instance θ η e t

  cores_instances : (θ η : Tys) → cores θ ≡ cores η → (ts : Tys) → cores (instances θ ts) ≡ cores (instances η ts)
  cores_instances θ η e no_tys = refl
  cores_instances θ η e (and_ty t ts) = ap₂ and_ty (core_instance θ η e t) (cores_instances θ η e ts)

mutual
  core_erased : (t : Ty) → core (erased t) ≡ core t
  core_erased (int k) = refl
  core_erased bool = refl
  core_erased math_int = refl
  core_erased (tuple ts) = ap tuple (cores_erased ts)
  core_erased (adt d rs ts) = ap (adt d []) (cores_erased ts)
  core_erased (boxed t) = core_erased t
  core_erased (shared r t) = core_erased t
  core_erased (unique r t) = ap (unique (record { 0 = 0 })) (core_erased t)
  core_erased (param n) = refl
  core_erased (closure n ts cs k ps r) = λ i. closure n (cores_erased ts i) (cores_erased cs i) k (cores_erased ps i) (core_erased r i)
  core_erased (viewed t) = ap viewed (core_erased t)
  core_erased (snapshot t) = core_erased t

  cores_erased : (ts : Tys) → cores (all_erased ts) ≡ cores ts
  cores_erased no_tys = refl
  cores_erased (and_ty t ts) = ap₂ and_ty (core_erased t) (cores_erased ts)

module _ (Δ : Declarations) where
  -- what the values of a core are, over types with that core
  abbrev Inside : Ty → Value → Type 0
  Inside (int k) v = HasSort Δ v (int k)
  Inside bool v = HasSort Δ v bool
  Inside math_int v = HasSort Δ v math_int
  Inside (tuple cs) v = (ts : Tys) × (cores ts ≡ cs) × HasSort Δ v (tuple ts)
  Inside (adt d rs cs) v = (ts : Tys) × (cores ts ≡ cs) × HasSort Δ v (adt d [] ts)
  Inside (boxed t) v = ⊥
  Inside (shared r t) v = ⊥
  Inside (unique r c) v = (t : Ty) × (core t ≡ c) × HasSort Δ v (unique r t)
  Inside (param n) v = ⊥
  Inside (closure n ts cs k ps r) v = (us : Tys) × (cores us ≡ cs) × ((ts' ps' : Tys) (k' : _) (r' : Ty) → HasSort Δ v (closure n ts' us k' ps' r'))
  Inside (viewed t) v = ⊥
  Inside (snapshot t) v = ⊥

  re_regions : (d : _) (rs qs : _) (ts : Tys) (v : Value) → HasSort Δ v (adt d rs ts) → HasSort Δ v (adt d qs ts)
  re_regions d rs qs ts v h = let p = parts Δ v (adt d rs ts) h in rw p.3 (of_adt {ts = ts} p.4 p.5)

  -- the value of a type is one of its core
  inside : (t : Ty) (v : Value) → HasSort Δ v t → Inside (core t) v
  inside (int k) v h = h
  inside bool v h = h
  inside math_int v h = h
  inside (tuple ts) v h = (ts, refl, h)
  inside (adt d rs ts) v h = (ts, refl, re_regions d rs [] ts v h)
  inside (boxed t) v h = inside t v (parts Δ v (boxed t) h)
  inside (shared r t) v h = inside t v (parts Δ v (shared r t) h)
  inside (unique r t) v h = let p = parts Δ v (unique r t) h in (t, refl, rw p.2 (of_unique p.3 p.4))
  inside (param n) v h = absurd (parts Δ v (param n) h)
  inside (closure n ts cs k ps r) v h = let p = parts Δ v (closure n ts cs k ps r) h in (cs, refl, λ ts' ps' k' r'. rw p.1 (of_closure p.2))
  inside (viewed t) v h = absurd (parts Δ v (viewed t) h)
  inside (snapshot t) v h = inside t v (parts Δ v (snapshot t) h)

  abbrev Carries : Value → Type 0
  Carries v = (t u : Ty) → core t ≡ core u → HasSort Δ v t → HasSort Δ v u

  abbrev CarryAll : Values → Type 0
  CarryAll vs = (ts us : Tys) → cores ts ≡ cores us → HaveSorts Δ vs ts → HaveSorts Δ vs us

  abbrev CarriesBoth : Value → Type 0
  CarriesBoth (Number z) = Unit {0}
  CarriesBoth (Flag b) = Unit {0}
  CarriesBoth (Made c vs) = Unit {0}
  CarriesBoth (Pair a b) = Carries a × Carries b

  outside : (u : Ty) (v : Value) → CarryAll (parts_of v) → CarriesBoth v → Inside (core u) v → HasSort Δ v u
  outside (int k) v a b h = h
  outside bool v a b h = h
  outside math_int v a b h = h
  outside (tuple us) v a b h = let p = parts Δ v (tuple h.0) h.2 in rw p.1 (of_tuple ((rw p.1 at a) h.0 us h.1 p.2))
  outside (adt d rs us) v a b h = let p = parts Δ v (adt d [] h.0) h.2 in rw p.3 (of_adt {ts = us} p.4 ((rw p.3 at a) (instances h.0 p.1) (instances us p.1) (cores_instances h.0 us h.1 p.1) p.5))
  outside (boxed u) v a b h = of_boxed (outside u v a b h)
  outside (shared r u) v a b h = of_shared (outside u v a b h)
  outside (unique r u) v a b h = let p = parts Δ v (unique (record { 0 = 0 }) h.0) h.2 in let c : CarriesBoth (Pair p.0 p.1) = rw p.2 at b in rw p.2 (of_unique (c.0 h.0 u h.1 p.3) (c.1 h.0 u h.1 p.4))
  outside (param n) v a b h = absurd h
  outside (closure n ts cs k ps r) v a b h = let p = parts Δ v (closure n ts h.0 k ps r) (h.2 ts ps k r) in rw p.1 (of_closure ((rw p.1 at a) h.0 cs h.1 p.2))
  outside (viewed u) v a b h = absurd h
  outside (snapshot u) v a b h = of_snapshot (outside u v a b h)

  at_core : (v : Value) (c d : Ty) → c ≡ d → Inside c v → Inside d v
  at_core v c d e h = rw e at h

  abbrev head_ty : Tys → Ty
  head_ty no_tys = bool
  head_ty (and_ty t ts) = t

  abbrev tail_ty : Tys → Tys
  tail_ty no_tys = no_tys
  tail_ty (and_ty t ts) = ts

  none : (ts us : Tys) → cores ts ≡ cores us → HaveSorts Δ no_values ts → HaveSorts Δ no_values us
  none no_tys no_tys e h = h
  none no_tys (and_ty u us) e h = absurd (cc e)
  none (and_ty t ts) us e h = let p = all_parts Δ no_values (and_ty t ts) h in absurd (cc p.2)

  more : (v : Value) (vs : Values) → Carries v → CarryAll vs → (ts us : Tys) → cores ts ≡ cores us → HaveSorts Δ (and_value v vs) ts → HaveSorts Δ (and_value v vs) us
  more v vs a b no_tys us e h = absurd (cc (all_parts Δ (and_value v vs) no_tys h))
  more v vs a b (and_ty t ts) no_tys e h = absurd (cc e)
  more v vs a b (and_ty t ts) (and_ty u us) e h = let p = all_parts Δ (and_value v vs) (and_ty t ts) h in
      of_more (a t u (ap head_ty e) (rw (ap first_value p.2) p.3)) (b ts us (ap tail_ty e) (rw (ap other_values p.2) p.4))

  mutual
    pub carried : (v : Value) → Carries v
    carried (Number z) = λ t u e h. outside u (Number z) none tt (at_core (Number z) (core t) (core u) e (inside t (Number z) h))
    carried (Flag b) = λ t u e h. outside u (Flag b) none tt (at_core (Flag b) (core t) (core u) e (inside t (Flag b) h))
    carried (Made c vs) = λ t u e h. outside u (Made c vs) (carried_all vs) tt (at_core (Made c vs) (core t) (core u) e (inside t (Made c vs) h))
    carried (Pair a b) = λ t u e h. outside u (Pair a b) none (carried a, carried b) (at_core (Pair a b) (core t) (core u) e (inside t (Pair a b) h))

    pub carried_all : (vs : Values) → CarryAll vs
    carried_all no_values = λ ts us e h. none ts us e h
    carried_all (and_value v vs) = λ ts us e h. more v vs (carried v) (carried_all vs) ts us e h

  -- a value of a type is one of its sort, and the other way round
  pub has_erased : (v : Value) (t : Ty) → HasSort Δ v t → HasSort Δ v (erased t)
  has_erased v t h = carried v t (erased t) (sym (core_erased t)) h

  pub has_type : (v : Value) (t : Ty) → HasSort Δ v (erased t) → HasSort Δ v t
  has_type v t h = carried v (erased t) t (core_erased t) h
