-- What declared types weigh at what their type arguments weigh, found in rounds. A weight is 1 where a type has a value and else 0; or it is how
-- many references stand in one another in it, 2 at most.
use Rattle.std.specs.Prelude.{◌≡◌, ℕ, suc, ◌==◌, ◌&&◌, ◌||◌, min, max, Bool, true, false, List, [], ◌∷◌, ◌++◌, get_or, map, Option, Some, None, slice_get, if◌then◌else◌}
use Rattle.logic_term.specs.Ty.{Ty, Tys, int, bool, math_int, tuple, adt, boxed, shared, unique, param, closure, viewed, snapshot, no_tys, and_ty}
use Rattle.logic_term.specs.Theory.{field_ty}
use Rattle.logic_term.specs.TyView.{tys_of}
use Rattle.logic_term.specs.declared.declaration.AdtDecl.{AdtDecl}
use Rattle.logic_term.specs.declared.declaration.VariantDecl.{VariantDecl}
use Rattle.rs_types.specs.declared.weighing.Case.{Case}
use Rattle.rs_types.specs.declared.weighing.Question.{Question}
use Rattle.rs_types.specs.declared.weighing.Question.TheVariants.{Value, References}

-- of a type that holds nothing
abbrev pub start : Question → ℕ
start Value = 1
start References = 0

-- of two parts
abbrev pub joined : Question → ℕ → ℕ → ℕ
joined Value m n = min m n
joined References m n = max m n

-- of a reference
abbrev pub referred : Question → ℕ → ℕ
referred Value n = n
referred References n = min 2 (suc n)

-- ---- cases

abbrev pub same_weights : List ℕ → List ℕ → Bool
same_weights [] [] = true
same_weights [] (n ∷ ns) = false
same_weights (m ∷ ms) [] = false
same_weights (m ∷ ms) (n ∷ ns) = m == n && same_weights ms ns

-- the case is that of the declared type at arguments of these weights
abbrev pub is_case : ℕ → List ℕ → Case → Bool
is_case d ws c = c.adt == d && same_weights c.given ws

-- what it weighs there by the cases; nothing as long as there is no case
abbrev pub known : ℕ → List ℕ → List Case → ℕ
known d ws [] = 0
known d ws (c ∷ cs) = if is_case d ws c then c.weight else known d ws cs

abbrev pub is_among : ℕ → List ℕ → List Case → Bool
is_among d ws [] = false
is_among d ws (c ∷ cs) = is_case d ws c || is_among d ws cs

-- ---- types by the cases, where type parameters have the given weights

abbrev mutual
  pub weight : Question → List Case → List ℕ → Ty → ℕ
  weight q cs g (int k) = start q
  weight q cs g bool = start q
  weight q cs g math_int = start q
  weight q cs g (tuple ts) = all_weights q cs g ts
  weight q cs g (adt d rs ts) = known d.0 (weights q cs g ts) cs
  weight q cs g (boxed t) = weight q cs g t
  weight q cs g (shared r t) = referred q (weight q cs g t)
  weight q cs g (unique r t) = referred q (weight q cs g t)
  weight q cs g (param n) = get_or g n (start q)
  weight q cs g (closure n ts us k ps r) = all_weights q cs g us
  weight q cs g (viewed t) = 0
  weight q cs g (snapshot t) = weight q cs g t

  -- of all together
  pub all_weights : Question → List Case → List ℕ → Tys → ℕ
  all_weights q cs g no_tys = start q
  all_weights q cs g (and_ty t ts) = joined q (weight q cs g t) (all_weights q cs g ts)

  -- of each
  pub weights : Question → List Case → List ℕ → Tys → List ℕ
  weights q cs g no_tys = []
  weights q cs g (and_ty t ts) = weight q cs g t ∷ weights q cs g ts

abbrev pub field_types : VariantDecl → Tys
field_types v = tys_of (map field_ty v.fields)

-- of the variants, the most that one weighs
abbrev pub variants_weight : Question → List Case → List ℕ → List VariantDecl → ℕ
variants_weight q cs g [] = 0
variants_weight q cs g (v ∷ vs) = max (all_weights q cs g (field_types v)) (variants_weight q cs g vs)

abbrev pub variants_in : Option AdtDecl → List VariantDecl
variants_in None = []
variants_in (Some d) = d.variants

abbrev pub variants_at : List AdtDecl → ℕ → List VariantDecl
variants_at ds d = variants_in (slice_get ds d)

-- ---- rounds

-- the case with what it weighs by the cases
abbrev pub reweighed : Question → List AdtDecl → List Case → Case → Case
reweighed q ds cs c = record { adt = c.adt; given = c.given; weight = variants_weight q cs c.given (variants_at ds c.adt) }

-- each declared type in the type has its case
abbrev mutual
  pub IsAsked : Question → List Case → List ℕ → Ty → Type 0
  IsAsked q cs g (int k) = Unit {0}
  IsAsked q cs g bool = Unit {0}
  IsAsked q cs g math_int = Unit {0}
  IsAsked q cs g (tuple ts) = AreAsked q cs g ts
  IsAsked q cs g (adt d rs ts) = (is_among d.0 (weights q cs g ts) cs ≡ true) × AreAsked q cs g ts
  IsAsked q cs g (boxed t) = IsAsked q cs g t
  IsAsked q cs g (shared r t) = IsAsked q cs g t
  IsAsked q cs g (unique r t) = IsAsked q cs g t
  IsAsked q cs g (param n) = Unit {0}
  IsAsked q cs g (closure n ts us k ps r) = AreAsked q cs g us
  IsAsked q cs g (viewed t) = Unit {0}
  IsAsked q cs g (snapshot t) = IsAsked q cs g t

  pub AreAsked : Question → List Case → List ℕ → Tys → Type 0
  AreAsked q cs g no_tys = Unit {0}
  AreAsked q cs g (and_ty t ts) = IsAsked q cs g t × AreAsked q cs g ts

abbrev pub AllAsked : Question → List Case → List ℕ → List VariantDecl → Type 0
AllAsked q cs g [] = Unit {0}
AllAsked q cs g (v ∷ vs) = AreAsked q cs g (field_types v) × AllAsked q cs g vs

-- of the case each
abbrev pub EachAsked : Question → List AdtDecl → List Case → List Case → Type 0
EachAsked q ds cs [] = Unit {0}
EachAsked q ds cs (c ∷ left) = AllAsked q cs c.given (variants_at ds c.adt) × EachAsked q ds cs left

-- cases of which nothing is known yet
abbrev pub AreNew : List Case → Type 0
AreNew [] = Unit {0}
AreNew (c ∷ cs) = (c.weight ≡ 0) × AreNew cs

-- the second are the first and new ones
pub record Grows (cs after : List Case) : Type 0 where
  pub more : List Case
  pub is : after ≡ cs ++ more
  pub new : AreNew more

-- each declared type, whatever its type arguments
abbrev pub roots_from : ℕ → List AdtDecl → List Case
roots_from n [] = []
roots_from n (d ∷ ds) = record { adt = n; given = []; weight = 0 } ∷ roots_from (suc n) ds

-- cases that come of the first ones in rounds
pub data ComesOf (q : Question) (ds : List AdtDecl) : List Case → Type 0 where
  at_first : ComesOf q ds (roots_from 0 ds)
  round : {cs after : List Case} → ComesOf q ds cs → Grows (map (reweighed q ds cs) cs) after → ComesOf q ds after

-- a further round changes nothing
pub record Settled (q : Question) (ds : List AdtDecl) (cs : List Case) : Type 0 where
  pub comes : ComesOf q ds cs
  pub same : map (reweighed q ds cs) cs ≡ cs
  pub asked : EachAsked q ds cs cs
