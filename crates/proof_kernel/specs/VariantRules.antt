-- What the steps by the variants of an enum give: a premise for each variant, in declared order. They are case analysis, and induction over the
-- form of values (Burstall 1969, structural induction).
use Rattle.std.specs.Prelude.{ℕ, suc, ◌==◌, List, [], ◌∷◌, ◌++◌, length, map, zip, Option, Some, None, slice_get, if◌then◌else◌}
use Rattle.std.specs.Option.{option_map}
use Rattle.text_core.specs.declared.name.Name.{Name}
use Rattle.logic_term.specs.declared.declaration.AdtDecl.{AdtDecl}
use Rattle.logic_term.specs.declared.declaration.FieldDecl.{FieldDecl}
use Rattle.logic_term.specs.declared.declaration.VariantDecl.{VariantDecl}
use Rattle.logic_term.specs.declared.kinds.AdtId.{AdtId}
use Rattle.logic_term.specs.declared.kinds.Ctor.TheVariants.{Variant}
use Rattle.logic_term.specs.Erased.{erased}
use Rattle.logic_term.specs.Normal.{reduced}
use Rattle.logic_term.specs.Sort.{instance}
use Rattle.logic_term.specs.Term.{Term, var, apply, made, is_equal}
use Rattle.logic_term.specs.TermView.{terms_of}
use Rattle.logic_term.specs.Ty.{Ty, Tys, adt}
use Rattle.logic_elab.specs.declared.sorted.SortedTerm.{SortedTerm}
use Rattle.logic_elab.specs.Sorts.{same_ty}
use Rattle.source_trees.specs.Pterm.{Pterm}
use Rattle.proof_kernel.specs.Sequent.{Sequent}
use Rattle.proof_kernel.specs.Rules.{sort_of, AreNew, labelled, with_hyps, without_variable}
use Rattle.proof_kernel.specs.TermRules.{term_at, at_term}

-- ---- enums

-- a declared enum, at types for its parameters
pub record Enum : Type 0 where
  pub id : AdtId
  pub arguments : Tys
  pub variants : List VariantDecl

abbrev pub enum_in : AdtId → Tys → Option AdtDecl → Option Enum
enum_in d ts None = None
enum_in d ts (Some decl) = if decl.is_struct then None else Some (record { id = d; arguments = ts; variants = decl.variants })

-- the enum that the sort is
abbrev pub enum_of : List AdtDecl → Ty → Option Enum
enum_of adts (adt d rs ts) = enum_in d ts (slice_get adts d.0)
enum_of adts s = None

-- the sort of a field, at types for the parameters of its declared type
abbrev pub field_sort : Tys → FieldDecl → Ty
field_sort θ f = erased (instance θ f.ty)

-- ---- cases

-- a variant by its number, with names for its fields, and their sorts
pub record Case : Type 0 where
  pub number : ℕ
  pub names : List Name
  pub sorts : List Ty

abbrev pub case_of : Tys → ℕ → List Name → List FieldDecl → Case
case_of θ k xs fs = record { number = k; names = xs; sorts = map (field_sort θ) fs }

-- a case for each variant, from number k on, by a list of names for each; none where there are not as many lists, or in a list not as many
-- names as fields
abbrev pub cases_in : Tys → ℕ → List VariantDecl → List (List Name) → Option (List Case)
cases_in θ k [] [] = Some []
cases_in θ k (v ∷ vs) (xs ∷ names) = if length xs == length v.fields then option_map (λ cs. case_of θ k xs v.fields ∷ cs) (cases_in θ (suc k) vs names) else None
cases_in θ k vs names = None

-- the names as variables of the fields' sorts
abbrev pub field_variables : Case → List (Name × Ty)
field_variables c = zip c.names c.sorts

-- the value of the variant of this number, with the names for its fields
abbrev pub variant_term : AdtId → ℕ → List Name → Term
variant_term d k xs = apply (made (Variant d k)) (terms_of (map var xs))

abbrev pub case_term : AdtId → Case → Term
case_term d c = variant_term d c.number c.names

-- the names of each list are new in the sequent
abbrev pub AllNew : List (List Name) → Sequent → Type 0
AllNew [] q = Unit {0}
AllNew (xs ∷ names) q = AreNew xs q × AllNew names q

-- ---- the premise of a case

-- how the cases are gone through
pub data By : Type 0 where
  -- the term is the value of the case
  analysis : Term → By
  -- by induction over the variable, which is of the sort
  induction : Name → Ty → By

-- the formula at each of the variables that is of the sort
abbrev pub at_each : Ty → Name → Term → List (Name × Ty) → List Term
at_each s x t [] = []
at_each s x t (v ∷ vs) = if same_ty v.1 s then at_term x (var v.0) t ∷ at_each s x t vs else at_each s x t vs

abbrev pub with_variables : Sequent → List (Name × Ty) → Sequent
with_variables q vs = record { vars = q.vars ++ vs; hyps = q.hyps; goal = q.goal }

abbrev pub premise_of : By → ℕ → Sequent → AdtId → Case → Sequent
premise_of (analysis t) s q d c = with_hyps s (with_variables q (field_variables c)) (reduced (is_equal t (case_term d c)) ∷ [])
premise_of (induction x r) s q d c = record {
  vars = without_variable x q.vars ++ field_variables c;
  hyps = q.hyps ++ labelled s 1 (at_each (erased r) x q.goal (field_variables c));
  goal = at_term x (case_term d c) q.goal;
}

abbrev pub in_variants : By → ℕ → Sequent → List (List Name) → Option Enum → Option (List Sequent)
in_variants by s q names None = None
in_variants by s q names (Some e) = option_map (map (premise_of by s q e.id)) (cases_in e.arguments 0 e.variants names)

-- ---- what step s gives, by the types that are declared

abbrev pub on_sorted : List AdtDecl → ℕ → Sequent → List (List Name) → Option SortedTerm → Option (List Sequent)
on_sorted adts s q names None = None
on_sorted adts s q names (Some a) = in_variants (analysis a.term) s q names (enum_of adts a.sort)

-- a term of an enum is a value of one of its variants
abbrev pub variants_rule : List AdtDecl → ℕ → Sequent → Pterm → List (List Name) → Option (List Sequent)
variants_rule adts s q t names = on_sorted adts s q names (term_at adts q t)

abbrev pub induct_sorted : List AdtDecl → ℕ → Sequent → Name → List (List Name) → Option Ty → Option (List Sequent)
induct_sorted adts s q x names None = None
induct_sorted adts s q x names (Some r) = in_variants (induction x r) s q names (enum_of adts r)

-- the goal is true of each value of a variable's enum, where it is true of each variant at fields of which it is true
abbrev pub induction_rule : List AdtDecl → ℕ → Sequent → Name → List (List Name) → Option (List Sequent)
induction_rule adts s q x names = induct_sorted adts s q x names (sort_of x q.vars)
