-- Paths at types for the type parameters, and whole locals as parts of locals.
use Rattle.std.proofs.Common.{◌≡◌, ◌∙◌, sym, ap, subst, ℕ, zero, suc, List, [], ◌∷◌, Some}
use Rattle.std.proofs.lemmas.Option.{same_Some}
use Rattle.logic_term.specs.Sort.{instance, instances}
use Rattle.logic_term.specs.Sorted.{sort_at, FieldSort}
use Rattle.logic_term.specs.Theory.{Theory}
use Rattle.logic_term.specs.Ty.{Ty, Tys, tuple, adt, no_tys, and_ty}
use Rattle.logic_term.proofs.SortParts.{instances_instances}
use Rattle.mir_ir.specs.declared.body.Body.{Body}
use Rattle.mir_ir.specs.declared.place.Operand.{Operand}
use Rattle.mir_ir.specs.declared.place.Operand.TheVariants.{Copy, Move, Const}
use Rattle.mir_ir.specs.declared.place.Place.{Place}
use Rattle.mir_ir.specs.declared.place.Proj.{Proj}
use Rattle.mir_ir.specs.Paths.{LeadsTo, at_end, in_field, in_box}
use Rattle.mir_ir.specs.WellFormed.{PlaceHas, PartHas, OperandHas, UsedHas, OperandsHave}

-- ---- at types for the type parameters

sort_instance : (θ ts : Tys) (n : ℕ) (s : Ty) → sort_at ts n ≡ Some s → sort_at (instances θ ts) n ≡ Some (instance θ s)
sort_instance θ no_tys n s e = absurd (cc)
sort_instance θ (and_ty t ts) zero s e = ap (λ u. Some (instance θ u)) (same_Some _ _ e)
sort_instance θ (and_ty t ts) (suc n) s e = sort_instance θ ts n s e

field_instance : (Θ : Theory) (θ : Tys) (whole part : Ty) (n : ℕ) → FieldSort Θ whole n part → FieldSort Θ (instance θ whole) n (instance θ part)
field_instance Θ θ (tuple ts) part n e = sort_instance θ ts n part e
field_instance Θ θ (adt d rs ts) part n (fields, first, alone, e) = (fields, first, alone, ap (λ us. sort_at us n) (sym (instances_instances θ ts fields)) ∙ sort_instance θ (instances ts fields) n part e)
field_instance Θ θ whole part n field = absurd field

-- a path leads at types for the type parameters where it leads without
pub leads_instance : {Θ : Theory} {u t : Ty} {path : List Proj} (θ : Tys) → LeadsTo Θ u path t → LeadsTo Θ (instance θ u) path (instance θ t)
leads_instance θ at_end = at_end
leads_instance {Θ} θ (in_field {u = whole} {part = part} {n = n} field leads) = in_field (field_instance Θ θ whole part n field) (leads_instance θ leads)
leads_instance θ (in_box leads) = in_box (leads_instance θ leads)

-- ---- whole locals

pub whole_part : (Θ : Theory) (b : Body) (p : Place) (t : Ty) → PlaceHas b p t → PartHas Θ b p t
whole_part Θ b p t has = (t, has.1, subst (λ path. LeadsTo Θ t path t) (sym has.0) at_end)

-- an operand that is a whole local or a literal can be used as it is
pub operand_used : (Θ : Theory) (b : Body) (o : Operand) (t : Ty) → OperandHas b o t → UsedHas Θ b o t
operand_used Θ b (Copy p) t has = whole_part Θ b p t has
operand_used Θ b (Move p) t has = has
operand_used Θ b (Const l) t has = has

-- one operand that is used as it is for each type
abbrev pub AllUsed : Theory → Body → List Operand → List Ty → Type 0
AllUsed Θ b [] [] = Unit {0}
AllUsed Θ b (o ∷ os) (t ∷ ts) = UsedHas Θ b o t × AllUsed Θ b os ts
AllUsed Θ b _ _ = ⊥

pub operands_used : (Θ : Theory) (b : Body) (os : List Operand) (ts : List Ty) → OperandsHave b os ts → AllUsed Θ b os ts
operands_used Θ b [] [] have = tt
operands_used Θ b [] (t ∷ ts) have = absurd have
operands_used Θ b (o ∷ os) [] have = absurd have
operands_used Θ b (o ∷ os) (t ∷ ts) have = (operand_used Θ b o t have.0, operands_used Θ b os ts have.1)
