-- A program whose functions fit meets the conditions under which true obligations make functions good.
use Rattle.std.proofs.Common.{◌≡◌, ◌∙◌, refl, sym, ap, subst, ℕ, zero, suc, ◌==◌, ◌&&◌, ◌⊎◌, inr, Bool, true, false, List, [], ◌∷◌, length, map, Option, Some, None, slice_get, true≢false, inl}
use Rattle.std.specs.List.{list_any}
use Rattle.std.proofs.lemmas.Bool.{eqb-true}
use Rattle.text_core.specs.declared.name.Name.{Name}
use Rattle.logic_term.specs.declared.declaration.AdtDecl.{AdtDecl}
use Rattle.logic_term.specs.declared.declaration.VariantDecl.{VariantDecl}
use Rattle.logic_term.specs.declared.kinds.AdtId.{AdtId}
use Rattle.logic_term.specs.declared.kinds.Label.{Label}
use Rattle.logic_term.specs.declared.obligation.Contract.{Contract}
use Rattle.logic_term.specs.Sort.{instance}
use Rattle.logic_term.specs.Theory.{field_ty, fields_of, variant_of}
use Rattle.logic_term.specs.Ty.{Ty, Tys, int, bool, math_int, tuple, adt, boxed, shared, unique, param, closure, viewed, snapshot, no_tys, and_ty}
use Rattle.logic_term.specs.TyView.{tys_of}
use Rattle.source_trees.specs.declared.item.Item.{Item}
use Rattle.rs_types.specs.Checked.{AllPass}
use Rattle.rs_types.specs.Growing.{declared_by}
use Rattle.rs_types.specs.Inhabited.{HasValue}
use Rattle.declared_types.specs.DeclaredTypes.{declared_types}
use Rattle.declared_types.specs.Declaring.{checks}
use Rattle.runnable.specs.Runs.{has_no_lifetimes, is_owned, are_owned}
use Rattle.runnable.proofs.OwnedFields.{fields_are_owned}
use Rattle.runnable.proofs.RunTypes.{owned}
use Rattle.runnable.proofs.Valued.{owned_valued}
use Rattle.mir_ir.specs.declared.body.Contracts.{Contracts}
use Rattle.mir_ir.specs.declared.body.Body.{Body}
use Rattle.mir_ir.specs.declared.body.Initialised.{Initialised}
use Rattle.mir_ir.specs.declared.body.Point.{Point}
use Rattle.mir_ir.specs.declared.place.Place.{Place}
use Rattle.mir_ir.specs.WellFormed.{AreSound, Labelling, MeetsMoveRows}
use Rattle.prophecy_logic.specs.Loop.{is_whole, is_gone}
use Rattle.prophecy_sim.specs.Programs as sim
use Rattle.type_check.specs.declared.program.TypedFunction.{TypedFunction}
use Rattle.mir_build.specs.Laws.{Lowers, HeadsAreThere}
use Rattle.mir_ir.specs.Names.{IsOneOf, IsNameIn}
use Rattle.mir_build.proofs.LawsOfPrograms.{bodies_are_sound, bodies_are_laid_out, locals_have_names, locals_have_built_types, heads_speak_of_what_is_there, contracts_speak_of_parameters}
use Rattle.verify_core.specs.Prepared.{gone_of, program_of}
use Rattle.verify_core.proofs.ReachLaws.{any_found}
use Rattle.mir_ir.specs.declared.body.Bodies.{Bodies}
use Rattle.verify_core.proofs.Basics.{some_same}

-- ---- heads

both_true : (a b : Bool) → (a && b) ≡ true → (a ≡ true) × (b ≡ true)
both_true true b h = (refl, h)
both_true false b h = absurd (true≢false (sym h))

not_true : (b : Bool) → (b ≡ true → ⊥) → b ≡ false
not_true true h = absurd (h refl)
not_true false h = refl

same_label : (l m : Label) → l.0 ≡ m.0 → l ≡ m
same_label l m e = ap (λ (n : ℕ). record { 0 = n }) e

module _ (b : Body) (gone : Initialised) (i : Labelling) (h : HeadsAreThere b gone i) where
  there : (l : Label) (x : ℕ) → i l 0 x ≡ true → is_gone gone l x ≡ true → ⊥
  there l x set is =
      let entry = any_found (λ (e : Point × List Place). (e.0.label.0 == l.0 && e.0.statement == 0) && list_any (is_whole x) e.1) gone.gone is in
      let parts = both_true (entry.1.0.label.0 == l.0 && entry.1.0.statement == 0) (list_any (is_whole x) entry.1.1) entry.3 in
      let here = both_true (entry.1.0.label.0 == l.0) (entry.1.0.statement == 0) parts.0 in
      let place = any_found (is_whole x) entry.1.1 parts.1 in
      let local = both_true (place.1.local == x) (length place.1.path == 0) place.3 in
      let label : entry.1.0.label ≡ l = same_label entry.1.0.label l (eqb-true entry.1.0.label.0 l.0 here.0) in
      let unset : i entry.1.0.label 0 place.1.local ≡ false = h.there entry.0 place.0 entry.1 place.1 entry.2 place.2 in
      let at_label : i l 0 place.1.local ≡ false = subst (λ (m : Label). i m 0 place.1.local ≡ false) label unset in
      let at_local : i l 0 x ≡ false = subst (λ (y : ℕ). i l 0 y ≡ false) (eqb-true place.1.local x local.0) at_label in
      true≢false (sym set ∙ at_local)

  local_alone : (ps : List Name) (L : Type 0) (x : Name) → IsOneOf x [] ⊎ L → IsOneOf x ps ⊎ L
  local_alone ps L x (inl none) = absurd (let no : None ≡ Some x = none.1 in cc)
  local_alone ps L x (inr local) = inr local

  heads : (c : Contract) → sim.HeadsSpeakOf b c gone i
  heads c = record {
    over = λ l k head is_block is_head j t is x is_free. local_alone c.params (IsNameIn b (i l 0) x) x (h.over l k head is_block is_head j t is x is_free);
    there = λ l x set. not_true (is_gone gone l x) (there l x set);
  }

-- ---- types that run

-- the declared types without lifetimes
abbrev owners : List AdtDecl → AdtId → Bool
owners ds d = has_no_lifetimes (slice_get ds d.0)

decl_there : (o : Option AdtDecl) → has_no_lifetimes o ≡ true → (c : AdtDecl) × (o ≡ Some c) × (c.regions ≡ 0)
decl_there None h = absurd (true≢false (sym h))
decl_there (Some c) h = (c, refl, eqb-true c.regions 0 h)

mutual
  -- what holds no references is owned by the values that hold it
  is_owner : (bs : Bodies) (ty : Ty) → is_owned bs.decls ty ≡ true → sim.IsOwned bs (owners bs.decls) ty
  is_owner bs (int k) h = tt
  is_owner bs bool h = tt
  is_owner bs math_int h = tt
  is_owner bs (tuple ts) h = are_owners bs ts h
  is_owner bs (adt d rs ts) h =
      let g = both_true (has_no_lifetimes (slice_get bs.decls d.0)) (are_owned bs.decls ts) h in
      let c = decl_there (slice_get bs.decls d.0) g.0 in
      (g.0, (c.0, c.1), are_owners bs ts g.1)
  is_owner bs (boxed t) h = is_owner bs t h
  is_owner bs (param n) h = tt
  is_owner bs (shared r t) h = absurd (true≢false (sym h))
  is_owner bs (unique r t) h = absurd (true≢false (sym h))
  is_owner bs (closure n ts cs k ps r) h = absurd (true≢false (sym h))
  is_owner bs (viewed t) h = absurd (true≢false (sym h))
  is_owner bs (snapshot t) h = absurd (true≢false (sym h))

  are_owners : (bs : Bodies) (tys : Tys) → are_owned bs.decls tys ≡ true → sim.AreOwned bs (owners bs.decls) tys
  are_owners bs no_tys h = tt
  are_owners bs (and_ty t ts) h = let g = both_true (is_owned bs.decls t) (are_owned bs.decls ts) h in (is_owner bs t g.0, are_owners bs ts g.1)

variant_there : (o : Option AdtDecl) (k : ℕ) (fs : Tys) → fields_of (variant_of o k) ≡ Some fs → (c : AdtDecl) × (v : VariantDecl) × (o ≡ Some c) × (slice_get c.variants k ≡ Some v) × (tys_of (map field_ty v.fields) ≡ fs)
variant_there None k fs e = absurd (cc)
variant_there (Some c) k fs e = by (slice_get c.variants k) refl e
  where
    by : (o : Option VariantDecl) → slice_get c.variants k ≡ o → fields_of o ≡ Some fs → (d : AdtDecl) × (v : VariantDecl) × (Some c ≡ Some d) × (slice_get d.variants k ≡ Some v) × (tys_of (map field_ty v.fields) ≡ fs)
    by None q e = absurd (cc)
    by (Some v) q e = (c, v, refl, q, some_same e)

-- what the declared types of a source without lifetimes have in their fields is owned
owned_fields : (bs : Bodies) (items : List Item) → bs.decls ≡ declared_types items → sim.HaveOwnedFields bs (owners bs.decls)
owned_fields bs items same d k fs own e =
    let w = variant_there (slice_get bs.decls d.0) k fs e in
    let c = decl_there (slice_get bs.decls d.0) own in
    let one : c.0 ≡ w.0 = some_same (sym c.1 ∙ w.2) in
    let none : w.0.regions ≡ 0 = subst (λ (x : AdtDecl). x.regions ≡ 0) one c.2 in
    let held = fields_are_owned items d.0 w.0 k w.1 (subst (λ (xs : List AdtDecl). slice_get xs d.0 ≡ Some w.0) same w.2) none w.3 in
    are_owners bs fs (ap (λ (xs : List AdtDecl). are_owned xs fs) same ∙ ap (are_owned (declared_types items)) (sym w.4) ∙ held)

-- ---- programs

pub gone_at : (gones : List Initialised) (n : ℕ) (g : Initialised) → slice_get gones n ≡ Some g → gone_of gones n ≡ g
gone_at [] n g e = absurd cc
gone_at (h ∷ gones) zero g e = some_same e
gone_at (h ∷ gones) (suc n) g e = gone_at gones n g e

module _ (table : List (List ℕ)) (ds : List AdtDecl) (fs : List TypedFunction) (bs : Bodies) (cs : Contracts) (gones : List Initialised) (lowers : Lowers table ds fs bs cs gones) where
  pub sound : AreSound bs
  sound = bodies_are_sound table ds fs bs cs gones lowers

  abbrev labelled : (at : ℕ → Labelling) × ((n : ℕ) (b : Body) (gone : Initialised) → slice_get bs.bodies n ≡ Some b → slice_get gones n ≡ Some gone → MeetsMoveRows b (at n) × HeadsAreThere b gone (at n))
  labelled = heads_speak_of_what_is_there table ds fs bs cs gones lowers

  abbrev pub labelling : ℕ → Labelling
  labelling = labelled.0

  runs_there : (n : ℕ) (b : Body) → slice_get bs.bodies n ≡ Some b → (x : ℕ) (ty : Ty) → slice_get b.locals x ≡ Some ty → is_owned ds ty ≡ true
  runs_there n b is_body x ty e = owned ds ty (locals_have_built_types table ds fs bs cs gones lowers n b is_body x ty e)

  -- where the declared types are those of a source that is in order
  pub functions : (items : List Item) → ds ≡ declared_types items → AllPass (declared_types items) (checks items) → sim.AreFunctions (program_of bs cs gones) labelling
  functions items same pass n b is_body =
      let decls : bs.decls ≡ ds = lowers.lowers.decls in
      let c = contracts_speak_of_parameters table ds fs bs cs gones lowers n b is_body in
      let is_sound = bodies_are_sound table ds fs bs cs gones lowers n b is_body in
      let there = labelled.1 n b c.1 is_body c.3 in
      record {
        number = is_sound.2;
        typed = is_sound.0;
        moves = there.0;
        contract = c.0;
        is_contract = c.2;
        simple = record {
          names = (locals_have_names table ds fs bs cs gones lowers n b is_body).0;
          owns = owners bs.decls;
          fields = owned_fields bs items (decls ∙ same);
          owned = λ x ty e. is_owner bs ty (ap (λ (xs : List AdtDecl). is_owned xs ty) decls ∙ runs_there n b is_body x ty e);
          valued = λ x ty e.
              subst (λ (xs : List AdtDecl). HasValue (declared_by xs) (instance no_tys ty)) (sym (decls ∙ same))
              (owned_valued items pass ty (ap (λ (xs : List AdtDecl). is_owned xs ty) (sym same) ∙ runs_there n b is_body x ty e));
          laid_out = bodies_are_laid_out table ds fs bs cs gones lowers n b is_body;
        };
        speaks = c.4;
        heads = subst (λ (g : Initialised). sim.HeadsSpeakOf b c.0 g (labelling n)) (sym (gone_at gones n c.1 c.3))
            (heads b c.1 (labelling n) there.1 c.0);
      }
