-- The laws of programs that lower, fit and are plain.
use Rattle.std.proofs.Common.{◌≡◌, refl, ap, sym, ◌∙◌, subst, ℕ, zero, suc, ◌+◌, List, [], ◌∷◌, take, drop, map, length, Some, None, slice_get, arith, false, Option}
use Rattle.logic_term.specs.declared.declaration.AdtDecl.{AdtDecl}
use Rattle.logic_term.specs.declared.obligation.Contract.{Contract}
use Rattle.logic_term.specs.Ty.{Ty}
use Rattle.mir_ir.specs.declared.body.Body.{Body}
use Rattle.mir_ir.specs.declared.body.Contracts.{Contracts}
use Rattle.mir_ir.specs.declared.body.Initialised.{Initialised}
use Rattle.mir_ir.specs.WellFormed.{IsTyped, Labelling, MeetsMoveRows}
use Rattle.type_check.specs.declared.program.Signature.{Signature}
use Rattle.type_check.specs.declared.program.TypedFunction.{TypedFunction}
use Rattle.runnable.specs.Plain.{FunctionIsPlain, EachIsPlain}
use Rattle.runnable.specs.Runs.{Runs}
use Rattle.type_check.specs.WellTyped.{FunctionFits, EachFits, signatures}
use Rattle.mir_build.specs.Laws.{Lowers, HeadsAreThere, BodiesAreSound, BodiesAreLaidOut, LocalsHaveNames, LocalsHaveBuiltTypes, HeadsSpeakOfWhatIsThere, ContractsSpeakOfParameters}
use Rattle.mir_build.specs.Lowering.{counted, whole, HasContract, LowersTo, EachLowersTo, no_functions, and_function}
use Rattle.mir_build.proofs.LawTyped.{ScopeFits}
use Rattle.mir_build.proofs.LawTypes.{Callee}
use Rattle.mir_build.proofs.LawFunction.{answer_fits, scope_fits, body_typed, body_laid_out, start}
use Rattle.mir_build.proofs.LawLocals.{locals_are_named, types_run}
use Rattle.mir_build.proofs.LawContracts.{contract_speaks}
use Rattle.mir_build.proofs.LawHeads.{labelled, heads_speak}
use Rattle.mir_ir.specs.declared.body.Bodies.{Bodies}
use Rattle.mir_build.proofs.LawInit.{IsLabelled}
use Rattle.mir_build.proofs.Basics.{some_same}
use Rattle.mir_build.proofs.PlainTyping.{FunctionFitsPlainly, fits_plainly}

-- the function of a place, and its body; the first function has this number
pub record FunctionAt (ds : List AdtDecl) (σ : List Signature) (first : ℕ) (fs : List TypedFunction) (bs : List Body) (cs : List Contract) (gones : List Initialised) (n : ℕ) (f : TypedFunction) (b : Body) : Type 0 where
  pub owner : List ℕ
  pub gone : Initialised
  pub is_function : slice_get fs n ≡ Some f
  pub is_body : slice_get bs n ≡ Some b
  pub is_number : b.id ≡ first + n
  pub contract : Contract
  pub is_contract : slice_get cs n ≡ Some contract
  pub has_contract : HasContract f contract
  pub is_gone : slice_get gones n ≡ Some gone
  pub lowers : LowersTo ds σ owner f b gone

further : (ds : List AdtDecl) (σ : List Signature) (first : ℕ) (f : TypedFunction) (fs : List TypedFunction) (b : Body) (bs : List Body) (c : Contract) (cs : List Contract) (g : Initialised) (gs : List Initialised) (n : ℕ) (h : TypedFunction) (k : Body)
    → FunctionAt ds σ (suc first) fs bs cs gs n h k → FunctionAt ds σ first (f ∷ fs) (b ∷ bs) (c ∷ cs) (g ∷ gs) (suc n) h k
further ds σ first f fs b bs c cs g gs n h k w = record {
  owner = w.owner;
  gone = w.gone;
  is_function = w.is_function;
  is_body = w.is_body;
  is_number = omega (arith, w.is_number);
  contract = w.contract;
  is_contract = w.is_contract;
  has_contract = w.has_contract;
  is_gone = w.is_gone;
  lowers = w.lowers;
}

pub of_body : (table : List (List ℕ)) (ds : List AdtDecl) (σ : List Signature) (first : ℕ) (fs : List TypedFunction) (bs : List Body) (cs : List Contract) (gones : List Initialised) → EachLowersTo table ds σ first fs bs cs gones
    → (n : ℕ) (b : Body) → slice_get bs n ≡ Some b → (f : TypedFunction) × FunctionAt ds σ first fs bs cs gones n f b
of_body table ds σ first fs bs cs gones no_functions n b e = absurd (cc)
of_body table ds σ first fs bs cs gones (and_function {f = f} {b = k} {c = c} {gone = gone} owner t l h d r) zero b e =
    (f, record { owner = owner; gone = gone; is_function = refl; is_body = e; is_number = ap (λ (m : Body). m.id) (sym (some_same e)) ∙ omega (arith, d); contract = c; is_contract = refl; has_contract = h; is_gone = refl; lowers = subst (λ m. LowersTo ds σ owner f m gone) (some_same e) l })
of_body table ds σ first fs bs cs gones (and_function {f = f} {fs = fs'} {b = k} {bs = bs'} {c = c} {cs = cs'} {gone = gone} {gones = gs'} owner t l h d r) (suc n) b e =
    let w = of_body table ds σ (suc first) fs' bs' cs' gs' r n b e in
    (w.0, further ds σ first f fs' k bs' c cs' gone gs' n w.0 b w.1)

pub of_function : (table : List (List ℕ)) (ds : List AdtDecl) (σ : List Signature) (first : ℕ) (fs : List TypedFunction) (bs : List Body) (cs : List Contract) (gones : List Initialised) → EachLowersTo table ds σ first fs bs cs gones
    → (n : ℕ) (f : TypedFunction) → slice_get fs n ≡ Some f → (b : Body) × FunctionAt ds σ first fs bs cs gones n f b
of_function table ds σ first fs bs cs gones no_functions n f e = absurd (cc)
of_function table ds σ first fs bs cs gones (and_function {f = g} {b = k} {c = c} {gone = gone} owner t l h d r) zero f e =
    (k, record { owner = owner; gone = gone; is_function = e; is_body = refl; is_number = omega (arith, d); contract = c; is_contract = refl; has_contract = subst (λ m. HasContract m c) (some_same e) h; is_gone = refl; lowers = subst (λ m. LowersTo ds σ owner m k gone) (some_same e) l })
of_function table ds σ first fs bs cs gones (and_function {f = g} {fs = fs'} {b = k} {bs = bs'} {c = c} {cs = cs'} {gone = gone} {gones = gs'} owner t l h d r) (suc n) f e =
    let w = of_function table ds σ (suc first) fs' bs' cs' gs' r n f e in
    (w.0, further ds σ first g fs' k bs' c cs' gone gs' n f w.0 w.1)

pub fits_at : (ds : List AdtDecl) (σ : List Signature) (fs : List TypedFunction) → EachFits ds σ fs → (n : ℕ) (f : TypedFunction) → slice_get fs n ≡ Some f → FunctionFits ds σ f
fits_at ds σ [] h n f e = absurd (cc)
fits_at ds σ (g ∷ fs) h zero f e = subst (FunctionFits ds σ) (some_same e) h.0
fits_at ds σ (g ∷ fs) h (suc n) f e = fits_at ds σ fs h.1 n f e

plain_at : (ds : List AdtDecl) (fs : List TypedFunction) → EachIsPlain ds fs → (n : ℕ) (f : TypedFunction) → slice_get fs n ≡ Some f → FunctionIsPlain ds f
plain_at ds [] h n f e = absurd (cc)
plain_at ds (g ∷ fs) h zero f e = subst (FunctionIsPlain ds) (some_same e) h.0
plain_at ds (g ∷ fs) h (suc n) f e = plain_at ds fs h.1 n f e

signature_at : (fs : List TypedFunction) (n : ℕ) (g : Signature) → slice_get (signatures fs) n ≡ Some g → (f : TypedFunction) × (slice_get fs n ≡ Some f) × (f.signature ≡ g)
signature_at [] n g e = absurd (cc)
signature_at (f ∷ fs) zero g e = (f, refl, some_same e)
signature_at (f ∷ fs) (suc n) g e = signature_at fs n g e

-- ---- callees

shift : (n i : ℕ) → (n + 1) + i ≡ n + suc i
shift n i = omega arith

no_shift : (n : ℕ) → n + 0 ≡ n
no_shift n = omega arith

-- where these types are the locals from number n on, they begin with those of the scope
starts_with : (b : Body) (ts rest : List Ty) (n : ℕ) → ((i : ℕ) → slice_get b.locals (n + i) ≡ slice_get rest i) → ScopeFits b (map whole (counted n ts)) ts → take (length ts) rest ≡ ts
starts_with b [] rest n h s = refl
starts_with b (t ∷ ts) [] n h s = let e : Some t ≡ None = sym s.0.1 ∙ ap (slice_get b.locals) (sym (no_shift n)) ∙ h 0 in absurd (cc)
starts_with b (t ∷ ts) (r ∷ rs) n h s =
    let e : r ≡ t = some_same (sym (h 0) ∙ ap (slice_get b.locals) (no_shift n) ∙ s.0.1) in
    ap (λ x. x ∷ take (length ts) rs) e ∙ ap (λ xs. t ∷ xs) (starts_with b ts rs (n + 1) (λ i. ap (slice_get b.locals) (shift n i) ∙ h (suc i)) s.1)

drop_one : (xs : List Ty) (i k : ℕ) → k ≡ suc i → slice_get xs k ≡ slice_get (drop 1 xs) i
drop_one [] i k e = refl
drop_one (x ∷ xs) i k e = ap (slice_get (x ∷ xs)) e

one_on : (i : ℕ) → 1 + i ≡ suc i
one_on i = omega arith

module _ (table : List (List ℕ)) (ds : List AdtDecl) (fs : List TypedFunction) (bs : Bodies) (cs : Contracts) (gones : List Initialised) (l : Lowers table ds fs bs cs gones) where
  callee : (n : ℕ) (g : Signature) → slice_get (signatures fs) n ≡ Some g → Callee bs n g
  callee n g e =
      let w = signature_at fs n g e in
      let v = of_function table ds (signatures fs) 0 fs bs.bodies cs.of gones l.lowers.each n w.0 w.1 in
      let u = v.1.lowers in
      record {
        body = v.0;
        is_body = v.1.is_body;
        ground = u.types;
        params = ap (λ p. take p (drop 1 v.0.locals)) u.params
            ∙ starts_with v.0 w.0.signature.params (drop 1 v.0.locals) 1 (λ i. drop_one v.0.locals i (1 + i) (one_on i)) (scope_fits v.1.owner w.0 v.0 v.1.gone u)
            ∙ ap (λ (s : Signature). s.params) w.2;
        answer = answer_fits v.1.owner w.0 v.0 v.1.gone u ∙ ap (λ (s : Signature). Some s.answer) w.2;
      }

  answer_runs : (n : ℕ) (g : Signature) → slice_get (signatures fs) n ≡ Some g → Runs ds g.answer
  answer_runs n g e =
      let w = signature_at fs n g e in
      subst (λ (s : Signature). Runs ds s.answer) w.2 (plain_at ds fs l.plain n w.0 w.1).answer

  module _ (n : ℕ) (b : Body) (is_body : slice_get bs.bodies n ≡ Some b) where
    found : (f : TypedFunction) × FunctionAt ds (signatures fs) 0 fs bs.bodies cs.of gones n f b
    found = of_body table ds (signatures fs) 0 fs bs.bodies cs.of gones l.lowers.each n b is_body

    number : b.id ≡ n
    number = omega (arith, found.1.is_number)

    fit : FunctionFits ds (signatures fs) found.0
    fit = fits_at ds (signatures fs) fs l.fits n found.0 found.1.is_function

    plainly : FunctionFitsPlainly ds (signatures fs) found.0
    plainly = fits_plainly ds (signatures fs) found.0 (plain_at ds fs l.plain n found.0 found.1.is_function) fit

    typed : IsTyped bs b
    typed = body_typed found.1.owner found.0 b found.1.gone found.1.lowers (signatures fs) bs l.lowers.decls plainly callee answer_runs

    abbrev labels : IsLabelled b (start found.1.owner found.0 b found.1.gone found.1.lowers (signatures fs) plainly)
    labels = labelled found.1.owner found.0 b found.1.gone found.1.lowers (signatures fs) bs l.lowers.decls plainly callee answer_runs

    initialised : (at : Labelling) × MeetsMoveRows b at × HeadsAreThere b found.1.gone at
    initialised = (
      labels.at,
      labels.moves,
      heads_speak found.1.owner found.0 b found.1.gone found.1.lowers (signatures fs) bs l.lowers.decls plainly callee answer_runs,
    )

-- ---- the laws

pub bodies_are_sound : BodiesAreSound
bodies_are_sound table ds fs bs cs gones l n b e =
    let i = initialised table ds fs bs cs gones l n b e in
    (typed table ds fs bs cs gones l n b e, (i.0, i.1), number table ds fs bs cs gones l n b e)

pub bodies_are_laid_out : BodiesAreLaidOut
bodies_are_laid_out table ds fs bs cs gones l n b e =
    let w = found table ds fs bs cs gones l n b e in
    body_laid_out w.1.owner w.0 b w.1.gone w.1.lowers

pub locals_have_names : LocalsHaveNames
locals_have_names table ds fs bs cs gones l n b e =
    let w = found table ds fs bs cs gones l n b e in
    locals_are_named w.1.owner w.0 b w.1.gone w.1.lowers

pub locals_have_built_types : LocalsHaveBuiltTypes
locals_have_built_types table ds fs bs cs gones l n b e x t h =
    let w = found table ds fs bs cs gones l n b e in
    types_run w.1.owner w.0 b w.1.gone w.1.lowers (signatures fs) bs l.lowers.decls (plainly table ds fs bs cs gones l n b e) (callee table ds fs bs cs gones l) (answer_runs table ds fs bs cs gones l) x t h

module _ (table : List (List ℕ)) (ds : List AdtDecl) (fs : List TypedFunction) (bs : Bodies) (cs : Contracts) (gones : List Initialised) (l : Lowers table ds fs bs cs gones) where
  -- the labelling of the body that is found; any where there is none
  abbrev labelling_at : (n : ℕ) (o : Option Body) → slice_get bs.bodies n ≡ o → Labelling
  labelling_at n (Some b) e = (initialised table ds fs bs cs gones l n b e).0
  labelling_at n None e = λ m i x. false

  meets : (n : ℕ) (b : Body) (gone : Initialised) (o : Option Body) (e : slice_get bs.bodies n ≡ o) → o ≡ Some b → slice_get gones n ≡ Some gone → MeetsMoveRows b (labelling_at n o e) × HeadsAreThere b gone (labelling_at n o e)
  meets n b gone None e is g = absurd (cc)
  meets n b gone (Some k) e is g =
      let w = found table ds fs bs cs gones l n k e in
      let i = initialised table ds fs bs cs gones l n k e in
      let heads : HeadsAreThere k gone i.0 = subst (λ (gg : Initialised). HeadsAreThere k gg i.0) (some_same (sym w.1.is_gone ∙ g)) i.2 in
      subst (λ (c : Body). MeetsMoveRows c i.0 × HeadsAreThere c gone i.0) (some_same is) (i.1, heads)

pub heads_speak_of_what_is_there : HeadsSpeakOfWhatIsThere
heads_speak_of_what_is_there table ds fs bs cs gones l = (
  λ n. labelling_at table ds fs bs cs gones l n (slice_get bs.bodies n) refl,
  λ n b gone e g. meets table ds fs bs cs gones l n b gone (slice_get bs.bodies n) refl e g,
)

pub contracts_speak_of_parameters : ContractsSpeakOfParameters
contracts_speak_of_parameters table ds fs bs cs gones l n b e =
    let w = found table ds fs bs cs gones l n b e in
    let speaks = contract_speaks w.1.owner w.0 b w.1.gone w.1.lowers (signatures fs) (fit table ds fs bs cs gones l n b e) w.1.contract w.1.has_contract in
    (w.1.contract, w.1.gone, w.1.is_contract, w.1.is_gone, speaks.0, speaks.1)
