-- The sorts of the parts of a tuple, as they are written, one after another.
use Rattle.std.proofs.Common.{◌≡◌, ◌∙◌, ℕ, zero, suc, ◌+◌, ◌<◌, List, [], ◌∷◌, ◌++◌, length, get_or, drop, refl, ap, sym, add-one, drop-cons, Result, Ok, Err, arith}
use Rattle.text_core.specs.declared.fault.PassError.{PassError}
use Rattle.text_core.specs.declared.refusal.SourceError.{SourceError}
use Rattle.logic_term.specs.Ty.{Ty, Tys, and_ty}
use Rattle.logic_term.specs.TyView.{tys_of}
use Rattle.logic_term.specs.declared.declaration.AdtDecl.{AdtDecl}
use Rattle.source_trees.specs.TypeTree.{TypeTree, Types, more}
use Rattle.source_trees.specs.TypeTreeView.{types_of, type_tree_size, types_size}
use Rattle.logic_elab.specs.Answers.{◌>>=◌, Refuses}
use Rattle.logic_elab.specs.WrittenSorts.{written_sort, written_sorts}
use Rattle.logic_elab.proofs.PartByPart.{sorts_onto, sorts_more, onto_end}
use Rattle.logic_elab.proofs.Stops.{along, refuses_then}

abbrev and_sorts : List Ty → Tys → Result Tys SourceError
and_sorts ts end = Ok (sorts_onto ts end)

-- what is left, after these sorts
abbrev pub continued : List AdtDecl → List TypeTree → ℕ → List Ty → Result Tys SourceError
continued ds ws i ts = written_sorts ds (types_of (drop i ws)) >>= and_sorts ts

abbrev one : Ty → Tys → Result Tys SourceError
one t r = Ok (and_ty t r)

one_more : (ts : List Ty) (t : Ty) (m : Result Tys SourceError) → ((m >>= one t) >>= and_sorts ts) ≡ (m >>= and_sorts (ts ++ t ∷ []))
one_more ts t (Ok r) = ap Ok (sorts_more ts t r)
one_more ts t (Err e) = refl

nothing_yet : (m : Result Tys SourceError) → m ≡ (m >>= and_sorts [])
nothing_yet (Ok r) = refl
nothing_yet (Err e) = refl

pub sorts_start : (ds : List AdtDecl) (ws : List TypeTree) → written_sorts ds (types_of ws) ≡ continued ds ws 0 []
sorts_start ds ws = nothing_yet (written_sorts ds (types_of ws))

abbrev then_sorts : List AdtDecl → Types → Ty → Result Tys SourceError
then_sorts ds ws t = written_sorts ds ws >>= one t

sorts_at : (ws : List TypeTree) (i : ℕ) (w : TypeTree) → w ≡ get_or ws i w → i < length ws → types_of (drop i ws) ≡ more w (types_of (drop (suc i) ws))
sorts_at ws i w q h = rw (drop-cons ws i w h) (ap (λ x. more x (types_of (drop (suc i) ws))) (sym q))

next : (ds : List AdtDecl) (ws : List TypeTree) (i : ℕ) (w : TypeTree) → w ≡ get_or ws i w → i < length ws → written_sorts ds (types_of (drop i ws)) ≡ (written_sort ds w >>= then_sorts ds (types_of (drop (suc i) ws)))
next ds ws i w q h = ap (written_sorts ds) (sorts_at ws i w q h)

sorts_on : (ds : List AdtDecl) (ws : List TypeTree) (i : ℕ) (w : TypeTree) (ts : List Ty) (t : Ty) → w ≡ get_or ws i w → i < length ws → written_sort ds w ≡ Ok t
    → continued ds ws i ts ≡ continued ds ws (i + 1) (ts ++ t ∷ [])
sorts_on ds ws i w ts t q h e =
    rw add-one
    (ap (λ m. m >>= and_sorts ts) (next ds ws i w q h)
    ∙ ap (λ (m : Result Ty SourceError). (m >>= then_sorts ds (types_of (drop (suc i) ws))) >>= and_sorts ts) e
    ∙ one_more ts t (written_sorts ds (types_of (drop (suc i) ws))))

-- from the start
pub sorts_more_all : (ds : List AdtDecl) (ws : List TypeTree) (i : ℕ) (w : TypeTree) (ts us : List Ty) (t : Ty) → w ≡ get_or ws i w → i < length ws → written_sort ds w ≡ Ok t → us ≡ ts ++ t ∷ []
    → written_sorts ds (types_of ws) ≡ continued ds ws i ts → written_sorts ds (types_of ws) ≡ continued ds ws (i + 1) us
sorts_more_all ds ws i w ts us t q h e pushed r = r ∙ sorts_on ds ws i w ts t q h e ∙ ap (continued ds ws (i + 1)) (sym pushed)

pub sorts_stop_all : (f : PassError) (ds : List AdtDecl) (ws : List TypeTree) (i : ℕ) (w : TypeTree) (ts : List Ty) → w ≡ get_or ws i w → i < length ws
    → written_sorts ds (types_of ws) ≡ continued ds ws i ts → Refuses f (written_sort ds w) → Refuses f (written_sorts ds (types_of ws))
sorts_stop_all f ds ws i w ts q h r e =
    along f _ _ r
    (refuses_then f _ (and_sorts ts)
    (along f _ _ (next ds ws i w q h)
    (refuses_then f (written_sort ds w) (then_sorts ds (types_of (drop (suc i) ws))) e)))

drop_all : (ws : List TypeTree) (n : ℕ) → n ≡ length ws → drop n ws ≡ []
drop_all [] n q = rw q refl
drop_all (w ∷ ws) n q = rw q (drop_all ws (length ws) refl)

pub sorts_end : (ds : List AdtDecl) (ws : List TypeTree) (n : ℕ) (ts : List Ty) → n ≡ length ws → continued ds ws n ts ≡ Ok (tys_of ts)
sorts_end ds ws n ts q = rw (drop_all ws n q) (ap Ok (onto_end ts))

smaller : (ws : List TypeTree) (i : ℕ) (d : TypeTree) → i < length ws → type_tree_size (get_or ws i d) < types_size (types_of ws)
smaller [] i d h = absurd (omega arith)
smaller (w ∷ ws) zero d h = omega arith
smaller (w ∷ ws) (suc i) d h = omega (arith, smaller ws i d (omega arith))

pub sort_smaller : (ws : List TypeTree) (i : ℕ) (w : TypeTree) → w ≡ get_or ws i w → i < length ws → type_tree_size w < types_size (types_of ws)
sort_smaller ws i w q h = omega (arith, ap type_tree_size q, smaller ws i w h)
