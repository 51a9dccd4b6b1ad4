-- The sorts of the arguments of a type, as they are written, one after another; and the declared type of a name.
use Rattle.std.proofs.Common.{◌≡◌, ◌∙◌, ◌==◌, cond, Bool, true, false, ℕ, zero, suc, ◌+◌, ◌<◌, ◌≤◌, List, [], ◌∷◌, ◌++◌, length, get_or, drop, refl, ap, sym, add-one, drop-cons, Option, Some, None, Result, Ok, Err, arith}
use Rattle.std.specs.Prelude.{slice_get, option_map}
use Rattle.text_core.specs.declared.fault.PassError.{PassError}
use Rattle.text_core.specs.declared.refusal.SourceError.{SourceError}
use Rattle.text_core.specs.declared.span.Span.{Span}
use Rattle.logic_term.specs.Ty.{Ty}
use Rattle.logic_term.specs.declared.declaration.AdtDecl.{AdtDecl}
use Rattle.rs_types.specs.Table.{number_of}
use Rattle.source_trees.specs.TypeTree.{TypeTree, TypeArguments, with_lifetime, with_type}
use Rattle.source_trees.specs.TypeTreeView.{type_arguments_of, type_tree_size, type_arguments_size}
use Rattle.source_trees.specs.declared.path.Segment.{Segment}
use Rattle.source_trees.specs.declared.types.TypeArgument.{TypeArgument}
use Rattle.source_trees.specs.declared.types.TypeArgument.TheVariants as argument
use Rattle.logic_elab.specs.Answers.{◌>>=◌, Refuses, unbuilt}
use Rattle.logic_elab.specs.WrittenSorts.{written_sort, argument_sorts}
use Rattle.logic_elab.proofs.Stops.{along, refuses_then}

abbrev and_sorts : List Ty → List Ty → Result (List Ty) SourceError
and_sorts ts end = Ok (ts ++ end)

-- what is left, after these sorts
abbrev pub continued : List AdtDecl → Span → List TypeArgument → ℕ → List Ty → Result (List Ty) SourceError
continued ds s ws i ts = argument_sorts ds s (type_arguments_of (drop i ws)) >>= and_sorts ts

abbrev one : Ty → List Ty → Result (List Ty) SourceError
one t r = Ok (t ∷ r)

behind : (ts : List Ty) (t : Ty) (r : List Ty) → ts ++ t ∷ r ≡ (ts ++ t ∷ []) ++ r
behind [] t r = refl
behind (u ∷ ts) t r = ap (λ us. u ∷ us) (behind ts t r)

at_end : (ts : List Ty) → ts ++ [] ≡ ts
at_end [] = refl
at_end (u ∷ ts) = ap (λ us. u ∷ us) (at_end ts)

one_more : (ts : List Ty) (t : Ty) (m : Result (List Ty) SourceError) → ((m >>= one t) >>= and_sorts ts) ≡ (m >>= and_sorts (ts ++ t ∷ []))
one_more ts t (Ok r) = ap Ok (behind ts t r)
one_more ts t (Err e) = refl

nothing_yet : (m : Result (List Ty) SourceError) → m ≡ (m >>= and_sorts [])
nothing_yet (Ok r) = refl
nothing_yet (Err e) = refl

pub arguments_start : (ds : List AdtDecl) (s : Span) (ws : List TypeArgument) → argument_sorts ds s (type_arguments_of ws) ≡ continued ds s ws 0 []
arguments_start ds s ws = nothing_yet (argument_sorts ds s (type_arguments_of ws))

abbrev then_sorts : List AdtDecl → Span → TypeArguments → Ty → Result (List Ty) SourceError
then_sorts ds s ws t = argument_sorts ds s ws >>= one t

arguments_at : (ws : List TypeArgument) (i : ℕ) (a : TypeArgument) → a ≡ get_or ws i a → i < length ws → type_arguments_of (drop i ws) ≡ type_arguments_of (a ∷ drop (suc i) ws)
arguments_at ws i a q h = rw (drop-cons ws i a h) (ap (λ x. type_arguments_of (x ∷ drop (suc i) ws)) (sym q))

next : (ds : List AdtDecl) (s : Span) (ws : List TypeArgument) (i : ℕ) (a : TypeArgument) (w : TypeTree) → a ≡ get_or ws i a → i < length ws → a ≡ argument.Type w
    → argument_sorts ds s (type_arguments_of (drop i ws)) ≡ (written_sort ds w >>= then_sorts ds s (type_arguments_of (drop (suc i) ws)))
next ds s ws i a w q h e = ap (argument_sorts ds s) (arguments_at ws i a q h ∙ ap (λ x. type_arguments_of (x ∷ drop (suc i) ws)) e)

arguments_on : (ds : List AdtDecl) (s : Span) (ws : List TypeArgument) (i : ℕ) (a : TypeArgument) (w : TypeTree) (ts : List Ty) (t : Ty) → a ≡ get_or ws i a → i < length ws → a ≡ argument.Type w
    → written_sort ds w ≡ Ok t → continued ds s ws i ts ≡ continued ds s ws (i + 1) (ts ++ t ∷ [])
arguments_on ds s ws i a w ts t q h is e =
    rw add-one
    (ap (λ m. m >>= and_sorts ts) (next ds s ws i a w q h is)
    ∙ ap (λ (m : Result Ty SourceError). (m >>= then_sorts ds s (type_arguments_of (drop (suc i) ws))) >>= and_sorts ts) e
    ∙ one_more ts t (argument_sorts ds s (type_arguments_of (drop (suc i) ws))))

-- from the start
pub arguments_more : (ds : List AdtDecl) (s : Span) (ws : List TypeArgument) (i : ℕ) (a : TypeArgument) (w : TypeTree) (ts us : List Ty) (t : Ty) → a ≡ get_or ws i a → i < length ws
    → a ≡ argument.Type w → written_sort ds w ≡ Ok t → us ≡ ts ++ t ∷ []
    → argument_sorts ds s (type_arguments_of ws) ≡ continued ds s ws i ts → argument_sorts ds s (type_arguments_of ws) ≡ continued ds s ws (i + 1) us
arguments_more ds s ws i a w ts us t q h is e pushed r = r ∙ arguments_on ds s ws i a w ts t q h is e ∙ ap (continued ds s ws (i + 1)) (sym pushed)

pub arguments_stop : (f : PassError) (ds : List AdtDecl) (s : Span) (ws : List TypeArgument) (i : ℕ) (a : TypeArgument) (w : TypeTree) (ts : List Ty) → a ≡ get_or ws i a → i < length ws
    → a ≡ argument.Type w → argument_sorts ds s (type_arguments_of ws) ≡ continued ds s ws i ts → Refuses f (written_sort ds w) → Refuses f (argument_sorts ds s (type_arguments_of ws))
arguments_stop f ds s ws i a w ts q h is r e =
    along f _ _ r
    (refuses_then f _ (and_sorts ts)
    (along f _ _ (next ds s ws i a w q h is)
    (refuses_then f (written_sort ds w) (then_sorts ds s (type_arguments_of (drop (suc i) ws))) e)))

-- at a lifetime
pub lifetime_stops : (ds : List AdtDecl) (s : Span) (ws : List TypeArgument) (i : ℕ) (a : TypeArgument) (l : Segment) (ts : List Ty) → a ≡ get_or ws i a → i < length ws
    → a ≡ argument.Lifetime l → argument_sorts ds s (type_arguments_of ws) ≡ continued ds s ws i ts → argument_sorts ds s (type_arguments_of ws) ≡ Err (unbuilt s)
lifetime_stops ds s ws i a l ts q h is r =
    r ∙ ap (λ w. argument_sorts ds s w >>= and_sorts ts) (arguments_at ws i a q h ∙ ap (λ x. type_arguments_of (x ∷ drop (suc i) ws)) is)

drop_all : (ws : List TypeArgument) (n : ℕ) → n ≡ length ws → drop n ws ≡ []
drop_all [] n q = rw q refl
drop_all (w ∷ ws) n q = rw q (drop_all ws (length ws) refl)

pub arguments_end : (ds : List AdtDecl) (s : Span) (ws : List TypeArgument) (n : ℕ) (ts : List Ty) → n ≡ length ws → continued ds s ws n ts ≡ Ok ts
arguments_end ds s ws n ts q = rw (drop_all ws n q) (ap Ok (at_end ts))

smaller : (ws : List TypeArgument) (i : ℕ) (d : TypeArgument) (w : TypeTree) → i < length ws → get_or ws i d ≡ argument.Type w → type_tree_size w < type_arguments_size (type_arguments_of ws)
smaller [] i d w h e = absurd (omega (arith, h))
smaller (argument.Lifetime l ∷ ws) zero d w h e = absurd (cc)
smaller (argument.Lifetime l ∷ ws) (suc i) d w h e = omega (arith, smaller ws i d w (omega (arith, h)) e)
smaller (argument.Type u ∷ ws) zero d w h e =
    let same : u ≡ w = cc in
    omega (arith, ap type_tree_size same)
smaller (argument.Type u ∷ ws) (suc i) d w h e = omega (arith, smaller ws i d w (omega (arith, h)) e)

pub argument_smaller : (ws : List TypeArgument) (i : ℕ) (a : TypeArgument) (w : TypeTree) → a ≡ get_or ws i a → i < length ws → a ≡ argument.Type w
    → type_tree_size w < type_arguments_size (type_arguments_of ws)
argument_smaller ws i a w q h e = smaller ws i a w h (sym q ∙ e)

-- ---- the declared type of a name

abbrev pub further : ℕ → Option ℕ → Option ℕ
further i o = option_map (λ n. i + n) o

one_further : (i : ℕ) (o : Option ℕ) → further i (option_map suc o) ≡ further (i + 1) o
one_further i None = refl
one_further i (Some n) = ap Some (omega arith)

dropped : (ds : List AdtDecl) (i : ℕ) (d : AdtDecl) → slice_get ds i ≡ Some d → drop i ds ≡ d ∷ drop (i + 1) ds
dropped [] i d e = absurd (cc)
dropped (c ∷ ds) zero d e = let same : c ≡ d = cc in ap (λ x. x ∷ ds) same
dropped (c ∷ ds) (suc i) d e = dropped ds i d e ∙ ap (λ cs. d ∷ cs) (ap (λ n. drop n ds) (add-one i) ∙ sym (ap (λ n. drop n (c ∷ ds)) (add-one (suc i))))

all_dropped : (ds : List AdtDecl) (i : ℕ) → length ds ≤ i → drop i ds ≡ []
all_dropped [] zero h = refl
all_dropped [] (suc i) h = refl
all_dropped (c ∷ ds) zero h = absurd (omega (arith, h))
all_dropped (c ∷ ds) (suc i) h = all_dropped ds i (omega (arith, h))

pub number_on : (ds : List AdtDecl) (i x : ℕ) (d : AdtDecl) → slice_get ds i ≡ Some d
    → further i (number_of x (drop i ds)) ≡ cond (d.name.0 == x) (Some i) (further (i + 1) (number_of x (drop (i + 1) ds)))
number_on ds i x d e = ap (λ (l : List AdtDecl). further i (number_of x l)) (dropped ds i d e) ∙ by (d.name.0 == x)
  where
    rest : Option ℕ
    rest = number_of x (drop (i + 1) ds)

    by : (b : Bool) → further i (cond b (Some 0) (option_map suc rest)) ≡ cond b (Some i) (further (i + 1) rest)
    by true = ap Some (omega arith)
    by false = one_further i rest

pub number_end : (ds : List AdtDecl) (i x : ℕ) → length ds ≤ i → further i (number_of x (drop i ds)) ≡ None
number_end ds i x far = ap (λ (l : List AdtDecl). further i (number_of x l)) (all_dropped ds i far)
