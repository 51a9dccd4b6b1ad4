-- A function lowers to one body, and a program in one way.
use Rattle.std.proofs.Common.{◌≡◌, refl, ap, sym, ◌∙◌, subst, ℕ, zero, suc, ◌+◌, ◌≤◌, List, [], ◌∷◌, ◌++◌, map, length, Some, slice_get, arith}
use Rattle.std.specs.List.{All}
use Rattle.std.proofs.lemmas.List.Elements.{All-head, All-tail}
use Rattle.logic_term.specs.declared.declaration.AdtDecl.{AdtDecl}
use Rattle.logic_term.specs.declared.kinds.Label.{Label}
use Rattle.logic_term.specs.declared.obligation.Contract.{Contract}
use Rattle.logic_term.specs.Ty.{Ty}
use Rattle.mir_ir.specs.declared.body.Block.{Block}
use Rattle.mir_ir.specs.declared.body.Body.{Body}
use Rattle.mir_ir.specs.declared.body.Initialised.{Initialised}
use Rattle.mir_ir.specs.declared.terminator.TerminatorKind.TheVariants.{Return}
use Rattle.type_check.specs.declared.program.Signature.{Signature}
use Rattle.type_check.specs.declared.program.TypedFunction.{TypedFunction}
use Rattle.type_check.specs.TypedExprView.{span_of}
use Rattle.type_check.specs.WellTyped.{signatures}
use Rattle.mir_build.specs.Laws.{ProgramsLowerInOneWay, BlocksAreCounted}
use Rattle.mir_build.specs.Text.{Line, Leaves, fresh, closed, made, owned}
use Rattle.mir_build.specs.Lowering.{numbers, calls_of, counted, paired, all_locals, local_name, entry_title, around_body, gone_at, ends, named_body, LowersTo, EachLowersTo, no_functions, and_function}
use Rattle.mir_build.specs.Numbered.{labels, label}
use Rattle.mir_build.specs.Whole.{text_of_body}
use Rattle.mir_build.proofs.Accepted.{contract_is}
use Rattle.mir_build.proofs.Numbers.{count, labels_begun, within_once, within_one, within_split, count_begun}
use Rattle.mir_build.proofs.Order.{InOrder}
use Rattle.mir_build.proofs.Following.{From, from_range, from_count, behind_paired, in_order_from}
use Rattle.mir_build.proofs.Fills.{body_fills}
use Rattle.mir_build.proofs.Rowwise.{turn_count_body}
use Rattle.mir_build.proofs.OneText.{one_body_text}
use Rattle.mir_build.proofs.Whole.{types, locals_paired, length-paired, closed_turns}
use Rattle.mir_build.proofs.Basics.{some_same}

-- ---- lists with the same elements

get_of_paired : (n : ℕ) (ts : List Ty) (i : ℕ) (t : Ty) → slice_get ts i ≡ Some t → slice_get (paired n ts) i ≡ Some (n + i, t)
get_of_paired n [] i t h = absurd (cc)
get_of_paired n (s ∷ ts) zero t h = let e : s ≡ t = some_same h in let q : n ≡ n + 0 = omega arith in λ i. Some (q i, e i)
get_of_paired n (s ∷ ts) (suc i) t h = let q : n + 1 + i ≡ n + suc i = omega arith in get_of_paired (n + 1) ts i t h ∙ ap (λ k. Some (k, t)) q

same_list : (xs ys : List Ty) → length xs ≡ length ys → ((i : ℕ) (t : Ty) → slice_get ys i ≡ Some t → slice_get xs i ≡ Some t) → xs ≡ ys
same_list [] [] q h = refl
same_list [] (y ∷ ys) q h = absurd (omega (arith, q))
same_list (x ∷ xs) [] q h = absurd (omega (arith, q))
same_list (x ∷ xs) (y ∷ ys) q h =
    let e : x ≡ y = some_same (h 0 y refl) in
    let r : xs ≡ ys = same_list xs ys (omega (arith, q)) (λ i t g. h (suc i) t g) in
    λ i. e i ∷ r i

-- ---- the body of a function

abbrev locals_with : TypedFunction → List Line → List Ty
locals_with f xs = f.signature.answer ∷ (f.signature.params ++ types xs)

abbrev blocks_with : TypedFunction → Label → List Line → List (Label × Block)
blocks_with f l xs = closed (fresh (entry_title l)) (xs ++ Leaves (ends (span_of f.body) Return) ∷ [])

abbrev the_body : List AdtDecl → List Signature → ℕ → List ℕ → TypedFunction → Body
the_body ds σ id owner f = record {
  id = id;
  owner = owner;
  types = [];
  params = length f.signature.params;
  locals = locals_with f (text_of_body ds f);
  names = map local_name (counted 0 (locals_with f (text_of_body ds f)));
  outlives = [];
  calls = calls_of σ (blocks_with f (label 0) (text_of_body ds f));
  entry = label 0;
  blocks = blocks_with f (label 0) (text_of_body ds f);
  span = f.span;
  types_at = f.types_at;
}

abbrev the_gone : List AdtDecl → TypedFunction → Initialised
the_gone ds f = record { gone = map gone_at (owned (text_of_body ds f)) }

module _ (ds : List AdtDecl) (σ : List Signature) (owner : List ℕ) (f : TypedFunction) (b : Body) (gone : Initialised) (l : LowersTo ds σ owner f b gone) where
  labels_from : From 0 (b.entry.0 ∷ named_body l.into)
  labels_from = from_range 0 (b.entry.0 ∷ named_body l.into) l.labels_in_order

  locals_from : From 0 (numbers (all_locals f l.text))
  locals_from = from_range 0 (numbers (all_locals f l.text)) l.locals_in_order

  entry_is : b.entry.0 ≡ 0
  entry_is = labels_from.0

  makes_in_order : InOrder (1 + length f.signature.params) l.text
  makes_in_order = in_order_from (1 + length f.signature.params) l.text (behind_paired 1 (1 + length f.signature.params) f.signature.params (made l.text) refl locals_from.1)

  text_is : l.text ≡ text_of_body ds f
  text_is = one_body_text (around_body ds f) f.body l.text l.into 1 (1 + length f.signature.params) labels_from.1 makes_in_order

  -- each label begins one block
  pub labels_once : (x : ℕ) → count x (b.entry.0 ∷ labels_begun l.text) ≤ 1
  labels_once x =
      let e : count x (b.entry.0 ∷ labels_begun l.text) ≡ count x (0 ∷ labels_begun (text_of_body ds f)) = λ i. count x (entry_is i ∷ labels_begun (text_is i)) in
      omega (arith, e, count_begun x (text_of_body ds f), (body_fills f.body (around_body ds f) 1 (1 + length f.signature.params)).once x, within_split 0 1 (labels f.body) 1 x refl, within_one 0 x, within_once 0 (1 + labels f.body) x)

  -- each local is made once
  pub locals_once : (x : ℕ) → count x (numbers (all_locals f l.text)) ≤ 1
  locals_once x =
      let ns = numbers (all_locals f l.text) in
      omega (arith, from_count 0 ns x locals_from, within_once 0 (length ns) x)

  locals_are : b.locals ≡ locals_with f (text_of_body ds f)
  locals_are =
      let ts = locals_with f l.text in
      let all : all_locals f l.text ≡ paired 0 ts = locals_paired f l.text makes_in_order in
      let place : (i : ℕ) → 0 + i ≡ i = λ i. omega arith in
      same_list b.locals ts (l.all ∙ ap length all ∙ length-paired 0 ts)
      (λ i t g. l.locals i i t (ap (λ ms. slice_get ms i) all ∙ get_of_paired 0 ts i t g ∙ ap (λ k. Some (k, t)) (place i)))
      ∙ ap (locals_with f) text_is

  body_is : b ≡ the_body ds σ b.id owner f
  body_is =
      let names_are = l.names ∙ ap (λ ts. map local_name (counted 0 ts)) locals_are in
      let blocks_here : blocks_with f b.entry l.text ≡ blocks_with f (label 0) (text_of_body ds f) = λ i. blocks_with f (label (entry_is i)) (text_is i) in
      let blocks_are = l.blocks ∙ blocks_here in
      let calls_are = l.calls ∙ ap (calls_of σ) blocks_are in
      λ i. record {
        id = b.id;
        owner = l.owner_is i;
        types = l.types i;
        params = l.params i;
        locals = locals_are i;
        names = names_are i;
        outlives = l.outlives i;
        calls = calls_are i;
        entry = label (entry_is i);
        blocks = blocks_are i;
        span = l.span i;
        types_at = l.types_at i;
      }

  gone_is : gone ≡ the_gone ds f
  gone_is =
      let e = l.holds_nothing ∙ ap (λ xs. map gone_at (owned xs)) text_is in
      λ i. record { gone = e i }

  blocks_count : length b.blocks ≡ 1 + labels f.body
  blocks_count =
      omega (arith, ap length l.blocks, closed_turns l.text (fresh (entry_title b.entry)) (ends (span_of f.body) Return), turn_count_body (around_body ds f) f.body l.text l.into)

-- ---- programs

each_lowers_in_one_way : (table : List (List ℕ)) (decls : List AdtDecl) (σ : List Signature) (n : ℕ) (fs : List TypedFunction) (bs bs' : List Body) (cs cs' : List Contract) (gones gones' : List Initialised)
    → EachLowersTo table decls σ n fs bs cs gones → EachLowersTo table decls σ n fs bs' cs' gones' → (bs ≡ bs') × (cs ≡ cs') × (gones ≡ gones')
each_lowers_in_one_way table decls σ n fs bs bs' cs cs' gones gones' no_functions no_functions = (refl, refl, refl)
each_lowers_in_one_way table decls σ n fs bs bs' cs cs' gones gones' (and_function {f = f} {fs = gs} {b = b} {bs = ks} {c = c} {cs = ds} {gone = g} {gones = hs} o t l h d r)
    (and_function {b = b'} {bs = ks'} {c = c'} {cs = ds'} {gone = g'} {gones = hs'} o' t' l' h' d' r') =
    let owners : o ≡ o' = some_same (sym t ∙ t') in
    let ids : b.id ≡ b'.id = d ∙ sym d' in
    let bodies : b ≡ b' = body_is decls σ o f b g l ∙ (λ i. the_body decls σ (ids i) (owners i) f) ∙ sym (body_is decls σ o' f b' g' l') in
    let contract : c ≡ c' = contract_is f c h ∙ sym (contract_is f c' h') in
    let gone : g ≡ g' = gone_is decls σ o f b g l ∙ sym (gone_is decls σ o' f b' g' l') in
    let w = each_lowers_in_one_way table decls σ (suc n) gs ks ks' ds ds' hs hs' r r' in
    (λ i. bodies i ∷ w.0 i, λ i. contract i ∷ w.1 i, λ i. gone i ∷ w.2 i)

pub programs_lower_in_one_way : ProgramsLowerInOneWay
programs_lower_in_one_way table ds fs bs bs' cs cs' gones gones' l l' =
    let w = each_lowers_in_one_way table ds (signatures fs) 0 fs bs.bodies bs'.bodies cs.of cs'.of gones gones' l.each l'.each in
    let decls : bs.decls ≡ bs'.decls = l.decls ∙ sym l'.decls in
    let impls : bs.impls ≡ bs'.impls = l.impls ∙ sym l'.impls in
    let closures : bs.closures ≡ bs'.closures = l.closures ∙ sym l'.closures in
    let traits : cs.traits ≡ cs'.traits = l.traits ∙ sym l'.traits in
    let closure_decls : cs.closures ≡ cs'.closures = l.closure_decls ∙ sym l'.closure_decls in
    let intrinsics : cs.intrinsics ≡ cs'.intrinsics = l.intrinsics ∙ sym l'.intrinsics in
    (λ i. record { bodies = w.0 i; decls = decls i; impls = impls i; closures = closures i }, λ i. record { of = w.1 i; traits = traits i; closures = closure_decls i; intrinsics = intrinsics i }, w.2)

-- the function at the place has no more blocks
few_blocks : (table : List (List ℕ)) (decls : List AdtDecl) (σ : List Signature) (first : ℕ) (fs : List TypedFunction) (bs : List Body) (cs : List Contract) (gones : List Initialised) → EachLowersTo table decls σ first fs bs cs gones
    → (bound : ℕ) → All (λ (b : Body). length b.blocks ≤ bound) bs → (n : ℕ) (f : TypedFunction) → slice_get fs n ≡ Some f → 1 + labels f.body ≤ bound
few_blocks table decls σ first fs bs cs gones no_functions bound h n f e = absurd (cc)
few_blocks table decls σ first fs bs cs gones (and_function {f = g} {b = b} {bs = ks} {gone = gone} o t l c d r) bound h zero f e =
    let few : length b.blocks ≤ bound = All-head (λ (k : Body). length k.blocks ≤ bound) b ks h in
    subst (λ (x : TypedFunction). 1 + labels x.body ≤ bound) (some_same e) (omega (arith, few, blocks_count decls σ o g b gone l))
few_blocks table decls σ first fs bs cs gones (and_function {fs = gs} {b = b} {bs = ks} {cs = ds} {gones = hs} o t l c d r) bound h (suc n) f e =
    few_blocks table decls σ (suc first) gs ks ds hs r bound (All-tail (λ (k : Body). length k.blocks ≤ bound) b ks h) n f e

pub blocks_are_counted : BlocksAreCounted
blocks_are_counted table ds p bs cs gones bound l few h =
    omega (arith, few_blocks table ds (signatures p.functions) 0 p.functions bs.bodies cs.of gones l.each bound few h.place h.function h.is_function, turn_count_body (around_body h.types h.function) h.function.body h.text h.into, h.more)
