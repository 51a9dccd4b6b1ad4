-- A frame that stands in its body, and its arrival at a block.
use Rattle.std.proofs.Common.{◌≡◌, ◌∙◌, ◌⊎◌, inl, inr, refl, sym, ap, subst, ℕ, ◌≤◌, Bool, true, false, cond, List, [], ◌∷◌, ◌++◌, length, drop, Option, Some, None, slice_get, true≢false, arith}
use Rattle.std.proofs.lemmas.Option.{same_Some}
use Rattle.text_core.specs.declared.name.Name.{Name}
use Rattle.text_core.specs.declared.refusal.Kind.{Kind}
use Rattle.text_core.specs.declared.refusal.Kind.TheVariants.{InvEntry, InvKept}
use Rattle.text_core.specs.declared.span.Span.{Span}
use Rattle.logic_term.specs.declared.kinds.Label.{Label}
use Rattle.logic_term.specs.Free.{free}
use Rattle.logic_term.specs.Term.{Term}
use Rattle.logic_term.specs.Meaning.{Structure, Env, Holds}
use Rattle.logic_term.specs.Sort.{HasSort, instance}
use Rattle.logic_term.specs.Ty.{Ty, no_tys}
use Rattle.logic_term.specs.Value.{Value, nothing}
use Rattle.logic_term.proofs.Alike.{yes_alike}
use Rattle.logic_term.proofs.FreeLaw.{coincide_free}
use Rattle.mir_ir.specs.declared.body.Block.{Block}
use Rattle.mir_ir.specs.declared.body.Body.{Body}
use Rattle.mir_ir.specs.declared.body.Head.{Head}
use Rattle.mir_ir.specs.Body.{block_in}
use Rattle.mir_ir.specs.Layout.{among, around, around_of, place_of}
use Rattle.mir_ir.specs.Names.{IsOneOf, IsNameIn}
use Rattle.mir_ir.specs.WellFormed.{Labelling}
use Rattle.mir_machine.specs.Frame.{State}
use Rattle.mir_machine.specs.Invariant.{Stop}
use Rattle.mir_machine.specs.Good.{Each}
use Rattle.mir_machine.proofs.Writes.{at_start}
use Rattle.prophecy_logic.specs.declared.goal.Goal.{Goal}
use Rattle.prophecy_logic.specs.Row.{name_of}
use Rattle.mir_ir.specs.declared.body.Point.{Point}
use Rattle.prophecy_logic.specs.Command.{MovesAll}
use Rattle.prophecy_logic.specs.Graph.{Within, Arrives, plain, first, again}
use Rattle.prophecy_logic.specs.Prefix.{arrival, within, into_block, into_head}
use Rattle.prophecy_logic.specs.Loop.{loop_writes, is_gone, touched_there, head_commands}
use Rattle.prophecy_logic.specs.declared.touch.Touch.{Touch}
use Rattle.prophecy_logic.specs.declared.touch.Touch.TheVariants.{Untouched, Whole}
use Rattle.prophecy_logic.specs.Walk.{each_goal, goals_at_entry, goals_after_turn, seen_before, Walk, met}
use Rattle.prophecy_logic.specs.Walkable.{AllAmong}
use Rattle.prophecy_logic.proofs.Commands.{GoalsHold, goals_moved, goals_first, goals_rest, then_moves}
use Rattle.prophecy_sim.proofs.Lists.{each_of}
use Rattle.prophecy_sim.proofs.Setup.{Setup, FunctionOf, S, bodies, declarations, own, walked, local_named, local_of, named_as, params_outside}
use Rattle.prophecy_sim.proofs.Owned.{Shows, sort_there}
use Rattle.prophecy_sim.proofs.Operands.{Agree}
use Rattle.prophecy_sim.proofs.Stands.{Holding, Stands, they_stand, local_sort}
use Rattle.prophecy_sim.proofs.Entries.{assumed_move}
use Rattle.prophecy_sim.proofs.Heads.{Renewed, renewed_move, not_whole}
use Rattle.prophecy_sim.proofs.Memories.{among_first, among_more, among_head, among_either, KeepsOutside, AreBehind, Came, came_on, Passed, passed_kept, Memories, one_more, memories_kept, Reached, onward, backward}

-- one formula for each goal
pub each_holds : (S₀ : Structure) (kind : Kind) (ts : List Term) (spans : List Span) (ρ : Env) → GoalsHold S₀ ρ (each_goal kind ts spans) → Each (λ t. Holds S₀ t ρ) ts
each_holds S₀ kind [] spans ρ h = tt
each_holds S₀ kind (t ∷ ts) spans ρ h = (h.0, each_holds S₀ kind ts (drop 1 spans) ρ h.1)

-- ---- any value of a type

-- what is there at a head and is not touched is not written
not_touched : (gone writes : Bool) → gone ≡ false → cond gone Untouched (cond writes Whole Untouched) ≡ Untouched → writes ≡ false
not_touched true true e f = absurd (true≢false e)
not_touched true false e f = refl
not_touched false true e f = absurd (not_whole (sym f))
not_touched false false e f = refl

-- ---- blocks

plain_nest : (k : Block) (l : Label) (outer : List Label) → around l k outer → k.head ≡ None → k.nest ≡ outer
plain_nest k l outer a e = subst (λ o. around_of o k.nest l outer) e a

head_nest : (k : Block) (l : Label) (outer : List Label) (h : Head) → around l k outer → k.head ≡ Some h → k.nest ≡ outer ++ l ∷ []
head_nest k l outer h a e = subst (λ o. around_of o k.nest l outer) e a

none_some : (k : Block) (h : Head) → k.head ≡ None → k.head ≡ Some h → ⊥
none_some k h e f = let clash : None ≡ Some h = sym e ∙ f in cc

false_true : (t : Bool) → t ≡ false → t ≡ true → ⊥
false_true t e f = true≢false (sym f ∙ e)

still : (l : Label) (heads outer : List Label) → AllAmong outer heads → AllAmong (outer ++ l ∷ []) (l ∷ heads)
still l heads outer h m e = elim (among_either m l outer e) [
  | inl a ↦ among_more m l heads (h m a)
  | inr q ↦ subst (λ k. among k (l ∷ heads) ≡ true) q (among_first l heads)
]

-- where a frame stands in its code
abbrev pub point_of : Stop → Point
point_of g = record { label = g.label; statement = g.statement }

-- f: a function; ρ₀: the environment in which its call began
module _ {K : Type 0} (s : Setup K) (f : FunctionOf s) (ρ₀ : Env) where
  abbrev b : Body
  b = f.body

  abbrev initialised : Labelling
  initialised = s.labelling f.number

  -- in the state the frame of this number stands in the function's code: a prefix leads to its stop g, to an environment that stands for its
  -- locals and in which the goals of what is left of a walk hold
  pub record Standing (st : State K) (frame : ℕ) (g : Stop) : Type 0 where
    pub function : g.function ≡ f.number
    pub types : g.types ≡ no_tys
    pub block : Block
    pub is_block : block_in b.blocks g.label ≡ Some block
    pub in_block : g.statement ≤ length block.statements
    pub env : Env
    pub stands : Stands s f st frame (initialised g.label g.statement) env
    pub keeps : KeepsOutside s f ρ₀ env
    pub heads : List Label
    pub came : Came s f ρ₀ (walked s f) heads (within (point_of g)) env
    pub walk : Walk
    pub walks : Within (walked s f) heads (point_of g) walk
    pub hold : GoalsHold (S s) env (met walk)
    -- what is remembered of the loops around
    pub nested : Memories s f ρ₀ (initialised g.label g.statement) env block.nest
    pub enclosing : AllAmong block.nest heads
    pub behind : AreBehind s f ρ₀ heads g.label

  -- what stands where the frame of this number comes to the block, these heads being passed
  pub record Coming (heads : List Label) (l : Label) (st : State K) (frame : ℕ) : Type 0 where
    pub held : Holding s f st frame (initialised l 0)
    pub env : Env
    pub agrees : Agree b st frame (initialised l 0) env
    pub keeps : KeepsOutside s f ρ₀ env
    pub came : Came s f ρ₀ (walked s f) heads (arrival l) env

  -- ---- at the head of a loop

  module _ (heads : List Label) (l : Label) (st : State K) (frame : ℕ) (c : Coming heads l st frame) (outer : List Label) (p : Passed s f ρ₀ l outer (initialised l 0) c.env) where
    -- some value of the local's type
    default_at : (x : ℕ) (o : Option Ty) → slice_get b.locals x ≡ o → Value
    default_at x (Some ty) e = ((own s f).simple.valued x ty e).0
    default_at x None e = nothing

    default_sort : (x : ℕ) (ty : Ty) (o : Option Ty) (e : slice_get b.locals x ≡ o) → o ≡ Some ty → HasSort (declarations s) (default_at x o e) (instance no_tys ty)
    unfolding default_at
    default_sort x ty (Some u) e is =
        subst (λ v. HasSort (declarations s) ((own s f).simple.valued x u e).0 (instance no_tys v)) (same_Some _ _ is) (sort_there (bodies s) (own s f).simple.owns (declarations s) s.declares (own s f).simple.fields ((own s f).simple.valued x u e).1)
    default_sort x ty None e is = absurd (cc)

    -- the local has the value that the run has, or any
    new_value : ℕ → Value
    new_value x = cond (initialised l 0 x) (c.env (name_of b x)) (default_at x (slice_get b.locals x) refl)

    there_value : (x : ℕ) → initialised l 0 x ≡ true → new_value x ≡ c.env (name_of b x)
    unfolding new_value
    there_value x e = ap (λ t. cond t (c.env (name_of b x)) (default_at x (slice_get b.locals x) refl)) e

    gone_value : (x : ℕ) → initialised l 0 x ≡ false → new_value x ≡ default_at x (slice_get b.locals x) refl
    unfolding new_value
    gone_value x e = ap (λ t. cond t (c.env (name_of b x)) (default_at x (slice_get b.locals x) refl)) e

    new_sort : (x : ℕ) (ty : Ty) → slice_get b.locals x ≡ Some ty → HasSort (declarations s) (new_value x) (instance no_tys ty)
    new_sort x ty is_ty = by_test (initialised l 0 x) refl
      where
        by_test : (t : Bool) → initialised l 0 x ≡ t → HasSort (declarations s) (new_value x) (instance no_tys ty)
        by_test true e = subst (λ v. HasSort (declarations s) v (instance no_tys ty)) (sym (there_value x e)) (local_sort s f st frame (initialised l 0) c.env c.held c.agrees x ty is_ty e)
        by_test false e = subst (λ v. HasSort (declarations s) v (instance no_tys ty)) (sym (gone_value x e)) (default_sort x ty (slice_get b.locals x) refl is_ty)

    abbrev again_env : Renewed (S s) b (own s f).simple.names (own s f).typed.named (touched_there b (walked s f).init l) new_value p.first.env
    again_env = renewed_move (S s) b (own s f).simple.names (own s f).typed.named (touched_there b (walked s f).init l) new_value p.first.env (λ x ty t is_ty. new_sort x ty is_ty)

    -- what is initialised has the value that it had
    head_same : (y : ℕ) (ty : Ty) → initialised l 0 y ≡ true → slice_get b.locals y ≡ Some ty → again_env.env (name_of b y) ≡ c.env (name_of b y)
    head_same y ty inside is_ty = by_test (touched_there b (walked s f).init l y) refl
      where
        named : slice_get b.names y ≡ Some (name_of b y)
        named = local_named s f y ty is_ty

        by_test : (t : Touch) → touched_there b (walked s f).init l y ≡ t → again_env.env (name_of b y) ≡ c.env (name_of b y)
        by_test Whole q = again_env.there y (name_of b y) q named ∙ there_value y inside
        by_test Untouched q =
            let unwritten : loop_writes b l y ≡ false = not_touched (is_gone (walked s f).init l y) (loop_writes b l y) ((own s f).heads.there l y inside) q in
            again_env.others (name_of b y) (λ x m renewed is_m same. not_whole (sym (sym renewed ∙ ap (touched_there b (walked s f).init l) ((own s f).simple.names.apart x y m (name_of b y) is_m named (sym same)) ∙ q)))
            ∙ sym (p.unchanged y ty unwritten inside is_ty)

    head_agrees : Agree b st frame (initialised l 0) again_env.env
    head_agrees y ty t inside is_ty e = subst (Shows t) (sym (head_same y ty inside is_ty)) (c.agrees y ty t inside is_ty e)

    head_keeps : KeepsOutside s f ρ₀ again_env.env
    head_keeps n out = again_env.others n (λ x m renewed is_m same. out.0 x m is_m same) ∙ p.first.keeps n out

    -- the formula speaks of parameters, and of what is initialised here
    abbrev OverHead : Term → Type 0
    OverHead t = (x : Name) → free x t ≡ true → IsOneOf x (own s f).contract.params ⊎ IsNameIn b (initialised l 0) x

    invariants_there : (ts : List Term) → Each OverHead ts → Each (λ t. Holds (S s) t c.env) ts → Each (λ t. Holds (S s) t again_env.env) ts
    invariants_there [] over h = tt
    invariants_there (t ∷ ts) over h = ((yes_alike _ _ (coincide_free (S s) t c.env again_env.env (λ x f. at_name x (over.0 x f)))).0 h.0, invariants_there ts over.1 h.1)
      where
        at_name : (x : Name) → IsOneOf x (own s f).contract.params ⊎ IsNameIn b (initialised l 0) x → c.env x ≡ again_env.env x
        at_name x (inl one) = c.keeps x (params_outside s f x one) ∙ sym (head_keeps x (params_outside s f x one))
        at_name x (inr (y, inside, e)) =
            let ty = local_of s f y x e in
            subst (λ n. c.env n ≡ again_env.env n) (named_as b y x e) (sym (head_same y ty.0 inside ty.1))

    head_moves : Each (λ t. Holds (S s) t c.env) p.first.head.invariants → MovesAll (S s) (head_commands b (walked s f).init l p.first.head) p.first.env again_env.env
    head_moves invariants = then_moves (S s) again_env.moves (assumed_move (S s) p.first.head.invariants again_env.env (invariants_there p.first.head.invariants
        (each_of OverHead p.first.head.invariants ((own s f).heads.over l p.first.block p.first.head p.first.is_block p.first.is_head))
        invariants))

    pub at_head : (g : Stop) → g.function ≡ f.number → g.types ≡ no_tys → Memories s f ρ₀ (initialised l 0) c.env outer →
        Each (λ t. Holds (S s) t c.env) p.first.head.invariants → Standing st frame (at_start l g)
    at_head g function types ms invariants = record {
      function = function;
      types = types;
      block = p.first.block;
      is_block = p.first.is_block;
      in_block = omega arith;
      env = again_env.env;
      stands = they_stand s f st frame c.held head_agrees;
      keeps = head_keeps;
      heads = l ∷ p.first.heads;
      came = came_on s f ρ₀ p.first.came (head_commands b (walked s f).init l p.first.head)
          (into_head p.first.block p.first.head p.first.came.prefix p.first.is_block p.first.is_head p.first.fresh) (head_moves invariants);
      walk = p.first.walk;
      walks = p.first.walks;
      hold = goals_moved (S s) (met p.first.walk) (head_moves invariants) p.first.hold;
      nested = subst (Memories s f ρ₀ (initialised l 0) again_env.env) (sym p.first.nest)
          (one_more (memories_kept s f ρ₀ ms (λ k a x ty e inside is_ty. (inside, head_same x ty inside is_ty)))
          (passed_kept s f ρ₀ l outer (initialised l 0) (initialised l 0) c.env again_env.env (λ x ty e inside is_ty. (inside, head_same x ty inside is_ty)) p));
      enclosing = p.first.within;
      behind = p.first.behind;
    }

  -- ---- arrivals

  some_same_block : (k to : Block) (l : Label) → block_in b.blocks l ≡ Some k → block_in b.blocks l ≡ Some to → to ≡ k
  some_same_block k to l e f = same_Some _ _ (sym f ∙ e)

  still_behind : (l : Label) (heads : List Label) → AreBehind s f ρ₀ heads l → AreBehind s f ρ₀ (l ∷ heads) l
  still_behind l heads h m e = elim (among_head m l heads e) [
    | inl q ↦ subst (λ k. place_of b.blocks k ≤ place_of b.blocks l) q (omega arith)
    | inr a ↦ h m a
  ]

  -- the frame stands where it arrives
  pub arrived : {heads : List Label} {l : Label} {v : Walk} → Arrives (walked s f) heads l v → (st : State K) (frame : ℕ) (g : Stop) → g.function ≡ f.number → g.types ≡ no_tys → (c : Coming heads l st frame)
      → Reached s f ρ₀ (initialised l 0) c.env heads l → GoalsHold (S s) c.env (met v) → Standing st frame (at_start l g)
  arrived {heads} {l} {v} (plain k is_block none_there walks) st frame g function types c (onward to outer is_to is_around ms sub behind fresh) hold =
      let same : to ≡ k = some_same_block k to l is_block is_to in
      let nest : k.nest ≡ outer = plain_nest k l outer (subst (λ x. around l x outer) same is_around) none_there in
      record {
        function = function;
        types = types;
        block = k;
        is_block = is_block;
        in_block = omega arith;
        env = c.env;
        stands = they_stand s f st frame c.held c.agrees;
        keeps = c.keeps;
        heads = heads;
        came = record { commands = c.came.commands; prefix = into_block k c.came.prefix is_block none_there; moves = c.came.moves };
        walk = v;
        walks = walks;
        hold = hold;
        nested = subst (Memories s f ρ₀ (initialised l 0) c.env) (sym nest) ms;
        enclosing = subst (λ xs. AllAmong xs heads) (sym nest) sub;
        behind = behind;
      }
  arrived {l = l} (plain k is_block none_there walks) st frame g function types c (backward to h outer is_to is_head a ms p) hold =
      absurd (none_some k h none_there (subst (λ (x : Block). x.head ≡ Some h) (some_same_block k to l is_block is_to) is_head))
  arrived {heads} {l} (first {v = u} k h is_block e fresh_l walks) st frame g function types c (onward to outer is_to is_around ms sub behind fresh) hold =
      let same : to ≡ k = some_same_block k to l is_block is_to in
      let nest : k.nest ≡ outer ++ l ∷ [] = head_nest k l outer h (subst (λ x. around l x outer) same is_around) e in
      let invariants : List Goal = goals_at_entry h in
      let after : List Goal = seen_before (head_commands b (walked s f).init l h) (met u) in
      let p : Passed s f ρ₀ l outer (initialised l 0) c.env = record {
        first = record {
          block = k;
          is_block = is_block;
          head = h;
          is_head = e;
          nest = nest;
          heads = heads;
          fresh = fresh_l;
          env = c.env;
          keeps = c.keeps;
          came = c.came;
          within = subst (λ xs. AllAmong xs (l ∷ heads)) (sym nest) (still l heads outer sub);
          behind = still_behind l heads behind;
          walk = u;
          walks = walks;
          hold = goals_rest (S s) c.env invariants after hold;
        };
        unchanged = λ x ty q inside is_ty. refl;
      } in
      at_head heads l st frame c outer p g function types ms (each_holds (S s) InvEntry h.invariants h.spans c.env (goals_first (S s) c.env invariants after hold))
  arrived {heads} {l} (first k h is_block e fresh_l walks) st frame g function types c (backward to h' outer is_to is_head a ms p) hold = absurd (false_true (among l heads) fresh_l a)
  arrived {heads} (again k h is_block e passed) st frame g function types c (onward to outer is_to is_around ms sub behind fresh) hold = absurd (fresh passed)
  arrived {heads} {l} (again k h is_block e passed) st frame g function types c (backward to h' outer is_to is_head a ms p) hold =
      let same : p.first.block ≡ k = some_same_block k p.first.block l is_block p.first.is_block in
      let head : h ≡ p.first.head = same_Some _ _ (sym e ∙ subst (λ (x : Block). x.head ≡ Some p.first.head) same p.first.is_head) in
      at_head heads l st frame c outer p g function types ms (subst (λ (x : Head). Each (λ t. Holds (S s) t c.env) x.invariants) head (each_holds (S s) InvKept h.invariants h.spans c.env (goals_first (S s) c.env (goals_after_turn h) [] hold)))
