-- A source within its length is accepted with one program, or refused with one code and place, or past one limit, and only one of these.
use Rattle.std.proofs.Common.{◌≡◌, ◌∙◌, refl, sym, ap, subst, ℕ, ◌<◌, ◌≤◌, List, [], length, Option, Some, None, Result, Ok, Err, arith}
use Rattle.text_core.specs.declared.refusal.Limit.{Limit}
use Rattle.text_core.specs.declared.refusal.SourceError.{SourceError}
use Rattle.name_tables.proofs.Tables.{one_place_at_first}
use Rattle.mir_ir.specs.declared.body.Contracts.{Contracts}
use Rattle.mir_ir.specs.declared.body.Initialised.{Initialised}
use Rattle.text_core.specs.declared.fault.PassError.TheVariants as errors
use Rattle.source_words.proofs.WordLists.{one_table}
use Rattle.source_trees.specs.declared.item.Item.{Item}
use Rattle.type_check.specs.declared.program.TypedProgram.{TypedProgram}
use Rattle.rs_types.specs.Checked.{IsFirst}
use Rattle.rs_types.proofs.OneRefusal.{first_does_not_hold, one_first}
use Rattle.type_check.specs.Checked.{checked}
use Rattle.declared_types.specs.DeclaredTypes.{declared_types}
use Rattle.declared_types.specs.Declaring.{checks}
use Rattle.type_check.specs.Answers.{unbuilt}
use Rattle.runnable.specs.Unrun.{first_unrun}
use Rattle.mir_build.specs.Lowering.{LowerTo, HasMoreBlocks}
use Rattle.mir_build.specs.Whole.{HaveFewBlocks}
use Rattle.mir_build.proofs.OneBody.{programs_lower_in_one_way, blocks_are_counted}
use Rattle.proof_kernel.specs.declared.setting.Tables.{Tables}
use Rattle.verify_core.specs.declared.owed.Owed.{Owed}
use Rattle.verify_core.specs.declared.program.Program.{Program}
use Rattle.verify_core.specs.Built.{IsSourceError}
use Rattle.verify_core.specs.Prepared.{AreInOrder, HasItems, IsTypedAs, FunctionsOwe, HaveFewPaths, HasManyPaths, IsPrepared, IsRefused, IsPastLimit, most_bytes, most_blocks, most_obligations}
use Rattle.verify_core.proofs.BuiltItems.{one_source, one_error, not_refused, not_few, not_many}
use Rattle.verify_core.proofs.OneCount.{few_paths_are_not_many}
use Rattle.verify_core.proofs.OwedOnce.{owed_is_one, few_obligations_are_not_many}
use Rattle.mir_ir.specs.declared.body.Bodies.{Bodies}

-- the tables of a program with these bodies
abbrev tables_at : Bodies → Tables
tables_at bodies = record { adts = bodies.decls }

same_ok : {A B : Type 0} {a b : A} → ◌≡◌ {A = Result A B} (Ok a) (Ok b) → a ≡ b
same_ok e = cc

same_err : {A B : Type 0} {a b : B} → ◌≡◌ {A = Result A B} (Err a) (Err b) → a ≡ b
same_err e = cc

ok_err : {A B : Type 0} {a : A} {b : B} → ◌≡◌ {A = Result A B} (Ok a) (Err b) → ⊥
ok_err e = cc

none_some : {A : Type 0} {a : A} → ◌≡◌ {A = Option A} None (Some a) → ⊥
none_some e = cc

some_one : {A : Type 0} {a b : A} → ◌≡◌ {A = Option A} (Some a) (Some b) → a ≡ b
some_one e = cc

-- what items are typed as, with the types that they declare
abbrev typing : List Item → Result TypedProgram SourceError
typing is = checked (declared_types is) is

module _ (source : List ℕ) where
  same_items : (t u : List (List ℕ)) (is js : List Item) → HasItems source t is → HasItems source u js → is ≡ js
  same_items t u is js h g = one_source [] source one_place_at_first is js h.spelled g.spelled

  same_table : (t u : List (List ℕ)) (is js : List Item) → HasItems source t is → HasItems source u js → t ≡ u
  same_table t u is js h g = one_table [] source t u h.gives g.gives

  same_tables : (t u : List (List ℕ)) (p q : TypedProgram) → IsTypedAs source t p → IsTypedAs source u q → t ≡ u
  same_tables t u p q a b = same_table t u a.items b.items a.has b.has

  same_typed : (t u : List (List ℕ)) (p q : TypedProgram) → IsTypedAs source t p → IsTypedAs source u q → p ≡ q
  same_typed t u p q a b = same_ok (sym a.is_typed ∙ ap typing (same_items t u a.items b.items a.has b.has) ∙ b.is_typed)

  -- ---- refusals

  typed_not_refused : (t : List (List ℕ)) (p : TypedProgram) (error : SourceError) → IsTypedAs source t p → IsRefused source error → ⊥
  typed_not_refused t p error a (IsRefused.by_form is) = not_refused [] source one_place_at_first a.items error a.has.spelled is
  typed_not_refused t p error a (IsRefused.by_declarations {table} {items} has first) =
      first_does_not_hold (declared_types items) (checks items) error (subst AreInOrder (same_items t table a.items items a.has has) a.in_order) first
  typed_not_refused t p error a (IsRefused.by_types {table} {items} has order is) = ok_err (sym a.is_typed ∙ ap typing (same_items t table a.items items a.has has) ∙ is)
  typed_not_refused t p error a (IsRefused.by_running {table} {items} {typed} {place} has order is stops code) =
      let read = same_items t table a.items items a.has has in
      let same : p ≡ typed = same_ok (sym a.is_typed ∙ ap typing read ∙ is) in
      none_some (sym a.all_run ∙ ap (λ x. first_unrun (declared_types x) p) read ∙ ap (first_unrun (declared_types items)) same ∙ stops)

  pub one_refusal : (one other : SourceError) → IsRefused source one → IsRefused source other → one ≡ other
  one_refusal one other (IsRefused.by_form h) (IsRefused.by_form g) = one_error [] source one_place_at_first one other h g
  one_refusal one other (IsRefused.by_form h) (IsRefused.by_declarations {items = items} has first) = absurd (not_refused [] source one_place_at_first items one has.spelled h)
  one_refusal one other (IsRefused.by_form h) (IsRefused.by_types {items = items} has order is) = absurd (not_refused [] source one_place_at_first items one has.spelled h)
  one_refusal one other (IsRefused.by_form h) (IsRefused.by_running {items = items} has order is stops code) = absurd (not_refused [] source one_place_at_first items one has.spelled h)
  one_refusal one other (IsRefused.by_declarations {items = items} has first) (IsRefused.by_form g) = absurd (not_refused [] source one_place_at_first items other has.spelled g)
  one_refusal one other (IsRefused.by_declarations {table = t} {items = items} has first) (IsRefused.by_declarations {table = u} {items = others} had second) =
      one_first (declared_types others) (checks others) one other (subst (λ (is : List Item). IsFirst (declared_types is) (checks is) one) (same_items t u items others has had) first) second
  one_refusal one other (IsRefused.by_declarations {table = t} {items = items} has first) (IsRefused.by_types {table = u} {items = others} had order is) =
      absurd (first_does_not_hold (declared_types others) (checks others) one order (subst (λ (is : List Item). IsFirst (declared_types is) (checks is) one) (same_items t u items others has had) first))
  one_refusal one other (IsRefused.by_declarations {table = t} {items = items} has first) (IsRefused.by_running {table = u} {items = others} had order is stops code) =
      absurd (first_does_not_hold (declared_types others) (checks others) one order (subst (λ (is : List Item). IsFirst (declared_types is) (checks is) one) (same_items t u items others has had) first))
  one_refusal one other (IsRefused.by_types {items = items} has order is) (IsRefused.by_form g) = absurd (not_refused [] source one_place_at_first items other has.spelled g)
  one_refusal one other (IsRefused.by_types {table = t} {items = items} has order is) (IsRefused.by_declarations {table = u} {items = others} had first) =
      absurd (first_does_not_hold (declared_types items) (checks items) other order (subst (λ (is : List Item). IsFirst (declared_types is) (checks is) other) (same_items u t others items had has) first))
  one_refusal one other (IsRefused.by_types {table = t} {items = items} has order is) (IsRefused.by_types {table = u} {items = others} had also was) =
      same_err (sym is ∙ ap typing (same_items t u items others has had) ∙ was)
  one_refusal one other (IsRefused.by_types {table = t} {items = items} has order is) (IsRefused.by_running {table = u} {items = others} had also was stops code) =
      absurd (ok_err (sym was ∙ ap typing (same_items u t others items had has) ∙ is))
  one_refusal one other (IsRefused.by_running {items = items} has order is stops code) (IsRefused.by_form g) = absurd (not_refused [] source one_place_at_first items other has.spelled g)
  one_refusal one other (IsRefused.by_running {table = t} {items = items} has order is stops code) (IsRefused.by_declarations {table = u} {items = others} had first) =
      absurd (first_does_not_hold (declared_types items) (checks items) other order (subst (λ (is : List Item). IsFirst (declared_types is) (checks is) other) (same_items u t others items had has) first))
  one_refusal one other (IsRefused.by_running {table = t} {items = items} has order is stops code) (IsRefused.by_types {table = u} {items = others} had also was) =
      absurd (ok_err (sym is ∙ ap typing (same_items t u items others has had) ∙ was))
  one_refusal one other (IsRefused.by_running {table = t} {items = items} {typed = p} has order is stops code) (IsRefused.by_running {table = u} {items = others} {typed = q} had also was ends named) =
      let read = same_items t u items others has had in
      let same : p ≡ q = same_ok (sym is ∙ ap typing read ∙ was) in
      code ∙ ap unbuilt (some_one (sym stops ∙ ap (λ x. first_unrun (declared_types x) p) read ∙ ap (first_unrun (declared_types others)) same ∙ ends)) ∙ sym named

  -- ---- two lowerings

  module _ (t u : List (List ℕ)) (p q : TypedProgram) (bs ds : Bodies) (cs es : Contracts) (gones others : List Initialised) (a : IsTypedAs source t p) (b : IsTypedAs source u q)
      (l : LowerTo t (declared_types a.items) p.functions bs cs gones) (m : LowerTo u (declared_types b.items) q.functions ds es others) where
    same_lowering : (bs ≡ ds) × (cs ≡ es) × (gones ≡ others)
    same_lowering =
        let tables : t ≡ u = same_tables t u p q a b in
        let typed : p ≡ q = same_typed t u p q a b in
        let items : a.items ≡ b.items = same_items t u a.items b.items a.has b.has in
        programs_lower_in_one_way u (declared_types b.items) q.functions bs ds cs es gones others
        (subst (λ (is : List Item). LowerTo u (declared_types is) q.functions bs cs gones) items
        (subst (λ (r : TypedProgram). LowerTo u (declared_types a.items) r.functions bs cs gones) typed (subst (λ (x : List (List ℕ)). LowerTo x (declared_types a.items) p.functions bs cs gones) tables l))) m

  -- a program that lowers to few blocks has no more
  no_more : (t u : List (List ℕ)) (p q : TypedProgram) (bs : Bodies) (cs : Contracts) (gones : List Initialised) → (a : IsTypedAs source t p) → (b : IsTypedAs source u q) → LowerTo t (declared_types a.items) p.functions bs cs gones → HaveFewBlocks bs → HasMoreBlocks q most_blocks → ⊥
  no_more t u p q bs cs gones a b l few more = blocks_are_counted t (declared_types a.items) p bs cs gones most_blocks l few (subst (λ (r : TypedProgram). HasMoreBlocks r most_blocks) (sym (same_typed t u p q a b)) more)

  -- ---- limits

  module _ (short : length source ≤ most_bytes) where
    pub refused_not_past : (error : SourceError) (limit : Limit) → IsRefused source error → IsPastLimit source limit → ⊥
    refused_not_past error _ r (IsPastLimit.bytes long) = absurd (omega (arith, short, long))
    refused_not_past error limit (IsRefused.by_form h) (IsPastLimit.functions is) = not_many [] source one_place_at_first error limit h is
    refused_not_past error limit (IsRefused.by_declarations {items = items} has first) (IsPastLimit.functions many) = not_few [] source one_place_at_first items limit has.spelled has.few many
    refused_not_past error limit (IsRefused.by_types {items = items} has order is) (IsPastLimit.functions many) = not_few [] source one_place_at_first items limit has.spelled has.few many
    refused_not_past error limit (IsRefused.by_running {items = items} has order is stops code) (IsPastLimit.functions many) = not_few [] source one_place_at_first items limit has.spelled has.few many
    refused_not_past error _ r (IsPastLimit.blocks {table} {typed} a more) = typed_not_refused table typed error a r
    refused_not_past error _ r (IsPastLimit.paths {table} {typed} a l few many) = typed_not_refused table typed error a r
    refused_not_past error _ r (IsPastLimit.obligations {table} {typed} a l few paths have many) = typed_not_refused table typed error a r

    -- what is typed has not too many functions
    typed_not_many : (t : List (List ℕ)) (p : TypedProgram) (limit : Limit) → IsTypedAs source t p → IsSourceError [] source (errors.Limit limit) → ⊥
    typed_not_many t p limit a is = not_few [] source one_place_at_first a.items limit a.has.spelled a.has.few is

    few_and_many : (t u : List (List ℕ)) (p q : TypedProgram) (bs ds : Bodies) (cs es : Contracts) (gones others : List Initialised) → (a : IsTypedAs source t p) → (b : IsTypedAs source u q) → LowerTo t (declared_types a.items) p.functions bs cs gones
        → LowerTo u (declared_types b.items) q.functions ds es others → HaveFewPaths bs → HasManyPaths ds → ⊥
    few_and_many t u p q bs ds cs es gones others a b l m few many =
        few_paths_are_not_many bs few (subst HasManyPaths (sym (same_lowering t u p q bs ds cs es gones others a b l m).0) many)

    pub one_limit : (one other : Limit) → IsPastLimit source one → IsPastLimit source other → one ≡ other
    one_limit _ other (IsPastLimit.bytes long) g = absurd (omega (arith, short, long))
    one_limit one _ (IsPastLimit.functions h) (IsPastLimit.bytes long) = absurd (omega (arith, short, long))
    one_limit one other (IsPastLimit.functions h) (IsPastLimit.functions g) = h.is ∙ sym g.is
    one_limit one _ (IsPastLimit.functions h) (IsPastLimit.blocks {table} {typed} a more) = absurd (typed_not_many table typed one a h)
    one_limit one _ (IsPastLimit.functions h) (IsPastLimit.paths {table} {typed} a l few many) = absurd (typed_not_many table typed one a h)
    one_limit one _ (IsPastLimit.functions h) (IsPastLimit.obligations {table} {typed} a l few paths have many) = absurd (typed_not_many table typed one a h)
    one_limit _ _ (IsPastLimit.blocks a more) (IsPastLimit.bytes long) = absurd (omega (arith, short, long))
    one_limit _ other (IsPastLimit.blocks {table} {typed} a more) (IsPastLimit.functions g) = absurd (typed_not_many table typed other a g)
    one_limit _ _ (IsPastLimit.blocks a more) (IsPastLimit.blocks b also) = refl
    one_limit _ _ (IsPastLimit.blocks {table = t} {typed = p} a more) (IsPastLimit.paths {table = u} {typed = q} {bs} {cs} {gones} b l few many) = absurd (no_more u t q p bs cs gones b a l few more)
    one_limit _ _ (IsPastLimit.blocks {table = t} {typed = p} a more) (IsPastLimit.obligations {table = u} {typed = q} {bs} {cs} {gones} b l few paths have many) = absurd (no_more u t q p bs cs gones b a l few more)
    one_limit _ _ (IsPastLimit.paths a l few many) (IsPastLimit.bytes long) = absurd (omega (arith, short, long))
    one_limit _ other (IsPastLimit.paths {table} {typed} a l few many) (IsPastLimit.functions g) = absurd (typed_not_many table typed other a g)
    one_limit _ _ (IsPastLimit.paths {table = t} {typed = p} {bs} {cs} {gones} a l few many) (IsPastLimit.blocks {table = u} {typed = q} b more) = absurd (no_more t u p q bs cs gones a b l few more)
    one_limit _ _ (IsPastLimit.paths a l few many) (IsPastLimit.paths b m less more) = refl
    one_limit _ _ (IsPastLimit.paths {table = t} {typed = p} {bs} {cs} {gones} a l few many) (IsPastLimit.obligations {table = u} {typed = q} {bs = ds} {cs = es} {gones = others} b m less paths have more) =
        absurd (few_and_many u t q p ds bs es cs others gones b a m l paths many)
    one_limit _ _ (IsPastLimit.obligations a l few paths have many) (IsPastLimit.bytes long) = absurd (omega (arith, short, long))
    one_limit _ other (IsPastLimit.obligations {table} {typed} a l few paths have many) (IsPastLimit.functions g) = absurd (typed_not_many table typed other a g)
    one_limit _ _ (IsPastLimit.obligations {table = t} {typed = p} {bs} {cs} {gones} a l few paths have many) (IsPastLimit.blocks {table = u} {typed = q} b more) = absurd (no_more t u p q bs cs gones a b l few more)
    one_limit _ _ (IsPastLimit.obligations {table = t} {typed = p} {bs} {cs} {gones} a l few paths have many) (IsPastLimit.paths {table = u} {typed = q} {bs = ds} {cs = es} {gones = others} b m less more) =
        absurd (few_and_many t u p q bs ds cs es gones others a b l m paths more)
    one_limit _ _ (IsPastLimit.obligations a l few paths have many) (IsPastLimit.obligations b m less ways had more) = refl

    -- ---- accepted sources

    prepared_not_many : (p : Program) (many : ℕ) (owed : List Owed) (t : List (List ℕ)) (q : TypedProgram) (bs : Bodies) (cs : Contracts) (gones : List Initialised) → IsPrepared source p → (b : IsTypedAs source t q) → LowerTo t (declared_types b.items) q.functions bs cs gones
        → FunctionsOwe bs cs gones many owed → most_obligations < length owed → ⊥
    prepared_not_many p many owed t q bs cs gones h b l owe more =
        let same = same_lowering t p.names q h.typed bs p.bodies cs p.contracts gones h.gones b h.is_typed l h.lowers in
        let moved : FunctionsOwe p.bodies p.contracts h.gones many owed =
        subst (λ (x : List Initialised). FunctionsOwe p.bodies p.contracts x many owed) same.2
        (subst (λ (x : Contracts). FunctionsOwe p.bodies x gones many owed) same.1 (subst (λ (x : Bodies). FunctionsOwe x cs gones many owed) same.0 owe)) in
        few_obligations_are_not_many p.bodies p.contracts h.gones many p.obligations owed h.owed h.few moved more

    pub prepared_not_past : (p : Program) (limit : Limit) → IsPrepared source p → IsPastLimit source limit → ⊥
    prepared_not_past p _ h (IsPastLimit.bytes long) = omega (arith, short, long)
    prepared_not_past p limit h (IsPastLimit.functions g) = typed_not_many p.names h.typed limit h.is_typed g
    prepared_not_past p _ h (IsPastLimit.blocks {table} {typed} b more) = no_more p.names table h.typed typed p.bodies p.contracts h.gones h.is_typed b h.lowers h.blocks more
    prepared_not_past p _ h (IsPastLimit.paths {table} {typed} {bs} {cs} {gones} b l few many) = few_and_many p.names table h.typed typed p.bodies bs p.contracts cs h.gones gones h.is_typed b h.lowers l h.paths many
    prepared_not_past p _ h (IsPastLimit.obligations {table} {typed} {bs} {cs} {gones} {many} {owed} b l few paths owe more) = prepared_not_many p many owed table typed bs cs gones h b l owe more

  pub prepared_not_refused : (p : Program) (error : SourceError) → IsPrepared source p → IsRefused source error → ⊥
  prepared_not_refused p error h r = typed_not_refused p.names h.typed error h.is_typed r

  pub one_program : (one other : Program) → IsPrepared source one → IsPrepared source other → one ≡ other
  one_program one other h g =
      let same = same_lowering one.names other.names h.typed g.typed one.bodies other.bodies one.contracts other.contracts h.gones g.gones h.is_typed g.is_typed h.lowers g.lowers in
      let moved : FunctionsOwe other.bodies other.contracts g.gones (length one.bodies.bodies) one.obligations =
      subst (λ (x : List Initialised). FunctionsOwe other.bodies other.contracts x (length one.bodies.bodies) one.obligations) same.2
      (subst (λ (x : Contracts). FunctionsOwe other.bodies x h.gones (length one.bodies.bodies) one.obligations) same.1
      (subst (λ (x : Bodies). FunctionsOwe x one.contracts h.gones (length one.bodies.bodies) one.obligations) same.0 h.owed)) in
      let as_many : FunctionsOwe other.bodies other.contracts g.gones (length other.bodies.bodies) one.obligations = subst (λ (n : ℕ). FunctionsOwe other.bodies other.contracts g.gones n one.obligations) (ap (λ (x : Bodies). length x.bodies) same.0) moved in
      let obligations : one.obligations ≡ other.obligations = owed_is_one other.bodies other.contracts g.gones (length other.bodies.bodies) one.obligations other.obligations as_many g.owed in
      let tables : one.tables ≡ other.tables = h.tables ∙ ap tables_at same.0 ∙ sym g.tables in
      let names : one.names ≡ other.names = same_tables one.names other.names h.typed g.typed h.is_typed g.is_typed in
      λ i. record {
        names = names i;
        bodies = same.0 i;
        contracts = same.1 i;
        tables = tables i;
        obligations = obligations i;
      }
