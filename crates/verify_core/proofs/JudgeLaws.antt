-- One more obligation.
use Rattle.std.proofs.Common.{◌≡◌, ◌∙◌, refl, sym, ap, subst, ℕ, zero, suc, ◌+◌, ◌<◌, ◌≤◌, ◌⊎◌, inl, inr, Bool, true, false, List, [], ◌∷◌, ◌++◌, length, map, take, get_or, Option, None, Some, add-one}
use Rattle.std.specs.Prelude.{slice_get, slice_set}
use Rattle.std.proofs.lemmas.List.{take_more, take_all, length-map, map-append}
use Rattle.logic_term.specs.declared.obligation.Obligation.{Obligation}
use Rattle.mir_ir.specs.declared.body.Body.{Body}
use Rattle.mir_machine.specs.Good.{Each}
use Rattle.proof_kernel.specs.declared.setting.Tables.{Tables}
use Rattle.proof_text.specs.declared.proof.Proof.{Proof}
use Rattle.prophecy_sim.specs.declared.node.Node.{Node}
use Rattle.prophecy_sim.specs.declared.node.Node.TheVariants.{Function}
use Rattle.report_out.specs.declared.verdict.Reason.{Reason}
use Rattle.verify_core.specs.declared.judge.Judged.{Judged}
use Rattle.verify_core.specs.declared.owed.Owed.{Owed}
use Rattle.verify_core.specs.Judging.{Tallies, FlagsTell, HasJudged, without_flag}
use Rattle.verify_core.specs.Owed.{same_node, obligations_in, owed_by}
use Rattle.verify_core.specs.Verdict.{Settles, HasDerivation, Judges, IsProved, Tells}
use Rattle.verify_core.proofs.OwedLaws.{itself_is, other_is_not, each_both, each_front, each_behind, owed_in_both}
use Rattle.verify_core.proofs.ReachLaws.{same_or_other, get_other, get_same, got, length_same, within}
use Rattle.verify_core.proofs.RunLaws.{one_more_proved, one_more_left}
use Rattle.verify_core.proofs.SettledLaws.{settled_derives, left_underived}
use Rattle.verify_core.proofs.Basics.{some_same}

-- ---- the flags

module _ (T : Tables) (ps : List Proof) (os : List Owed) where
  abbrev Derived : List Obligation → Type 0
  Derived qs = Each (HasDerivation T ps) qs

  -- what a node owes is proved where it was, and what is added is
  more_proved : (n : Node) (o : Owed) → IsProved T ps os n → Derived (owed_by n (o ∷ [])) → IsProved T ps (os ++ o ∷ []) n
  more_proved n o proved own = subst Derived (sym (owed_in_both n os (o ∷ []))) (each_both (HasDerivation T ps) (owed_by n os) (owed_by n (o ∷ [])) proved own)

  split_proved : (n : Node) (o : Owed) → IsProved T ps (os ++ o ∷ []) n → Derived (owed_by n os ++ owed_by n (o ∷ []))
  split_proved n o proved = subst Derived (owed_in_both n os (o ∷ [])) proved

  less_proved : (n : Node) (o : Owed) → IsProved T ps (os ++ o ∷ []) n → IsProved T ps os n
  less_proved n o proved = each_front (HasDerivation T ps) (owed_by n os) (owed_by n (o ∷ [])) (split_proved n o proved)

  -- an obligation that adds nothing that has no derivation
  still_tells : (n : Node) (o : Owed) (flag : Bool) → Derived (owed_by n (o ∷ [])) → Tells flag (IsProved T ps os n) → Tells flag (IsProved T ps (os ++ o ∷ []) n)
  still_tells n o true own told = more_proved n o told own
  still_tells n o false own told = λ proved. told (less_proved n o proved)

  if_derived : (n : Node) (o : Owed) (b : Bool) → same_node n o.by ≡ b → HasDerivation T ps o.obligation → Derived (owed_by n (o ∷ []))
  if_derived n o true same has = rw same (has, tt)
  if_derived n o false same has = rw same tt

  -- a node with an obligation that has no derivation is not proved
  own_open : (n : Node) (o : Owed) → same_node n o.by ≡ true → (HasDerivation T ps o.obligation → ⊥) → IsProved T ps (os ++ o ∷ []) n → ⊥
  own_open n o same none proved =
      let own : Derived (owed_by n (o ∷ [])) = each_behind (HasDerivation T ps) (owed_by n os) (owed_by n (o ∷ [])) (split_proved n o proved) in
      let one : Derived (o.obligation ∷ []) = rw same at own in
      none one.0

  flags_of_proved : (many : ℕ) (o : Owed) (flags : List Bool) → HasDerivation T ps o.obligation → FlagsTell T ps os many flags → FlagsTell T ps (os ++ o ∷ []) many flags
  flags_of_proved many o flags has told = record {
    as_many = told.as_many;
    tell = λ f flag is. still_tells (Function f) o flag (if_derived (Function f) o (same_node (Function f) o.by) refl has) (told.tell f flag is);
  }

  flags_of_left : (many : ℕ) (by : Node) (o : Owed) (flags : List Bool) → o.by ≡ by → (HasDerivation T ps o.obligation → ⊥) → FlagsTell T ps os many flags → FlagsTell T ps (os ++ o ∷ []) many (without_flag by flags)
  flags_of_left many (Function k) o flags of none told = record {
    as_many = length_same flags k false ∙ told.as_many;
    tell = λ f flag is. at f flag is (same_or_other k f);
  }
    where
      not_set : (f : ℕ) (flag was : Bool) → k ≡ f → slice_get flags f ≡ Some was → slice_get (slice_set flags k false) f ≡ Some flag → flag ≡ false
      not_set f flag was same before is =
          some_same (sym is ∙ subst (λ (i : ℕ). slice_get (slice_set flags k false) i ≡ Some false) same (get_same flags k false was (subst (λ (i : ℕ). slice_get flags i ≡ Some was) (sym same) before)))

      inside : (f : ℕ) (flag : Bool) → slice_get (slice_set flags k false) f ≡ Some flag → f < length flags
      inside f flag is = subst (λ (n : ℕ). f < n) (length_same flags k false) (within (slice_set flags k false) f flag is)

      at : (f : ℕ) (flag : Bool) → slice_get (slice_set flags k false) f ≡ Some flag → (k ≡ f) ⊎ (k ≡ f → ⊥) → Tells flag (IsProved T ps (os ++ o ∷ []) (Function f))
      at f flag is (inl same) =
          let was = got flags f (inside f flag is) in
          let unset : flag ≡ false = not_set f flag was.0 same was.1 is in
          let own : same_node (Function f) o.by ≡ true = ap (same_node (Function f)) of ∙ subst (λ (i : ℕ). same_node (Function i) (Function k) ≡ true) same (itself_is k) in
          subst (λ (b : Bool). Tells b (IsProved T ps (os ++ o ∷ []) (Function f))) (sym unset) (own_open (Function f) o own none)
      at f flag is (inr other) =
          let before : slice_get flags f ≡ Some flag = sym (get_other flags k f false other) ∙ is in
          let not_own : same_node (Function f) o.by ≡ false = ap (same_node (Function f)) of ∙ other_is_not f k (λ e. other (sym e)) in
          still_tells (Function f) o flag (rw not_own tt) (told.tell f flag before)

-- ---- one more obligation

in_one_more : (os : List Owed) (o : Owed) → obligations_in (os ++ o ∷ []) ≡ obligations_in os ++ o.obligation ∷ []
in_one_more os o = map-append (λ (x : Owed). x.obligation) os (o ∷ [])

settled : (T : Tables) (ps : List Proof) (os : List Owed) (many : ℕ) (o : Owed) (r : Option Reason) (before after : Judged) → HasJudged T ps os many before → Settles T ps o.obligation r → Tallies o r before after → HasJudged T ps (os ++ o ∷ []) many after
settled T ps os many o None before after has settles (left, proved, flags) = record {
  judges = rw (in_one_more os o, left, proved, add-one) (one_more_proved has.judges settles);
  flags = subst (FlagsTell T ps (os ++ o ∷ []) many) (sym flags) (flags_of_proved T ps os many o before.flags.items (settled_derives T ps o.obligation settles) has.flags);
}
settled T ps os many o (Some r) before after has settles (left, proved, flags) = record {
  judges = rw (in_one_more os o, left, proved) (one_more_left has.judges settles);
  flags = subst (FlagsTell T ps (os ++ o ∷ []) many) (sym flags) (flags_of_left T ps os many o.by o before.flags.items refl (left_underived T ps o.obligation r settles) has.flags);
}

pub one_more_judged : (T : Tables) (ps : List Proof) (os : List Owed) (many i : ℕ) (o : Owed) (r : Option Reason) (before after : Judged) → i < length os → o ≡ get_or os i o
    → HasJudged T ps (take i os) many before → Settles T ps o.obligation r → Tallies o r before after → HasJudged T ps (take (i + 1) os) many after
one_more_judged T ps os many i o r before after below is has settles tallies =
    subst (λ (qs : List Owed). HasJudged T ps qs many after) (sym (take_more os i o below ∙ ap (λ (x : Owed). take i os ++ x ∷ []) (sym is))) (settled T ps (take i os) many o r before after has settles tallies)

-- ---- all of them

all_true : (bodies : List Body) (f : ℕ) (flag : Bool) → slice_get (map (λ (b : Body). true) bodies) f ≡ Some flag → flag ≡ true
all_true [] f flag is = absurd (let e : None ≡ Some flag = is in cc)
all_true (b ∷ bodies) zero flag is = sym (some_same is)
all_true (b ∷ bodies) (suc f) flag is = all_true bodies f flag is

pub none_judged : (T : Tables) (ps : List Proof) (bodies : List Body) (j : Judged) → j.left.items ≡ [] → j.proved ≡ 0 → j.flags.items ≡ map (λ _. true) bodies → HasJudged T ps [] (length bodies) j
none_judged T ps bodies j left proved flags = record {
  judges = rw (left, proved) Judges.none;
  flags = record {
    as_many = ap length flags ∙ length-map bodies (λ _. true);
    tell = λ f flag is. subst (λ (b : Bool). Tells b (IsProved T ps [] (Function f))) (sym (all_true bodies f flag (subst (λ (xs : List Bool). slice_get xs f ≡ Some flag) flags is))) tt;
  };
}

pub all_judged : (T : Tables) (ps : List Proof) (os : List Owed) (many i : ℕ) (j : Judged) → length os ≤ i → HasJudged T ps (take i os) many j → HasJudged T ps os many j
all_judged T ps os many i j past has = subst (λ (qs : List Owed). HasJudged T ps qs many j) (take_all i os past) has
