use Rattle.std.proofs.Common.{◌≡◌, ◌≤◌, true, false, [], length, drop, reverse, ℕ, ◌+◌, ◌-◌, ◌*◌, ◌<◌, ◌^◌, List, ◌++◌, map, get_or, Some, None, sym, ap, subst, ◌∙◌, arith}
use Rattle.grammar_tables.specs.declared.tables.Tables.{Tables}
use Rattle.grammar_tables.specs.declared.parsing.Expected.{Expected}
use Rattle.grammar_tables.specs.declared.parsing.ParseError.TheVariants.{PastLimit}
use Rattle.grammar_tables.specs.Tables.{grammar_in, grammar_of, lists_in, depth_in, mark_in, column_of, prediction_at, matches_at}
use Rattle.grammar_tables.specs.Grammar.{next_kind, is_nonempty}
use Rattle.grammar_tables.specs.Limits.{is_past}
use Rattle.grammar_tables.specs.Stack.{IsReplaced, part_of}
use Rattle.grammar_tables.proofs.ParserMoves.{State, state_start, step_shift, step_expand, less_shift, less_expand, not_matched, none_left, where_ok, past_test, nothing_left}
use Rattle.grammar_tables.proofs.FrontAnswers.{Stops, Ends, stops_at_terminal, stops_at_nonterminal, stops_at_limit, ends_there}
use Rattle.grammar_tables.proofs.parsing.parse_front.Goals.{else-position-kinds-via-then-position-kinds+else-matches, else-position-kinds-via-else-position-kinds}
use Rattle.grammar_tables.proofs.parsing.parse_front.Goals as goal

pub loop-next-init : goal.loop-next-init
loop-next-init c =
    let e = c.in-Ok.ensures in
    rw (e.0, e.1, e.2) (state_start (grammar_in c.args.tables.now) (mark_in c.args.tables.now) c.args.goal c.args.levels (depth_in c.args.tables.now) c.args.kinds.now)

pub loop-next-preserved-then-matches : goal.loop-next-preserved-then-matches
unfolding grammar_of
loop-next-preserved-then-matches c =
    let m : matches_at (lists_in c.args.tables.now) c.in-Terminal.terminal (get_or c.args.kinds.now c.loop-next.position 0) ≡ true = sym c.matches.ensures ∙ c.if-matches.true in
    rw c.clear.ensures.items (step_shift (grammar_in c.args.tables.now) (mark_in c.args.tables.now) c.args.goal c.args.levels (depth_in c.args.tables.now) c.args.kinds.now
    c.loop-next.run.derivation.items c.loop-next.run.ended.items c.loop-next.run.expected.items c.pop.new.self.items c.in-Some.next c.loop-next.position c.in-Some.ensures.items c.loop-next.invariant
    c.in-Terminal.terminal c.in-Terminal.is c.if-position-kinds.true m)

pub loop-next-smaller-then-matches : goal.loop-next-smaller-then-matches
unfolding depth_in
loop-next-smaller-then-matches c =
    let h : length c.pop.new.self.items < 2 ^ 63 = few c.pop.new.self.len c.pop.new.self.cap c.pop.new.self.items c.pop.new.self.ok.0 c.pop.new.self.ok.1 c.pop.new.self.small in
    less_shift (grammar_in c.args.tables.now) (mark_in c.args.tables.now) c.args.goal c.args.levels (depth_in c.args.tables.now) c.args.kinds.now
    c.loop-next.run.derivation.items c.loop-next.run.ended.items c.loop-next.run.expected.items c.pop.new.self.items c.in-Some.next c.loop-next.position c.in-Some.ensures.items c.loop-next.invariant
    (depth_bound c.args.tables.now) c.if-position-kinds.true h _ _
  where
    few : (len cap : ℕ) (items : List Expected) → len ≡ length items → len ≤ cap → cap < 9223372036854775808 → length items < 2 ^ 63
    few len cap items e f g = omega (arith, e, f, g)

    depth_bound : (t : Tables) (n : ℕ) → depth_in t n ≤ 255
    depth_bound t n = omega arith

pub returns-else-position-kinds : goal.returns-else-position-kinds
unfolding grammar_of
returns-else-position-kinds c =
    let m : Stops (grammar_in c.args.tables.now) (mark_in c.args.tables.now) c.args.goal c.args.levels c.args.kinds.now c.refused.result =
    stops_at_terminal (grammar_in c.args.tables.now) (mark_in c.args.tables.now) c.args.goal c.args.levels (depth_in c.args.tables.now) c.requires.ll1 c.args.kinds.now
    c.loop-next.run.derivation.items c.loop-next.run.ended.items c.loop-next.run.expected.items c.pop.new.self.items c.in-Some.next c.loop-next.position c.in-Some.ensures.items c.loop-next.invariant
    c.in-Terminal.terminal c.in-Terminal.is
    (elim c.else-position-kinds.branch [
      | else-position-kinds-via-then-position-kinds+else-matches w ↦ not_matched (grammar_in c.args.tables.now) c.in-Terminal.terminal c.args.kinds.now c.loop-next.position w.if-position-kinds.true (sym w.matches.ensures ∙ w.if-matches.false)
      | else-position-kinds-via-else-position-kinds w ↦ none_left (grammar_in c.args.tables.now) c.in-Terminal.terminal c.args.kinds.now c.loop-next.position w.if-position-kinds.false
    ]) c.refused.result c.refused.ensures in
    record { parsed = tt; refused = m.meaning; ends = tt; stops = m.moves }

pub returns-in_default-predict : goal.returns-in_default-predict
unfolding grammar_of
returns-in_default-predict c =
    let e : (grammar_in c.args.tables.now).predict c.in-Nonterminal.nonterminal (next_kind (drop c.loop-next.position c.args.kinds.now)) ≡ None =
    sym (c.predict.ensures ∙ ap (λ (k : _). prediction_at (lists_in c.args.tables.now) c.in-Nonterminal.nonterminal (column_of k)) c.kind_at.ensures) ∙ c.in_default-predict.is in
    let m : Stops (grammar_in c.args.tables.now) (mark_in c.args.tables.now) c.args.goal c.args.levels c.args.kinds.now c.refused-in_default-predict.result =
    stops_at_nonterminal (grammar_in c.args.tables.now) (mark_in c.args.tables.now) c.args.goal c.args.levels (depth_in c.args.tables.now) c.requires.ll1 c.args.kinds.now
    c.loop-next.run.derivation.items c.loop-next.run.ended.items c.loop-next.run.expected.items c.pop.new.self.items c.in-Some.next c.loop-next.position c.in-Some.ensures.items c.loop-next.invariant
    c.in-Nonterminal.nonterminal c.in-Nonterminal.is e c.refused-in_default-predict.result c.refused-in_default-predict.ensures in
    record { parsed = tt; refused = m.meaning; ends = tt; stops = m.moves }

pub returns-then-is_past : goal.returns-then-is_past
unfolding grammar_of
returns-then-is_past c =
    let e : (grammar_in c.args.tables.now).predict c.in-Nonterminal.nonterminal (next_kind (drop c.loop-next.position c.args.kinds.now)) ≡ Some c.in-Some-predict.alternative =
    sym (c.predict.ensures ∙ ap (λ (k : _). prediction_at (lists_in c.args.tables.now) c.in-Nonterminal.nonterminal (column_of k)) c.kind_at.ensures) ∙ c.in-Some-predict.is in
    let p : is_past (mark_in c.args.tables.now c.in-Nonterminal.nonterminal) (is_nonempty c.body-parts.result.now) c.in-Some.next.levels c.in-Some.next.operators ≡ true =
    past_test _ _ _ _ true c.body-parts.result.now c.in-Some.next.levels c.in-Some.next.operators c.mark-mark.ensures c.is_empty.ensures c.is_past.ensures c.if-is_past.true in
    let m : Stops (grammar_in c.args.tables.now) (mark_in c.args.tables.now) c.args.goal c.args.levels c.args.kinds.now (PastLimit c.loop-next.position) =
    stops_at_limit (grammar_in c.args.tables.now) (mark_in c.args.tables.now) c.args.goal c.args.levels (depth_in c.args.tables.now) c.requires.ll1 c.args.kinds.now
    c.loop-next.run.derivation.items c.loop-next.run.ended.items c.loop-next.run.expected.items c.pop.new.self.items c.in-Some.next c.loop-next.position c.in-Some.ensures.items c.loop-next.invariant
    c.in-Nonterminal.nonterminal c.in-Nonterminal.is c.in-Some-predict.alternative c.body-parts.result.now e (ap reverse c.body-parts.ensures) p in
    record { parsed = tt; refused = m.meaning; ends = tt; stops = m.moves }

pub loop-next-preserved : goal.loop-next-preserved
unfolding grammar_of
loop-next-preserved c =
    let e : (grammar_in c.args.tables.now).predict c.in-Nonterminal.nonterminal (next_kind (drop c.loop-next.position c.args.kinds.now)) ≡ Some c.in-Some-predict.alternative =
    sym (c.predict.ensures ∙ ap (λ (k : _). prediction_at (lists_in c.args.tables.now) c.in-Nonterminal.nonterminal (column_of k)) c.kind_at.ensures) ∙ c.in-Some-predict.is in
    let t = where_ok c.replace.result c.is_err.result
    (IsReplaced (record { derivation = c.loop-next.run.derivation; ended = c.loop-next.run.ended; expected = c.pop.new.self }) c.replace.new.self
    c.in-Some.next c.in-Nonterminal.nonterminal c.mark-mark.result c.in-Some-predict.alternative c.body-parts.result.now)
    c.is_err.ensures.value c.if-is_err.false c.replace.ensures in
    let x : c.replace.new.self.expected.items ≡ c.pop.new.self.items ++ map (part_of (mark_in c.args.tables.now c.in-Nonterminal.nonterminal) c.in-Nonterminal.nonterminal c.in-Some.next.levels c.in-Some.next.operators) c.body-parts.result.now =
    rw c.mark-mark.ensures at t.pushed in
    let p : is_past (mark_in c.args.tables.now c.in-Nonterminal.nonterminal) (is_nonempty c.body-parts.result.now) c.in-Some.next.levels c.in-Some.next.operators ≡ false =
    past_test _ _ _ _ false c.body-parts.result.now c.in-Some.next.levels c.in-Some.next.operators c.mark-mark.ensures c.is_empty.ensures c.is_past.ensures c.if-is_past.false in
    rw t.noted (step_expand (grammar_in c.args.tables.now) (mark_in c.args.tables.now) c.args.goal c.args.levels (depth_in c.args.tables.now) c.args.kinds.now
    c.loop-next.run.derivation.items c.loop-next.run.ended.items c.loop-next.run.expected.items c.pop.new.self.items c.in-Some.next c.loop-next.position c.in-Some.ensures.items c.loop-next.invariant
    c.in-Nonterminal.nonterminal c.in-Nonterminal.is c.in-Some-predict.alternative c.body-parts.result.now e (ap reverse c.body-parts.ensures) c.replace.new.self.expected.items x c.replace.new.self.ended.items p t.closed)

pub loop-next-smaller : goal.loop-next-smaller
unfolding grammar_of
loop-next-smaller c =
    let e : (grammar_in c.args.tables.now).predict c.in-Nonterminal.nonterminal (next_kind (drop c.loop-next.position c.args.kinds.now)) ≡ Some c.in-Some-predict.alternative =
    sym (c.predict.ensures ∙ ap (λ (k : _). prediction_at (lists_in c.args.tables.now) c.in-Nonterminal.nonterminal (column_of k)) c.kind_at.ensures) ∙ c.in-Some-predict.is in
    let t = where_ok c.replace.result c.is_err.result
    (IsReplaced (record { derivation = c.loop-next.run.derivation; ended = c.loop-next.run.ended; expected = c.pop.new.self }) c.replace.new.self
    c.in-Some.next c.in-Nonterminal.nonterminal c.mark-mark.result c.in-Some-predict.alternative c.body-parts.result.now)
    c.is_err.ensures.value c.if-is_err.false c.replace.ensures in
    let x : c.replace.new.self.expected.items ≡ c.pop.new.self.items ++ map (part_of (mark_in c.args.tables.now c.in-Nonterminal.nonterminal) c.in-Nonterminal.nonterminal c.in-Some.next.levels c.in-Some.next.operators) c.body-parts.result.now =
    rw c.mark-mark.ensures at t.pushed in
    let l = less_expand (grammar_in c.args.tables.now) (mark_in c.args.tables.now) c.args.goal c.args.levels (depth_in c.args.tables.now) c.args.kinds.now
    c.loop-next.run.derivation.items c.loop-next.run.ended.items c.loop-next.run.expected.items c.pop.new.self.items c.in-Some.next c.loop-next.position c.in-Some.ensures.items c.loop-next.invariant
    c.in-Nonterminal.nonterminal c.in-Nonterminal.is c.in-Some-predict.alternative c.body-parts.result.now e (ap reverse c.body-parts.ensures) c.replace.new.self.expected.items x c.requires.ll1 in
    more ((length c.args.kinds.now - c.loop-next.position) * 2 ^ 65) _ _ l
  where
    more : (a b c : ℕ) → b < c → a + b < a + c
    more a b c l = omega (arith, l)

pub returns : goal.returns
returns c =
    let none : c.loop-next.run.expected.items ≡ [] = nothing_left c.loop-next.run.expected.items c.pop.new.self.items c.pop.new.self.len c.in_default-pop.ensures.items c.in_default-pop.ensures.cases.1 c.pop.new.self.ok.0 in
    let m : Ends (grammar_in c.args.tables.now) (mark_in c.args.tables.now) c.args.goal c.args.levels c.args.kinds.now (record { derivation = c.loop-next.run.derivation; length = c.loop-next.position; ended = c.loop-next.run.ended }) =
    ends_there (grammar_in c.args.tables.now) (mark_in c.args.tables.now) c.args.goal c.args.levels (depth_in c.args.tables.now) c.requires.ll1 c.args.kinds.now
    (record { derivation = c.loop-next.run.derivation; length = c.loop-next.position; ended = c.loop-next.run.ended })
    (subst (λ (items : List Expected). State (grammar_in c.args.tables.now) (mark_in c.args.tables.now) c.args.goal c.args.levels (depth_in c.args.tables.now) c.args.kinds.now
    c.loop-next.run.derivation.items c.loop-next.run.ended.items items c.loop-next.position) none c.loop-next.invariant) in
    record { parsed = m.meaning; refused = tt; ends = m.moves; stops = tt }
