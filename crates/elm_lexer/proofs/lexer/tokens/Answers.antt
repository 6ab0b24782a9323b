-- The loop over a text: `cuts_start`, `gap_cut`, `gap_step`, `token_step`, and others.
-- The loop over a text: `fault_found`, `first_found`, `end_found`, `some_of`, and others.
-- What a text begins with is what the program finds, and what a token is: `token_cut`.
use Rattle.std.proofs.lemmas.List.{length-drop, length-append}
use Rattle.std.proofs.Common.{ℕ, [], ◌∷◌, length, map, refl, sym, ap, subst, ◌∙◌, arith, rules}
use Rattle.std.proofs.lemmas.Grind.{common_steps}
use Rattle.std.specs.Str.{IsUtf8}
use Rattle.elm_lexer.specs.Gaps.{begins_gap, IsGap}
use Rattle.elm_base.specs.declared.fault.Code.TheVariants as fault_code
use Rattle.elm_lexer.specs.Tokens.{fault_at}
use Rattle.elm_lexer.specs.View.{token_view, place_view}
use Rattle.elm_lexer.proofs.Loop.{cuts_start, gap_cut, gap_step, token_step, token_boundary, no_text_found, open_found}
use Rattle.elm_lexer.proofs.Loop.{fault_found, first_found, end_found, some_of, none_of, map_push}
use Rattle.elm_lexer.proofs.Starts.{token_cut}
use Rattle.elm_lexer.proofs.Same.{same_tokens, fault_alone}
use Rattle.elm_lexer.proofs.lexer.tokens.Goals as goal

pub loop-rest-init : goal.loop-rest-init
loop-rest-init c =
    let same = c.in-Ok.ensures.cases.0 in
    record {
      utf8 = search rules;
      row = omega (arith, ap length same);
      column = omega (arith, ap length same);
      count = omega (arith, ap length same, ap length c.new-found.ensures.items);
      cuts = cuts_start c.args.text.now _ _ same (ap (map token_view) c.new-found.ensures.items);
    }

pub range_from-rest-requires : goal.range_from-rest-requires
range_from-rest-requires c = λ _.
    let same = c.as_bytes-bytes.ensures.value in
    let text = subst (λ x. IsUtf8 x) same c.as_bytes-bytes.ensures.utf8 in
    (gap_cut c.loop-rest.rest.now c.as_bytes-bytes.result.now c.in-Some.after.now _ text same c.in-Some.ensures.gap refl).0

pub loop-rest-preserved-then-begins_gap : goal.loop-rest-preserved-then-begins_gap
loop-rest-preserved-then-begins_gap c =
    let same = c.as_bytes-bytes.ensures.value in
    let text = subst (λ x. IsUtf8 x) same c.as_bytes-bytes.ensures.utf8 in
    record {
      utf8 = search rules;
      row = grind (arith, common_steps);
      column = grind (arith, common_steps);
      count = grind (arith, common_steps);
      cuts = gap_step c.args.text.now _ _ _ _ c.loop-rest.rest.now c.as_bytes-bytes.result.now c.in-Some.after.now _ c.range_from-rest.result.now _ c.loop-rest.invariant.cuts text same c.in-Some.ensures.gap refl refl c.range_from-rest.ensures.value c.place_after-place.ensures.place;
    }

pub returns-clause-found : goal.returns-clause-found
returns-clause-found c =
    (c.in-Ok.ensures.cases.1, end_found c.args.text.now _ _ _ c.loop-rest.rest.now c.loop-rest.invariant.cuts (none_of _ c.loop-rest-test.ensures))

pub returns-clause-only : goal.returns-clause-only
returns-clause-only c = λ ts h. same_tokens c.args.text.now ts _ h (returns-clause-found c)

pub range_from-rest-requires-in-Token : goal.range_from-rest-requires-in-Token
range_from-rest-requires-in-Token c = λ _.
    let same = c.as_bytes-bytes.ensures.value in
    let text = subst (λ x. IsUtf8 x) same c.as_bytes-bytes.ensures.utf8 in
    token_boundary c.loop-rest.rest.now c.in-Token.kind c.in-Token.length text (first_found c.loop-rest.rest.now c.first_in.result _ text c.first_in.ensures.value c.in-Token.is)

pub loop-rest-smaller : goal.loop-rest-smaller
loop-rest-smaller c =
    let same = c.as_bytes-bytes.ensures.value in
    let text = subst (λ x. IsUtf8 x) same c.as_bytes-bytes.ensures.utf8 in
    let first = first_found c.loop-rest.rest.now c.first_in.result _ text c.first_in.ensures.value c.in-Token.is in
    let cut = token_cut c.loop-rest.rest.now c.in-Token.kind c.in-Token.length first in
    omega (arith, cut.some, cut.within, ap length c.range_from-rest-in-Token.ensures.value, length-drop {A = ℕ})

pub loop-rest-preserved : goal.loop-rest-preserved
loop-rest-preserved c =
    let same = c.as_bytes-bytes.ensures.value in
    let text = subst (λ x. IsUtf8 x) same c.as_bytes-bytes.ensures.utf8 in
    let first = first_found c.loop-rest.rest.now c.first_in.result _ text c.first_in.ensures.value c.in-Token.is in
    let cut = token_cut c.loop-rest.rest.now c.in-Token.kind c.in-Token.length first in
    let items = ap (map token_view) c.in_ok-push-in-Token.ensures.items ∙ map_push token_view c.loop-rest.found.items _ in
    record {
      utf8 = search rules;
      row = grind (arith, common_steps);
      column = grind (arith, common_steps);
      count = omega (arith, c.loop-rest.invariant.count, cut.some, cut.within, ap length c.range_from-rest-in-Token.ensures.value, length-drop {A = ℕ}, ap length c.in_ok-push-in-Token.ensures.items);
      cuts = token_step c.args.text.now _ _ _ _ _ c.begins_gap-in-Token.result c.loop-rest.rest.now c.as_bytes-bytes.result.now _ _ _ c.in-Token.kind c.in-Token.length c.loop-rest.invariant.cuts same (sym c.if-begins_gap.ensures) first c.split_at.ensures.front c.split_at.ensures.back c.begins_gap-in-Token.ensures items c.place_after-place-in-Token.ensures.place c.range_from-rest-in-Token.ensures.value;
    }

pub returns-in-Fault-clause-fault : goal.returns-in-Fault-clause-fault
returns-in-Fault-clause-fault c =
    let same = c.as_bytes-bytes.ensures.value in
    let text = subst (λ x. IsUtf8 x) same c.as_bytes-bytes.ensures.utf8 in
    let first = first_found c.loop-rest.rest.now c.first_in.result _ text c.first_in.ensures.value c.in-Fault.is in
    fault_found c.args.text.now _ _ _ c.loop-rest.rest.now _ _ _ _ c.in-Ok.ensures.cases.1 c.loop-rest.invariant.cuts (ap begins_gap (sym same) ∙ sym c.if-begins_gap.ensures) (some_of _ c.loop-rest-test.ensures) first
    (c.fault_at-in-Fault.ensures ∙ ap (λ x. fault_at (place_view c.loop-rest.place) x c.in-Fault.code c.in-Fault.before c.in-Fault.detail) same)

pub returns-in-Fault-clause-none : goal.returns-in-Fault-clause-none
returns-in-Fault-clause-none c = λ ts h. fault_alone c.args.text.now _ ts (returns-in-Fault-clause-fault c) h

pub returns-in_default-after_gap-clause-fault : goal.returns-in_default-after_gap-clause-fault
returns-in_default-after_gap-clause-fault c =
    let same = c.as_bytes-bytes.ensures.value in
    open_found c.args.text.now _ _ _ c.loop-rest.rest.now _ c.in-Ok.ensures.cases.1 c.loop-rest.invariant.cuts (ap begins_gap (sym same) ∙ sym c.if-begins_gap.ensures)
    (λ r g. c.in_default-after_gap.ensures.gap r (subst (λ x. IsGap x r) (sym same) g))
    (c.fault_at-in_default-after_gap.ensures ∙ ap (λ x. fault_at (place_view c.loop-rest.place) x fault_code.Unclosed 0 0) same)

pub returns-in_default-after_gap-clause-none : goal.returns-in_default-after_gap-clause-none
returns-in_default-after_gap-clause-none c = λ ts h. fault_alone c.args.text.now _ ts (returns-in_default-after_gap-clause-fault c) h

pub returns-in_default-clause-fault : goal.returns-in_default-clause-fault
returns-in_default-clause-fault c = no_text_found c.args.text.now _ c.in_default.ensures.cases.0 c.fault_at.ensures
