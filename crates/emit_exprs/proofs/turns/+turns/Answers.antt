use Rattle.std.proofs.Common.{◌≡◌, ◌+◌, ◌++◌, ◌∷◌, [], nat_eq, length, map, drop, ap, sym, ◌∙◌, arith}
use Rattle.std.proofs.lemmas.List.{length-map, map-append, nil_from_length}
use Rattle.elm_canon.specs.Tree.{exprs_of, branches_of}
use Rattle.elm_canon.specs.View.{expr_view, link_view, branch_view, linked}
use Rattle.elm_canon.proofs.Views as view
use Rattle.elm_canon.specs.Proper.{count_exprs}
use Rattle.js_emit.specs.Loops.{is_name, has_turn, have_turn}
use Rattle.emit_exprs.proofs.Forms.{seen}
use Rattle.emit_exprs.proofs.Steps.{turned_access, no_turn, both_then, both_else, either_then, either_else, count_of_exprs, linked_last}
use Rattle.emit_exprs.proofs.Rows.{drop_next}
use Rattle.emit_exprs.proofs.turns.+turns.Goals as goal

pub has_turn-returns-in-Literal : goal.has_turn-returns-in-Literal
has_turn-returns-in-Literal t c = seen (has_turn c.args.function.now c.args.count) c.in-Literal.is (view.literal c.in-Literal.field-0)

pub has_turn-returns-in-Name : goal.has_turn-returns-in-Name
has_turn-returns-in-Name t c = seen (has_turn c.args.function.now c.args.count) c.in-Name.is (view.name c.in-Name.field-0)

pub has_turn-returns-in-Accessor : goal.has_turn-returns-in-Accessor
has_turn-returns-in-Accessor t c =
    seen (has_turn c.args.function.now c.args.count) c.in-Accessor.is (view.accessor c.in-Accessor.field-0)

pub has_turn-returns-in-Lambda : goal.has_turn-returns-in-Lambda
has_turn-returns-in-Lambda t c =
    seen (has_turn c.args.function.now c.args.count) c.in-Lambda.is (view.lambda c.in-Lambda.field-0 c.in-Lambda.field-1)

pub has_turn-returns-in-Strict : goal.has_turn-returns-in-Strict
has_turn-returns-in-Strict t c =
    seen (has_turn c.args.function.now c.args.count) c.in-Strict.is (view.strict c.in-Strict.field-0 c.in-Strict.field-1)

pub has_turn-returns-then-is_name : goal.has_turn-returns-then-is_name
has_turn-returns-then-is_name t c =
    let es = map expr_view c.in-Apply.arguments.items in
    let n = c.args.count in
    let many : c.len.result ≡ count_exprs (exprs_of es) =
    omega (arith, count_of_exprs es, length-map c.in-Apply.arguments.items expr_view, c.len.ensures) in
    ap (λ k. nat_eq k n) many
    ∙ both_then (nat_eq (count_exprs (exprs_of es)) n) (c.is_name.ensures ∙ ap (λ e. is_name c.args.function.now (expr_view e)) c.deref.ensures) c.if-is_name.true
    ∙ seen (has_turn c.args.function.now n) c.in-Apply.is (view.apply c.in-Apply.callee c.in-Apply.arguments)

pub has_turn-returns-else-is_name : goal.has_turn-returns-else-is_name
has_turn-returns-else-is_name t c =
    let es = map expr_view c.in-Apply.arguments.items in
    let n = c.args.count in
    both_else (nat_eq (count_exprs (exprs_of es)) n) (c.is_name.ensures ∙ ap (λ e. is_name c.args.function.now (expr_view e)) c.deref.ensures) c.if-is_name.false
    ∙ seen (has_turn c.args.function.now n) c.in-Apply.is (view.apply c.in-Apply.callee c.in-Apply.arguments)

pub has_turn-returns-then-len-eq0 : goal.has_turn-returns-then-len-eq0
has_turn-returns-then-len-eq0 t c =
    let x = c.args.function.now in
    let n = c.args.count in
    let many : c.len-in-Access.result ≡ length c.in-Access.fields.items = omega (arith, c.len-in-Access.ensures) in
    c.has_turn.ensures ∙ ap (λ e. has_turn x n (expr_view e)) c.deref-then-len-eq0.ensures
    ∙ turned_access x n (expr_view c.in-Access.inner.value) c.in-Access.fields.items c.len-in-Access.result many c.if-len-eq0.true
    ∙ seen (has_turn x n) c.in-Access.is (view.access c.in-Access.inner c.in-Access.fields)

pub has_turn-returns-else-len-eq0 : goal.has_turn-returns-else-len-eq0
has_turn-returns-else-len-eq0 t c =
    let x = c.args.function.now in
    let n = c.args.count in
    let many : c.len-in-Access.result ≡ length c.in-Access.fields.items = omega (arith, c.len-in-Access.ensures) in
    no_turn x n (expr_view c.in-Access.inner.value) c.in-Access.fields.items c.len-in-Access.result many c.if-len-eq0.false
    ∙ seen (has_turn x n) c.in-Access.is (view.access c.in-Access.inner c.in-Access.fields)

pub has_turn-returns-then-has_turn : goal.has_turn-returns-then-has_turn
has_turn-returns-then-has_turn t c =
    let x = c.args.function.now in
    let n = c.args.count in
    either_then (has_turn x n (expr_view c.in-If.no.value))
    (c.has_turn-in-If.ensures ∙ ap (λ e. has_turn x n (expr_view e)) c.deref-in-If.ensures) c.if-has_turn.true
    ∙ seen (has_turn x n) c.in-If.is (view.conditional c.in-If.field-0 c.in-If.yes c.in-If.no)

pub has_turn-returns-else-has_turn : goal.has_turn-returns-else-has_turn
has_turn-returns-else-has_turn t c =
    let x = c.args.function.now in
    let n = c.args.count in
    c.has_turn-else-has_turn.ensures ∙ ap (λ e. has_turn x n (expr_view e)) c.deref-else-has_turn.ensures
    ∙ either_else (has_turn x n (expr_view c.in-If.no.value))
    (c.has_turn-in-If.ensures ∙ ap (λ e. has_turn x n (expr_view e)) c.deref-in-If.ensures) c.if-has_turn.false
    ∙ seen (has_turn x n) c.in-If.is (view.conditional c.in-If.field-0 c.in-If.yes c.in-If.no)

pub has_turn-returns-in-Some : goal.has_turn-returns-in-Some
has_turn-returns-in-Some t c =
    let x = c.args.function.now in
    let n = c.args.count in
    let e = expr_view c.in-Chain.first.value in
    let front = c.in-Some.field-0-1.now in
    let last = c.in-Some.last.now in
    let whole : map link_view c.in-Chain.links.items ≡ map link_view front ++ link_view last ∷ [] =
    ap (map link_view) (sym c.deref-in-Chain.ensures.value ∙ c.in-Some.ensures.cases.0)
    ∙ map-append link_view front (last ∷ []) in
    c.is_turn.ensures (linked e (map link_view front))
    ∙ sym (ap (λ ls. has_turn x n (linked e ls)) whole
    ∙ ap (has_turn x n) (linked_last e (map link_view front) (link_view last)))
    ∙ seen (has_turn x n) c.in-Chain.is (view.chain c.in-Chain.first c.in-Chain.links)

pub has_turn-returns-in-None : goal.has_turn-returns-in-None
has_turn-returns-in-None t c =
    let x = c.args.function.now in
    let n = c.args.count in
    let e = expr_view c.in-Chain.first.value in
    let none : c.in-Chain.links.items ≡ [] =
    sym c.deref-in-Chain.ensures.value ∙ nil_from_length c.deref-in-Chain.result.now c.in-None.ensures.cases in
    c.has_turn-in-None.ensures ∙ ap (λ e. has_turn x n (expr_view e)) c.deref-in-None.ensures
    ∙ sym (ap (λ ls. has_turn x n (linked e (map link_view ls))) none)
    ∙ seen (has_turn x n) c.in-Chain.is (view.chain c.in-Chain.first c.in-Chain.links)

pub has_turn-returns-in-Let : goal.has_turn-returns-in-Let
has_turn-returns-in-Let t c =
    let x = c.args.function.now in
    let n = c.args.count in
    c.has_turn-in-Let.ensures ∙ ap (λ e. has_turn x n (expr_view e)) c.deref-in-Let.ensures
    ∙ seen (has_turn x n) c.in-Let.is (view.let_in c.in-Let.field-0 c.in-Let.body)

pub has_turn-returns-in-Case : goal.has_turn-returns-in-Case
has_turn-returns-in-Case t c =
    c.have_turn.ensures
    ∙ seen (has_turn c.args.function.now c.args.count) c.in-Case.is (view.case_of c.in-Case.field-0 c.in-Case.branches)

pub has_turn-returns-in-Located : goal.has_turn-returns-in-Located
has_turn-returns-in-Located t c =
    let x = c.args.function.now in
    let n = c.args.count in
    c.has_turn-in-Located.ensures ∙ ap (λ e. has_turn x n (expr_view e)) c.deref-in-Located.ensures
    ∙ seen (has_turn x n) c.in-Located.is (view.located c.in-Located.field-0 c.in-Located.inner)

pub have_turn-returns-then-has_turn : goal.have_turn-returns-then-has_turn
have_turn-returns-then-has_turn t c =
    let x = c.args.function.now in
    let n = c.args.count in
    let items = c.deref-branch-items.result.now in
    let i = c.loop-branch.branch-index in
    let b = c.branch-item.result in
    let rest = have_turn x n (branches_of (map branch_view (drop (i + 1) items))) in
    sym c.if-has_turn.true
    ∙ either_then rest (c.has_turn.ensures ∙ ap (λ e. has_turn x n (expr_view e)) c.deref.ensures
    ∙ sym (ap (λ p. has_turn x n p.1) (view.branch b))) c.if-has_turn.true
    ∙ sym (ap (λ bs. have_turn x n (branches_of bs)) (drop_next branch_view items i b (omega arith) c.branch-item.is))
    ∙ c.loop-branch.invariant
    ∙ ap (λ bs. have_turn x n (branches_of (map branch_view bs))) c.deref-branch-items.ensures.value

pub have_turn-loop-branch-preserved : goal.have_turn-loop-branch-preserved
have_turn-loop-branch-preserved t c =
    let x = c.args.function.now in
    let n = c.args.count in
    let items = c.deref-branch-items.result.now in
    let i = c.loop-branch.branch-index in
    let b = c.branch-item.result in
    let rest = have_turn x n (branches_of (map branch_view (drop (i + 1) items))) in
    either_else rest (c.has_turn.ensures ∙ ap (λ e. has_turn x n (expr_view e)) c.deref.ensures
    ∙ sym (ap (λ p. has_turn x n p.1) (view.branch b))) c.if-has_turn.false
    ∙ sym (ap (λ bs. have_turn x n (branches_of bs)) (drop_next branch_view items i b (omega arith) c.branch-item.is))
    ∙ c.loop-branch.invariant
