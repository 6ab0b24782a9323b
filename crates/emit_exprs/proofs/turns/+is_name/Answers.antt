use Rattle.std.proofs.Common.{◌≡◌, length, ap, ◌∙◌, arith}
use Rattle.elm_canon.specs.View.{expr_view, link_view}
use Rattle.elm_canon.proofs.Views as view
use Rattle.js_emit.specs.Loops.{is_name}
use Rattle.emit_exprs.proofs.Forms.{seen}
use Rattle.emit_exprs.proofs.Steps.{named_access, no_access, named_chain, no_chain}
use Rattle.emit_exprs.proofs.turns.+is_name.Goals as goal

pub returns-in-Literal : goal.returns-in-Literal
returns-in-Literal t c = seen (is_name c.args.name.now) c.in-Literal.is (view.literal c.in-Literal.field-0)

pub returns-in-Name : goal.returns-in-Name
returns-in-Name t c = c.same_ref.ensures ∙ seen (is_name c.args.name.now) c.in-Name.is (view.name c.in-Name.other)

pub returns-in-Accessor : goal.returns-in-Accessor
returns-in-Accessor t c = seen (is_name c.args.name.now) c.in-Accessor.is (view.accessor c.in-Accessor.field-0)

pub returns-in-Lambda : goal.returns-in-Lambda
returns-in-Lambda t c =
    seen (is_name c.args.name.now) c.in-Lambda.is (view.lambda c.in-Lambda.field-0 c.in-Lambda.field-1)

pub returns-in-Apply : goal.returns-in-Apply
returns-in-Apply t c = seen (is_name c.args.name.now) c.in-Apply.is (view.apply c.in-Apply.field-0 c.in-Apply.field-1)

pub returns-in-Strict : goal.returns-in-Strict
returns-in-Strict t c =
    seen (is_name c.args.name.now) c.in-Strict.is (view.strict c.in-Strict.field-0 c.in-Strict.field-1)

pub returns-then-len-eq0 : goal.returns-then-len-eq0
returns-then-len-eq0 t c =
    let e = expr_view c.in-Access.inner.value in
    let many : c.len.result ≡ length c.in-Access.fields.items = omega (arith, c.len.ensures) in
    c.is_name.ensures ∙ ap (λ e. is_name c.args.name.now (expr_view e)) c.deref.ensures
    ∙ named_access c.args.name.now e c.in-Access.fields.items c.len.result many c.if-len-eq0.true
    ∙ seen (is_name c.args.name.now) c.in-Access.is (view.access c.in-Access.inner c.in-Access.fields)

pub returns-else-len-eq0 : goal.returns-else-len-eq0
returns-else-len-eq0 t c =
    let e = expr_view c.in-Access.inner.value in
    let many : c.len.result ≡ length c.in-Access.fields.items = omega (arith, c.len.ensures) in
    no_access c.args.name.now e c.in-Access.fields.items c.len.result many c.if-len-eq0.false
    ∙ seen (is_name c.args.name.now) c.in-Access.is (view.access c.in-Access.inner c.in-Access.fields)

pub returns-in-If : goal.returns-in-If
returns-in-If t c =
    seen (is_name c.args.name.now) c.in-If.is (view.conditional c.in-If.field-0 c.in-If.field-1 c.in-If.field-2)

pub returns-then-len-eq0-2 : goal.returns-then-len-eq0-2
returns-then-len-eq0-2 t c =
    let e = expr_view c.in-Chain.first.value in
    let many : c.len-in-Chain.result ≡ length c.in-Chain.links.items = omega (arith, c.len-in-Chain.ensures) in
    c.is_name-then-len-eq0-2.ensures ∙ ap (λ e. is_name c.args.name.now (expr_view e)) c.deref-then-len-eq0-2.ensures
    ∙ named_chain link_view c.args.name.now e c.in-Chain.links.items c.len-in-Chain.result many c.if-len-eq0-2.true
    ∙ seen (is_name c.args.name.now) c.in-Chain.is (view.chain c.in-Chain.first c.in-Chain.links)

pub returns-else-len-eq0-2 : goal.returns-else-len-eq0-2
returns-else-len-eq0-2 t c =
    let e = expr_view c.in-Chain.first.value in
    let many : c.len-in-Chain.result ≡ length c.in-Chain.links.items = omega (arith, c.len-in-Chain.ensures) in
    no_chain link_view c.args.name.now e c.in-Chain.links.items c.len-in-Chain.result many c.if-len-eq0-2.false
    ∙ seen (is_name c.args.name.now) c.in-Chain.is (view.chain c.in-Chain.first c.in-Chain.links)

pub returns-in-Let : goal.returns-in-Let
returns-in-Let t c = seen (is_name c.args.name.now) c.in-Let.is (view.let_in c.in-Let.field-0 c.in-Let.field-1)

pub returns-in-Case : goal.returns-in-Case
returns-in-Case t c = seen (is_name c.args.name.now) c.in-Case.is (view.case_of c.in-Case.field-0 c.in-Case.field-1)

pub returns-in-Located : goal.returns-in-Located
returns-in-Located t c =
    c.is_name-in-Located.ensures ∙ ap (λ e. is_name c.args.name.now (expr_view e)) c.deref-in-Located.ensures
    ∙ seen (is_name c.args.name.now) c.in-Located.is (view.located c.in-Located.field-0 c.in-Located.inner)
