-- A name in scope is a fault, and a name that is not there is none: `grows_one`.
use Rattle.std.proofs.Common.{◌≡◌, [], ◌∷◌, true, false, sym, ap, ◌∙◌, append-nil, refl}
use Rattle.elm_base.specs.declared.fault.Code.TheVariants.{Shadowing}
use Rattle.elm_tree.specs.View.{word_view}
use Rattle.elm_tree.specs.Turns.{tokens_view}
use Rattle.canon_env.specs.Imports.{name_of}
use Rattle.canon_env.specs.Sites.{Binding, at_word, is_in_scope}
use Rattle.canon_expr.specs.Scope.{locals_of}
use Rattle.canon_expr.proofs.Growing.{grows_one, shadow, binding_unused}
use Rattle.canon_expr.proofs.bindings.note_shadow.Goals as goal

pub returns-then-not-is_in_scope : goal.returns-then-not-is_in_scope
returns-then-not-is_in_scope c = λ w h.
    let locals = locals_of c.args.scope.now in
    let x = word_view (tokens_view c.args.tokens.now) c.args.word in
    let is : is_in_scope w locals (name_of x) ≡ false =
    ap (is_in_scope w locals) (sym c.in_ok-name.ensures)
    ∙ (sym (c.is_in_scope.ensures w h) ∙ c.if-not-is_in_scope.true) in
    grows_one (Binding locals x) [] (shadow w locals x false is) (binding_unused w locals x)
    (sym (append-nil c.args.log.now.findings.items)) refl

pub returns : goal.returns
returns c = λ w h.
    let locals = locals_of c.args.scope.now in
    let x = word_view (tokens_view c.args.tokens.now) c.args.word in
    let is : is_in_scope w locals (name_of x) ≡ true =
    ap (is_in_scope w locals) (sym c.in_ok-name.ensures)
    ∙ (sym (c.is_in_scope.ensures w h) ∙ c.if-not-is_in_scope.false) in
    grows_one (Binding locals x) (at_word Shadowing x ∷ []) (shadow w locals x true is) (binding_unused w locals x)
    c.in_ok-note_word.ensures.findings c.in_ok-note_word.ensures.uses
