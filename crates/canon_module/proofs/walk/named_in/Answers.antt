-- The parameters are bound where no names are local, and then the body is walked.
use Rattle.std.proofs.Common.{◌≡◌, ◌++◌, refl, sym, ap, ◌∙◌}
use Rattle.std.specs.Prelude.{option_map}
use Rattle.std.proofs.lemmas.Result.{IfOk-weaker}
use Rattle.elm_tree.specs.View.{word_view, expr_view, patterns_view, words_view}
use Rattle.elm_tree.specs.Turns.{tokens_view}
use Rattle.elm_canon.specs.View.{annotation_view}
use Rattle.elm_canon.specs.View as canon
use Rattle.canon_env.specs.Locals.{no_locals, with_names}
use Rattle.canon_env.specs.Patterns.{match_sites_all, binding_sites, words_of_all}
use Rattle.canon_expr.proofs.Growing.{grows_more}
use Rattle.canon_expr.proofs.Meaning.{grows_at, on_ok}
use Rattle.canon_expr.specs.Exprs.{expr_sites, meant}
use Rattle.canon_module.specs.Items.{ValueItem}
use Rattle.canon_module.proofs.Meaning.{define_means}
use Rattle.canon_module.proofs.walk.named_in.Goals as goal

pub returns-clause-meaning : goal.returns-clause-meaning
returns-clause-meaning c =
    let tokens = tokens_view c.args.tokens.now in
    let ps = patterns_view tokens c.args.parameters.now in
    let e = expr_view tokens c.args.body.now in
    let local : words_view tokens c.deref-2.result.now ≡ words_of_all ps =
    ap (words_view tokens) c.deref-2.ensures.value ∙ c.in_ok-words.ensures in
    IfOk-weaker c.made_by.result _ _
    (λ i told w is named.
    told ∙ ap ValueItem
    (define_means w c.args.home.now (option_map annotation_view c.args.before.now) (word_view tokens c.args.name) ps e
    _ c.in_ok-title.title (canon.patterns_view c.in_ok-meant.meant.items) (canon.expr_view c.in_ok-value.value.value)
    refl c.in_ok-title.ensures named (c.in_ok-meant.ensures.meaning w is)
    (c.in_ok-value.ensures.meaning w no_locals (record { is_world = is; in_scope = c.requires.alone })
    ∙ ap (λ ws. meant w (with_names ws no_locals) e) local)))
    c.made_by.ensures.meaning

pub returns-clause-log : goal.returns-clause-log
returns-clause-log c =
    on_ok c.made_by.result
    (λ w is.
    let tokens = tokens_view c.args.tokens.now in
    let ps = patterns_view tokens c.args.parameters.now in
    let e = expr_view tokens c.args.body.now in
    let bound : words_view tokens c.deref.result.now ≡ words_of_all ps =
    ap (words_view tokens) c.deref.ensures.value ∙ c.in_ok-words.ensures in
    let local : words_view tokens c.deref-2.result.now ≡ words_of_all ps =
    ap (words_view tokens) c.deref-2.ensures.value ∙ c.in_ok-words.ensures in
    grows_more
    (grows_at _ _
    (ap (λ ws. match_sites_all ps ++ binding_sites no_locals ws) (sym bound)
    ∙ ap (λ locals. match_sites_all ps ++ binding_sites locals (words_view tokens c.deref.result.now))
    (sym c.requires.alone))
    (grows_more (c.in_ok-meant.ensures.log w is) (c.in_ok-note_bindings.ensures w is)))
    (grows_at _ _ (ap (λ ws. expr_sites w (with_names ws no_locals) e) (sym local))
    (c.in_ok-value.ensures.log w no_locals (record { is_world = is; in_scope = c.requires.alone }))))
