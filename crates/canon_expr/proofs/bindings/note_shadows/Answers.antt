-- One name more: `grows_more`.
use Rattle.std.proofs.Common.{get_or, sym, subst}
use Rattle.std.proofs.lemmas.List.{get_or_default}
use Rattle.elm_tree.specs.View.{word_view}
use Rattle.elm_tree.specs.Turns.{tokens_view}
use Rattle.canon_env.proofs.Filtering.{map_map_next}
use Rattle.canon_env.specs.Sites.{Binding}
use Rattle.canon_expr.specs.Scope.{locals_of}
use Rattle.canon_expr.specs.Logs.{Grows}
use Rattle.canon_expr.proofs.Growing.{grows_more}
use Rattle.canon_expr.proofs.bindings.note_shadows.Goals as goal

pub loop-word-preserved : goal.loop-word-preserved
loop-word-preserved c = λ w h.
    let site = Binding (locals_of c.args.scope.now) in
    let view = word_view (tokens_view c.args.tokens.now) in
    let words = c.args.words.now in
    let i = c.loop-word.word-index in
    let word = get_or words i (record { index = 0 }) in
    subst (λ sites. Grows w c.args.log.now c.note_shadow.new.log sites)
    (sym (map_map_next site view words i word c.loop-word-test.true
    (get_or_default words i (record { index = 0 }) word c.loop-word-test.true)))
    (grows_more (c.loop-word.invariant w h) (c.in_ok-note_shadow.ensures w h))
