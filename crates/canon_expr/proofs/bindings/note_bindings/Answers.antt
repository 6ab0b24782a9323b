-- Each name by itself, and then all of them together: `grows_more`, `grows_one`.
use Rattle.std.proofs.Common.{map}
use Rattle.elm_base.specs.declared.fault.Code.TheVariants.{DuplicateBinding}
use Rattle.elm_tree.specs.View.{words_view}
use Rattle.elm_tree.specs.Turns.{tokens_view}
use Rattle.canon_env.specs.Sites.{BoundTogether, at_word, repeats}
use Rattle.canon_expr.proofs.Growing.{grows_more, grows_one, bound_faults, bound_unused}
use Rattle.canon_expr.proofs.bindings.note_bindings.Goals as goal

pub returns : goal.returns
returns c = λ w h.
    let ws = words_view (tokens_view c.args.tokens.now) c.args.words.now in
    grows_more (c.in_ok-note_shadows.ensures w h)
    (grows_one (BoundTogether ws) (map (at_word DuplicateBinding) (repeats ws)) (bound_faults w ws) (bound_unused w ws)
    c.in_ok-note_repeats.ensures.findings c.in_ok-note_repeats.ensures.uses)
