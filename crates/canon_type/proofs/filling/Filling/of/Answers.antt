-- One parameter more: `filling_next`.
use Rattle.std.proofs.Common.{refl, ◌++◌, length, drop, sym, ap, ◌∙◌, subst}
use Rattle.elm_canon.specs.View.{annotation_view, types_view}
use Rattle.canon_env.specs.Expanding as sites
use Rattle.canon_type.specs.Filling.{Fills, entry}
use Rattle.canon_type.proofs.Fillings.{filling_next, filling_none, drop_next}
use Rattle.canon_type.proofs.filling.Filling.of.Goals as goal

pub loop-t-init : goal.loop-t-init
loop-t-init c =
    (subst (Fills c.new-filling.result) (sym (filling_none c.args.names.now)) c.new-filling.ensures, refl)

pub loop-t-preserved : goal.loop-t-preserved
loop-t-preserved c =
    let names = c.args.names.now in
    let before = sites.filling names (types_view c.loop-t.yielded) in
    let made = c.in_ok-shared.field-0 in (
      subst (Fills c.add_first.new.self)
          (ap (λ ns. before ++ entry ns (annotation_view made.value)) c.loop-t.invariant.1
          ∙ ap (λ u. before ++ entry (drop (length c.loop-t.yielded) names) u) c.in_ok-shared.ensures
          ∙ sym (filling_next names c.loop-t.yielded c.in-Some.t))
          (c.in_ok-add_first.ensures before c.loop-t.invariant.0),
      c.after_first-rest.ensures ∙ ap (drop 1) c.loop-t.invariant.1 ∙ drop_next names c.loop-t.yielded c.in-Some.t,
    )
