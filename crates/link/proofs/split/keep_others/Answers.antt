-- Those that are kept: `keeps_others`.
use Rattle.std.proofs.Common.{rules, map, ap, ◌∙◌}
use Rattle.std.proofs.lemmas.Fn.{filter_same}
use Rattle.elm_canon.specs.View.{declaration_view}
use Rattle.link.proofs.Alone.{keeps_others}
use Rattle.link.proofs.split.keep_others.Goals as goal

pub returns : goal.returns
returns c =
    ap (map declaration_view) (filter_same _ _ _ (λ x b f' k. search rules) _ _ c.retain.ensures.filtered)
    ∙ keeps_others c.args.declarations.now.items
