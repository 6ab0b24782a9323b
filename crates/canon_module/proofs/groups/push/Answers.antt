-- One declaration more: `pushed`.
use Rattle.std.proofs.Common.{refl}
use Rattle.std.proofs.lemmas.Result.{on_ok_weaker}
use Rattle.elm_canon.specs.View.{declaration_view}
use Rattle.canon_env.proofs.Filtering.{pushed}
use Rattle.canon_module.proofs.groups.push.Goals as goal

pub returns : goal.returns
returns c =
    on_ok_weaker c.put.result
    (λ is. pushed declaration_view c.args.declarations.now.items _ _ _ _ is refl refl)
    c.put.ensures
