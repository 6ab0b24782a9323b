use Rattle.std.proofs.Common.{sym, ap, ◌∙◌}
use Rattle.std.specs.Prelude.{option_map}
use Rattle.indexmap.specs.IndexMap.{get}
use Rattle.elm_type.specs.View.{scheme_view}
use Rattle.infer_steps.specs.Keys.{same_pair}
use Rattle.infer.specs.Types.{schemes_of}
use Rattle.infer.proofs.Tables.{found_is}
use Rattle.infer.proofs.types.Types.get.Goals as goal

pub returns-in-Local : goal.returns-in-Local
unfolding schemes_of
returns-in-Local c =
    found_is c.get.result
    ∙ ap (option_map scheme_view) c.get.ensures.value
    ∙ ap (schemes_of c.args.self.now) (sym c.in-Local.is)

pub returns-in_ok-clone-in-Top-2 : goal.returns-in_ok-clone-in-Top-2
unfolding schemes_of
returns-in_ok-clone-in-Top-2 c =
    found_is c.get-in-Top.result
    ∙ ap (option_map scheme_view) (c.get-in-Top.ensures.value
    ∙ ap (get same_pair c.args.self.now.tops) (λ i. (c.in_ok-clone-in-Top.ensures.cases i, c.in_ok-clone-in-Top-2.ensures.cases i)))
    ∙ ap (schemes_of c.args.self.now) (sym c.in-Top.is)
