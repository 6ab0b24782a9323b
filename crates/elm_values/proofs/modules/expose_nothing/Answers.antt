-- What is taken off the stacks in turn (`took`) gives way to what is made of it (`acted`).
use Rattle.std.proofs.Common.{map, ap}
use Rattle.std.proofs.lemmas.Result.{on_ok_weaker}
use Rattle.elm_tree.specs.Tree.{These}
use Rattle.elm_tree.specs.View.{exposed_view}
use Rattle.elm_grammar.specs.declared.action.Action.TheVariants.{ExposeNothing}
use Rattle.elm_grammar.specs.Values.{takes, gives, act}
use Rattle.elm_values.proofs.Acting.{acted, done}
use Rattle.elm_values.proofs.modules.expose_nothing.Goals as goal

pub returns : goal.returns
unfolding takes gives act
returns c =
    on_ok_weaker c.put_exposing.result
    (λ e tokens.
    acted ExposeNothing
    (done tokens _)
    (ap (λ z. These (map (exposed_view tokens) z)) c.new.ensures.items) (e tokens)) c.put_exposing.ensures
