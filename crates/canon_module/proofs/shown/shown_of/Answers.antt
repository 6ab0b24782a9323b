-- What the header exposes.
use Rattle.std.proofs.Common.{ap, ◌∙◌}
use Rattle.std.proofs.lemmas.Result.{IfOk-weaker}
use Rattle.canon_env.specs.Shown.{shown_view, unions_view}
use Rattle.canon_module.specs.Offers.{shown_by}
use Rattle.canon_module.proofs.shown.shown_of.Goals as goal

pub returns : goal.returns
returns c =
    IfOk-weaker c.shown_by.result _ _
    (λ s told. told
    ∙ ap (λ e. shown_by e (unions_view c.args.given.now) (shown_view c.args.all.now)) c.in_ok-exposes.ensures)
    c.shown_by.ensures
