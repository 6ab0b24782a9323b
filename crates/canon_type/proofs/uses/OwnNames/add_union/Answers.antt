-- One name more: `any_next`.
use Rattle.std.proofs.Common.{◌||◌, ap, ◌∙◌}
use Rattle.std.proofs.lemmas.Result.{on_ok_weaker}
use Rattle.elm_canon.specs.Names.{same_name}
use Rattle.canon_env.proofs.Filtering.{any_next}
use Rattle.canon_type.proofs.uses.OwnNames.add_union.Goals as goal

pub returns : goal.returns
returns c =
    on_ok_weaker c.insert.result
    (λ e unions aliases h. record {
      of_unions = λ x.
          e x ∙ ap (λ b. b || same_name x c.args.name) (h.of_unions x) ∙ any_next (same_name x) unions c.args.name;
      of_aliases = h.of_aliases;
    })
    c.insert.ensures
