-- Names that are given in turn: `stemmed`.
use Rattle.std.proofs.Common.{◌++◌, ◌∙◌, ap, append_assoc}
use Rattle.elm_type.specs.Naming.{suffix}
use Rattle.elm_type.specs.Used.{stem}
use Rattle.elm_type.proofs.Names.{stemmed}
use Rattle.elm_type.proofs.naming.put_candidate.Goals as goal

pub returns-in_ok-put_suffix-in_default : goal.returns-in_ok-put_suffix-in_default
returns-in_ok-put_suffix-in_default c =
    c.in_ok-put_suffix-in_default.ensures
    ∙ (ap (λ t. t ++ suffix c.args.place) (c.in_ok-put-in_default.ensures ∙ ap (λ t. c.args.text.now.items ++ t) c.stem.ensures)
    ∙ (append_assoc c.args.text.now.items (stem c.args.class) (suffix c.args.place)
    ∙ ap (λ t. c.args.text.now.items ++ t) (stemmed c.args.class c.args.place c.in_default.not-Any)))
