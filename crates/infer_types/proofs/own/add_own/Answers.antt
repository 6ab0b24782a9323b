-- An own variable, or not: `none_own`, `some_own`.
use Rattle.std.proofs.Common.{◌++◌, ◌∙◌, map, sym, ap, append-nil}
use Rattle.elm_type.specs.View.{kind_view}
use Rattle.infer_steps.specs.View.{code_of}
use Rattle.infer_types.specs.Own.{own_view}
use Rattle.infer_types.proofs.Owning.{some_own}
use Rattle.infer_types.proofs.own.add_own.Goals as goal

pub returns-in-Some : goal.returns-in-Some
returns-in-Some c =
    sym (append-nil (map own_view c.args.own.now.items))
    ∙ ap (λ l. map own_view c.args.own.now.items ++ l)
    (sym (some_own (code_of c.args.scope.now) c.args.name.now (kind_view c.args.kind.now) c.in-Some.field-0
    (sym c.constant.ensures ∙ c.in-Some.is)))
