-- What is taken off the stacks in turn (`took`) gives way to what is made of it (`acted`).
use Rattle.std.proofs.Common.{refl}
use Rattle.std.proofs.lemmas.Result.{on_ok_weaker}
use Rattle.elm_grammar.specs.declared.action.Action.TheVariants.{BranchOf}
use Rattle.elm_grammar.specs.declared.action.Item.TheVariants as item
use Rattle.elm_grammar.specs.Values.{One, act, gives, takes}
use Rattle.elm_values.proofs.Making.{branch_made}
use Rattle.elm_values.proofs.Acting.{acted, done, took}
use Rattle.elm_values.proofs.exprs.case_branch.Goals as goal

pub returns : goal.returns
unfolding takes gives act
returns c =
    on_ok_weaker c.put_branch.result
    (λ e tokens.
    acted BranchOf
    (took (One item.Pattern) (c.take_pattern-begun.ensures.value tokens) (c.take_pattern-begun.ensures.rest tokens)
    (took (One item.Word) refl (c.skip_word.ensures tokens)
    (took (One item.Expr) (c.take_expr-body.ensures.value tokens) (c.take_expr-body.ensures.rest tokens)
    (done tokens _))))
    (branch_made tokens _) (e tokens))
    c.put_branch.ensures
