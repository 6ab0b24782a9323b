use Rattle.std.proofs.Common.{map, sym, ◌∙◌, subst}
use Rattle.infer_steps.specs.View.{code_of, here}
use Rattle.infer_steps.specs.Made.{AreOpened}
use Rattle.infer_groups.specs.Names.{named_views}
use Rattle.infer_groups.proofs.Entering.{views_variables, views_titled}
use Rattle.infer_groups.proofs.groups.open_group.Goals as goal

pub returns-clause-opened : goal.returns-clause-opened
returns-clause-opened c ds titled =
    let names = c.in_ok-names.names.items in
    let mid = here c.open_each.new.state in
    c.members_law.ensures.open (code_of c.args.scope.now) ds c.args.number (named_views names) (here c.args.state.now)
    mid c.requires
    (views_titled names c.args.titles.now ds c.in_ok-names.ensures.names titled)
    (subst (λ s. AreOpened s mid (map (λ n. n.1) (named_views names))) c.in_ok-go_inside.ensures
    (subst (AreOpened (here c.go_inside.new.state) mid)
    (sym (views_variables names ∙ c.in_ok-names.ensures.variables ∙ c.deref.ensures.value))
    c.in_ok-variables.ensures.made))
