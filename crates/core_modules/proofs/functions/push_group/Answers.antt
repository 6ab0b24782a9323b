-- By the form of the group.
use Rattle.std.proofs.Common.{◌≡◌, ◌++◌, sym, ap, ◌∙◌, subst, append-nil}
use Rattle.std.specs.Prelude.{flat_map, OnOk}
use Rattle.elm_canon.specs.View.{title_view, group_view}
use Rattle.elm_canon.proofs.Views.{together, constant, destructure}
use Rattle.core_modules.specs.Facts.{title_faults, group_titles}
use Rattle.core_modules.proofs.Titles.{titles}
use Rattle.core_modules.proofs.functions.push_group.Goals as goal

pub returns-in-Together : goal.returns-in-Together
returns-in-Together c =
    subst (λ ts. OnOk c.push_all.result (c.push_all.new.findings.items
    ≡ c.args.findings.now.items ++ flat_map title_faults ts))
    (titles c.in-Together.functions.items
    ∙ sym (ap group_titles (ap group_view c.in-Together.is ∙ together c.in-Together.functions)))
    c.push_all.ensures

pub returns-in-Constant : goal.returns-in-Constant
returns-in-Constant c =
    subst (λ fs. OnOk c.push_title.result (c.push_title.new.findings.items ≡ c.args.findings.now.items ++ fs))
    (sym (append-nil (title_faults (title_view c.in-Constant.title)))
    ∙ sym (ap (λ g. flat_map title_faults (group_titles g))
    (ap group_view c.in-Constant.is ∙ constant c.in-Constant.title c.in-Constant.field-1))) c.push_title.ensures

pub returns-in-Destructure : goal.returns-in-Destructure
returns-in-Destructure c =
    sym (append-nil c.args.findings.now.items)
    ∙ sym (ap (λ g. c.args.findings.now.items ++ flat_map title_faults (group_titles g))
    (ap group_view c.in-Destructure.is ∙ destructure c.in-Destructure.field-0 c.in-Destructure.field-1))
