-- What the store tells is what is said: `says_class`.
use Rattle.std.proofs.Common.{◌++◌, ◌∙◌, ap}
use Rattle.std.specs.Prelude.{codes}
use Rattle.elm_type.specs.View.{scheme_view, type_view}
use Rattle.elm_type.specs.Text.{text_in, leaf_name}
use Rattle.elm_type.specs.Used.{stem}
use Rattle.elm_type.specs.declared.frame.Around.TheVariants.{Alone}
use Rattle.infer.proofs.Saying.{says_class}
use Rattle.infer.proofs.texts.class_text.Goals as goal

pub returns : goal.returns
returns c =
    says_class c.args.store.now c.args.variable (stem c.args.class) (scheme_view c.in_ok-scheme.scheme)
    c.put-2.new.text.items c.requires.whole c.in_ok-scheme.ensures
    (c.in_ok-put-2.ensures
    ∙ (ap (λ n. c.put.new.text.items ++ n) c.class_name.ensures
    ∙ ap (λ t. t ++ stem c.args.class)
    (c.in_ok-put.ensures
    ∙ ap (λ t. t ++ codes " is not ")
    (c.in_ok-text.ensures
    ∙ ap (λ ns. text_in (leaf_name ns) Alone (type_view c.in_ok-scheme.scheme.ty))
    (c.deref.ensures.value ∙ c.in_ok-names.ensures)))))
