-- A base is what its outermost form is.
use Rattle.std.proofs.Common.{map, Some, sym, ap, ◌∙◌}
use Rattle.std.proofs.lemmas.Result.{IfOk-weaker}
use Rattle.elm_canon.specs.Tree as plain
use Rattle.elm_canon.specs.Tree.{field_types_of}
use Rattle.elm_canon.specs.View.{annotation_view, field_type_view}
use Rattle.elm_canon.proofs.Views.{type_of_record}
use Rattle.canon_env.specs.Expanding.{extended}
use Rattle.canon_type.proofs.Copies.{on_record, on_extended}
use Rattle.canon_type.proofs.extending.extended.Goals as goal

pub returns-in_ok-clone-in-Variable : goal.returns-in_ok-clone-in-Variable
returns-in_ok-clone-in-Variable c =
    let F = field_types_of (map field_type_view c.args.fields.items) in
    type_of_record (Some c.in_ok-clone-in-Variable.field-0) c.args.fields
    ∙ ap (λ x. plain.ExtendedType x F) c.in_ok-clone-in-Variable.ensures.cases
    ∙ ap (λ t. extended t F) c.in-Variable.ensures.view

pub returns-in_ok-append-in-Record : goal.returns-in_ok-append-in-Record
returns-in_ok-append-in-Record c =
    on_record c.append.new.self c.in_ok-all-in-Record.all.items c.in-Record.before.now c.args.fields.items
    (annotation_view c.args.base.now) c.in_ok-append-in-Record.ensures.items c.in_ok-all-in-Record.ensures
    c.in-Record.ensures.view

pub returns-in_ok-clone-in-Extended : goal.returns-in_ok-clone-in-Extended
returns-in_ok-clone-in-Extended c =
    on_extended c.append-in-Extended.new.self c.in-Extended.a.now c.in_ok-clone-in-Extended.field-0
    c.in_ok-all-in-Extended.all.items c.in-Extended.before.now c.args.fields.items (annotation_view c.args.base.now)
    c.in_ok-clone-in-Extended.ensures.cases c.in_ok-append-in-Extended.ensures.items c.in_ok-all-in-Extended.ensures
    c.in-Extended.ensures.view

pub returns-in-Named : goal.returns-in-Named
returns-in-Named c =
    let F = field_types_of (map field_type_view c.args.fields.items) in
    IfOk-weaker c.copy.result _ _
    (λ r e. e ∙ sym c.in-Named.ensures.view ∙ ap (λ t. extended t F) c.in-Named.ensures.view) c.copy.ensures
