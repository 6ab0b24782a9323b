-- A base is what its outermost form is.
use Rattle.std.proofs.Common.{◌++◌, map, sym, ap, ◌∙◌}
use Rattle.std.specs.Prelude.{filter}
use Rattle.std.proofs.lemmas.Result.{on_ok_weaker}
use Rattle.elm_canon.specs.Tree.{field_types_of, field_names}
use Rattle.elm_canon.specs.View.{field_type_view}
use Rattle.canon_env.specs.Exposing.{is_among}
use Rattle.canon_env.specs.Expanding.{bad_on}
use Rattle.canon_type.specs.Extending.{names_of}
use Rattle.canon_type.proofs.Copies.{field_names_of}
use Rattle.canon_type.proofs.extending.push_bad.Goals as goal

pub returns-in-Record : goal.returns-in-Record
returns-in-Record c =
    let fs = c.args.fields.now in
    on_ok_weaker c.push_repeated.result
    (λ e. e
    ∙ ap (λ xs. c.args.bad.now.items ++ filter (λ x. is_among x xs) (names_of fs)) (sym (field_names_of c.in-Record.before.now))
    ∙ ap (λ xs. c.args.bad.now.items ++ filter (λ x. is_among x (field_names (field_types_of (map field_type_view c.in-Record.before.now)))) xs)
    (sym (field_names_of fs))
    ∙ ap (λ t. c.args.bad.now.items ++ bad_on t (field_types_of (map field_type_view fs))) c.in-Record.ensures.view)
    c.push_repeated.ensures

pub returns-in-Extended : goal.returns-in-Extended
returns-in-Extended c =
    let fs = c.args.fields.now in
    on_ok_weaker c.push_repeated-in-Extended.result
    (λ e. e
    ∙ ap (λ xs. c.args.bad.now.items ++ filter (λ x. is_among x xs) (names_of fs)) (sym (field_names_of c.in-Extended.before.now))
    ∙ ap (λ xs. c.args.bad.now.items ++ filter (λ x. is_among x (field_names (field_types_of (map field_type_view c.in-Extended.before.now)))) xs)
    (sym (field_names_of fs))
    ∙ ap (λ t. c.args.bad.now.items ++ bad_on t (field_types_of (map field_type_view fs))) c.in-Extended.ensures.view)
    c.push_repeated-in-Extended.ensures

pub returns-in-Named : goal.returns-in-Named
returns-in-Named c =
    let fs = c.args.fields.now in
    on_ok_weaker c.push_all.result
    (λ e. e
    ∙ ap (λ xs. c.args.bad.now.items ++ xs) (sym (field_names_of fs))
    ∙ ap (λ t. c.args.bad.now.items ++ bad_on t (field_types_of (map field_type_view fs))) c.in-Named.ensures.view)
    c.push_all.ensures

pub returns-in-Function : goal.returns-in-Function
returns-in-Function c =
    let fs = c.args.fields.now in
    on_ok_weaker c.push_all-in-Function.result
    (λ e. e
    ∙ ap (λ xs. c.args.bad.now.items ++ xs) (sym (field_names_of fs))
    ∙ ap (λ t. c.args.bad.now.items ++ bad_on t (field_types_of (map field_type_view fs))) c.in-Function.ensures.view)
    c.push_all-in-Function.ensures

pub returns-in-Tuple : goal.returns-in-Tuple
returns-in-Tuple c =
    let fs = c.args.fields.now in
    on_ok_weaker c.push_all-in-Tuple.result
    (λ e. e
    ∙ ap (λ xs. c.args.bad.now.items ++ xs) (sym (field_names_of fs))
    ∙ ap (λ t. c.args.bad.now.items ++ bad_on t (field_types_of (map field_type_view fs))) c.in-Tuple.ensures.view)
    c.push_all-in-Tuple.ensures
