use Rattle.std.proofs.Common.{◌≡◌, [], ◌∷◌, ◌++◌, map, sym, ap, ◌∙◌}
use Rattle.std.proofs.lemmas.Result.{on_ok_weaker}
use Rattle.elm_canon.specs.Tree as plain
use Rattle.elm_canon.specs.Tree.{FieldTypes, annotations_of, field_types_of}
use Rattle.elm_canon.specs.View.{annotation_view, field_type_view}
use Rattle.type_items.specs.Modules.{function_to, field_types, record_maker}
use Rattle.infer.specs.Known.{as_scheme}
use Rattle.infer.specs.Named.{named_views}
use Rattle.infer.proofs.Making.{fields_in_order}
use Rattle.infer.proofs.makers.push_record.Goals as goal

pub returns-in_ok-written-in-Some : goal.returns-in_ok-written-in-Some
returns-in_ok-written-in-Some c =
    let x = c.args.name.now in
    let old = named_views c.args.found.now.items in
    let new = named_views c.push_annotated.new.found.items in
    let fs : FieldTypes = field_types_of (map field_type_view c.in-Some.fields.now) in
    let body : annotation_view c.args.body.now ≡ plain.RecordType fs = c.in-Some.ensures.found in
    let types : annotations_of (map annotation_view c.in_ok-parameters-in-Some.parameters.items) ≡ field_types fs =
    ap annotations_of c.in_ok-parameters-in-Some.ensures ∙ sym
    (fields_in_order (map field_type_view c.in-Some.fields.now)) in
    let written : annotation_view c.in_ok-written-in-Some.written ≡ function_to (field_types fs) (plain.RecordType fs) =
    c.in_ok-written-in-Some.ensures
    ∙ (ap (λ ts. function_to ts (annotation_view c.in_ok-made-in-Some.made)) types
    ∙ ap (function_to (field_types fs)) (c.in_ok-made-in-Some.ensures ∙ body)) in
    let more : new ≡ old ++ as_scheme (x, annotation_view c.in_ok-written-in-Some.written) ∷ []
    → new ≡ old ++ map as_scheme (record_maker x (annotation_view c.args.body.now)) =
    λ e. e ∙ ap (λ l. old ++ l) (ap (λ t. as_scheme (x, t) ∷ []) written
    ∙ ap (λ t. map as_scheme (record_maker x t)) (sym body)) in
    on_ok_weaker c.push_annotated.result more c.push_annotated.ensures
