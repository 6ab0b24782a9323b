use Rattle.std.proofs.Common.{◌≡◌, ◌≤◌, ◌++◌, None, map, length, sym, ap, ◌∙◌, append-nil, arith}
use Rattle.std.specs.Prelude.{slice_get}
use Rattle.std.proofs.lemmas.List.{length-map}
use Rattle.std.proofs.lemmas.Option.{slice_get_past}
use Rattle.std.proofs.lemmas.Bool.Decides.{nat_tests}
use Rattle.elm_canon.specs.View.{types_view, union_declaration_view}
use Rattle.elm_canon.specs.declared.tree.Fields.{Fields}
use Rattle.type_items.specs.Modules.{union_type}
use Rattle.infer.specs.Known.{as_scheme, maker_at}
use Rattle.infer.specs.Named.{named_views}
use Rattle.infer.proofs.makers.push_at.Goals as goal

pub returns-in-None : goal.returns-in-None
returns-in-None c =
    let u = union_declaration_view c.args.union.now in
    let old = named_views c.args.found.now.items in
    let many : length c.deref.result.now ≤ c.args.number = grind (arith, nat_tests, c.in-None.ensures.lookup) in
    let past : slice_get u.fields c.args.number ≡ None =
    slice_get_past u.fields c.args.number
    (omega (
      arith,
      many,
      ap length c.deref.ensures.value,
      length-map c.args.union.now.fields.items (λ (f : Fields). types_view f.types.items),
    )) in
    sym (append-nil old)
    ∙ ap (λ o. old ++ map as_scheme (maker_at (union_type c.args.home.now u) c.args.name.now o)) (sym past)
