use Rattle.std.proofs.Common.{◌≡◌, ◌++◌, map, take}
use Rattle.std.specs.List.{zip}
use Rattle.elm_canon.specs.View.{union_declaration_view}
use Rattle.type_items.specs.Modules.{union_type}
use Rattle.infer.specs.Known.{as_scheme}
use Rattle.infer.specs.Named.{named_views}
use Rattle.infer.proofs.Making.{makers_of}
use Rattle.infer.proofs.makers.push_union.Given as goal

abbrev pub invariant-loop-number : goal.invariant-loop-number
invariant-loop-number l =
    let u = union_declaration_view l.union in
    named_views l.found.items
    ≡ named_views l.fn.found.items
    ++ map as_scheme (makers_of (union_type l.home u) (take l.number (zip l.names.items u.fields)))
