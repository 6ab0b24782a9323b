use Rattle.std.proofs.Common.{◌≡◌, ◌++◌, map, take, flat_map, Global}
use Rattle.std.specs.declared.sync.Arc.{Arc}
use Rattle.elm_canon.specs.View.{union_declaration_view}
use Rattle.elm_canon.specs.declared.tree.UnionDeclaration.{UnionDeclaration}
use Rattle.type_items.specs.Modules.{union_makers}
use Rattle.infer.specs.Known.{as_scheme}
use Rattle.infer.specs.Named.{named_views}
use Rattle.infer.proofs.infer_known_types.push_unions.Given as goal

abbrev pub invariant-loop-union : goal.invariant-loop-union
invariant-loop-union l =
    named_views l.found.items
    ≡ named_views l.fn.found.items
    ++ map as_scheme (flat_map (union_makers l.home)
    (map (λ (u : Arc UnionDeclaration Global). union_declaration_view u.value) (take l.union-index l.unions)))
