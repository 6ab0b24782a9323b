use Rattle.std.proofs.Common.{◌≡◌, ◌++◌, map, take, flat_map, Global}
use Rattle.std.specs.declared.sync.Arc.{Arc}
use Rattle.elm_canon.specs.View.{alias_declaration_view}
use Rattle.elm_canon.specs.declared.tree.AliasDeclaration.{AliasDeclaration}
use Rattle.type_items.specs.Modules.{alias_makers}
use Rattle.infer.specs.Known.{as_scheme}
use Rattle.infer.specs.Named.{named_views}
use Rattle.infer.proofs.infer_known_types.push_aliases.Given as goal

abbrev pub invariant-loop-alias : goal.invariant-loop-alias
invariant-loop-alias l =
    named_views l.found.items
    ≡ named_views l.fn.found.items
    ++ map as_scheme (flat_map alias_makers
    (map (λ (a : Arc AliasDeclaration Global). alias_declaration_view a.value) (take l.alias-index l.aliases)))
