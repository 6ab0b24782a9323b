use Rattle.std.proofs.Common.{◌++◌, List, map, take, flat_map, sym, ap, ◌∙◌, arith, Global}
use Rattle.std.specs.declared.sync.Arc.{Arc}
use Rattle.elm_canon.specs.View.{alias_declaration_view}
use Rattle.elm_canon.specs.declared.tree.AliasDeclaration.{AliasDeclaration}
use Rattle.elm_canon.specs.Tree.{AliasDeclaration as PlainDeclaration}
use Rattle.infer_order.proofs.Owning.{map_next}
use Rattle.type_items.specs.Modules.{Annotated, alias_makers}
use Rattle.infer.specs.Known.{as_scheme}
use Rattle.infer.specs.Named.{named_views}
use Rattle.infer.proofs.Making.{made_next}
use Rattle.infer.proofs.infer_known_types.push_aliases.Goals as goal

pub loop-alias-preserved : goal.loop-alias-preserved
loop-alias-preserved c =
    let i = c.loop-alias.alias-index in
    let x = c.alias-item.result in
    let make : PlainDeclaration → List Annotated = alias_makers in
    let old = named_views c.args.found.now.items in
    let first = map (λ (d : Arc AliasDeclaration Global). alias_declaration_view d.value) (take i c.args.aliases.now) in
    c.in_ok-push_alias.ensures
    ∙ (ap (λ d. named_views c.loop-alias.found.items ++ map as_scheme (make (alias_declaration_view d)))
    c.deref.ensures
    ∙ (ap (λ l. l ++ map as_scheme (make (alias_declaration_view x.value))) c.loop-alias.invariant
    ∙ (made_next make first (alias_declaration_view x.value) old
    ∙ ap (λ l. old ++ map as_scheme (flat_map make l))
    (sym (map_next (λ (d : Arc AliasDeclaration Global). alias_declaration_view d.value) c.args.aliases.now i x
    (omega arith) c.alias-item.is)))))
