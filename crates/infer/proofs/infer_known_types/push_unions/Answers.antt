use Rattle.std.proofs.Common.{◌++◌, List, map, take, flat_map, sym, ap, ◌∙◌, arith, Global}
use Rattle.std.specs.declared.sync.Arc.{Arc}
use Rattle.elm_canon.specs.View.{union_declaration_view}
use Rattle.elm_canon.specs.declared.tree.UnionDeclaration.{UnionDeclaration}
use Rattle.elm_canon.specs.Tree.{UnionDeclaration as PlainDeclaration}
use Rattle.infer_order.proofs.Owning.{map_next}
use Rattle.type_items.specs.Modules.{Annotated, union_makers}
use Rattle.infer.specs.Known.{as_scheme}
use Rattle.infer.specs.Named.{named_views}
use Rattle.infer.proofs.Making.{made_next}
use Rattle.infer.proofs.infer_known_types.push_unions.Goals as goal

pub loop-union-preserved : goal.loop-union-preserved
loop-union-preserved c =
    let i = c.loop-union.union-index in
    let x = c.union-item.result in
    let make : PlainDeclaration → List Annotated = union_makers c.args.home.now in
    let old = named_views c.args.found.now.items in
    let first = map (λ (d : Arc UnionDeclaration Global). union_declaration_view d.value) (take i c.args.unions.now) in
    c.in_ok-push_union.ensures
    ∙ (ap (λ d. named_views c.loop-union.found.items ++ map as_scheme (make (union_declaration_view d)))
    c.deref.ensures
    ∙ (ap (λ l. l ++ map as_scheme (make (union_declaration_view x.value))) c.loop-union.invariant
    ∙ (made_next make first (union_declaration_view x.value) old
    ∙ ap (λ l. old ++ map as_scheme (flat_map make l))
    (sym (map_next (λ (d : Arc UnionDeclaration Global). union_declaration_view d.value) c.args.unions.now i x
    (omega arith) c.union-item.is)))))
