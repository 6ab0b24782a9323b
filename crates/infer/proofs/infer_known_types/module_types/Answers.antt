use Rattle.std.proofs.Common.{◌≡◌, List, ◌++◌, map, flat_map, option_map, sym, ap, ◌∙◌}
use Rattle.std.specs.Map.{lookup}
use Rattle.std.specs.Str.{bytes_eq}
use Rattle.std.proofs.lemmas.Result.{IfOk-weaker}
use Rattle.std.proofs.Common.{Global}
use Rattle.std.specs.declared.sync.Arc.{Arc}
use Rattle.elm_canon.specs.Tree as plain
use Rattle.elm_canon.specs.View.{module_view, alias_declaration_view, port_declaration_view, union_declaration_view}
use Rattle.elm_canon.specs.declared.tree.AliasDeclaration.{AliasDeclaration}
use Rattle.elm_canon.specs.declared.tree.PortDeclaration.{PortDeclaration}
use Rattle.elm_canon.specs.declared.tree.UnionDeclaration.{UnionDeclaration}
use Rattle.elm_type.specs.Types.{Name}
use Rattle.type_items.specs.Annotations.{annotation_scheme}
use Rattle.type_items.specs.Modules.{Annotated, alias_makers, declared, union_makers}
use Rattle.infer_steps.specs.View.{schemes_view}
use Rattle.infer_steps.specs.declared.known.ModuleTypes.{ModuleTypes}
use Rattle.infer.specs.Known.{Typed, as_scheme}
use Rattle.infer.specs.Named.{named_views}
use Rattle.infer.proofs.InferKnownLooking.{lookup_mapped}
use Rattle.infer.proofs.Making.{map_both}
use Rattle.infer.proofs.infer_known_types.module_types.Goals as goal

pub returns : goal.returns
returns c =
    let m = module_view c.args.module.now in
    let us : List Annotated = flat_map (union_makers m.name) m.unions in
    let as_ : List Annotated = flat_map alias_makers m.aliases in
    let ps : List Annotated = map (λ (p : plain.PortDeclaration). (p.name, p.port_type)) m.ports in
    let of_unions : List (Arc UnionDeclaration Global) → List Typed =
    λ l. map as_scheme (flat_map (union_makers m.name)
    (map (λ (u : Arc UnionDeclaration Global). union_declaration_view u.value) l)) in
    let of_aliases : List (Arc AliasDeclaration Global) → List Typed =
    λ l. map as_scheme (flat_map alias_makers
    (map (λ (a : Arc AliasDeclaration Global). alias_declaration_view a.value) l)) in
    let of_ports : List PortDeclaration → List Typed =
    λ l. map as_scheme (map (λ (p : plain.PortDeclaration). (p.name, p.port_type)) (map port_declaration_view l)) in
    let first : named_views c.push_unions.new.found.items ≡ map as_scheme us =
    c.in_ok-push_unions.ensures
    ∙ (ap (λ l. named_views l ++ of_unions c.deref.result.now) c.new-found.ensures.items
    ∙ ap of_unions c.deref.ensures.value) in
    let second : named_views c.push_aliases.new.found.items ≡ map as_scheme us ++ map as_scheme as_ =
    c.in_ok-push_aliases.ensures
    ∙ (ap (λ l. l ++ of_aliases c.deref-2.result.now) first
    ∙ ap (λ l. map as_scheme us ++ of_aliases l) c.deref-2.ensures.value) in
    let third : named_views c.push_ports.new.found.items ≡ map as_scheme us ++ map as_scheme as_ ++ map as_scheme ps =
    c.in_ok-push_ports.ensures
    ∙ (ap (λ l. l ++ of_ports c.deref-3.result.now) second
    ∙ ap (λ l. map as_scheme us ++ map as_scheme as_ ++ of_ports l) c.deref-3.ensures.value) in
    let found : named_views c.push_ports.new.found.items ≡ map as_scheme (declared m) =
    third ∙ (ap (λ l. l ++ map as_scheme ps) (sym (map_both as_scheme us as_)) ∙ sym
    (map_both as_scheme (us ++ as_) ps)) in
    IfOk-weaker c.table.result
    (λ (types : ModuleTypes). (x : Name) → schemes_view types x ≡ lookup (bytes_eq x)
    (named_views c.push_ports.new.found.items))
    (λ (types : ModuleTypes). (x : Name) → schemes_view types x ≡ option_map annotation_scheme
    (lookup (bytes_eq x) (declared m)))
    (λ types h x. h x ∙ (ap (lookup (bytes_eq x)) found ∙ lookup_mapped (bytes_eq x) annotation_scheme (declared m)))
    c.table.ensures
