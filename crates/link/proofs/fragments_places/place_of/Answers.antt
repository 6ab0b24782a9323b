-- The first declaration of those that are left: `place_first`, `place_later`.
use Rattle.std.proofs.Common.{◌≡◌, ◌+◌, List, [], ◌∷◌, map, drop, Some, None, sym, ap, ◌∙◌, arith}
use Rattle.std.specs.Prelude.{flat_map}
use Rattle.elm_base.specs.declared.position.Pos.{Pos}
use Rattle.elm_canon.specs.declared.reference.Ref.{Ref}
use Rattle.elm_canon.specs.declared.tree.Declaration.{Declaration}
use Rattle.elm_canon.specs.View.{declaration_view}
use Rattle.link.specs.Made.{place_in, placed_values}
use Rattle.link.proofs.Naming.{place_first, place_later, drop_at}
use Rattle.link.proofs.fragments_places.place_of.Goals as goal

pub returns-in-Some : goal.returns-in-Some
returns-in-Some c = λ ports is.
    let i = c.loop-declaration.declaration-index in
    let ds = c.args.declarations.now in
    let d = c.declaration-item.result in
    let r = c.args.name.now in
    let values : List Declaration → List (Ref × Pos) = λ es. flat_map (placed_values ports) (map declaration_view es) in
    place_first r (placed_values ports (declaration_view d)) (values (drop (i + 1) ds)) c.in-Some.place
    (sym c.in-Some.is ∙ c.place_in_declaration.ensures ports is)
    ∙ ap (λ es. place_in r (values es)) (sym (drop_at ds i d (omega arith) c.declaration-item.is))
    ∙ c.loop-declaration.invariant ports is

pub loop-declaration-preserved : goal.loop-declaration-preserved
loop-declaration-preserved c = λ ports is.
    let i = c.loop-declaration.declaration-index in
    let ds = c.args.declarations.now in
    let d = c.declaration-item.result in
    let r = c.args.name.now in
    let values : List Declaration → List (Ref × Pos) = λ es. flat_map (placed_values ports) (map declaration_view es) in
    sym (place_later r (placed_values ports (declaration_view d)) (values (drop (i + 1) ds))
    (sym c.in_default.is ∙ c.place_in_declaration.ensures ports is))
    ∙ ap (λ es. place_in r (values es)) (sym (drop_at ds i d (omega arith) c.declaration-item.is))
    ∙ c.loop-declaration.invariant ports is
