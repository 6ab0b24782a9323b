-- The pieces of the core, then those of the declarations, and `main`.
use Rattle.std.proofs.Common.{◌++◌, map, subst, ap, ◌∙◌}
use Rattle.elm_canon.specs.View.{declaration_view, port_declaration_view}
use Rattle.emit_program.specs.Programs.{core_view}
use Rattle.link.specs.Made.{fragment_of, declared_piece, core_piece}
use Rattle.link.specs.Found.{IsPlaces}
use Rattle.link.specs.FragmentsView.{piece_view}
use Rattle.link.proofs.making.fragment.Goals as goal

pub returns : goal.returns
unfolding fragment_of
returns c =
    let ports = map port_declaration_view c.args.module.now.ports.items in
    let cores = map core_piece (map core_view c.args.core_names.now) in
    let places = subst (λ ps. IsPlaces c.in_ok-places.places (map port_declaration_view ps)) c.deref.ensures.value
    c.in_ok-places.ensures in
    let pieces = c.in_ok-push_declared.ensures ports places
    ∙ ap (λ ps. ps ++ map (declared_piece ports) (map declaration_view c.args.module.now.declarations.items))
    (c.in_ok-push_core_pieces.ensures ∙ ap (λ ps. map piece_view ps ++ cores) c.in_ok-pieces.ensures.items) in
    λ i. record { pieces = pieces i; main = c.in_ok-main.ensures i }
