-- One piece more: `map_next`.
use Rattle.std.proofs.Common.{◌≡◌, ℕ, ◌<◌, ◌++◌, [], ◌∷◌, List, length, take, map, sym, ap, ◌∙◌, subst, arith}
use Rattle.std.specs.List.{filter_map, All}
use Rattle.std.specs.declared.alloc.Global.{Global}
use Rattle.std.specs.declared.vec.Vec.{Vec}
use Rattle.std.proofs.lemmas.List.{map-append, take_all}
use Rattle.std.proofs.lemmas.List.Elements.{All-push}
use Rattle.canon_env.proofs.Filtering.{map_next, pushed}
use Rattle.decl_groups.specs.Groups.{plain}
use Rattle.link.specs.Link.{Placed}
use Rattle.link.specs.Reached.{place_of, places_used}
use Rattle.link.specs.View.{placed_view}
use Rattle.link.proofs.places.Places.all_used.Goals as goal

pub loop-placed-preserved : goal.loop-placed-preserved
loop-placed-preserved c =
    let i = c.loop-placed.placed-index in
    let d = c.placed-item.result in
    let ds = c.args.pieces.now in
    let before = map placed_view (take i ds) in
    let grown = c.in_ok-push.ensures.items in
    record {
      used = λ each is.
          pushed (λ v. v.items) c.loop-placed.rows.items c.push.new.self.items c.in_ok-row.row
          (places_used each (map (λ (d : Placed). d.piece.uses) before)) (filter_map (place_of each) (placed_view
          d).piece.uses)
          grown (c.loop-placed.invariant.used each is) (c.in_ok-row.ensures.used each is
          ∙ ap (filter_map (place_of each)) c.deref.ensures.value)
          ∙ sym (ap (λ us. places_used each (map (λ (d : Placed). d.piece.uses) us)) (map_next placed_view ds i d
          (omega arith) c.placed-item.is)
          ∙ ap (places_used each) (map-append (λ (d : Placed). d.piece.uses) before (placed_view d ∷ []))
          ∙ map-append (λ us. filter_map (place_of each) us) (map (λ (d : Placed). d.piece.uses) before) ((placed_view
          d).piece.uses ∷ []));
      within = λ each is.
          subst (All (λ row. All (λ j. j < length each) row.items)) (sym grown)
          (All-push (λ (row : Vec ℕ Global). All (λ j. j < length each) row.items) c.loop-placed.rows.items
          c.in_ok-row.row
          (c.loop-placed.invariant.within each is) (c.in_ok-row.ensures.within each is));
    }
