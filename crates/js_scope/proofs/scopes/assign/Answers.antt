-- The names that are bound, as they are kept: `place_inside`, `own_is`, `assigned_none`, `assigned_own`.
use Rattle.std.proofs.Common.{◌∙◌, sym, arith}
use Rattle.std.proofs.lemmas.Bool.{lt-ltb, le-ltb}
use Rattle.js_tree.specs.Postorder.{name_view}
use Rattle.js_scope.proofs.Bindings.{place_inside, own_is, assigned_none, assigned_own}
use Rattle.js_scope.proofs.scopes.assign.Goals as goal

pub returns-then-place-start-clause-own : goal.returns-then-place-start-clause-own
returns-then-place-start-clause-own c =
    sym (own_is c.args.bindings.now.items c.args.marks.now.items c.args.index.now (name_view c.args.name.now) c.args.start c.place-place.result c.requires c.place-place.ensures ∙ le-ltb c.args.start c.place-place.result (omega arith))

pub returns-then-place-start-clause-after : goal.returns-then-place-start-clause-after
returns-then-place-start-clause-after c =
    assigned_none c.args.bindings.now.items c.args.marks.now.items c.args.index.now (name_view c.args.name.now) c.args.start c.place-place.result c.requires c.place-place.ensures (omega arith)

pub index_mut-requires : goal.index_mut-requires
index_mut-requires c =
    let inside = place_inside c.args.bindings.now.items c.args.marks.now.items c.args.index.now (name_view c.args.name.now) c.place-place.result c.requires c.place-place.ensures in
    let l = c.args.marks.now.ok.0 in
    omega arith

pub returns-clause-own : goal.returns-clause-own
returns-clause-own c =
    sym (own_is c.args.bindings.now.items c.args.marks.now.items c.args.index.now (name_view c.args.name.now) c.args.start c.place-place.result c.requires c.place-place.ensures ∙ lt-ltb c.args.start c.place-place.result (omega arith))

pub returns-clause-after : goal.returns-clause-after
returns-clause-after c =
    assigned_own c.args.bindings.now.items c.args.marks.now.items c.args.index.now (name_view c.args.name.now) c.args.start c.place-place.result c.index_mut.result.now c.index_mut.result.now c.requires c.place-place.ensures (omega arith) c.index_mut.ensures.value
