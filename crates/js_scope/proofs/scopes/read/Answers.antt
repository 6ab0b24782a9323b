-- The names that are bound, as they are kept: `place_inside`, `found_is`, `read_none`, `read_own`, and others.
use Rattle.std.proofs.Common.{◌∙◌, sym, ap, arith}
use Rattle.std.specs.Prelude.{nat_lt}
use Rattle.std.proofs.lemmas.Bool.{lt-ltb}
use Rattle.js_tree.specs.Postorder.{name_view}
use Rattle.js_scope.proofs.Bindings.{place_inside, found_is, read_none, read_own, read_far}
use Rattle.js_scope.proofs.scopes.read.Goals as goal

pub returns-then-place-eq0-clause-found : goal.returns-then-place-eq0-clause-found
returns-then-place-eq0-clause-found c =
    sym (found_is c.args.bindings.now.items c.args.marks.now.items c.args.index.now (name_view c.args.name.now) c.place-place.result c.requires c.place-place.ensures ∙ ap (λ k. nat_lt 0 k) c.if-place-eq0.true)

pub returns-then-place-eq0-clause-after : goal.returns-then-place-eq0-clause-after
returns-then-place-eq0-clause-after c =
    read_none c.args.bindings.now.items c.args.marks.now.items c.args.index.now (name_view c.args.name.now) c.args.start c.place-place.result c.requires c.place-place.ensures c.if-place-eq0.true

pub index_mut-requires : goal.index_mut-requires
index_mut-requires c =
    let inside = place_inside c.args.bindings.now.items c.args.marks.now.items c.args.index.now (name_view c.args.name.now) c.place-place.result c.requires c.place-place.ensures in
    let l = c.args.marks.now.ok.0 in
    omega arith

pub returns-then-start-place-clause-found : goal.returns-then-start-place-clause-found
returns-then-start-place-clause-found c =
    sym (found_is c.args.bindings.now.items c.args.marks.now.items c.args.index.now (name_view c.args.name.now) c.place-place.result c.requires c.place-place.ensures ∙ lt-ltb 0 c.place-place.result (omega arith))

pub returns-then-start-place-clause-after : goal.returns-then-start-place-clause-after
returns-then-start-place-clause-after c =
    read_far c.args.bindings.now.items c.args.marks.now.items c.args.index.now (name_view c.args.name.now) c.args.start c.place-place.result c.index_mut.result.now c.index_mut.result.now c.requires c.place-place.ensures (omega arith) (omega arith) c.index_mut.ensures.value

pub returns-else-start-place-clause-found : goal.returns-else-start-place-clause-found
returns-else-start-place-clause-found c =
    sym (found_is c.args.bindings.now.items c.args.marks.now.items c.args.index.now (name_view c.args.name.now) c.place-place.result c.requires c.place-place.ensures ∙ lt-ltb 0 c.place-place.result (omega arith))

pub returns-else-start-place-clause-after : goal.returns-else-start-place-clause-after
returns-else-start-place-clause-after c =
    read_own c.args.bindings.now.items c.args.marks.now.items c.args.index.now (name_view c.args.name.now) c.args.start c.place-place.result c.requires c.place-place.ensures (omega arith)
