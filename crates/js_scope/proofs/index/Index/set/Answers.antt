-- What the index of names has after a change: `top_updated`, `local_updated`, `made_updated`.
use Rattle.std.proofs.Common.{◌∙◌, ap, sym, refl}
use Rattle.js_tree.specs.Tree.{Top, Local}
use Rattle.js_tree.specs.Postorder.{name_view}
use Rattle.js_scope.specs.Places.{with_place}
use Rattle.js_scope.specs.Index.{place_in}
use Rattle.js_scope.specs.declared.index.Index.{Index}
use Rattle.js_scope.proofs.Indexes.{top_updated, local_updated, made_updated}
use Rattle.js_scope.proofs.index.Index.set.Goals as goal

pub returns-in_ok-insert-in-Top-clause-ok : goal.returns-in_ok-insert-in-Top-clause-ok
returns-in_ok-insert-in-Top-clause-ok c =
    let old = c.args.self.now in
    let new : Index = record { tops = c.insert.new.self; locals = old.locals; made = old.made } in
    top_updated c.as_slice.result.now c.as_slice-in-Top.result.now old new c.args.place c.in_ok-insert-in-Top.ensures.updates refl refl
    ∙ (ap (λ m. with_place (Top m c.as_slice-in-Top.result.now) c.args.place (place_in old)) c.as_slice.ensures
    ∙ (ap (λ x. with_place (Top c.in-Top.module x) c.args.place (place_in old)) c.as_slice-in-Top.ensures
    ∙ ap (λ n. with_place (name_view n) c.args.place (place_in old)) (sym c.in-Top.is)))

pub returns-in_ok-insert-in-Local-clause-ok : goal.returns-in_ok-insert-in-Local-clause-ok
returns-in_ok-insert-in-Local-clause-ok c =
    let old = c.args.self.now in
    let new : Index = record { tops = old.tops; locals = c.insert-in-Local.new.self; made = old.made } in
    local_updated c.as_slice-in-Local.result.now old new c.args.place c.in_ok-insert-in-Local.ensures.updates refl refl
    ∙ (ap (λ x. with_place (Local x) c.args.place (place_in old)) c.as_slice-in-Local.ensures
    ∙ ap (λ n. with_place (name_view n) c.args.place (place_in old)) (sym c.in-Local.is))

pub returns-in_ok-insert-in-Made-clause-ok : goal.returns-in_ok-insert-in-Made-clause-ok
returns-in_ok-insert-in-Made-clause-ok c =
    let old = c.args.self.now in
    let new : Index = record { tops = old.tops; locals = old.locals; made = c.insert-in-Made.new.self } in
    made_updated c.in-Made.number old new c.args.place c.in_ok-insert-in-Made.ensures.updates refl refl
    ∙ ap (λ n. with_place (name_view n) c.args.place (place_in old)) (sym c.in-Made.is)
