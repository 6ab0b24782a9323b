-- The names that are bound, as they are kept: `bound_push`, `indexed_push`, `indexed_same`.
use Rattle.std.proofs.Common.{◌∙◌, ap, [], ◌∷◌, ◌++◌, refl, false, ◌+◌, length}
use Rattle.js_tree.specs.Postorder.{name_view}
use Rattle.js_scope.specs.declared.scopes.Binding.{Binding}
use Rattle.js_scope.specs.declared.scopes.Marks.{Marks}
use Rattle.js_scope.specs.Places.{with_place}
use Rattle.js_scope.specs.Index.{place_in}
use Rattle.js_scope.specs.Scopes.{bound_on}
use Rattle.js_scope.proofs.Bindings.{bound_push, indexed_push, indexed_same}
use Rattle.js_scope.proofs.scopes.declare.Goals as goal

pub returns-in_err-reserve-clause-indexed : goal.returns-in_err-reserve-clause-indexed
returns-in_err-reserve-clause-indexed c = indexed_same _ _ _ _ _ _ c.requires c.in_err-reserve.ensures.items refl refl

pub returns-in_err-reserve-2-clause-indexed : goal.returns-in_err-reserve-2-clause-indexed
returns-in_err-reserve-2-clause-indexed c = indexed_same _ _ _ _ _ _ c.requires c.in_ok-reserve.ensures.items c.in_err-reserve-2.ensures.items refl

pub returns-in_err-set-clause-indexed : goal.returns-in_err-set-clause-indexed
returns-in_err-set-clause-indexed c = indexed_same _ _ _ _ _ _ c.requires c.in_ok-reserve.ensures.items c.in_ok-reserve-2.ensures.items c.in_err-set.ensures.err

pub returns-clause-bound : goal.returns-clause-bound
returns-clause-bound c =
    let bs = c.args.bindings.now.items in
    let ms = c.args.marks.now.items in
    let b : Binding = record { name = c.args.name; before = c.place-before.result } in
    let m : Marks = record { assigned = false; captured = false } in
    ap (λ xs. bound_on xs c.push-2.new.self.items []) (c.in_ok-push.ensures.items ∙ ap (λ xs. xs ++ b ∷ []) c.in_ok-reserve.ensures.items)
    ∙ (ap (λ xs. bound_on (bs ++ b ∷ []) xs []) (c.in_ok-push-2.ensures.items ∙ ap (λ xs. xs ++ m ∷ []) c.in_ok-reserve-2.ensures.items)
    ∙ bound_push bs b ms m [] c.requires.marked)

pub returns-clause-indexed : goal.returns-clause-indexed
returns-clause-indexed c =
    let bs = c.args.bindings.now.items in
    let ms = c.args.marks.now.items in
    let b : Binding = record { name = c.args.name; before = c.place-before.result } in
    let m : Marks = record { assigned = false; captured = false } in
    indexed_same _ _ _ _ _ _
    (indexed_push bs ms c.args.index.now c.set.new.self b m c.requires c.place-before.ensures
    (c.in_ok-set.ensures.ok ∙ ap (λ n. with_place (name_view c.args.name.now) (n + 1) (place_in c.args.index.now)) (c.len.ensures ∙ (c.reserve.new.self.ok.0 ∙ ap length c.in_ok-reserve.ensures.items))))
    (c.in_ok-push.ensures.items ∙ ap (λ xs. xs ++ b ∷ []) c.in_ok-reserve.ensures.items)
    (c.in_ok-push-2.ensures.items ∙ ap (λ xs. xs ++ m ∷ []) c.in_ok-reserve-2.ensures.items)
    refl
