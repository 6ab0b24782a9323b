-- The names that are bound, as they are kept: `bound_pop`, `indexed_pop`, `indexed_same`, `last_one`.
use Rattle.std.proofs.Common.{◌≡◌, ◌∙◌, ◌-◌, sym, ap, refl, List, [], ◌∷◌, ◌++◌, length, get_or}
use Rattle.js_tree.specs.Postorder.{name_view}
use Rattle.js_scope.specs.declared.scopes.Binding.{Binding}
use Rattle.js_scope.specs.Places.{with_place}
use Rattle.js_scope.specs.Index.{place_in}
use Rattle.js_scope.specs.Scopes.{innermost_settled, outer}
use Rattle.js_scope.proofs.Bindings.{bound_pop, indexed_pop, indexed_same, last_one}
use Rattle.js_scope.proofs.scopes.unbind.Goals as goal

pub returns-in_err-set-clause-indexed : goal.returns-in_err-set-clause-indexed
returns-in_err-set-clause-indexed c = indexed_same _ _ _ _ _ _ c.requires refl refl c.in_err-set.ensures.err

pub returns-clause-settled : goal.returns-clause-settled
returns-clause-settled c =
    let e = bound_pop c.pop.new.self.items c.args.bindings.now.items c.pop-2.new.self.items c.args.marks.now.items c.args.index.now c.in-Some-pop._binding c.in-Some-pop-2.met c.requires c.in-Some-pop.ensures.items c.in-Some-pop-2.ensures.items in
    c.is_settled.ensures ∙ sym (ap innermost_settled e)

pub returns-clause-after : goal.returns-clause-after
returns-clause-after c =
    let e = bound_pop c.pop.new.self.items c.args.bindings.now.items c.pop-2.new.self.items c.args.marks.now.items c.args.index.now c.in-Some-pop._binding c.in-Some-pop-2.met c.requires c.in-Some-pop.ensures.items c.in-Some-pop-2.ensures.items in
    sym (ap outer e)

pub returns-clause-indexed : goal.returns-clause-indexed
returns-clause-indexed c =
    let cs = c.args.bindings.now.items in
    let last = c.in-Some.last.now in
    let whole : cs ≡ c.pop.new.self.items ++ c.in-Some-pop._binding ∷ [] = c.in-Some-pop.ensures.items in
    let same : last ≡ c.in-Some-pop._binding =
    last_one c.pop.new.self.items cs c.in-Some-pop._binding last whole (c.in-Some.ensures.item.1 ∙ ap (λ (xs : List Binding). get_or xs (length xs - 1) last) c.deref.ensures.value) in
    indexed_pop c.pop.new.self.items c.pop-2.new.self.items c.args.index.now c.set.new.self c.in-Some-pop._binding c.in-Some-pop-2.met
    (indexed_same _ _ _ _ _ _ c.requires (sym whole) (sym c.in-Some-pop-2.ensures.items) refl)
    (c.in_ok-set.ensures.ok ∙ ap (λ (b : Binding). with_place (name_view b.name.now) b.before (place_in c.args.index.now)) same)
