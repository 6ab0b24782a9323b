use Rattle.std.proofs.Common.{◌≡◌, ◌<◌, ◌++◌, ℕ, List, Some, length, map, sym, ap, ◌∙◌, subst}
use Rattle.std.specs.Prelude.{slice_get}
use Rattle.std.specs.Borrow.{Bor}
use Rattle.std.specs.List.{All, filter_map}
use Rattle.elm_canon.specs.View.{group_view}
use Rattle.elm_canon.specs.declared.tree.Group.{Group}
use Rattle.type_items.specs.Definitions.{Definition}
use Rattle.type_items.specs.Inferred.{first_annotation}
use Rattle.infer_steps.specs.View.{code_of, here}
use Rattle.infer_exprs.specs.Finished.{GroupWalked, AnnotatedWalked, InferredWalked}
use Rattle.infer_order.specs.Order.{AreDefinitions, ordered}
use Rattle.infer_order.specs.declared.order.Definition.{Definition as Ordered}
use Rattle.infer.specs.Told.{told_views, written_types}
use Rattle.infer.proofs.Grouping.{places_at, some_group, annotated_told}
use Rattle.infer.proofs.groups.infer_group.Goals as goal

pub finish-requires : goal.finish-requires
finish-requires c =
    let gs = map (λ (g : Bor Group). group_view g.now) c.args.groups.now in
    let f = some_group gs c.args.order.now c.args.number c.requires.order c.requires.number in
    let code = code_of c.args.scope.now in
    let after = code_of c.walk_group.new.scope in
    let old = here c.args.state.now in
    let new = here c.walk_group.new.state in
    let w : InferredWalked code after f.group c.args.number c.in-Some.opened old new =
    subst (λ o. GroupWalked code after f.group c.args.number o old new) c.in-Some.is
    (c.in-Ok.ensures.walked f.group f.at) in
    w.done.can_close

pub tell_annotated-requires : goal.tell_annotated-requires
tell_annotated-requires c =
    let gs = map (λ (g : Bor Group). group_view g.now) c.args.groups.now in
    let p = places_at gs c.args.order.now c.args.number c.index.result.now c.requires.order c.requires.number
    c.index.ensures in
    subst (λ (l : List ℕ). All (λ i. i < length c.deref.result.now) l) (sym c.deref-in-None.ensures.value)
    (subst (λ (xs : List Ordered). All (λ i. i < length xs) c.index.result.now.items) (sym c.deref.ensures.value)
    p.inside)

pub returns-in_ok-finish-in-Some-clause-told : goal.returns-in_ok-finish-in-Some-clause-told
returns-in_ok-finish-in-Some-clause-told c g at =
    let code = code_of c.args.scope.now in
    let after = code_of c.walk_group.new.scope in
    let old = here c.args.state.now in
    let new = here c.walk_group.new.state in
    let w : InferredWalked code after g c.args.number c.in-Some.opened old new =
    subst (λ o. GroupWalked code after g c.args.number o old new) c.in-Some.is (c.in-Ok.ensures.walked g at) in
    c.in_ok-finish-in-Some.ensures code g c.args.number old w.left w.inferred w.done

pub returns-in_ok-tell_annotated-in-None-clause-told : goal.returns-in_ok-tell_annotated-in-None-clause-told
returns-in_ok-tell_annotated-in-None-clause-told c g at =
    let gs = map (λ (g : Bor Group). group_view g.now) c.args.groups.now in
    let ds = ordered gs in
    let code = code_of c.args.scope.now in
    let after = code_of c.walk_group.new.scope in
    let old = here c.args.state.now in
    let new = here c.walk_group.new.state in
    let before = told_views c.args.told.now.items in
    let told = told_views c.tell_annotated.new.told.items in
    let places = c.index.result.now.items in
    let p = places_at gs c.args.order.now c.args.number c.index.result.now c.requires.order c.requires.number
    c.index.ensures in
    let w : AnnotatedWalked code after g c.args.number old new =
    subst (λ o. GroupWalked code after g c.args.number o old new) c.in-None.is (c.in-Ok.ensures.walked g at) in
    let both : Some g ≡ Some (filter_map (slice_get ds) places) = sym at ∙ p.at in
    let same : g ≡ filter_map (slice_get ds) places = cc in
    let picked : filter_map (slice_get ds) c.deref-in-None.result.now ≡ g =
    ap (λ l. filter_map (slice_get ds) l) c.deref-in-None.ensures.value ∙ sym same in
    let are : AreDefinitions gs c.deref.result.now ds =
    subst (λ (xs : List Ordered). AreDefinitions gs xs ds) (sym c.deref.ensures.value) c.requires.order.definitions in
    annotated_told code after g c.args.number old new before told w
    (λ a e. c.in_ok-tell_annotated-in-None.ensures gs ds a c.requires.titled are (ap first_annotation picked ∙ e)
    ∙ ap (λ (l : List Definition). before ++ written_types a l) picked)
