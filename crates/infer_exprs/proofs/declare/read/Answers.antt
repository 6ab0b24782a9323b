-- The annotation is asked of what is around, and then its type: `read_is`.
use Rattle.std.proofs.Common.{◌≡◌, ℕ, ap, map, sym, subst}
use Rattle.elm_canon.specs.Tree.{Annotation}
use Rattle.elm_canon.specs.View.{annotation_view}
use Rattle.elm_type.specs.View.{kind_view, type_view}
use Rattle.type_items.specs.Scopes.{Constants}
use Rattle.type_items.specs.Annotations.{scheme_inside}
use Rattle.type_store.specs.Store.{Store}
use Rattle.type_walks.specs.Links.{Links}
use Rattle.infer_steps.specs.Means.{IsDeclared}
use Rattle.infer_steps.specs.Ready.{IsReady, DeclaredReady}
use Rattle.infer_steps.specs.View.{here, code_of, declared_view}
use Rattle.infer_types.specs.Asking.{AsksAround, MeansConstants}
use Rattle.infer_types.specs.Fixing.{IsAnnotation}
use Rattle.infer_types.specs.Table.{LackAround}
use Rattle.infer_exprs.proofs.Looping.{read_is}
use Rattle.infer_exprs.proofs.declare.read.Goals as goal

pub returns-clause-read : goal.returns-clause-read
returns-clause-read c =
    let code = code_of c.args.scope.now in
    let t = annotation_view c.args.annotation.now in
    let xs = c.in_ok-written.written.names.items in
    let ks = map kind_view c.in_ok-written.written.scheme.kinds.items in
    let u = type_view c.in_ok-written.written.scheme.ty in
    let old = here c.args.state.now in
    let new = here c.ask_around.new.state in
    let is : IsAnnotation t xs ks u = record {
      names = c.in_ok-written.ensures.names;
      kinds = c.in_ok-written.ensures.kinds;
      type = c.in_ok-written.ensures.ty;
      once = c.requires.once;
    } in
    let first : c.deref.result.now ≡ xs = c.deref.ensures.value in
    let second : map kind_view c.deref-2.result.now ≡ ks = ap (map kind_view) c.deref-2.ensures.value in
    let third : c.deref-3.result.now ≡ xs = c.deref-3.ensures.value in
    let fourth : map kind_view c.deref-4.result.now ≡ ks = ap (map kind_view) c.deref-4.ensures.value in
    let asks : AsksAround code old new c.args.position xs ks =
    subst (λ ys. AsksAround code old new c.args.position ys ks) first
    (subst (λ ls. AsksAround code old new c.args.position c.deref.result.now ls) second c.in-Ok.ensures.asks) in
    let can : (d : ℕ) (s : Store) → IsReady code d s → LackAround code s xs ks
    → DeclaredReady d s (declared_view c.in_ok-ty.ty) =
    λ d s ready lack. c.in_ok-ty.ensures.ready d s ready
    (subst (λ ys. LackAround code s ys (map kind_view c.deref-4.result.now)) (sym third)
    (subst (λ ls. LackAround code s xs ls) (sym fourth) lack)) in
    let stands : (a : Annotation) (links : Links) (around : Constants) → IsAnnotation a xs ks u
    → MeansConstants code links around → IsDeclared links (declared_view c.in_ok-ty.ty) (scheme_inside around a) =
    λ a links around h means. c.in_ok-ty.ensures.declared a links around
    (subst (λ ys. IsAnnotation a ys (map kind_view c.deref-4.result.now) u) (sym third)
    (subst (λ ls. IsAnnotation a xs ls u) (sym fourth) h)) means in
    read_is code c.args.position t xs ks u is old new (declared_view c.in_ok-ty.ty)
    (c.following_law.ensures.ready code old new c.requires.ready asks.follows) asks can stands
