-- By whether the declaration is a union: `some_next`, `none_next`.
use Rattle.std.proofs.Common.{◌≡◌, ◌+◌, [], ◌∷◌, ◌++◌, map, take, arith, sym, ap, ◌∙◌}
use Rattle.std.specs.Prelude.{option_map}
use Rattle.std.specs.declared.alloc.Global.{Global}
use Rattle.std.specs.declared.sync.Arc.{Arc}
use Rattle.std.proofs.lemmas.List.{map-append}
use Rattle.elm_tree.specs.View.{declaration_view}
use Rattle.elm_tree.specs.Turns.{tokens_view}
use Rattle.elm_canon.specs.View.{union_declaration_view}
use Rattle.elm_canon.specs.declared.tree.UnionDeclaration.{UnionDeclaration}
use Rattle.canon_env.specs.Shown.{unions_view}
use Rattle.canon_env.proofs.Filtering.{pushed}
use Rattle.canon_type.proofs.Naming.{some_next, none_next}
use Rattle.canon_type.specs.Unions.{union_in, unions_in, bare_union}
use Rattle.canon_type.specs.CanonDeclaredKept.{union_view}
use Rattle.canon_type.proofs.unions.bare_unions.Goals as goal
use Rattle.std.proofs.lemmas.List.{take_all}
use Rattle.canon_type.proofs.unions.bare_unions.Goals.{in-Some+in_ok-union-in-Some+in_ok-new-in-Some+in_ok-push-in-Some, in-None}

pub loop-declaration-preserved : goal.loop-declaration-preserved
loop-declaration-preserved c =
    let tokens = tokens_view c.args.tokens.now in
    let view = declaration_view tokens in
    let home = c.args.home.now in
    let i = c.loop-declaration.declaration-index in
    let ds = c.args.declarations.now in
    let d = c.declaration-item.result in
    let before = unions_in (map view (take i ds)) in
    elim c.match-union_in.branch [
      | in-Some+in_ok-union-in-Some+in_ok-new-in-Some+in_ok-push-in-Some b ↦
          let u = union_view tokens b.in-Some.written in
          let next : before ++ u ∷ [] ≡ unions_in (map view (take (i + 1) ds)) =
          some_next union_in view ds i d (omega arith) c.declaration-item.is u
          (ap (option_map (union_view tokens)) (sym b.in-Some.is) ∙ c.union_in.ensures tokens) in
          ap (λ v. unions_view v.items) b.unions-is
          ∙ pushed (λ (a : Arc UnionDeclaration Global). union_declaration_view a.value)
          c.loop-declaration.unions.items b.push.new.self.items b.in_ok-new-in-Some.field-0
          (map (bare_union home) before) (bare_union home u) b.in_ok-push-in-Some.ensures.items
          c.loop-declaration.invariant
          (ap union_declaration_view b.in_ok-new-in-Some.ensures.ok ∙ b.in_ok-union-in-Some.ensures)
          ∙ sym (map-append (bare_union home) before (u ∷ [])) ∙ ap (map (bare_union home)) next
      | in-None b ↦
          let next : before ≡ unions_in (map view (take (i + 1) ds)) =
          none_next union_in view ds i d (omega arith) c.declaration-item.is
          (ap (option_map (union_view tokens)) (sym b.in-None.is) ∙ c.union_in.ensures tokens) in
          ap (λ v. unions_view v.items) b.unions-is ∙ c.loop-declaration.invariant ∙ ap (map (bare_union home)) next
    ]

pub returns : goal.returns
returns c =
    c.loop-declaration.invariant
    ∙ ap (λ l. map (bare_union c.args.home.now) (unions_in (map (declaration_view (tokens_view c.args.tokens.now)) l)))
    (take_all c.loop-declaration.declaration-index c.args.declarations.now (omega arith))
