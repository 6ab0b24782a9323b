-- By whether the declaration is a union: `some_next`, `none_next`.
use Rattle.std.proofs.Common.{◌≡◌, ◌+◌, [], ◌∷◌, ◌++◌, map, take, arith, sym, ap, ◌∙◌, append_assoc}
use Rattle.std.specs.Prelude.{option_map, flat_map}
use Rattle.std.proofs.Common.{append-nil}
use Rattle.std.specs.declared.alloc.Global.{Global}
use Rattle.std.specs.declared.sync.Arc.{Arc}
use Rattle.std.proofs.lemmas.List.{map-append}
use Rattle.std.proofs.lemmas.Grind.{flat_map-append}
use Rattle.elm_tree.specs.View.{declaration_view}
use Rattle.elm_tree.specs.Turns.{tokens_view}
use Rattle.elm_canon.specs.View.{union_declaration_view}
use Rattle.elm_canon.specs.declared.tree.UnionDeclaration.{UnionDeclaration}
use Rattle.canon_env.specs.Shown.{unions_view}
use Rattle.canon_env.proofs.Filtering.{pushed}
use Rattle.canon_type.proofs.Naming.{some_next, none_next}
use Rattle.canon_type.specs.Unions.{union_in, unions_in, union_of, union_faults}
use Rattle.canon_type.specs.CanonDeclaredKept.{union_view}
use Rattle.canon_type.proofs.unions.declared_unions.Goals as goal
use Rattle.std.proofs.lemmas.List.{take_all}
use Rattle.canon_type.proofs.unions.declared_unions.Goals.{in-Some+in_ok-union-in-Some+in_ok-new-in-Some+in_ok-push-in-Some, in-None}

pub loop-declaration-preserved : goal.loop-declaration-preserved
loop-declaration-preserved c =
    let tokens = tokens_view c.args.tokens.now in
    let view = declaration_view tokens in
    let home = c.args.home.now in
    let i = c.loop-declaration.declaration-index in
    let ds = c.args.declarations.now in
    let d = c.declaration-item.result in
    let old = c.args.findings.now.items in
    let before = unions_in (map view (take i ds)) in
    elim c.match-union_in.branch [
      | in-Some+in_ok-union-in-Some+in_ok-new-in-Some+in_ok-push-in-Some b ↦
          let u = union_view tokens b.in-Some.written in
          let next : before ++ u ∷ [] ≡ unions_in (map view (take (i + 1) ds)) =
          some_next union_in view ds i d (omega arith) c.declaration-item.is u
          (ap (option_map (union_view tokens)) (sym b.in-Some.is) ∙ c.union_in.ensures tokens) in
          record {
            unions = λ w h.
                ap (λ v. unions_view v.items) b.unions-is
                ∙ pushed (λ (a : Arc UnionDeclaration Global). union_declaration_view a.value)
                c.loop-declaration.unions.items b.push.new.self.items b.in_ok-new-in-Some.field-0
                (map (union_of home w) before) (union_of home w u) b.in_ok-push-in-Some.ensures.items
                (c.loop-declaration.invariant.unions w h)
                (ap union_declaration_view b.in_ok-new-in-Some.ensures.ok ∙ b.in_ok-union-in-Some.ensures.union w h)
                ∙ sym (map-append (union_of home w) before (u ∷ [])) ∙ ap (map (union_of home w)) next;
            faults = λ w h.
                ap (λ v. v.items) b.findings-is ∙ b.in_ok-union-in-Some.ensures.faults w h
                ∙ ap (λ z. z ++ union_faults w u) (c.loop-declaration.invariant.faults w h)
                ∙ append_assoc old (flat_map (union_faults w) before) (union_faults w u)
                ∙ ap (λ z. old ++ (flat_map (union_faults w) before ++ z)) (sym (append-nil (union_faults w u)))
                ∙ ap (λ z. old ++ z) (sym (flat_map-append (union_faults w) before (u ∷ [])))
                ∙ ap (λ z. old ++ flat_map (union_faults w) z) next;
          }
      | in-None b ↦
          let next : before ≡ unions_in (map view (take (i + 1) ds)) =
          none_next union_in view ds i d (omega arith) c.declaration-item.is
          (ap (option_map (union_view tokens)) (sym b.in-None.is) ∙ c.union_in.ensures tokens) in
          record {
            unions = λ w h.
                ap (λ v. unions_view v.items) b.unions-is ∙ c.loop-declaration.invariant.unions w h
                ∙ ap (map (union_of home w)) next;
            faults = λ w h.
                ap (λ v. v.items) b.findings-is ∙ c.loop-declaration.invariant.faults w h
                ∙ ap (λ z. old ++ flat_map (union_faults w) z) next;
          }
    ]

pub returns-clause-unions : goal.returns-clause-unions
returns-clause-unions c = λ w h.
    c.loop-declaration.invariant.unions w h
    ∙ ap (λ l. map (union_of c.args.home.now w) (unions_in (map (declaration_view (tokens_view c.args.tokens.now)) l)))
    (take_all c.loop-declaration.declaration-index c.args.declarations.now (omega arith))

pub returns-clause-faults : goal.returns-clause-faults
returns-clause-faults c = λ w h.
    c.loop-declaration.invariant.faults w h
    ∙ ap (λ l. c.args.findings.now.items
    ++ flat_map (union_faults w) (unions_in (map (declaration_view (tokens_view c.args.tokens.now)) l)))
    (take_all c.loop-declaration.declaration-index c.args.declarations.now (omega arith))
