-- By whether the declaration is a union: `some_next`, `none_next`.
use Rattle.std.proofs.Common.{[], ◌+◌, ◌++◌, ◌∷◌, map, take, arith, sym, ap, ◌∙◌, subst}
use Rattle.std.specs.Prelude.{option_map}
use Rattle.elm_tree.specs.View.{word_view, declaration_view}
use Rattle.elm_tree.specs.Turns.{tokens_view}
use Rattle.canon_env.specs.Imports.{name_of}
use Rattle.canon_type.specs.Written.{union_name_in, union_names_in}
use Rattle.canon_type.specs.Kept.{Keeps}
use Rattle.canon_type.proofs.Naming.{some_next, none_next}
use Rattle.canon_type.proofs.uses.OwnNames.add_unions.Goals as goal
use Rattle.canon_type.proofs.uses.OwnNames.add_unions.Goals.{in-Some+in_ok-word_name-in-Some+in_ok-add_union-in-Some, in-None}

pub loop-declaration-preserved : goal.loop-declaration-preserved
loop-declaration-preserved c =
    let tokens = tokens_view c.args.tokens.now in
    let i = c.loop-declaration.declaration-index in
    let ds = c.args.declarations.now in
    let before = union_names_in (map (declaration_view tokens) (take i ds)) in
    elim c.match-union_name.branch [
      | in-Some+in_ok-word_name-in-Some+in_ok-add_union-in-Some w ↦ λ h.
          let z = name_of (word_view tokens w.in-Some.name) in
          subst (λ n. Keeps n (union_names_in (map (declaration_view tokens) (take (i + 1) ds))) []) (sym w.self-is)
          (subst (λ names. Keeps w.add_union.new.self names [])
          (ap (λ x. before ++ x ∷ []) w.in_ok-word_name-in-Some.ensures
          ∙ some_next union_name_in (declaration_view tokens) ds i c.declaration-item.result (omega arith)
          c.declaration-item.is z
          (ap (option_map (λ x. name_of (word_view tokens x))) (sym w.in-Some.is) ∙ c.union_name.ensures tokens))
          (w.in_ok-add_union-in-Some.ensures before [] (c.loop-declaration.invariant h)))
      | in-None w ↦ λ h.
          subst (λ n. Keeps n (union_names_in (map (declaration_view tokens) (take (i + 1) ds))) []) (sym w.self-is)
          (subst (λ names. Keeps c.loop-declaration.self names [])
          (none_next union_name_in (declaration_view tokens) ds i c.declaration-item.result (omega arith)
          c.declaration-item.is
          (ap (option_map (λ x. name_of (word_view tokens x))) (sym w.in-None.is) ∙ c.union_name.ensures tokens))
          (c.loop-declaration.invariant h))
    ]
