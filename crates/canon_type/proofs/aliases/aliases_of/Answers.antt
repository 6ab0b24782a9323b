-- By whether the declaration is an alias: `some_next`, `none_next`.
use Rattle.std.proofs.Common.{map, take, arith, refl, sym, ap, ◌∙◌}
use Rattle.std.specs.Prelude.{option_map}
use Rattle.elm_tree.specs.View.{declaration_view}
use Rattle.canon_env.proofs.Filtering.{pushed}
use Rattle.canon_type.specs.Written.{alias_in, aliases_in}
use Rattle.canon_type.specs.Kept.{alias_view, aliases_view}
use Rattle.canon_type.proofs.Naming.{some_next, none_next}
use Rattle.canon_type.proofs.aliases.aliases_of.Goals as goal
use Rattle.std.proofs.lemmas.List.{take_all}
use Rattle.canon_type.proofs.aliases.aliases_of.Goals.{in-Some+in_ok-push-in-Some, in-None}

pub loop-declaration-preserved : goal.loop-declaration-preserved
loop-declaration-preserved c = λ tokens.
    let i = c.loop-declaration.declaration-index in
    let ds = c.args.declarations.now in
    let d = c.declaration-item.result in
    elim c.match-alias_of.branch [
      | in-Some+in_ok-push-in-Some w ↦
          ap (λ v. aliases_view tokens v.items) w.aliases-is
          ∙ pushed (alias_view tokens) c.loop-declaration.aliases.items w.push.new.self.items w.in-Some.alias
          (aliases_in (map (declaration_view tokens) (take i ds))) (alias_view tokens w.in-Some.alias)
          w.in_ok-push-in-Some.ensures.items (c.loop-declaration.invariant tokens) refl
          ∙ some_next alias_in (declaration_view tokens) ds i d (omega arith) c.declaration-item.is
          (alias_view tokens w.in-Some.alias)
          (ap (option_map (alias_view tokens)) (sym w.in-Some.is) ∙ c.alias_of.ensures tokens)
      | in-None w ↦
          ap (λ v. aliases_view tokens v.items) w.aliases-is ∙ c.loop-declaration.invariant tokens
          ∙ none_next alias_in (declaration_view tokens) ds i d (omega arith) c.declaration-item.is
          (ap (option_map (alias_view tokens)) (sym w.in-None.is) ∙ c.alias_of.ensures tokens)
    ]

pub returns : goal.returns
returns c = λ tokens.
    c.loop-declaration.invariant tokens
    ∙ ap (λ l. aliases_in (map (declaration_view tokens) l))
    (take_all c.loop-declaration.declaration-index c.args.declarations.now (omega arith))
