-- A box keeps what is put into it.
use Rattle.std.proofs.Common.{◌≡◌, ◌++◌, map, subst}
use Rattle.std.specs.Prelude.{IfOk}
use Rattle.elm_tree.specs.View as tree_view
use Rattle.elm_tree.specs.Turns.{tokens_view}
use Rattle.canon_env.specs.Env.{Rows, IsEnvOf}
use Rattle.canon_env.specs.Shown.{shown_view}
use Rattle.canon_env.specs.Naming.{IsWorld}
use Rattle.canon_type.specs.DeclaredTypes.{module_world, AreDeclared, AreAll, declared_faults}
use Rattle.canon_type.specs.declared.declaring.Declared.{Declared}
use Rattle.canon_module.proofs.Outcome.{in_box}
use Rattle.canon_module.proofs.module.types_of.Goals as goal

pub returns-clause-values : goal.returns-clause-values
returns-clause-values c =
    in_box (λ b. b.value) (λ (d : Declared). (shown_view d.shown).values ≡ c.args.values.items)
    c.boxed.result c.declared_types.result c.boxed.ensures c.declared_types.ensures.values

pub returns-clause-types : goal.returns-clause-types
returns-clause-types c =
    let home = c.args.home.now in
    let of = map (tree_view.declaration_view (tokens_view c.args.tokens.now)) in
    in_box (λ b. b.value)
    (λ (d : Declared). (rows : Rows) → IsEnvOf c.args.imported rows → AreDeclared home rows (of c.args.declarations.now) (shown_view d.shown))
    c.boxed.result c.declared_types.result c.boxed.ensures
    (subst (λ ds. IfOk c.declared_types.result (λ (d : Declared). (rows : Rows) → IsEnvOf c.args.imported rows → AreDeclared home rows (of ds) (shown_view d.shown))) c.all.ensures
    c.declared_types.ensures.types)

pub returns-clause-all : goal.returns-clause-all
returns-clause-all c =
    let home = c.args.home.now in
    let of = map (tree_view.declaration_view (tokens_view c.args.tokens.now)) in
    in_box (λ b. b.value)
    (λ (d : Declared). (rows : Rows) → IsEnvOf c.args.imported rows → AreAll home rows (of c.args.declarations.now) (shown_view d.shown))
    c.boxed.result c.declared_types.result c.boxed.ensures
    (subst (λ ds. IfOk c.declared_types.result (λ (d : Declared). (rows : Rows) → IsEnvOf c.args.imported rows → AreAll home rows (of ds) (shown_view d.shown))) c.all.ensures
    c.declared_types.ensures.all)

pub returns-clause-world : goal.returns-clause-world
returns-clause-world c =
    in_box (λ b. b.value)
    (λ (d : Declared). (rows : Rows) → IsEnvOf c.args.imported rows
    → IsWorld d.world (module_world c.args.home.now rows (shown_view d.shown)))
    c.boxed.result c.declared_types.result c.boxed.ensures c.declared_types.ensures.world

pub returns-clause-faults : goal.returns-clause-faults
returns-clause-faults c =
    let home = c.args.home.now in
    let of = map (tree_view.declaration_view (tokens_view c.args.tokens.now)) in
    in_box (λ b. b.value)
    (λ (d : Declared). (rows : Rows) → IsEnvOf c.args.imported rows → c.declared_types.new.findings.items ≡ c.args.findings.now.items ++ declared_faults (module_world home rows (shown_view d.shown)) (of c.args.declarations.now))
    c.boxed.result c.declared_types.result c.boxed.ensures
    (subst (λ ds. IfOk c.declared_types.result (λ (d : Declared). (rows : Rows) → IsEnvOf c.args.imported rows → c.declared_types.new.findings.items ≡ c.args.findings.now.items ++ declared_faults (module_world home rows (shown_view d.shown)) (of ds))) c.all.ensures
    c.declared_types.ensures.faults)
