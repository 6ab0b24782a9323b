-- `none_other` says that nothing else is declared.
use Rattle.std.proofs.Common.{◌≡◌, ◌++◌, map, subst}
use Rattle.std.specs.Prelude.{IfOk}
use Rattle.std.proofs.lemmas.Result.{IfOk-weaker}
use Rattle.elm_tree.specs.View.{declaration_view}
use Rattle.elm_tree.specs.Turns.{tokens_view}
use Rattle.canon_env.specs.Env.{Rows, IsEnvOf}
use Rattle.canon_env.specs.Shown.{shown_view}
use Rattle.canon_env.specs.Naming.{IsWorld}
use Rattle.canon_type.specs.declared.expanding.Expansion.{Expansion}
use Rattle.canon_type.specs.declared.declaring.Declared.{Declared}
use Rattle.canon_type.specs.CanonAliasesKept.{AreExpanded}
use Rattle.canon_type.specs.DeclaredTypes.{AreDeclared, AreAll, module_world, declared_faults}
use Rattle.canon_type.specs.DeclaredTypesKept.{setting_of}
use Rattle.canon_type.proofs.Only.{none_other}
use Rattle.canon_type.proofs.Outcome.{out_of}
use Rattle.canon_type.proofs.declaring.declared_types.Goals as goal

pub returns-in-Ok-clause-values : goal.returns-in-Ok-clause-values
returns-in-Ok-clause-values c =
    out_of (λ b. b.value) (λ (d : Declared). (shown_view d.shown).values ≡ c.args.values.items) c.unboxed.result
    c.declared_by.result c.unboxed.ensures c.declared_by.ensures.values

pub returns-in-Ok-clause-types : goal.returns-in-Ok-clause-types
returns-in-Ok-clause-types c =
    let ds = map (declaration_view (tokens_view c.args.tokens.now)) c.args.declarations.now in
    let home = c.args.home.now in
    let h : (rows : Rows) → IsEnvOf c.args.imported rows →
    AreExpanded (setting_of home rows ds) c.in-Ok.expansion.value.world c.in-Ok.expansion.value.made.items =
    subst (λ r. IfOk r (λ (e : Expansion). (rows : Rows) → IsEnvOf c.args.imported rows →
    AreExpanded (setting_of home rows ds) e.world e.made.items)) c.in-Ok.ensures c.expanded.ensures in
    out_of (λ b. b.value)
    (λ (d : Declared). (rows : Rows) → IsEnvOf c.args.imported rows → AreDeclared home rows ds (shown_view d.shown))
    c.unboxed.result c.declared_by.result c.unboxed.ensures
    (IfOk-weaker c.declared_by.result _ _ (λ d f rows is. f rows (h rows is)) c.declared_by.ensures.types)

pub returns-in-Ok-clause-all : goal.returns-in-Ok-clause-all
returns-in-Ok-clause-all c =
    let ds = map (declaration_view (tokens_view c.args.tokens.now)) c.args.declarations.now in
    let home = c.args.home.now in
    let h : (rows : Rows) → IsEnvOf c.args.imported rows →
    AreExpanded (setting_of home rows ds) c.in-Ok.expansion.value.world c.in-Ok.expansion.value.made.items =
    subst (λ r. IfOk r (λ (e : Expansion). (rows : Rows) → IsEnvOf c.args.imported rows →
    AreExpanded (setting_of home rows ds) e.world e.made.items)) c.in-Ok.ensures c.expanded.ensures in
    out_of (λ b. b.value)
    (λ (d : Declared). (rows : Rows) → IsEnvOf c.args.imported rows → AreAll home rows ds (shown_view d.shown))
    c.unboxed.result c.declared_by.result c.unboxed.ensures
    (IfOk-weaker c.declared_by.result _ _
    (λ d f rows is other g. none_other home rows ds (h rows is).groups (h rows is).order _ other (f rows (h rows is)) g)
    c.declared_by.ensures.types)

pub returns-in-Ok-clause-world : goal.returns-in-Ok-clause-world
returns-in-Ok-clause-world c =
    let ds = map (declaration_view (tokens_view c.args.tokens.now)) c.args.declarations.now in
    let home = c.args.home.now in
    let h : (rows : Rows) → IsEnvOf c.args.imported rows →
    AreExpanded (setting_of home rows ds) c.in-Ok.expansion.value.world c.in-Ok.expansion.value.made.items =
    subst (λ r. IfOk r (λ (e : Expansion). (rows : Rows) → IsEnvOf c.args.imported rows →
    AreExpanded (setting_of home rows ds) e.world e.made.items)) c.in-Ok.ensures c.expanded.ensures in
    out_of (λ b. b.value)
    (λ (d : Declared). (rows : Rows) → IsEnvOf c.args.imported rows →
    IsWorld d.world (module_world home rows (shown_view d.shown)))
    c.unboxed.result c.declared_by.result c.unboxed.ensures
    (IfOk-weaker c.declared_by.result _ _ (λ d f rows is. f rows (h rows is)) c.declared_by.ensures.world)

pub returns-in-Ok-clause-faults : goal.returns-in-Ok-clause-faults
returns-in-Ok-clause-faults c =
    let ds = map (declaration_view (tokens_view c.args.tokens.now)) c.args.declarations.now in
    let home = c.args.home.now in
    let h : (rows : Rows) → IsEnvOf c.args.imported rows →
    AreExpanded (setting_of home rows ds) c.in-Ok.expansion.value.world c.in-Ok.expansion.value.made.items =
    subst (λ r. IfOk r (λ (e : Expansion). (rows : Rows) → IsEnvOf c.args.imported rows →
    AreExpanded (setting_of home rows ds) e.world e.made.items)) c.in-Ok.ensures c.expanded.ensures in
    out_of (λ b. b.value)
    (λ (d : Declared). (rows : Rows) → IsEnvOf c.args.imported rows → c.declared_by.new.findings.items
    ≡ c.args.findings.now.items ++ declared_faults (module_world home rows (shown_view d.shown)) ds)
    c.unboxed.result c.declared_by.result c.unboxed.ensures
    (IfOk-weaker c.declared_by.result _ _ (λ d f rows is. f rows (h rows is)) c.declared_by.ensures.faults)
