-- With the names of its values the module is whole.
use Rattle.std.proofs.Common.{◌≡◌, ◌++◌, sym, ap, map, ◌∙◌, subst, append_assoc}
use Rattle.std.proofs.lemmas.Result.{IfOk-weaker}
use Rattle.elm_tree.specs.View.{declaration_view}
use Rattle.elm_tree.specs.Turns.{tokens_view}
use Rattle.canon_env.specs.Shown.{shown_view}
use Rattle.canon_env.specs.Naming.{IsWorld}
use Rattle.canon_env.specs.declared.shown.Shown as program
use Rattle.canon_type.specs.DeclaredTypes.{AreDeclared, module_world, declared_faults}
use Rattle.canon_type.specs.DeclaredTypesKept.{setting_of, written_faults, site_faults, with_values}
use Rattle.canon_type.specs.CanonAliasesKept.{AreExpanded}
use Rattle.canon_type.specs.declared.expanding.Expansion.{Expansion}
use Rattle.canon_type.proofs.Outcome.{both}
use Rattle.canon_type.proofs.declaring.declared_by.Goals as goal

pub returns-clause-types : goal.returns-clause-types
returns-clause-types c =
    let ds = map (declaration_view (tokens_view c.args.tokens.now)) c.args.declarations.now in
    IfOk-weaker c.finished.result _ _
    (λ d e rows h. subst (λ (s : program.Shown). AreDeclared c.args.home.now rows ds (shown_view s)) (sym e)
    (c.in_ok-shown.ensures.types rows
    (subst (λ (x : Expansion). AreExpanded (setting_of c.args.home.now rows ds) x.world x.made.items) (sym c.deref.ensures) h)
    c.args.values.items))
    c.finished.ensures.shown

pub returns-clause-world : goal.returns-clause-world
returns-clause-world c =
    both c.finished.result
    (λ d e w rows h. subst (λ (s : program.Shown). IsWorld d.value.world (module_world c.args.home.now rows (shown_view s)))
    (sym e) (w rows h.world_is.imported))
    c.finished.ensures.shown c.finished.ensures.world

pub returns-clause-faults : goal.returns-clause-faults
returns-clause-faults c =
    let ds = map (declaration_view (tokens_view c.args.tokens.now)) c.args.declarations.now in
    let home = c.args.home.now in
    let old = c.args.findings.now.items in
    IfOk-weaker c.finished.result _ _
    (λ d e rows h.
    let own = module_world home rows (with_values c.args.values.items (shown_view c.in_ok-shown.shown)) in
    subst (λ (s : program.Shown). c.shown_by.new.findings.items
    ≡ old ++ declared_faults (module_world home rows (shown_view s)) ds)
    (sym e)
    (c.in_ok-shown.ensures.faults rows
    (subst (λ (x : Expansion). AreExpanded (setting_of home rows ds) x.world x.made.items) (sym c.deref.ensures) h)
    c.args.values.items
    ∙ ap (λ z. z ++ site_faults own ds) c.in_ok-push_written_faults.ensures
    ∙ append_assoc old (written_faults ds) (site_faults own ds)))
    c.finished.ensures.shown
