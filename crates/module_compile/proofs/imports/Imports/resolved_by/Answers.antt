use Rattle.std.proofs.Common.{◌∙◌, ◌++◌, IfOk, map, ap, subst, sym}
use Rattle.elm_tree.specs.Turns.{tokens_view}
use Rattle.canon_env.specs.Env.{known_view}
use Rattle.canon_env.specs.Exposing.{written_view}
use Rattle.canon_env.specs.Shown.{unions_view}
use Rattle.module_compile.specs.Settings.{parsed_view, seen_known, known_before, IsResolved}
use Rattle.module_compile.specs.ModulePhasesView.{around_view}
use Rattle.module_compile.proofs.Resolving.{view_home, setting_is}
use Rattle.module_compile.proofs.imports.Imports.resolved_by.Goals as goal

pub returns : goal.returns
returns c =
    let a = around_view c.args.self.now in
    let p = c.args.parsed.now in
    let ts = tokens_view p.tokens.items in
    subst (λ s. IfOk c.resolved_in.result (λ r. IsResolved s (parsed_view p) r.value))
    (setting_is a (parsed_view p) _ (view_home c.args.self.now)
    (ap unions_view c.deref.ensures.value ∙ c.in_ok-given.ensures)
    (ap (map known_view) c.deref-2.ensures.value ∙ c.in_ok-known.ensures
    ∙ ap (λ l. l ++ map seen_known c.args.seen.now) c.requires.before
    ∙ ap (λ l. known_before a ++ l) c.requires.seen.known)
    (ap (map (written_view ts)) c.deref-3.ensures.value ∙ c.in_ok-written.ensures ts ∙ c.requires.seen.written))
    c.resolved_in.ensures
