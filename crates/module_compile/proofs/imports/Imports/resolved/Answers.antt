use Rattle.std.proofs.Common.{map, subst, sym}
use Rattle.elm_tree.specs.Turns.{tokens_view}
use Rattle.elm_tree.specs.View.{import_view}
use Rattle.module_offers.specs.Offers.{Interfaces}
use Rattle.module_compile.specs.Parts.{interfaces_view}
use Rattle.module_compile.specs.Settings.{parsed_view, AreSeen}
use Rattle.module_compile.proofs.Resolving.{view_interfaces}
use Rattle.module_compile.proofs.imports.Imports.resolved.Goals as goal

pub resolved_by-requires-clause-seen : goal.resolved_by-requires-clause-seen
resolved_by-requires-clause-seen c =
    let i = c.args.self.now in
    let p = c.args.parsed.now in
    let is = interfaces_view i.interfaces in
    let seen = c.in_ok-seen.seen.items in
    subst (λ (by : Interfaces). AreSeen by (tokens_view p.tokens.items) (parsed_view p).head.imports c.deref-4.result.now)
    (sym (view_interfaces i))
    (subst (λ all. AreSeen is (tokens_view p.tokens.items) (parsed_view p).head.imports all)
    (sym c.deref-4.ensures.value)
    (subst (λ ts. AreSeen is (tokens_view ts) (map (import_view (tokens_view ts)) p.module.head.imports.items) seen)
    c.deref.ensures.value
    (subst (λ ws. AreSeen is (tokens_view c.deref.result.now)
    (map (import_view (tokens_view c.deref.result.now)) ws) seen)
    c.deref-2.ensures.value c.in_ok-seen.ensures)))
