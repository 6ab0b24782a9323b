use Rattle.std.proofs.Common.{◌≡◌, List, Some, map, subst, sym, ap, ◌∙◌, arith}
use Rattle.elm_base.specs.declared.fault.Fault.{Fault}
use Rattle.canon_env.specs.Order.{IsInOrder}
use Rattle.elm_tree.specs.Turns.{tokens_view}
use Rattle.elm_tree.specs.View.{head_view}
use Rattle.module_made.specs.Around.{head_faults}
use Rattle.module_made.specs.Made.{Made, Bad, fault_in}
use Rattle.module_compile.specs.Settings.{parsed_view}
use Rattle.module_compile.specs.ModulePhasesView.{around_view}
use Rattle.module_compile.proofs.Verdicts.{misplaced_by, none_listed}
use Rattle.module_compile.proofs.phases.named_parsed.Goals as goal

pub returns-then-len-ne0 : goal.returns-then-len-ne0
returns-then-len-ne0 c =
    let a = around_view c.args.imports.now in
    let p = c.args.parsed.now in
    let path = c.args.path.now in
    let found = c.in_ok-found.found.items in
    let ordered : IsInOrder (head_faults a (parsed_view p).head) found =
    subst (λ ts. IsInOrder (head_faults a (head_view (tokens_view ts) p.module.head)) found) c.deref.ensures.value
    c.in_ok-found.ensures in
    let same : c.in_ok-faults_of.field-0.items ≡ map (fault_in path) found =
    c.in_ok-faults_of.ensures ∙ ap (map (fault_in path)) c.deref-then-len-ne0.ensures.value in
    subst (λ (fs : List Fault). Made a path (Some c.args.text.now) (Bad fs)) (sym same)
    (misplaced_by a path c.args.text.now (parsed_view p) found (tokens_view p.tokens.items, c.requires) ordered
    (λ e. omega (arith, c.len.ensures, c.if-len-ne0.true)))

pub named_in_place-requires-clause-found : goal.named_in_place-requires-clause-found
named_in_place-requires-clause-found c =
    let a = around_view c.args.imports.now in
    let p = c.args.parsed.now in
    let found = c.in_ok-found.found.items in
    let ordered : IsInOrder (head_faults a (parsed_view p).head) found =
    subst (λ ts. IsInOrder (head_faults a (head_view (tokens_view ts) p.module.head)) found) c.deref.ensures.value
    c.in_ok-found.ensures in
    none_listed (head_faults a (parsed_view p).head) found ordered
    (omega (arith, c.len.ensures, c.if-len-ne0.false))
