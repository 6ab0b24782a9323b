-- The order is that of what the declarations use by what they mean: `top_is`.
use Rattle.std.proofs.Common.{◌≡◌, ℕ, List, ◌++◌, map, length, sym, ap, ◌∙◌}
use Rattle.std.specs.List.{flat_map}
use Rattle.std.proofs.lemmas.List.{length-map}
use Rattle.decl_groups.specs.Groups.{plain}
use Rattle.elm_tree.specs.View.{declaration_view}
use Rattle.elm_tree.specs.Turns.{tokens_view}
use Rattle.canon_env.specs.Sites.{faults_at}
use Rattle.canon_expr.proofs.Meaning.{on_ok}
use Rattle.canon_expr.proofs.Steps.{after_both}
use Rattle.canon_expr.specs.Blocks.{reaching_sites}
use Rattle.canon_module.specs.TopUses.{value_names_each}
use Rattle.canon_module.specs.Items.{used_among, top_used}
use Rattle.canon_module.specs.CanonValuesFaults.{declaration_faults, defined_top}
use Rattle.canon_module.specs.CanonValuesKept.{item_view}
use Rattle.canon_module.proofs.Meaning.{top_is}
use Rattle.canon_module.proofs.values.values.Goals as goal

pub returns-clause-faults : goal.returns-clause-faults
returns-clause-faults c =
    on_ok c.groups_of.result
    (λ w is named.
    let home = c.args.home.now in
    let ds = map (declaration_view (tokens_view c.args.tokens.now)) c.args.declarations.now in
    let each = value_names_each ds in
    let uses = plain c.deref-2.result.now in
    let told : uses ≡ top_used w ds =
    top_is w home ds (map item_view c.in_ok-items.items.items) uses named
    (ap plain c.deref-2.ensures.value ∙ c.in_ok-uses.ensures.used
    ∙ ap (λ l. used_among home each (map item_view l)) c.deref.ensures.value)
    (c.in_ok-items.ensures.meaning w is named) in
    let many : length uses ≡ length c.args.declarations.now =
    length-map c.deref-2.result.now (λ v. v.items) ∙ ap length c.deref-2.ensures.value ∙ c.in_ok-uses.ensures.count
    ∙ ap length c.deref.ensures.value ∙ c.in_ok-items.ensures.count in
    let stands = flat_map (declaration_faults w) ds in
    let reaches = λ (us : List (List ℕ)). flat_map (faults_at w) (reaching_sites us (map defined_top ds)) in
    after_both c.items.new.log.findings.items c.note_reaching.new.log.findings.items c.args.log.now.findings.items
    stands (reaches uses) (stands ++ reaches (top_used w ds))
    (c.in_ok-items.ensures.faults w is)
    (c.in_ok-note_reaching.ensures w uses c.in_ok-order.ensures many).findings
    (ap (λ us. stands ++ reaches us) (sym told)))
