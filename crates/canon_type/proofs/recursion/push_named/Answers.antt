-- Uses are places of aliases, and the marks say which aliases use themselves: `rows_within`, `same_faults`.
use Rattle.std.proofs.Common.{◌≡◌, ◌<◌, ℕ, ◌++◌, false, length, arith, ap, ◌∙◌}
use Rattle.std.specs.List.{slice_index_or}
use Rattle.std.proofs.lemmas.List.{length-map}
use Rattle.std.proofs.lemmas.Result.{on_ok_weaker}
use Rattle.elm_tree.specs.Turns.{tokens_view}
use Rattle.decl_groups.specs.Groups.{plain}
use Rattle.decl_groups.specs.InOrder.{uses_itself}
use Rattle.decl_groups.specs.View.{is_marked}
use Rattle.canon_type.specs.Recursion.{alias_uses}
use Rattle.canon_type.specs.Kept.{alias_view, aliases_view}
use Rattle.canon_type.proofs.Marks.{as_many, rows_within, same_faults}
use Rattle.canon_type.proofs.recursion.push_named.Goals as goal

pub ordered_groups-requires-clause-count : goal.ordered_groups-requires-clause-count
ordered_groups-requires-clause-count c =
    let tokens = tokens_view c.args.tokens.now in
    let names = c.requires.names in
    omega (
      arith,
      c.requires.count,
      as_many names.unions (aliases_view tokens c.args.aliases.now) c.deref.result.now
          (ap plain c.deref.ensures.value ∙ c.in_ok-uses.ensures names.unions names.keeps),
      length-map c.args.aliases.now (alias_view tokens),
    )

pub ordered_groups-requires-clause-places : goal.ordered_groups-requires-clause-places
ordered_groups-requires-clause-places c =
    let names = c.requires.names in
    rows_within names.unions (aliases_view (tokens_view c.args.tokens.now) c.args.aliases.now) c.deref.result.now
    (ap plain c.deref.ensures.value ∙ c.in_ok-uses.ensures names.unions names.keeps)

pub returns : goal.returns
returns c =
    let tokens = tokens_view c.args.tokens.now in
    let aliases = aliases_view tokens c.args.aliases.now in
    let marks = c.deref-3.result.now in
    on_ok_weaker c.push_marked.result
    (λ e unions keeps.
    let is = ap plain c.deref.ensures.value ∙ c.in_ok-uses.ensures unions keeps in
    let many = as_many unions aliases c.deref.result.now is in
    let each = length-map c.args.aliases.now (alias_view tokens) in
    let told : (i : ℕ) → i < length aliases →
    slice_index_or marks i false ≡ uses_itself (alias_uses unions aliases) i = λ i l.
    ap (λ ms. slice_index_or ms i false) c.deref-3.ensures.value
    ∙ c.in_ok-marks.ensures.marks i (omega (arith, l, each))
    ∙ ap (λ gs. is_marked gs i) c.deref-2.ensures.value
    ∙ c.in_ok-groups.ensures.itself i (omega (arith, l, many))
    ∙ ap (λ us. uses_itself us i) is in
    e ∙ ap (λ z. c.args.findings.now.items ++ z) (same_faults marks (alias_uses unions aliases) aliases told))
    c.push_marked.ensures
