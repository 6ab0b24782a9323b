-- One alias more: `bad_next`.
use Rattle.std.proofs.Common.{arith, ap, ◌∙◌, ◌++◌, take}
use Rattle.std.specs.Prelude.{flat_map}
use Rattle.elm_tree.specs.Turns.{tokens_view}
use Rattle.std.proofs.Math.Seq.{take-length}
use Rattle.canon_type.proofs.Fillings.{bad_next}
use Rattle.canon_type.specs.Kept.{alias_view, aliases_view}
use Rattle.canon_type.specs.DeclaredTypesKept.{alias_faults}
use Rattle.canon_type.proofs.declaring.push_alias_faults.Goals as goal

pub loop-alias-preserved : goal.loop-alias-preserved
loop-alias-preserved c = λ w h.
    let view = alias_view (tokens_view c.args.tokens.now) in
    bad_next (alias_faults w) view c.deref-alias-items.result.now c.loop-alias.alias-index c.alias-item.result
    c.args.findings.now.items c.loop-alias.findings.items c.annotation.new.findings.items (omega arith) c.alias-item.is
    (c.loop-alias.invariant w h) (c.in_ok-annotation.ensures.faults w h)

pub returns : goal.returns
returns c = λ w h.
    c.loop-alias.invariant w h
    ∙ ap (λ as_now. c.args.findings.now.items ++ flat_map (alias_faults w) as_now)
    (ap (aliases_view (tokens_view c.args.tokens.now))
    (ap (λ n. take n c.deref-alias-items.result.now) (omega arith) ∙ take-length c.deref-alias-items.result.now
    ∙ c.deref-alias-items.ensures.value)
    ∙ c.in_ok-aliases.ensures (tokens_view c.args.tokens.now))
