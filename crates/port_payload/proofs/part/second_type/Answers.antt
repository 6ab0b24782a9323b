-- The nodes from the second one on are those of the flags: `flags_end`, `flags_are`.
use Rattle.std.proofs.Common.{◌≡◌, ◌≤◌, ◌-◌, Some, length, map, take, drop, subst, sym, ap, ◌∙◌}
use Rattle.elm_type.specs.View.{kind_view}
use Rattle.elm_type.proofs.Reading.{spelled_by, spelled_type}
use Rattle.port_payload.specs.Fronts.{after}
use Rattle.port_payload.proofs.Lasting.{flags_end, flags_are}
use Rattle.port_payload.proofs.part.second_type.Goals as goal

pub end_of-end-requires : goal.end_of-end-requires
end_of-end-requires c =
    let e = flags_end c.args.scheme.now.ty.nodes.items c.requires.0 c.args.scheme.now.ty.spelled c.requires.1 in
    (e.0, ap (λ ns. after 1 (drop 1 ns)) c.deref.ensures.value ∙ e.2)

pub invariant_of-result : goal.invariant_of-result
invariant_of-result c =
    let ns = c.args.scheme.now.ty.nodes.items in
    let end = c.end_of-end.result in
    record {
      spelled = spelled_by c.in_ok-nodes.nodes.items c.requires.0
          (sym (c.in_ok-nodes.ensures ∙ ap (λ ms. take (end - 1) (drop 1 ms)) c.deref-2.ensures.value
          ∙ flags_are ns c.requires.0 end c.args.scheme.now.ty.spelled c.requires.1
          (subst (λ ms. after 1 (drop 1 ms) ≡ Some (drop end ms)) c.deref.ensures.value c.end_of-end.ensures.end)
          c.end_of-end.ensures.start (subst (λ ms. end ≤ length ms) c.deref.ensures.value
          c.end_of-end.ensures.within)));
    }

pub returns : goal.returns
returns c = λ t e.
    let ns = c.args.scheme.now.ty.nodes.items in
    let end = c.end_of-end.result in
    let kinds = c.args.scheme.now.kinds.items in
    let nodes = c.in_ok-nodes.ensures ∙ ap (λ ms. take (end - 1) (drop 1 ms)) c.deref-2.ensures.value
    ∙ flags_are ns t end c.args.scheme.now.ty.spelled e
    (subst (λ ms. after 1 (drop 1 ms) ≡ Some (drop end ms)) c.deref.ensures.value c.end_of-end.ensures.end)
    c.end_of-end.ensures.start (subst (λ ms. end ≤ length ms) c.deref.ensures.value c.end_of-end.ensures.within) in
    ap (λ u. record { type = u; kinds = map kind_view c.in_ok-kinds.kinds.items }) (spelled_type
    c.in_ok-nodes.nodes.items t (sym nodes))
    ∙ ap (λ ks. record { type = t; kinds = ks }) (c.in_ok-kinds.ensures ∙ ap (map kind_view) c.deref-3.ensures.value)
