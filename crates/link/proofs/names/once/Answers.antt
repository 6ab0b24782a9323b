-- One name more: `noted_more`, `top_more`.
use Rattle.std.proofs.Common.{◌≡◌, [], ◌∷◌, take, sym, ap, ◌∙◌, arith}
use Rattle.canon_env.proofs.Filtering.{take_next}
use Rattle.link.specs.Names.{top_names, noted}
use Rattle.link.proofs.Naming.{top_more, noted_more}
use Rattle.link.proofs.names.once.Goals as goal

pub loop-name-preserved : goal.loop-name-preserved
loop-name-preserved c =
    let i = c.loop-name.name-index in
    let x = c.name-item.result in
    let before = take i c.args.names.now in
    c.in_ok-note.ensures ∙ ap (λ ks. noted ks (top_names (x ∷ []))) c.loop-name.invariant
    ∙ sym (noted_more [] (top_names before) (top_names (x ∷ [])))
    ∙ ap (noted []) (sym (top_more before (x ∷ [])))
    ∙ ap (λ xs. noted [] (top_names xs)) (sym (take_next c.args.names.now i x (omega arith) c.name-item.is))
