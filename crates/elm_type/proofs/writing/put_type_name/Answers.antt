-- Frames: `core_name`, `other_name`.
use Rattle.std.proofs.Common.{codes, ◌++◌, sym, ◌∙◌, ap, append_assoc}
use Rattle.elm_type.proofs.Framing.{core_name, other_name}
use Rattle.elm_type.proofs.writing.put_type_name.Goals as goal

pub returns-then-is_core : goal.returns-then-is_core
returns-then-is_core c =
    c.in_ok-put_name.ensures ∙ ap (λ t. c.args.text.now.items ++ t) (core_name c.args.home.now c.args.name.now (sym c.is_core.ensures ∙ c.if-is_core.true))

pub returns : goal.returns
returns c =
    let p = c.args.text.now.items in
    let m = c.args.home.now in
    let x = c.args.name.now in
    c.in_ok-put_name-3.ensures
    ∙ (ap (λ t. t ++ x) (c.in_ok-put.ensures ∙ ap (λ t. t ++ codes ".") c.in_ok-put_name-2.ensures)
    ∙ (append_assoc (p ++ m) (codes ".") x
    ∙ (append_assoc p m (codes "." ++ x)
    ∙ (ap (λ t. p ++ t) (sym (append_assoc m (codes ".") x))
    ∙ ap (λ t. p ++ t) (other_name m x (sym c.is_core.ensures ∙ c.if-is_core.false))))))
