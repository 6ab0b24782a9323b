-- The signs of an expression with which things are done: those before it, its own, and those after it.
use Rattle.std.proofs.Common.{◌≡◌, List, [], ◌∷◌, ◌++◌, flat_map, sym, ap, ◌∙◌, append_assoc}
use Rattle.std.proofs.Common.{append-nil, ℕ, ◌+◌, ◌<◌, length, drop, get_or}
use Rattle.std.proofs.lemmas.List.{at_drop_more}
use Rattle.elm_canon.specs.Tree.{Expr, exprs_of}
use Rattle.elm_canon.specs.View.{LinkView, done, linked}
use Rattle.elm_canon.specs.View as link
use Rattle.core_modules.specs.declared.port_faults_sign.Sign.TheVariants as sign
use Rattle.core_modules.specs.declared.port_faults_sign.Form.TheVariants as form
use Rattle.core_modules.specs.PortFaultsSigns.{signs, exprs_signs, op_sign, op_ends, other, end}
use Rattle.core_modules.specs.Links.{before, before_all, after}
use Rattle.core_modules.proofs.Adding.{exprs_next}

pub done_signs : (l : LinkView) (e : Expr) → signs (done l e) ≡ before l ++ signs e ++ after l
done_signs (link.Given f es) e =
    ap (λ us. (sign.Form form.Apply ∷ signs f) ++ us ++ end ∷ []) (sym (exprs_next es e))
    ∙ ap (λ us. us ++ end ∷ [])
    (sym (append_assoc (sign.Form form.Apply ∷ signs f) (exprs_signs (exprs_of es)) (signs e)))
done_signs (link.Composed f a) e =
    ap (λ us. (sign.Form form.Apply ∷ signs f) ++ (signs e ++ us) ++ end ∷ []) (append-nil (signs a))
    ∙ ap (λ us. us ++ end ∷ []) (sym (append_assoc (sign.Form form.Apply ∷ signs f) (signs e) (signs a)))
    ∙ append_assoc ((sign.Form form.Apply ∷ signs f) ++ signs e) (signs a) (end ∷ [])
done_signs (link.After o es) e = ap (λ us. (op_sign o ∷ us) ++ op_ends o) (sym (exprs_next es e))
done_signs (link.Before o a) e =
    ap (λ us. (op_sign o ∷ (signs e ++ us)) ++ op_ends o) (append-nil (signs a))
    ∙ append_assoc (op_sign o ∷ signs e) (signs a) (op_ends o)
done_signs (link.Decided place c a) e = sym (append-nil ((other ∷ signs a) ++ signs e))

pub linked_signs : (e : Expr) (ls : List LinkView) →
    signs (linked e ls) ≡ before_all ls ++ signs e ++ flat_map after ls
linked_signs e [] = sym (append-nil (signs e))
linked_signs e (l ∷ ls) =
    let own = signs e in
    let first = before_all ls in
    let last = flat_map after ls in
    linked_signs (done l e) ls
    ∙ ap (λ us. first ++ us ++ last) (done_signs l e)
    ∙ ap (λ us. us ++ last) (sym (append_assoc first (before l ++ own) (after l)))
    ∙ ap (λ us. us ++ after l ++ last) (sym (append_assoc first (before l) own))
    ∙ append_assoc (first ++ before l ++ own) (after l) last

-- an item, and what follows it
pub drop_at : {X : Type 0} (xs : List X) (i : ℕ) (x : X) → i < length xs → x ≡ get_or xs i x →
    drop i xs ≡ x ∷ drop (i + 1) xs
drop_at xs i x h is =
    at_drop_more (λ zs. zs) xs i x h ∙ ap (λ z. z ∷ drop (i + 1) xs) (sym is)
