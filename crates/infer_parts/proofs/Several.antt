-- Arguments one after the other, behind any function.
use Rattle.std.proofs.Common.{◌≡◌, ℕ, suc, ◌<◌, List, [], ◌∷◌, ◌++◌, length, get_or, sym, ap, subst, arith}
use Rattle.std.proofs.lemmas.List.{append_assoc, length-append}
use Rattle.elm_base.specs.declared.position.Pos.{Pos}
use Rattle.elm_canon.specs.Tree.{Expr, Apply, exprs_of}
use Rattle.type_items.specs.Items.{Wanted}
use Rattle.type_constructs.specs.Failing.{Bad}
use Rattle.type_walks.specs.Regions.{below}
use Rattle.infer_steps.specs.Codes.{Code, State}
use Rattle.infer_parts.specs.Steps.{one, Went, Stuck}
use Rattle.infer_parts.specs.Parts.{listed, operand_of, operand_place, ArgumentsWent, ArgumentsStuck}
use Rattle.infer_parts.proofs.Calling.{call_next, call_next_stuck}

pub arguments_none : (code : Code) (here : Pos) (vs : List ℕ) (s : State) → ArgumentsWent code here [] vs s s
arguments_none code here vs s = λ f w n before can count o. o

pub arguments_next : (code : Code) (here : Pos) (es : List Expr) (x : Expr) (vs : List ℕ) (u : ℕ) (old now new : State)
    → suc (length es) < length vs → u ≡ get_or vs (suc (length es)) 0 → ArgumentsWent code here es vs old now
    → Went Wanted code (one u) (operand_place 1 (length es)) (operand_of x here 1 (length es)) now new
    → ArgumentsWent code here (es ++ x ∷ []) vs old new
arguments_next code here es x vs u old now new far is before_ went = λ f w n before can count o.
    call_next code w f n here es x vs u before now new can.ready (omega (arith, far, count)) far is
    (before_ f w n before can count o) went

pub arguments_stuck : (code : Code) (here : Pos) (es : List Expr) (x : Expr) (rest : List Expr) (vs : List ℕ) (u : ℕ)
    (old now new : State) (bad : Bad) → suc (length es) < length vs → u ≡ get_or vs (suc (length es)) 0
    → ArgumentsWent code here es vs old now
    → Stuck Wanted code (one u) (operand_place 1 (length es)) (operand_of x here 1 (length es)) now new bad
    → ArgumentsStuck code here (es ++ x ∷ rest) vs old new bad
arguments_stuck code here es x rest vs u old now new bad far is before_ stuck = λ f w n before can count o more total. (
    let split = append_assoc es (x ∷ rest) more in
    let whole : length (es ++ x ∷ (rest ++ more)) ≡ n =
    (let l = ap length split in let k = length-append (es ++ x ∷ rest) more in omega (arith, l, k, total)) in
    subst (λ l. Stuck Wanted code (one w) below (listed (Apply f (exprs_of l)) here) before new bad) (sym split)
    (call_next_stuck code w f n here es x (rest ++ more) vs u before now new bad can.ready whole far is
    (before_ f w n before can count o) stuck))
