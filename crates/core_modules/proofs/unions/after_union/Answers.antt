-- The head, the constructors, the parameters and the fields.
use Rattle.std.proofs.Common.{◌≡◌, ◌∷◌, ◌++◌, map, length, sym, ap, ◌∙◌, arith, Some}
use Rattle.std.specs.Prelude.{flat_map}
use Rattle.elm_canon.specs.Unions.{union_view}
use Rattle.elm_canon.specs.View.{types_view}
use Rattle.core_modules.specs.Signs.{IsUnion, IsVariable, head_spelled, constructor_spelled, maker_sign, left_in}
use Rattle.core_modules.specs.Signs.{rest_view, signs_view}
use Rattle.core_modules.proofs.Left.{in_turn, unnamed}
use Rattle.core_modules.proofs.unions.after_union.Goals as goal

pub returns-in-Tuple : goal.returns-in-Tuple
returns-in-Tuple c =
    let u = c.args.union.now in
    let vs = map IsVariable u.parameters.items in
    let fs = flat_map constructor_spelled (map (λ f. types_view f.types.items) u.fields.items) in
    unnamed (vs ++ fs) c.args.signs.now
    ∙ ap (λ v. left_in (head_spelled u.name (length u.parameters.items) v ++ vs ++ fs)
    (Some (signs_view c.args.signs.now))) (sym (ap union_view c.in-Tuple.is) ∙ c.shape.ensures)

pub returns-in-List : goal.returns-in-List
returns-in-List c =
    let u = c.args.union.now in
    let vs = map IsVariable u.parameters.items in
    let fs = flat_map constructor_spelled (map (λ f. types_view f.types.items) u.fields.items) in
    unnamed (vs ++ fs) c.args.signs.now
    ∙ ap (λ v. left_in (head_spelled u.name (length u.parameters.items) v ++ vs ++ fs)
    (Some (signs_view c.args.signs.now))) (sym (ap union_view c.in-List.is) ∙ c.shape.ensures)

pub returns-in-Declared : goal.returns-in-Declared
returns-in-Declared c =
    let u = c.args.union.now in
    let m = c.in-Declared.home in
    let x = c.in-Declared.own in
    let cs = c.in-Declared.constructors.items in
    let o = Some (signs_view c.args.signs.now) in
    let fs = flat_map constructor_spelled (map (λ f. types_view f.types.items) u.fields.items) in
    let vs = map IsVariable u.parameters.items in
    let made : c.len.result ≡ length cs =
    omega (arith, c.len.ensures, c.deref.ensures.len, ap length c.deref.ensures.value) in
    let counted : c.len-in-Declared.result ≡ length u.parameters.items =
    omega (
      arith,
      c.len-in-Declared.ensures,
      c.deref-in-Declared.ensures.len,
      ap length
          c.deref-in-Declared.ensures.value,
    ) in
    in_turn (IsUnion u.name m x c.len.result c.len-in-Declared.result) (map maker_sign cs) vs fs o
    (rest_view c.after_head-rest.result) (rest_view c.after_makers-rest.result)
    (rest_view c.after_variables-rest.result) (rest_view c.after_all_fields.result) c.after_head-rest.ensures
    (c.after_makers-rest.ensures
    ∙ ap (λ zs. left_in (map maker_sign zs) (rest_view c.after_head-rest.result)) c.deref.ensures.value)
    (c.after_variables-rest.ensures
    ∙ ap (λ zs. left_in (map IsVariable zs) (rest_view c.after_makers-rest.result)) c.deref-in-Declared.ensures.value)
    (c.after_all_fields.ensures
    ∙ ap (λ zs. left_in (flat_map constructor_spelled (map (λ f. types_view f.types.items) zs))
    (rest_view c.after_variables-rest.result)) c.deref-in-Declared-2.ensures.value)
    ∙ ap (λ n. left_in ((IsUnion u.name m x n c.len-in-Declared.result ∷ map maker_sign cs) ++ vs ++ fs) o) made
    ∙ ap (λ n. left_in ((IsUnion u.name m x (length cs) n ∷ map maker_sign cs) ++ vs ++ fs) o) counted
    ∙ ap (λ v. left_in (head_spelled u.name (length u.parameters.items) v ++ vs ++ fs) o)
    (sym (ap union_view c.in-Declared.is) ∙ c.shape.ensures)
