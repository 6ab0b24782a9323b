use Rattle.std.proofs.Common.{◌≡◌, ◌++◌, Some, map, take, length, sym, ap, ◌∙◌, append_assoc, arith}
use Rattle.std.specs.Prelude.{slice_get}
use Rattle.std.specs.List.{zip}
use Rattle.std.proofs.lemmas.Option.{slice_get-get_or}
use Rattle.elm_canon.specs.View.{union_declaration_view}
use Rattle.type_items.specs.Modules.{union_type}
use Rattle.infer.specs.Known.{as_scheme, maker_at}
use Rattle.infer.specs.Named.{named_views}
use Rattle.infer.proofs.Making.{makers_of, makers_more, makers_all, map_both}
use Rattle.infer.proofs.makers.push_union.Goals as goal

pub loop-number-preserved : goal.loop-number-preserved
loop-number-preserved c =
    let u = union_declaration_view c.args.union.now in
    let made = union_type c.args.home.now u in
    let k = c.loop-number.number in
    let x = c.index.result.now in
    let names = c.in_ok-names.names.items in
    let old = named_views c.args.found.now.items in
    let first = makers_of made (take k (zip names u.fields)) in
    let one = maker_at made x (slice_get u.fields k) in
    let at_k : slice_get names k ≡ Some x =
    slice_get-get_or names k x
    (omega (arith, c.loop-number-test.true, c.len-number-end.ensures, c.in_ok-names.names.ok.0))
    ∙ ap Some (sym c.index.ensures) in
    c.in_ok-push_at.ensures
    ∙ (ap (λ l. l ++ map as_scheme one) c.loop-number.invariant
    ∙ (append_assoc old (map as_scheme first) (map as_scheme one)
    ∙ ap (λ l. old ++ l) (sym (map_both as_scheme first one)
    ∙ ap (map as_scheme) (sym (makers_more made names u.fields k x at_k)))))

pub returns : goal.returns
returns c =
    let u = union_declaration_view c.args.union.now in
    let made = union_type c.args.home.now u in
    let names = c.in_ok-names.names.items in
    let old = named_views c.args.found.now.items in
    let all : c.loop-number.number ≡ length names =
    omega (
      arith,
      c.loop-number.auto.number-end,
      c.loop-number-test.false,
      c.len-number-end.ensures,
      c.in_ok-names.names.ok.0,
    ) in
    c.loop-number.invariant
    ∙ ap (λ l. old ++ map as_scheme l)
    (ap (λ n. makers_of made (take n (zip names u.fields))) all
    ∙ makers_all c.args.home.now u names c.in_ok-names.ensures)
