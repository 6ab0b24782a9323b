-- The nodes of a type of pairs: `some`, `within`, `left_spelled`, `right_spelled`, `halves_are`.
use Rattle.std.proofs.Common.{◌≡◌, ◌∷◌, [], ◌∙◌, ap, sym, length, drop, rules, arith}
use Rattle.elm_type.specs.Types.{tuple}
use Rattle.elm_type.specs.Spelling.{type_of}
use Rattle.elm_type.proofs.Halving.{some, within, left_spelled, right_spelled, halves_are}
use Rattle.elm_type.proofs.pairs.parts_of_pair.Goals as goal

pub unreachable-requires : goal.unreachable-requires
unreachable-requires c =
    let l = some c.args.ty.now.nodes.items c.args.ty.now.spelled c.requires.left c.requires.right c.requires.is in
    let e : length c.deref.result.now ≡ 0 = c.in_default.ensures.cases in
    omega (arith, l, e, ap length c.deref.ensures.value)

pub split_at-requires : goal.split_at-requires
split_at-requires c =
    let cells : c.deref.result.now ≡ c.in-Some.field-0-0.now ∷ c.in-Some.parts.now = search rules in
    let same : c.in-Some.parts.now ≡ drop 1 c.args.ty.now.nodes.items = sym
    (ap (drop 1) (sym c.deref.ensures.value ∙ cells)) in
    within c.args.ty.now.nodes.items c.args.ty.now.spelled c.requires.left c.requires.right c.requires.is
    c.in-Some.parts.now same c.type_length-count.result c.type_length-count.ensures

pub type_of-requires : goal.type_of-requires
type_of-requires c =
    let cells : c.deref.result.now ≡ c.in-Some.field-0-0.now ∷ c.in-Some.parts.now = search rules in
    let same : c.in-Some.parts.now ≡ drop 1 c.args.ty.now.nodes.items = sym
    (ap (drop 1) (sym c.deref.ensures.value ∙ cells)) in
    left_spelled c.args.ty.now.nodes.items c.args.ty.now.spelled c.requires.left c.requires.right c.requires.is
    c.in-Some.parts.now same c.type_length-count.result c.type_length-count.ensures
    c.in_ok-left.left.items (drop c.type_length-count.result c.in-Some.parts.now)
    (c.in_ok-left.ensures ∙ c.split_at.ensures.front) (search rules)

pub type_of-requires-2 : goal.type_of-requires-2
type_of-requires-2 c =
    let cells : c.deref.result.now ≡ c.in-Some.field-0-0.now ∷ c.in-Some.parts.now = search rules in
    let same : c.in-Some.parts.now ≡ drop 1 c.args.ty.now.nodes.items = sym
    (ap (drop 1) (sym c.deref.ensures.value ∙ cells)) in
    right_spelled c.args.ty.now.nodes.items c.args.ty.now.spelled c.requires.left c.requires.right c.requires.is
    c.in-Some.parts.now same c.type_length-count.result c.type_length-count.ensures
    c.in_ok-left.left.items c.in_ok-right.right.items (c.in_ok-left.ensures ∙ c.split_at.ensures.front)
    (c.in_ok-right.ensures ∙ c.split_at.ensures.back)

pub returns : goal.returns
returns c =
    let cells : c.deref.result.now ≡ c.in-Some.field-0-0.now ∷ c.in-Some.parts.now = search rules in
    let same : c.in-Some.parts.now ≡ drop 1 c.args.ty.now.nodes.items = sym
    (ap (drop 1) (sym c.deref.ensures.value ∙ cells)) in
    halves_are c.args.ty.now.nodes.items c.args.ty.now.spelled c.requires.left c.requires.right c.requires.is
    c.in-Some.parts.now same c.type_length-count.result c.type_length-count.ensures
    c.in_ok-left.left.items c.in_ok-right.right.items (c.in_ok-left.ensures ∙ c.split_at.ensures.front)
    (c.in_ok-right.ensures ∙ c.split_at.ensures.back)
    ∙ (ap (λ t. tuple (t ∷ type_of c.in_ok-right.right.items ∷ [])) (ap (λ v. type_of v.items) (sym c.type_of.ensures))
    ∙ ap (λ t. tuple (type_of c.type_of.result.nodes.items ∷ t ∷ []))
    (ap (λ v. type_of v.items) (sym c.type_of-2.ensures)))
