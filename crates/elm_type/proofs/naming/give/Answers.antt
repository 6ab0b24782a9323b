-- Names that are given in turn: `place_is`, `kept_more`, `pushed_used`, `length_used`.
use Rattle.std.proofs.Common.{◌≡◌, ◌+◌, ◌++◌, ◌∷◌, [], true, cond, rules, length, reverse, sym, ◌∙◌, ap, subst, arith}
use Rattle.std.specs.Str.{bytes_eq}
use Rattle.std.specs.HashSet as bag
use Rattle.elm_type.specs.Naming.{candidate}
use Rattle.elm_type.specs.Used.{counter, Kept}
use Rattle.elm_type.proofs.Names.{Place, place_is, kept_more, pushed_used, length_used}
use Rattle.elm_type.proofs.naming.give.Goals as goal

pub returns-clause-names : goal.returns-clause-names
returns-clause-names c =
    let names = c.args.names.now.items in
    let constants = c.args.constants.now in
    let used = reverse names ++ constants in
    let e : length constants + c.len.result ≡ length used = omega (arith, c.len.ensures, c.args.names.now.ok.0, length_used names constants) in
    let p : Place used c.args.class (counter c.args.class c.args.next.now) c.in_ok-place.place =
    place_is c.args.used.now c.args.next.now used c.args.class c.in_ok-place.place c.of.result (length constants + c.len.result) c.requires c.of.ensures e
    c.in_ok-place.ensures.bounds c.in_ok-place.ensures.used c.in_ok-place.ensures.free in
    c.in_ok-push.ensures.items ∙ ap (λ x. names ++ x ∷ []) (c.in_ok-name.ensures ∙ ap (candidate c.args.class) (sym p.first))

pub returns-clause-kept : goal.returns-clause-kept
returns-clause-kept c =
    let names = c.args.names.now.items in
    let constants = c.args.constants.now in
    let used = reverse names ++ constants in
    let e : length constants + c.len.result ≡ length used = omega (arith, c.len.ensures, c.args.names.now.ok.0, length_used names constants) in
    let p : Place used c.args.class (counter c.args.class c.args.next.now) c.in_ok-place.place =
    place_is c.args.used.now c.args.next.now used c.args.class c.in_ok-place.place c.of.result (length constants + c.len.result) c.requires c.of.ensures e
    c.in_ok-place.ensures.bounds c.in_ok-place.ensures.used c.in_ok-place.ensures.free in
    let k : c.in_ok-clone.field-0 ≡ c.in_ok-name.name = search rules in
    subst (λ us. Kept c.insert.new.self c.with.result us)
    (sym (ap (λ xs. reverse xs ++ constants) c.in_ok-push.ensures.items ∙ pushed_used names constants c.in_ok-name.name))
    (kept_more c.args.used.now c.insert.new.self c.args.next.now c.with.result used c.args.class c.in_ok-place.place c.in_ok-name.name c.in_ok-name.ensures
    c.requires p.bound p.passed (λ q. c.in_ok-insert.ensures.updates.0 q ∙ ap (λ x. cond (bytes_eq x q) true (bag.contains bytes_eq c.args.used.now q)) k) c.with.ensures)
