-- One name more in a set: `seen_more`.
use Rattle.std.proofs.Common.{◌≡◌, ◌∷◌, ◌++◌, [], ◌∙◌, ap, sym, cond, true, rules}
use Rattle.std.specs.HashSet as bag
use Rattle.std.specs.Str.{bytes_eq}
use Rattle.elm_type.specs.Ground.{contains}
use Rattle.type_schemes.proofs.Numbering.{seen_more}
use Rattle.type_schemes.proofs.classes.note.Goals as goal

pub returns-in_ok-push-clause-seen : goal.returns-in_ok-push-clause-seen
returns-in_ok-push-clause-seen c =
    let key : c.in_ok-clone.field-0 ≡ c.args.name.now = search rules in
    let last : c.in_ok-clone-2.field-0 ≡ c.args.name.now = search rules in
    λ q.
    c.in_ok-insert.ensures.updates.0 q
    ∙ (ap (λ k. cond (bytes_eq k q) true (bag.contains bytes_eq c.args.seen.now q)) key
    ∙ (ap (cond (bytes_eq c.args.name.now q) true) (c.requires q)
    ∙ (seen_more c.args.name.now c.args.names.now.items q
    ∙ ap (contains q) (sym (c.in_ok-push.ensures.items ∙ ap (λ n. c.args.names.now.items ++ n ∷ []) last)))))
