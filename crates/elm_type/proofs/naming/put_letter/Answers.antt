-- The place says which letter it is, and how often the letters went round.
use Rattle.std.proofs.Common.{◌+◌, ◌/◌, ◌%◌, ◌∷◌, ◌++◌, [], ◌∙◌, ap, append_assoc}
use Rattle.elm_type.specs.Naming.{suffix, candidate}
use Rattle.elm_type.proofs.naming.put_letter.Goals as goal

pub returns : goal.returns
unfolding candidate
returns c =
    c.in_ok-put_suffix.ensures
    ∙ (ap (λ t. t ++ suffix (c.args.place / 26)) c.in_ok-push.ensures.items
    ∙ append_assoc c.args.text.now.items ((97 + c.args.place % 26) ∷ []) (suffix (c.args.place / 26)))
