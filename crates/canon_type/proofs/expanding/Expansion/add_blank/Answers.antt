-- It stands for nothing, since it reaches itself.
use Rattle.std.proofs.Common.{if◌then◌else◌, sym, ap, ◌∙◌}
use Rattle.std.proofs.lemmas.Bool.{false≢true}
use Rattle.std.proofs.lemmas.Result.{on_ok_weaker}
use Rattle.canon_env.specs.Expanding.{blank}
use Rattle.canon_env.specs.Types.{type_of}
use Rattle.canon_type.specs.CanonAliasesKept.{alias_at, world_with}
use Rattle.canon_type.proofs.expanding.Expansion.add_blank.Goals as goal

pub returns-clause-expanding : goal.returns-clause-expanding
returns-clause-expanding c =
    on_ok_weaker c.add.result
    (λ e s placed is home keeps h at apart loops.
    let w = world_with s h.added in
    e s placed is home keeps h at
    (c.in_ok-body.ensures ∙ sym (ap (λ b. if b then blank else type_of w (alias_at s c.args.place).body) loops))
    apart (λ x. absurd (false≢true (sym x ∙ loops))))
    c.add.ensures.expanding
