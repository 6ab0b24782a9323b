-- It stands for what its body means, since it does not reach itself.
use Rattle.std.proofs.Common.{if◌then◌else◌, sym, ap, ◌∙◌}
use Rattle.std.proofs.lemmas.Result.{on_ok_weaker}
use Rattle.canon_env.specs.Expanding.{blank}
use Rattle.canon_env.specs.Types.{type_of}
use Rattle.canon_type.specs.Written.{AliasTree}
use Rattle.canon_type.specs.CanonAliasesKept.{alias_at, world_with}
use Rattle.canon_type.proofs.expanding.Expansion.expand.Goals as goal

pub returns-clause-expanding : goal.returns-clause-expanding
returns-clause-expanding c =
    on_ok_weaker c.add.result
    (λ e s placed is home keeps h at apart no_loop closed.
    let w = world_with s h.added in
    e s placed is home keeps h at
    (c.in_ok-body.ensures.meaning w h.world_is ∙ ap (type_of w) (sym (ap (λ (a : AliasTree). a.body) at))
    ∙ sym (ap (λ b. if b then blank else type_of w (alias_at s c.args.place).body) no_loop))
    apart (λ x. closed))
    c.add.ensures.expanding
