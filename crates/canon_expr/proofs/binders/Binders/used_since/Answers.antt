-- What sites use, by the places where the names are bound: `used_by_places`.
use Rattle.std.proofs.Common.{arith, length-append}
use Rattle.std.proofs.lemmas.List.Elements.{All-nil}
use Rattle.std.proofs.Common.{◌++◌, drop, length, sym, ap, ◌∙◌}
use Rattle.std.specs.List.{filter_map}
use Rattle.std.proofs.Math.Seq.{drop-append_seam}
use Rattle.canon_expr.proofs.Steps.{take_all}
use Rattle.std.proofs.lemmas.List.{length-drop}
use Rattle.std.proofs.Common.{◌-◌}
use Rattle.std.proofs.lemmas.Result.{IfOk-weaker}
use Rattle.canon_expr.specs.Logs.{used_place}
use Rattle.canon_expr.specs.Binding.{binder_of}
use Rattle.canon_expr.proofs.CanonBlocksBinding.{used_by_places, all_within}
use Rattle.std.specs.List.{All}
use Rattle.std.proofs.Common.{subst, ◌<◌}
use Rattle.canon_expr.proofs.binders.Binders.used_since.Goals as goal

pub returns-clause-used : goal.returns-clause-used
returns-clause-used c =
    IfOk-weaker c.among.result _ _
    (λ v e each w old sites binds many grows.
    let used = filter_map (used_place w) sites in
    e each binds
    ∙ ap (filter_map (binder_of each))
    (take_all (length c.deref.result.now - c.args.start) (drop c.args.start c.deref.result.now) (sym (length-drop c.args.start c.deref.result.now))
    ∙ ap (drop c.args.start) (c.deref.ensures.value ∙ grows.uses)
    ∙ ap (λ n. drop n (old.uses.items ++ used)) (sym many) ∙ drop-append_seam old.uses.items used)
    ∙ sym (used_by_places w each sites))
    c.among.ensures

pub returns-clause-within : goal.returns-clause-within
returns-clause-within c =
    IfOk-weaker c.among.result _ _
    (λ v e each binds. subst (All (λ j. j < length each)) (sym (e each binds)) (all_within each _))
    c.among.ensures

pub returns-then-start-len-clause-used : goal.returns-then-start-len-clause-used
returns-then-start-len-clause-used c = λ each w old sites binds many grows.
    let used = filter_map (used_place w) sites in
    absurd (omega (
      arith,
      many,
      ap length grows.uses,
      length-append old.uses.items used,
      c.if-start-len.true,
      c.len.ensures,
      c.args.log.now.uses.ok.0,
    ))

pub returns-then-start-len-clause-within : goal.returns-then-start-len-clause-within
returns-then-start-len-clause-within c = λ each binds.
    subst (All (λ j. j < length each)) (sym c.new.ensures.items) (All-nil (λ j. j < length each))
