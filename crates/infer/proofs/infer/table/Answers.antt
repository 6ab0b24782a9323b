use Rattle.std.proofs.Common.{◌∷◌, [], sym, ap, ◌∙◌, arith}
use Rattle.std.specs.Map.{lookup}
use Rattle.std.specs.Option.{option_or}
use Rattle.std.proofs.lemmas.List.{map-append}
use Rattle.elm_canon.specs.Names.{same_ref}
use Rattle.infer_steps.proofs.Scoping.{none_left}
use Rattle.infer.specs.Told.{told_view, told_views}
use Rattle.infer.specs.Types.{schemes_of}
use Rattle.infer.proofs.Looking.{lookup_last, lookup_else}
use Rattle.infer.proofs.infer.table.Goals as goal

pub loop-last-init : goal.loop-last-init
loop-last-init c x =
    sym (ap (option_or (lookup (same_ref x) (told_views c.args.told.items))) (c.new-types.ensures x)
    ∙ lookup_else (same_ref x) (told_views c.args.told.items))

pub loop-last-preserved : goal.loop-last-preserved
loop-last-preserved c x =
    let rest = told_views c.pop.new.self.items in
    let last = told_view c.in-Some.last in
    let old = schemes_of c.loop-last.types x in
    c.loop-last.invariant x
    ∙ (ap (λ l. option_or (lookup (same_ref x) (told_views l)) old) c.in-Some.ensures.items
    ∙ (ap (λ l. option_or (lookup (same_ref x) l) old) (map-append told_view c.pop.new.self.items (c.in-Some.last ∷ []))
    ∙ (lookup_last (same_ref x) rest last old
    ∙ ap (option_or (lookup (same_ref x) rest)) (sym (c.in_ok-insert.ensures x)))))

pub returns-clause-types : goal.returns-clause-types
returns-clause-types c x =
    sym (c.loop-last.invariant x
    ∙ ap (λ l. option_or (lookup (same_ref x) (told_views l)) (schemes_of c.loop-last.types x))
    (none_left c.loop-last.rest.items (omega (arith, c.loop-last.rest.ok.0, c.in_default.ensures.cases.0))))
