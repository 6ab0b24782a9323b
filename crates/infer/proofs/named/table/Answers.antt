use Rattle.std.proofs.Common.{◌∷◌, [], Some, cond, sym, ap, ◌∙◌}
use Rattle.std.proofs.lemmas.List.{map-append}
use Rattle.std.specs.Map.{lookup}
use Rattle.std.specs.Option.{option_or}
use Rattle.std.specs.Str.{bytes_eq}
use Rattle.infer_steps.specs.View.{schemes_view}
use Rattle.infer.specs.Named.{named_view, named_views}
use Rattle.infer.proofs.InferKnownLooking.{same_back, lookup_one, lookup_on}
use Rattle.infer.proofs.named.table.Goals as goal

pub loop-last-preserved : goal.loop-last-preserved
loop-last-preserved c x =
    let rest = named_views c.pop.new.self.items in
    let last = named_view c.in-Some.last in
    let old = schemes_view c.loop-last.types x in
    c.loop-last.invariant x
    ∙ (ap (λ l. option_or (lookup (bytes_eq x) (named_views l)) old) c.in-Some.ensures.items
    ∙ (ap (λ l. option_or (lookup (bytes_eq x) l) old)
    (map-append named_view c.pop.new.self.items (c.in-Some.last ∷ []))
    ∙ (lookup_on (bytes_eq x) rest (last ∷ []) old
    ∙ ap (option_or (lookup (bytes_eq x) rest)) (lookup_one (bytes_eq x) last old
    ∙ (ap (λ b. cond b (Some last.1) old) (same_back x last.0) ∙ sym (ap (λ f. f x) c.in_ok-insert.ensures))))))
