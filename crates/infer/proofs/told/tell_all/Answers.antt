use Rattle.std.proofs.Common.{◌≡◌, ◌<◌, ◌+◌, ◌++◌, ◌∷◌, [], Some, take, get_or, length, sym, ap, ◌∙◌, arith}
use Rattle.std.specs.Prelude.{slice_get}
use Rattle.std.specs.List.{filter_map}
use Rattle.std.proofs.lemmas.Option.{slice_get-get_or}
use Rattle.elm_type.specs.View.{scheme_view}
use Rattle.infer_groups.proofs.Members.{take_one}
use Rattle.infer.specs.Names.{names_of}
use Rattle.infer.specs.Told.{told_views}
use Rattle.infer.proofs.Adding.{found_at, names_next, typed_next}
use Rattle.infer.proofs.told.tell_all.Goals as goal

pub loop-number-preserved : goal.loop-number-preserved
loop-number-preserved c gs ds titled are =
    let xs = c.args.definitions.now in
    let group = c.args.group.now in
    let i = c.loop-number.number-index in
    let n = get_or group i 0 in
    let x = c.index-definitions-number.result in
    let old = told_views c.args.told.now.items in
    let first = told_views c.loop-number.told.items in
    let now = told_views c.tell_as.new.told.items in
    let there : i < length group = omega (arith, c.loop-number-test.true) in
    let inside : n < length xs = c.requires i 0 there in
    let f = found_at gs xs ds n x are (slice_get-get_or xs n x inside ∙ ap Some (sym c.index-definitions-number.is)) in
    let next : take (i + 1) group ≡ take i group ++ n ∷ [] = sym (take_one group i n (slice_get-get_or group i 0 there)) in
    typed_next (scheme_view c.args.scheme.now) old first now (names_of (filter_map (slice_get ds) (take i group)))
    f.definition.names (names_of (filter_map (slice_get ds) (take (i + 1) group))) (c.loop-number.invariant gs ds titled are)
    (c.in_ok-tell_as.ensures gs f.definition titled f.is)
    (ap (λ l. names_of (filter_map (slice_get ds) l)) next ∙ names_next ds (take i group) n f.definition f.at)
