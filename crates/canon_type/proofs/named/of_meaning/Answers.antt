-- By whether there are as many arguments as parameters: `right_number`, `wrong_number`.
use Rattle.std.proofs.Common.{length, refl, ap, arith}
use Rattle.std.proofs.lemmas.Result.{IfOk-weaker, on_ok_weaker}
use Rattle.elm_tree.specs.View.{long_view}
use Rattle.elm_tree.specs.Turns.{tokens_view}
use Rattle.elm_canon.specs.View.{types_view}
use Rattle.canon_env.specs.Shown.{type_meaning_view}
use Rattle.canon_type.proofs.Meanings.{right_number, wrong_number, wrong_means, wrong_faults, union_means, on_ok}
use Rattle.canon_type.proofs.Meanings.{union_faults, alias_means, alias_faults}
use Rattle.canon_type.proofs.named.of_meaning.Goals as goal

pub returns-then-parameters-len-clause-meaning : goal.returns-then-parameters-len-clause-meaning
returns-then-parameters-len-clause-meaning c =
    let m = type_meaning_view c.args.meant.now.meaning in
    let ts = types_view c.args.arguments.items in
    IfOk-weaker c.no_type.result _ _
    (λ t e. wrong_means c.args.name c.args.meant.now.home m ts _
    (wrong_number m c.args.arguments.items (λ same. omega (arith, ap length c.parameters.ensures))) e)
    c.no_type.ensures.meaning

pub returns-then-parameters-len-clause-faults : goal.returns-then-parameters-len-clause-faults
returns-then-parameters-len-clause-faults c =
    let m = type_meaning_view c.args.meant.now.meaning in
    on_ok_weaker c.no_type.result
    (λ e. wrong_faults (long_view (tokens_view c.args.tokens.now) c.args.word) m (types_view c.args.arguments.items)
    c.args.findings.now.items c.no_type.new.findings.items _
    (wrong_number m c.args.arguments.items (λ same. omega (arith, ap length c.parameters.ensures))) e refl)
    c.no_type.ensures.faults

pub returns-in-Union-clause-meaning : goal.returns-in-Union-clause-meaning
returns-in-Union-clause-meaning c =
    let k = c.args.meant.now.meaning in
    let ts = types_view c.args.arguments.items in
    IfOk-weaker c.union_type.result _ _
    (λ t e. union_means c.args.name c.args.meant.now.home (long_view (tokens_view c.args.tokens.now) c.args.word) k ts
    c.in-Union.field-0 _ c.in-Union.is
    (right_number (type_meaning_view k) c.args.arguments.items (omega (arith, ap length c.parameters.ensures))) e)
    c.union_type.ensures

pub returns-in-Union-clause-faults : goal.returns-in-Union-clause-faults
returns-in-Union-clause-faults c =
    let k = c.args.meant.now.meaning in
    let ts = types_view c.args.arguments.items in
    on_ok c.union_type.result
    (union_faults c.args.name c.args.meant.now.home (long_view (tokens_view c.args.tokens.now) c.args.word) k ts
    c.in-Union.field-0 c.args.findings.now.items c.in-Union.is
    (right_number (type_meaning_view k) c.args.arguments.items (omega (arith, ap length c.parameters.ensures))))

pub returns-in-Alias-clause-meaning : goal.returns-in-Alias-clause-meaning
returns-in-Alias-clause-meaning c =
    let k = c.args.meant.now.meaning in
    let ts = types_view c.args.arguments.items in
    IfOk-weaker c.of_alias.result _ _
    (λ t e. alias_means c.args.name c.args.meant.now.home (long_view (tokens_view c.args.tokens.now) c.args.word) k ts
    c.in-Alias.alias c.deref.result.now _ c.in-Alias.is c.deref.ensures
    (right_number (type_meaning_view k) c.args.arguments.items (omega (arith, ap length c.parameters.ensures))) e)
    c.of_alias.ensures.meaning

pub returns-in-Alias-clause-faults : goal.returns-in-Alias-clause-faults
returns-in-Alias-clause-faults c =
    let k = c.args.meant.now.meaning in
    let ts = types_view c.args.arguments.items in
    on_ok_weaker c.of_alias.result
    (λ e. alias_faults c.args.name c.args.meant.now.home (long_view (tokens_view c.args.tokens.now) c.args.word) k ts
    c.in-Alias.alias c.deref.result.now c.args.findings.now.items _ c.in-Alias.is c.deref.ensures
    (right_number (type_meaning_view k) c.args.arguments.items (omega (arith, ap length c.parameters.ensures))) e)
    c.of_alias.ensures.faults
