use Rattle.std.proofs.Common.{◌≡◌, ◌-◌, ap, ◌∙◌, sym, drop, arith}
use Rattle.infer_steps.specs.View.{known_view}
use Rattle.module_offers.specs.Offers.{known_by}
use Rattle.module_compile.proofs.Offering.{entries_view, place_next, all_known}
use Rattle.module_compile.proofs.imports.Imports.types.Goals as goal

pub loop-k-preserved-in-Continue-1 : goal.loop-k-preserved-in-Continue-1
loop-k-preserved-in-Continue-1 c =
    place_next c.args.self.now.interfaces.entries (c.loop-k.k - 1) c.loop-k.k
    (c.in-Some.home.now, c.in-Some.offered.now) (known_view c.loop-k.known) (known_view c.push_types.new.known)
    (omega arith) (sym c.in-Some.ensures.entry) c.loop-k.invariant c.in_ok-push_types.ensures

pub returns : goal.returns
returns c =
    let none : c.loop-k.k ≡ 0 = omega arith in
    all_known c.args.self.now (known_view c.loop-k.known)
    (λ m x.
    c.loop-k.invariant m x
    ∙ ap (λ k. known_by (entries_view (drop k c.args.self.now.interfaces.entries)) m x) none)
