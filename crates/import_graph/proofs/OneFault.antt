-- A project is refused for one fault, and then has no graph.
use Rattle.std.proofs.Common.{◌≡◌, ℕ, List, [], refl, sym, ap, ◌∙◌, subst}
use Rattle.elm_base.specs.declared.fault.Fault.{Fault}
use Rattle.import_graph.specs.Order.{IsOrder, IsRing}
use Rattle.import_graph.proofs.OneOrder.{one_ring, not_both}
use Rattle.import_graph.specs.Modules.{Setting, Word, Module}
use Rattle.import_graph.specs.Graph.{AreModules, uses_of}
use Rattle.import_graph.specs.Faults.{IsRefused, no_entry, too_many, in_a_ring, ring_fault}
use Rattle.import_graph.specs.Laws.{IsDetermined}
use Rattle.import_graph.proofs.OneList.{one_list, not_too_many}

module _ (has_imports : List ℕ → List Word → Type 0) (one : IsDetermined has_imports) (s : Setting) (written : List ℕ) where
  same_ring : (ms ns : List Module) (ring other : List ℕ) → AreModules has_imports s written ms → AreModules has_imports s written ns
      → IsRing (uses_of ms) ring → IsRing (uses_of ns) other → ring_fault ms ring ≡ ring_fault ns other
  same_ring ms ns ring other a b r o =
      let list = one_list has_imports one s written ms ns a b in
      let rings = one_ring r (subst (λ l. IsRing (uses_of l) other) (sym list) o) in
      ap (λ l. ring_fault l ring) list ∙ ap (ring_fault ns) rings

  pub one_fault : (f g : Fault) → IsRefused has_imports s written f → IsRefused has_imports s written g → f ≡ g
  one_fault f g (no_entry n) (no_entry m) = refl
  one_fault f g (no_entry n) (too_many {entry = e} i t) = absurd (n e i)
  one_fault f g (no_entry n) (in_a_ring a r) = absurd (n a.entry a.is_entry)
  one_fault f g (too_many {entry = e} i t) (no_entry n) = absurd (n e i)
  one_fault f g (too_many i t) (too_many j u) = refl
  one_fault f g (too_many {entry = e} i t) (in_a_ring {ms = ms} a r) = absurd (not_too_many has_imports s written e ms a i t)
  one_fault f g (in_a_ring a r) (no_entry n) = absurd (n a.entry a.is_entry)
  one_fault f g (in_a_ring {ms = ms} a r) (too_many {entry = e} i t) = absurd (not_too_many has_imports s written e ms a i t)
  one_fault f g (in_a_ring {ms = ms} {ring = ring} a r) (in_a_ring {ms = ns} {ring = other} b o) = same_ring ms ns ring other a b r o

  pub not_refused : (ms : List Module) (order : List ℕ) (f : Fault) → AreModules has_imports s written ms → IsOrder (uses_of ms) [] order → IsRefused has_imports s written f → ⊥
  not_refused ms order f a o (no_entry n) = n a.entry a.is_entry
  not_refused ms order f a o (too_many {entry = e} i t) = not_too_many has_imports s written e ms a i t
  not_refused ms order f a o (in_a_ring {ms = ns} {ring = ring} b r) =
      not_both o (subst (λ l. IsRing (uses_of l) ring) (one_list has_imports one s written ns ms b a) r)
