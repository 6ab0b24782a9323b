-- The names of the modules of a project have numbers.
use Rattle.std.proofs.Common.{◌≡◌, ℕ, ◌+◌, ◌<◌, List, [], ◌∷◌, ◌++◌, length, map, Some, sym, ap, subst, ◌∙◌, arith}
use Rattle.std.proofs.Common.{append_assoc, append-nil}
use Rattle.std.specs.Prelude.{slice_get}
use Rattle.std.specs.List.{Contains, filter_map, position}
use Rattle.std.specs.Str.{bytes_eq}
use Rattle.std.proofs.lemmas.List.{length-map}
use Rattle.std.proofs.lemmas.Option.{slice_get_within}
use Rattle.import_graph.specs.Order.{IsOrder, all_placed, next}
use Rattle.import_graph.specs.Graph.{names_of, used, uses_of}
use Rattle.import_graph.specs.Modules.{Module}
use Rattle.project_parts.specs.Modules.{core_names, parts_of, name_of}
use Rattle.project_parts.specs.Laws.{AreToBuild, HasNumber}
use Rattle.project_parts.proofs.Lower.{names, order_within}
use Rattle.project_parts.proofs.Placing.{at_place, has_place, got_second, got_given, there_is, mapped, image}

-- an order has all that is not placed
order_whole : {uses : List (List ℕ)} {placed order : List ℕ} → IsOrder uses placed order → (i : ℕ) → i < length uses
    → Contains (placed ++ order) i
order_whole {uses} {placed} (all_placed f) i l = subst (λ xs. Contains xs i) (sym (append-nil placed)) (f i l)
order_whole {uses} {placed} (next {m = x} {rest = rest} n o) i l =
    subst (λ xs. Contains xs i) (append_assoc placed (x ∷ []) rest) (order_whole o i l)

abbrev own_name : Module → List ℕ
own_name m = m.source.name

pub numbered : (core ms : List Module) (order : List ℕ) (name : List ℕ) → AreToBuild core ms order
    → Contains (names_of ms) name → HasNumber (parts_of core ms order) name
numbered core ms order name b c = record {
  number = place.0;
  is = subst (λ xs. position (bytes_eq name) xs ≡ Some place.0) (sym named) place.1;
  within = omega (
    arith,
    slice_get_within all place.0 name (at_place all name place.0 place.1),
    ap length named,
    length-map (parts_of core ms order) name_of,
  );
}
  where
    there : List Module
    there = filter_map (slice_get ms) order

    all : List (List ℕ)
    all = core_names ++ names_of there

    named : map name_of (parts_of core ms order) ≡ all
    named = names core ms order b

    stands : (k : ℕ) × (slice_get all k ≡ Some name)
    stands =
        let k = there_is (names_of ms) name c in
        let m = mapped own_name ms k.0 name k.1 in
        let within : k.0 < length (uses_of ms) =
        omega (arith, slice_get_within ms k.0 m.0 m.1, length-map ms (λ (x : Module). filter_map (used ms) x.imports)) in
        let j = there_is order k.0 (order_whole b.is_order k.0 within) in
        let given = got_given ms order j.0 k.0 m.0 (order_within core ms order b) j.1 m.1 in (
          length core_names + j.0,
          got_second core_names (names_of there) j.0 name (image own_name there j.0 m.0 given ∙ ap Some m.2),
        )

    place : (n : ℕ) × (position (bytes_eq name) all ≡ Some n)
    place = has_place all name stands.0 stands.1
