-- What a constructor makes, and its fields: its type, taken apart.
use Rattle.std.proofs.Common.{◌≡◌, ℕ, zero, suc, ◌+◌, List, [], ◌∷◌, ◌++◌, length, map, true, Some, refl, sym, ap, ◌∙◌}
use Rattle.std.proofs.Common.{subst, arith, append-nil}
use Rattle.std.specs.Prelude.{◌&&◌}
use Rattle.std.specs.List.{AllByRecursion, AllZip}
use Rattle.elm_base.specs.declared.position.Pos.{Pos}
use Rattle.elm_type.specs.Types.{ElmType, Made, Record, NoType, MoreType, variables, renamed, Leaf}
use Rattle.elm_type.specs.Types.{Scheme}
use Rattle.elm_type.specs.Rows.{ordered}
use Rattle.elm_type.specs.declared.head.Head.TheVariants as head
use Rattle.type_items.specs.Items.{Place, Wanted, children}
use Rattle.type_items.specs.Scopes.{leaf_at, instance_items}
use Rattle.type_items.specs.Patterns.{parameters_of, result_of, declared_shape, declared_items}
use Rattle.type_store.proofs.RowsMeet.{and_left, and_right}
use Rattle.type_walks.specs.Regions.{none, below, either}
use Rattle.type_walks.specs.Links.{Links, AreLive, Has}
use Rattle.type_walks.specs.Walks.{Around, Walk}
use Rattle.type_walks.proofs.Cleaning.{all_first, all_second}
use Rattle.type_walks.proofs.Regions.{none_inside, apart_none, either_inside}
use Rattle.type_walks.proofs.Walking.{goes_on, widens}
use Rattle.type_constructs.specs.Failing.{Bad}
use Rattle.type_constructs.specs.Regions.{tops}
use Rattle.type_constructs.specs.Binding.{Shaped}
use Rattle.type_constructs.proofs.Chains.{tells_on}
use Rattle.type_constructs.proofs.Spots.{Here, Tops, In, atom_inside}
use Rattle.infer_steps.specs.Codes.{State}
use Rattle.infer_steps.specs.Ready.{IsBelow, IsWritten}
use Rattle.infer_steps.specs.Means.{own_or_constant}
use Rattle.infer_steps.proofs.Stepping.{follows_on}
use Rattle.infer_types.specs.Writing.{written, CanWrite}
use Rattle.infer_types.specs.Functions.{parameters_in, result_in, FunctionWritten}
use Rattle.infer_types.specs.Instances.{AreOfKinds, NoneOfKinds, Constructs, NoConstructor}
use Rattle.infer_types.proofs.Substituted.{renamed_itself, formed_ordered}
use Rattle.infer_types.proofs.Instancing.{leaf_types, written_there, no_constants}

-- ---- the parts of a function's type, with other variables

pub parameters_renamed : (p : Place) (n : ℕ) (t : ElmType (Leaf ℕ))
    → parameters_of n (renamed (leaf_at p) t) ≡ map (renamed (leaf_at p)) (parameters_in n t)
parameters_renamed p zero t = refl
parameters_renamed p (suc n) (Made head.Function NoType) = refl
parameters_renamed p (suc n) (Made head.Function (MoreType a NoType)) = refl
parameters_renamed p (suc n) (Made head.Function (MoreType a (MoreType b NoType))) =
    ap (λ ts. renamed (leaf_at p) a ∷ ts) (parameters_renamed p n b)
parameters_renamed p (suc n) (Made head.Function (MoreType a (MoreType b (MoreType c ts)))) = refl
parameters_renamed p (suc n) (Made (head.Named m x) ts) = refl
parameters_renamed p (suc n) (Made head.Tuple ts) = refl
parameters_renamed p (suc n) (Record fs end) = refl

pub result_renamed : (p : Place) (n : ℕ) (t : ElmType (Leaf ℕ))
    → result_of n (renamed (leaf_at p) t) ≡ renamed (leaf_at p) (result_in n t)
result_renamed p zero t = refl
result_renamed p (suc n) (Made head.Function NoType) = refl
result_renamed p (suc n) (Made head.Function (MoreType a NoType)) = refl
result_renamed p (suc n) (Made head.Function (MoreType a (MoreType b NoType))) = result_renamed p n b
result_renamed p (suc n) (Made head.Function (MoreType a (MoreType b (MoreType c ts)))) = refl
result_renamed p (suc n) (Made (head.Named m x) ts) = refl
result_renamed p (suc n) (Made head.Tuple ts) = refl
result_renamed p (suc n) (Record fs end) = refl

-- ---- each part is the one over the children of the place

record Good (k : ℕ) (t : ElmType (Leaf ℕ)) : Type 0 where
  below : AllByRecursion (IsBelow k) (variables t)
  order : ordered t ≡ true

good_first : (k : ℕ) (a b : ElmType (Leaf ℕ)) → Good k (Made head.Function (MoreType a (MoreType b NoType))) → Good k a
good_first k a b g = record {
  below = all_first (IsBelow k) (variables a) (variables b ++ []) g.below;
  order = and_left (ordered a) (ordered b && true) g.order;
}

good_second : (k : ℕ) (a b : ElmType (Leaf ℕ)) → Good k (Made head.Function (MoreType a (MoreType b NoType))) → Good k b
good_second k a b g = record {
  below = all_first (IsBelow k) (variables b) [] (all_second (IsBelow k) (variables a) (variables b ++ []) g.below);
  order = and_left (ordered b) true (and_right (ordered a) (ordered b && true) g.order);
}

module _ (p : Place) (k : ℕ) where
  abbrev own_types : List Wanted
  own_types = leaf_types p k []

  part_there : (t : ElmType (Leaf ℕ)) → Good k t → written own_types t ≡ renamed (leaf_at p) t
  part_there t g =
      let e : k ≡ k + 0 = omega arith in
      written_there p k [] t g.order (subst (λ n. AllByRecursion (IsBelow n) (variables t)) e g.below)
      ∙ ap (renamed (leaf_at p)) (renamed_itself (own_or_constant k []) (no_constants k) t)

  parameters_there : (n : ℕ) (t : ElmType (Leaf ℕ)) → Good k t → map (written own_types)
      (parameters_in n t) ≡ map (renamed (leaf_at p)) (parameters_in n t)
  parameters_there zero t g = refl
  parameters_there (suc n) (Made head.Function NoType) g = refl
  parameters_there (suc n) (Made head.Function (MoreType a NoType)) g = refl
  parameters_there (suc n) (Made head.Function (MoreType a (MoreType b NoType))) g =
      ap (λ u. u ∷ map (written own_types) (parameters_in n b)) (part_there a (good_first k a b g))
      ∙ ap (λ us. renamed (leaf_at p) a ∷ us) (parameters_there n b (good_second k a b g))
  parameters_there (suc n) (Made head.Function (MoreType a (MoreType b (MoreType c ts)))) g = refl
  parameters_there (suc n) (Made (head.Named m x) ts) g = refl
  parameters_there (suc n) (Made head.Tuple ts) g = refl
  parameters_there (suc n) (Record fs end) g = refl

  result_good : (n : ℕ) (t : ElmType (Leaf ℕ)) → Good k t → Good k (result_in n t)
  result_good zero t g = g
  result_good (suc n) (Made head.Function NoType) g = g
  result_good (suc n) (Made head.Function (MoreType a NoType)) g = g
  result_good (suc n) (Made head.Function (MoreType a (MoreType b NoType))) g = result_good n b (good_second k a b g)
  result_good (suc n) (Made head.Function (MoreType a (MoreType b (MoreType c ts)))) g = g
  result_good (suc n) (Made (head.Named m x) ts) g = g
  result_good (suc n) (Made head.Tuple ts) g = g
  result_good (suc n) (Record fs end) g = g

-- ---- the constructor

pub can_construct : (old u : State) (pos : Pos) (s : Scheme) (vs : List ℕ) → IsWritten s.kinds s
    → AreOfKinds pos s.kinds old u vs → CanWrite u.store vs s.type
can_construct old u pos s vs w kinds =
    record { kinds = s.kinds; below = w.below; formed = w.formed; lacks = kinds.lacking }

module _ (old u new : State) (pos : Pos) (s : Scheme) (arity : ℕ) (vs : List ℕ) (result : ℕ) (parts : List ℕ)
    (w : IsWritten s.kinds s) (kinds : AreOfKinds pos s.kinds old u vs)
    (made : FunctionWritten vs arity s.type u new result parts) where
  shaped_at : (a : Around) (links : Links) (p : Place) → a.depth ≡ old.depth → AreLive a.depth old.store links
      → Shaped a (below p) (declared_items (Some s) pos p) (declared_shape (Some s) arity p) old.store links new.store
      result parts
  shaped_at a links p e live =
      let own = length s.kinds in
      let g : Good own s.type = record { below = w.below; order = formed_ordered s.kinds s.type w.formed } in
      let one = kinds.kinds a links p e live in
      let leaves = subst (λ ts. AllZip (Has one.after) vs ts) (sym (append-nil (children p own))) one.each in
      let two = made.typed a one.after (leaf_types p own []) (e ∙ sym kinds.follows.depth) (one.walk.live live) leaves
      in
      record {
        after = two.after;
        walk =
            subst (λ l. Walk a (below p) l old.store links new.store two.after)
            (append-nil (instance_items s.kinds pos p))
            (widens a (either (tops p 0 own) none) (below p) (instance_items s.kinds pos p ++ []) old.store new.store
            links two.after
            (either_inside (tops p 0 own) none (below p) (atom_inside p (In Here (Tops 0 own)) refl)
            (none_inside (below p)))
            (goes_on a (tops p 0 own) none (instance_items s.kinds pos p) [] old.store u.store new.store links one.after
            two.after (apart_none (tops p 0 own)) live one.walk two.walk));
        tells = tells_on two.tells one.tells;
        result_has =
            subst (Has two.after result) (part_there p own (result_in arity s.type) (result_good p own arity s.type g) ∙
            sym (result_renamed p arity s.type)) two.has.0;
        parts_have =
            subst (λ ts. AllZip (Has two.after) parts ts)
            (parameters_there p own arity s.type g ∙ sym (parameters_renamed p arity s.type)) two.has.1;
      }

  pub constructed : Constructs s arity pos old new result parts
  constructed = record {
    follows = follows_on old u new kinds.follows made.follows;
    result_live = made.live.0;
    parts_live = made.live.1;
    shaped = shaped_at;
  }

pub not_constructed : (old new : State) (pos : Pos) (s : Scheme) (bad : Bad) → NoneOfKinds pos s.kinds old new bad
    → NoConstructor s pos old new bad
not_constructed old new pos s bad none = record { fails = λ a links p e live. none.fails a links p e live }
