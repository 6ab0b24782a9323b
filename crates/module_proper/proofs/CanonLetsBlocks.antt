-- The definitions of a block: what their groups bind inside, and their names.
use Rattle.std.proofs.Common.{◌≡◌, ℕ, zero, suc, List, [], ◌∷◌, ◌++◌, false, sym, subst}
use Rattle.std.proofs.Common.{inl, inr}
use Rattle.std.specs.Prelude.{slice_index_or}
use Rattle.std.specs.List.{AllByRecursion, flat_map}
use Rattle.decl_groups.specs.InOrder.{ordered_groups}
use Rattle.elm_canon.specs.declared.reference.Ref.{Ref}
use Rattle.elm_canon.specs.Tree.{Expr, Let, Group, groups_of}
use Rattle.elm_tree.specs.Tree.{Word}
use Rattle.canon_env.specs.Locals.{Locals, with_names}
use Rattle.canon_expr.specs.Blocks.{Made, NoMade, MadeFunction, MadeConstant, MadeParts, functions_in, group_of}
use Rattle.canon_expr.specs.Blocks.{made_at, groups_in}
use Rattle.elm_canon.specs.Proper.{among, IsIn, bound_by, all_bound_by, group_names, function_names}
use Rattle.canon_proper.proofs.Scopes.{refs}
use Rattle.canon_proper.proofs.Made.{two_together}
use Rattle.elm_canon.specs.Apart.{let_names, inner_names, inner_group, inner_groups, inner_functions, GroupApart}
use Rattle.elm_canon.specs.Apart.{GroupsApart, FunctionsApart}
use Rattle.elm_canon.proofs.Among.{first, first_or_later, in_left, in_right, in_both}
use Rattle.module_proper.proofs.Binding.{NoneOf, nothing_of, both_none, fewer_none, outer_none, word_held}
use Rattle.module_proper.proofs.Clear.{Clear}

-- the names that it gives
abbrev pub made_names : Made → List Ref
made_names NoMade = []
made_names (MadeFunction title ps e) = title.name ∷ []
made_names (MadeConstant title e) = title.name ∷ []
made_names (MadeParts p e) = bound_by p

-- it binds no local name in scope inside
abbrev pub ClearMade : Locals → Made → Type 0
ClearMade locals NoMade = Unit {0}
ClearMade locals (MadeFunction title ps e) = NoneOf locals (all_bound_by ps) × Clear locals e
ClearMade locals (MadeConstant title e) = Clear locals e
ClearMade locals (MadeParts p e) = Clear locals e

-- ---- names

module _ (R : Ref → Type 0) where
  abbrev pub NamedIn : Made → Type 0
  NamedIn m = (x : Ref) → IsIn x (made_names m) → R x

  function_names_in : (ms : List Made) → AllByRecursion NamedIn ms → (x : Ref)
      → IsIn x (function_names (functions_in ms)) → R x
  function_names_in [] h x i = absurd cc
  function_names_in (NoMade ∷ ms) h x i = function_names_in ms h.1 x i
  function_names_in (MadeConstant title e ∷ ms) h x i = function_names_in ms h.1 x i
  function_names_in (MadeParts p e ∷ ms) h x i = function_names_in ms h.1 x i
  function_names_in (MadeFunction title ps e ∷ ms) h x i =
      elim (first_or_later x title.name (function_names (functions_in ms)) i) [
        | inl is ↦ h.0 x (subst (λ y. IsIn x (y ∷ [])) is (first x []))
        | inr k ↦ function_names_in ms h.1 x k
      ]

  only : (xs : List Ref) (x : Ref) → IsIn x (xs ++ []) → IsIn x xs
  only xs x i = elim (in_both x xs [] i) [
    | inl l ↦ l
    | inr r ↦ absurd cc
  ]

  group_names_in : (ms : List Made) → AllByRecursion NamedIn ms → (x : Ref)
      → IsIn x (let_names (groups_of (group_of ms))) → R x
  group_names_in [] h x i = absurd cc
  group_names_in (NoMade ∷ []) h x i = absurd cc
  group_names_in (MadeFunction title ps e ∷ []) h x i = h.0 x (only (title.name ∷ []) x i)
  group_names_in (MadeConstant title e ∷ []) h x i = h.0 x (only (title.name ∷ []) x i)
  group_names_in (MadeParts p e ∷ []) h x i = h.0 x (only (bound_by p) x i)
  group_names_in (m ∷ n ∷ ms) h x i =
      function_names_in (m ∷ n ∷ ms) h x
      (only (function_names (functions_in (m ∷ n ∷ ms))) x
      (subst (λ gs. IsIn x (let_names (groups_of gs))) (two_together m n ms) i))

  names_more : (gs hs : List Group) → ((x : Ref) → IsIn x (let_names (groups_of gs)) → R x)
      → ((x : Ref) → IsIn x (let_names (groups_of hs)) → R x)
      → (x : Ref) → IsIn x (let_names (groups_of (gs ++ hs))) → R x
  names_more [] hs f g x i = g x i
  names_more (k ∷ gs) hs f g x i = elim (in_both x (group_names k) (let_names (groups_of (gs ++ hs))) i) [
    | inl l ↦ f x (in_left x (group_names k) (let_names (groups_of gs)) l)
    | inr r ↦ names_more gs hs (λ y j. f y (in_right y (group_names k) (let_names (groups_of gs)) j)) g x r
  ]

-- ---- what is bound inside

module _ (locals : Locals) where
  record FunctionsClear (ms : List Made) : Type 0 where
    apart : FunctionsApart (functions_in ms)
    none : NoneOf locals (inner_functions (functions_in ms))

  functions_clear : (ms : List Made) → AllByRecursion (ClearMade locals) ms → FunctionsClear ms
  functions_clear [] h = record { apart = tt; none = nothing_of locals }
  functions_clear (NoMade ∷ ms) h = let r = functions_clear ms h.1 in record { apart = r.apart; none = r.none }
  functions_clear (MadeConstant title e ∷ ms) h =
      let r = functions_clear ms h.1 in record { apart = r.apart; none = r.none }
  functions_clear (MadeParts p e ∷ ms) h =
      let r = functions_clear ms h.1 in record { apart = r.apart; none = r.none }
  functions_clear (MadeFunction title ps e ∷ ms) h =
      let r = functions_clear ms h.1 in
      record {
        apart = (h.0.1.apart, r.apart);
        none =
            both_none locals (all_bound_by ps) (inner_names e ++ inner_functions (functions_in ms)) h.0.0
            (both_none locals (inner_names e) (inner_functions (functions_in ms)) h.0.1.none r.none);
      }

  pub record GroupsClear (gs : List Group) : Type 0 where
    pub apart : GroupsApart (groups_of gs)
    pub none : NoneOf locals (inner_groups (groups_of gs))

  one_clear : (g : Group) → GroupApart g → NoneOf locals (inner_group g) → GroupsClear (g ∷ [])
  one_clear g apart none_ = record {
    apart = (apart, tt);
    none = both_none locals (inner_group g) [] none_ (nothing_of locals);
  }

  group_clear : (ms : List Made) → AllByRecursion (ClearMade locals) ms → GroupsClear (group_of ms)
  group_clear [] h = one_clear _ tt (nothing_of locals)
  group_clear (NoMade ∷ []) h = record { apart = tt; none = nothing_of locals }
  group_clear (MadeFunction title ps e ∷ []) h =
      let r = functions_clear (MadeFunction title ps e ∷ []) h in one_clear _ r.apart r.none
  group_clear (MadeConstant title e ∷ []) h = one_clear _ h.0.apart h.0.none
  group_clear (MadeParts p e ∷ []) h = one_clear _ h.0.apart h.0.none
  group_clear (m ∷ n ∷ ms) h =
      let r = functions_clear (m ∷ n ∷ ms) h in
      subst GroupsClear (sym (two_together m n ms)) (one_clear _ r.apart r.none)

  pub clear_more : (gs hs : List Group) → GroupsClear gs → GroupsClear hs → GroupsClear (gs ++ hs)
  clear_more [] hs h k = k
  clear_more (g ∷ gs) hs h k =
      let rest : GroupsClear gs = record {
        apart = h.apart.1;
        none = fewer_none locals (inner_groups (groups_of gs)) (inner_groups (groups_of (g ∷ gs)))
            (λ x i. in_right x (inner_group g) (inner_groups (groups_of gs)) i) h.none;
      } in
      let r = clear_more gs hs rest k in
      record {
        apart = (h.apart.0, r.apart);
        none = both_none locals (inner_group g) (inner_groups (groups_of (gs ++ hs)))
            (fewer_none locals (inner_group g) (inner_groups (groups_of (g ∷ gs)))
            (λ x i. in_left x (inner_group g) (inner_groups (groups_of gs)) i) h.none)
            r.none;
      }

-- ---- the groups of a block

all_at : (P : Made → Type 0) (made : List Made) → P NoMade → AllByRecursion P made → (i : ℕ)
    → P (slice_index_or made i NoMade)
all_at P [] none_ h i = none_
all_at P (m ∷ made) none_ h zero = h.0
all_at P (m ∷ made) none_ h (suc i) = all_at P made none_ h.1 i

pub each_at : (P : Made → Type 0) (made : List Made) → P NoMade → AllByRecursion P made → (places : List ℕ)
    → AllByRecursion P (made_at made places)
each_at P made none_ h [] = tt
each_at P made none_ h (i ∷ places) = (all_at P made none_ h i, each_at P made none_ h places)

pub group_named : (R : Ref → Type 0) (ms : List Made) → AllByRecursion (NamedIn R) ms → (x : Ref)
    → IsIn x (let_names (groups_of (group_of ms))) → R x
group_named = group_names_in

pub group_is_clear : (locals : Locals) (ms : List Made) → AllByRecursion (ClearMade locals) ms
    → GroupsClear locals (group_of ms)
group_is_clear = group_clear

module _ (made : List Made) where
  block_names : (R : Ref → Type 0) → AllByRecursion (NamedIn R) made → (lists : List (List ℕ)) → (x : Ref)
      → IsIn x (let_names (groups_of (flat_map (λ places. group_of (made_at made places)) lists))) → R x
  block_names R h [] x i = absurd cc
  block_names R h (places ∷ lists) x i =
      names_more R (group_of (made_at made places)) (flat_map (λ places. group_of (made_at made places)) lists)
      (group_names_in R (made_at made places) (each_at (NamedIn R) made (λ y j. absurd cc) h places))
      (block_names R h lists) x i

  block_clear : (locals : Locals) → AllByRecursion (ClearMade locals) made → (lists : List (List ℕ))
      → GroupsClear locals (flat_map (λ places. group_of (made_at made places)) lists)
  block_clear locals h [] = record { apart = tt; none = nothing_of locals }
  block_clear locals h (places ∷ lists) =
      clear_more locals (group_of (made_at made places)) (flat_map (λ places. group_of (made_at made places)) lists)
      (group_clear locals (made_at made places) (each_at (ClearMade locals) made tt h places))
      (block_clear locals h lists)

  -- ---- a let

  module _ (locals : Locals) (ws : List Word) (uses : List (List ℕ)) where
    pub let_clear : NoneOf locals (refs ws) → AllByRecursion (NamedIn (λ x. IsIn x (refs ws))) made
        → AllByRecursion (ClearMade (with_names ws locals)) made → (e : Expr) → Clear (with_names ws locals) e
        → Clear locals (Let (groups_in uses made) e)
    let_clear new named clear e body = record {
      apart = (
        λ x i. (
            let h = word_held ws locals x (names x i) in
            subst (λ y. among y (inner_groups (groups_in uses made)) ≡ false) (sym h.is)
            (inside.none.each h.name h.held)),
        (inside.apart, body.apart),
      );
      none =
          both_none locals (let_names (groups_in uses made)) (inner_groups (groups_in uses made) ++ inner_names e)
          (fewer_none locals (let_names (groups_in uses made)) (refs ws) names new)
          (both_none locals (inner_groups (groups_in uses made)) (inner_names e)
          (outer_none ws locals (inner_groups (groups_in uses made)) inside.none)
          (outer_none ws locals (inner_names e) body.none));
    }
      where
        names : (x : Ref) → IsIn x (let_names (groups_in uses made)) → IsIn x (refs ws)
        names = block_names (λ x. IsIn x (refs ws)) named (ordered_groups uses)

        inside : GroupsClear (with_names ws locals)
            (flat_map (λ places. group_of (made_at made places)) (ordered_groups uses))
        inside = block_clear (with_names ws locals) clear (ordered_groups uses)
