-- The definitions of a block, and the groups that they make.
use Rattle.std.proofs.Common.{◌≡◌, ℕ, zero, suc, List, [], ◌∷◌, Bool, true, false, refl, sym, subst}
use Rattle.std.specs.Prelude.{slice_index_or}
use Rattle.std.specs.List.{AllByRecursion, flat_map}
use Rattle.decl_groups.specs.InOrder.{ordered_groups}
use Rattle.elm_canon.specs.declared.reference.Ref.{Ref}
use Rattle.elm_canon.specs.Tree as canon
use Rattle.elm_canon.specs.Tree.{Group, Together, Title, groups_of}
use Rattle.canon_expr.specs.Blocks.{Made, NoMade, MadeFunction, MadeConstant, MadeParts, made_of, functions_in}
use Rattle.canon_expr.specs.Blocks.{group_of, made_at, groups_in}
use Rattle.elm_canon.specs.Proper.{bound_by, group_names, function_names}
use Rattle.elm_canon.specs.Mentions.{Condition, IsLocal, PatternTakes, PatternsTake, Mentions, GroupsMention}
use Rattle.elm_canon.specs.Mentions.{GroupMentions, FunctionsMention}
use Rattle.module_proper.proofs.Parts.{all_both}

-- names that are such
module _ (N : Ref → Type 0) (P B : Condition) where
  abbrev pub MadeMentions : Made → Type 0
  MadeMentions NoMade = Unit {0}
  MadeMentions (MadeFunction title qs e) = N title.name × (PatternsTake P qs × Mentions P B e)
  MadeMentions (MadeConstant title e) = N title.name × Mentions P B e
  MadeMentions (MadeParts q e) = AllByRecursion N (bound_by q) × (PatternTakes P q × Mentions P B e)

  pub define_mentions : (b : Bool) (title : Title) (qs : canon.Patterns) (e : canon.Expr) → N title.name
      → PatternsTake P qs → Mentions P B e → MadeMentions (made_of b title qs e)
  define_mentions true title qs e n h k = (n, (h, k))
  define_mentions false title qs e n h k = (n, k)

  abbrev pub GroupIs : Group → Type 0
  GroupIs g = AllByRecursion N (group_names g) × GroupMentions P B g

  functions_named : (ms : List Made) → AllByRecursion MadeMentions ms
      → AllByRecursion N (function_names (functions_in ms))
  functions_named [] h = tt
  functions_named (NoMade ∷ ms) h = functions_named ms h.1
  functions_named (MadeConstant title e ∷ ms) h = functions_named ms h.1
  functions_named (MadeParts q e ∷ ms) h = functions_named ms h.1
  functions_named (MadeFunction title qs e ∷ ms) h = (h.0.0, functions_named ms h.1)

  functions_mention : (ms : List Made) → AllByRecursion MadeMentions ms → FunctionsMention P B (functions_in ms)
  functions_mention [] h = tt
  functions_mention (NoMade ∷ ms) h = functions_mention ms h.1
  functions_mention (MadeConstant title e ∷ ms) h = functions_mention ms h.1
  functions_mention (MadeParts q e ∷ ms) h = functions_mention ms h.1
  functions_mention (MadeFunction title qs e ∷ ms) h = (h.0.1, functions_mention ms h.1)

  together : (ms : List Made) → AllByRecursion MadeMentions ms
      → AllByRecursion GroupIs (Together (functions_in ms) ∷ [])
  together ms h = ((functions_named ms h, functions_mention ms h), tt)

  two_together : (m n : Made) (ms : List Made) → group_of (m ∷ n ∷ ms) ≡ Together (functions_in (m ∷ n ∷ ms)) ∷ []
  two_together NoMade n ms = refl
  two_together (MadeFunction title ps e) n ms = refl
  two_together (MadeConstant title e) n ms = refl
  two_together (MadeParts p e) n ms = refl

  pub group_is : (ms : List Made) → AllByRecursion MadeMentions ms → AllByRecursion GroupIs (group_of ms)
  group_is [] h = together [] h
  group_is (NoMade ∷ []) h = tt
  group_is (MadeFunction title qs e ∷ []) h = together (MadeFunction title qs e ∷ []) h
  group_is (MadeConstant title e ∷ []) h = (((h.0.0, tt), h.0.1), tt)
  group_is (MadeParts q e ∷ []) h = (h.0, tt)
  group_is (m ∷ n ∷ ms) h =
      subst (AllByRecursion GroupIs) (sym (two_together m n ms)) (together (m ∷ n ∷ ms) h)

  made_there : (made : List Made) → AllByRecursion MadeMentions made → (i : ℕ)
      → MadeMentions (slice_index_or made i NoMade)
  made_there [] h i = tt
  made_there (m ∷ made) h zero = h.0
  made_there (m ∷ made) h (suc i) = made_there made h.1 i

  each_there : (made : List Made) → AllByRecursion MadeMentions made → (places : List ℕ)
      → AllByRecursion MadeMentions (made_at made places)
  each_there made h [] = tt
  each_there made h (i ∷ places) = (made_there made h i, each_there made h places)

  pub blocks : (made : List Made) → AllByRecursion MadeMentions made → (lists : List (List ℕ))
      → AllByRecursion GroupIs (flat_map (λ places. group_of (made_at made places)) lists)
  blocks made h [] = tt
  blocks made h (places ∷ lists) =
      all_both GroupIs (group_of (made_at made places)) (flat_map (λ places. group_of (made_at made places)) lists)
      (group_is (made_at made places) (each_there made h places)) (blocks made h lists)

-- ---- a let

module _ (P B : Condition) where
  all_local : (gs : List Group) → AllByRecursion (GroupIs IsLocal P B) gs → GroupsMention P B (groups_of gs)
  all_local [] h = tt
  all_local (g ∷ gs) h = (h.0, all_local gs h.1)

  pub let_mentions : (uses : List (List ℕ)) (made : List Made) → AllByRecursion (MadeMentions IsLocal P B) made
      → GroupsMention P B (groups_in uses made)
  let_mentions uses made h =
      all_local (flat_map (λ places. group_of (made_at made places)) (ordered_groups uses))
      (blocks IsLocal P B made h (ordered_groups uses))
