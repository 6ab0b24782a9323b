-- The definitions of one block: their sites, and the groups that they make by what they mean. (Elm guide: core
-- language; Elm syntax reference.)
use Rattle.std.specs.Prelude.{ℕ, List, [], ◌∷◌, ◌++◌, Bool, true, false, Option}
use Rattle.std.specs.Prelude.{map, flat_map, slice_index_or}
use Rattle.std.specs.List.{enumerate_from}
use Rattle.elm_canon.specs.Tree as canon
use Rattle.elm_canon.specs.declared.reference.Ref.{Ref}
use Rattle.elm_canon.specs.Tree.{Annotation, Title, Group, Functions, NoFunction, MoreFunction, Together, Constant}
use Rattle.elm_canon.specs.Tree.{groups_of}
use Rattle.elm_tree.specs.Tree.{Pos, Definitions}
use Rattle.canon_env.specs.Naming.{World}
use Rattle.canon_env.specs.Locals.{Locals}
use Rattle.canon_env.specs.Sites.{Site, Reaching, Defined}
use Rattle.canon_env.specs.Patterns.{binding_sites}
use Rattle.decl_groups.specs.InOrder.{ordered_groups, uses_itself}
use Rattle.canon_expr.specs.Binding.{bound_in, bound_by_each, defined_in, uses_among}

-- ---- sites

abbrev pub joined_sites : List (List Site) → List Site
joined_sites each = flat_map (λ sites. sites) each

-- whether each definition reaches itself
abbrev pub reaching_sites : List (List ℕ) → List Defined → List Site
reaching_sites uses ds = map (λ (d : ℕ × Defined). Reaching (uses_itself uses d.0) d.1) (enumerate_from 0 ds)

-- those of a block, given those of each of its definitions and of its body
abbrev pub block_sites : World → Locals → Definitions → List (List Site) → List Site → List Site
block_sites w locals ds each body =
    binding_sites locals (bound_in ds) ++ joined_sites each
    ++ reaching_sites (uses_among w (bound_by_each ds) each) (defined_in ds) ++ body

-- ---- meaning

-- a definition as it goes into a group; nothing, an annotation
pub data Made : Type 0 where
  NoMade : Made
  MadeFunction : Title → canon.Patterns → canon.Expr → Made
  MadeConstant : Title → canon.Expr → Made
  MadeParts : canon.Pattern → canon.Expr → Made

abbrev pub made_of : Bool → Title → canon.Patterns → canon.Expr → Made
made_of true title ps e = MadeFunction title ps e
made_of false title ps e = MadeConstant title e

abbrev pub title_of : Ref → Pos → Option Annotation → Title
title_of r place annotation = record { name = r; place = place; annotation = annotation }

-- functions that may use each other
abbrev pub functions_in : List Made → Functions
functions_in [] = NoFunction
functions_in (MadeFunction title ps e ∷ ms) = MoreFunction title ps e (functions_in ms)
functions_in (_ ∷ ms) = functions_in ms

abbrev pub group_of : List Made → List Group
group_of (NoMade ∷ []) = []
group_of (MadeConstant title e ∷ []) = Constant title e ∷ []
group_of (MadeParts p e ∷ []) = canon.Destructure p e ∷ []
group_of ms = Together (functions_in ms) ∷ []

abbrev pub made_at : List Made → List ℕ → List Made
made_at made places = map (λ i. slice_index_or made i NoMade) places

-- the groups of a block, each after those that it uses
abbrev pub groups_in : List (List ℕ) → List Made → canon.Groups
groups_in uses made = groups_of (flat_map (λ places. group_of (made_at made places)) (ordered_groups uses))
