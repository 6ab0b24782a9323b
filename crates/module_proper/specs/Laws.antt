-- The constructors that a resolved module mentions.
use Rattle.std.specs.Prelude.{◌≡◌, ℕ, ◌⊎◌}
use Rattle.elm_tree.specs.Tree as tree
use Rattle.elm_tree.specs.Tree.{Long}
use Rattle.elm_canon.specs.Tree as canon
use Rattle.elm_canon.specs.Names.{Name}
use Rattle.elm_canon.specs.declared.unions.Alternative.{Alternative}
use Rattle.elm_canon.specs.Unions.{Union, ListUnion, TupleUnion, Declared}
use Rattle.elm_canon.specs.Unions.{tuple_alternative, nil_alternative, cons_alternative}
use Rattle.canon_env.specs.Found.{One}
use Rattle.canon_env.specs.Shown.{OfUnion}
use Rattle.canon_env.specs.Naming.{World, maker_found}
use Rattle.canon_module.specs.Resolve.{Setting, IsModule, world_of}
use Rattle.elm_canon.specs.Mentions.{Condition, DeclarationsMention}

-- a condition that tuples and lists meet
pub record Meets (P : Condition) : Type 0 where
  pub tuples : (n : ℕ) → P (TupleUnion n) (tuple_alternative n)
  pub nil : P ListUnion nil_alternative
  pub cons : P ListUnion cons_alternative

-- and each constructor that a name means
abbrev pub AllMeet : Condition → World → Type 0
AllMeet P w =
    (x : Long) (home : Name) (u : Union) (c : Alternative)
    → maker_found w x ≡ One (record { home = home; meaning = OfUnion u c }) → P u c

-- ---- the law

-- a constructor of tuples or of lists
abbrev pub IsGiven : Union → Alternative → Type 0
IsGiven (TupleUnion n) c = c ≡ tuple_alternative n
IsGiven ListUnion c = (c ≡ nil_alternative) ⊎ (c ≡ cons_alternative)
IsGiven (Declared m x cs) c = ⊥

-- or one that a name means
abbrev pub IsMeant : World → Union → Alternative → Type 0
IsMeant w u c =
    IsGiven u c
    ⊎ (x : Long) × (home : Name) × (maker_found w x ≡ One (record { home = home; meaning = OfUnion u c }))

-- a resolved module takes apart and builds such alone
abbrev pub ModulesMention : Type 0
ModulesMention =
    (s : Setting) (t : tree.Module) (m : canon.Module) → IsModule s t.declarations m
    → DeclarationsMention (IsMeant (world_of s t.declarations m)) (IsMeant (world_of s t.declarations m)) s.home
    m.declarations
