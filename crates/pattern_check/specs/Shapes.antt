-- Shapes: what patterns ask of a value, whatever they name. (Elm guide: pattern matching.)
--
-- A shape stands for all values that look so. It is what is left of a pattern without its names and positions. In a
-- place of literals a shape may also have another literal than all those that the patterns have.
use Rattle.std.specs.Prelude.{◌≡◌, ℕ, zero, suc, List, Bool, true, false, ◌&&◌, ◌==◌, ⊤, IsTrue}
use Rattle.std.specs.List.{Contains}
use Rattle.elm_canon.specs.Names.{same_name}
use Rattle.elm_canon.specs.Unions.{Union, alternatives}
use Rattle.elm_canon.specs.Tree as plain
use Rattle.elm_canon.specs.declared.unions.Alternative.{Alternative}
use Rattle.elm_canon.specs.declared.unions.Tag.{Tag}
use Rattle.elm_canon.specs.declared.tree.Literal.{Literal}
use Rattle.elm_canon.specs.declared.tree.Literal.TheVariants as literal
use Rattle.elm_canon.specs.Constructors.{same_int, same_tag, is_one_of}

-- ---- what shapes there are

-- what a shape begins with: a literal, one that no pattern has, or a constructor of a union
pub data Head : Type 0 where
  Literally : Literal → Head
  OtherLiteral : Head
  Constructor : Union → Alternative → Head

mutual
  pub data Shape : Type 0 where
    -- anything
    Open : Shape
    -- a literal, or a constructor with a shape for each field
    Begins : Head → Shapes → Shape

  pub data Shapes : Type 0 where
    NoShape : Shapes
    MoreShape : Shape → Shapes → Shapes

-- the shape of a pattern
abbrev mutual
  pub shape_of : plain.Pattern → Shape
  shape_of plain.Anything = Open
  shape_of (plain.Named x) = Open
  shape_of (plain.As p x) = shape_of p
  shape_of (plain.Exactly l) = Begins (Literally l) NoShape
  shape_of (plain.Construct u a ps) = Begins (Constructor u a) (shapes_of ps)
  shape_of (plain.FieldsOf xs) = Open
  shape_of (plain.LocatedPattern place p) = shape_of p

  pub shapes_of : plain.Patterns → Shapes
  shapes_of plain.NoPattern = NoShape
  shapes_of (plain.MorePattern p ps) = MoreShape (shape_of p) (shapes_of ps)

-- a shape as it is written: another literal is `_`
abbrev mutual
  pub written : Shape → plain.Pattern
  written Open = plain.Anything
  written (Begins (Literally l) ss) = plain.Exactly l
  written (Begins OtherLiteral ss) = plain.Anything
  written (Begins (Constructor u a) ss) = plain.Construct u a (written_all ss)

  pub written_all : Shapes → plain.Patterns
  written_all NoShape = plain.NoPattern
  written_all (MoreShape s ss) = plain.MorePattern (written s) (written_all ss)

-- ---- which are the same

abbrev pub same_literal : Literal → Literal → Bool
same_literal (literal.Int m) (literal.Int n) = same_int m n
same_literal (literal.Char s) (literal.Char t) = same_name s t
same_literal (literal.Text s) (literal.Text t) = same_name s t
same_literal _ _ = false

-- what tells a head from others: constructors of one union are told apart by their tags
pub data Key : Type 0 where
  LiteralKey : Literal → Key
  OtherKey : Key
  ConstructorKey : Tag → ℕ → Key

abbrev pub key_of : Head → Key
key_of (Literally l) = LiteralKey l
key_of OtherLiteral = OtherKey
key_of (Constructor u a) = ConstructorKey a.tag a.arity

abbrev pub same_key : Key → Key → Bool
same_key (LiteralKey l) (LiteralKey m) = same_literal l m
same_key OtherKey OtherKey = true
same_key (ConstructorKey s m) (ConstructorKey t n) = same_tag s t && (m == n)
same_key _ _ = false

abbrev pub same_head : Head → Head → Bool
same_head g h = same_key (key_of g) (key_of h)

-- ---- what is proper

abbrev pub width : Shapes → ℕ
width NoShape = zero
width (MoreShape s ss) = suc (width ss)

-- how many fields it has
abbrev pub arity_of : Head → ℕ
arity_of (Constructor u a) = a.arity
arity_of _ = zero

abbrev pub IsKnown : Head → Type 0
IsKnown (Constructor u a) = IsTrue (is_one_of a (alternatives u))
IsKnown _ = ⊤

-- each constructor is one of its union, with a shape for each field
abbrev mutual
  pub IsProper : Shape → Type 0
  IsProper Open = ⊤
  IsProper (Begins h ss) = IsKnown h × ((width ss ≡ arity_of h) × AreProper ss)

  pub AreProper : Shapes → Type 0
  AreProper NoShape = ⊤
  AreProper (MoreShape s ss) = IsProper s × AreProper ss

-- ---- what fits

abbrev pub same_kind : Literal → Literal → Bool
same_kind (literal.Int m) (literal.Int n) = true
same_kind (literal.Char s) (literal.Char t) = true
same_kind (literal.Text s) (literal.Text t) = true
same_kind _ _ = false

-- a value may begin with the second where a pattern begins with the first: literals of one kind, constructors of one
-- union
abbrev pub IsAlike : Head → Head → Type 0
IsAlike (Literally l) (Literally m) = IsTrue (same_kind l m)
IsAlike (Literally l) OtherLiteral = ⊤
IsAlike (Constructor u a) (Constructor v b) = u ≡ v
IsAlike _ _ = ⊥

-- the second may be a shape of the type of the pattern whose shape is the first
abbrev mutual
  pub Fits : Shape → Shape → Type 0
  Fits Open s = ⊤
  Fits (Begins g ps) Open = ⊤
  Fits (Begins g ps) (Begins h ss) = IsAlike g h × (IsTrue (same_head g h) → AllFit ps ss)

  pub AllFit : Shapes → Shapes → Type 0
  AllFit NoShape NoShape = ⊤
  AllFit (MoreShape p ps) (MoreShape s ss) = Fits p s × AllFit ps ss
  AllFit _ _ = ⊥

-- patterns of one type, by their shapes
pub record OfOneType (ps : List Shape) : Type 0 where
  pub proper : (p : Shape) → Contains ps p → IsProper p
  pub alike : (p q : Shape) → Contains ps p → Contains ps q → Fits p q

-- ---- what overlaps

-- no place has two different constructors or literals
abbrev mutual
  pub overlaps : Shape → Shape → Bool
  overlaps Open s = true
  overlaps (Begins g ps) Open = true
  overlaps (Begins g ps) (Begins h ss) = same_head g h && all_overlap ps ss

  pub all_overlap : Shapes → Shapes → Bool
  all_overlap NoShape NoShape = true
  all_overlap (MoreShape p ps) (MoreShape s ss) = overlaps p s && all_overlap ps ss
  all_overlap _ _ = false

-- the second is a special case of the first
abbrev mutual
  pub IsSpecial : Shape → Shape → Type 0
  IsSpecial Open s = ⊤
  IsSpecial (Begins g ps) Open = ⊥
  IsSpecial (Begins g ps) (Begins h ss) = (g ≡ h) × AreSpecial ps ss

  pub AreSpecial : Shapes → Shapes → Type 0
  AreSpecial NoShape NoShape = ⊤
  AreSpecial (MoreShape p ps) (MoreShape s ss) = IsSpecial p s × AreSpecial ps ss
  AreSpecial _ _ = ⊥

-- ---- what is missing, and what is redundant

-- the shape is of the type of the patterns, and overlaps none of them
pub record IsMissing (ps : List Shape) (s : Shape) : Type 0 where
  pub proper : IsProper s
  pub fits : (p : Shape) → Contains ps p → Fits p s
  pub avoids : (p : Shape) → Contains ps p → overlaps p s ≡ false

-- the patterns leave something out
abbrev pub Misses : List Shape → Type 0
Misses ps = (s : Shape) × IsMissing ps s

-- each special case of the pattern that is of the type of the earlier ones overlaps one of them
abbrev pub IsRedundant : List Shape → Shape → Type 0
IsRedundant earlier p =
    (s : Shape) → IsSpecial p s → IsProper s → ((q : Shape) → Contains earlier q → Fits q s)
    → (q : Shape) × Contains earlier q × (overlaps q s ≡ true)
