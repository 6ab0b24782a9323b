-- Which items are typable, which item is the first bad one, and what is said of it. (Elm guide: types, error messages.)
use Rattle.std.specs.Prelude.{◌≡◌, ℕ, ◌<◌, ◌≤◌, List, [], ◌∷◌, ◌++◌, codes}
use Rattle.elm_base.specs.declared.position.Pos.{Pos}
use Rattle.elm_base.specs.declared.fault.Code.{Code}
use Rattle.elm_base.specs.declared.fault.Code.TheVariants.{TypeMismatch, TypeTooLarge}
use Rattle.elm_type.specs.Types.{Name, ElmType, tuple, size, Leaf, Scheme}
use Rattle.elm_type.specs.Schemes.{rename}
use Rattle.elm_type.specs.Naming.{names_of}
use Rattle.elm_type.specs.Text.{text_in, leaf_name}
use Rattle.elm_type.specs.Used.{stem}
use Rattle.elm_type.specs.declared.frame.Around.TheVariants.{Alone}
use Rattle.type_items.specs.Items.{Place, Wanted, Item, Same, InClass, Lacks, Keeps, Small, place_of}
use Rattle.type_items.specs.Solutions.{Solution, Unsolvable}
use Rattle.type_items.specs.Principal.{IsPrincipal}

-- so many nodes a type may have
abbrev pub limit : ℕ
limit = 65536

-- the principal type of t is no larger
pub record IsSmall (p : Place) (items : List Item) (t : Wanted) : Type 0 where
  pub scheme : Scheme
  pub principal : IsPrincipal p items t scheme
  pub small : size scheme.type ≤ limit

-- it is larger
pub record IsLarge (p : Place) (items : List Item) (t : Wanted) : Type 0 where
  pub scheme : Scheme
  pub principal : IsPrincipal p items t scheme
  pub large : limit < size scheme.type

-- the items of a module at the place p can be solved, and no type among them is too large where its size is asked for
pub record Typable (p : Place) (items : List Item) : Type 0 where
  pub solution : Solution items
  pub small : (before after : List Item) (pos : Pos) (t : Wanted) → items ≡ before ++ Small pos t ∷ after
      → IsSmall p before t

-- ---- what is said of a bad item, in UTF-16 units

-- the text of a part of a scheme's type, where the scheme has its variables in order of appearance
abbrev pub part_text : Scheme → ElmType (Leaf ℕ) → Name
part_text s t = text_in (leaf_name (names_of s)) Alone t

-- LEFT /= RIGHT: the principal type of the pair says how the variables of both are named
pub record IsPairText (p : Place) (items : List Item) (t u : Wanted) (text : Name) : Type 0 where
  pub scheme : Scheme
  pub ordered : rename scheme ≡ scheme
  pub left : ElmType (Leaf ℕ)
  pub right : ElmType (Leaf ℕ)
  pub pair : scheme.type ≡ tuple (left ∷ right ∷ [])
  pub principal : IsPrincipal p items (tuple (t ∷ u ∷ [])) scheme
  pub says : text ≡ part_text scheme left ++ codes " /= " ++ part_text scheme right

-- TYPE is not CLASS
pub record IsClassText (p : Place) (items : List Item) (t : Wanted) (class : Name) (text : Name) : Type 0 where
  pub scheme : Scheme
  pub ordered : rename scheme ≡ scheme
  pub principal : IsPrincipal p items t scheme
  pub says : text ≡ part_text scheme scheme.type ++ codes " is not " ++ class

-- ---- the first bad item

-- a mismatch: the item after those before it has no solution
abbrev pub IsMismatch : List Item → Item → Code → Type 0
IsMismatch before bad code = (code ≡ TypeMismatch) × Unsolvable (before ++ bad ∷ [])

-- what is bad at an item after those before it, which can be solved
abbrev pub IsFault : Place → List Item → Item → Code → Name → Type 0
IsFault p before (Same pos t u) code detail = IsMismatch before (Same pos t u) code × IsPairText p before t u detail
IsFault p before (InClass pos t c) code detail =
    IsMismatch before (InClass pos t c) code × IsClassText p before t (stem c) detail
IsFault p before (Lacks pos t x) code detail =
    IsMismatch before (Lacks pos t x) code × (detail ≡ codes "field " ++ x ++ codes " twice")
IsFault p before (Keeps pos r ts) code detail =
    IsMismatch before (Keeps pos r ts) code × (detail ≡ r.name ++ codes " escapes")
IsFault p before (Small pos t) code detail = (code ≡ TypeTooLarge) × IsLarge p before t × (detail ≡ [])

-- the last item of the shortest prefix without a solution, or the first type that is too large: where it stands, and
-- what is said of it
pub record FirstBad (p : Place) (items : List Item) (code : Code) (pos : Pos) (detail : Name) : Type 0 where
  pub before : List Item
  pub bad : Item
  pub after : List Item
  pub split : items ≡ before ++ bad ∷ after
  pub here : place_of bad ≡ pos
  pub fine : Typable p before
  pub fault : IsFault p before bad code detail
