-- What a step of inference asks of variables, whatever types the items name; and where that cannot be.
use Rattle.std.specs.Prelude.{◌≡◌, ℕ, List, ◌∷◌, ◌++◌, true}
use Rattle.elm_base.specs.declared.position.Pos.{Pos}
use Rattle.elm_type.specs.Types.{Name}
use Rattle.elm_type.specs.declared.class.Class.{Class}
use Rattle.type_items.specs.Items.{Wanted, Item, Same, InClass, Lacks, lack_items, nonsense}
use Rattle.elm_type.specs.Ground.{lacks, lacks_all}
use Rattle.type_store.specs.Solutions.{Values, Fit}
use Rattle.type_walks.specs.Regions.{Region, none}
use Rattle.type_walks.specs.Links.{Links, AreLive, Has}
use Rattle.type_walks.specs.Walks.{Around, Walk}
use Rattle.type_constructs.specs.Failing.{Bad, Fails}
use Rattle.type_constructs.specs.Expressions.{Asked}
use Rattle.infer_steps.specs.Codes.{State}
use Rattle.infer_steps.specs.Ready.{Follows}

-- two variables have the same type
pub record AsksSame (old new : State) (pos : Pos) (v w : ℕ) : Type 0 where
  pub follows : Follows old new
  pub walk : (a : Around) (links : Links) (t u : Wanted) → a.depth ≡ old.depth → AreLive a.depth old.store links
      → Has links v t → Has links w u → Asked a (Same pos t u) old.store links new.store

pub record RefusesSame (old new : State) (pos : Pos) (v w : ℕ) (bad : Bad) : Type 0 where
  pub fails : (a : Around) (links : Links) (Q : Region) (t u : Wanted) (rest : List Item)
      → Has links v t → Has links w u → Fails a old.store links Q (Same pos t u ∷ rest) bad new.store

-- a variable meets a class
pub record AsksClass (old new : State) (pos : Pos) (v : ℕ) (c : Class) : Type 0 where
  pub follows : Follows old new
  pub walk : (a : Around) (links : Links) (t : Wanted) → a.depth ≡ old.depth → AreLive a.depth old.store links
      → Has links v t → Asked a (InClass pos t c) old.store links new.store

pub record RefusesClass (old new : State) (pos : Pos) (v : ℕ) (c : Class) (bad : Bad) : Type 0 where
  pub fails : (a : Around) (links : Links) (Q : Region) (t : Wanted) (rest : List Item)
      → Has links v t → Fails a old.store links Q (InClass pos t c ∷ rest) bad new.store

-- a variable is a record without a field
pub record AsksLack (old new : State) (pos : Pos) (v : ℕ) (x : Name) : Type 0 where
  pub follows : Follows old new
  pub back : (σ : Values) → Fit σ new.store → Fit σ old.store × (lacks x (σ.types v) ≡ true)
  pub walk : (a : Around) (links : Links) (t : Wanted) → a.depth ≡ old.depth → AreLive a.depth old.store links
      → Has links v t → Asked a (Lacks pos t x) old.store links new.store

pub record RefusesLack (old new : State) (pos : Pos) (v : ℕ) (x : Name) (bad : Bad) : Type 0 where
  pub fails : (a : Around) (links : Links) (Q : Region) (t : Wanted) (rest : List Item)
      → Has links v t → Fails a old.store links Q (Lacks pos t x ∷ rest) bad new.store

-- a variable is a record without these fields
pub record AsksLacks (old new : State) (pos : Pos) (v : ℕ) (xs : List Name) : Type 0 where
  pub follows : Follows old new
  pub back : (σ : Values) → Fit σ new.store → Fit σ old.store × (lacks_all xs (σ.types v) ≡ true)
  pub walk : (a : Around) (links : Links) (t : Wanted) → a.depth ≡ old.depth → AreLive a.depth old.store links
      → Has links v t → Walk a none (lack_items pos t xs) old.store links new.store links

pub record RefusesLacks (old new : State) (pos : Pos) (v : ℕ) (xs : List Name) (bad : Bad) : Type 0 where
  pub fails : (a : Around) (links : Links) (Q : Region) (t : Wanted) (rest : List Item) → a.depth ≡ old.depth
      → AreLive a.depth old.store links → Has links v t
      → Fails a old.store links Q (lack_items pos t xs ++ rest) bad new.store

-- what no types meet
pub record IsNonsense (old new : State) (pos : Pos) (bad : Bad) : Type 0 where
  pub fails : (a : Around) (links : Links) (Q : Region) (rest : List Item) → a.depth ≡ old.depth
      → AreLive a.depth old.store links → Fails a old.store links Q (nonsense pos ++ rest) bad new.store
