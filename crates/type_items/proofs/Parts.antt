-- Items without some of them.
use Rattle.std.specs.Prelude.{List, [], ◌∷◌}
use Rattle.type_items.specs.Items.{Item, Same, InClass, Lacks, Keeps, Small, copied}
use Rattle.type_items.specs.Solutions.{Values, Solves, CopiesAskTheSame}
use Rattle.type_items.specs.Principal.{UnscopedAskLess}

-- a copy is solved
pub solves_copied : (values : Values) (items : List Item) → Solves values items → Solves values (copied items)
solves_copied values [] h = tt
solves_copied values (Same pos t u ∷ is) h = (h.0, solves_copied values is h.1)
solves_copied values (InClass pos t c ∷ is) h = (h.0, solves_copied values is h.1)
solves_copied values (Lacks pos t x ∷ is) h = (h.0, solves_copied values is h.1)
solves_copied values (Keeps pos r ts ∷ is) h = (h.0, solves_copied values is h.1)
solves_copied values (Small pos t ∷ is) h = solves_copied values is h.1

-- and what solves a copy solves the items
pub solves_uncopied : (values : Values) (items : List Item) → Solves values (copied items) → Solves values items
solves_uncopied values [] h = tt
solves_uncopied values (Same pos t u ∷ is) h = (h.0, solves_uncopied values is h.1)
solves_uncopied values (InClass pos t c ∷ is) h = (h.0, solves_uncopied values is h.1)
solves_uncopied values (Lacks pos t x ∷ is) h = (h.0, solves_uncopied values is h.1)
solves_uncopied values (Keeps pos r ts ∷ is) h = (h.0, solves_uncopied values is h.1)
solves_uncopied values (Small pos t ∷ is) h = (tt, solves_uncopied values is h)

pub copies_ask : CopiesAskTheSame
copies_ask values items = (solves_copied values items, solves_uncopied values items)

pub solves_unscoped : UnscopedAskLess
solves_unscoped values [] h = tt
solves_unscoped values (Same pos t u ∷ is) h = (h.0, solves_unscoped values is h.1)
solves_unscoped values (InClass pos t c ∷ is) h = (h.0, solves_unscoped values is h.1)
solves_unscoped values (Lacks pos t x ∷ is) h = (h.0, solves_unscoped values is h.1)
solves_unscoped values (Keeps pos r ts ∷ is) h = solves_unscoped values is h.1
solves_unscoped values (Small pos t ∷ is) h = (h.0, solves_unscoped values is h.1)
