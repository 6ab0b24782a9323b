-- Where items stop, the variables of the bad one are there: the links that say its types would say so of other types
-- too.
use Rattle.std.proofs.Common.{◌≡◌, ℕ, ◌<◌, ◌≤◌, List, [], ◌∷◌, length, false, cond, nat_eq, refl, sym, ap, ◌∙◌, arith}
use Rattle.std.proofs.Common.{⊎_elim}
use Rattle.std.proofs.lemmas.Bool.{cases_lt, eq-eqb}
use Rattle.std.proofs.lemmas.Bool.Decides.{nat_tests}
use Rattle.elm_type.specs.Types.{int_type, tuple}
use Rattle.elm_type.specs.Classes.{Ground}
use Rattle.elm_type.specs.Ground.{value}
use Rattle.type_items.specs.Items as asked
use Rattle.type_items.specs.Items.{Place, Wanted, Item}
use Rattle.type_items.specs.Solutions.{Solution}
use Rattle.type_items.proofs.Parts.{solves_unscoped}
use Rattle.type_store.specs.Store.{Store}
use Rattle.type_store.specs.Solutions.{Values}
use Rattle.type_walks.specs.Links.{Types, Links, Linked, Has, AreLive}
use Rattle.type_walks.specs.Progress.{Reached}
use Rattle.type_constructs.specs.Failing.{Same, InClass, Lacks, Keeps, Large, Bad, Shows, IsBad}
use Rattle.infer.specs.Inside.{IsInside, StopsInside}

module _ (s : Store) (d : ℕ) (links : Links) (live : AreLive d s links) (σ : Values) (types : Types)
    (linked : Linked links σ types)
    (v : ℕ) (past : length s ≤ v) where
  with_type : Ground → Values
  with_type g = record { types = λ u. cond (nat_eq u v) g (σ.types u); constants = σ.constants }

  still : (g : Ground) (ls : Links) → AreLive d s ls → Linked ls σ types → Linked ls (with_type g) types
  unfolding with_type
  still g [] a h = tt
  still g (l ∷ ls) a h = (
    (let i = a.0.inside in
        let e : nat_eq l.0 v ≡ false = grind (arith, nat_tests) in
        ap (λ b. cond b g (σ.types l.0)) e ∙ h.0),
    still g ls a.1 h.1,
  )

  there : (g : Ground) (t : Wanted) → Has links v t → g ≡ value types t
  unfolding with_type
  there g t has =
      sym (ap (λ b. cond b g (σ.types v)) (eq-eqb v v refl)) ∙ has.same (with_type g) types (still g links live linked)

  pub never_past : (t : Wanted) → Has links v t → ⊥
  never_past t has =
      let e : int_type ≡ tuple [] = there int_type t has ∙ sym (there (tuple []) t has) in
      absurd (cc)

module _ (p : Place) (before : List Item) (s : Store) (fine : Solution before) (types : Links)
    (shows : Shows p before s types) where
  reached : Reached s shows.links fine.values
  reached = shows.stands.complete fine.values fine.ground (solves_unscoped fine.values before fine.solves)

  has_inside : (v : ℕ) (t : Wanted) → Has shows.links v t → v < length s
  has_inside v t has =
      ⊎_elim (λ l. l)
      (λ h. absurd (never_past s shows.around.depth shows.links shows.stands.live reached.values fine.values
      reached.linked v h t has))
      (cases_lt v (length s))

item_inside : (p : Place) (before : List Item) (s : Store) → Solution before → (item : Item) (bad : Bad)
    → IsBad p before s item bad → IsInside (length s) bad
item_inside p before s fine (asked.Same pos t u) (Same here v w) is = (
  has_inside p before s fine ((v, t) ∷ (w, u) ∷ []) is.2 v t is.2.has.0,
  has_inside p before s fine
      ((v, t) ∷ (w, u) ∷ []) is.2 w u is.2.has.1.0,
)
item_inside p before s fine (asked.Same pos t u) (InClass here v d) is = absurd is
item_inside p before s fine (asked.Same pos t u) (Lacks here v y) is = absurd is
item_inside p before s fine (asked.Same pos t u) (Keeps here y) is = absurd is
item_inside p before s fine (asked.Same pos t u) (Large here v) is = absurd is
item_inside p before s fine (asked.InClass pos t c) (Same here v w) is = absurd is
item_inside p before s fine (asked.InClass pos t c) (InClass here v d) is =
    has_inside p before s fine ((v, t) ∷ []) is.3 v t is.3.has.0
item_inside p before s fine (asked.InClass pos t c) (Lacks here v y) is = absurd is
item_inside p before s fine (asked.InClass pos t c) (Keeps here y) is = absurd is
item_inside p before s fine (asked.InClass pos t c) (Large here v) is = absurd is
item_inside p before s fine (asked.Lacks pos t x) (Same here v w) is = absurd is
item_inside p before s fine (asked.Lacks pos t x) (InClass here v d) is = absurd is
item_inside p before s fine (asked.Lacks pos t x) (Lacks here v y) is = tt
item_inside p before s fine (asked.Lacks pos t x) (Keeps here y) is = absurd is
item_inside p before s fine (asked.Lacks pos t x) (Large here v) is = absurd is
item_inside p before s fine (asked.Keeps pos r ts) (Same here v w) is = absurd is
item_inside p before s fine (asked.Keeps pos r ts) (InClass here v d) is = absurd is
item_inside p before s fine (asked.Keeps pos r ts) (Lacks here v y) is = absurd is
item_inside p before s fine (asked.Keeps pos r ts) (Keeps here y) is = tt
item_inside p before s fine (asked.Keeps pos r ts) (Large here v) is = absurd is
item_inside p before s fine (asked.Small pos t) (Same here v w) is = absurd is
item_inside p before s fine (asked.Small pos t) (InClass here v d) is = absurd is
item_inside p before s fine (asked.Small pos t) (Lacks here v y) is = absurd is
item_inside p before s fine (asked.Small pos t) (Keeps here y) is = absurd is
item_inside p before s fine (asked.Small pos t) (Large here v) is = tt

pub stops_inside : StopsInside
stops_inside p items bad s fails = item_inside p fails.before s fails.fine.solution fails.item bad fails.is
