-- Names that patterns bind.
use Rattle.std.proofs.Common.{◌≡◌, List, [], ◌∷◌, ◌++◌, map, refl, sym, ap, ◌∙◌}
use Rattle.std.specs.List.{AllByRecursion}
use Rattle.std.proofs.lemmas.List.{map-append, reverse-append}
use Rattle.elm_canon.specs.declared.reference.Ref.{Ref}
use Rattle.elm_canon.specs.declared.reference.Ref.TheVariants.{Local}
use Rattle.type_items.specs.Scopes.{Entry, Mono, Instance, General, Entries}
use Rattle.type_walks.specs.Links.{Links, Live}
use Rattle.type_constructs.specs.Binding.{BoundHas, BoundHave}
use Rattle.infer_steps.specs.Codes.{Code, State, Bound, One, with_meaning, with_bound}
use Rattle.infer_steps.specs.Means.{BindsEntry, Binds}
use Rattle.infer_steps.specs.Ready.{Follows}
use Rattle.infer_steps.specs.Leaving.{without}
use Rattle.infer_steps.specs.declared.scope.Entered.{Entered}
use Rattle.infer_steps.proofs.Scoping.{without_more}
use Rattle.infer_steps.proofs.Stepping.{still_live}
use Rattle.infer_patterns.specs.View.{bound_view, in_scope}
use Rattle.infer_patterns.specs.declared.bound.Bound.{Bound as Stored}

-- ---- what they are in scope

binds_one : (links : Links) (b : Bound) (x : Ref) (e : Entry) → BoundHas links b (x, e) → BindsEntry links b (x, e)
binds_one links b x (Mono t) h = h
binds_one links b x (Instance s) h = absurd h.1
binds_one links b x (General list type) h = absurd h.1

pub binds_of : (links : Links) (bound : List Bound) (names : Entries) → BoundHave links bound names
    → Binds links bound names
binds_of links [] [] h = tt
binds_of links [] (e ∷ names) h = h
binds_of links (b ∷ bound) [] h = h
binds_of links (b ∷ bound) (e ∷ names) h = (binds_one links b e.0 e.1 h.0, binds_of links bound names h.1)

-- ---- variables of names stay in use

module _ (s t : State) (f : Follows s t) where
  pub bound_live : (bs : List Bound) → AllByRecursion (λ (b : Bound). Live s.depth s.store b.1) bs
      → AllByRecursion (λ (b : Bound). Live t.depth t.store b.1) bs
  bound_live [] h = tt
  bound_live (b ∷ bs) h = (still_live s t b.1 f h.0, bound_live bs h.1)

pub all_both : {X : Type 0} (P : X → Type 0) (xs ys : List X) → AllByRecursion P xs → AllByRecursion P ys
    → AllByRecursion P (xs ++ ys)
all_both P [] ys h k = k
all_both P (x ∷ xs) ys h k = (h.0, all_both P xs ys h.1 k)

-- ---- in turn

pub scope_push : (bs : List Stored) (b : Stored) → in_scope (bs ++ b ∷ []) ≡ bound_view b ∷ in_scope bs
scope_push bs b = ap (map bound_view) (reverse-append bs (b ∷ []))

with_last : (bs : List Bound) (b : Bound) (code : Code)
    → with_bound (bs ++ b ∷ []) code ≡ with_bound bs (with_meaning (Local b.0) (One b.1) code)
with_last [] b code = refl
with_last (c ∷ bs) b code = ap (with_meaning (Local c.0) (One c.1)) (with_last bs b code)

-- the last of those that wait comes into scope
pub entered_scope : (bs rest : List Stored) (b : Stored) (code next : Code) → bs ≡ rest ++ b ∷ []
    → next ≡ with_meaning (Local b.name) (One b.variable) code
    → with_bound (map bound_view rest) next ≡ with_bound (map bound_view bs) code
entered_scope bs rest b code next is e =
    ap (with_bound (map bound_view rest)) e
    ∙ (sym (with_last (map bound_view rest) (bound_view b) code)
    ∙ ap (λ l. with_bound l code) (sym (ap (map bound_view) is ∙ map-append bound_view rest (b ∷ []))))

-- and goes again before those before it
pub entered_back : (es : List Entered) (e : Entered) (code next first : Code) → without (e ∷ []) next ≡ code
    → without es code ≡ first
    → without (es ++ e ∷ []) next ≡ first
entered_back es e code next first h k = without_more es (e ∷ []) next ∙ (ap (without es) h ∙ k)
