-- A store with a variable more: its solutions are those of the store with a type for the variable that its cell says.
use Rattle.std.proofs.Common.{◌≡◌, ℕ, ◌<◌, [], ◌∷◌, ◌++◌, length, ⊎_elim, true, sym, ap, ◌∙◌, subst, arith}
use Rattle.std.specs.List.{All, Contains}
use Rattle.std.proofs.lemmas.Bool.{cases_lt}
use Rattle.std.proofs.lemmas.List.{length_push, append-nil, append_assoc}
use Rattle.std.proofs.lemmas.List.Elements.{Contains-append_left}
use Rattle.elm_type.specs.Classes.{Ground}
use Rattle.elm_type.specs.Ground.{is_ground}
use Rattle.type_store.specs.Store.{Cell, Slot, Store, slot_at}
use Rattle.type_store.specs.Shape.{IsStore, parts_of}
use Rattle.type_store.specs.Solutions.{Values, Says, Meets, Renames, constant_of, constants_of, Fit}
use Rattle.type_store.specs.Steps.{put}
use Rattle.type_store.proofs.Turns.{Which, Yes, Not, which, slot_pushed, slot_before, open_meets, renames_fewer}
use Rattle.type_store.proofs.Parts.{slot_past}
use Rattle.type_store.proofs.OneSlot.{put_meets}
use Rattle.type_store.proofs.NewSlot.{glued, glued_at, glued_off, glued_agrees, says_same}

constants_pushed : (s : Store) (x : Slot) → constants_of (s ++ x ∷ []) ≡ constants_of s ++ constant_of x.cell
constants_pushed [] x = append-nil (constant_of x.cell)
constants_pushed (y ∷ s) x =
    ap (λ rs. constant_of y.cell ++ rs) (constants_pushed s x) ∙ sym (append_assoc (constant_of y.cell) (constants_of s) (constant_of x.cell))

module _ (s : Store) (c : Cell) (d : ℕ) where
  abbrev made : Store
  made = s ++ put c d ∷ []

  -- a solution of the new store is one of the old, and the new variable's type is what the cell says
  pub made_back : (σ : Values) → Fit σ made → Fit σ s × Says σ (σ.types (length s)) c
  made_back σ f = (
    record {
      renames = renames_fewer (constants_of made) (constants_of s) σ.constants
          (λ r h. subst (λ xs. Contains xs r) (sym (constants_pushed s (put c d))) (Contains-append_left (constants_of s) (constant_of c) r h)) f.renames;
      each = λ w. go w (which w (length s));
    },
    said (subst (λ (x : Slot). Meets σ x (σ.types (length s))) (slot_pushed s (put c d)) (f.each (length s))),
  )
    where
      said : Meets σ (put c d) (σ.types (length s)) → Says σ (σ.types (length s)) c
      said m = m.cell

      go : (w : ℕ) → Which w (length s) → Meets σ (slot_at s w) (σ.types w)
      go w (Yes e) = subst (λ (x : Slot). Meets σ x (σ.types w)) (sym (slot_past s w (omega (arith, e)))) (open_meets σ (σ.types w) (f.each w).ground)
      go w (Not n) = ⊎_elim
          (λ l. subst (λ (x : Slot). Meets σ x (σ.types w)) (slot_before s (put c d) w l) (f.each w))
          (λ h. subst (λ (x : Slot). Meets σ x (σ.types w)) (sym (slot_past s w h)) (open_meets σ (σ.types w) (f.each w).ground)) (cases_lt w (length s))

  -- a solution of the old store, with a type for the new variable that the cell says, is one of the new store
  pub made_on : IsStore s → All (λ w. w < length s) (parts_of c) → (σ : Values) (t : Ground) → Fit σ s → Says σ t c → is_ground t ≡ true
      → Renames (constants_of (s ++ put c d ∷ [])) σ.constants → Fit (glued (length s) σ t) made
  made_on whole inside σ t f says ground renames = record { renames = renames; each = λ w. go w (which w (length s)) }
    where
      go : (w : ℕ) → Which w (length s) → Meets (glued (length s) σ t) (slot_at (s ++ put c d ∷ []) w) ((glued (length s) σ t).types w)
      go w (Yes e) =
          subst (λ u. Meets (glued (length s) σ t) (slot_at (s ++ put c d ∷ []) u) ((glued (length s) σ t).types u)) (sym e)
          (subst (λ (x : Slot). Meets (glued (length s) σ t) x ((glued (length s) σ t).types (length s))) (sym (slot_pushed s (put c d)))
          (put_meets (glued (length s) σ t) c d ((glued (length s) σ t).types (length s))
          (subst (λ u. Says (glued (length s) σ t) u c) (sym (glued_at (length s) σ t)) (says_same (length s) σ (glued (length s) σ t) t c (glued_agrees (length s) σ t) inside says))
          (ap is_ground (glued_at (length s) σ t) ∙ ground)))
      go w (Not n) = ⊎_elim
          (λ l. subst (λ (x : Slot). Meets (glued (length s) σ t) x ((glued (length s) σ t).types w)) (sym (slot_before s (put c d) w l))
          (subst (λ u. Meets (glued (length s) σ t) (slot_at s w) u) (sym (glued_off (length s) σ t w n)) (record {
            cell = says_same (length s) σ (glued (length s) σ t) (σ.types w) (slot_at s w).cell (glued_agrees (length s) σ t) (whole.each w l).inside (f.each w).cell;
            kind = (f.each w).kind;
            ground = (f.each w).ground;
          })))
          (λ h. subst (λ (x : Slot). Meets (glued (length s) σ t) x ((glued (length s) σ t).types w))
          (sym (slot_past (s ++ put c d ∷ []) w (omega (arith, h, n, length_push s (put c d)))))
          (open_meets (glued (length s) σ t) ((glued (length s) σ t).types w) (ap is_ground (glued_off (length s) σ t w n) ∙ (f.each w).ground))) (cases_lt w (length s))
