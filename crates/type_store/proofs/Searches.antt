-- A search begins at rest, and ends at rest.
use Rattle.std.proofs.Common.{◌≡◌, ℕ, ◌<◌, ◌≤◌, List, [], ◌∷◌, ◌++◌, ⊎_elim}
use Rattle.std.proofs.Common.{length, get_or, set, refl, sym, ap, ◌∙◌, arith}
use Rattle.std.specs.List.{All}
use Rattle.std.proofs.lemmas.Bool.{cases_lt, cases_eq}
use Rattle.std.proofs.lemmas.List.{length-map, length_push, get_or_default, get_or_push, get_or_append_left, get_or_past}
use Rattle.std.proofs.lemmas.List.Elements.{All-weaker, All-nil, All-from_get_or}
use Rattle.type_store.specs.Store.{Store}
use Rattle.type_store.specs.View.{store_view, slot_view}
use Rattle.type_store.specs.Cycles.{mark_of, step_at, IsWalk}
use Rattle.type_store.specs.declared.slot.Slot.{Slot}
use Rattle.type_store.specs.declared.cycle.Mark.{Mark}
use Rattle.type_store.specs.declared.cycle.Mark.TheVariants.{New, Open, Done}
use Rattle.type_store.specs.declared.cycle.Step.{Step}
use Rattle.type_store.proofs.Walks.{opened}

new_not_open : (p : ℕ) → New ≡ Open p → ⊥
new_not_open p e = cc

new_not_done : (p : ℕ) → New ≡ Done p → ⊥
new_not_done p e = cc

-- no mark, no path
pub begun : (s : Store) (marks : List Mark) → length s ≤ length marks → ((v : ℕ) → mark_of marks v ≡ New) → IsWalk s marks [] []
begun s marks l e = record {
  all = l;
  on_path = λ v p d. absurd (new_not_open p (sym (e v) ∙ d));
  marked = λ p k. absurd (omega (arith, k));
  within = λ p k. absurd (omega (arith, k));
  leads = λ p q a k. absurd (omega (arith, k));
  looked = λ p k. absurd (omega (arith, k));
  done_parts = λ v n d. absurd (new_not_done n (sym (e v) ∙ d));
  done_at = λ v n d. absurd (new_not_done n (sym (e v) ∙ d));
  done_within = All-nil (λ v. v < length s);
}

-- a path begins
pub begin_new : (slots : List Slot) {marks : List Mark} {path : List Step} {done : List ℕ} → IsWalk (store_view slots) marks path done → path ≡ []
    → (v : ℕ) → v < length slots → (d : Mark) → d ≡ get_or marks v d → d ≡ New
    → IsWalk (store_view slots) (set marks v (Open (length path))) (path ++ record { slot = v; part = 0 } ∷ []) done
begin_new slots {marks} {path} w empty v l d e f =
    let k : v < length (store_view slots) = omega (arith, l, length-map slots slot_view) in
    opened w v k (get_or_default marks v New d (omega (arith, k, w.all)) ∙ (sym e ∙ f)) (λ p h. absurd (omega (arith, h, ap length empty)))

-- what stands on the path, or is done, has been forgotten
pub at_rest : (marks between after : List Mark) (path path' : List Step) (done done' : List ℕ) → path' ≡ path → done' ≡ done
    → ((v p : ℕ) → mark_of marks v ≡ Open p → (p < length path) × ((step_at path p).slot ≡ v))
    → ((v n : ℕ) → mark_of marks v ≡ Done n → (n < length done) × (get_or done n 0 ≡ v))
    → ((k : ℕ) → k < length done' → mark_of between (get_or done' k 0) ≡ New)
    → ((v : ℕ) → mark_of marks v ≡ New → mark_of between v ≡ New)
    → ((k : ℕ) → k < length path' → mark_of after (step_at path' k).slot ≡ New)
    → ((v : ℕ) → mark_of between v ≡ New → mark_of after v ≡ New)
    → (v : ℕ) → mark_of after v ≡ New
at_rest marks between after path path' done done' a b on_path done_at f g h k v = go (mark_of marks v) refl
  where
    go : (m : Mark) → mark_of marks v ≡ m → mark_of after v ≡ New
    go New e = k v (g v e)
    go (Open p) e =
        let r = on_path v p e in
        ap (mark_of after) (sym (ap (λ xs. (step_at xs p).slot) a ∙ r.1)) ∙ h p (omega (arith, r.0, ap length a))
    go (Done n) e =
        let r = done_at v n e in
        k v (ap (mark_of between) (sym (ap (λ xs. get_or xs n 0) b ∙ r.1)) ∙ f n (omega (arith, r.0, ap length b)))

-- one mark more, which is no mark
pub more_marks : (marks : List Mark) → ((v : ℕ) → mark_of marks v ≡ New) → (v : ℕ) → mark_of (marks ++ New ∷ []) v ≡ New
more_marks marks e v =
    ⊎_elim (λ l. get_or_append_left marks (New ∷ []) New v l ∙ e v)
    (λ h. ⊎_elim (λ q. get_or_push marks New New v (sym q)) (λ n. get_or_past (marks ++ New ∷ []) v New (omega (arith, h, n, length_push marks New))) (cases_eq v (length marks)))
    (cases_lt v (length marks))

module _ (slots : List Slot) {marks : List Mark} {path : List Step} {done : List ℕ} (w : IsWalk (store_view slots) marks path done) where
  pub done_within : All (λ v. v < length marks) done
  done_within = All-weaker (λ v. v < length (store_view slots)) (λ v. v < length marks) (λ v l. omega (arith, l, w.all)) done w.done_within

  pub path_within : All (λ (x : Step). x.slot < length marks) path
  path_within =
      All-from_get_or (λ (x : Step). x.slot < length marks) path (record { slot = 0; part = 0 }) (λ p l. let r = w.within p l in omega (arith, r, w.all))

  -- what is marked is done, where no path is left
  pub marked_done : path ≡ [] → (v : ℕ) → (mark_of marks v ≡ New → ⊥) → (n : ℕ) × (mark_of marks v ≡ Done n)
  marked_done empty v h = go (mark_of marks v) refl
    where
      go : (m : Mark) → mark_of marks v ≡ m → (n : ℕ) × (mark_of marks v ≡ Done n)
      go New e = absurd (h e)
      go (Open p) e = let r = w.on_path v p e in absurd (omega (arith, r.0, ap length empty))
      go (Done n) e = (n, e)

  pub all_marked_done : path ≡ [] → (changed : List ℕ) → All (λ v. mark_of marks v ≡ New → ⊥) changed → All (λ v. (n : ℕ) × (mark_of marks v ≡ Done n)) changed
  all_marked_done empty changed h = All-weaker (λ v. mark_of marks v ≡ New → ⊥) (λ v. (n : ℕ) × (mark_of marks v ≡ Done n)) (marked_done empty) changed h
