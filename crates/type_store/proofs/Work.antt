-- The work that is left falls.
use Rattle.std.proofs.Common.{◌≡◌, ℕ, zero, suc, ◌+◌, ◌-◌, ◌<◌, ◌≤◌, List, [], ◌∷◌, ◌++◌, length, set, take, sym, ap, ◌∙◌, arith}
use Rattle.std.proofs.lemmas.List.{take_more, take_all, set_split, drop_all}
use Rattle.type_store.specs.Store.{Store}
use Rattle.type_store.specs.Cycles.{parts_at, mark_of, step_at, work_of, unmarked_work, path_work}
use Rattle.type_store.specs.declared.cycle.Mark.{Mark}
use Rattle.type_store.specs.declared.cycle.Mark.TheVariants.{New, Open, Done}
use Rattle.type_store.specs.declared.cycle.Step.{Step}

pub work_marked : (s : Store) (marks : List Mark) (v : ℕ) (m : Mark) → v < length s → length s ≤ length marks
    → unmarked_work s (set marks v m) + work_of (parts_at s v) (mark_of marks v) ≡ unmarked_work s marks + work_of (parts_at s v) m
work_marked [] marks v m l e = absurd (omega (arith, l))
work_marked (x ∷ s) [] v m l e = absurd (omega (arith, e))
work_marked (x ∷ s) (o ∷ marks) zero m l e = omega arith
work_marked (x ∷ s) (o ∷ marks) (suc v) m l e = let r = work_marked s marks v m (omega (arith, l)) (omega (arith, e)) in omega (arith, r)

module _ (s : Store) where
  step_work : Step → ℕ
  step_work x = (length (parts_at s x.slot) - x.part) + 1

  path_work_push : (path : List Step) (x : Step) → path_work s (path ++ x ∷ []) ≡ path_work s path + step_work x
  unfolding step_work
  path_work_push [] x = omega arith
  path_work_push (y ∷ path) x = let r = path_work_push path x in omega (arith, r)

  -- a path, by its last step
  last_step : (path : List Step) (last : ℕ) → length path ≡ last + 1 → path ≡ take last path ++ step_at path last ∷ []
  last_step path last e =
      sym (take_all (last + 1) path (omega (arith, e))) ∙ take_more path last (record { slot = 0; part = 0 }) (omega (arith, e))

  path_work_last : (path : List Step) (last : ℕ) → length path ≡ last + 1 → path_work s path ≡ path_work s (take last path) + step_work (step_at path last)
  path_work_last path last e = ap (path_work s) (last_step path last e) ∙ path_work_push (take last path) (step_at path last)

  path_work_set : (path : List Step) (last : ℕ) (x : Step) → length path ≡ last + 1 → path_work s (set path last x) ≡ path_work s (take last path) + step_work x
  path_work_set path last x e =
      ap (path_work s) (set_split path last x (omega (arith, e)) ∙ ap (λ ys. take last path ++ x ∷ ys) (drop_all (suc last) path (omega (arith, e))))
      ∙ path_work_push (take last path) x

  pub work_opened : (marks : List Mark) (path : List Step) (v p : ℕ) → v < length s → length s ≤ length marks → mark_of marks v ≡ New
      → unmarked_work s (set marks v (Open p)) + path_work s (path ++ record { slot = v; part = 0 } ∷ []) < unmarked_work s marks + path_work s path
  unfolding step_work
  work_opened marks path v p l e n =
      let a = work_marked s marks v (Open p) l e in
      let b = path_work_push path (record { slot = v; part = 0 }) in
      let c = ap (work_of (parts_at s v)) n in
      omega (arith, a, b, c)

  pub work_closed : (marks : List Mark) (path : List Step) (last n : ℕ) → length path ≡ last + 1 → (step_at path last).slot < length s → length s ≤ length marks
      → mark_of marks (step_at path last).slot ≡ Open last
      → unmarked_work s (set marks (step_at path last).slot (Done n)) + path_work s (take last path) < unmarked_work s marks + path_work s path
  unfolding step_work
  work_closed marks path last n e l k m =
      let a = work_marked s marks (step_at path last).slot (Done n) l k in
      let b = path_work_last path last e in
      let c = ap (work_of (parts_at s (step_at path last).slot)) m in
      omega (arith, a, b, c)

  pub work_advanced : (marks : List Mark) (path : List Step) (last : ℕ) → length path ≡ last + 1 → (step_at path last).part < length (parts_at s (step_at path last).slot)
      → unmarked_work s marks + path_work s (set path last (record { slot = (step_at path last).slot; part = (step_at path last).part + 1 }))
      < unmarked_work s marks + path_work s path
  unfolding step_work
  work_advanced marks path last e l =
      let a = path_work_set path last (record { slot = (step_at path last).slot; part = (step_at path last).part + 1 }) e in
      let b = path_work_last path last e in
      omega (arith, a, b, l)
