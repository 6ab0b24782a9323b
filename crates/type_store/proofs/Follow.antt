-- One step of the search for a cycle, as the code takes it.
use Rattle.std.proofs.Common.{◌≡◌, ◌≢◌, ℕ, ◌+◌, ◌-◌, ◌<◌, List, [], ◌∷◌, ◌++◌, Some, None}
use Rattle.std.proofs.Common.{length, get_or, set, take, sym, ap, ◌∙◌, subst, arith}
use Rattle.std.specs.List.{slice_get}
use Rattle.std.proofs.lemmas.Option.{get_or_from_slice_get, slice_get_within}
use Rattle.std.proofs.lemmas.List.{length-map, get_or_default}
use Rattle.std.proofs.lemmas.List.Elements.{All-contains}
use Rattle.type_store.specs.Store.{Store, slot_at}
use Rattle.type_store.specs.View.{store_view, slot_view}
use Rattle.type_store.specs.Cycles.{parts_at, Leads, mark_of, step_at, IsDoneBefore, IsSearchable, IsWalk, unmarked_work, path_work}
use Rattle.type_store.specs.declared.slot.Slot.{Slot}
use Rattle.type_store.specs.declared.cycle.Mark.{Mark}
use Rattle.type_store.specs.declared.cycle.Mark.TheVariants.{New, Open, Done}
use Rattle.type_store.specs.declared.cycle.Step.{Step}
use Rattle.type_store.proofs.Walks.{opened, advanced, closed, reached, ring}
use Rattle.type_store.proofs.Work.{work_opened, work_closed, work_advanced}

-- the same, under other names
pub same_walk : {s : Store} {marks marks' : List Mark} {path path' : List Step} {done done' : List ℕ}
    → IsWalk s marks path done → marks' ≡ marks → path' ≡ path → done' ≡ done → IsWalk s marks' path' done'
same_walk {s} {marks} {marks'} {path} {path'} {done} {done'} w a b c =
    subst (λ m. IsWalk s m path' done') (sym a) (subst (λ p. IsWalk s marks p done') (sym b) (subst (λ d. IsWalk s marks path d) (sym c) w))

pub less_work : (s : Store) (marks marks' : List Mark) (path path' : List Step) (n : ℕ)
    → unmarked_work s marks + path_work s path < n → marks' ≡ marks → path' ≡ path → unmarked_work s marks' + path_work s path' < n
less_work s marks marks' path path' n l a b = omega (arith, l, ap (unmarked_work s) a, ap (path_work s) b)

module _ (slots : List Slot) (shape : IsSearchable (store_view slots)) {marks : List Mark} {path : List Step} {done : List ℕ}
    (w : IsWalk (store_view slots) marks path done) {step : Step} (last : slice_get path (length path - 1) ≡ Some step) where
  abbrev s : Store
  s = store_view slots

  abbrev top : ℕ
  top = length path - 1

  some : top < length path
  some = slice_get_within path top step last

  at_end : length path ≡ top + 1
  at_end = omega (arith, some)

  is_step : step_at path top ≡ step
  is_step = get_or_from_slice_get path top step (record { slot = 0; part = 0 }) last

  pub slot_inside : step.slot < length slots
  slot_inside =
      let l = subst (λ x. x.slot < length s) is_step (w.within top some) in omega (arith, l, length-map slots slot_view)

  pub marked_inside : step.slot < length marks
  marked_inside = omega (arith, slot_inside, w.all, length-map slots slot_view)

  pub some_step : 0 < length path
  some_step = omega (arith, some)

  module _ (none : slice_get (parts_at s step.slot) step.part ≡ None) where
    none_at : slice_get (parts_at s (step_at path top).slot) (step_at path top).part ≡ None
    none_at = ap (λ x. slice_get (parts_at s x.slot) x.part) is_step ∙ none

    pub follow_none : IsWalk s (set marks step.slot (Done (length done))) (take top path) (done ++ step.slot ∷ [])
    follow_none =
        subst (λ x. IsWalk s (set marks x.slot (Done (length done))) (take top path) (done ++ x.slot ∷ [])) is_step (closed w top at_end none_at)

    pub follow_none_nearer : unmarked_work s (set marks step.slot (Done (length done))) + path_work s (take top path) < unmarked_work s marks + path_work s path
    follow_none_nearer =
        subst (λ x. unmarked_work s (set marks x.slot (Done (length done))) + path_work s (take top path) < unmarked_work s marks + path_work s path) is_step
        (work_closed s marks path top (length done) at_end (w.within top some) w.all (w.marked top some))

  module _ (part : ℕ) (there : slice_get (parts_at s step.slot) step.part ≡ Some part) where
    there_at : slice_get (parts_at s (step_at path top).slot) (step_at path top).part ≡ Some part
    there_at = ap (λ x. slice_get (parts_at s x.slot) x.part) is_step ∙ there

    part_in_store : part < length s
    part_in_store =
        All-contains (λ u. u < length s) (parts_at s step.slot) part (shape.inside step.slot)
        (step.part, slice_get_within (parts_at s step.slot) step.part part there, get_or_from_slice_get (parts_at s step.slot) step.part part part there)

    pub part_inside : part < length slots
    part_inside = omega (arith, part_in_store, length-map slots slot_view)

    pub part_marked : part < length marks
    part_marked = omega (arith, part_in_store, w.all)

    -- the mark that the code reads
    pub read_mark : (m d : Mark) → d ≡ get_or marks part d → d ≡ m → mark_of marks part ≡ m
    read_mark m d e f = get_or_default marks part New d part_marked ∙ (sym e ∙ f)

    module _ (settled : IsDoneBefore s marks step.slot (length done) part) where
      settled_at : IsDoneBefore s marks (step_at path top).slot (length done) part
      settled_at = subst (λ x. IsDoneBefore s marks x.slot (length done) part) (sym is_step) settled

      pub follow_next : IsWalk s marks (set path top (record { slot = step.slot; part = step.part + 1 })) done
      follow_next =
          subst (λ (x : Step). IsWalk s marks (set path top (record { slot = x.slot; part = x.part + 1 })) done) is_step
          (advanced w top at_end part there_at settled_at)

    pub follow_next_nearer : unmarked_work s marks + path_work s (set path top (record { slot = step.slot; part = step.part + 1 })) < unmarked_work s marks + path_work s path
    follow_next_nearer =
        subst (λ (x : Step). unmarked_work s marks + path_work s (set path top (record { slot = x.slot; part = x.part + 1 })) < unmarked_work s marks + path_work s path) is_step
        (work_advanced s marks path top at_end (slice_get_within (parts_at s (step_at path top).slot) (step_at path top).part part there_at))

    -- a part of another depth, and one that is done, need no further step
    pub other_depth : (d e : ℕ) → d ≡ (slot_at s part).depth → e ≡ (slot_at s step.slot).depth → d ≢ e → IsDoneBefore s marks step.slot (length done) part
    other_depth d e a b n same = absurd (n (a ∙ (same ∙ sym b)))

    pub part_done : (n : ℕ) → mark_of marks part ≡ Done n → IsDoneBefore s marks step.slot (length done) part
    part_done n e same = (n, e, (w.done_at part n e).0)

    pub follow_new : mark_of marks part ≡ New → IsWalk s (set marks part (Open (length path))) (path ++ record { slot = part; part = 0 } ∷ []) done
    follow_new e = opened w part part_in_store e (reached w top at_end part there_at)

    pub follow_new_nearer : mark_of marks part ≡ New
        → unmarked_work s (set marks part (Open (length path))) + path_work s (path ++ record { slot = part; part = 0 } ∷ []) < unmarked_work s marks + path_work s path
    follow_new_nearer e = work_opened s marks path part (length path) part_in_store w.all e

    pub follow_ring : (p : ℕ) → mark_of marks part ≡ Open p → Leads s part part
    follow_ring p e = ring w top at_end part there_at p e
