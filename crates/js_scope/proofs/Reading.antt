-- Reading, byte by byte and whole.
use Rattle.std.proofs.Common.{◌≡◌, ℕ, ◌+◌, ◌<◌, ◌≤◌, List, [], ◌∷◌, ◌++◌, Bool, true, false, not, length, take, drop}
use Rattle.std.proofs.Common.{get_or, refl, sym, ap, ◌∙◌, subst, ◌⊎◌, inl, inr}
use Rattle.std.proofs.lemmas.List.{take_all, take_more, take-append-drop, drop_more}
use Rattle.elm_base.specs.declared.position.Pos.{Pos}
use Rattle.js_tree.specs.Tree.{Program}
use Rattle.js_tree.specs.Text.{JsText}
use Rattle.js_tree.specs.Subset.{is_program_spelled}
use Rattle.js_tree.specs.Faults.{Place, place_after}
use Rattle.js_tree.specs.Postorder.{Tree, Expression, ItemsOf, MembersOf, StatementsOf, BlockOf, LinesOf, ProgramOf}
use Rattle.js_tree.specs.Automaton.{State, Finished, Dead, step, run, start, is_live}
use Rattle.js_tree.proofs.CompleteTree.{read_back}
use Rattle.js_tree.proofs.Exact.{live_or_dead, run_on, dead_stays, read_is_spelled, fault_inside, fault_at_end}
use Rattle.js_scope.specs.declared.refusal.Refusal.TheVariants.{At}
use Rattle.js_scope.specs.Empty.{is_finished}
use Rattle.js_scope.specs.View.{program_at}
use Rattle.js_scope.specs.Read.{IsNoText, IsTreeOf, place_view}

abbrev pub first_place : Place
first_place = record { row = 1; column = 1 }

-- one byte on
pub next_run : (bytes : List ℕ) (i d : ℕ) → i < length bytes → run start (take (i + 1) bytes) ≡ step (run start (take i bytes)) (get_or bytes i d)
next_run bytes i d h = ap (λ (xs : List ℕ). run start xs) (take_more bytes i d h) ∙ run_on (take i bytes) (get_or bytes i d ∷ []) start

pub split_at : (bytes : List ℕ) (i d : ℕ) → i < length bytes → take i bytes ++ get_or bytes i d ∷ drop (i + 1) bytes ≡ bytes
split_at bytes i d h = ap (λ (xs : List ℕ). take i bytes ++ xs) (sym (drop_more bytes i d h)) ∙ take-append-drop i bytes

dead_is_not_finished : (p : Program) → Dead ≡ Finished p → ⊥
dead_is_not_finished p e = cc

-- where a byte leads nowhere
pub stops_inside : (front : List ℕ) (c : ℕ) (behind : List ℕ) (p : Pos) → is_live (run start front) ≡ true → step (run start front) c ≡ Dead
    → place_view p ≡ place_after first_place front → IsNoText (At p) (front ++ c ∷ behind)
stops_inside front c behind p l d e = (none, fault_inside front c behind (place_view p) l d (sym e))
  where
    none : (program : Program) → is_program_spelled program ≡ true → JsText program (front ++ c ∷ behind) → ⊥
    none program s t =
        dead_is_not_finished program (sym (dead_stays behind) ∙ (ap (λ s. run s behind) (sym d) ∙ (sym (run_on front (c ∷ behind) start) ∙ read_back program (front ++ c ∷ behind) s t)))

finished_is : (s : State) (p : Program) → is_finished s ≡ false → s ≡ Finished p → ⊥
finished_is s p n e = let f : is_finished (Finished p) ≡ false = subst (λ t. is_finished t ≡ false) e n in absurd cc

-- where the bytes end before a text does
pub stops_at_end : (bytes : List ℕ) (p : Pos) → is_live (run start bytes) ≡ true → is_finished (run start bytes) ≡ false
    → place_view p ≡ place_after first_place bytes → IsNoText (At p) bytes
stops_at_end bytes p l n e = (none, fault_at_end bytes (place_view p) l (sym e))
  where
    none : (program : Program) → is_program_spelled program ≡ true → JsText program bytes → ⊥
    none program s t = finished_is (run start bytes) program n (read_back program bytes s t)

is_program : (t : Tree) → is_program_spelled (program_at t) ≡ true → t ≡ ProgramOf (program_at t)
is_program (ProgramOf p) h = refl
is_program (Expression e) h = absurd cc
is_program (ItemsOf e) h = absurd cc
is_program (MembersOf e) h = absurd cc
is_program (StatementsOf e) h = absurd cc
is_program (BlockOf e) h = absurd cc
is_program (LinesOf e) h = absurd cc

-- where a whole text has been read
pub whole_text : (bytes : List ℕ) (t : Tree) → run start bytes ≡ Finished (program_at t) → IsTreeOf t bytes
whole_text bytes t e =
    let r = read_is_spelled bytes (program_at t) e in
    record { program = program_at t; whole = is_program t r.0; spelled = r.0; text = r.1 }

not_live : (s : State) → is_live s ≡ false → s ≡ Dead
not_live s h = by_cases (live_or_dead s)
  where
    by_cases : (is_live s ≡ true) ⊎ (s ≡ Dead) → s ≡ Dead
    by_cases (inl l) = absurd cc
    by_cases (inr d) = d

-- the states of a reader before a byte and after it, where that leads nowhere
pub dead_after : (bytes : List ℕ) (i d : ℕ) (s t : State) (p : Pos) → i < length bytes → s ≡ run start (take i bytes) → is_live s ≡ true → t ≡ step s (get_or bytes i d) → is_live t ≡ false
    → place_view p ≡ place_after first_place (take i bytes) → IsNoText (At p) bytes
dead_after bytes i d s t p h e l f n q =
    subst (λ (bs : List ℕ). IsNoText (At p) bs) (split_at bytes i d h)
    (stops_inside (take i bytes) (get_or bytes i d) (drop (i + 1) bytes) p (ap is_live (sym e) ∙ l) (ap (λ u. step u (get_or bytes i d)) (sym e) ∙ (sym f ∙ not_live t n)) q)

-- where it leads on
pub live_after : (bytes : List ℕ) (i d : ℕ) (s t : State) → i < length bytes → s ≡ run start (take i bytes) → t ≡ step s (get_or bytes i d) → t ≡ run start (take (i + 1) bytes)
live_after bytes i d s t h e f = f ∙ (ap (λ u. step u (get_or bytes i d)) e ∙ sym (next_run bytes i d h))

-- at the end of the bytes
pub at_end : (bytes : List ℕ) (i : ℕ) (s : State) → length bytes ≤ i → s ≡ run start (take i bytes) → s ≡ run start bytes
at_end bytes i s h e = e ∙ ap (λ (bs : List ℕ). run start bs) (take_all i bytes h)

pub flip_true : (b r : Bool) → r ≡ not b → r ≡ true → b ≡ false
flip_true true r e t = absurd cc
flip_true false r e t = refl

pub flip_false : (b r : Bool) → r ≡ not b → r ≡ false → b ≡ true
flip_false true r e t = refl
flip_false false r e t = absurd cc
