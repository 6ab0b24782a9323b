-- What was walked, said of an expression of the program.
use Rattle.std.proofs.Common.{◌≡◌, ℕ, zero, suc, ◌<◌, List, [], ◌∷◌, length, get_or, Result, Ok, Err, OnOk, sym}
use Rattle.std.proofs.Common.{◌∙◌, subst, arith}
use Rattle.std.specs.List.{AllByRecursion}
use Rattle.std.proofs.lemmas.List.{get_or_default}
use Rattle.elm_base.specs.declared.position.Pos.{Pos}
use Rattle.elm_canon.specs.Tree.{Expr}
use Rattle.type_items.specs.Items.{Wanted}
use Rattle.type_constructs.specs.Failing.{Bad}
use Rattle.type_walks.specs.Regions.{below}
use Rattle.type_walks.specs.Links.{Live}
use Rattle.type_store.specs.Store.{Store}
use Rattle.infer_steps.specs.Codes.{Code, State}
use Rattle.infer_steps.specs.Promises.{Listing, Walked}
use Rattle.infer_steps.specs.Ready.{Follows}
use Rattle.infer_steps.specs.Leaves.{WalksAlone, StopsAlone}
use Rattle.infer_parts.specs.Steps.{one, Went, Stuck}
use Rattle.infer_parts.specs.Parts.{listed}
use Rattle.infer_parts.proofs.Going.{went_walked, stuck_stopped}

pub shown : {T E : Type 0} (r : Result T E) (code : Code) (w : ℕ) (here : Pos) (old new : State) (e x : Expr) → e ≡ x
    → OnOk r (Went Wanted code (one w) below (listed x here) old new) → OnOk r
    (Went Wanted code (one w) below (listed e here) old new)
shown r code w here old new e x same h =
    subst (λ y. OnOk r (Went Wanted code (one w) below (listed y here) old new)) (sym same) h

pub shown_stuck : (code : Code) (w : ℕ) (here : Pos) (old new : State) (bad : Bad) (e x : Expr) → e ≡ x
    → Stuck Wanted code (one w) below (listed x here) old new bad → Stuck Wanted code (one w) below (listed e here) old
    new bad
shown_stuck code w here old new bad e x same h =
    subst (λ y. Stuck Wanted code (one w) below (listed y here) old new bad) (sym same) h

pub alone_went : {T E : Type 0} (r : Result T E) (code : Code) (w : ℕ) (list : Listing) (old new : State)
    → OnOk r (WalksAlone w list old new)
    → OnOk r (Went Wanted code (one w) below list old new)
alone_went (Ok x) code w list old new h = went_walked code w list old new h.follows (h.walked code)
alone_went (Err e) code w list old new h = tt

pub alone_stuck : (code : Code) (w : ℕ) (list : Listing) (old new : State) (bad : Bad) → StopsAlone w list old new bad
    → Stuck Wanted code (one w) below list old new bad
alone_stuck code w list old new bad h = stuck_stopped code w list old new bad (h.stopped code)

pub name_went : {T E : Type 0} (r : Result T E) (code : Code) (w : ℕ) (list : Listing) (old new : State)
    → OnOk r (Follows old new)
    → OnOk r (Walked code w list old new) → OnOk r (Went Wanted code (one w) below list old new)
name_went (Ok x) code w list old new f h = went_walked code w list old new f h
name_went (Err e) code w list old new f h = tt

-- a variable among others is in use
pub live_at : (d : ℕ) (s : Store) (vs : List ℕ) (i e : ℕ) → i < length vs → AllByRecursion (Live d s) vs
    → Live d s (get_or vs i e)
live_at d s [] i e lt h = absurd (omega (arith, lt))
live_at d s (v ∷ vs) zero e lt h = h.0
live_at d s (v ∷ vs) (suc i) e lt h = live_at d s vs i e (omega (arith, lt)) h.1

-- one that was read
pub read_at : (vs : List ℕ) (i v : ℕ) → i < length vs → v ≡ get_or vs i v → v ≡ get_or vs i 0
read_at vs i v lt is = is ∙ get_or_default vs i v 0 lt

pub live_read : (d : ℕ) (s : Store) (vs : List ℕ) (i v : ℕ) → i < length vs → v ≡ get_or vs i v
    → AllByRecursion (Live d s) vs → Live d s v
live_read d s vs i v lt is all = subst (Live d s) (sym is) (live_at d s vs i v lt all)
