-- When a machine does what another does: each step of the one follows the step of the other.
use Rattle.std.specs.Prelude.{◌≡◌, ℕ, List, [], ◌∷◌}
use Rattle.wire_value.specs.Wire.{Wire}
use Rattle.runs.specs.Driver.{Stage, At, Start, WrongFlags, Started, Heard, WrongInput, Heard_by, Machine, Nested}
use Rattle.runs.specs.Pay.{Follows}

module _ {V W : Type 0} (R : V → W → Type 0) where
  -- values that stand for each other, place by place
  pub data AllAlike : List V → List W → Type 0 where
    none_alike : AllAlike [] []
    more_alike : {v : V} {w : W} {vs : List V} {ws : List W} → R v w → AllAlike vs ws → AllAlike (v ∷ vs) (w ∷ ws)

  pub data StageAlike : Stage V → Stage W → Type 0 where
    at_alike : {v : V} {w : W} {sends sends' : List (List ℕ × Wire)} → R v w → sends ≡ sends' → StageAlike (At v sends) (At w sends')

  pub data HeardAlike : Heard V → Heard W → Type 0 where
    wrong_input : HeardAlike WrongInput WrongInput
    heard_by : {fs : List V} {gs : List W} {v : V} {w : W} → AllAlike fs gs → R v w → HeardAlike (Heard_by fs v) (Heard_by gs w)

-- programs that stand for each other, and values that do
module _ {V W : Type 0} (P R : V → W → Type 0) where
  pub data StartAlike : Start V → Start W → Type 0 where
    wrong_flags : StartAlike WrongFlags WrongFlags
    started : {p : V} {q : W} {s : Stage V} {t : Stage W} → P p q → StageAlike R s t → StartAlike (Started p s) (Started q t)

  -- each step of the machine follows the nested one's
  pub record IsAlike (nested : Nested V) (machine : Machine W) : Type 0 where
    pub start : (n : ℕ) → Follows StartAlike n (nested.start n) machine.start
    pub hear : (n : ℕ) (input : List ℕ × Wire) {p m : V} {q k : W} → P p q → R m k → Follows (HeardAlike R) n (nested.hear n input p m) (machine.hear input q k)
    pub tell : (n : ℕ) {f v p m : V} {g w q k : W} → R f g → R v w → P p q → R m k → Follows (StageAlike R) n (nested.tell n f v p m) (machine.tell g w q k)
