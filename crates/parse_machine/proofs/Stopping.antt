-- What the place where the machine stopped says of the text.
use Rattle.std.proofs.Common.{◌≡◌, ℕ, Bool, true, false, List, [], ◌∷◌, ◌++◌, refl, sym, ◌∙◌, subst, take, append_assoc}
use Rattle.std.proofs.Common.{append-nil}
use Rattle.parse_machine.specs.declared.table.Symbol.{Symbol}
use Rattle.parse_machine.specs.declared.table.Token.{Token}
use Rattle.parse_machine.specs.declared.table.Step.{Step}
use Rattle.parse_machine.specs.declared.fault.Fault.{Fault}
use Rattle.parse_machine.specs.declared.fault.Fault.TheVariants as fault
use Rattle.parse_machine.specs.Grammar.{Production, Spells, IsReading, IsRefused, IsLongest, IsFaultAt, IsFront}
use Rattle.parse_machine.specs.Grammar.{IsFault, IsFrontFault, HasFault}
use Rattle.parse_machine.specs.Stopped.{IsStop}

refused_whole : (g : List Production) (ss : List Symbol) (c : ℕ) (ts front at : List Token) →
    IsLongest g ss c ts front at → (at ≡ [] → IsRefused g ss c front) → IsRefused g ss c ts
refused_whole g ss c ts front [] l h x s = h refl x (subst (λ z. Spells g ss c x z) (l.place ∙ append-nil front) s)
refused_whole g ss c ts front (t ∷ more) l h x s =
    l.no_further t more refl
    (x, more, subst (λ z. Spells g ss c x z) (l.place ∙ sym (append_assoc front (t ∷ []) more)) s)

pub whole_reading : (g : List Production) (ss : List Symbol) (c : ℕ) (ts : List Token) (steps : List Step) (sure : ℕ)
    (at : List Token) (whole : Bool) → IsStop g ss c ts steps sure at whole → whole ≡ true → at ≡ [] →
    IsReading g ss c ts steps
whole_reading g ss c ts steps sure [] true k w e =
    subst (λ z. IsReading g ss c z steps) (sym (k.longest.place ∙ append-nil k.front)) k.ended
whole_reading g ss c ts steps sure (t ∷ more) true k w e = absurd cc
whole_reading g ss c ts steps sure at false k w e = absurd cc

-- the fault, where the whole text was to be read
whole_fault : (g : List Production) (ss : List Symbol) (c : ℕ) (ts : List Token) (steps : List Step) (sure : ℕ)
    (at : List Token) (whole : Bool) → IsStop g ss c ts steps sure at whole → (whole ≡ true → at ≡ [] → ⊥) →
    IsRefused g ss c ts
whole_fault g ss c ts steps sure at true k open_end =
    refused_whole g ss c ts k.front at k.longest (λ e. absurd (open_end refl e))
whole_fault g ss c ts steps sure at false k open_end = refused_whole g ss c ts k.front at k.longest (λ e. k.ended)

fault_at : (g : List Production) (ss : List Symbol) (c : ℕ) (ts : List Token) (steps : List Step) (sure : ℕ)
    (at : List Token) (whole : Bool) → (k : IsStop g ss c ts steps sure at whole) →
    IsFaultAt g ss c ts k.front at (take sure steps)
fault_at g ss c ts steps sure at whole k = record { longest = k.longest; common = k.common }

has_fault : (g : List Production) (ss : List Symbol) (c : ℕ) (ts front at : List Token) (steps : List Step)
    (f : Fault) → HasFault f at steps → IsFaultAt g ss c ts front at steps → IsRefused g ss c ts → IsFault g ss c ts f
has_fault g ss c ts front at steps fault.Memory h i r = tt
has_fault g ss c ts front at steps (fault.At a v) h i r = (
  front,
  subst (λ z. IsFaultAt g ss c ts front z v.items) (sym h.0)
      (subst (λ z. IsFaultAt g ss c ts front at z) (sym h.1) i),
  r,
)

has_front_fault : (g : List Production) (ss : List Symbol) (c : ℕ) (ts front at : List Token) (steps : List Step)
    (f : Fault) → HasFault f at steps → IsFaultAt g ss c ts front at steps → IsRefused g ss c front →
    IsFrontFault g ss c ts f
has_front_fault g ss c ts front at steps fault.Memory h i r = tt
has_front_fault g ss c ts front at steps (fault.At a v) h i r = (
  front,
  subst (λ z. IsFaultAt g ss c ts front z v.items) (sym h.0)
      (subst (λ z. IsFaultAt g ss c ts front at z) (sym h.1) i),
  r,
)

pub stop_fault : (g : List Production) (ss : List Symbol) (c : ℕ) (ts : List Token) (steps : List Step) (sure : ℕ)
    (at : List Token) (whole : Bool) → IsStop g ss c ts steps sure at whole → (whole ≡ true → at ≡ [] → ⊥) →
    (f : Fault) → HasFault f at (take sure steps) → IsFault g ss c ts f
stop_fault g ss c ts steps sure at whole k open_end f h =
    has_fault g ss c ts k.front at (take sure steps) f h (fault_at g ss c ts steps sure at whole k)
    (whole_fault g ss c ts steps sure at whole k open_end)

pub front_reading : (g : List Production) (ss : List Symbol) (c : ℕ) (ts : List Token) (steps : List Step) (sure : ℕ)
    (at : List Token) (whole : Bool) → IsStop g ss c ts steps sure at whole → whole ≡ true → IsFront g ss c ts at steps
front_reading g ss c ts steps sure at true k w = record { front = k.front; longest = k.longest; reading = k.ended }
front_reading g ss c ts steps sure at false k w = absurd cc

front_refused : (g : List Production) (ss : List Symbol) (c : ℕ) (ts : List Token) (steps : List Step) (sure : ℕ)
    (at : List Token) (whole : Bool) → (k : IsStop g ss c ts steps sure at whole) → whole ≡ false →
    IsRefused g ss c k.front
front_refused g ss c ts steps sure at true k w = absurd cc
front_refused g ss c ts steps sure at false k w = k.ended

pub front_fault : (g : List Production) (ss : List Symbol) (c : ℕ) (ts : List Token) (steps : List Step) (sure : ℕ)
    (at : List Token) (whole : Bool) → IsStop g ss c ts steps sure at whole → whole ≡ false →
    (f : Fault) → HasFault f at (take sure steps) → IsFrontFault g ss c ts f
front_fault g ss c ts steps sure at whole k w f h =
    has_front_fault g ss c ts k.front at (take sure steps) f h (fault_at g ss c ts steps sure at whole k)
    (front_refused g ss c ts steps sure at whole k w)
