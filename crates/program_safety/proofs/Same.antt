-- Signs that are the same are one sign, and what is spelled as a mapping begins with its signs.
use Rattle.std.proofs.Common.{◌≡◌, ℕ, zero, suc, List, [], ◌∷◌, ◌++◌, true, refl, sym, ap, ◌∙◌}
use Rattle.std.proofs.lemmas.Bool.{and_parts, eqb-true, false≢true}
use Rattle.std.proofs.lemmas.Slice.Eq.{bytes_eq-Decides}
use Rattle.std.specs.List.{list_all}
use Rattle.core_modules.specs.Same.{form_number, port_number, same_sign}
use Rattle.core_modules.specs.Faults.{is_free, is_map}
use Rattle.core_modules.specs.declared.port_faults_sign.Sign.{Sign}
use Rattle.core_modules.specs.declared.port_faults_sign.Sign.TheVariants as sign
use Rattle.core_modules.specs.declared.port_faults_sign.Form.{Form}
use Rattle.core_modules.specs.declared.port_faults_sign.Form.TheVariants.{Other, End, Lambda, Apply, Two, Alone}
use Rattle.core_modules.specs.declared.port_faults_sign.Port.{Port}
use Rattle.core_modules.specs.declared.port_faults_sign.Port.TheVariants.{Wrong, Sends, Listens, TakesSend, TakesListen}
use Rattle.core_modules.specs.declared.port_faults_sign.Port.TheVariants.{TakesCommands, TakesSubscriptions}

-- ---- numbers

form_of : ℕ → Form
form_of zero = Other
form_of (suc zero) = End
form_of (suc (suc zero)) = Lambda
form_of (suc (suc (suc zero))) = Apply
form_of (suc (suc (suc (suc zero)))) = Two
form_of n = Alone

form_back : (f : Form) → form_of (form_number f) ≡ f
unfolding form_of
form_back Other = refl
form_back End = refl
form_back Lambda = refl
form_back Apply = refl
form_back Two = refl
form_back Alone = refl

one_form : (f g : Form) → form_number f ≡ form_number g → f ≡ g
one_form f g e = sym (form_back f) ∙ ap form_of e ∙ form_back g

port_of : ℕ → Port
port_of zero = Wrong
port_of (suc zero) = Sends
port_of (suc (suc zero)) = Listens
port_of (suc (suc (suc zero))) = TakesSend
port_of (suc (suc (suc (suc zero)))) = TakesListen
port_of (suc (suc (suc (suc (suc zero))))) = TakesCommands
port_of n = TakesSubscriptions

port_back : (p : Port) → port_of (port_number p) ≡ p
unfolding port_of
port_back Wrong = refl
port_back Sends = refl
port_back Listens = refl
port_back TakesSend = refl
port_back TakesListen = refl
port_back TakesCommands = refl
port_back TakesSubscriptions = refl

one_port : (p q : Port) → port_number p ≡ port_number q → p ≡ q
one_port p q e = sym (port_back p) ∙ ap port_of e ∙ port_back q

-- ---- signs

pub one_sign : (a b : Sign) → same_sign a b ≡ true → a ≡ b
one_sign (sign.Local x) (sign.Local y) e = ap sign.Local ((bytes_eq-Decides x y).0 e)
one_sign (sign.Named x) (sign.Named y) e = ap sign.Named ((bytes_eq-Decides x y).0 e)
one_sign (sign.Form f) (sign.Form g) e = ap sign.Form (one_form f g (eqb-true (form_number f) (form_number g) e))
one_sign (sign.Port p) (sign.Port q) e = ap sign.Port (one_port p q (eqb-true (port_number p) (port_number q) e))
one_sign a b e = absurd (false≢true e)

-- what is spelled as a mapping is the mapping's signs, and then signs that have nothing of a port
pub map_rows : (rows s : List Sign) → is_map rows s ≡ true →
    (t : List Sign) × (s ≡ rows ++ t) × (list_all is_free t ≡ true)
map_rows [] s e = (s, refl, e)
map_rows (a ∷ rows) [] e = absurd (false≢true e)
map_rows (a ∷ rows) (b ∷ s) e =
    let h = and_parts (same_sign a b) (is_map rows s) e in
    let r = map_rows rows s h.1 in
    (r.0, ap (λ c. c ∷ s) (sym (one_sign a b h.0)) ∙ ap (λ u. a ∷ u) r.1, r.2)
