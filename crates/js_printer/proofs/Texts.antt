-- The texts of units and of ports, one on.
use Rattle.std.proofs.Common.{◌≡◌, ℕ, zero, suc, ◌+◌, ◌<◌, ◌==◌, pos, Bool, true, false, if◌then◌else◌, List, [], ◌∷◌}
use Rattle.std.proofs.Common.{◌++◌, length, take, get_or, codes, refl, sym, ap, ◌∙◌, append_assoc, append-nil, arith}
use Rattle.std.proofs.lemmas.Bool.Decides.{nat_tests}
use Rattle.std.proofs.lemmas.Fmt.{decimal_digit}
use Rattle.std.proofs.lemmas.List.{take_more}
use Rattle.js_tree.specs.Tree.{JInt}
use Rattle.js_tree.specs.Text.{name_units, text_text, js_text, fields_text, more_fields_text, outs_fields}

pub name_units-append : (us vs : List ℕ) → name_units (us ++ vs) ≡ name_units us ++ name_units vs
name_units-append [] vs = refl
name_units-append (u ∷ us) vs = rw (name_units-append us vs, append_assoc) refl

-- the number 0
pub zero_text : js_text (JInt (pos 0)) ≡ 48 ∷ []
zero_text = decimal_digit 0 (omega arith)

-- the comma before an element, but for the first
abbrev pub comma : Bool → List ℕ
comma is_first = if is_first then [] else codes ","

abbrev is_empty : List (List ℕ) → Bool
is_empty [] = true
is_empty (o ∷ os) = false

-- a port, as a field
abbrev pub port_text : List ℕ → List ℕ
port_text o = text_text o ++ codes ":0"

port_text-is : (o rest : List ℕ) → text_text o ++ codes ":" ++ js_text (JInt (pos 0)) ++ rest ≡ port_text o ++ rest
port_text-is o rest = ap (λ x. text_text o ++ codes ":" ++ x ++ rest) zero_text ∙ ap (λ x. x ++ rest) (append_assoc (text_text o) (codes ":") (codes "0"))

more_ports : (os : List (List ℕ)) (o : List ℕ) → more_fields_text (outs_fields (os ++ o ∷ [])) ≡ more_fields_text (outs_fields os) ++ (codes "," ++ port_text o)
more_ports [] o = ap (λ x. codes "," ++ x) (port_text-is o [] ∙ append-nil (port_text o))
more_ports (p ∷ os) o =
    ap (λ x. codes "," ++ text_text p ++ codes ":" ++ js_text (JInt (pos 0)) ++ x) (more_ports os o)
    ∙ sym (append_assoc (codes "," ++ text_text p ++ codes ":" ++ js_text (JInt (pos 0))) (more_fields_text (outs_fields os)) (codes "," ++ port_text o))

ports : (os : List (List ℕ)) (o : List ℕ) → fields_text (outs_fields (os ++ o ∷ [])) ≡ fields_text (outs_fields os) ++ (comma (is_empty os) ++ port_text o)
ports [] o = port_text-is o [] ∙ append-nil (port_text o)
ports (p ∷ os) o =
    ap (λ x. text_text p ++ codes ":" ++ js_text (JInt (pos 0)) ++ x) (more_ports os o)
    ∙ sym (append_assoc (text_text p ++ codes ":" ++ js_text (JInt (pos 0))) (more_fields_text (outs_fields os)) (codes "," ++ port_text o))

is_empty-take : (os : List (List ℕ)) (i : ℕ) → i < length os → is_empty (take i os) ≡ (i == 0)
is_empty-take [] i h = absurd (omega arith)
is_empty-take (o ∷ os) zero h = refl
is_empty-take (o ∷ os) (suc i) h = grind (arith, nat_tests)

pub next_port : (os : List (List ℕ)) (i : ℕ) (o : List ℕ) → i < length os → o ≡ get_or os i o
    → fields_text (outs_fields (take (i + 1) os)) ≡ fields_text (outs_fields (take i os)) ++ (comma (i == 0) ++ port_text o)
next_port os i o h is =
    ap (λ (us : List (List ℕ)). fields_text (outs_fields us)) (take_more os i o h)
    ∙ (ports (take i os) (get_or os i o)
    ∙ (ap (λ x. fields_text (outs_fields (take i os)) ++ (comma (is_empty (take i os)) ++ port_text x)) (sym is)
    ∙ ap (λ b. fields_text (outs_fields (take i os)) ++ (comma b ++ port_text o)) (is_empty-take os i h)))
