-- Numbers and texts are computed with alike on both sides.
use Rattle.std.proofs.Common.{◌≡◌, ℕ, suc, ℤ, pos, negsuc, List, [], ◌∷◌, refl, ap, ◌∙◌}
use Rattle.std.specs.Prelude.{if◌then◌else◌, ◌||◌, ◌&&◌, ◌==◌, nat_lt, bit_and, bit_or, bit_xor, length, drop, take, ◌-◌, ◌*◌, ◌%◌, ◌/◌, ◌^◌, Some, Option, None}
use Rattle.std.specs.Int.{int_div_euclid}
use Rattle.runs.specs.Numbers as source
use Rattle.runs.specs.Texts as source_texts
use Rattle.js_meaning.specs.Numbers as js
use Rattle.js_meaning.specs.Texts as js_texts
use Rattle.js_meaning.specs.Lists as lists
use Rattle.js_meaning.specs.Shapes as shapes

pub same_numbers : (m n : ℤ) → source.is_number m n ≡ lists.is_number m n
same_numbers (pos m) (pos n) = refl
same_numbers (negsuc m) (negsuc n) = refl
same_numbers (pos m) (negsuc n) = refl
same_numbers (negsuc m) (pos n) = refl

pub same_order : (s t : List ℕ) → source_texts.units_lt s t ≡ shapes.units_lt s t
same_order [] [] = refl
same_order (u ∷ us) [] = refl
same_order [] (v ∷ vs) = refl
same_order (u ∷ us) (v ∷ vs) = ap (λ b. nat_lt u v || u == v && b) (same_order us vs)

pub same_bits : (n : ℤ) → source.low_bits n ≡ js.low_bits n
same_bits (pos n) = refl
same_bits (negsuc n) = refl

pub same_complement : (n : ℤ) → source.complement n ≡ js.complement n
same_complement (pos n) = refl
same_complement (negsuc n) = refl

pub same_quotient : (a b : ℤ) → source.quotient a b ≡ js.quotient a b
same_quotient a b = ap (λ z. if js.is_zero b then pos 0 else js.signed z) (same_bits _)

pub same_and : (a b : ℤ) → source.and_bits a b ≡ js.signed (bit_and (js.low_bits a) (js.low_bits b))
same_and a b = ap (λ z. js.signed (bit_and z (source.low_bits b))) (same_bits a) ∙ ap (λ z. js.signed (bit_and (js.low_bits a) z)) (same_bits b)

pub same_or : (a b : ℤ) → source.or_bits a b ≡ js.signed (bit_or (js.low_bits a) (js.low_bits b))
same_or a b = ap (λ z. js.signed (bit_or z (source.low_bits b))) (same_bits a) ∙ ap (λ z. js.signed (bit_or (js.low_bits a) z)) (same_bits b)

pub same_xor : (a b : ℤ) → source.xor_bits a b ≡ js.signed (bit_xor (js.low_bits a) (js.low_bits b))
same_xor a b = ap (λ z. js.signed (bit_xor z (source.low_bits b))) (same_bits a) ∙ ap (λ z. js.signed (bit_xor (js.low_bits a) z)) (same_bits b)

pub same_not : (a : ℤ) → source.not_bits a ≡ js.complement (js.signed (js.low_bits a))
same_not a = same_complement (source.signed (source.low_bits a)) ∙ ap (λ z. js.complement (js.signed z)) (same_bits a)

pub same_left : (n x : ℤ) → source.shift_left n x ≡ js.shift_left n x
same_left n x = ap (λ z. js.signed (z * 2 ^ (source.low_bits n % 32) % 4294967296)) (same_bits x) ∙ ap (λ z. js.signed (js.low_bits x * 2 ^ (z % 32) % 4294967296)) (same_bits n)

pub same_right : (n x : ℤ) → source.shift_right n x ≡ js.shift_right n x
same_right n x = ap (λ z. int_div_euclid (js.signed z) (pos (2 ^ (source.low_bits n % 32)))) (same_bits x) ∙ ap (λ z. int_div_euclid (js.signed (js.low_bits x)) (pos (2 ^ (z % 32)))) (same_bits n)

pub same_right_zero : (n x : ℤ) → source.shift_right_zero n x ≡ js.shift_right_zero n x
same_right_zero n x = ap (λ z. pos (z / 2 ^ (source.low_bits n % 32))) (same_bits x) ∙ ap (λ z. pos (js.low_bits x / 2 ^ (z % 32))) (same_bits n)

pub same_digits : (n : ℤ) → source.number_text n ≡ js.number_text n
same_digits (pos n) = refl
same_digits (negsuc n) = refl

-- ---- texts

pub same_place : (i : ℤ) (n : ℕ) → source_texts.place i n ≡ js_texts.place i n
same_place (pos i) n = refl
same_place (negsuc i) n = refl

pub same_slice : (a b : ℤ) (s : List ℕ) → source_texts.slice a b s ≡ js_texts.slice a b s
same_slice a b s =
    ap (λ z. take (source_texts.place b (length s) - z) (drop z s)) (same_place a (length s))
    ∙ ap (λ z. take (z - js_texts.place a (length s)) (drop (js_texts.place a (length s)) s)) (same_place b (length s))

same_starts : (p s : List ℕ) → source_texts.starts_with p s ≡ js_texts.starts_with p s
same_starts [] s = refl
same_starts (u ∷ p) [] = refl
same_starts (u ∷ p) (v ∷ s) = ap (λ b. u == v && b) (same_starts p s)

same_first : (p : List ℕ) (k : ℕ) (s : List ℕ) → source_texts.first_at p k s ≡ js_texts.first_at p k s
same_first p k [] = ap (λ b. if b then Some k else None) (same_starts p [])
same_first p k (u ∷ us) =
    ap (λ b. if b then Some k else source_texts.first_at p (suc k) us) (same_starts p (u ∷ us))
    ∙ ap (λ o. if js_texts.starts_with p (u ∷ us) then Some k else o) (same_first p (suc k) us)

same_from : (i : ℤ) (n : ℕ) → source_texts.from_place i n ≡ js_texts.from_place i n
same_from (pos i) n = refl
same_from (negsuc i) n = refl

same_none : (o : Option ℕ) → source_texts.place_or_none o ≡ js_texts.place_or_none o
same_none (Some k) = refl
same_none None = refl

pub same_find : (p : List ℕ) (i : ℤ) (s : List ℕ) → source_texts.find_in p i s ≡ js_texts.find_in p i s
same_find p i s =
    same_none (source_texts.first_at p (source_texts.from_place i (length s)) (drop (source_texts.from_place i (length s)) s))
    ∙ ap (λ o. js_texts.place_or_none o) (same_first p (source_texts.from_place i (length s)) (drop (source_texts.from_place i (length s)) s)
    ∙ ap (λ z. js_texts.first_at p z (drop z s)) (same_from i (length s)))

pub same_unit : (n : ℤ) → source_texts.unit_of n ≡ js_texts.unit_of n
same_unit n = ap (λ z. z % 65536 ∷ []) (same_bits n)
