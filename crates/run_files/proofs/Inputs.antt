-- What a line gives, and lines one after the other.
use Rattle.std.proofs.Common.{◌≡◌, ℕ, ◌+◌, Bool, true, false, ◌&&◌, List, [], ◌∷◌, ◌++◌, Option, Some, None, option_map}
use Rattle.std.proofs.Common.{if◌then◌else◌, refl, sym, ap, ◌∙◌, subst, ◌<◌, length, arith}
use Rattle.std.specs.List.{list_any}
use Rattle.std.specs.Str.{is_utf8, IsUtf8}
use Rattle.std.proofs.lemmas.Str.{IsUtf8-from_is_utf8, is_utf8-from_IsUtf8}
use Rattle.wire_value.specs.Wire.{Wire}
use Rattle.elm_base.specs.Units.{text_units}
use Rattle.wire_value.specs.FromJson.{from_bytes}
use Rattle.run_files.specs.Given.{Input, Given, BadLine, UnknownPort, Inputs, lines_of, input_of, is_blank, port_in}
use Rattle.run_files.specs.Given.{json_in, is_some_text, more_input, inputs_from}
use Rattle.run_files.specs.View.{input_view}
use Rattle.run_files.specs.Lines.{halves_of, line_given, Reads, inputs_before, IsReadTo}
use Rattle.elm_base.specs.declared.text.Text.{Text}
use Rattle.run_files.specs.declared.given.Input as input
use Rattle.run_files.specs.declared.given.Line.{Line}
use Rattle.run_files.specs.declared.given.Line.TheVariants.{Bad, Unknown, Good}

-- an input from the two halves of its line
abbrev input_with : Option (List ℕ × List ℕ) → Option Input
input_with None = None
input_with (Some h) = if is_some_text h.0 && is_utf8 h.0 then option_map (λ value. (text_units h.0, value)) (from_bytes h.1) else None

pub input_halves : (line : List ℕ) → input_of line ≡ input_with (halves_of line)
input_halves line =
    elim (list_any is_blank line) as (λ t. (if t && is_some_text (port_in line) && is_utf8 (port_in line) then option_map (λ value. (text_units (port_in line), value)) (from_bytes (json_in line)) else None) ≡ input_with (if t then Some (port_in line, json_in line) else None)) [
      | true ↦ refl
      | false ↦ refl
    ]

not_text : (port : List ℕ) → (IsUtf8 port → ⊥) → is_utf8 port ≡ false
not_text port bad = elim (is_utf8 port) as (λ t. (t ≡ true → IsUtf8 port) → t ≡ false) [ true ↦ λ from. absurd (bad (from refl)) | false ↦ λ _. refl ] (λ e. IsUtf8-from_is_utf8 port e)

no_and : (t : Bool) → t && false ≡ false
no_and true = refl
no_and false = refl

pub not_utf8 : (line port json : List ℕ) → Some (port, json) ≡ halves_of line → (IsUtf8 port → ⊥) → None ≡ input_of line
not_utf8 line port json e bad =
    sym (input_halves line ∙ ap input_with (sym e) ∙ ap (λ t. if is_some_text port && t then option_map (λ value. (text_units port, value)) (from_bytes json) else None) (not_text port bad)
    ∙ ap (λ t. if t then option_map (λ value. (text_units port, value)) (from_bytes json) else None) (no_and (is_some_text port)))

pub some_in : (a b : List ℕ) → a ≡ b → 0 < length a → 0 < length b
some_in a b e h = subst (λ xs. 0 < length xs) e h

some_text : (text : List ℕ) → 0 < length text → is_some_text text ≡ true
some_text [] l = absurd (let bad : ⊥ = omega arith in bad)
some_text (b ∷ bs) l = refl

pub good_input : (line port json : List ℕ) (w : Wire) → Some (port, json) ≡ halves_of line → IsUtf8 port → 0 < length port → Some w ≡ from_bytes json → Some (text_units port, w) ≡ input_of line
good_input line port json w e u l r =
    let s = some_text port l in
    sym (input_halves line ∙ ap input_with (sym e) ∙ ap (λ t. if t && is_utf8 port then option_map (λ value. (text_units port, value)) (from_bytes json) else None) s
    ∙ ap (λ t. if t then option_map (λ value. (text_units port, value)) (from_bytes json) else None) (is_utf8-from_IsUtf8 port u)
    ∙ ap (λ found. option_map (λ value. (text_units port, value)) found) (sym r))

-- ---- lines one after the other

pub before_push : (done : List Input) (input : Input) (behind : Given) → inputs_before (done ++ input ∷ []) behind ≡ inputs_before done (more_input input behind)
before_push [] input behind = refl
before_push (i ∷ is) input behind = ap (λ g. more_input i g) (before_push is input behind)

pub before_bad : (done : List Input) (row : ℕ) → inputs_before done (BadLine row) ≡ BadLine row
before_bad [] row = refl
before_bad (i ∷ is) row = ap (λ g. more_input i g) (before_bad is row)

pub before_unknown : (done : List Input) (row : ℕ) (port : List ℕ) → inputs_before done (UnknownPort row port) ≡ UnknownPort row port
before_unknown [] row port = refl
before_unknown (i ∷ is) row port = ap (λ g. more_input i g) (before_unknown is row port)

pub before_end : (done : List Input) (flags : Wire) → inputs_before done (Inputs flags []) ≡ Inputs flags done
before_end [] flags = refl
before_end (i ∷ is) flags = ap (λ g. more_input i g) (before_end is flags)

-- the next line
next_line : (ports : List (List ℕ)) (done : List Input) (row : ℕ) (flags : Wire) (line rest behind : List ℕ) (found : Line) (all : Given) → lines_of rest ≡ line ∷ lines_of behind → Reads ports line found → all ≡ inputs_before done (inputs_from ports row flags (lines_of rest)) → all ≡ inputs_before done (line_given row found (inputs_from ports (row + 1) flags (lines_of behind)))
next_line ports done row flags line rest behind found all e reads h =
    h ∙ ap (λ ls. inputs_before done (inputs_from ports row flags ls)) e ∙ ap (λ g. inputs_before done g) (reads row (inputs_from ports (row + 1) flags (lines_of behind)))

module _ (ports : List (List ℕ)) (text : List ℕ) (done : List Input) (row : ℕ) (line rest behind : List ℕ) (found : Line) where
  pub bad_line : IsReadTo ports text done row rest → lines_of rest ≡ line ∷ lines_of behind → Reads ports line found → found ≡ Bad → (flags : Wire) → BadLine row ≡ inputs_from ports 2 flags (lines_of text)
  bad_line to e reads is flags =
      sym (next_line ports done row flags line rest behind found (inputs_from ports 2 flags (lines_of text)) e reads (to flags)
      ∙ ap (λ l. inputs_before done (line_given row l (inputs_from ports (row + 1) flags (lines_of behind)))) is ∙ before_bad done row)

  pub unknown_line : (port : Text) → IsReadTo ports text done row rest → lines_of rest ≡ line ∷ lines_of behind → Reads ports line found → found ≡ Unknown port → (flags : Wire) → UnknownPort row port ≡ inputs_from ports 2 flags (lines_of text)
  unknown_line port to e reads is flags =
      sym (next_line ports done row flags line rest behind found (inputs_from ports 2 flags (lines_of text)) e reads (to flags)
      ∙ ap (λ l. inputs_before done (line_given row l (inputs_from ports (row + 1) flags (lines_of behind)))) is ∙ before_unknown done row port)

  pub good_line : (input : input.Input) → IsReadTo ports text done row rest → lines_of rest ≡ line ∷ lines_of behind → Reads ports line found → found ≡ Good input → IsReadTo ports text (done ++ input_view input ∷ []) (row + 1) behind
  good_line input to e reads is flags =
      next_line ports done row flags line rest behind found (inputs_from ports 2 flags (lines_of text)) e reads (to flags)
      ∙ ap (λ l. inputs_before done (line_given row l (inputs_from ports (row + 1) flags (lines_of behind)))) is
      ∙ sym (before_push done (input_view input) (inputs_from ports (row + 1) flags (lines_of behind)))

pub no_line : (ports : List (List ℕ)) (text : List ℕ) (done : List Input) (row : ℕ) (rest : List ℕ) → IsReadTo ports text done row rest → lines_of rest ≡ [] → (flags : Wire) → Inputs flags done ≡ inputs_from ports 2 flags (lines_of text)
no_line ports text done row rest to e flags = sym (to flags ∙ ap (λ ls. inputs_before done (inputs_from ports row flags ls)) e ∙ before_end done flags)
