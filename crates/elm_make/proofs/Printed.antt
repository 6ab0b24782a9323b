-- The lines that are printed: those of faults, one after another, and that of a text.
use Rattle.std.proofs.Common.{◌≡◌, ℕ, ◌+◌, ◌<◌, List, [], ◌++◌, length, take, get_or, sym, ap, ◌∙◌, append_assoc}
use Rattle.std.specs.Prelude.{codes, decimal}
use Rattle.std.proofs.lemmas.List.{take_more, flat_map_more}
use Rattle.elm_base.specs.Fault.{fault_line_of}
use Rattle.elm_base.specs.declared.fault.Fault.{Fault}
use Rattle.project_parts.specs.Outcomes.{fault_lines, compiled_line}

pub lines_more : (fs : List Fault) (i : ℕ) (d : Fault) → i < length fs
    → fault_lines (take i fs) ++ fault_line_of (get_or fs i d) ≡ fault_lines (take (i + 1) fs)
lines_more fs i d l =
    flat_map_more fault_line_of [] (take i fs) (get_or fs i d) ∙ ap fault_lines (sym (take_more fs i d l))

-- the parts of a line, as they are put
abbrev pub put_line : List ℕ → ℕ → List ℕ
put_line path n = codes "compiled to " ++ (path ++ (codes ", modules: " ++ (decimal n ++ codes "\n")))

pub line_put : (path : List ℕ) (n : ℕ) → put_line path n ≡ compiled_line path n
line_put path n =
    ap (λ x. codes "compiled to " ++ x) (
    sym (append_assoc path (codes ", modules: ") (decimal n ++ codes "\n"))
    ∙ sym (append_assoc (path ++ codes ", modules: ") (decimal n) (codes "\n"))
    )
