-- What a file tells, by whether it is read.
use Rattle.std.proofs.Common.{◌≡◌, ℕ, ◌≤◌, eqb, List, [], ◌∷◌, length, Bool, true, false, Some, None, refl, sym, ap}
use Rattle.std.proofs.Common.{◌∙◌, arith}
use Rattle.std.specs.Prelude.{nat_le}
use Rattle.std.proofs.lemmas.Bool.{false≢true}
use Rattle.std.proofs.lemmas.Bool.Decides.{nat_tests}
use Rattle.std.proofs.lemmas.Str.{IsUtf8-from_is_utf8, is_utf8-from_IsUtf8}
use Rattle.std.specs.Str.{IsUtf8, is_utf8}
use Rattle.serde_json.specs.Data.{Data}
use Rattle.serde_json.specs.Read.{read}
use Rattle.serde_json.specs.View.{items_view}
use Rattle.serde_json.specs.declared.value.Value.{Value}
use Rattle.elm_base.specs.declared.fault.Code.{Code}
use Rattle.elm_base.specs.declared.fault.Code.TheVariants.{NotJson}
use Rattle.project_file.specs.declared.project.ProjectError.{ProjectError}
use Rattle.project_file.specs.declared.project.ProjectError.TheVariants.{NoMemory, Fault}
use Rattle.project_file.specs.View.{IfFault}
use Rattle.project_file.specs.Project.{fault, all_directories, are_directories, fault_in, told_unless, project_of}

fits : (bytes : List ℕ) → length bytes ≤ 1048576 → nat_le (length bytes) 1048576 ≡ true
fits bytes h = grind (arith, nat_tests)

pub told_read : (bytes : List ℕ) (d : Data) → length bytes ≤ 1048576 → IsUtf8 bytes → read bytes ≡ Some d →
    project_of bytes ≡ told_unless (fault_in d) d
told_read bytes d short text is = rw (fits bytes short, is_utf8-from_IsUtf8 bytes text, is) refl

refused : (bytes : List ℕ) (b : Bool) → is_utf8 bytes ≡ b → length bytes ≤ 1048576 → (IsUtf8 bytes → read bytes ≡ None) → project_of bytes ≡ fault NotJson
refused bytes true e short refuses = rw (fits bytes short, e, refuses (IsUtf8-from_is_utf8 bytes e)) refl
refused bytes false e short refuses = rw (fits bytes short, e) refl

pub told_refused : (bytes : List ℕ) → length bytes ≤ 1048576 → (IsUtf8 bytes → read bytes ≡ None) → project_of bytes ≡ fault NotJson
told_refused bytes short refuses = refused bytes (is_utf8 bytes) refl short refuses

pub IfFault-weaker : (e : ProjectError) (P Q : Code → Type 0) → ((code : Code) → P code → Q code) → IfFault e P → IfFault e Q
IfFault-weaker NoMemory P Q f h = tt
IfFault-weaker (Fault code) P Q f h = f code h

-- items of which some are there
pub some_items : (items : List Value) (n : ℕ) → n ≡ length items → eqb n 0 ≡ false → all_directories (items_view items) ≡ are_directories (Some (items_view items))
some_items [] n is e = absurd (false≢true (sym e ∙ ap (λ m. eqb m 0) is))
some_items (item ∷ items) n is e = refl
