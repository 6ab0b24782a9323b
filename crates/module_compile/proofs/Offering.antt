-- The types of what modules offer, one module after the other.
use Rattle.std.proofs.Common.{◌≡◌, ℕ, zero, suc, List, [], ◌∷◌, Bool, true, false, Option, Some, refl, sym, ap, ◌∙◌}
use Rattle.std.proofs.Common.{drop}
use Rattle.std.proofs.Math.Path.{fun_ext}
use Rattle.std.specs.Prelude.{if◌then◌else◌, option_map, slice_get}
use Rattle.std.specs.Map.{lookup}
use Rattle.std.specs.Str.{bytes_eq}
use Rattle.std.specs.declared.alloc.Global.{Global}
use Rattle.std.specs.declared.sync.Arc.{Arc}
use Rattle.elm_canon.specs.Names.{Name, same_name}
use Rattle.elm_type.specs.Types.{Scheme}
use Rattle.canon_env.proofs.Adding.{same_name-sym, one_name}
use Rattle.interface.specs.Interface.{Interface}
use Rattle.interface.specs.View.{interface_view}
use Rattle.type_items.specs.Scopes.{Known}
use Rattle.infer.specs.Known.{offered}
use Rattle.infer.specs.Laws.{with_offered}
use Rattle.module_offers.specs.Offers.{Interfaces, type_in, known_by}
use Rattle.module_compile.specs.Parts.{interfaces_view}
use Rattle.module_compile.specs.ModulePhasesView.{around_view}
use Rattle.module_compile.specs.declared.imports.Imports.{Imports}
use Rattle.module_compile.specs.declared.offered.Offered.{Offered}
use Rattle.module_compile.proofs.Resolving.{view_interfaces}

abbrev pub Entry : Type 0
Entry = Name × Arc Offered Global

-- the interfaces of entries, the first of each name
abbrev pub entries_view : List Entry → Interfaces
entries_view es x = option_map (λ o. interface_view o.value.interface) (lookup (same_name x) es)

-- the entries from a place on
place_more : {X : Type 0} (xs : List X) (k : ℕ) (x : X) → slice_get xs k ≡ Some x → drop k xs ≡ x ∷ drop (suc k) xs
place_more [] k x e = absurd cc
place_more (y ∷ xs) zero x e =
    let same : y ≡ x = cc in
    ap (λ z. z ∷ xs) same
place_more (y ∷ xs) (suc k) x e = place_more xs k x e

one_more : (home m x : Name) (i : Interface) (before : Option Interface) (old : Option Scheme) (b : Bool)
    → same_name m home ≡ b → old ≡ type_in m before x
    → (if b then lookup (bytes_eq x) (offered home i) else old) ≡ type_in m (if b then Some i else before) x
one_more home m x i before old true e h =
    ap (λ n. lookup (bytes_eq x) (offered n i)) (sym (one_name m home e))
one_more home m x i before old false e h = h

if_entry : (b : Bool) (o : Arc Offered Global) (rest : Option (Arc Offered Global))
    → option_map (λ a. interface_view a.value.interface) (if b then Some o else rest)
    ≡ (if b then Some (interface_view o.value.interface) else option_map (λ a. interface_view a.value.interface) rest)
if_entry true o rest = refl
if_entry false o rest = refl

entry_more : (e : Entry) (es : List Entry) (old : Known)
    → ((m x : Name) → old m x ≡ known_by (entries_view es) m x) → (m x : Name)
    → with_offered e.0 (interface_view e.1.value.interface) old m x ≡ known_by (entries_view (e ∷ es)) m x
entry_more e es old h m x =
    ap (λ b. if b then lookup (bytes_eq x) (offered e.0 (interface_view e.1.value.interface)) else old m x)
    (same_name-sym e.0 m)
    ∙ one_more e.0 m x (interface_view e.1.value.interface) (entries_view es m) (old m x) (same_name m e.0) refl
    (h m x)
    ∙ ap (λ o. type_in m o x) (sym (if_entry (same_name m e.0) e.1 (lookup (same_name m) es)))

-- with the entry at a place
pub place_next : (es : List Entry) (k n : ℕ) (e : Entry) (old new : Known) → n ≡ suc k → slice_get es k ≡ Some e
    → ((m x : Name) → old m x ≡ known_by (entries_view (drop n es)) m x)
    → ((m x : Name) → new m x ≡ with_offered e.0 (interface_view e.1.value.interface) old m x) → (m x : Name)
    → new m x ≡ known_by (entries_view (drop k es)) m x
place_next es k n e old new next at h more m x =
    more m x ∙ entry_more e (drop n es) old h m x
    ∙ ap (λ l. known_by (entries_view l) m x)
    (ap (λ j. e ∷ drop j es) next ∙ sym (place_more es k e at))

-- with all entries
pub all_known : (i : Imports) (known : Known)
    → ((m x : Name) → known m x ≡ known_by (entries_view i.interfaces.entries) m x)
    → known ≡ known_by (around_view i).interfaces
unfolding interfaces_view
all_known i known h =
    fun_ext (λ m. fun_ext (λ x. h m x ∙ ap (λ is. known_by is m x) (sym (view_interfaces i))))
