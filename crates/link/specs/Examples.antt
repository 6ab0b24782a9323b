-- Small links, worked out.
use Rattle.std.specs.Prelude.{◌≡◌, ℕ, List, [], ◌∷◌, false, true, Option, Some, None, codes}
use Rattle.elm_base.specs.declared.position.Pos.{Pos}
use Rattle.elm_base.specs.declared.fault.Code.TheVariants.{MainType, MainFlags, PortClash}
use Rattle.elm_canon.specs.declared.reference.Ref.TheVariants.{Top}
use Rattle.elm_type.specs.Text.{utf8}
use Rattle.link.specs.Names.{TopName}
use Rattle.link.specs.Fragments.{Piece, Says, IsProgram, HasFlags, Main}
use Rattle.link.specs.Link.{Part, Links, Unlinked, link, fault_at}

abbrev pub at : ℕ → Pos
at r = record { row = r; column = 1 }

abbrev pub name : List ℕ → List ℕ → TopName
name m x = (m, x)

abbrev pub piece : List ℕ → List ℕ → ℕ → List TopName → Piece
piece m x line uses =
    record { is_core = false; names = name m x ∷ []; lines = line ∷ []; uses = uses; port = None }

abbrev pub core : List ℕ → List ℕ → ℕ → Piece
core m x line = record { is_core = true; names = name m x ∷ []; lines = line ∷ []; uses = []; port = None }

abbrev pub port : List ℕ → List ℕ → ℕ → ℕ → Piece
port m x line r = record {
  is_core = false;
  names = name m x ∷ [];
  lines = line ∷ [];
  uses = [];
  port = Some (record { name = x; place = at r; decoder = None });
}

abbrev pub part : List ℕ → List Piece → Option Main → Part
part m pieces main = record { name = m; path = m; fragment = record { pieces = pieces; main = main } }

abbrev pub A : List ℕ
A = codes "A"

abbrev pub B : List ℕ
B = codes "B"

-- A has the port out, f, which uses g, g, which stands for a function of the fixed text, and h, which uses f
abbrev pub a_part : Part
a_part = part A (core A (codes "g") 3 ∷ port A (codes "out") 1 5 ∷ piece A (codes "f") 2 (name A (codes "g") ∷ [])
    ∷ piece A (codes "h") 4 (name A (codes "f") ∷ []) ∷ []) None

-- B has the port out
abbrev pub b_part : Part
b_part = part B (port B (codes "out") 7 6 ∷ []) None

-- Main has a `main` of those uses
abbrev pub main_part : List TopName → Says → Part
main_part uses says =
    part (codes "Main") (piece (codes "Main") (codes "main") 8 uses ∷ []) (Some (record { place = at 9; says = says }))

-- what `main` reaches, in order; the name of the core comes first
abbrev pub Reached : Type 0
Reached =
    let entry = main_part (name A (codes "f") ∷ name A (codes "out") ∷ name A (codes "none") ∷ []) (IsProgram (codes
    "d")) in
    link (a_part ∷ entry ∷ []) 1 ≡ Links (record {
      main = Top (codes "Main") (codes "main");
      flags = codes "d";
      lines = (3 ∷ []) ∷ (1 ∷ []) ∷ (2 ∷ []) ∷ (8 ∷ []) ∷ [];
      ins = [];
      outs = codes "out" ∷ [];
    })

-- flags that may not cross, and two ports of one name
abbrev pub Clash : Type 0
Clash =
    let entry = main_part (name B (codes "out") ∷ name A (codes "out") ∷ []) (HasFlags (codes "a -> b")) in
    link (a_part ∷ b_part ∷ entry ∷ []) 2
    ≡ Unlinked (fault_at MainFlags (codes "Main") (at 9) (codes "a -> b") ∷ fault_at PortClash B (at 6) (utf8 (codes
    "out")) ∷ [])

-- the port of B is not reached
abbrev pub One_port : Type 0
One_port =
    let entry = main_part (name A (codes "out") ∷ []) (HasFlags (codes "a")) in
    link (a_part ∷ b_part ∷ entry ∷ []) 2 ≡ Unlinked (fault_at MainFlags (codes "Main") (at 9) (codes "a") ∷ [])

abbrev pub No_main : Type 0
No_main = link (a_part ∷ []) 0 ≡ Unlinked (fault_at MainType A (at 1) (codes "missing") ∷ [])
