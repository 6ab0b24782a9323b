-- A world that holds together: Bool, Maybe, commands and subscriptions.
use Rattle.std.specs.Prelude.{ℕ, pos, List, [], ◌∷◌, Bool, true, false, ◌&&◌, Some, None, Option, codes}
use Rattle.std.specs.Prelude.{if◌then◌else◌}
use Rattle.std.specs.Str.{bytes_eq}
use Rattle.elm_canon.specs.Names.{Name}
use Rattle.elm_canon.specs.declared.unions.Tag.TheVariants.{Number, Truth}
use Rattle.elm_type.specs.Types.{ElmType, Leaf, Free, Scheme, variable, function, functions, named, any_kind, int_type}
use Rattle.elm_type.specs.Types.{string_type, list_type}
use Rattle.type_items.specs.Scopes.{Known}
use Rattle.typed_values.specs.Payloads.{cmd_type, sub_type}
use Rattle.typed_values.specs.Frames.{Frame, Stands}
use Rattle.typed_values.specs.World.{Constructor, World, IsSound, made_type}

abbrev pub truth_maker : Bool → Constructor
truth_maker b = record {
  alternative = record { name = if b then codes "True" else codes "False"; tag = Truth b; arity = 0 };
  fields = [];
  arguments = [];
}

abbrev pub just_maker : Constructor
just_maker = record {
  alternative = record { name = codes "Just"; tag = Number (pos 0); arity = 1 };
  fields = variable (Free 0) ∷ [];
  arguments = 0 ∷ [];
}

abbrev pub nothing_maker : Constructor
nothing_maker = record {
  alternative = record { name = codes "Nothing"; tag = Number (pos 1); arity = 0 };
  fields = [];
  arguments = 0 ∷ [];
}

-- a command of a port, with what no text can make
abbrev pub send_maker : Constructor
send_maker = record {
  alternative = record { name = codes "Send"; tag = Number (pos 0); arity = 2 };
  fields = string_type ∷ named (codes "Platform.Cmd") (codes "Payload") [] ∷ [];
  arguments = 0 ∷ [];
}

-- a subscription of a port, with its function
abbrev pub listen_maker : Constructor
listen_maker = record {
  alternative = record { name = codes "Listen"; tag = Number (pos 0); arity = 2 };
  fields =
      string_type
      ∷ function (named (codes "Platform.Sub") (codes "Payload") []) (variable (Free 0))
      ∷ [];
  arguments = 0 ∷ [];
}

abbrev pub batch_maker : ElmType (Leaf ℕ) → Constructor
batch_maker t = record {
  alternative = record { name = codes "Batch"; tag = Number (pos 1); arity = 1 };
  fields = list_type t ∷ [];
  arguments = 0 ∷ [];
}

abbrev pub sample_bools : Bool → List Constructor → List Constructor
sample_bools b others = if b then truth_maker false ∷ truth_maker true ∷ [] else others

abbrev pub sample_maybes : Bool → List Constructor → List Constructor
sample_maybes b others = if b then just_maker ∷ nothing_maker ∷ [] else others

abbrev pub sample_commands : Bool → List Constructor → List Constructor
sample_commands b others = if b then send_maker ∷ batch_maker (cmd_type (variable (Free 0))) ∷ [] else others

abbrev pub sample_subscriptions : Bool → List Constructor → List Constructor
sample_subscriptions b others = if b then listen_maker ∷ batch_maker (sub_type (variable (Free 0))) ∷ [] else others

abbrev pub is_at : Name → Name → Name → Name → Bool
is_at n y m x = bytes_eq m n && bytes_eq x y

abbrev pub sample_unions : (Name → Name → List Constructor) → Name → Name → List Constructor
sample_unions others m x =
    sample_bools (is_at (codes "Basics") (codes "Bool") m x)
    (sample_maybes (is_at (codes "Maybe") (codes "Maybe") m x)
    (sample_commands (is_at (codes "Platform.Cmd") (codes "Cmd") m x)
    (sample_subscriptions (is_at (codes "Platform.Sub") (codes "Sub") m x) (others m x))))

-- the type of a constructor, as it is known
abbrev pub maker_scheme : Name → Name → Constructor → Scheme
maker_scheme m x c = record { type = functions c.fields (made_type m x c); kinds = any_kind ∷ [] }

abbrev pub either : Name → Name → Scheme → Name → Scheme → Option Scheme
either x one s other t = if bytes_eq x one then Some s else (if bytes_eq x other then Some t else None)

abbrev pub known_bool : Name → Option Scheme
known_bool x =
    either x (codes "True") (maker_scheme (codes "Basics") (codes "Bool") (truth_maker true)) (codes "False")
    (maker_scheme (codes "Basics") (codes "Bool") (truth_maker false))

abbrev pub known_maybe : Name → Option Scheme
known_maybe x =
    either x (codes "Just") (maker_scheme (codes "Maybe") (codes "Maybe") just_maker) (codes "Nothing")
    (maker_scheme (codes "Maybe") (codes "Maybe") nothing_maker)

abbrev pub known_command : Name → Option Scheme
known_command x =
    either x (codes "Send") (maker_scheme (codes "Platform.Cmd") (codes "Cmd") send_maker) (codes "Batch")
    (maker_scheme (codes "Platform.Cmd") (codes "Cmd") (batch_maker (cmd_type (variable (Free 0)))))

abbrev pub known_subscription : Name → Option Scheme
known_subscription x =
    either x (codes "Listen") (maker_scheme (codes "Platform.Sub") (codes "Sub") listen_maker) (codes "Batch")
    (maker_scheme (codes "Platform.Sub") (codes "Sub") (batch_maker (sub_type (variable (Free 0)))))

abbrev pub sample_known : Known → Known
sample_known others m x =
    if bytes_eq m (codes "Basics") then known_bool x
    else (if bytes_eq m (codes "Maybe") then known_maybe x
    else (if bytes_eq m (codes "Platform.Cmd") then known_command x
    else (if bytes_eq m (codes "Platform.Sub") then known_subscription x else others m x)))

-- without other unions and without ports
abbrev pub sample : World
sample = record {
  known = λ scope. sample_known (λ m x. None);
  unions = sample_unions (λ m x. []);
  outs = λ port. None;
  ins = λ port. None;
}

-- there is a world of which the laws speak
abbrev pub SampleIsSound : Type 0
SampleIsSound = IsSound sample

-- constants stand for themselves
abbrev pub sample_frame : Frame
sample_frame = record { values = λ p. int_type; stands = λ r. variable r }

-- and there is a frame
abbrev pub SampleStands : Type 0
SampleStands = Stands sample_frame
