-- The words that are commands.
use Rattle.std.specs.Prelude.{ℕ, Bool, List, [], ◌∷◌, codes, Option, nat_eq}
use Rattle.std.specs.Cmp.Lexicographic.{pointwise}
use Rattle.std.specs.List.{find}
use Rattle.std.specs.Option.{option_map}
use Rattle.shell.specs.declared.commands.Command.{Command}
use Rattle.shell.specs.declared.commands.Command.TheVariants.{Start, Add, Join, Close, Show, Records, Index, Unitigs, State, Encode, Decode, Help}

-- two texts are the same
abbrev pub same : List ℕ → List ℕ → Bool
same = pointwise nat_eq

abbrev pub names : List (List ℕ × Command)
names =
    (codes "start", Start) ∷
    (codes "add", Add) ∷
    (codes "join", Join) ∷
    (codes "close", Close) ∷
    (codes "show", Show) ∷
    (codes "records", Records) ∷
    (codes "index", Index) ∷
    (codes "unitigs", Unitigs) ∷
    (codes "state", State) ∷
    (codes "encode", Encode) ∷
    (codes "decode", Decode) ∷
    (codes "help", Help) ∷
    []

-- the command that a word names
unfoldable pub command_of : List ℕ → Option Command
command_of w = option_map (λ p. p.1) (find (λ p. same w p.0) names)
