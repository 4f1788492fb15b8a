-- How long a store's six buffers are.
use Rattle.std.specs.Prelude.{ℕ, List, get_or}
use Rattle.shell.specs.declared.lengths.Lengths.{Lengths}

-- six numbers in the order of a start's line
abbrev pub lengths_of : List ℕ → Lengths
lengths_of numbers =
    record {
      records = get_or numbers 0 0;
      index = get_or numbers 1 0;
      opened = get_or numbers 2 0;
      held = get_or numbers 3 0;
      runs = get_or numbers 4 0;
      table = get_or numbers 5 0;
    }
