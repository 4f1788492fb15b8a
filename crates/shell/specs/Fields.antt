-- The words of a line.
use Rattle.std.specs.Prelude.{ℕ, ◌+◌, Bool, not, ◌||◌, Option, List, drop, eqb}
use Rattle.std.specs.List.{position, position_or_len}
use Rattle.std.specs.Option.{option_map}
use Rattle.shell.specs.declared.fields.Field.{Field}

-- a space, a tab or a carriage return
abbrev pub is_blank : ℕ → Bool
is_blank b = eqb b 32 || eqb b 9 || eqb b 13

-- the end of a line
abbrev pub is_line_end : ℕ → Bool
is_line_end b = eqb b 10

-- '#', with which a comment starts
abbrev pub starts_comment : ℕ → Bool
starts_comment b = eqb b 35

-- a word from `start` on
abbrev pub word_at : List ℕ → ℕ → Field
word_at line start = record { start = start; end = start + position_or_len is_blank (drop start line) }

-- the first word from `at` on: behind the blanks there
unfoldable pub field_at : List ℕ → ℕ → Option Field
field_at line at = option_map (λ n. word_at line (at + n)) (position (λ b. not (is_blank b)) (drop at line))
