-- The first word from a place on.
use Rattle.std.proofs.Common.{◌≡◌, ℕ, ◌+◌, ◌≤◌, ◌<◌, List, length, take, drop, ◌-◌, refl, sym, ap, ◌∙◌, arith}
use Rattle.std.specs.Prelude.{Option, Some, None, not}
use Rattle.std.specs.List.{position, position_or_len}
use Rattle.std.specs.List.{slice_range}
use Rattle.std.specs.Option.{unwrap_or}
use Rattle.shell.proofs.Laws.Positions.{or_length, rest_whole}
use Rattle.std.proofs.Math.ListN.{drop_of_length-le}
use Rattle.shell.specs.Fields.{is_blank, field_at}

module _ (line : List ℕ) (at : ℕ) where
  pub field_past : length line < at → None ≡ field_at line at
  unfolding field_at
  field_past h = let l : length line ≤ at = omega arith in rw (drop_of_length-le line l) refl

  module _ (rest : List ℕ) (p : rest ≡ slice_range line at (length line)) (r : Option ℕ) (q : r ≡ position (λ b. not (is_blank b)) rest) where
    starts : r ≡ position (λ b. not (is_blank b)) (drop at line)
    starts = q ∙ ap (position (λ b. not (is_blank b))) (p ∙ rest_whole line at)

    pub field_none : r ≡ None → None ≡ field_at line at
    unfolding field_at
    field_none e = rw (sym starts, e) refl

    pub field_found : (n : ℕ) → r ≡ Some n → (word : List ℕ) → word ≡ take (length line - (at + n)) (drop (at + n) line) → (e : Option ℕ) → e ≡ position is_blank word → (u : ℕ) → u ≡ unwrap_or e (length word) → Some (record { start = at + n; end = at + n + u }) ≡ field_at line at
    unfolding field_at
    field_found n f word w e g u h =
        let m : u ≡ position_or_len is_blank (drop (at + n) line) =
        h ∙ ap (λ o. unwrap_or o (length word)) g ∙ or_length is_blank word ∙ ap (position_or_len is_blank) (w ∙ rest_whole line (at + n)) in
        rw (sym starts, f, m) refl
