-- What the payload of a set gives.
use Rattle.std.specs.Prelude.{ℕ, Bool, false, ◌||◌, List, [], ◌∷◌, leb, ltb, length}
use Rattle.base.specs.Tests.{◌when◌else◌}
use Rattle.base.specs.Answers.{Answer, refused, done}
use Rattle.base.specs.Parts.{over}
use Rattle.codec.specs.Sets.{Regime, empty, sparse, bitmap, dense, Decoded, set, no_set}
use Rattle.codec.specs.Records.{same}
use Rattle.codec.specs.declared.sets.Kind.{Kind}
use Rattle.codec.specs.declared.sets.Kind.TheVariants.{Empty, Sparse, Bitmap, Dense}

-- whether one of the ids behind x is not above the one before it
unfoldable pub has_fall : ℕ → List ℕ → Bool
has_fall x [] = false
has_fall x (y ∷ ys) = leb y x || has_fall y ys

abbrev pub regime_of : Kind → Regime
regime_of Empty = empty
regime_of Sparse = sparse
regime_of Bitmap = bitmap
regime_of Dense = dense

abbrev pub set_ids : Decoded → List ℕ
set_ids (set xs) = xs
set_ids no_set = []

-- whether a payload's set is this one
abbrev pub gives_set : Decoded → List ℕ → Bool
gives_set (set js) ids = same js ids
gives_set no_set ids = false

-- a payload's set to the front of a buffer: how many ids it has
unfoldable pub put_set : Decoded → List ℕ → Answer × List ℕ
-- 5, payload of no set
put_set no_set out = (refused 5, out)
put_set (set ids) out =
    -- 3, output too short
    (refused 3, out) when ltb (length out) (length ids) else
    (done (length ids ∷ []), over ids out)
