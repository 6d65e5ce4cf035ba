-- A text is put as its bytes, one for each character.
-- Assumes nothing.
use Rattle.std.specs.Prelude.{List, [] as []ᴸ, ◌∷◌ as ◌∷ᴸ◌, ℕ}
use Prim.Native.Char.{code}
use Prim.Native.String.{String, [], ◌∷◌}

unfoldable pub bytes : String → List ℕ
bytes [] = []ᴸ
bytes (c ∷ s) = code c ∷ᴸ bytes s
