-- Line numbers, as the work on the chains writes them. Assumes nothing.
use Rattle.std.specs.Prelude.{List, ℕ, ◌<◌, length, get_or}
use Rattle.chains.specs.Chains.{number_limit}

abbrev pub Numbers : List ℕ → Type 0
Numbers list = (i : ℕ) → i < length list → get_or list i 0 < number_limit
