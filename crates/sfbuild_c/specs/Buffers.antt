-- Bytes that are handed out into a buffer of the caller's.
use Rattle.std.specs.Prelude.{◌≡◌, ◌⊎◌, ◌<◌, ◌≤◌, ℕ, List, ◌++◌, length, drop}

-- they stand at the front of the buffer, and the status is 0; or it is too small and stays as it was, and the status is 4. The length is told either way
abbrev pub HandsOut : List ℕ → List ℕ → ℕ → List ℕ → ℕ → Type 0
HandsOut bytes room status new_room told =
    (told ≡ length bytes)
    × (((status ≡ 0) × (length bytes ≤ length room) × (new_room ≡ bytes ++ drop (length bytes) room))
    ⊎ ((status ≡ 4) × (length room < length bytes) × (new_room ≡ room)))
