-- The limits of a table.
use Rattle.std.specs.Prelude.{ℕ}

-- the most slots that a page may have
abbrev pub slots_most : ℕ
slots_most = 255

-- the most pages
abbrev pub pages_most : ℕ
pages_most = 65536

-- the most transactions that may be open at a time
abbrev pub open_most : ℕ
open_most = 64
